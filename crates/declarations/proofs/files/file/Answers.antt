use Rattle.std.proofs.Common.{◌∙◌}
use Rattle.meaning.specs.Rules.{Rule}
use Rattle.meaning.specs.Pdl.{file, file_start, file_line, file_head}
use Rattle.grammar.specs.Steps.{chain, link, reads_rule}
use Rattle.declarations.specs.Files.{begun, place_is}
use Rattle.declarations.proofs.files.file.Goals as goal

pub returns : goal.returns
unfolding file file_start file_line file_head
returns c = let line = chain begun (link c.then_blanks-start.ensures c.then_endianness_declaration-line.ensures) in
    let all = chain line (link c.then_blanks.ensures c.then_declarations.ensures) in
    record {
      reads = reads_rule Rule.file (chain all (link c.then_blanks-head.ensures c.then_end.ensures));
      place =
          place_is (chain begun c.then_blanks-start.ensures) line (chain all c.then_blanks-head.ensures)
          (c.kept.ensures ∙ rw (c.taken.ensures, c.taken-2.ensures));
    }
