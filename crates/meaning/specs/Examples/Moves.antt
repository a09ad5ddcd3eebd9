-- Worked examples of moving, beside those of Moved: each sort of word, and what a source may be cut behind.
use Rattle.std.specs.Prelude.{ℕ, ◌*◌, refl, List, [], ◌∷◌, map, eqb}
use Rattle.meaning.specs.Choice.{pick}
use Rattle.meaning.specs.Quoted.{bytes}
use Rattle.meaning.specs.Rules.{Rule}
use Rattle.meaning.specs.Tables.{Table, number}
use Rattle.meaning.specs.Walk.{kinds}
use Rattle.meaning.specs.Moving.{Move, offset, line, column, name, first, condition, moved_word, members, breaks, declares, KeywordLine, little, big}
use Rattle.meaning.specs.Examples.{Hold, ◌is◌, ◌are◌}
use Rattle.meaning.specs.Examples.Choices.{bit}

-- offsets by 100, lines by 10, columns of line 4 by 3, indices by 1000 times their table's number
abbrev move : Move
move = record { bytes = 100; lines = 10; loses = λ l. pick (eqb l 4) 3 0; before = λ t. 1000 * number t }

-- a row whose word 1 is 4, and whose word 2 is 0
abbrev row : List ℕ
row = 7 ∷ 4 ∷ 0 ∷ []

pub words : Hold (
    (moved_word move row offset 5 is 105)
    ∷ (moved_word move row offset 0 is 100)
    ∷ (moved_word move row line 5 is 15)
    ∷ (moved_word move row (column 1) 5 is 2)
    ∷ (moved_word move row (column 0) 5 is 5)
    ∷ (moved_word move row name 5 is 105)
    ∷ (moved_word move row name 0 is 0)
    ∷ (moved_word move row (first Table.tags 1) 5 is 3005)
    ∷ (moved_word move row (first Table.tags 1) 0 is 3000)
    ∷ (moved_word move row (first Table.tags 2) 0 is 0)
    ∷ (moved_word move row (first Table.tags 2) 5 is 5)
    ∷ (moved_word move row condition 5 is 4005)
    ∷ (moved_word move row condition 0 is 0)
    ∷ (number (members 0) is 2) ∷ (number (members 1) is 3) ∷ (number (members 2) is 2)
    ∷ (breaks [] is 0) ∷ (breaks (9 ∷ 10 ∷ 11 ∷ 13 ∷ 10 ∷ []) is 2)
    ∷ [])
unfolding breaks
words = refl

-- all kinds of declarations end there, a test too; the keyword line and the end do not
pub cuts : Hold (
    (map (λ r. bit (declares r)) (Rule.test_declaration ∷ kinds) are 1 ∷ 1 ∷ 1 ∷ 1 ∷ 1 ∷ 1 ∷ 1 ∷ [])
    ∷ (map (λ r. bit (declares r)) (Rule.endianness_declaration ∷ Rule.EOI ∷ Rule.COMMENT ∷ []) are 0 ∷ 0 ∷ 0 ∷ [])
    ∷ [])
cuts = refl

pub keyword_lines : KeywordLine (bytes "little_endian_packets\n") × KeywordLine (bytes "big_endian_packets\n")
keyword_lines = (little, big)
