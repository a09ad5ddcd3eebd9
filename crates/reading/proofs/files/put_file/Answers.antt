use Rattle.reading.specs.Walks.{walk_ready, walked_file}
use Rattle.reading.proofs.files.put_file.Goals as goal

pub put_declarations-requires : goal.put_declarations-requires
put_declarations-requires c = walk_ready c.requires c.line_of-line.ensures c.new.ensures

pub returns-clause-tabled : goal.returns-clause-tabled
returns-clause-tabled c = walked_file c.requires c.line_of-line.ensures c.new.ensures c.put_declarations.ensures
