-- `declaration` meets its contract: each number's rule is what its matcher reads.
use Rattle.front.proofs.MatchLaws.{beyond, numbered}
use Rattle.std.proofs.Common.{arith}
use Rattle.front.proofs.matching.declaration.Goals as goal

pub returns-in-50 : goal.returns-in-50
returns-in-50 c = numbered 50 c.in-50.is c.packet_declaration.ensures

pub returns-in-51 : goal.returns-in-51
returns-in-51 c = numbered 51 c.in-51.is c.struct_declaration.ensures

pub returns-in-52 : goal.returns-in-52
returns-in-52 c = numbered 52 c.in-52.is c.group_declaration.ensures

pub returns-in-53 : goal.returns-in-53
returns-in-53 c = numbered 53 c.in-53.is c.checksum_declaration.ensures

pub returns-in-54 : goal.returns-in-54
returns-in-54 c = numbered 54 c.in-54.is c.custom_field_declaration.ensures

pub returns-in-55 : goal.returns-in-55
returns-in-55 c = numbered 55 c.in-55.is c.test_case.ensures

pub returns-in-56 : goal.returns-in-56
returns-in-56 c = numbered 56 c.in-56.is c.test_case_list.ensures

pub returns-in-57 : goal.returns-in-57
returns-in-57 c = numbered 57 c.in-57.is c.test_declaration.ensures

pub returns-in-58 : goal.returns-in-58
returns-in-58 c = numbered 58 c.in-58.is c.declaration.ensures

pub returns-in-59 : goal.returns-in-59
returns-in-59 c = numbered 59 c.in-59.is c.file.ensures.reads

pub returns-in_default : goal.returns-in_default
returns-in_default c = beyond _ _ (omega (arith, c.requires))
