-- `wide` meets its contract: the first byte settles the form of the table.
use Rattle.std.proofs.Common.{refl, arith}
use Rattle.text.proofs.Utf8Turns.{character_formed, character_between}
use Rattle.text.proofs.wide.Goals as goal

pub returns-in-194-to-223 : goal.returns-in-194-to-223
returns-in-194-to-223 c =
    character_formed _ _ 1 _ _ _ refl refl (omega arith) (omega arith) (omega arith) _ c.followed-in-194-to-223.ensures

pub returns-in-224 : goal.returns-in-224
returns-in-224 c =
    character_formed _ _ 2 _ _ _ refl refl (omega arith) (omega arith) (omega arith) _ c.followed.ensures

pub returns-in-225-to-236 : goal.returns-in-225-to-236
returns-in-225-to-236 c =
    character_formed _ _ 3 _ _ _ refl refl (omega arith) (omega arith) (omega arith) _ c.followed-in-225-to-236.ensures

pub returns-in-237 : goal.returns-in-237
returns-in-237 c =
    character_formed _ _ 4 _ _ _ refl refl (omega arith) (omega arith) (omega arith) _ c.followed-in-237.ensures

pub returns-in-238-to-239 : goal.returns-in-238-to-239
returns-in-238-to-239 c =
    character_formed _ _ 5 _ _ _ refl refl (omega arith) (omega arith) (omega arith) _ c.followed-in-238-to-239.ensures

pub returns-in-240 : goal.returns-in-240
returns-in-240 c =
    character_formed _ _ 6 _ _ _ refl refl (omega arith) (omega arith) (omega arith) _ c.followed-in-240.ensures

pub returns-in-241-to-243 : goal.returns-in-241-to-243
returns-in-241-to-243 c =
    character_formed _ _ 7 _ _ _ refl refl (omega arith) (omega arith) (omega arith) _ c.followed-in-241-to-243.ensures

pub returns-in-244 : goal.returns-in-244
returns-in-244 c =
    character_formed _ _ 8 _ _ _ refl refl (omega arith) (omega arith) (omega arith) _ c.followed-in-244.ensures

pub returns-in_default : goal.returns-in_default
returns-in_default c = character_between _ _ 1 0xC2 refl (omega arith) (omega arith)

pub returns-in_default-2 : goal.returns-in_default-2
returns-in_default-2 c = character_between _ _ 9 256 refl (omega arith) (omega arith)
