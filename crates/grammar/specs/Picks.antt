-- A choice by a test that is known, and two tests that both hold.
use Rattle.std.specs.Prelude.{◌≡◌, refl, Bool, true, false}
use Rattle.meaning.specs.Choice.{pick, both}

pub pick_true : {A : Type 0} (b : Bool) (v w : A) → b ≡ true → pick b v w ≡ v
pick_true true v w e = refl
pick_true false v w e = cc

pub pick_false : {A : Type 0} (b : Bool) (v w : A) → b ≡ false → pick b v w ≡ w
pick_false true v w e = cc
pick_false false v w e = refl

-- the same test, told otherwise, and what it picks where it holds
pub pick_same : {A : Type 0} (b c : Bool) (v w z : A) → b ≡ c → (c ≡ true → v ≡ w) → pick b v z ≡ pick c w z
pick_same b true v w z e h = rw e (h refl)
pick_same b false v w z e h = rw e

pub both_1 : (a b : Bool) → both a b ≡ true → a ≡ true
both_1 true b e = refl
both_1 false b e = e

pub both_2 : (a b : Bool) → both a b ≡ true → b ≡ true
both_2 true b e = e
both_2 false b e = cc
