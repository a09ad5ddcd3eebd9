-- What a refusal is told by: its number, its place and its reason. These three settle it. The meaning's tables by the code's.
use Rattle.std.specs.Prelude.{ℕ, ◌≡◌, refl, eqb, Err}
use Rattle.std.proofs.Common.{arith}
use Rattle.meaning.specs.declared.ConversionError.TheVariants.{Empty, BadDigit, TooLarge}
use Rattle.meaning.specs.Convert as converter
use Rattle.meaning.specs.Choice.{pick}
use Rattle.meaning.specs.declared.ConversionError.{ConversionError}
use Rattle.meaning.specs.Tables.{number}
use Rattle.ast.specs.declared.tables.Table.{Table}
use Rattle.ast.specs.declared.tables.Table.TheVariants.{Declarations, Fields, Tags, Constraints, Comments}
use Rattle.ast.specs.Tables.{meant}
use Rattle.reading.specs.declared.refusals.Refusal.{Refusal}
use Rattle.reading.specs.declared.refusals.Refusal.TheVariants.{TooLong, NotUtf8, NoMatch, NotConverted, TooFewRows}

-- ---- the tables
-- the table of a number from 1 to 5
abbrev pub numbered_table : ℕ → Table
numbered_table n = pick (eqb n 1) Declarations (pick (eqb n 2) Fields (pick (eqb n 3) Tags (pick (eqb n 4) Constraints Comments)))

-- ---- the words of a refusal
abbrev pub number_of : Refusal → ℕ
number_of (TooLong p) = 1
number_of (NotUtf8 p) = 2
number_of (NoMatch p) = 3
number_of (NotConverted p e) = 4
number_of (TooFewRows t n) = 5

abbrev pub place_of : Refusal → ℕ
place_of (TooLong p) = p
place_of (NotUtf8 p) = p
place_of (NoMatch p) = p
place_of (NotConverted p e) = p
place_of (TooFewRows t n) = number (meant t)

abbrev pub reason_of : Refusal → ℕ
reason_of (TooLong p) = 0
reason_of (NotUtf8 p) = 0
reason_of (NoMatch p) = 0
reason_of (NotConverted p e) = converter.reason_of (Err e)
reason_of (TooFewRows t n) = n

-- ---- 0 is the number of none
pub numbered : (e : Refusal) → number_of e ≡ 0 → ⊥
numbered (TooLong p) h = omega arith
numbered (NotUtf8 p) h = omega arith
numbered (NoMatch p) h = omega arith
numbered (NotConverted p e) h = omega arith
numbered (TooFewRows t n) h = omega arith

-- ---- the error from its reason
abbrev error_of : ℕ → ConversionError
error_of n = pick (eqb n 1) Empty (pick (eqb n 2) BadDigit TooLarge)

-- ---- the refusal from its number, its place and its reason
abbrev pub refusal_of : ℕ → ℕ → ℕ → Refusal
refusal_of n p r =
    pick (eqb n 1) (TooLong p) (pick (eqb n 2) (NotUtf8 p) (pick (eqb n 3) (NoMatch p)
    (pick (eqb n 4) (NotConverted p (error_of r)) (TooFewRows (numbered_table p) r))))

pub refusal_back : (e : Refusal) → refusal_of (number_of e) (place_of e) (reason_of e) ≡ e
refusal_back (TooLong p) = refl
refusal_back (NotUtf8 p) = refl
refusal_back (NoMatch p) = refl
refusal_back (NotConverted p Empty) = refl
refusal_back (NotConverted p BadDigit) = refl
refusal_back (NotConverted p TooLarge) = refl
refusal_back (TooFewRows Declarations n) = refl
refusal_back (TooFewRows Fields n) = refl
refusal_back (TooFewRows Tags n) = refl
refusal_back (TooFewRows Constraints n) = refl
refusal_back (TooFewRows Comments n) = refl
