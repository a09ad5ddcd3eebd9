-- No two outcomes satisfy what a reading promises, nor what its checks do before any writing.
use Rattle.std.specs.Prelude.{ℕ, ◌≡◌, refl, List, Result, Ok, Err, eqb}
use Rattle.std.proofs.Common.{ap, sym, ◌∙◌}
use Rattle.meaning.specs.Choice.{pick}
use Rattle.meaning.specs.Tables.{Lent}
use Rattle.meaning.specs.Reading.{Answer, Outcome}
use Rattle.reading.specs.declared.Reading.{Reading}
use Rattle.meaning.specs.declared.ConversionError.TheVariants.{Empty, BadDigit, TooLarge}
use Rattle.reading.specs.declared.refusals.Refusal.{Refusal}
use Rattle.reading.specs.declared.refusals.Refusal.TheVariants.{TooLong, NotUtf8, NoMatch, NotConverted, TooFewRows}
use Rattle.reading.specs.Refusals.{refusal_of, refusal_back}
use Rattle.reading.specs.Outcomes.{lending, answering, outcome}
use Rattle.reading.specs.Surveys.{Survey, survey, Surveyed}
use Rattle.meaning.specs.Reading as meaning

-- what was read, from the meaning's answer
abbrev answered : Answer → Result Reading Refusal
answered a =
    pick (eqb a.number 0) (Ok (record { counts = a.counts; endianness = a.endianness })) (Err (refusal_of a.number a.place a.reason))

answered_back : (r : Result Reading Refusal) → answered (answering r) ≡ r
answered_back (Ok r) = refl
answered_back (Err (TooLong p)) = refl
answered_back (Err (NotUtf8 p)) = refl
answered_back (Err (NoMatch p)) = refl
answered_back (Err (NotConverted p Empty)) = refl
answered_back (Err (NotConverted p BadDigit)) = refl
answered_back (Err (NotConverted p TooLarge)) = refl
answered_back (Err (TooFewRows t n)) = ap (λ (e : Refusal). Err e) (refusal_back (TooFewRows t n))

-- `read`
pub read_settled : {r s : Result Reading Refusal} {d d' f f' t t' c c' m m' : List ℕ} {z : Outcome} → outcome r d f t c m ≡ z → outcome s d' f' t' c' m' ≡ z
    → (r ≡ s) × (lending d f t c m ≡ lending d' f' t' c' m')
read_settled {r} {s} x y =
    (sym (answered_back r) ∙ ap (λ (o : Outcome). answered o.answer) (x ∙ sym y) ∙ answered_back s, ap (λ (o : Outcome). o.left) (x ∙ sym y))

-- the rows needed, or the refusal, from what the checks say
abbrev found : Survey → Result (List ℕ) Refusal
found x = pick (eqb x.number 0) (Ok x.counts) (Err (refusal_of x.number x.place x.reason))

found_back : (x : Result (List ℕ) Refusal) → found (survey x) ≡ x
found_back (Ok k) = refl
found_back (Err (TooLong p)) = refl
found_back (Err (NotUtf8 p)) = refl
found_back (Err (NoMatch p)) = refl
found_back (Err (NotConverted p Empty)) = refl
found_back (Err (NotConverted p BadDigit)) = refl
found_back (Err (NotConverted p TooLarge)) = refl
found_back (Err (TooFewRows t n)) = ap (λ (e : Refusal). Err e) (refusal_back (TooFewRows t n))

-- its checks
pub surveyed_settled : {y : meaning.Reading} {x z : Result (List ℕ) Refusal} {a b c : Lent} → Surveyed y x a b → Surveyed y z a c → (x ≡ z) × (b ≡ c)
surveyed_settled {x = x} {z = z} p q = (sym (found_back x) ∙ ap found (p.is ∙ sym q.is) ∙ found_back z, p.same ∙ sym q.same)
