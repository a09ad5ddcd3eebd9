-- A source that the checks 1 to 4 let pass, and its reading.
use Rattle.std.specs.Prelude.{ℕ, ◌≤◌, ◌≡◌, List, Bool, true, false, length, ltb, eqb}
use Rattle.std.proofs.Common.{arith, ap, sym, ◌∙◌}
use Rattle.std.proofs.Math.Path.{refl}
use borrow.Author.Tests.{le-ltb, eq-eqb, ltb-false, eqb-true}
use Rattle.meaning.specs.Choice.{pick}
use Rattle.meaning.specs.Utf8.{valid}
use Rattle.meaning.specs.Peg.{run, hit}
use Rattle.meaning.specs.Forest.{Out, missed, took, outcome, eval, forest}
use Rattle.meaning.specs.Pdl.{file}
use Rattle.meaning.specs.Tables.{Item, first_bad}
use Rattle.meaning.specs.Walk.{items, endianness}
use Rattle.meaning.specs.Reading.{refused, accepted, longest, walked, parsed, reading}
use Rattle.grammar.specs.Agree.{same}
use Rattle.text.specs.Utf8Laws.{valid_fits}
use Rattle.reading.specs.Sources.{Matched, whole}
use Rattle.reading.specs.Surveys.{surveyed}
use Rattle.reading.specs.SurveyLaws.{hit_out, parsed_hit}

pub record Accepts (src : List ℕ) : Type 0 where
  pub within : length src ≤ longest
  pub valid : valid src ≡ length src
  pub hits : hit (run file src) ≡ true
  pub converts : (first_bad (items src (whole src))).reason ≡ 0

pub matched : {src : List ℕ} → Accepts src → Matched src
matched {src} h = record { valid = h.valid; hits = sym (hit_out src h.valid) ∙ ap hit (same file 0 src) ∙ h.hits }

pub reads : {src : List ℕ} → Accepts src → reading src ≡ accepted (endianness src (whole src)) (items src (whole src))
unfolding reading walked
reads {src} h =
    let a : ltb longest (length src) ≡ false = le-ltb longest (length src) h.within in
    let b : ltb (valid src) (length src) ≡ false = le-ltb (valid src) (length src) (omega (arith, h.valid)) in
    let i : eqb (first_bad (items src (whole src))).reason 0 ≡ true = eq-eqb (first_bad (items src (whole src))).reason 0 h.converts in
    rw (a, b, parsed_hit src (eval file 0 src) (ap hit (same file 0 src) ∙ h.hits), i)

-- ---- what passed them
module _ (src : List ℕ) where
  good_integers : (b : Bool) (e : List ℕ) (xs : List Item) (p r : ℕ) → (surveyed (pick b (accepted e xs) (refused 4 p r))).number ≡ 0 → b ≡ true
  good_integers true e xs p r h = refl
  good_integers false e xs p r h = absurd (omega arith)

  good_match : (x : Out) → (surveyed (parsed src x)).number ≡ 0 → (hit (outcome x) ≡ true) × ((first_bad (items src (forest x))).reason ≡ 0)
  unfolding walked
  good_match (missed f) h = absurd (omega arith)
  good_match (took n f w) h =
      let r = (first_bad (items src w)).reason in
      (refl, eqb-true r 0 (good_integers (eqb r 0) (endianness src w) (items src w) (first_bad (items src w)).place r h))

  good_source : (a b : Bool) → ltb longest (length src) ≡ a → ltb (valid src) (length src) ≡ b
      → (surveyed (pick a (refused 1 longest 0) (pick b (refused 2 (valid src) 0) (parsed src (eval file 0 src))))).number ≡ 0 → Accepts src
  good_source true b d e h = absurd (omega arith)
  good_source false true d e h = absurd (omega arith)
  good_source false false d e h =
      let m = good_match (eval file 0 src) h in
      record {
        within = ltb-false longest (length src) d;
        valid = omega (arith, ltb-false (valid src) (length src) e, valid_fits src);
        hits = ap hit (sym (same file 0 src)) ∙ m.0;
        converts = m.1;
      }

  pub accepts : (surveyed (reading src)).number ≡ 0 → Accepts src
  unfolding reading
  accepts h = good_source (ltb longest (length src)) (ltb (valid src) (length src)) refl refl h
