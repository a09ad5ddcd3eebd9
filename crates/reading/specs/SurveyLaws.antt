-- The checks 1 to 4 in their order, one law for each answer.
use Rattle.std.specs.Prelude.{ℕ, ◌≤◌, ◌<◌, ◌≡◌, List, [], ◌∷◌, Bool, length, Option, None, Some, Result, Ok, Err}
use Rattle.std.proofs.Common.{arith, sym, ◌∙◌}
use Rattle.std.proofs.Math.Path.{refl, ap}
use Rattle.std.proofs.Math.Bool.{true, false}
use borrow.Author.Tests.{lt-ltb, le-ltb, eq-eqb, ne_eqb}
use Rattle.std.proofs.Math.Dec.{ltb, eqb}
use Rattle.meaning.specs.Utf8.{valid}
use Rattle.meaning.specs.Peg.{run, bytewise, hit}
use Rattle.meaning.specs.Forest.{Out, missed, took, outcome, eval, forest, clean}
use Rattle.meaning.specs.Pdl.{file}
use Rattle.meaning.specs.Tables.{Table, Bad, first_bad, Lent}
use Rattle.meaning.specs.Rules.{Rule}
use Rattle.meaning.specs.Walk.{part, items}
use Rattle.meaning.specs.Reading.{refused, longest, unmatched, walked, parsed, reading}
use Rattle.grammar.specs.Agree.{same}
use Rattle.grammar.specs.Bytewise.{file_joined}
use Rattle.text.specs.Utf8Laws.{valid_fits}
use Rattle.walk.specs.declared.Door.TheVariants.{Count}
use Rattle.walk.specs.declared.Walk.{Walk}
use Rattle.meaning.specs.declared.ConversionError.{ConversionError}
use Rattle.meaning.specs.declared.ConversionError.TheVariants.{Empty, BadDigit, TooLarge}
use Rattle.meaning.specs.Convert.{reason_of}
use Rattle.walk.specs.State.{counted, error_at, bad_of, fresh, left, lend, Wrote}
use Rattle.walk.specs.Lending.{four}
use Rattle.declarations.specs.declared.files.FileMatch.{FileMatch}
use Rattle.declarations.specs.Files.{Files, placed_unmatched}
use Rattle.comments.specs.Lex.{lexical, comment_count}
use Rattle.reading.specs.declared.refusals.Refusal.{Refusal}
use Rattle.reading.specs.declared.refusals.Refusal.TheVariants.{TooLong, NotUtf8, NoMatch, NotConverted}
use Rattle.walk.specs.Totals.{Tabled}
use Rattle.declaration_rows.specs.Sorts.{reason_at, error_back}
use Rattle.reading.specs.Sorts.{told_toplevel}
use Rattle.reading.specs.Sources.{Matched, whole, declared, declared_rows, declared_bad, lexed_rows}
use Rattle.reading.specs.Surveys.{survey, surveyed, Surveyed}
use Rattle.reading.specs.Outcomes.{lending}

-- ---- a match by bytes is one by characters
pub hit_out : (src : List ℕ) → valid src ≡ length src → hit (outcome (eval file 0 src)) ≡ hit (run (bytewise file) src)
hit_out src v = ap (λ (x : Out). hit (outcome x)) (sym (file_joined 0 src v)) ∙ ap hit (same (bytewise file) 0 src)

parsed_miss : (src : List ℕ) (x : Out) → hit (outcome x) ≡ false → parsed src x ≡ refused 3 (unmatched src) 0
parsed_miss src (missed f) e = refl
parsed_miss src (took n f w) e = cc

pub parsed_hit : (src : List ℕ) (x : Out) → hit (outcome x) ≡ true → parsed src x ≡ walked src (forest x)
parsed_hit src (missed f) e = cc
parsed_hit src (took n f w) e = refl

-- ---- check by check
untouched : (src : List ℕ) {x : Result (List ℕ) Refusal} {a : Lent} → survey x ≡ surveyed (reading src) → Surveyed (reading src) x a a
untouched src e = record { is = e; same = refl }

module _ (src : List ℕ) {most : ℕ} (e : most ≡ 1048576) where
  pub too_long : {a : Lent} → most < length src → Surveyed (reading src) (Err (TooLong most)) a a
  unfolding reading
  too_long h =
      untouched src (let g : ltb longest (length src) ≡ true = lt-ltb longest (length src) (omega arith) in rw g
      (ap (λ (n : ℕ). surveyed (refused 1 n 0)) e))

  module _ (h : length src ≤ most) {n : ℕ} (v : n ≡ valid src) where
    pub invalid : {a : Lent} → n < length src → Surveyed (reading src) (Err (NotUtf8 n)) a a
    unfolding reading
    invalid k =
        untouched src
        (let g : ltb longest (length src) ≡ false = le-ltb longest (length src) (omega arith) in
        let b : ltb (valid src) (length src) ≡ true = lt-ltb (valid src) (length src) (omega arith) in
        rw (g, b) (ap (λ (n : ℕ). surveyed (refused 2 n 0)) v))

    module _ (k : length src ≤ n) where
      all_valid : valid src ≡ length src
      all_valid = omega (arith, valid_fits src)

      reading_is : reading src ≡ parsed src (eval file 0 src)
      unfolding reading
      reading_is =
          let g : ltb longest (length src) ≡ false = le-ltb longest (length src) (omega arith) in
          let b : ltb (valid src) (length src) ≡ false = le-ltb (valid src) (length src) (omega arith) in
          rw (g, b)

      module _ {f : FileMatch} (m : Files src f) {t : Bool} (q : t ≡ hit f.at) where
        hit_is : hit (outcome (eval file 0 src)) ≡ t
        hit_is = hit_out src all_valid ∙ ap hit (sym m.reads.is) ∙ sym q

        pub no_match : {a : Lent} → t ≡ false → Surveyed (reading src) (Err (NoMatch f.place)) a a
        no_match j =
            untouched src (ap (λ (n : ℕ). surveyed (refused 3 n 0)) (m.place ∙ placed_unmatched src all_valid)
            ∙ ap surveyed (sym (reading_is ∙ parsed_miss src (eval file 0 src) (hit_is ∙ j))))

        pub matched : t ≡ true → Matched src
        matched j = record { valid = all_valid; hits = ap hit (sym m.reads.is) ∙ sym q ∙ j }

        pub walk_on : {x : Result (List ℕ) Refusal} {a b : Lent} → t ≡ true → Surveyed (walked src (whole src)) x a b → Surveyed (reading src) x a b
        walk_on j i = record { is = i.is ∙ ap surveyed (sym (reading_is ∙ parsed_hit src (eval file 0 src) (hit_is ∙ j))); same = i.same }

-- ---- check 4, and the rows
-- tables that have the same words are the same
five : {a b c d e a' b' c' d' e' : List ℕ} → a ≡ a' → b ≡ b' → c ≡ c' → d ≡ d' → e ≡ e' → lending a b c d e ≡ lending a' b' c' d' e'
five p q r s t = cc

-- an error has a number
error_numbered : (e : ConversionError) → reason_of (Err e) ≡ 0 → ⊥
error_numbered Empty h = omega arith
error_numbered BadDigit h = omega arith
error_numbered TooLarge h = omega arith

-- a has the words before the walk over the declarations, b those behind it
module _ (src : List ℕ) (a b : Lent) {n : Walk} (e : Tabled (declared src) Count n (four a.w1 a.w2 a.w3 a.w4) (four b.w1 b.w2 b.w3 b.w4))
    (q : b.w5 ≡ a.w5) where
  abbrev first : Bad
  first = first_bad (items src (whole src))

  bad_is : bad_of n ≡ first
  bad_is = e.bad ∙ sym (declared_bad src)

  -- the state's reason is one of the converter's, since that of each item is
  error_known : reason_at (error_at first.reason) ≡ first.reason
  error_known =
      rw (declared_bad src) (error_back (told_toplevel src (part Rule.file (clean (whole src))).kids []))

  told : (x : Option ConversionError) → error_at n.bad.reason ≡ x → ◌≡◌ {A = Bad} (record { place = n.bad.place; reason = reason_at x }) first
  told x h =
      ap (λ (y : Option ConversionError). record { place = n.bad.place; reason = reason_at y }) (sym h)
      ∙ ap (λ (b : Bad). record { place = b.place; reason = reason_at (error_at b.reason) }) bad_is
      ∙ ap (λ (r : ℕ). record { place = first.place; reason = r }) error_known

  tables_same : b ≡ a
  unfolding left
  tables_same = five (e.words a Table.declarations) (e.words a Table.fields) (e.words a Table.tags) (e.words a Table.constraints) q

  pub bad_integer : {x : ConversionError} → error_at n.bad.reason ≡ Some x → Surveyed (walked src (whole src)) (Err (NotConverted n.bad.place x)) a b
  unfolding walked
  bad_integer {x} h =
      let z : eqb first.reason 0 ≡ false = ne_eqb _ _ (λ z. error_numbered x (ap (λ (y : Bad). y.reason) (told (Some x) h) ∙ z)) in
      record { is = rw (z, sym (told (Some x) h)); same = tables_same }

  -- o is the walk over the comments; p, r, s, t and k are the counts that the code has taken of both
  module _ (m : List ℕ) {o : Walk} (w : Wrote (lexical src) (fresh Count) o (lend Table.comments b.w5) (lend Table.comments m)) where
    comments_same : m ≡ b.w5
    unfolding left
    comments_same = w.words a Table.comments

    comments_are : counted Table.comments o ≡ comment_count src
    comments_are = omega (arith, w.counts Table.comments)

    pub rows_needed : {p r s t k : ℕ} → Matched src → error_at n.bad.reason ≡ None → p ≡ counted Table.declarations n → r ≡ counted Table.fields n
        → s ≡ counted Table.tags n → t ≡ counted Table.constraints n → k ≡ counted Table.comments o
        → Surveyed (walked src (whole src)) (Ok (p ∷ r ∷ s ∷ t ∷ k ∷ [])) a (lending b.w1 b.w2 b.w3 b.w4 m)
    unfolding walked
    rows_needed g h ep er es et ek =
        let z : eqb first.reason 0 ≡ true = eq-eqb _ _ (ap (λ (y : Bad). y.reason) (sym (told None h))) in
        record {
          is =
              rw (
                z,
                ek ∙ comments_are,
                ep ∙ e.counts Table.declarations,
                er ∙ e.counts Table.fields,
                es ∙ e.counts Table.tags,
                et ∙ e.counts Table.constraints,
                declared_rows Table.declarations src refl,
                declared_rows Table.fields src refl,
                declared_rows Table.tags src refl,
                declared_rows Table.constraints src refl,
                lexed_rows g,
              );
          same = ap (lending b.w1 b.w2 b.w3 b.w4) comments_same ∙ tables_same;
        }
