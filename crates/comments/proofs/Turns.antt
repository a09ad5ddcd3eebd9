-- The loop, turn by turn: what the walk has done, and what is left of the pass.
use Prim.Native.Nat.{ℕ, zero, suc, ◌+◌, ◌-◌, ◌≤◌, ◌<◌}
use native.Mathlib.Omega.{arith}
use mathlib.Core.Path.{◌≡◌, refl, ap, subst, sym, ◌∙◌}
use mathlib.Core.List.{List, [], ◌++◌, append-nil, append_assoc}
use mathlib.Core.Bool.{Bool, true, false}
use lib.ListN.{length, get_or, take, drop, length-drop}
use lib.Seq.{drop-drop}
use Rattle.std.specs.Prelude.{Some, None, position}
use Rattle.meaning.specs.declared.Match.{Match}
use Rattle.meaning.specs.declared.Match.TheVariants.{Missed, Took}
use Rattle.meaning.specs.Peg.{Peg, run, bytewise, hit, taken}
use Rattle.meaning.specs.Pdl.{COMMENT, string}
use Rattle.meaning.specs.Tables.{Item, Lent}
use Rattle.meaning.specs.Walk.{comment_row}
use Rattle.grammar.specs.Matching.{eats}
use Rattle.grammar.specs.Stars.{hit_pos}
use Rattle.grammar.specs.Steps.{rest_is}
use Rattle.lexis.specs.Classes.{span, Runs}
use Rattle.lexis.specs.Skips.{eats_comment}
use Rattle.walk.specs.declared.Door.{Door}
use Rattle.walk.specs.declared.Walk.{Walk}
use Rattle.walk.specs.State.{fresh, Wrote, At, Goes}
use Rattle.walk.specs.Steps.{wrote_as, goes_none, goes_then, goes_on}
use Rattle.walk.specs.Totals.{fresh_at}
use Rattle.comments.specs.Lex.{lex, lexical}
use Rattle.comments.specs.LexLaws.{lex_none, lex_on, lex_comment, lex_string, lex_run, plain_byte, string_eats}
use Rattle.comments.specs.Steps.{Comment, CommentAt, GoesComment, Past, stride, opens}
use Rattle.comments.proofs.Findings.{at_byte, plain_up, plain_all}

-- ---- the pass from an offset on
taken_hit : (g : Peg) (t : List ℕ) → eats g ≡ true → taken (run g t) ≡ 0 → hit (run g t) ≡ false
taken_hit g t e h = go (hit (run g t)) refl
  where
    go : (b : Bool) → hit (run g t) ≡ b → hit (run g t) ≡ false
    go true q = let p = hit_pos g t e q in absurd (omega arith)
    go false q = q

hit_taken : (m : Match) → (taken m ≡ 0 → ⊥) → hit m ≡ true
hit_taken (Missed f) h = absurd (h refl)
hit_taken (Took n f) h = refl

abbrev onward : List ℕ → ℕ → List Item
onward s i = lex s 0 i (drop i s)

module _ (s : List ℕ) (i : ℕ) where
  onward_past : {n m : ℕ} → i < length s → Comment s i n → n ≡ 0 → Past s i m → onward s i ≡ onward s (i + m)
  onward_past {n} {m} l c z p = go (taken (run (bytewise string) (drop i s))) refl
    where
      go : (k : ℕ) → taken (run (bytewise string) (drop i s)) ≡ k → onward s i ≡ onward s (i + m)
      go zero e =
          let d = at_byte s i l in
          let a : m ≡ 1 = p.is ∙ ap stride e in
          let x = taken_hit (bytewise COMMENT) (drop i s) eats_comment (sym c.is ∙ z) in
          let y = taken_hit (bytewise string) (drop i s) string_eats e in
          rw (a, d) (lex_on s i (get_or s i 0) (drop (i + 1) s) (rw (← d) x) (rw (← d) y))
      go (suc k) e =
          let a : m ≡ taken (run (bytewise string) (drop i s)) = p.is ∙ ap stride e ∙ sym e in
          let h = hit_taken (run (bytewise string) (drop i s)) (λ q. omega arith) in
          rw (← a, drop-drop) at (lex_string s i (drop i s) h)

  onward_comment : {n : ℕ} → Comment s i n → (n ≡ 0 → ⊥) → onward s i ≡ comment_row s i n ++ onward s (i + n)
  onward_comment {n} c z =
      let h = hit_taken (run (bytewise COMMENT) (drop i s)) (λ q. z (c.is ∙ q)) in
      rw (← c.is, drop-drop) at (lex_comment s i (drop i s) h)

  onward_plain : {n : ℕ} → Runs plain_byte (take (length s - i) (drop i s)) n → onward s i ≡ onward s (i + n)
  onward_plain {n} h =
      let e : span plain_byte (drop i s) ≡ n = sym (h.is ∙ ap (span plain_byte) (rest_is i s)) in
      lex_run s i (drop i s) ∙ rw (e, drop-drop)

  onward_end : length s ≤ i → onward s i ≡ []
  onward_end h = lex_none s 0 i (drop i s) (omega (arith, length-drop i s))

-- ---- the loop: what the walk has done where it has come to i, and what is left of the pass
pub record Turning (src : List ℕ) (n : Walk) (a : Lent → Lent) (i : ℕ) (m : Walk) (b : Lent → Lent) : Type 0 where
  pub so_far : List Item
  pub goes : Goes so_far src i n m a b
  pub left : lexical src ≡ so_far ++ onward src i

pub turn_start : (src : List ℕ) {n : Walk} {d : Door} (a : Lent → Lent) → n ≡ fresh d → Turning src n a 0 n a
turn_start src {n} {d} a e = record { so_far = []; goes = goes_none a (subst (At src 0) (sym e) (fresh_at d src 0 (omega arith))); left = refl }

module _ {src : List ℕ} {n : Walk} {a : Lent → Lent} {i : ℕ} {m : Walk} {b : Lent → Lent} (w : Turning src n a i m b) where
  left_as : {ys : List Item} → onward src i ≡ ys → lexical src ≡ w.so_far ++ ys
  left_as e = w.left ∙ ap (λ (xs : List Item). w.so_far ++ xs) e

  rest_long : i + length (take (length src - i) (drop i src)) ≡ length src
  rest_long = omega (arith, ap length (rest_is i src), length-drop i src, w.goes.at.within)

  -- no comment up to j
  turn_on : {j : ℕ} → i ≤ j → j ≤ length src → onward src i ≡ onward src j → Turning src n a j m b
  turn_on e h o = record { so_far = w.so_far; goes = goes_on e h w.goes; left = left_as o }

  turn_plain : {l : ℕ} → Runs plain_byte (take (length src - i) (drop i src)) l → Turning src n a (i + l) m b
  turn_plain {l} h =
      let e : l ≤ length (drop i src) = subst (λ (u : List ℕ). l ≤ length u) (rest_is i src) h.fits in
      turn_on (omega arith) (omega (arith, w.goes.at.within, length-drop i src)) (onward_plain src i h)

  -- up to the next byte that may start a comment or a string
  pub turn_up : {k : ℕ} → position opens (take (length src - i) (drop i src)) ≡ Some k → Turning src n a (i + k) m b
  turn_up e = turn_plain (plain_up (take (length src - i) (drop i src)) e).0

  pub up_in : {k : ℕ} → position opens (take (length src - i) (drop i src)) ≡ Some k → i + k < length src
  up_in e = omega (arith, (plain_up (take (length src - i) (drop i src)) e).1, rest_long)

  pub turn_past : {k : ℕ} → i < length src → CommentAt src i None → Past src i k → Turning src n a (i + k) m b
  turn_past h c p = turn_on (omega arith) p.fits (onward_past src i h c refl p)

  pub turn_comment : {l : ℕ} {r : Walk} {d : Lent → Lent} → CommentAt src i (Some l) → GoesComment src i l m r b d → Turning src n a (i + l) r d
  turn_comment c g =
      record {
        so_far = w.so_far ++ comment_row src i _;
        goes = goes_then w.goes g;
        left = left_as (onward_comment src i c.0 (λ z. absurd (omega (arith, c.1, z)))) ∙ sym (append_assoc w.so_far (comment_row src i _) _);
      }

  -- no such byte is left
  pub turn_end : {d : Door} → n ≡ fresh d → position opens (take (length src - i) (drop i src)) ≡ None → Wrote (lexical src) (fresh d) m a b
  turn_end e h =
      let p = onward_plain src i (plain_all (take (length src - i) (drop i src)) h) in
      let q : length src ≤ i + length (take (length src - i) (drop i src)) = omega (arith, rest_long) in
      subst (λ (z : Walk). Wrote (lexical src) z m a b) e
      (wrote_as (sym (left_as (p ∙ onward_end src _ q) ∙ append-nil w.so_far)) w.goes.wrote)
