-- What the code finds at an offset: a comment or none, a string or one byte, a kind, and the last end of a block comment.
use Prim.Native.Nat.{ℕ, zero, suc, ◌+◌, ◌-◌, ◌≤◌, ◌<◌}
use native.Mathlib.Omega.{arith}
use native.Mathlib.Numerals.{add-one}
use mathlib.Core.Path.{◌≡◌, refl, ap, subst, sym, ◌∙◌}
use mathlib.Core.List.{List, [], ◌∷◌}
use mathlib.Core.Bool.{Bool, true, false}
use lib.ListN.{length, get_or, take, drop, length-drop}
use lib.Seq.{drop-drop, drop-cons}
use lib.Dec.{eqb}
use borrow.Author.Tests.{ne_eqb, eqb-true, eqb-false}
use Rattle.std.specs.Prelude.{Option, Some, None, not, cond, ◌==◌, position}
use Rattle.std.specs.List.{position_or_len, starts_with}
use Rattle.std.proofs.lemmas.Grind.{common_steps}
use Rattle.meaning.specs.declared.Match.{Match}
use Rattle.meaning.specs.declared.Match.TheVariants.{Missed, Took}
use Rattle.meaning.specs.Choice.{both}
use Rattle.meaning.specs.Quoted.{bytes}
use Rattle.meaning.specs.Peg.{Peg, lit, any_byte, neg, seq, star, prefixb, run, bytewise, hit, taken}
use Rattle.meaning.specs.Pdl.{block_comment, line_comment, COMMENT, string}
use Rattle.grammar.specs.Matching.{Reads, eats}
use Rattle.grammar.specs.Stars.{hit_pos}
use Rattle.grammar.specs.Picks.{pick_false}
use Rattle.grammar.specs.Hits.{taken_missed, hit_behind, hit_lit, taken_alt}
use Rattle.grammar.specs.Fits.{within_taken}
use Rattle.grammar.specs.Steps.{at as part, rest_is}
use Rattle.lexis.specs.Classes.{suc_if, span, span_le, Runs}
use Rattle.lexis.specs.Skips.{no_comment, eats_comment}
use Rattle.text.specs.ChoiceLaws.{both_false, both_yes}
use Rattle.comments.specs.LexLaws.{string_eats, plain_byte}
use Rattle.comments.specs.Steps.{Closed, Comment, CommentAt, length_of, Past, stride, opens, kind_of}
use Rattle.comments.specs.declared.CommentKind.TheVariants.{Block, Line}

-- ---- what the code finds
pub at_byte : (s : List ℕ) (i : ℕ) → i < length s → drop i s ≡ get_or s i 0 ∷ drop (i + 1) s
at_byte s i h = rw (add-one i) (drop-cons s i 0 h)

-- ---- where nothing closes a block comment there is none
closer : (t : List ℕ) → hit (run (bytewise block_comment) t) ≡ true → (m : ℕ) × (prefixb (bytes "*/") (drop m t) ≡ true)
unfolding block_comment run
closer t h = (taken (run body t), sym (hit_lit (42 ∷ 47 ∷ []) (drop (taken (run body t)) t)) ∙ hit_behind (run body t) (λ u. run (lit (42 ∷ 47 ∷ [])) u) t h)
  where
    body : Peg
    body = seq (lit (47 ∷ 42 ∷ [])) (star (seq (neg (lit (42 ∷ 47 ∷ []))) any_byte))

unclosed : (s : List ℕ) (i e : ℕ) → Closed s e → e ≤ i → hit (run (bytewise block_comment) (drop i s)) ≡ false
unclosed s i e c h = go (hit (run (bytewise block_comment) (drop i s))) refl
  where
    go : (b : Bool) → hit (run (bytewise block_comment) (drop i s)) ≡ b → hit (run (bytewise block_comment) (drop i s)) ≡ false
    go true q =
        let m = closer (drop i s) q in
        let z : true ≡ false = sym m.1 ∙ ap (prefixb (bytes "*/")) (drop-drop m.0 i s) ∙ c.none (i + m.0) (omega arith) in
        cc
    go false q = q

line_only : (t : List ℕ) → hit (run (bytewise block_comment) t) ≡ false → taken (run (bytewise COMMENT) t) ≡ taken (run (bytewise line_comment) t)
unfolding COMMENT run
line_only t h = taken_alt (bytewise block_comment) (bytewise line_comment) t ∙ pick_false _ _ _ h

eats_line : eats (bytewise line_comment) ≡ true
unfolding line_comment
eats_line = refl

-- a match that takes a byte, where it is one
some_taken : {s : List ℕ} {i : ℕ} (m : Match) → Comment s i (taken m) → (hit m ≡ true → 0 < taken m) → CommentAt s i (length_of m)
some_taken (Missed f) c h = c
some_taken (Took n f) c h = (c, h refl)

module _ (s : List ℕ) (i : ℕ) (l : i < length s) where
  some_read : (g : Peg) → eats (bytewise g) ≡ true → {m : Match} → Reads g (drop i s) m → hit m ≡ true → 0 < taken m
  some_read g e k h = omega (arith, hit_pos (bytewise g) (drop i s) e (sym (ap hit k.is) ∙ h), ap taken k.is)

  pub comment_none : (get_or s i 0 ≡ 47 → ⊥) → CommentAt s i None
  comment_none h =
      record {
        is =
            rw (at_byte s i l)
            (sym (taken_missed (run (bytewise COMMENT) (get_or s i 0 ∷ drop (i + 1) s))
            (no_comment (get_or s i 0) (drop (i + 1) s) (ne_eqb 47 (get_or s i 0) (λ e. h (sym e))))));
        fits = omega arith;
      }

  -- nothing closes a block comment here
  pub comment_line : (e : ℕ) (m : Match) → Closed s e → e ≤ i → Reads line_comment (take (length s - i) (drop i s)) m → {r : Option ℕ} → r ≡ length_of m
      → CommentAt s i r
  comment_line e m c q h d =
      let k = part i s h in
      subst (CommentAt s i) (sym d)
      (some_taken m
      (record {
        is = ap taken k.is ∙ sym (line_only (drop i s) (unclosed s i e c q));
        fits = omega (arith, within_taken m (drop i s) k.fits, length-drop i s);
      })
      (some_read line_comment eats_line k))

  pub comment_is : (m : Match) → Reads COMMENT (take (length s - i) (drop i s)) m → {r : Option ℕ} → r ≡ length_of m → CommentAt s i r
  comment_is m h d =
      let k = part i s h in
      subst (CommentAt s i) (sym d)
      (some_taken m (record { is = ap taken k.is; fits = omega (arith, within_taken m (drop i s) k.fits, length-drop i s) })
      (some_read COMMENT eats_comment k))

  pub past_string : {m : Match} → Reads string (take (length s - i) (drop i s)) m → {n f : ℕ} → m ≡ Took n f → Past s i n
  past_string {m} h {n} e =
      let k = part i s h in
      let z : n ≡ taken (run (bytewise string) (drop i s)) = sym (ap taken e) ∙ ap taken k.is in
      let p : 0 < n = omega (arith, some_read string string_eats k (ap hit e), ap taken e) in
      record {
        is = whole n p ∙ ap stride z;
        fits = omega (arith, within_taken m (drop i s) k.fits, length-drop i s, ap taken e);
        on = p;
      }
    where
      whole : (j : ℕ) → 0 < j → j ≡ stride j
      whole zero q = absurd (omega arith)
      whole (suc j) q = refl

-- ---- how far no byte opens a comment or a string
opens_is : (x : ℕ) → not (opens x) ≡ plain_byte x
opens_is x = go (eqb x 47) refl (eqb x 34) refl
  where
    go : (a : Bool) → eqb x 47 ≡ a → (b : Bool) → eqb x 34 ≡ b → not (opens x) ≡ plain_byte x
    go true e b d = let z : x ≡ 47 = eqb-true x 47 e in rw z refl
    go false e true d = let z : x ≡ 34 = eqb-true x 34 d in rw z refl
    go false e false d = let p = eqb-false x 47 e in let q = eqb-false x 34 d in
        rw (ne_eqb 47 x (λ y. p (sym y)), ne_eqb 34 x (λ y. q (sym y)), e, d) refl

span_is : (t : List ℕ) → span plain_byte t ≡ position_or_len opens t
unfolding span
span_is [] = refl
span_is (x ∷ t) = go (not (opens x)) (opens_is x) (span_is t)
  where
    go : (b : Bool) → b ≡ plain_byte x → span plain_byte t ≡ position_or_len opens t
        → suc_if (plain_byte x) (span plain_byte t) ≡ cond b (1 + position_or_len opens t) 0
    go true e h = rw (← e, h) (omega arith)
    go false e h = rw (← e) refl

pub plain_up : (t : List ℕ) {k : ℕ} → position opens t ≡ Some k → Runs plain_byte t k × (k < length t)
plain_up t {k} e =
    let at : position_or_len opens t ≡ k = grind (arith, common_steps) in
    let inside : k < length t = grind (arith, common_steps) in
    (record { is = sym (span_is t ∙ at); fits = omega (arith, inside) }, inside)

pub plain_all : (t : List ℕ) → position opens t ≡ None → Runs plain_byte t (length t)
plain_all t e =
    let past : length t ≤ position_or_len opens t = grind (arith, common_steps) in
    record { is = omega (arith, span_is t, span_le plain_byte t, past); fits = omega arith }

-- ---- a comment's kind
starts_is : (t : List ℕ) → starts_with ◌==◌ t (47 ∷ 42 ∷ []) ≡ prefixb (bytes "/*") t
starts_is [] = refl
starts_is (x ∷ []) = refl
starts_is (x ∷ (y ∷ t)) = refl

module _ (s : List ℕ) (i : ℕ) {b : Bool} (e : b ≡ starts_with ◌==◌ (take (length s - i) (drop i s)) (47 ∷ 42 ∷ [])) where
  started : b ≡ prefixb (bytes "/*") (drop i s)
  started = e ∙ starts_is (take (length s - i) (drop i s)) ∙ ap (prefixb (bytes "/*")) (rest_is i s)

  pub kind_block : b ≡ true → Block ≡ kind_of s i
  unfolding kind_of
  kind_block h = rw (sym started ∙ h) refl

  pub kind_line : b ≡ false → Line ≡ kind_of s i
  unfolding kind_of
  kind_line h = rw (sym started ∙ h) refl

-- ---- from the end back to the last text that closes a block comment: none starts at i - 1 or behind it
pub record Back (s : List ℕ) (i : ℕ) : Type 0 where
  pub within : i ≤ length s
  pub none : (j : ℕ) → i ≤ j + 1 → prefixb (bytes "*/") (drop j s) ≡ false

short : (t : List ℕ) → length t ≤ 1 → prefixb (bytes "*/") t ≡ false
short [] h = refl
short (x ∷ []) h = both_false (eqb 42 x)
short (x ∷ (y ∷ t)) h = absurd (omega arith)

two : (s : List ℕ) (j : ℕ) → j + 1 < length s → prefixb (bytes "*/") (drop j s) ≡ both (eqb 42 (get_or s j 0)) (eqb 47 (get_or s (j + 1) 0))
two s j h =
    let e : drop j s ≡ get_or s j 0 ∷ (get_or s (j + 1) 0 ∷ drop (j + 1 + 1) s)
    = at_byte s j (omega arith) ∙ ap (λ (u : List ℕ). get_or s j 0 ∷ u) (at_byte s (j + 1) h) in
    rw e (ap (both (eqb 42 (get_or s j 0))) (both_yes (eqb 47 (get_or s (j + 1) 0))))

pub back_start : (s : List ℕ) → Back s (length s)
back_start s = record { within = omega arith; none = λ j h. short (drop j s) (omega (arith, length-drop j s)) }

pub back_more : {s : List ℕ} {i : ℕ} → Back s i → 1 < i → (get_or s (i - 1 - 1) 0 ≡ 42 → get_or s (i - 1) 0 ≡ 47 → ⊥) → Back s (i - 1)
back_more {s} {i} w l other = record { within = omega (arith, w.within); none = λ j h. go j h (eqb (j + 2) i) refl }
  where
    apart : (x y : ℕ) → (x ≡ 42 → y ≡ 47 → ⊥) → both (eqb 42 x) (eqb 47 y) ≡ false
    apart x y n = by (eqb 42 x) refl (eqb 47 y) refl
      where
        by : (a : Bool) → eqb 42 x ≡ a → (b : Bool) → eqb 47 y ≡ b → both (eqb 42 x) (eqb 47 y) ≡ false
        by false e b d = rw e refl
        by true e false d = rw (e, d) refl
        by true e true d = absurd (n (sym (eqb-true 42 x e)) (sym (eqb-true 47 y d)))

    go : (j : ℕ) → i - 1 ≤ j + 1 → (d : Bool) → eqb (j + 2) i ≡ d → prefixb (bytes "*/") (drop j s) ≡ false
    go j h true d =
        let f : j + 2 ≡ i = eqb-true (j + 2) i d in
        let g : i - 1 - 1 ≡ j = omega arith in
        let k : i - 1 ≡ j + 1 = omega arith in
        two s j (omega (arith, w.within)) ∙ rw (g, k) at (apart (get_or s (i - 1 - 1) 0) (get_or s (i - 1) 0) other)
    go j h false d = let f : j + 2 ≡ i → ⊥ = eqb-false (j + 2) i d in w.none j (omega arith)

pub back_found : {s : List ℕ} {i : ℕ} → Back s i → 1 < i → Closed s (i - 1)
back_found w l = record { none = λ j h. w.none j (omega arith) }

pub back_end : {s : List ℕ} {i : ℕ} → Back s i → i ≤ 1 → Closed s 0
back_end w l = record { none = λ j h. w.none j (omega arith) }
