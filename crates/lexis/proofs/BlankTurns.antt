-- The walk over a blank run: spaces, then again and again a comment and the spaces behind it.
use Rattle.std.specs.Prelude.{ℕ, suc, ◌+◌, ◌-◌, ◌≤◌, ◌<◌, max, ◌≡◌, refl, List, Bool, true, false, length, take, drop, get_or, eqb}
use Rattle.std.proofs.Common.{arith, ap, ap₂, subst, sym, ◌∙◌, length-drop, drop-drop, drop-cons, drop_of_length-le}
use borrow.Author.Tests.{ne_eqb, eqb-false}
use Rattle.meaning.specs.Choice.{either}
use Rattle.meaning.specs.declared.Match.{Match}
use Rattle.meaning.specs.declared.Match.TheVariants.{Missed, Took}
use Rattle.meaning.specs.Peg.{Peg, seq, star, lift, join, after, hushed, again, run, bytewise, hit}
use Rattle.meaning.specs.Pdl.{WHITESPACE, block_comment, line_comment, COMMENT, skip}
use Rattle.grammar.specs.Matching.{Reads, eats}
use Rattle.grammar.specs.Hits.{no_miss}
use Rattle.grammar.specs.Fits.{join_join}
use Rattle.grammar.specs.Stars.{Pos, eats_pos, unroll}
use Rattle.grammar.specs.Steps.{at, rest_is, took_le}
use Rattle.lexis.specs.declared.bytes.Class.TheVariants.{Space}
use Rattle.lexis.specs.Classes.{classed, spaceb, span, span_le, span_stop, span_end, Runs, star_one}
use Rattle.lexis.specs.Skips.{Skips, no_comment, none_commented, eats_comment}

-- a comment and the spaces behind it
abbrev spaced : Peg
spaced = seq (bytewise COMMENT) (star (bytewise WHITESPACE))

eats_spaced : eats spaced ≡ true
unfolding COMMENT block_comment line_comment
eats_spaced = refl

abbrev spaces : List ℕ → ℕ
spaces = span (classed Space)

abbrev then_spaces : Match → List ℕ → Match
then_spaces m t = after m (λ u. run (star (bytewise WHITESPACE)) u) t

abbrev then_again : Match → List ℕ → Match
then_again m t = again m (λ u. run (star spaced) u) t

-- no mark is left
hush_join : (n f : ℕ) (m : Match) → hushed (join n f m) ≡ hushed (join n 0 m)
hush_join n f (Missed g) = refl
hush_join n f (Took k g) = refl

hush_ahead : (n f k g : ℕ) (m : Match) → hushed (join n f (join k g m)) ≡ hushed (join (n + k) 0 m)
hush_ahead n f k g m = ap hushed (join_join n f k g m) ∙ hush_join (n + k) (max f (lift n g)) m

-- the walk over t has come to n: a comment may follow there
pub record CommentNext (t : List ℕ) (n : ℕ) : Type 0 where
  pub fits : n ≤ length t
  pub left : run (bytewise skip) t ≡ hushed (join n 0 (run (star spaced) (drop n t)))

-- spaces may follow there, and then a comment
pub record SpacesNext (t : List ℕ) (n : ℕ) : Type 0 where
  pub fits : n ≤ length t
  pub behind : CommentNext t (n + spaces (drop n t))

pub walk_start : {t : List ℕ} → SpacesNext t 0
unfolding run skip
walk_start {t} =
    record {
      fits = omega arith;
      behind =
          let z : 0 + spaces t ≡ spaces t = omega arith in
          record {
            fits = omega (arith, span_le (classed Space) t);
            left =
                ap (λ (m : Match). hushed (after m (λ u. run (star spaced) u) t)) (star_one Space t)
                ∙ hush_join (spaces t) (suc (spaces t)) (run (star spaced) (drop (spaces t) t)) ∙ rw z;
          };
    }

-- k spaces follow
pub walk_spaces : {t : List ℕ} {n k : ℕ} → SpacesNext t n → Runs (classed Space) (take (length t - n) (drop n t)) k → CommentNext t (n + k)
walk_spaces {t} {n} {k} w h =
    subst (λ (j : ℕ). CommentNext t (n + j)) (sym (h.is ∙ ap spaces (rest_is n t))) w.behind

-- no comment follows: the text ends, another byte than a slash stands there, or the code has looked for one in vain
module _ {t : List ℕ} {n : ℕ} (w : CommentNext t n) where
  stop : (m : Match) → run (bytewise COMMENT) (drop n t) ≡ m → hit m ≡ false → Skips t n
  unfolding run
  stop (Took k g) e h = no_miss k g h
  stop (Missed g) e h =
      let none : run (star spaced) (drop n t) ≡ Took 0 g
      = unroll spaced eats_spaced (drop n t) ∙ ap (λ (m : Match). then_again (then_spaces m (drop n t)) (drop n t)) e in
      record { is = w.left ∙ ap (λ (m : Match). hushed (join n 0 m)) none ∙ ap (λ (k : ℕ). Took k 0) (omega arith); fits = w.fits }

  pub walk_end : length t ≤ n → Skips t n
  walk_end h = stop _ refl (rw (drop_of_length-le t h) none_commented)

  pub walk_other : n < length t → (get_or t n 0 ≡ 47 → ⊥) → Skips t n
  walk_other l h = stop _ refl (rw (drop-cons t n 0 l) (no_comment (get_or t n 0) _ (ne_eqb 47 (get_or t n 0) (λ e. h (sym e)))))

  module _ {m : Match} (h : Reads COMMENT (take (length t - n) (drop n t)) m) where
    pub walk_done : {g : ℕ} → m ≡ Missed g → Skips t n
    walk_done {g} e = stop (Missed g) (sym (at n t h).is ∙ e) refl

    -- a comment of k bytes follows: it takes a byte, and stays inside
    pub comment_some : {k g : ℕ} → m ≡ Took k g → 0 < k
    comment_some e = subst Pos (sym (at n t h).is ∙ e) (eats_pos (bytewise COMMENT) eats_comment (drop n t))

    comment_fits : {k g : ℕ} → m ≡ Took k g → n + k ≤ length t
    comment_fits {k} {g} e =
        let a : k ≤ length (drop n t) = took_le m (drop n t) k g (at n t h).fits e in
        let b : n ≤ length t = w.fits in
        omega (arith, length-drop n t)

    pub walk_comment : {k g : ℕ} → m ≡ Took k g → SpacesNext t (n + k)
    unfolding run
    walk_comment {k} {g} e = record { fits = comment_fits e; behind = record { fits = inside; left = w.left ∙ onward } }
      where
        j : ℕ
        j = spaces (drop (n + k) t)

        inside : n + k + j ≤ length t
        inside =
            let a : n + k ≤ length t = comment_fits e in
            omega (arith, span_le (classed Space) (drop (n + k) t), length-drop (n + k) t)

        one : run spaced (drop n t) ≡ Took (k + j) (max g (lift k (suc j)))
        one =
            ap (λ (x : Match). then_spaces x (drop n t)) (sym (at n t h).is ∙ e)
            ∙ ap (λ (u : List ℕ). join k g (run (star (bytewise WHITESPACE)) u)) (drop-drop k n t)
            ∙ ap (λ (x : Match). join k g x) (star_one Space (drop (n + k) t))

        onward : hushed (join n 0 (run (star spaced) (drop n t))) ≡ hushed (join (n + k + j) 0 (run (star spaced) (drop (n + k + j) t)))
        onward =
            let z : n + (k + j) ≡ n + k + j = omega arith in
            ap (λ (x : Match). hushed (join n 0 x))
            (unroll spaced eats_spaced (drop n t) ∙ ap (λ (x : Match). then_again x (drop n t)) one)
            ∙ hush_ahead n 0 (k + j) (max g (lift k (suc j))) (run (star spaced) (drop (k + j) (drop n t)))
            ∙ ap₂ (λ (i : ℕ) (u : List ℕ). hushed (join i 0 (run (star spaced) u))) z
            (drop-drop (k + j) n t ∙ ap (λ (i : ℕ). drop i t) z)

-- ---- no blank run begins
pub none_empty : {t : List ℕ} → length t ≤ 0 → Skips t 0
none_empty {t} h = walk_end (subst (λ (j : ℕ). CommentNext t j) (span_end (classed Space) t 0 h) (walk_start {t = t}).behind) h

neither : (a b : Bool) → false ≡ either a b → (a ≡ false) × (b ≡ false)
neither true b e = cc
neither false b e = (refl, sym e)

pub none_begins : {t : List ℕ} → 0 < length t → false ≡ either (spaceb (get_or t 0 0)) (eqb 47 (get_or t 0 0)) → Skips t 0
none_begins {t} l e =
    let k = neither _ (eqb 47 (get_or t 0 0)) e in
    walk_other (subst (λ (j : ℕ). CommentNext t j) (span_stop (classed Space) t 0 l k.0) (walk_start {t = t}).behind) l
    (λ q. eqb-false 47 (get_or t 0 0) k.1 (sym q))
