-- A run of declarations is a list of matches, each of which depends on its own bytes only.
use Rattle.std.specs.Prelude.{◌≡◌, refl, List, [], ◌++◌, ℕ, ◌≤◌, length}
use Rattle.std.proofs.Common.{sym, ap, ◌∙◌, append_assoc, length-append}
use lib.Seq.{drop-append_seam}
use Rattle.meaning.specs.Peg.{Peg, seq, star}
use Rattle.meaning.specs.Forest.{Forest, nil, ◌⊕◌}
use Rattle.meaning.specs.Pdl.{skip, declaration}
use Rattle.locality.specs.Plain.{took, shift, after, plain}
use Rattle.locality.specs.PlainLaws.{after_after, after_zero}
use Rattle.locality.specs.Looks.{far}
use Rattle.locality.specs.Stars.{star_took_suc}
use Rattle.locality.specs.Absorbing.{Absorbs, nought}
use Rattle.locality.specs.OwnBytes.{own}
use Rattle.standing.specs.Lookahead.{check, solid, blanks}
use Rattle.standing.specs.Declarations.{far_declaration}

abbrev pub item : Peg
item = seq skip declaration

pub far_item : Absorbs (far item) item nought
unfolding check
far_item = (blanks (solid [] refl far_declaration)).bounded

-- the same with the declaration's own bytes as the text
item_own : (w u : List ℕ) (f : Forest) → plain item w ≡ took (length w) f → plain item (w ++ u) ≡ took (length w) f
item_own w u f e = ap (λ v. plain item (v ++ u)) (sym (lib.Seq.take-length w)) ∙ own item far_item w u (length w) f e

pub data Items : List ℕ → Forest → Type 0 where
  no_more : Items [] nil
  one_more : (w v : List ℕ) (f g : Forest) → 1 ≤ length w → plain item w ≡ took (length w) f → Items v g → Items (w ++ v) (f ⊕ shift (length w) g)

-- a run, whatever follows it
pub run : (w u : List ℕ) (f : Forest) → Items w f → plain (star item) (w ++ u) ≡ after (length w) f (plain (star item) u)
run w u f no_more = sym (after_zero (plain (star item) u))
run w u f (one_more a b g h l e r) =
    ap (plain (star item)) (append_assoc a b u)
    ∙ star_took_suc item (a ++ (b ++ u)) (length a) g l (item_own a (b ++ u) g e)
    ∙ ap (λ t. after (length a) g (plain (star item) t)) (drop-append_seam a (b ++ u))
    ∙ ap (after (length a) g) (run b u h r)
    ∙ after_after (length a) (length b) g h (plain (star item) u)
    ∙ ap (λ k. after k (g ⊕ shift (length a) h) (plain (star item) u)) (sym (length-append a b))
