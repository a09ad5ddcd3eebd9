-- What an entry answers, from what the function that it calls answers.
use Prim.Native.Nat.{ℕ}
use mathlib.Core.Path.{◌≡◌, ap, ◌∙◌}
use mathlib.Core.List.{List}
use lib.ListN.{length}
use Rattle.meaning.specs.Reading.{name_number, name_text}
use Rattle.front.specs.Names.{named, naming, over}

-- the text s of a name goes over the front of t
pub named_on : (src : List ℕ) (o n : ℕ) (s t t' : List ℕ) (r : ℕ) → s ≡ name_text src o n → t' ≡ over s t → r ≡ name_number src o n
    → named r (length s) t' ≡ naming src o n t
named_on src o n s t t' r e f h =
    ap (λ (x : ℕ). named x (length s) t') h ∙ ap (λ (x : List ℕ). named (name_number src o n) (length s) x) f
    ∙ ap (λ (x : List ℕ). named (name_number src o n) (length x) (over x t)) e
