-- A list with a last comma or none: one law for every item and rule.
use Rattle.std.specs.Prelude.{◌≡◌, List, ℕ}
use Rattle.meaning.specs.declared.Match.{Match}
use Rattle.meaning.specs.Rules.{Rule}
use Rattle.meaning.specs.Peg.{Peg, seq, star, opt, rule}
use Rattle.meaning.specs.Pdl.{text, ◌~◌, skip, repeat}
use Rattle.grammar.specs.Matching.{Steps, stay}
use Rattle.grammar.specs.Steps.{link, steps_rule, option}

-- an item, blanks, and the others or none (y, settled as z), with the last comma
pub list_steps : {p : Peg} {t : List ℕ} {m a b x y z r : Match} (k : Rule) → Steps m p t a → Steps a skip t b → Steps b (text "," ~ p) t x
    → Steps x (star (seq skip (text "," ~ p))) t y → z ≡ stay b y → Steps z (seq skip (opt (text ","))) t r
    → Steps m (rule k (p ~ repeat (text "," ~ p) ~ opt (text ","))) t r
list_steps k one gap next more e last = steps_rule k (link (link one (link gap (option gap.fits (link next more) e))) last)
