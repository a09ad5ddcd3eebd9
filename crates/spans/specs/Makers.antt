-- What is made of where a token stands.
use Rattle.std.specs.Prelude.{ℕ, ◌≡◌}
use Rattle.std.specs.Fn.{Once}
use Rattle.meaning.specs.Rules.{Rule}
use Rattle.meaning.specs.Forest.{Forest}
use Rattle.spans.specs.declared.Span.{Span}
use Rattle.spans.specs.Drawn.{leaf_at}

-- it is drawn as the token's node
abbrev pub Makes : {F T : Type 0} → Once F (Span × Unit {0}) T → F → Rule → (T → ℕ → Forest) → Type 0
Makes {F} {T} calls f k draw = (x : Span) (v : T) → calls.post f (x, tt) v → (o : ℕ) → draw v o ≡ leaf_at k o x
