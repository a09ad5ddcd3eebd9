-- A place that is known by its offset is ready to be moved on.
use Rattle.std.specs.Prelude.{ℕ, ◌≤◌, ◌≡◌, List, length}
use Rattle.std.proofs.Common.{arith, ap, sym, ◌∙◌}
use Rattle.meaning.specs.declared.SourceLocation.{SourceLocation}
use Rattle.meaning.specs.Places.{place_at}
use Rattle.text.specs.PlaceLaws.{place_at_near}

pub offset_of : (s : List ℕ) (at : ℕ) (p : SourceLocation) → p ≡ place_at s at → at ≤ length s → p.offset ≡ at
offset_of s at p e h = ap (λ (q : SourceLocation). q.offset) e ∙ (place_at_near s at h).off ∙ omega arith

-- what `text::move_to` asks
pub ready : (s : List ℕ) (at to : ℕ) (p : SourceLocation) → p ≡ place_at s at → at ≤ to → to ≤ length s
    → (p ≡ place_at s p.offset) × ((p.offset ≤ to) × (to ≤ length s))
ready s at to p e h k =
    let o : p.offset ≡ at = offset_of s at p e (omega arith) in
    (e ∙ ap (place_at s) (sym o), (omega (arith, o), k))
