-- A tag's answer from its match.
use Prim.Native.Nat.{ℕ}
use mathlib.Core.Path.{◌≡◌, refl, ap, sym, subst, ◌∙◌}
use mathlib.Core.List.{List}
use mathlib.Core.Bool.{true}
use Rattle.meaning.specs.declared.Match.{Match}
use Rattle.meaning.specs.Choice.{pick}
use Rattle.meaning.specs.Rules.{Rule}
use Rattle.meaning.specs.Peg.{Peg, hit, taken}
use Rattle.meaning.specs.Pdl.{◌∣◌, enum_value, enum_range, enum_other, enum_tag}
use Rattle.grammar.specs.Matching.{Steps}
use Rattle.grammar.specs.Drawing.{Draws, draws_rule}
use Rattle.spans.specs.declared.Tag.{Tag}
use Rattle.spans.specs.declared.Matched.{Matched}
use Rattle.spans.specs.Drawn.{draw_tag}
use Rattle.spans.specs.Answers.{Tagged, Enumerated, SoundTag, no_tag, answer}

-- it goes on where its match does
pub tagged_at : {m : Match} {g : Peg} {t : List ℕ} {at : Match} {r : Matched Tag} {v : Tag} → (r.at ≡ at) × (r.value ≡ v) → Steps m g t at → Steps m g t r.at
tagged_at {m} {g} {t} e s = subst (λ (z : Match). Steps m g t z) (sym e.0) s

pub tagged_is : {g : Peg} {t : List ℕ} {at : Match} {r : Matched Tag} (tag : Tag) → Draws g t at (λ o. draw_tag o t (taken at) tag)
    → (hit at ≡ true → SoundTag t tag) → (r.at ≡ at) × (r.value ≡ pick (hit at) tag no_tag) → Tagged g t r
tagged_is {g} {t} {at} {r} tag d s e =
    answer tag (subst (λ (z : Match). Draws g t z (λ o. draw_tag o t (taken z) tag)) (sym e.0) d) (λ h. s (ap hit (sym e.0) ∙ h))
    (e.1 ∙ ap (λ (z : Match). pick (hit z) tag no_tag) (sym e.0))

-- and under the node of the choice between the kinds
pub enumerated_is : {t : List ℕ} {at : Match} {r : Matched Tag} (tag : Tag)
    → Draws (enum_range ∣ enum_value ∣ enum_other) t at (λ o. draw_tag o t (taken at) tag) → (hit at ≡ true → SoundTag t tag)
    → (r.at ≡ at) × (r.value ≡ pick (hit at) tag no_tag) → Enumerated enum_tag t r
unfolding enum_tag
enumerated_is tag d s e =
    let k = tagged_is tag d s e in
    record { drawn = draws_rule Rule.enum_tag refl k.drawn; sound = k.sound; missed = k.missed }
