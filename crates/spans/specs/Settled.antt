-- No two answers satisfy what a matcher promises: the text settles its match, and the nodes of the match settle the parts.
use Rattle.std.specs.Prelude.{ℕ, ◌≡◌, refl, List, Bool, true, false, Option}
use Rattle.std.proofs.Common.{ap, ap₂, subst, sym, ◌∙◌}
use Rattle.meaning.specs.declared.Match.{Match}
use Rattle.meaning.specs.declared.Match.TheVariants.{Took}
use Rattle.meaning.specs.Rules.{Rule}
use Rattle.meaning.specs.Peg.{Peg, hit, taken}
use Rattle.meaning.specs.Forest.{Forest, nil, tree}
use Rattle.meaning.specs.Pdl.{constraint_list}
use Rattle.meaning.specs.Walk.{following}
use Rattle.grammar.specs.Drawing.{opened}
use Rattle.grammar.specs.Order.{kids_of}
use Rattle.grammar.specs.Settled.{reads_settled, steps_settled}
use Rattle.spans.specs.declared.Matched.{Matched}
use Rattle.spans.specs.declared.Operand.{Operand}
use Rattle.spans.specs.declared.Operand.TheVariants.{Identifier}
use Rattle.spans.specs.declared.Constraint.{Constraint}
use Rattle.spans.specs.declared.Tag.{Tag}
use Rattle.spans.specs.declared.FieldDesc.{FieldDesc}
use Rattle.spans.specs.declared.FieldDesc.TheVariants.{Body}
use Rattle.spans.specs.declared.Field.{Field}
use Rattle.spans.specs.declared.Header.{Header}
use Rattle.spans.specs.Drawn.{draw_operand, draw_constraint, draw_condition, draw_tag, draw_desc, draw_field, draw_header}
use Rattle.spans.specs.Answers.{Answers, Continues, MatchedPart, nowhere, no_constraint, no_tag, no_header, SoundTag, desc_list, Free, Constrained, Tagged, Enumerated, Described, Fielded, Headed}
use Rattle.spans.specs.Undrawn.{operand_of, operand_back, constraint_of, constraint_back, condition_of, condition_back, tag_of, tag_back, desc_of, desc_back, desc_following, header_of, header_back}

-- two parts are one, if both are read back from the same nodes where the match took, and both are absent where it missed
one_part : {A : Type 0} (undraw : Forest → A) (b : Bool) {v w : Forest} {absent x y : A} → (b ≡ true → v ≡ w) → (b ≡ true → undraw v ≡ x)
    → (b ≡ true → undraw w ≡ y) → (b ≡ false → x ≡ absent) → (b ≡ false → y ≡ absent) → x ≡ y
one_part undraw true e p q h k = sym (p refl) ∙ ap undraw (e refl) ∙ q refl
one_part undraw false e p q h k = h refl ∙ sym (k refl)

pub from_start : {A : Type 0} {g : Peg} {t : List ℕ} {r : Match} {draw : A → ℕ → Forest} {Sound : A → Type 0} {absent x : A}
    → Answers g t r draw Sound absent x → Continues (Took 0 0) g t r draw Sound absent x
from_start a = record { drawn = opened a.drawn; sound = a.sound; missed = a.missed }

-- ---- any answer. What a part draws, what is sound and what is absent may depend on the match.
module _ {A : Type 0} (draw : Match → A → ℕ → Forest) (Sound : Match → A → Type 0) (absent : Match → A) (undraw : Match → Forest → A)
    (back : (m : Match) (x : A) → Sound m x → undraw m (draw m x 0) ≡ x) {g : Peg} {t : List ℕ} {r s : Match} {x y : A} where
  pub settled_on : {n : Match} → Continues n g t r (draw r) (Sound r) (absent r) x → Continues n g t s (draw s) (Sound s) (absent s) y → (r ≡ s) × (x ≡ y)
  settled_on {n} a b =
      let e : r ≡ s = steps_settled a.drawn.steps b.drawn.steps in
      let c : Continues n g t r (draw r) (Sound r) (absent r) y
      = subst (λ (m : Match). Continues n g t m (draw m) (Sound m) (absent m) y) (sym e) b in (
        e,
        one_part (undraw r) (hit r) (λ h. sym (a.drawn.draws h 0) ∙ c.drawn.draws h 0) (λ h. back r x (a.sound h)) (λ h. back r y (c.sound h))
            a.missed c.missed,
      )

  -- the same from the start
  pub settled : Answers g t r (draw r) (Sound r) (absent r) x → Answers g t s (draw s) (Sound s) (absent s) y → (r ≡ s) × (x ≡ y)
  settled a b = settled_on (from_start a) (from_start b)

-- an answer that has its match in itself, and draws all of it but that
module _ {A : Type 0} (at : A → Match) (draw : A → ℕ → Forest) (Sound : A → Type 0) (absent : Match → A) (undraw : Match → Forest → A)
    (back : (x : A) → Sound x → undraw (at x) (draw x 0) ≡ x) {n : Match} {g : Peg} {t : List ℕ} where
  own : {x : A} → Continues n g t (at x) draw Sound (absent (at x)) x
      → Continues n g t (at x) draw (λ y. (at y ≡ at x) × Sound y) (absent (at x)) x
  own a = record { drawn = a.drawn; sound = λ h. (refl, a.sound h); missed = a.missed }

  pub settled_own : {x y : A} → Continues n g t (at x) draw Sound (absent (at x)) x → Continues n g t (at y) draw Sound (absent (at y)) y → x ≡ y
  settled_own a b =
      (settled_on (λ m x o. draw x o) (λ m x. (at x ≡ m) × Sound x) absent undraw
      (λ m x h. ap (λ (z : Match). undraw z (draw x 0)) (sym h.0) ∙ back x h.1) (own a) (own b)).1

-- an answer is its match and its value
pub same_answer : {A : Type 0} {r s : Matched A} → (r.at ≡ s.at) × (r.value ≡ s.value) → r ≡ s
same_answer {A} e = ap₂ (λ (m : Match) (x : A). record { at = m; value = x }) e.0 e.1

-- ---- each answer
pub operand_settled : {m : Match} {g : Peg} {t : List ℕ} {r s : Matched Operand}
    → Continues m g t r.at (λ x o. draw_operand o x) Free (Identifier nowhere) r.value
    → Continues m g t s.at (λ x o. draw_operand o x) Free (Identifier nowhere) s.value → r ≡ s
operand_settled a b =
    same_answer
    (settled_on (λ m x o. draw_operand o x) (λ m x. Free x) (λ m. Identifier nowhere) (λ m w. operand_of w) (λ m x h. operand_back x) a b)

-- from a match, and from the start
pub constraint_settled : {m : Match} {g : Peg} {t : List ℕ} {r s : Matched Constraint}
    → Continues m g t r.at (λ c o. draw_constraint o c) Free no_constraint r.value
    → Continues m g t s.at (λ c o. draw_constraint o c) Free no_constraint s.value → r ≡ s
constraint_settled a b =
    same_answer
    (settled_on (λ m c o. draw_constraint o c) (λ m c. Free c) (λ m. no_constraint) (λ m w. constraint_of w) (λ m c h. constraint_back c) a b)

pub constrained_settled : {t : List ℕ} {r s : Matched Constraint} → Constrained t r → Constrained t s → r ≡ s
constrained_settled a b = constraint_settled (from_start a) (from_start b)

pub tagged_settled : {g : Peg} {t : List ℕ} {r s : Matched Tag} → Tagged g t r → Tagged g t s → r ≡ s
tagged_settled {t = t} a b =
    same_answer
    (settled (λ m x o. draw_tag o t (taken m) x) (λ m x. SoundTag t x) (λ m. no_tag) (λ m w. tag_of w) (λ m x h. tag_back t (taken m) x h) a b)

pub enumerated_settled : {g : Peg} {t : List ℕ} {r s : Matched Tag} → Enumerated g t r → Enumerated g t s → r ≡ s
enumerated_settled {t = t} a b =
    same_answer
    (settled (λ m x o. tree Rule.enum_tag o (taken m) (draw_tag o t (taken m) x) nil) (λ m x. SoundTag t x) (λ m. no_tag)
    (λ m w. tag_of (kids_of w)) (λ m x h. tag_back t (taken m) x h) a b)

pub described_settled : {g : Peg} {t : List ℕ} {r s : Matched FieldDesc} → Described g t r → Described g t s → r ≡ s
described_settled {t = t} a b =
    same_answer
    (settled (λ m x o. draw_desc o t (taken m) x) (λ m x. MatchedPart constraint_list t (desc_list x)) (λ m. Body) (λ m w. desc_of w)
    (λ m x h. desc_back t (taken m) x h) a b)

-- the condition, from a field's nodes
conditioned : (t : List ℕ) (f : Matched Field) → condition_of (following (kids_of (draw_field 0 t f))) ≡ f.value.condition
conditioned t f =
    ap condition_of (desc_following 0 t (taken f.value.desc.at) f.value.desc.value (draw_condition 0 f.value.condition))
    ∙ condition_back f.value.condition

pub fielded_settled : {t : List ℕ} {r s : Matched Field} → Fielded t r → Fielded t s → r ≡ s
fielded_settled {t} {r} {s} a b =
    let e : r.at ≡ s.at = reads_settled a.drawn.reads b.drawn.reads in
    let d : r.value.desc ≡ s.value.desc = described_settled a.described b.described in
    let c : r.value.condition ≡ s.value.condition
    = one_part (λ w. condition_of (following (kids_of w))) (hit r.at)
    (λ h. sym (a.drawn.draws h 0) ∙ b.drawn.draws (ap hit (sym e) ∙ h) 0)
    (λ h. conditioned t r) (λ h. conditioned t s) a.missed (λ h. b.missed (ap hit (sym e) ∙ h)) in
    ap₂ (λ (m : Match) (x : Matched FieldDesc). record { at = m; value = record { desc = x; condition = r.value.condition } }) e d
    ∙ ap (λ (x : Option Constraint). record { at = s.at; value = record { desc = s.value.desc; condition = x } }) c

pub headed_settled : {k : Rule} {g : Peg} {t : List ℕ} {r s : Matched Header} → Headed k g t r → Headed k g t s → r ≡ s
headed_settled {k} {t = t} a b =
    same_answer
    (settled (λ m h o. draw_header k o t h) (λ m h. MatchedPart constraint_list t h.constraints) (λ m. no_header) (λ m w. header_of w)
    (λ m h x. header_back k t h x) a b)
