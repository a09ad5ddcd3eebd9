-- What the matchers answer: a match, and parts that draw its nodes. A matcher that missed answers absent parts, and a list
-- that is kept by its span stands there, whole; so the text settles every answer (Settled).
use Rattle.std.specs.Prelude.{ℕ, ◌≡◌, refl, List, Bool, true, false, drop, Option, None, Some}
use Rattle.std.proofs.Common.{ap, sym, subst, ◌∙◌}
use Rattle.meaning.specs.declared.Match.{Match}
use Rattle.meaning.specs.declared.Match.TheVariants.{Took}
use Rattle.meaning.specs.Choice.{pick}
use Rattle.meaning.specs.Rules.{Rule}
use Rattle.meaning.specs.Peg.{Peg, run, bytewise, hit, taken}
use Rattle.meaning.specs.Forest.{Forest, nil, tree}
use Rattle.meaning.specs.Pdl.{enum_value_list, constraint, constraint_list, field_desc, field}
use Rattle.grammar.specs.Matching.{Steps}
use Rattle.grammar.specs.Hits.{no_miss}
use Rattle.grammar.specs.Drawing.{Draws, Follows, part_hit, part_taken, whole, redrawn, retold}
use Rattle.spans.specs.declared.Matched.{Matched}
use Rattle.spans.specs.declared.Span.{Span}
use Rattle.spans.specs.declared.Operand.TheVariants.{Identifier}
use Rattle.spans.specs.declared.Constraint.{Constraint}
use Rattle.spans.specs.declared.Tag.{Tag}
use Rattle.spans.specs.declared.Tag.TheVariants.{Value, Range, Other}
use Rattle.spans.specs.declared.FieldDesc.{FieldDesc}
use Rattle.spans.specs.declared.FieldDesc.TheVariants.{Checksum, Padding, Size, Count, ElementSize, Body, Payload, FixedScalar, FixedEnum, Reserved, Array, Scalar, Typedef, Group}
use Rattle.spans.specs.declared.Field.{Field}
use Rattle.spans.specs.declared.Header.{Header}
use Rattle.spans.specs.Spans.{span_of}
use Rattle.spans.specs.Drawn.{draw_constraint, draw_tag, draw_desc, draw_field, draw_header}

-- r is the match of g, and x draws its nodes; where it missed, x is absent
pub record Answers {A : Type 0} (g : Peg) (t : List ℕ) (r : Match) (draw : A → ℕ → Forest) (Sound : A → Type 0) (absent x : A) : Type 0 where
  pub drawn : Draws g t r (λ o. draw x o)
  pub sound : hit r ≡ true → Sound x
  pub missed : hit r ≡ false → x ≡ absent

-- the same of a match that goes on from m
pub record Continues {A : Type 0} (m : Match) (g : Peg) (t : List ℕ) (r : Match) (draw : A → ℕ → Forest) (Sound : A → Type 0) (absent x : A) : Type 0 where
  pub drawn : Follows m g t r (λ o. draw x o)
  pub sound : hit r ≡ true → Sound x
  pub missed : hit r ≡ false → x ≡ absent

-- a list that a part says is matched where it stands, up to its end
pub record MatchedList (g : Peg) (t : List ℕ) (s : Span) : Type 0 where
  pub there : hit (run (bytewise g) (drop s.start t)) ≡ true
  pub ends : taken (run (bytewise g) (drop s.start t)) ≡ s.len

abbrev pub MatchedPart : Peg → List ℕ → Option Span → Type 0
MatchedPart g t None = Unit {0}
MatchedPart g t (Some s) = MatchedList g t s

-- ---- what is absent, and which lists are sound, for each answer
abbrev pub nowhere : Span
nowhere = record { start = 0; len = 0 }

abbrev pub no_constraint : Constraint
no_constraint = record { span = nowhere; id = nowhere; value = Identifier nowhere }

abbrev pub no_tag : Tag
no_tag = Other (record { id = nowhere })

-- the head of no declaration
abbrev pub no_header : Header
no_header = record { keyword = nowhere; id = nowhere; parent = None; width = None; function = None; constraints = None }

abbrev pub SoundTag : List ℕ → Tag → Type 0
SoundTag t (Value v) = Unit {0}
SoundTag t (Range r) = MatchedPart enum_value_list t r.tags
SoundTag t (Other x) = Unit {0}

-- the list of a group; no other description has one
abbrev pub desc_list : FieldDesc → Option Span
desc_list (Checksum id) = None
desc_list (Padding size) = None
desc_list (Size id width) = None
desc_list (Count id width) = None
desc_list (ElementSize id width) = None
desc_list Body = None
desc_list (Payload modifier) = None
desc_list (FixedScalar value width) = None
desc_list (FixedEnum tag type) = None
desc_list (Reserved width) = None
desc_list (Array id element size) = None
desc_list (Scalar id width) = None
desc_list (Typedef id type) = None
desc_list (Group id list) = list

-- ---- the answers
abbrev pub Free : {A : Type 0} → A → Type 0
Free x = Unit {0}

abbrev pub Constrained : List ℕ → Matched Constraint → Type 0
Constrained t r = Answers constraint t r.at (λ c o. draw_constraint o c) Free no_constraint r.value

abbrev pub Tagged : Peg → List ℕ → Matched Tag → Type 0
Tagged g t r = Answers g t r.at (λ x o. draw_tag o t (taken r.at) x) (λ x. SoundTag t x) no_tag r.value

-- a tag of any kind stands under the choice's own node
abbrev pub Enumerated : Peg → List ℕ → Matched Tag → Type 0
Enumerated g t r = Answers g t r.at (λ x o. tree Rule.enum_tag o (taken r.at) (draw_tag o t (taken r.at) x) nil) (λ x. SoundTag t x) no_tag r.value

abbrev pub Described : Peg → List ℕ → Matched FieldDesc → Type 0
Described g t r = Answers g t r.at (λ x o. draw_desc o t (taken r.at) x) (λ x. MatchedPart constraint_list t (desc_list x)) Body r.value

pub record Fielded (t : List ℕ) (r : Matched Field) : Type 0 where
  pub drawn : Draws field t r.at (λ o. draw_field o t r)
  pub described : Described field_desc t r.value.desc
  pub missed : hit r.at ≡ false → r.value.condition ≡ None

abbrev pub Headed : Rule → Peg → List ℕ → Matched Header → Type 0
Headed k g t r = Answers g t r.at (λ h o. draw_header k o t h) (λ h. MatchedPart constraint_list t h.constraints) no_header r.value

-- ---- an answer from what was matched: y, kept where the match took
module _ {A : Type 0} (absent x y : A) (b : Bool) (e : x ≡ pick b y absent) where
  kept_there : b ≡ true → x ≡ y
  kept_there h = e ∙ ap (λ (c : Bool). pick c y absent) h

  kept_absent : b ≡ false → x ≡ absent
  kept_absent h = e ∙ ap (λ (c : Bool). pick c y absent) h

-- a match that took is no miss
never_missed : {A : Type 0} {absent x : A} {r : Match} {n f : ℕ} → r ≡ Took n f → hit r ≡ false → x ≡ absent
never_missed {n = n} {f = f} e h = no_miss n f (ap hit (sym e) ∙ h)

module _ {A : Type 0} {g : Peg} {t : List ℕ} {r : Match} {draw : A → ℕ → Forest} {Sound : A → Type 0} {absent x : A} where
  pub answer : (y : A) → Draws g t r (λ o. draw y o) → (hit r ≡ true → Sound y) → x ≡ pick (hit r) y absent → Answers g t r draw Sound absent x
  answer y d s e =
      record {
        drawn = redrawn d (λ h o. ap (λ (z : A). draw z o) (sym (kept_there absent x y (hit r) e h)));
        sound = λ h. subst (λ (z : A). Sound z) (sym (kept_there absent x y (hit r) e h)) (s h);
        missed = λ h. kept_absent absent x y (hit r) e h;
      }

  pub continue : {m : Match} (y : A) → Follows m g t r (λ o. draw y o) → (hit r ≡ true → Sound y) → x ≡ pick (hit r) y absent
      → Continues m g t r draw Sound absent x
  continue y f s e =
      record {
        drawn = retold f (λ h o. ap (λ (z : A). draw z o) (sym (kept_there absent x y (hit r) e h)));
        sound = λ h. subst (λ (z : A). Sound z) (sym (kept_there absent x y (hit r) e h)) (s h);
        missed = λ h. kept_absent absent x y (hit r) e h;
      }

  -- from the start
  pub begun : Continues (Took 0 0) g t r draw Sound absent x → Answers g t r draw Sound absent x
  begun c = record { drawn = whole c.drawn; sound = c.sound; missed = c.missed }

  pub answered : {n f : ℕ} → r ≡ Took n f → Draws g t r (λ o. draw x o) → Sound x → Answers g t r draw Sound absent x
  answered e d s = record { drawn = d; sound = λ h. s; missed = never_missed e }

  pub continued : {m : Match} {n f : ℕ} → r ≡ Took n f → Follows m g t r (λ o. draw x o) → Sound x → Continues m g t r draw Sound absent x
  continued e d s = record { drawn = d; sound = λ h. s; missed = never_missed e }

-- a list that was matched stands in the span of its match; and where it may be absent, in what is kept of that span
pub matched : {m : Match} {g : Peg} {t : List ℕ} {r : Match} → Steps m g t r → hit r ≡ true → MatchedList g t (span_of m r)
matched {m} {g} {t} {r} s h = record { there = part_hit m g t r s h; ends = part_taken m g t r s h }

pub matched_part : {g : Peg} {t : List ℕ} {s : Span} {p : Option Span} (y : Match) → (hit y ≡ true → MatchedList g t s) → p ≡ pick (hit y) (Some s) None
    → MatchedPart g t p
matched_part {g} {t} {s} y k e = subst (λ (z : Option Span). MatchedPart g t z) (sym e) (go (hit y) k)
  where
    go : (b : Bool) → (b ≡ true → MatchedList g t s) → MatchedPart g t (pick b (Some s) None)
    go true f = f refl
    go false f = tt
