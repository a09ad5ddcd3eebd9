-- The rules that a choice names, what a kind tells of its match, and what one more try adds to a choice.
use Rattle.std.specs.Prelude.{ℕ, ◌≡◌, List, Bool, true}
use Rattle.std.proofs.Common.{ap, ap₂, sym, subst, ◌∙◌}
use Rattle.meaning.specs.declared.Match.{Match}
use Rattle.meaning.specs.declared.Match.TheVariants.{Missed, Took}
use Rattle.meaning.specs.Choice.{pick}
use Rattle.meaning.specs.Peg.{Peg, join, hit, taken}
use Rattle.meaning.specs.Forest.{Forest}
use Rattle.meaning.specs.Pdl.{◌∣◌, constraint_list, checksum_field, padding_field, size_field, count_field, elementsize_field, body_field, payload_field, fixed_field, reserved_field}
use Rattle.grammar.specs.Matching.{Reads}
use Rattle.grammar.specs.Hits.{hit_join, taken_here}
use Rattle.grammar.specs.Drawing.{Draws, first, second, redrawn}
use Rattle.spans.specs.declared.FieldDesc.{FieldDesc}
use Rattle.spans.specs.declared.FieldDesc.TheVariants.{Body}
use Rattle.spans.specs.declared.Matched.{Matched}
use Rattle.spans.specs.Drawn.{draw_desc}
use Rattle.spans.specs.Answers.{MatchedPart, desc_list, Described, answer}
use Rattle.fields.specs.declared.WordKind.{WordKind}
use Rattle.fields.specs.declared.WordKind.TheVariants as kind

abbrev pub field_of : WordKind → Peg
field_of kind.Checksum = checksum_field
field_of kind.Padding = padding_field
field_of kind.Size = size_field
field_of kind.Count = count_field
field_of kind.ElementSize = elementsize_field
field_of kind.Body = body_field
field_of kind.Payload = payload_field
field_of kind.Fixed = fixed_field
field_of kind.Reserved = reserved_field

-- r is the description d with its match m, where m took
pub record Description (m : Match) (d : FieldDesc) (r : Matched FieldDesc) : Type 0 where
  pub same : r.at ≡ m
  pub kept : r.value ≡ pick (hit m) d Body

-- so it answers what d draws
pub describes : {g : Peg} {t : List ℕ} {m : Match} {d : FieldDesc} {r : Matched FieldDesc} → Description m d r → Draws g t m (λ o. draw_desc o t (taken m) d)
    → (hit m ≡ true → MatchedPart constraint_list t (desc_list d)) → Described g t r
describes {g} {t} {m} {d} {r} k w s =
    let e : hit m ≡ hit r.at = ap hit (sym k.same) in
    answer d (subst (λ (x : Match). Draws g t x (λ o. draw_desc o t (taken x) d)) (sym k.same) w) (λ h. s (e ∙ h))
    (k.kept ∙ ap (λ (b : Bool). pick b d Body) e)

-- where d answers a choice a of the text t, r answers `more a`, which is a with more to choose from
pub record OrDesc (d : Matched FieldDesc) (more : Peg → Peg) (t : List ℕ) (r : Matched FieldDesc) : Type 0 where
  pub or : {a : Peg} → Described a t d → Described (more a) t r

-- r is d, with the mark f of what was tried before it
pub record EarlierMark (f : ℕ) (d r : Matched FieldDesc) : Type 0 where
  pub later : r.at ≡ join 0 f d.at
  pub same : r.value ≡ d.value

-- where g draws all that b does, only later, so it answers
pub answers_later : {b g : Peg} {t : List ℕ} {d r : Matched FieldDesc} (f : ℕ) → Described b t d → EarlierMark f d r
    → ((w : ℕ → Forest) → Draws b t d.at w → Draws g t r.at w) → Described g t r
answers_later {t = t} {d = d} {r = r} f k m draws =
    let i : hit d.at ≡ hit r.at = sym (hit_join 0 f d.at) ∙ ap hit (sym m.later) in
    let j : taken d.at ≡ taken r.at = sym (taken_here f d.at) ∙ ap taken (sym m.later) in
    record {
      drawn = draws _ (redrawn k.drawn (λ h o. ap₂ (λ (l : ℕ) (z : FieldDesc). draw_desc o t l z) j (sym m.same)));
      sound = λ h. subst (λ (z : FieldDesc). MatchedPart constraint_list t (desc_list z)) (sym m.same) (k.sound (i ∙ h));
      missed = λ h. m.same ∙ k.missed (i ∙ h);
    }

-- a choice whose first part took answers what that does, and one whose first part missed what the other does
pub chosen : {a b : Peg} {t : List ℕ} {d : Matched FieldDesc} (n f : ℕ) → Described a t d → d.at ≡ Took n f → Described (a ∣ b) t d
chosen n f k e = record { drawn = first n f k.drawn e; sound = k.sound; missed = k.missed }

pub tried : {a b : Peg} {t : List ℕ} {x : Match} {d r : Matched FieldDesc} (f : ℕ) → Reads a t x → x ≡ Missed f → Described b t d → EarlierMark f d r
    → Described (a ∣ b) t r
tried f n e k m = answers_later f k m (λ w v. second f n e v m.later)

-- the kinds of a description that start with an underscore
unfoldable pub word_fields : Peg
word_fields =
    checksum_field
    ∣ padding_field
    ∣ size_field
    ∣ count_field
    ∣ elementsize_field
    ∣ body_field
    ∣ payload_field
    ∣ fixed_field
    ∣ reserved_field
