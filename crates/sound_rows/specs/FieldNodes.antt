-- The grammar's notes on fields: a list of fields has fields only, a field has a child, which describes it, and descriptions of seven
-- rules have the integer that the walk takes for number a. So feeding takes no description for damaged.
use Rattle.std.specs.Prelude.{ℕ, ◌≡◌, refl, Bool, true, false, List, [], ◌∷◌, length}
use Rattle.std.proofs.Common.{ap, ◌∙◌}
use Rattle.meaning.specs.Choice.{pick}
use Rattle.meaning.specs.Rules.{Rule, is}
use Rattle.meaning.specs.Forest.{Forest, nil, tree, clean}
use Rattle.meaning.specs.Pdl.{rules as grammar}
use Rattle.meaning.specs.Rows.{field_words}
use Rattle.meaning.specs.Walk.{Part, part, or_part, place, name, Desc, no, fixed, array, describe, described}
use Rattle.meaning.specs.Feeding.{damaged}
use Rattle.text.specs.ChoiceLaws.{never}
use Rattle.sound_rows.specs.Notes.{Note, ◌has◌, ◌lists◌, RuleNotes, AllNotes, only, all_notes, notes_clean}
use Rattle.locality.specs.Holding.{allowed}
use Rattle.standing.specs.Sources.{core}
use Rattle.standing.specs.Files.{Whole, to_core}
use Rattle.standing.specs.Names.{every}
use Rattle.standing.specs.Kinds.{past, starting, rules, rules_next, found_is}

-- ---- tests on the rules of children
abbrev pub some : List Rule → Bool
some [] = false
some (r ∷ rs) = true

abbrev one_of : List Rule → Rule → Bool
one_of [] q = false
one_of (r ∷ rs) q = pick (is r q) true (one_of rs q)

-- without the first, if it is one of these
abbrev past_one : List Rule → List Rule → List Rule
past_one rs [] = []
past_one rs (q ∷ qs) = pick (one_of rs q) qs (q ∷ qs)

abbrev sized_names : List Rule
sized_names = Rule.identifier ∷ Rule.payload_identifier ∷ Rule.body_identifier ∷ []

-- two integers, if the first is one
abbrev two_integers : List Rule → Bool
two_integers x = pick (starting Rule.integer x) (starting Rule.integer (past Rule.integer x)) true

abbrev pub notes : List Note
notes =
    (Rule.field_list lists Rule.field)
    ∷ (Rule.field has some)
    ∷ (Rule.padding_field has (λ x. starting Rule.integer x))
    ∷ (Rule.size_field has (λ x. starting Rule.integer (past_one sized_names x)))
    ∷ (Rule.count_field has (λ x. starting Rule.integer (past Rule.identifier x)))
    ∷ (Rule.elementsize_field has (λ x. starting Rule.integer (past Rule.identifier x)))
    ∷ (Rule.fixed_field has two_integers)
    ∷ (Rule.reserved_field has (λ x. starting Rule.integer x))
    ∷ (Rule.scalar_field has (λ x. starting Rule.integer (past Rule.identifier x)))
    ∷ []

-- computed from the grammar
pub whole_notes : {s : List ℕ} {w : Forest} → Whole s w → AllNotes rules notes (clean w)
unfolding allowed every only grammar
whole_notes {s} a =
    let c = to_core a in
    rw c.places (notes_clean notes 0 c.bare (all_notes notes core refl s (length s) c.bare c.takes))

-- ---- the walk's parts, over names
found_behind : (r q : Rule) (w : Forest) → (part r (part q w).next).found ≡ starting r (past q (rules w))
found_behind r q w = found_is r (part q w).next ∙ ap (starting r) (rules_next q w)

-- what a size field is the size of: the next child, of the first of three rules
abbrev sized_name : Forest → Part
sized_name w = or_part (or_part (part Rule.identifier w) Rule.payload_identifier) Rule.body_identifier

sized_next : (w : Forest) → rules (sized_name w).next ≡ past_one sized_names (rules w)
sized_next nil = refl
sized_next (tree q s l k more) = go (is Rule.identifier q) (is Rule.payload_identifier q) (is Rule.body_identifier q) refl refl refl
  where
    go : (a b c : Bool) → is Rule.identifier q ≡ a → is Rule.payload_identifier q ≡ b → is Rule.body_identifier q ≡ c
        → rules (sized_name (tree q s l k more)).next ≡ past_one sized_names (q ∷ rules more)
    go true b c x y z = rw x
    go false true c x y z = rw (x, y)
    go false false true x y z = rw (x, y, z)
    go false false false x y z = rw (x, y, z)

-- ---- a description that feeding does not take for damaged
abbrev spoilt : ℕ → Bool → Bool → Bool
spoilt kind a b =
    damaged (field_words kind (place [] 0 0) (name no) (name no) (name no) (pick a 1 0 ∷ 0 ∷ []) (pick b 1 0 ∷ 0 ∷ []) 0 0 0) 0

pub record Fine (d : Desc) : Type 0 where
  pub is : spoilt d.kind d.na.found d.nb.found ≡ false

fine_pick : (b : Bool) {d f : Desc} → (b ≡ true → Fine d) → Fine f → Fine (pick b d f)
fine_pick true h k = h refl
fine_pick false h k = k

-- number a is there
with_a : {d : Desc} → d.nb.found ≡ false → spoilt d.kind true false ≡ false → d.na.found ≡ true → Fine d
with_a {d} n e h = record { is = rw (n, h) e }

fine_fixed : (w : Forest) → two_integers (rules w) ≡ true → Fine (fixed w)
fine_fixed w h = go (part Rule.integer w).found refl (rw (← found_is Rule.integer w) at h)
  where
    go : (b : Bool) → (part Rule.integer w).found ≡ b → pick b (starting Rule.integer (past Rule.integer (rules w))) true ≡ true → Fine (fixed w)
    go true e h = rw e (record { is = rw (e, found_behind Rule.integer Rule.integer w ∙ h) refl })
    go false e h = rw e (record { is = refl })

fine_array : (p : Part) → Fine (array p)
fine_array p = record { is = go (array p).na.found (array p).nb.found }
  where
    go : (a b : Bool) → spoilt 11 a b ≡ false
    go true true = refl
    go true false = refl
    go false true = refl
    go false false = refl

fine_describe : (r : Rule) (w : Forest) → RuleNotes notes r (rules w) → Fine (describe r w)
unfolding describe
fine_describe r w h =
    let padding = h.1.1.0 in
    let size = h.1.1.1.0 in
    let count = h.1.1.1.1.0 in
    let elementsize = h.1.1.1.1.1.0 in
    let fixed-two = h.1.1.1.1.1.1.0 in
    let reserved = h.1.1.1.1.1.1.1.0 in
    let scalar = h.1.1.1.1.1.1.1.1.0 in
    let behind = found_behind Rule.integer Rule.identifier w in
    fine_pick (is Rule.checksum_field r) (λ e. record { is = refl })
    (fine_pick (is Rule.padding_field r) (λ e. with_a refl refl (found_is Rule.integer w ∙ padding e))
    (fine_pick (is Rule.size_field r) (λ e. with_a refl refl (found_is Rule.integer (sized_name w).next ∙ ap (starting Rule.integer) (sized_next w) ∙ size e))
    (fine_pick (is Rule.count_field r) (λ e. with_a refl refl (behind ∙ count e))
    (fine_pick (is Rule.elementsize_field r) (λ e. with_a refl refl (behind ∙ elementsize e))
    (fine_pick (is Rule.body_field r) (λ e. record { is = refl })
    (fine_pick (is Rule.payload_field r) (λ e. record { is = refl })
    (fine_pick (is Rule.fixed_field r) (λ e. fine_fixed w (fixed-two e))
    (fine_pick (is Rule.reserved_field r) (λ e. with_a refl refl (found_is Rule.integer w ∙ reserved e))
    (fine_pick (is Rule.array_field r) (λ e. fine_array (part Rule.identifier w))
    (fine_pick (is Rule.scalar_field r) (λ e. with_a refl refl (behind ∙ scalar e))
    (fine_pick (is Rule.typedef_field r) (λ e. record { is = refl })
    (record { is = refl }))))))))))))

pub fine : (w : Forest) → some (rules w) ≡ true → AllNotes rules notes w → Fine (described w)
fine nil e h = never e
fine (tree r s l k more) e h = fine_describe r k h.0
