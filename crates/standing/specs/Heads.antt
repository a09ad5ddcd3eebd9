-- The endianness line of a whole source: it stands first, and what is added behind does not change it.
use Rattle.std.specs.Prelude.{ℕ, ◌+◌, ◌≤◌, ◌≡◌, refl, Bool, true, false, List, [], ◌∷◌, ◌++◌, length, take, drop}
use Rattle.std.proofs.Common.{arith, sym, ap, ap₂, ◌∙◌, subst, length-drop}
use Rattle.std.proofs.lemmas.List.{take-append-le, drop-append-le}
use Rattle.meaning.specs.declared.SourceLocation.{SourceLocation}
use Rattle.meaning.specs.Choice.{pick}
use Rattle.meaning.specs.Quoted.{bytes}
use Rattle.meaning.specs.Rules.{Rule, is}
use Rattle.meaning.specs.Peg.{prefixb}
use Rattle.meaning.specs.Forest.{Forest, nil, tree, ◌⊕◌, clean}
use Rattle.meaning.specs.Pdl.{rules as grammar}
use Rattle.meaning.specs.Walk.{Part, absent, node, part, place, endianness}
use Rattle.grammar.specs.Limits.{Limits}
use Rattle.reading.specs.Sources.{whole}
use Rattle.text.specs.ChoiceLaws.{never}
use Rattle.locality.specs.Plain.{Out, missed, took, shift, seq_e, plain, Took}
use Rattle.locality.specs.PlainLaws.{took_part}
use Rattle.locality.specs.Likeness.{placed}
use Rattle.standing.specs.Sources.{body, core, hd, core_hd}
use Rattle.standing.specs.Names.{names, names-⊕, names_placed, every, Passes, passes}
use Rattle.standing.specs.Kinds.{starting, rules, rules_clean}
use Rattle.standing.specs.Files.{Whole, eoi, to_core}
use Rattle.standing.specs.Places.{place_before}
use Rattle.standing.specs.MovedParts.{Grove, bare, grown}
use Rattle.standing.specs.MovedDeclarations.{grove_clean}
use Rattle.standing.specs.Carriers.{grove_still}
use Rattle.grammar.specs.Nodes.{clean-⊕}
use Rattle.standing.specs.WholeSources.{nodes_are}

abbrev here : Rule
here = Rule.endianness_declaration

starting-++ : (x y : List Rule) → starting here x ≡ true → starting here (x ++ y) ≡ true
starting-++ [] y h = never h
starting-++ (r ∷ x) y h = h

hd_first : every hd (starting here) ≡ true
unfolding every grammar
hd_first = refl

-- the line is the first node that is no comment
core_first : (s : List ℕ) (F : Forest) (m : ℕ) → plain core s ≡ took m F → starting here (names F) ≡ true
core_first s F m e = go (plain hd s) (passes hd (starting here) hd_first s) (sym (core_hd s) ∙ e)
  where
    go : (o : Out) → Passes (starting here) o → seq_e o (λ n. plain body (drop n s)) ≡ took m F → starting here (names F) ≡ true
    go missed p q = absurd (subst Took (sym q) tt)
    go (took n f) p q =
        let x = took_part n m f F (plain body (drop n s)) q in
        ap (starting here) (ap names x.1.1.1 ∙ names-⊕ f (shift n x.0)) ∙ starting-++ (names f) (names (shift n x.0)) p

pub line_first : {s : List ℕ} {w : Forest} → Whole s w → starting here (rules (clean w)) ≡ true
line_first {s} {w} h =
    let c = to_core h in
    ap (λ (v : Forest). starting here (rules (clean v))) c.places
    ∙ ap (starting here) (rules_clean (placed 0 c.bare) ∙ names_placed 0 c.bare) ∙ core_first s c.bare (length s) c.takes

-- ---- a first node stands, whatever follows
pub record Same (p q : Part) : Type 0 where
  pub start : p.start ≡ q.start
  pub len : p.len ≡ q.len

part-⊕ : (v w : Forest) → starting here (rules v) ≡ true → Same (part here (v ⊕ w)) (part here v)
part-⊕ nil w h = never h
part-⊕ (tree q s l k more) w h = rw h (record { start = refl; len = refl })

part_end : (e : ℕ) (w : Forest) → Limits 0 e w → (part here w).start + (part here w).len ≤ e
part_end e nil h = omega arith
part_end e (tree q s l k more) h = go (is here q)
  where
    go : (b : Bool) → (pick b (node s l k more) (absent (tree q s l k more))).start + (pick b (node s l k more) (absent (tree q s l k more))).len ≤ e
    go true = h.1.0
    go false = omega arith

grove_inside : {a e k : ℕ} {v w : Forest} → Grove a e k v w → Limits a e w
grove_inside bare = tt
grove_inside (grown x y i j) = (x, (y, (grove_inside i, grove_inside j)))

-- ---- the words of the line
abbrev sign : List ℕ → ℕ → ℕ → List ℕ
sign src o n = pick (prefixb (bytes "little_endian_packets") (take n (drop o src))) 1 2 ∷ place src o n

sign_still : (s t : List ℕ) (o n : ℕ) → o + n ≤ length s → sign (s ++ t) o n ≡ sign s o n
sign_still s t o n h =
    let d : o ≤ length s = omega arith in
    let p = place_before s t o d in
    let q = place_before s t (o + n) h in
    let x : take n (drop o (s ++ t)) ≡ take n (drop o s) = ap (take n) (drop-append-le o s t d)
    ∙ take-append-le n (drop o s) t (omega (arith, length-drop o s)) in
    ap₂ (λ (y : List ℕ) (z : List ℕ). pick (prefixb (bytes "little_endian_packets") y) 1 2 ∷ z) x
    (ap₂ (λ (a b : SourceLocation). a.offset ∷ a.line ∷ a.column ∷ b.offset ∷ b.line ∷ b.column ∷ []) p q)

module _ {s : List ℕ} {w : Forest} (h : Whole s w) where
  line_of : (v : Forest) → starting here (rules (clean v)) ≡ true → (x : Forest) → Same (part here (clean (v ⊕ x))) (part here (clean v))
  line_of v f x = subst (λ (y : Forest). Same (part here y) (part here (clean v))) (sym (clean-⊕ v x)) (part-⊕ (clean v) (clean x) f)

  pub endianness_is : endianness s (whole s) ≡ sign s (part here (clean w)).start (part here (clean w)).len
  endianness_is =
      let x = line_of w (line_first h) (eoi (length s)) in
      ap (endianness s) (nodes_are h) ∙ ap₂ (sign s) x.start x.len

  pub line_inside : (part here (clean w)).start + (part here (clean w)).len ≤ length s
  line_inside = part_end (length s) (clean w) (grove_inside (grove_clean (grove_still 0 (length s) w (to_core h).holds)))

-- what is added behind does not change the endianness nor its place
pub endianness_stands : {s : List ℕ} (t : List ℕ) {w : Forest} (x : Forest) → Whole s w → Whole (s ++ t) (w ⊕ x)
    → endianness (s ++ t) (whole (s ++ t)) ≡ endianness s (whole s)
endianness_stands {s} t {w} x a b =
    let y = line_of a w (line_first a) x in
    endianness_is b ∙ ap₂ (sign (s ++ t)) y.start y.len
    ∙ sign_still s t (part here (clean w)).start (part here (clean w)).len (line_inside a) ∙ sym (endianness_is a)
