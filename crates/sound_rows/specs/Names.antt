-- 'A name is offset and length in the source, 0 0 if absent' (01, 'Rows'): of every accepted source each name of a row is absent or a
-- node's, and lies in the source, so that its text is never refused 6. The text has the node's bytes, a function text all of them but
-- the first and the last.
use Rattle.std.specs.Prelude.{◌≡◌, refl, false, List, [], ◌∷◌, ℕ, suc, ◌+◌, ◌-◌, ◌≤◌, ltb, length, get_or, take, drop}
use Rattle.std.proofs.Common.{sym, ap, ◌∙◌, arith, le-ltb, length-drop, length-take-le, take-take, drop-drop}
use Rattle.std.proofs.Math.Seq.{take-nil}
use Rattle.meaning.specs.Rules.{Rule, order}
use Rattle.meaning.specs.Tables.{Table}
use Rattle.meaning.specs.Rows.{row_kind}
use Rattle.meaning.specs.Walk.{Part, text_of}
use Rattle.meaning.specs.Moving.{moving}
use Rattle.meaning.specs.Reading.{name_number, name_text}
use Rattle.sound_rows.specs.Placement.{Known, Stands}
use Rattle.sound_rows.specs.Slots.{Made, nothing, named as of_node, quoted}
use Rattle.sound_rows.specs.Between.{start, name_positions, Names, Named, Laid}

-- a name is made of a node of the source, or it is absent
abbrev pub Name : List ℕ → ℕ → ℕ → Type 0
Name src o n = Made (Stands src) o n

abbrev pub Each : (List ℕ → Type 0) → List (List ℕ) → Type 0
Each P [] = Unit {0}
Each P (ws ∷ rs) = P ws × Each P rs

pub laid_named : (P : Known) (t : Table) (lo hi : ℕ) (rs : List (List ℕ)) → Laid P t lo hi rs → Each (Named (Made P) t) rs
laid_named P t lo hi [] h = tt
laid_named P t lo hi (ws ∷ rs) h = (h.1.0, laid_named P t (start ws + 1) hi rs h.1.1)

-- ---- their texts
module _ (src : List ℕ) where
  name_within : (o n : ℕ) → Name src o n → o + n ≤ length src
  name_within o n nothing = omega arith
  name_within o n (of_node x) = x.within
  name_within o n (quoted x) = omega (arith, x.within, x.bytes)

  inside : (o n : ℕ) → o + n ≤ length src → ltb (length src) (o + n) ≡ false
  inside o n h = le-ltb (length src) (o + n) h

  -- a name that lies in the source, whose text is no refusal 6
  abbrev pub Within : ℕ → ℕ → Type 0
  Within o n = (o + n ≤ length src) × (name_number src o n ≡ 0)

  name_inside : (o n : ℕ) → Name src o n → Within o n
  name_inside o n x = let h = name_within o n x in (h, rw (inside o n h))

  names_within : (ws is : List ℕ) → Names (Name src) ws is → Names Within ws is
  names_within ws [] h = tt
  names_within ws (i ∷ is) h = (name_inside (get_or ws i 0) (get_or ws (i + 1) 0) h.0, names_within ws is h.1)

  pub each_within : (t : Table) (rs : List (List ℕ)) → Each (Named (Name src) t) rs → Each (Named Within t) rs
  each_within t [] h = tt
  each_within t (ws ∷ rs) h = (names_within ws (name_positions (moving t (get_or ws row_kind 0))) h.0, each_within t rs h.1)

  -- a node's name, `name p`, has the node's bytes
  pub name_is : (o : ℕ) (p : Part) → Stands src o p.start p.len → name_text src p.start p.len ≡ text_of src p
  name_is o p x = rw (inside p.start p.len x.within)

-- bytes without the first and the last one
abbrev pub between_ends : List ℕ → List ℕ
between_ends t = take (length t - 2) (drop 1 t)

drop_one : (k : ℕ) (t : List ℕ) → drop 1 (take (suc k) t) ≡ take k (drop 1 t)
drop_one k [] = sym (take-nil k)
drop_one k (x ∷ t) = refl

-- a function text's name, `unquoted p`, has the node's bytes between the first and the last one
pub unquoted_is : (src : List ℕ) (p : Part) → Stands src (order Rule.string) p.start p.len
    → name_text src (p.start + 1) (p.len - 2) ≡ between_ends (text_of src p)
unquoted_is src p x =
    let z : 2 ≤ p.len = x.bytes in
    let h : p.start + p.len ≤ length src = x.within in
    let l = p.len in
    let t = drop p.start src in
    let long : length (take l t) ≡ l = length-take-le l t (omega (arith, length-drop p.start src)) in
    let one : l ≡ suc (l - 1) = omega arith in
    let here : name_text src (p.start + 1) (l - 2) ≡ take (l - 2) (drop (p.start + 1) src) = rw (inside src (p.start + 1) (l - 2) (omega arith)) in
    let inner : drop 1 (take l t) ≡ take (l - 1) (drop 1 t) = ap (λ (k : ℕ). drop 1 (take k t)) one ∙ drop_one (l - 1) t in
    here
    ∙ ap (take (l - 2)) (sym (drop-drop 1 p.start src))
    ∙ sym (ap (λ (k : ℕ). take (k - 2) (drop 1 (take l t))) long ∙ ap (take (l - 2)) inner ∙ take-take (l - 2) (l - 1) (drop 1 t) (omega arith))
