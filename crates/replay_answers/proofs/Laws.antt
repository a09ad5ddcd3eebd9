-- The laws of the replay: what stands on a page, the head, an entry and the tally.
use Prim.Native.Nat.{ℕ, ◌+◌, ◌-◌, ◌≤◌, ◌<◌}
use mathlib.Core.Path.{◌≡◌, sym, ap, ◌∙◌}
use mathlib.Core.List.{List, [], ◌∷◌, ◌++◌}
use mathlib.Core.Bool.{Bool, true, false, not}
use native.Mathlib.Numerals.{add-one}
use native.Mathlib.Omega.{arith}
use lib.Dec.{eqb}
use lib.ListN.{length, get_or, take, drop, length-drop, take-append-drop, drop_of_length-le}
use lib.Seq.{length-take-le, drop-cons, drop-drop}
use Rattle.printing.specs.Pages.{Wrote}
use Rattle.printing.specs.Lines.{line}
use Rattle.printing.specs.Room.{whole}
use Rattle.replay_answers.specs.declared.entries.Entry.{Entry}
use Rattle.replay_answers.specs.declared.Tally.{Tally}
use Rattle.replay_answers.specs.Entries.{part, over, heading, entry, Ends, EntryAt}
use Rattle.std.specs.Bool.{Decides}
use Rattle.printing.specs.declared.pages.Page.{Page}
use Rattle.replay_answers.specs.Tallies.{Bounds, Step, same, other, Replayed, here, more, start}

-- an answer that is not true: the fact does not hold
pub untold : (r : Bool) (fact : Type 0) → Decides r fact → r ≡ false → fact → ⊥
untold r fact s e h = let z : ◌≡◌ {A = ℕ} 0 1 = cc (s.1 h) in omega arith

-- ---- what stands on a page of n bytes on which nothing stood: the text, where it has room
pub shows : {text : List ℕ} {p q : Page} {lent s : List ℕ} {n : ℕ} → length text ≤ n → n ≡ length lent → p.bytes.now ≡ lent → p.at ≡ 0
    → Wrote text p q → s ≡ take q.at q.bytes.now → s ≡ text
shows {p} {n = n} few room b z w e = let l : length p.bytes.now ≡ n = ap length b ∙ sym room in e ∙ (whole w z (omega arith)).1

-- ---- the head
module _ (list : List ℕ) (i : ℕ) (inside : Bool) where
  pub head_stops : i < length list → over inside (get_or list i 0) ≡ true → i + heading inside (drop i list) ≡ i
  unfolding heading
  head_stops h e = rw (drop-cons list i 0 h, e) (omega arith)

  pub head_goes : i < length list → over inside (get_or list i 0) ≡ false
      → i + heading inside (drop i list) ≡ i + 1 + heading (not (eqb (get_or list i 0) 10)) (drop (i + 1) list)
  unfolding heading
  head_goes h e = rw (add-one i, drop-cons list i 0 h, e) (omega arith)

  pub head_ends : length list ≤ i → i + heading inside (drop i list) ≡ i
  unfolding heading
  head_ends h = rw (drop_of_length-le list h) (omega arith)

-- ---- an entry
cut : (list : List ℕ) (a b : ℕ) → a ≤ b → drop a list ≡ part list a b ++ drop b list
cut list a b h =
    let e : a + (b - a) ≡ b = omega arith in
    sym (take-append-drop (b - a) (drop a list)) ∙ ap (λ (t : List ℕ). part list a b ++ t) (drop-drop (b - a) a list ∙ ap (λ (n : ℕ). drop n list) e)

part_length : (list : List ℕ) (a b : ℕ) → b ≤ length list → length (part list a b) ≡ b - a
part_length list a b h = length-take-le (b - a) (drop a list) (omega (arith, length-drop a list))

fed : (list : List ℕ) (a : ℕ) → a < length list → get_or list a 0 ≡ 10 → drop a list ≡ 10 ∷ drop (a + 1) list
fed list a h e = rw (add-one a) (drop-cons list a 0 h ∙ cc)

module _ (list : List ℕ) (at source n m stop last : ℕ) (from : at ≤ source) where
  pub entry_stands : Ends list source n stop → Ends list (stop + 1) m last → part list at source ≡ line 83 (n ∷ m ∷ [])
      → drop at list ≡ entry (part list source stop) (part list (stop + 1) last) (drop (last + 1) list)
  unfolding entry
  entry_stands s l e =
      let u : last ≡ stop + 1 + m = l.is in
      let w : stop ≡ source + n = s.is in
      let p : n ≡ length (part list source stop) = omega (arith, s.inside, part_length list source stop (omega (arith, s.inside))) in
      let q : m ≡ length (part list (stop + 1) last) = omega (arith, l.inside, part_length list (stop + 1) last (omega (arith, l.inside))) in
      let c1 : drop at list ≡ part list at source ++ drop source list = cut list at source from in
      let c2 : drop source list ≡ part list source stop ++ drop stop list = cut list source stop (omega arith) in
      let c3 : drop stop list ≡ 10 ∷ drop (stop + 1) list = fed list stop s.inside s.feed in
      let c4 : drop (stop + 1) list ≡ part list (stop + 1) last ++ drop last list = cut list (stop + 1) last (omega arith) in
      let c5 : drop last list ≡ 10 ∷ drop (last + 1) list = fed list last l.inside l.feed in
      cc

-- ---- the tally
pub started : (list : List ℕ) (i : ℕ) → i ≡ heading false list → Replayed list (start list) (record { passed = 0; failed = 0; at = i })
started list i e = rw e here

module _ (list : List ℕ) (t : Tally) (e : Entry) where
  pub one_more : {a r : Tally} → Replayed list a t × Bounds list t → EntryAt list t.at e → Step t e r → Replayed list a r × Bounds list r
  one_more {a} k f s = go s
    where
      few : t.passed + t.failed + 1 ≤ e.next
      few = omega (arith, k.1.few, f.from)

      go : {r : Tally} → Step t e r → Replayed list a r × Bounds list r
      go (same z) = (more e k.0 f.stands (same z), record { few = omega arith; inside = f.inside })
      go (other z) = (more e k.0 f.stands (other z), record { few = omega arith; inside = f.inside })
