-- The next item of a list, where the walk has come to the end of one.
use Rattle.std.specs.Prelude.{ℕ, ◌+◌, ◌≤◌, ◌<◌, ◌≡◌, refl, List, Option, Some, None, true, false, length, drop}
use Rattle.std.proofs.Common.{arith, ap, ap₂, subst, sym, ◌∙◌, drop-drop}
use Rattle.meaning.specs.declared.Match.{Match}
use Rattle.meaning.specs.declared.Match.TheVariants.{Missed, Took}
use Rattle.meaning.specs.Peg.{Peg, run, bytewise, hit, taken}
use Rattle.meaning.specs.Forest.{Forest, ◌⊕◌, nodes}
use Rattle.meaning.specs.Pdl.{skip}
use Rattle.grammar.specs.Matching.{Reads, eats}
use Rattle.grammar.specs.Stars.{hit_pos}
use Rattle.grammar.specs.Steps.{reads}
use Rattle.grammar.specs.Drawing.{Draws}
use Rattle.grammar.specs.Limits.{run_inside}
use Rattle.walk.specs.declared.Turn.{Turn}
use Rattle.walk.specs.Turns.{comma, rest, past, Over, next_item, next_past, no_comma, no_item}

abbrev comma_at : List ℕ → ℕ → Match
comma_at src j = run (bytewise comma) (drop j src)

-- behind a comma at j another item would stand; where none is, none would
abbrev pub next_from : ℕ → Match → Option ℕ
next_from j (Missed f) = None
next_from j (Took n f) = Some (j + n)

-- behind an item that matched at i as m: where it ends, and where another item would stand, if a comma follows
pub record Turned (src : List ℕ) (i : ℕ) (m : Match) (t : Turn) : Type 0 where
  pub end : t.end ≡ i + taken m
  pub next : t.next ≡ next_from t.end (comma_at src t.end)

next_none : (j : ℕ) (k : Match) → next_from j k ≡ None → hit k ≡ false
next_none j (Missed f) q = refl
next_none j (Took n f) q = cc

next_some : (j : ℕ) (k : Match) {e : ℕ} → next_from j k ≡ Some e → (hit k ≡ true) × (e ≡ j + taken k)
next_some j (Missed f) q = cc
next_some j (Took n f) q = (refl, cc)

-- x matches as r behind a comma that follows j, at e; w are its nodes
pub record Next (x : Peg) (src : List ℕ) (j e : ℕ) (r : Match) (w : ℕ → Forest) : Type 0 where
  pub behind : j < e
  pub nodes_are : rest x src j ≡ w e ⊕ rest x src (e + taken r)
  pub ends : past x src j ≡ past x src (e + taken r)

comma_some : eats (bytewise comma) ≡ true
unfolding skip
comma_some = refl

module _ (x : Peg) (src : List ℕ) (j : ℕ) where
  abbrev k : Match
  k = comma_at src j

  hk : Reads comma (drop j src) k
  hk = reads comma (drop j src) k refl

  pub none_comma : hit k ≡ false → Over x src j
  none_comma h = no_comma x src j k (run (bytewise x) (drop (taken k) (drop j src))) hk (reads x (drop (taken k) (drop j src)) _ refl) h

  -- d is what x answers at e, where the comma ends
  module _ (e : ℕ) (q : e ≡ j + taken k) (there : hit k ≡ true) (d : Match) where
    moved : Reads x (drop e src) d → Reads x (drop (taken k) (drop j src)) d
    moved h = subst (λ (u : List ℕ). Reads x u d) (ap (λ (i : ℕ). drop i src) q ∙ sym (drop-drop (taken k) j src)) h

    pub none_item : hit d ≡ false → Reads x (drop e src) d → Over x src j
    none_item h r = no_item x src j k d hk (moved r) there h

    pub next : (w : ℕ → Forest) → hit d ≡ true → Draws x (drop e src) d w → Next x src j e d w
    next w h r =
        record {
          behind = omega (arith, q, hit_pos (bytewise comma) (drop j src) comma_some there);
          nodes_are =
              next_item x src j k d hk (moved r.reads) there h
              ∙ ap₂ ◌⊕◌
              (ap (λ (i : ℕ). nodes (bytewise x) i (drop i src)) (sym q) ∙ r.draws h e)
              (ap (λ (i : ℕ). rest x src (i + taken d)) (sym q));
          ends = next_past x src j k d hk (moved r.reads) there h ∙ ap (λ (i : ℕ). past x src (i + taken d)) (sym q);
        }

-- ---- the code's turn behind an item that ends in the source
module _ {src : List ℕ} {i : ℕ} {m : Match} {t : Turn} (h : Turned src i m t) where
  pub turn_last : t.next ≡ None → hit (comma_at src t.end) ≡ false
  turn_last q = next_none t.end (comma_at src t.end) (sym h.next ∙ q)

  pub turn_goes : {e : ℕ} → t.next ≡ Some e → (hit (comma_at src t.end) ≡ true) × (e ≡ t.end + taken (comma_at src t.end))
  turn_goes q = next_some t.end (comma_at src t.end) (sym h.next ∙ q)

  pub turn_next_in : i + taken m ≤ length src → {e : ℕ} → t.next ≡ Some e → e ≤ length src
  turn_next_in within q = omega (arith, (turn_goes q).1, run_inside src t.end comma (omega (arith, h.end, within)))
