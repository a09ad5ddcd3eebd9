-- A list as the walk goes over it, item by item: the frame of the loop, for any item.
use Rattle.std.specs.Prelude.{ℕ, ◌+◌, ◌-◌, ◌≤◌, ◌<◌, ◌≡◌, List, [], ◌++◌, Some, None, true, false, length, take, drop}
use Rattle.std.proofs.Common.{arith, ap, ap₂, subst, sym, ◌∙◌, append_assoc, append-nil}
use Rattle.std.specs.Borrow.{MutBor, GName}
use Rattle.meaning.specs.Peg.{Peg, run, bytewise, hit, taken}
use Rattle.meaning.specs.Forest.{Forest, nil, ◌⊕◌, nodes}
use Rattle.meaning.specs.Tables.{Item, Lent}
use Rattle.grammar.specs.Matching.{eats}
use Rattle.grammar.specs.Stars.{hit_pos}
use Rattle.grammar.specs.Steps.{rest_is}
use Rattle.grammar.specs.Drawing.{Draws}
use Rattle.grammar.specs.Limits.{took_inside}
use Rattle.spans.specs.declared.Matched.{Matched}
use Rattle.walk.specs.declared.Turn.{Turn}
use Rattle.walk.specs.declared.Walk.{Walk}
use Rattle.walk.specs.declared.Walked.{Walked}
use Rattle.walk.specs.State.{Wrote, At, Goes, Tallied}
use Rattle.walk.specs.Steps.{wrote_none, wrote_then, wrote_as, tallied_then, at_on}
use Rattle.walk.specs.Turns.{rest, past, Over, first_item}
use Rattle.walk.specs.Listing.{inside}
use Rattle.walk.specs.Nexts.{Turned, turn_last, turn_goes, turn_next_in, Next, next, none_comma, none_item}

-- a slice that is lent, by its name and its length
abbrev pub Slice : Type 0
Slice = GName × ℕ

abbrev pub slice_of : MutBor (List ℕ) → Slice
slice_of t = (t.ghost_name, length t.now)

-- What a list is of: its expression, what its matcher promises of an answer, the nodes that the answer draws of a text that stands
-- at an offset, and what the walk meets in some nodes, by the items before them. It goes over one item at a time.
pub record Form (A : Type 0) : Type 1 where
  pub peg : Peg
  pub draw : Matched A → List ℕ → ℕ → Forest
  pub Answered : List ℕ → Matched A → Type 0
  pub drawn : (t : List ℕ) (c : Matched A) → Answered t c → Draws peg t c.at (draw c t)
  pub items : List ℕ → List Item → Forest → List Item
  pub some : eats (bytewise peg) ≡ true
  pub none : (src : List ℕ) (xs : List Item) → items src xs nil ≡ []
  pub one : (src : List ℕ) (xs : List Item) (c : Matched A) (t : List ℕ) (o : ℕ) (w : Forest)
      → items src xs (draw c t o ⊕ w) ≡ items src xs (draw c t o) ++ items src (xs ++ items src xs (draw c t o)) w

module _ {A : Type 0} (z : Form A) (src : List ℕ) where
  -- the list's nodes from `at` on, and where its last item ends
  abbrev pub list_nodes : ℕ → Forest
  list_nodes at = nodes (bytewise (inside z.peg)) at (drop at src)

  abbrev pub stop : ℕ → ℕ
  stop at = past z.peg src (at + taken (run (bytewise z.peg) (drop at src)))

  -- where the answer c at i ends
  abbrev pub end_of : ℕ → Matched A → ℕ
  end_of i c = i + taken c.at

  -- the answer c at i is a match
  pub record Found (i : ℕ) (c : Matched A) : Type 0 where
    pub within : i ≤ length src
    pub hits : hit c.at ≡ true
    pub answered : z.Answered (drop i src) c

  -- the walk has come to it
  pub record Ready (i : ℕ) (c : Matched A) (n : Walk) : Type 0 where
    pub came : At src i n
    pub found : Found i c

  -- the walk goes over the answer c at i, whatever items stand before it; and over the list at `at`
  pub record GoesOne (i : ℕ) (c : Matched A) (n r : Walk) (a b : Lent → Lent) : Type 0 where
    pub wrote : (xs : List Item) → Tallied xs n → Wrote (z.items src xs (z.draw c (drop i src) i)) n r a b
    pub came : At src (end_of i c) r

  pub record GoesAll (at : ℕ) (n r : Walk) (a b : Lent → Lent) : Type 0 where
    pub wrote : (xs : List Item) → Tallied xs n → Wrote (z.items src xs (list_nodes at)) n r a b
    pub came : At src (stop at) r

  -- the same, where the code also says where the last item ends
  pub record GoesList (at : ℕ) (n : Walk) (r : Walked) (a b : Lent → Lent) : Type 0 where
    pub all : GoesAll at n r.walk a b
    pub end : r.end ≡ stop at

  -- what the walk has done of a list where it has come to the answer c at i, and what is left
  pub record Left (at : ℕ) (n : Walk) (a : Lent → Lent) (i : ℕ) (c : Matched A) (m : Walk) (b : Lent → Lent) (xs : List Item) : Type 0 where
    pub so_far : List Item
    pub wrote : Wrote so_far n m a b
    pub left : z.items src xs (list_nodes at) ≡ so_far ++ z.items src (xs ++ so_far) (z.draw c (drop i src) i ⊕ rest z.peg src (end_of i c))

  pub record Turning (at : ℕ) (n : Walk) (a : Lent → Lent) (i : ℕ) (c : Matched A) (m : Walk) (b : Lent → Lent) : Type 0 where
    pub came : At src i m
    pub item : Found i c
    pub ends : past z.peg src (end_of i c) ≡ stop at
    pub left : (xs : List Item) → Tallied xs n → Left at n a i c m b xs

module _ {A : Type 0} {z : Form A} {src : List ℕ} where
  -- ---- an answer takes a byte, and ends in the source
  pub found_drawn : {i : ℕ} {c : Matched A} → Found z src i c → Draws z.peg (drop i src) c.at (z.draw c (drop i src))
  found_drawn {i} {c} f = z.drawn (drop i src) c f.answered

  pub found_hit : {i : ℕ} {c : Matched A} → Found z src i c → hit (run (bytewise z.peg) (drop i src)) ≡ true
  found_hit f = ap hit (sym (found_drawn f).reads.is) ∙ f.hits

  pub found_some : {i : ℕ} {c : Matched A} → Found z src i c → i < end_of z src i c
  found_some {i} {c} f =
      omega (arith, hit_pos (bytewise z.peg) (drop i src) z.some (found_hit f), ap taken (found_drawn f).reads.is)

  pub found_in : {i : ℕ} {c : Matched A} → Found z src i c → end_of z src i c ≤ length src
  found_in {i} {c} f = omega (arith, took_inside src i f.within (found_drawn f).reads, f.within)

  -- the code's answer is of a part of the source
  pub found_at : {i : ℕ} (c : Matched A) → i ≤ length src → z.Answered (take (length src - i) (drop i src)) c → hit c.at ≡ true → Found z src i c
  found_at {i} c w d h = record { within = w; hits = h; answered = subst (λ (u : List ℕ). z.Answered u c) (rest_is i src) d }

  -- where its items are these, the walk has gone over it
  pub one_done : {at len : ℕ} {c : Matched A} {n r : Walk} {a b : Lent → Lent} {ys : List Item} → len ≡ taken c.at
      → ((xs : List Item) → ys ≡ z.items src xs (z.draw c (drop at src) at)) → Goes ys src (at + len) n r a b → GoesOne z src at c n r a b
  one_done {at} {r = r} el e g =
      record { wrote = λ xs ta. wrote_as (e xs) g.wrote; came = subst (λ (k : ℕ). At src (at + k) r) el g.at }

  -- ---- the loop
  pub turn_start : {at : ℕ} {n : Walk} (a : Lent → Lent) {c : Matched A} → At src at n → Found z src at c → Turning z src at n a at c n a
  turn_start {at} {n} a {c} h f =
      let e : taken (run (bytewise z.peg) (drop at src)) ≡ taken c.at = ap taken (sym (found_drawn f).reads.is) in
      record {
        came = h;
        item = f;
        ends = ap (λ (k : ℕ). past z.peg src (at + k)) (sym e);
        left = λ xs t.
            record {
              so_far = [];
              wrote = wrote_none n a;
              left =
                  ap₂ (z.items src) (sym (append-nil xs))
                  (first_item z.peg src at (found_hit f)
                  ∙ ap₂ (λ (v : Forest) (k : ℕ). v ⊕ rest z.peg src (at + k)) ((found_drawn f).draws f.hits at) e);
            };
      }

  module _ {at : ℕ} {n : Walk} {a : Lent → Lent} {i : ℕ} {c : Matched A} {m : Walk} {b : Lent → Lent} (w : Turning z src at n a i c m b)
      {r : Walk} {d : Lent → Lent} (g : GoesOne z src i c m r b d) where
    abbrev own : List Item → List Item
    own xs = z.items src xs (z.draw c (drop i src) i)

    -- what is left behind the answer
    turn_left : (xs : List Item) (t : Tallied xs n) → z.items src xs (list_nodes z src at)
        ≡ ((w.left xs t).so_far ++ own (xs ++ (w.left xs t).so_far)) ++ z.items src (xs ++ ((w.left xs t).so_far ++ own (xs ++ (w.left xs t).so_far)))
        (rest z.peg src (end_of z src i c))
    turn_left xs t =
        let ys : List Item = (w.left xs t).so_far in
        (w.left xs t).left
        ∙ ap (λ (zs : List Item). ys ++ zs) (z.one src (xs ++ ys) c (drop i src) i (rest z.peg src (end_of z src i c)))
        ∙ sym (append_assoc ys (own (xs ++ ys)) _)
        ∙ ap (λ (zs : List Item). (ys ++ own (xs ++ ys)) ++ z.items src zs (rest z.peg src (end_of z src i c))) (append_assoc xs ys (own (xs ++ ys)))

    turn_wrote : (xs : List Item) (t : Tallied xs n) → Wrote ((w.left xs t).so_far ++ own (xs ++ (w.left xs t).so_far)) n r a d
    turn_wrote xs t = wrote_then (w.left xs t).wrote (g.wrote (xs ++ (w.left xs t).so_far) (tallied_then t (w.left xs t).wrote))

    -- no further item follows j, where the answer ends
    turn_done : {j : ℕ} → j ≡ end_of z src i c → Over z.peg src j → GoesAll z src at n r a d
    turn_done {j} ej o =
        let e : rest z.peg src (end_of z src i c) ≡ nil = ap (rest z.peg src) (sym ej) ∙ o.nodes_are in
        let q : stop z src at ≡ end_of z src i c = sym w.ends ∙ ap (past z.peg src) (sym ej) ∙ o.ends ∙ ej in
        record {
          wrote = λ xs t.
              wrote_as
              (sym (turn_left xs t
              ∙ ap (λ (v : Forest). ((w.left xs t).so_far ++ own (xs ++ (w.left xs t).so_far))
              ++ z.items src (xs ++ ((w.left xs t).so_far ++ own (xs ++ (w.left xs t).so_far))) v) e
              ∙ ap (λ (zs : List Item). ((w.left xs t).so_far ++ own (xs ++ (w.left xs t).so_far)) ++ zs) (z.none src _) ∙ append-nil _))
              (turn_wrote xs t);
          came = subst (λ (k : ℕ). At src k r) (sym q) g.came;
        }

    turn_end : {j : ℕ} → j ≡ end_of z src i c → Over z.peg src j → j ≡ stop z src at
    turn_end {j} ej o = sym o.ends ∙ ap (past z.peg src) ej ∙ w.ends

    -- the answer x at e follows
    turn_more : {j e : ℕ} {x : Matched A} → j ≡ end_of z src i c → Next z.peg src j e x.at (z.draw x (drop e src)) → Found z src e x
        → Turning z src at n a e x r d
    turn_more {j} {e} {x} ej f y =
        let h : Next z.peg src (end_of z src i c) e x.at (z.draw x (drop e src)) = subst
        (λ (k : ℕ). Next z.peg src k e x.at (z.draw x (drop e src))) ej f in
        record {
          came = at_on (omega (arith, h.behind)) y.within g.came;
          item = y;
          ends = sym h.ends ∙ w.ends;
          left = λ xs t.
              record {
                so_far = (w.left xs t).so_far ++ own (xs ++ (w.left xs t).so_far);
                wrote = turn_wrote xs t;
                left =
                    turn_left xs t
                    ∙ ap (λ (v : Forest). ((w.left xs t).so_far ++ own (xs ++ (w.left xs t).so_far))
                    ++ z.items src (xs ++ ((w.left xs t).so_far ++ own (xs ++ (w.left xs t).so_far))) v) h.nodes_are;
              };
        }

-- ---- the loop's code: t is the turn behind the answer c at i, and x the answer where another item would stand
module _ {A : Type 0} {z : Form A} {src : List ℕ} {at : ℕ} {n : Walk} {a : Lent → Lent} {i : ℕ} {c : Matched A} {m : Walk} {b : Lent → Lent}
    (w : Turning z src at n a i c m b) where
  pub item_in : i + taken c.at ≤ length src
  item_in = found_in w.item

  module _ {t : Turn} (h : Turned src i c.at t) where
    list_done : {r : Walk} {d : Lent → Lent} → GoesOne z src i c m r b d → Over z.peg src t.end
        → GoesList z src at n (record { walk = r; end = t.end }) a d
    list_done g o = record { all = turn_done w g h.end o; end = turn_end w g h.end o }

    -- no comma
    pub comma_done : {r : Walk} {d : Lent → Lent} → GoesOne z src i c m r b d → t.next ≡ None
        → GoesList z src at n (record { walk = r; end = t.end }) a d
    comma_done g q = list_done g (none_comma z.peg src t.end (turn_last h q))

    module _ {e : ℕ} (q : t.next ≡ Some e) where
      pub next_in : e ≤ length src
      next_in = turn_next_in h item_in q

      module _ (x : Matched A) (answer : z.Answered (take (length src - e) (drop e src)) x) where
        there : z.Answered (drop e src) x
        there = subst (λ (u : List ℕ). z.Answered u x) (rest_is e src) answer

        -- a comma, and no item behind it
        pub item_done : {r : Walk} {d : Lent → Lent} → GoesOne z src i c m r b d → hit x.at ≡ false
            → GoesList z src at n (record { walk = r; end = t.end }) a d
        item_done g f =
            list_done g
            (none_item z.peg src t.end e (turn_goes h q).1 (turn_goes h q).0 x.at f (z.drawn (drop e src) x there).reads)

        -- another item
        module _ (f : hit x.at ≡ true) where
          follows : Next z.peg src t.end e x.at (z.draw x (drop e src))
          follows = next z.peg src t.end e (turn_goes h q).1 (turn_goes h q).0 x.at _ f (z.drawn (drop e src) x there)

          pub item_more : {r : Walk} {d : Lent → Lent} → GoesOne z src i c m r b d → Turning z src at n a e x r d
          item_more g = turn_more w g h.end follows (record { within = next_in; hits = f; answered = there })

          pub item_less : length src - e < length src - i
          item_less = omega (arith, follows.behind, h.end, next_in)
