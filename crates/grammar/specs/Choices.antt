-- A choice of which only some parts can match does what those parts do.
use Rattle.std.specs.Prelude.{ℕ, ◌≡◌, refl, List, Bool, true, false}
use Rattle.std.proofs.Common.{ap, sym, ◌∙◌}
use Rattle.meaning.specs.Choice.{pick, either}
use Rattle.meaning.specs.Peg.{Peg, lit, range, any, any_byte, end, neg, seq, alt, star, opt, quiet, rule, prefixb, run, hit, taken}
use Rattle.meaning.specs.Forest.{nodes}
use Rattle.grammar.specs.Hits.{taken_missed, hit_alt, taken_alt}
use Rattle.grammar.specs.Nodes.{nodes_alt}
use Rattle.grammar.specs.Openings.{opens, misses}

-- g does at t what h does
pub record Same (g h : Peg) (t : List ℕ) : Type 0 where
  pub hits : hit (run g t) ≡ hit (run h t)
  pub takes : taken (run g t) ≡ taken (run h t)
  pub nodes_are : hit (run g t) ≡ true → (o : ℕ) → nodes g o t ≡ nodes h o t

same_self : (g : Peg) (t : List ℕ) → Same g g t
same_self g t = record { hits = refl; takes = refl; nodes_are = λ e o. refl }

module _ (a b : Peg) (t : List ℕ) where
  -- the part behind misses
  same_left : (h : Peg) → hit (run b t) ≡ false → Same a h t → Same (alt a b) h t
  same_left h e s =
      record {
        hits = hit_alt a b t ∙ rw e (either_false (hit (run a t))) ∙ s.hits;
        takes = taken_alt a b t ∙ by_hit (hit (run a t)) refl ∙ s.takes;
        nodes_are = λ z o.
            let k : hit (run a t) ≡ true = sym (either_false (hit (run a t))) ∙ ap (either (hit (run a t))) (sym e) ∙ sym (hit_alt a b t) ∙ z in
            nodes_alt a b o t ∙ ap (λ (c : Bool). pick c (nodes a o t) (nodes b o t)) k ∙ s.nodes_are k o;
      }
    where
      either_false : (c : Bool) → either c false ≡ c
      either_false true = refl
      either_false false = refl

      by_hit : (c : Bool) → hit (run a t) ≡ c → pick c (taken (run a t)) (taken (run b t)) ≡ taken (run a t)
      by_hit true q = refl
      by_hit false q = taken_missed (run b t) e ∙ sym (taken_missed (run a t) q)

  -- the part before misses
  same_right : (h : Peg) → hit (run a t) ≡ false → Same b h t → Same (alt a b) h t
  same_right h e s =
      record {
        hits = hit_alt a b t ∙ ap (λ (c : Bool). either c (hit (run b t))) e ∙ s.hits;
        takes = taken_alt a b t ∙ ap (λ (c : Bool). pick c (taken (run a t)) (taken (run b t))) e ∙ s.takes;
        nodes_are = λ z o.
            let k : hit (run b t) ≡ true = sym (hit_alt a b t ∙ ap (λ (c : Bool). either c (hit (run b t))) e) ∙ z in
            nodes_alt a b o t ∙ ap (λ (c : Bool). pick c (nodes a o t) (nodes b o t)) e ∙ s.nodes_are k o;
      }

-- ---- what is left of a choice where none of the texts stands that q tells
abbrev pub left : (List ℕ → Bool) → Peg → Peg
left q (lit l) = lit l
left q (range lo hi) = range lo hi
left q any = any
left q any_byte = any_byte
left q end = end
left q (neg p) = neg p
left q (seq a b) = seq a b
left q (alt a b) = pick (opens q a) (left q b) (pick (opens q b) (left q a) (alt a b))
left q (star p) = star p
left q (opt p) = opt p
left q (quiet p) = quiet p
left q (rule r p) = rule r p

module _ (q : List ℕ → Bool) (t : List ℕ) (gone : (l : List ℕ) → q l ≡ true → prefixb l t ≡ false) where
  pub same : (g : Peg) → Same g (left q g) t
  same (lit l) = same_self (lit l) t
  same (range lo hi) = same_self (range lo hi) t
  same any = same_self any t
  same any_byte = same_self any_byte t
  same end = same_self end t
  same (neg p) = same_self (neg p) t
  same (seq a b) = same_self (seq a b) t
  same (alt a b) = go (opens q a) refl (opens q b) refl (same a) (same b)
    where
      go : (x : Bool) → opens q a ≡ x → (y : Bool) → opens q b ≡ y → Same a (left q a) t → Same b (left q b) t
          → Same (alt a b) (pick x (left q b) (pick y (left q a) (alt a b))) t
      go true e y f k m = same_right a b t (left q b) (ap hit (misses q t gone a e)) m
      go false e true f k m = same_left a b t (left q a) (ap hit (misses q t gone b f)) k
      go false e false f k m = same_self (alt a b) t
  same (star p) = same_self (star p) t
  same (opt p) = same_self (opt p) t
  same (quiet p) = same_self (quiet p) t
  same (rule r p) = same_self (rule r p) t
