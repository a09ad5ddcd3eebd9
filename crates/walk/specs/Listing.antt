-- The rule of a list, for every item: it is there where its first item is, and has its items' nodes, which end inside it.
use Rattle.std.specs.Prelude.{ℕ, ◌≤◌, ◌≡◌, refl, List, true, false}
use Rattle.std.proofs.Common.{arith, ◌∙◌}
use Rattle.std.proofs.Math.Path.{ap}
use Rattle.meaning.specs.Rules.{Rule, is}
use Rattle.meaning.specs.Peg.{Peg, seq, opt, rule, run, bytewise, hit, taken}
use Rattle.meaning.specs.Forest.{Forest, nil, tree, ◌⊕◌, nodes}
use Rattle.meaning.specs.Pdl.{text, ◌~◌, repeat, skip, WHITESPACE, COMMENT}
use Rattle.grammar.specs.Hits.{taken_after, hit_seq}
use Rattle.grammar.specs.Nodes.{nil_right, nodes_seq, nodes_rule}
use Rattle.grammar.specs.Silence.{none_of}
use Rattle.walk.specs.Turns.{hit_blank_opt, hit_turns}

-- ---- items of x with commas between
abbrev pub inside : Peg → Peg
inside x = x ~ repeat (text "," ~ x)

inside_is : (x : Peg) (u : List ℕ) → hit (run (bytewise (inside x)) u) ≡ hit (run (bytewise x) u)
inside_is x u = hit_seq (bytewise x) (bytewise (seq skip (repeat (text "," ~ x)))) u (hit_turns x _)

pub inside_hit : (x : Peg) (u : List ℕ) → hit (run (bytewise x) u) ≡ true → hit (run (bytewise (inside x)) u) ≡ true
inside_hit x u h = inside_is x u ∙ h

-- ---- g is the rule k of such items
pub record ListRule (k : Rule) (g x : Peg) : Type 0 where
  pub begins : (u : List ℕ) → hit (run (bytewise g) u) ≡ hit (run (bytewise x) u)
  pub node : (o : ℕ) (u : List ℕ) → hit (run (bytewise x) u) ≡ true
      → nodes (bytewise g) o u ≡ tree k o (taken (run (bytewise g) u)) (nodes (bytewise (inside x)) o u) nil
  pub room : (u : List ℕ) → hit (run (bytewise x) u) ≡ true → taken (run (bytewise (inside x)) u) ≤ taken (run (bytewise g) u)

-- with a last comma or none
abbrev pub last : Peg
last = seq skip (opt (text ","))

last_none : (o : ℕ) (u : List ℕ) → nodes (bytewise last) o u ≡ nil
unfolding skip WHITESPACE COMMENT
last_none o u = none_of (bytewise last) refl o u

abbrev pub list_of : Rule → Peg → Peg
list_of k x = rule k (inside x ~ opt (text ","))

module _ (k : Rule) (x : Peg) (plain : is Rule.COMMENT k ≡ false) where
  pub list_hit : (u : List ℕ) → hit (run (bytewise (list_of k x)) u) ≡ hit (run (bytewise x) u)
  unfolding run
  list_hit u = hit_seq (bytewise (inside x)) (bytewise last) u (hit_blank_opt (text ",") _) ∙ inside_is x u

  pub list_node : (o : ℕ) (u : List ℕ) → hit (run (bytewise x) u) ≡ true
      → nodes (bytewise (list_of k x)) o u ≡ tree k o (taken (run (bytewise (list_of k x)) u)) (nodes (bytewise (inside x)) o u) nil
  unfolding run
  list_node o u h =
      nodes_rule k (bytewise (inside x ~ opt (text ","))) o u plain (list_hit u ∙ h)
      ∙ ap (λ (w : Forest). tree k o (taken (run (bytewise (list_of k x)) u)) w nil)
      (nodes_seq (bytewise (inside x)) (bytewise last) o u (inside_hit x u h) (hit_blank_opt (text ",") _)
      ∙ ap (λ (w : Forest). nodes (bytewise (inside x)) o u ⊕ w) (last_none _ _) ∙ nil_right _)

  list_taken : (u : List ℕ) → hit (run (bytewise x) u) ≡ true → taken (run (bytewise (inside x)) u) ≤ taken (run (bytewise (list_of k x)) u)
  unfolding run
  list_taken u h = omega (arith, taken_after (run (bytewise (inside x)) u) (λ v. run (bytewise last) v) u (list_hit u ∙ h))

  pub comma_list : ListRule k (list_of k x) x
  comma_list = record { begins = list_hit; node = list_node; room = list_taken }

  -- and with none
  pub plain_list : ListRule k (rule k (inside x)) x
  unfolding run
  plain_list =
      record {
        begins = inside_is x;
        node = λ o u h. nodes_rule k (bytewise (inside x)) o u plain (inside_hit x u h);
        room = λ u h. omega arith;
      }
