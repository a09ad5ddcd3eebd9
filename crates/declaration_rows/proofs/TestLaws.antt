-- A test declaration: it matches, and adds no row.
use Rattle.std.specs.Prelude.{Option, None, Some}
use Prim.Native.Nat.{ℕ, ◌+◌, ◌-◌, ◌≤◌}
use native.Mathlib.Omega.{arith}
use mathlib.Core.Path.{◌≡◌, refl, ap, subst, sym, ◌∙◌}
use mathlib.Core.List.{List, []}
use mathlib.Core.Bool.{true}
use lib.ListN.{length, take, drop}
use Rattle.meaning.specs.declared.Match.{Match}
use Rattle.meaning.specs.Rules.{Rule}
use Rattle.meaning.specs.Peg.{run, bytewise, hit, taken}
use Rattle.meaning.specs.Forest.{Forest, nodes}
use Rattle.meaning.specs.Pdl.{test_declaration}
use Rattle.meaning.specs.Tables.{Item, Lent}
use Rattle.meaning.specs.Walk.{parse_toplevel}
use Rattle.grammar.specs.Matching.{Reads}
use Rattle.grammar.specs.Steps.{rest_is, at as at_part}
use Rattle.grammar.specs.Nodes.{nodes_rule}
use Rattle.grammar.specs.Limits.{took_inside}
use Rattle.walk.specs.declared.Walk.{Walk}
use Rattle.walk.specs.Steps.{wrote_none, wrote_as, at_on}
use Rattle.declaration_rows.specs.declared.kinds.Kind.{Kind}
use Rattle.declaration_rows.specs.Keywords.{Known, kind_of, known}
use Rattle.declaration_rows.specs.Declarations.{Ready, ReadyKind, GoesOne}

test_items : (src : List ℕ) (xs : List Item) (o : ℕ) (t : List ℕ) → hit (run (bytewise test_declaration) t) ≡ true
    → parse_toplevel src xs (nodes (bytewise test_declaration) o t) ≡ []
unfolding test_declaration parse_toplevel run
test_items src xs o t h = ap (λ (v : Forest). parse_toplevel src xs v) (nodes_rule Rule.test_declaration _ o t refl h)

-- ---- the text at `at` as a part of the source
module _ {src : List ℕ} {at : ℕ} {n : Walk} (w : Ready src at n) {kind : Option Kind} (k : kind ≡ kind_of (take (length src - at) (drop at src))) where
  known_as : {z : Option Kind} → kind ≡ z → Known (drop at src) z
  known_as {z} e =
      subst (λ (y : Option Kind). Known (drop at src) y) (sym (ap kind_of (rest_is at src)) ∙ sym k ∙ e) (known (drop at src))

  pub kind_ready : {z : Kind} → kind ≡ Some z → ReadyKind src at z n
  kind_ready e = record { ready = w; known = known_as e }

  module _ (z : kind ≡ None) {m : Match} (r : Reads test_declaration (take (length src - at) (drop at src)) m) where
    pub test_in : at + taken m ≤ length src
    test_in = omega (arith, w.came.within, took_inside src at w.came.within (at_part at src r))

    -- e is how much the code says that it took
    pub test_done : (e : ℕ) (a : Lent → Lent) → e ≡ taken m → GoesOne src at n (record { walk = n; end = at + e }) a a
    test_done e a ee =
        let q : Known (drop at src) None = known_as z in
        let there : hit (run (bytewise test_declaration) (drop at src)) ≡ true = sym q.known.hits ∙ w.hits in
        record {
          wrote = λ xs ta.
              wrote_as (sym (ap (λ (v : Forest). parse_toplevel src xs v) (q.known.nodes_are w.hits at) ∙ test_items src xs at (drop at src) there))
              (wrote_none n a);
          came = at_on (omega arith) (omega (arith, ee, test_in)) w.came;
          ends = ap (λ (i : ℕ). at + i) (ee ∙ ap taken (at_part at src r).is ∙ sym q.known.takes);
        }
