-- What the Rust's walk makes of the nodes that a matcher's answer draws: the items, in the words of the answer.
use Rattle.std.specs.Prelude.{ℕ, ◌+◌, ◌≡◌, List, [], ◌∷◌}
use Rattle.std.proofs.Math.Path.{refl}
use Rattle.meaning.specs.Rules.{Rule}
use Rattle.meaning.specs.Forest.{Forest, ◌⊕◌}
use Rattle.meaning.specs.Places.{place_at}
use Rattle.meaning.specs.Tables.{Table, row}
use Rattle.meaning.specs.Walk.{node, constraint_number, constraint_row}
use Rattle.spans.specs.declared.Span.{Span}
use Rattle.spans.specs.declared.Operand.{Operand}
use Rattle.spans.specs.declared.Operand.TheVariants.{Identifier, Integer}
use Rattle.spans.specs.Drawn.{leaf_at, draw_operand}
use Rattle.walk.specs.Terms.{number_at, operand_number, integer_items, span_name, operand_name, constraint_kind, words_of_constraint}

-- ---- a constraint: o is where the text of its spans starts, s and l are its own place
module _ (src : List ℕ) (o s l : ℕ) (id : Span) (more : Forest) where
  pub constraint_items : (v : Operand) → constraint_number src (node s l (leaf_at Rule.identifier o id ⊕ draw_operand o v) more)
      ≡ integer_items (operand_number src o v)
  unfolding constraint_number number_at
  constraint_items (Identifier x) = refl
  constraint_items (Integer x) = refl

  pub constraint_words : (v : Operand) → constraint_row src (node s l (leaf_at Rule.identifier o id ⊕ draw_operand o v) more)
      ≡ row Table.constraints (words_of_constraint (constraint_kind v) (place_at src s) (place_at src (s + l)) (span_name o id) (operand_name o v)
      (operand_number src o v)) ∷ []
  unfolding constraint_row words_of_constraint number_at
  constraint_words (Identifier x) = refl
  constraint_words (Integer x) = refl
