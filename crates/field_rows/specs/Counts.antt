-- One field's items, by its description, its condition, and how many constraints stand before it.
use Rattle.std.specs.Prelude.{ℕ, ◌+◌, ◌≡◌, refl, List, [], ◌∷◌, ◌++◌}
use Rattle.meaning.specs.Choice.{pick}
use Rattle.meaning.specs.Forest.{Forest}
use Rattle.meaning.specs.Rules.{Rule}
use Rattle.meaning.specs.Tables.{Table, Item, row, count, first_of}
use Rattle.meaning.specs.Rows.{field_words}
use Rattle.meaning.specs.Walk.{Part, node, part, following, place, name, optional, numbers, constraint_number, constraint_row, parse_constraint_list, Desc, described, parse_field}

abbrev pub shape : List Item → List Item → List Item → List Item → List ℕ → List Item
shape condition numbers constraints row_of ws = condition ++ (numbers ++ constraints) ++ row_of ++ row Table.fields ws ∷ []

abbrev pub rows : List ℕ → Desc → ℕ
rows src d = count Table.constraints (parse_constraint_list src d.group)

unfoldable pub field_by : List ℕ → ℕ → Desc → Part → ℕ → ℕ → List Item
field_by src k d if s l =
    shape (pick if.found (constraint_number src if) []) (numbers src d.ints) (parse_constraint_list src d.group)
    (pick if.found (constraint_row src if) [])
    (field_words d.kind (place src s l) (name d.a) (name d.b) (name d.c) (optional src d.na) (optional src d.nb)
    (first_of k (rows src d)) (rows src d) (pick if.found (k + rows src d + 1) 0))

pub field_by_lem : (src : List ℕ) (xs : List Item) (s l : ℕ) (kids more : Forest)
    → parse_field src xs (node s l kids more) ≡ field_by src (count Table.constraints xs) (described kids) (part Rule.constraint (following kids)) s l
unfolding parse_field field_by
field_by_lem src xs s l kids more = refl
