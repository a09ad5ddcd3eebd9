-- One source, computed: the starts of its rows, a function text, and lent words behind its rows. It has a range tag with a row inside,
-- constraints of a header, a group and a condition, a test, and comments.
use Rattle.std.specs.Prelude.{ℕ, ◌+◌, ◌-◌, ◌*◌, ◌≡◌, refl, List, [], ◌∷◌, ◌++◌, get_or, drop, replicate}
use Rattle.meaning.specs.Quoted.{bytes}
use Rattle.meaning.specs.Tables.{Table, size, Item, rows_of, Lent, lent}
use Rattle.meaning.specs.Rows.{declaration_other_offset, declaration_other_length}
use Rattle.meaning.specs.Moving.{moving}
use Rattle.meaning.specs.Reading.{Reading, refused, accepted, reading, answer, name_text}
use Rattle.meaning.specs.Everything.{everything}
use Rattle.sound_rows.specs.Between.{name_positions}
use Rattle.sound_rows.specs.Ascending.{starts}

abbrev source : List ℕ
source =
    bytes "big_endian_packets\n"
    ++ bytes "/* a */ enum E : 8 { A = 1, R = 2..4 { B = 3 }, O = .. } // b\n"
    ++ bytes "packet P (x = 1) { G { y = 2 } if z = 3, w: 8 }\n"
    ++ bytes "test P { \"00\" } checksum C : 8 \"f\""

abbrev items : Reading → List Item
items (refused n p r) = []
items (accepted e xs) = xs

abbrev rows : Table → List (List ℕ)
rows t = rows_of t (items (reading source))

-- ---- the starts, table by table; the range tag's row stands before the one inside it
starts_are : (starts (rows Table.declarations) ≡ 27 ∷ 81 ∷ 145 ∷ [])
    × ((starts (rows Table.fields) ≡ 100 ∷ 122 ∷ [])
    × ((starts (rows Table.tags) ≡ 40 ∷ 47 ∷ 58 ∷ 67 ∷ [])
    × ((starts (rows Table.constraints) ≡ 91 ∷ 104 ∷ 115 ∷ [])
    × (starts (rows Table.comments) ≡ 19 ∷ 76 ∷ []))))
unfolding everything
starts_are = (refl, (refl, (refl, (refl, refl))))

-- ---- where each table's rows have names
positions_are : (name_positions (moving Table.declarations 2) ≡ 7 ∷ 9 ∷ [])
    × ((name_positions (moving Table.fields 12) ≡ 7 ∷ 9 ∷ 11 ∷ [])
    × ((name_positions (moving Table.tags 1) ≡ 7 ∷ [])
    × ((name_positions (moving Table.constraints 2) ≡ 7 ∷ 9 ∷ [])
    × (name_positions (moving Table.comments 1) ≡ []))))
positions_are = (refl, (refl, (refl, (refl, refl))))

-- ---- the function text of the last declaration
abbrev last : List ℕ
last = get_or (rows Table.declarations) 2 []

function_text : name_text source (get_or last declaration_other_offset 0) (get_or last declaration_other_length 0) ≡ bytes "f"
unfolding everything
function_text = refl

-- ---- tables of 9s: two words more than three declarations need, and just enough of the others
abbrev nines : Lent
nines =
    record {
      w1 = replicate (3 * size Table.declarations + 2) 9;
      w2 = replicate (2 * size Table.fields) 9;
      w3 = replicate (4 * size Table.tags) 9;
      w4 = replicate (3 * size Table.constraints) 9;
      w5 = replicate (2 * size Table.comments) 9;
    }

-- the last row's last word, and the two behind it
words_behind : drop (3 * size Table.declarations - 1) (lent Table.declarations (answer source nines).left) ≡ 0 ∷ 9 ∷ 9 ∷ []
unfolding everything
words_behind = refl
