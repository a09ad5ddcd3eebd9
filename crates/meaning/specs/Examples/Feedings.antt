-- Worked examples of feeding: each kind of field, with a condition and damaged too; refusals 10 and 12 to 17 with their places, and which
-- of two comes first. There are three placed rows and two chunk rows.
use Rattle.std.specs.Prelude.{ℕ, refl, List, [], ◌∷◌, ◌++◌, map, length, replicate, get_or}
use Rattle.meaning.specs.Tables.{flat}
use Rattle.meaning.specs.Rows.{declaration_words, field_words}
use Rattle.meaning.specs.Reading.{zeros}
use Rattle.meaning.specs.Feeding.{Layout, layout}
use Rattle.meaning.specs.Everything.{everything}
use Rattle.meaning.specs.Papers.{blank_placed, blank_chunks, shown}
use Rattle.meaning.specs.Examples.{Hold, ◌are◌}

-- ---- rows of which only the words that feeding looks at are told
-- kind, first and count
abbrev declaration : ℕ → ℕ → ℕ → List ℕ
declaration kind first count = declaration_words kind (zeros 6) (zeros 2) (zeros 2) (zeros 2) first count 0 0

-- kind, flag and number a, flag b, condition
abbrev field : ℕ → ℕ → ℕ → ℕ → ℕ → List ℕ
field kind flag width other condition = field_words kind (zeros 6) (zeros 2) (zeros 2) (zeros 2) (flag ∷ width ∷ []) (other ∷ 0 ∷ []) 0 0 condition

-- a scalar of so many bits, and a payload
abbrev scalar : ℕ → List ℕ
scalar width = field 12 1 width 0 0

abbrev payload : List ℕ
payload = field 7 0 0 0 0

-- the layout of declaration d; of a packet with these fields
abbrev laid : List (List ℕ) → List (List ℕ) → ℕ → Layout
laid ds fs d = layout (flat ds) (flat fs) d blank_placed blank_chunks

abbrev packet : List (List ℕ) → Layout
packet fs = laid (declaration 2 0 (length fs) ∷ []) fs 0

abbrev answer : Layout → List ℕ
answer x = x.number ∷ x.place ∷ []

-- ---- every kind from 0 to 15 alone: the number, and the chunk's kind where one is made
abbrev kinds : List ℕ
kinds = 0 ∷ 1 ∷ 2 ∷ 3 ∷ 4 ∷ 5 ∷ 6 ∷ 7 ∷ 8 ∷ 9 ∷ 10 ∷ 11 ∷ 12 ∷ 13 ∷ 14 ∷ 15 ∷ []

abbrev each_number : (ℕ → List ℕ) → List ℕ
each_number f = map (λ k. (packet (f k ∷ [])).number) kinds

abbrev each_chunk : (ℕ → List ℕ) → List ℕ
each_chunk f = map (λ k. get_or (packet (f k ∷ [])).cs 0 0) kinds

pub every_kind : Hold (
    -- number a is there, and no condition
    (each_number (λ k. field k 1 8 0 0) are 17 ∷ 0 ∷ 0 ∷ 0 ∷ 0 ∷ 0 ∷ 0 ∷ 0 ∷ 0 ∷ 14 ∷ 0 ∷ 0 ∷ 0 ∷ 14 ∷ 14 ∷ 17 ∷ [])
    ∷ (each_chunk (λ k. field k 1 8 0 0) are 0 ∷ 0 ∷ 0 ∷ 1 ∷ 1 ∷ 1 ∷ 3 ∷ 3 ∷ 1 ∷ 0 ∷ 1 ∷ 3 ∷ 1 ∷ 0 ∷ 0 ∷ 0 ∷ [])
    -- number a is not there
    ∷ (each_number (λ k. field k 0 0 0 0) are 17 ∷ 0 ∷ 17 ∷ 17 ∷ 17 ∷ 17 ∷ 0 ∷ 0 ∷ 17 ∷ 14 ∷ 17 ∷ 0 ∷ 17 ∷ 14 ∷ 14 ∷ 17 ∷ [])
    -- with a condition: dynamic bytes, but damage comes first
    ∷ (each_number (λ k. field k 1 8 0 1) are 17 ∷ 0 ∷ 0 ∷ 0 ∷ 0 ∷ 0 ∷ 0 ∷ 0 ∷ 0 ∷ 0 ∷ 0 ∷ 0 ∷ 0 ∷ 0 ∷ 0 ∷ 17 ∷ [])
    ∷ (each_chunk (λ k. field k 1 8 0 1) are 0 ∷ 3 ∷ 3 ∷ 3 ∷ 3 ∷ 3 ∷ 3 ∷ 3 ∷ 3 ∷ 3 ∷ 3 ∷ 3 ∷ 3 ∷ 3 ∷ 3 ∷ 0 ∷ [])
    ∷ (each_number (λ k. field k 0 0 0 5) are 17 ∷ 0 ∷ 17 ∷ 17 ∷ 17 ∷ 17 ∷ 0 ∷ 0 ∷ 17 ∷ 0 ∷ 17 ∷ 0 ∷ 17 ∷ 0 ∷ 0 ∷ 17 ∷ [])
    -- a flag over 1
    ∷ (each_number (λ k. field k 2 8 0 0) are replicate 16 17)
    ∷ (each_number (λ k. field k 1 8 2 0) are replicate 16 17)
    ∷ (each_number (λ k. field k 1 8 1 0) are each_number (λ k. field k 1 8 0 0))
    ∷ [])
unfolding everything
every_kind = refl

-- ---- 15 and 17 of a declaration, with its index; 15 comes first
pub declarations : Hold (
    (map (λ k. (laid (declaration k 0 1 ∷ []) (scalar 8 ∷ []) 0).number) (0 ∷ 1 ∷ 2 ∷ 3 ∷ 4 ∷ 5 ∷ 6 ∷ []) are 15 ∷ 15 ∷ 0 ∷ 0 ∷ 0 ∷ 15 ∷ 15 ∷ [])
    ∷ (answer (laid (declaration 2 0 0 ∷ declaration 1 0 0 ∷ []) [] 1) are 15 ∷ 1 ∷ [])
    ∷ (answer (laid (declaration 2 0 0 ∷ declaration 2 0 0 ∷ []) [] 1) are 0 ∷ 0 ∷ [])
    ∷ (answer (laid (declaration 2 0 0 ∷ declaration 2 0 0 ∷ []) [] 2) are 15 ∷ 2 ∷ [])
    ∷ (answer (layout (declaration 2 0 0 ++ zeros 16) [] 1 [] []) are 15 ∷ 1 ∷ [])
    ∷ (answer (laid (declaration 2 0 0 ∷ declaration 2 1 2 ∷ []) (scalar 8 ∷ scalar 8 ∷ scalar 8 ∷ []) 1) are 0 ∷ 0 ∷ [])
    ∷ (answer (laid (declaration 2 0 0 ∷ declaration 2 1 3 ∷ []) (scalar 8 ∷ scalar 8 ∷ scalar 8 ∷ []) 1) are 17 ∷ 1 ∷ [])
    ∷ (answer (laid (declaration 2 0 0 ∷ declaration 2 4 0 ∷ []) (scalar 8 ∷ scalar 8 ∷ scalar 8 ∷ []) 1) are 17 ∷ 1 ∷ [])
    ∷ (answer (laid (declaration 1 4 4 ∷ []) [] 0) are 15 ∷ 0 ∷ [])
    ∷ (answer (layout (declaration 3 0 2) (scalar 8 ++ scalar 8) 0 blank_placed blank_chunks) are 0 ∷ 0 ∷ [])
    ∷ (answer (layout (declaration 3 0 2) (scalar 8 ++ zeros 19) 0 blank_placed blank_chunks) are 17 ∷ 0 ∷ [])
    ∷ [])
unfolding everything
declarations = refl

-- ---- refusals of a field, with its row; of the end, with the first staged field's row
pub fields : Hold (
    (answer (packet (scalar 3 ∷ payload ∷ [])) are 10 ∷ 1 ∷ [])
    ∷ (answer (packet (scalar 60 ∷ scalar 5 ∷ [])) are 12 ∷ 1 ∷ [])
    ∷ (answer (packet (scalar 1 ∷ scalar 1 ∷ scalar 1 ∷ scalar 1 ∷ [])) are 13 ∷ 3 ∷ [])
    ∷ (answer (packet (payload ∷ payload ∷ payload ∷ [])) are 13 ∷ 2 ∷ [])
    ∷ (answer (packet (scalar 8 ∷ field 13 0 0 0 0 ∷ scalar 3 ∷ [])) are 14 ∷ 1 ∷ [])
    ∷ (answer (packet (scalar 3 ∷ field 13 0 0 0 0 ∷ [])) are 14 ∷ 1 ∷ [])
    ∷ (answer (packet (scalar 8 ∷ scalar 3 ∷ scalar 2 ∷ [])) are 16 ∷ 1 ∷ [])
    ∷ (answer (packet (scalar 0 ∷ [])) are 16 ∷ 0 ∷ [])
    ∷ (answer (packet (scalar 8 ∷ field 12 0 0 0 0 ∷ [])) are 17 ∷ 1 ∷ [])
    -- what comes first in the order of the fields is told
    ∷ (answer (packet (scalar 65 ∷ field 0 0 0 0 0 ∷ [])) are 12 ∷ 0 ∷ [])
    -- rows are counted in the whole table, and a symbol is a row's index there
    ∷ (answer (laid (declaration 2 2 2 ∷ []) (scalar 8 ∷ scalar 8 ∷ scalar 8 ∷ scalar 3 ∷ []) 0) are 16 ∷ 3 ∷ [])
    ∷ [])
unfolding everything
fields = refl

-- ---- what is left: number, place, counts, placed rows, chunk rows; a refusal leaves the tables as they came
pub layouts : Hold (
    (shown (laid (declaration 4 1 3 ∷ []) (scalar 1 ∷ scalar 3 ∷ scalar 5 ∷ payload ∷ []) 0) are
    0 ∷ 0 ∷ 2 ∷ 2 ∷ 1 ∷ 3 ∷ 0 ∷ 2 ∷ 5 ∷ 3 ∷ 0 ∷ 0 ∷ 0 ∷ 1 ∷ 0 ∷ 2 ∷ 8 ∷ 0 ∷ 3 ∷ 0 ∷ 0 ∷ 0 ∷ 3 ∷ [])
    ∷ (shown (layout (declaration 2 0 2) (scalar 8 ++ scalar 3) 0 (replicate 6 9) (replicate 5 9)) are 16 ∷ 1 ∷ 0 ∷ 0 ∷ replicate 11 9)
    ∷ (shown (layout (declaration 1 0 2) (scalar 8 ++ scalar 3) 0 (replicate 6 9) (replicate 5 9)) are 15 ∷ 0 ∷ 0 ∷ 0 ∷ replicate 11 9)
    ∷ (shown (layout (declaration 2 0 1) (scalar 8) 0 (replicate 4 9) (replicate 6 9)) are
    0 ∷ 0 ∷ 1 ∷ 1 ∷ 0 ∷ 8 ∷ 0 ∷ 9 ∷ 1 ∷ 0 ∷ 1 ∷ 8 ∷ 0 ∷ 9 ∷ [])
    ∷ [])
unfolding everything
layouts = refl
