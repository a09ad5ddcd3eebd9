-- Worked examples of matches: every kind of expression, with how much it takes and how far a try failed (the mark: that offset plus 1),
-- as `run` and as `eval` say it; blanks, letters and literals at their borders; the nodes of a match.
use Rattle.std.specs.Prelude.{ℕ, refl, List, [], ◌∷◌, ◌++◌}
use Rattle.meaning.specs.declared.Match.{Match}
use Rattle.meaning.specs.declared.Match.TheVariants.{Missed, Took}
use Rattle.meaning.specs.Quoted.{bytes}
use Rattle.meaning.specs.Rules.{Rule, order}
use Rattle.meaning.specs.Peg.{Peg, range, any, any_byte, end, neg, seq, alt, star, opt, quiet, rule, run, bytewise, hit, taken}
use Rattle.meaning.specs.Forest.{Forest, nil, tree, outcome, eval, forest, nodes}
use Rattle.meaning.specs.Pdl.{text, plus, WHITESPACE, COMMENT, skip, alpha, digit, hexdigit, alphanum, identifier, intvalue, hexvalue, integer, string, size_modifier, endianness_declaration, constraint, file_start, file_line, file_head}
use Rattle.meaning.specs.Everything.{everything}
use Rattle.meaning.specs.Examples.{Hold, Example, ◌is◌, ◌are◌}
use Rattle.meaning.specs.Examples.Choices.{bit}

abbrev told : Match → List ℕ
told (Missed f) = 0 ∷ f ∷ []
told (Took n f) = 1 ∷ n ∷ f ∷ []

-- a try of an expression on a text, and what is wanted of both meanings
pub data Try : Type 0 where
  try : Peg → List ℕ → Match → Try

abbrev tried : List Try → List Example
tried [] = []
tried (try g t m ∷ ts) = (told (run g t) are told m) ∷ (told (outcome (eval g 5 t)) are told m) ∷ tried ts

-- ---- each kind of expression
abbrev ab_or_x : Peg
ab_or_x = seq (text "a") (alt (text "b") (text "x"))

pub expressions : Hold (tried (
    try (text "ab") (bytes "abc") (Took 2 0)
    ∷ try (text "ab") (bytes "ac") (Missed 1)
    ∷ try (text "ab") (bytes "a") (Missed 1)
    ∷ try (text "ab") (bytes "bb") (Missed 1)
    ∷ try (text "b") (bytes "c") (Missed 1)
    ∷ try (text "b") (bytes "a") (Missed 1)
    ∷ try (text "") [] (Took 0 0)
    ∷ try (range 98 100) (97 ∷ []) (Missed 1)
    ∷ try (range 98 100) (98 ∷ []) (Took 1 0)
    ∷ try (range 98 100) (100 ∷ 98 ∷ []) (Took 1 0)
    ∷ try (range 98 100) (101 ∷ []) (Missed 1)
    ∷ try (range 98 100) [] (Missed 1)
    ∷ try any (0xC3 ∷ 0xA9 ∷ 0x41 ∷ []) (Took 2 0)
    ∷ try any (0xA9 ∷ []) (Missed 1)
    ∷ try any [] (Missed 1)
    ∷ try any_byte (0xA9 ∷ 0x41 ∷ []) (Took 1 0)
    ∷ try any_byte [] (Missed 1)
    ∷ try end [] (Took 0 0)
    ∷ try end (97 ∷ []) (Missed 1)
    ∷ try (neg (text "ab")) (bytes "ac") (Took 0 0)
    ∷ try (neg (text "ab")) (bytes "ab") (Missed 0)
    ∷ try (seq (text "ab") (text "c")) (bytes "abcd") (Took 3 0)
    ∷ try (seq (text "ab") (text "c")) (bytes "abd") (Missed 3)
    ∷ try (seq (text "ab") (text "c")) (bytes "ac") (Missed 1)
    ∷ try ab_or_x (bytes "ab") (Took 2 0)
    ∷ try ab_or_x (bytes "ax") (Took 2 2)
    ∷ try ab_or_x (bytes "ac") (Missed 2)
    ∷ try (alt (text "c") ab_or_x) (bytes "ac") (Missed 2)
    ∷ try (alt ab_or_x (text "ac")) (bytes "acd") (Took 2 2)
    ∷ try (star (text "ab")) (bytes "ababac") (Took 4 5)
    ∷ try (star (text "ab")) (bytes "c") (Took 0 1)
    ∷ try (star (text "")) (bytes "c") (Took 0 0)
    ∷ try (seq (star (text "ab")) (text "c")) (bytes "ababc") (Took 5 5)
    ∷ try (opt (text "ab")) (bytes "abc") (Took 2 0)
    ∷ try (opt ab_or_x) (bytes "ac") (Took 0 2)
    ∷ try (seq (opt ab_or_x) (text "c")) (bytes "ac") (Missed 2)
    ∷ try (seq (opt (text "c")) ab_or_x) (bytes "ac") (Missed 2)
    ∷ try (quiet (star (text "ab"))) (bytes "abac") (Took 2 0)
    ∷ try (quiet ab_or_x) (bytes "ac") (Missed 0)
    ∷ try (rule Rule.string ab_or_x) (bytes "ax") (Took 2 2)
    ∷ try (rule Rule.string ab_or_x) (bytes "ac") (Missed 2)
    ∷ []))
unfolding everything
expressions = refl

-- the same with one byte for one character: all kinds in one expression
abbrev mixed : Peg
mixed = rule Rule.string (seq (neg end) (seq (opt (text "x")) (seq (range 97 99) (seq (alt (text "y") any) (seq (quiet (star any)) end)))))

pub bytes_for_characters : Hold (
    (told (run mixed (98 ∷ 0xA9 ∷ [])) are told (Missed 2))
    ∷ (told (run (bytewise mixed) (98 ∷ 0xA9 ∷ [])) are told (Took 2 2))
    ∷ (told (run (bytewise mixed) (98 ∷ 0xA9 ∷ 0xA9 ∷ 0xA9 ∷ [])) are told (Took 4 2))
    ∷ (told (run (bytewise mixed) (120 ∷ 98 ∷ 121 ∷ [])) are told (Took 3 0))
    ∷ (told (run (bytewise (neg any)) (0xA9 ∷ [])) are told (Missed 0))
    ∷ (told (run (bytewise any_byte) (0xA9 ∷ [])) are told (Took 1 0))
    ∷ (bit (hit (Missed 3)) is 0)
    ∷ (bit (hit (Took 2 3)) is 1)
    ∷ (taken (Missed 3) is 0)
    ∷ (taken (Took 2 3) is 2)
    ∷ [])
unfolding everything
bytes_for_characters = refl

-- ---- blanks and comments
pub blanks : Hold (tried (
    try WHITESPACE (bytes " ") (Took 1 0)
    ∷ try WHITESPACE (bytes "\n") (Took 1 1)
    ∷ try WHITESPACE (bytes "\r") (Took 1 1)
    ∷ try WHITESPACE (bytes "\t") (Took 1 1)
    ∷ try WHITESPACE (11 ∷ []) (Missed 1)
    ∷ try WHITESPACE (12 ∷ []) (Missed 1)
    ∷ try COMMENT (bytes "/**/ ") (Took 4 0)
    ∷ try COMMENT (bytes "/*/**/ */") (Took 6 0)
    ∷ try COMMENT (bytes "/*/") (Missed 4)
    ∷ try COMMENT (bytes "*/") (Missed 1)
    ∷ try COMMENT (47 ∷ 42 ∷ 0xC3 ∷ 0xA9 ∷ 42 ∷ 47 ∷ []) (Took 6 0)
    ∷ try COMMENT (bytes "//a\nb") (Took 3 1)
    ∷ try COMMENT (bytes "//a") (Took 3 4)
    ∷ try COMMENT (bytes "/a") (Missed 1)
    ∷ try skip (bytes " \t/**/ //\n\r/**/x") (Took 15 0)
    ∷ try skip (bytes "/**//**/x") (Took 8 0)
    ∷ try skip (bytes "x") (Took 0 0)
    ∷ try skip (bytes "/* x") (Took 0 0)
    ∷ []))
unfolding everything
blanks = refl

-- ---- letters and literals
-- what an expression says of each of some bytes
abbrev of_bytes : Peg → List ℕ → List ℕ
of_bytes g [] = []
of_bytes g (b ∷ bs) = told (run g (b ∷ [])) ++ of_bytes g bs

pub letters : Hold (
    -- ` a z { @ A Z [
    (of_bytes alpha (96 ∷ 97 ∷ 122 ∷ 123 ∷ 64 ∷ 65 ∷ 90 ∷ 91 ∷ []) are
    0 ∷ 1 ∷ 1 ∷ 1 ∷ 0 ∷ 1 ∷ 1 ∷ 0 ∷ 0 ∷ 1 ∷ 0 ∷ 1 ∷ 1 ∷ 1 ∷ 1 ∷ 1 ∷ 1 ∷ 1 ∷ 0 ∷ 1 ∷ [])
    -- / 0 9 :
    ∷ (of_bytes digit (47 ∷ 48 ∷ 57 ∷ 58 ∷ []) are 0 ∷ 1 ∷ 1 ∷ 1 ∷ 0 ∷ 1 ∷ 1 ∷ 0 ∷ 0 ∷ 1 ∷ [])
    -- 9 ` a f g @ A F G
    ∷ (of_bytes hexdigit (57 ∷ 96 ∷ 97 ∷ 102 ∷ 103 ∷ 64 ∷ 65 ∷ 70 ∷ 71 ∷ []) are
    1 ∷ 1 ∷ 0 ∷ 0 ∷ 1 ∷ 1 ∷ 1 ∷ 1 ∷ 1 ∷ 1 ∷ 1 ∷ 0 ∷ 1 ∷ 0 ∷ 1 ∷ 1 ∷ 1 ∷ 1 ∷ 1 ∷ 1 ∷ 1 ∷ 0 ∷ 1 ∷ [])
    -- a 0 _ -
    ∷ (of_bytes alphanum (97 ∷ 48 ∷ 95 ∷ 45 ∷ []) are 1 ∷ 1 ∷ 0 ∷ 1 ∷ 1 ∷ 1 ∷ 1 ∷ 1 ∷ 1 ∷ 0 ∷ 1 ∷ [])
    ∷ [])
unfolding everything
letters = refl

pub literals : Hold (tried (
    try identifier (bytes "aZ09_b-") (Took 6 7)
    ∷ try identifier (bytes "_a") (Missed 1)
    ∷ try identifier (bytes "9a") (Missed 1)
    ∷ try (plus digit) (bytes "1") (Took 1 2)
    ∷ try intvalue (bytes "120x") (Took 3 4)
    ∷ try intvalue (bytes "x") (Missed 1)
    ∷ try hexvalue (bytes "0x1Fag") (Took 5 6)
    ∷ try hexvalue (bytes "0X1") (Took 3 4)
    ∷ try hexvalue (bytes "0x") (Missed 3)
    ∷ try hexvalue (bytes "1F") (Missed 1)
    ∷ try integer (bytes "0x1") (Took 3 4)
    ∷ try integer (bytes "0x") (Took 1 3)
    ∷ try integer (bytes "a") (Missed 1)
    ∷ try string (bytes "\"a//\" \"") (Took 5 0)
    ∷ try string (bytes "\"\"") (Took 2 0)
    ∷ try string (bytes "\"a") (Missed 3)
    ∷ try string (bytes "a\"") (Missed 1)
    ∷ try size_modifier (bytes "+12]") (Took 3 4)
    ∷ try size_modifier (bytes "+ 1") (Missed 2)
    ∷ try size_modifier (bytes "1") (Missed 1)
    ∷ try endianness_declaration (bytes "little_endian_packets ") (Took 22 0)
    ∷ try endianness_declaration (bytes "big_endian_packets ") (Took 19 1)
    -- the three prefixes by which the place of 3 is told
    ∷ try file_start (bytes " /**/x") (Took 5 0)
    ∷ try file_line (bytes " /**/x") (Missed 6)
    ∷ try file_line (bytes " big_endian_packets x") (Took 20 2)
    ∷ try file_head (bytes " /**/x") (Missed 6)
    ∷ try file_head (bytes " big_endian_packets \nx") (Took 21 22)
    ∷ []))
unfolding everything
literals = refl

-- ---- nodes: a rule's number, start and length, its children between 0 and 0, and what follows; comments are in the forest and not
-- among the nodes that are walked
abbrev drawn : Forest → List ℕ
drawn nil = []
drawn (tree r s l k more) = order r ∷ s ∷ l ∷ 0 ∷ drawn k ++ 0 ∷ drawn more

pub nodes_of_a_match : Hold (
    (drawn (forest (eval constraint 7 (bytes "a/**/= 1"))) are
    23 ∷ 7 ∷ 8 ∷ 0 ∷ 2 ∷ 7 ∷ 1 ∷ 0 ∷ 0 ∷ 1 ∷ 8 ∷ 4 ∷ 0 ∷ 0 ∷ 5 ∷ 14 ∷ 1 ∷ 0 ∷ 0 ∷ 0 ∷ [])
    ∷ (drawn (nodes constraint 7 (bytes "a/**/= 1")) are 23 ∷ 7 ∷ 8 ∷ 0 ∷ 2 ∷ 7 ∷ 1 ∷ 0 ∷ 0 ∷ 5 ∷ 14 ∷ 1 ∷ 0 ∷ 0 ∷ 0 ∷ [])
    ∷ (drawn (nodes constraint 7 (bytes "a 1")) are [])
    ∷ (drawn (forest (eval (star integer) 7 (bytes "1"))) are 5 ∷ 7 ∷ 1 ∷ 0 ∷ 0 ∷ [])
    ∷ [])
unfolding everything
nodes_of_a_match = refl
