-- The pass finds the comments of an accepted source: for every expression of which no part but comments and strings takes a
-- slash or a quote, and so for `file`.
use Rattle.std.specs.Prelude.{ℕ, suc, ◌+◌, ◌≤◌, Bool, length, drop}
use Rattle.std.proofs.Common.{arith, add-zero, ◌∙◌, subst, length-drop}
use Rattle.std.proofs.Math.Path.{◌≡◌, refl, ap, sym}
use mathlib.Core.List.{List, [], ◌∷◌, ◌++◌, append-nil}
use Rattle.std.proofs.Math.Bool.{true, false}
use borrow.Author.Tests.{eqb-true}
use Rattle.std.proofs.Math.Dec.{eqb}
use Rattle.meaning.specs.declared.Match.{Match}
use Rattle.meaning.specs.declared.Match.TheVariants.{Missed, Took}
use Rattle.meaning.specs.Choice.{pick, both}
use Rattle.meaning.specs.Rules.{Rule, is}
use Rattle.meaning.specs.Peg.{Peg, lit, range, any, any_byte, end, neg, seq, alt, star, opt, quiet, rule, prefixb, one_byte, at_end, within, run, bytewise, hit}
use Rattle.meaning.specs.Forest.{nil, tree, Out, missed, took, outcome, leaf, join_o, after_o, note_o, eval, forest}
use Rattle.meaning.specs.Pdl.{◌~◌, repeat, block_comment, line_comment, COMMENT, skip, string, endianness_declaration, declaration, SOI, EOI, file, rules}
use Rattle.meaning.specs.Tables.{Item}
use Rattle.meaning.specs.Walk.{comment_row, comments}
use Rattle.grammar.specs.Picks.{both_1, both_2}
use Rattle.grammar.specs.Agree.{same}
use Rattle.comments.specs.Lex.{lex, lexical}
use Rattle.comments.specs.LexLaws.{lex_none, lex_plain, lex_comment, lex_string, plain_byte, not_first, not_second}
use Rattle.comments.specs.Yields.{Yields, comments_node, yields_nil, yields_after, yields_many, yields_or_else, yields_maybe, yields_turned, yields_hushed, yields_note}

-- ---- the test
abbrev plain_bytes : List ℕ → Bool
plain_bytes [] = true
plain_bytes (x ∷ l) = both (plain_byte x) (plain_bytes l)

-- no part but comments and strings takes a slash or a quote
abbrev plain : Peg → Bool
plain (lit l) = plain_bytes l
plain (range lo hi) = pick (within lo hi 47) false (pick (within lo hi 34) false true)
plain any = false
plain any_byte = false
plain end = true
plain (neg p) = true
plain (seq a b) = both (plain a) (plain b)
plain (alt a b) = both (plain a) (plain b)
plain (star p) = plain p
plain (opt p) = plain p
plain (quiet p) = plain p
plain (rule r p) = pick (is Rule.COMMENT r) true (pick (is Rule.string r) true (plain p))

-- the same expression, with the grammar's own comments and strings for the nodes of these names
abbrev usual : Peg → Peg
usual (lit l) = lit l
usual (range lo hi) = range lo hi
usual any = any
usual any_byte = any_byte
usual end = end
usual (neg p) = neg (usual p)
usual (seq a b) = seq (usual a) (usual b)
usual (alt a b) = alt (usual a) (usual b)
usual (star p) = star (usual p)
usual (opt p) = opt (usual p)
usual (quiet p) = quiet (usual p)
usual (rule r p) = pick (is Rule.COMMENT r) (bytewise COMMENT) (pick (is Rule.string r) (bytewise string) (rule r (usual p)))

-- ---- comments and strings have no comments in them
abbrev none : ℕ → List ℕ → List Item
none o t = []

module _ (src : List ℕ) where
  bare_leaf : (m : Match) (o : ℕ) (t : List ℕ) → Yields src none (leaf m) o t
  unfolding comments
  bare_leaf (Missed f) o t = tt
  bare_leaf (Took n f) o t = refl

  bare_upto : (l : List ℕ) (o : ℕ) (t : List ℕ) → Yields src none (eval (star (seq (neg (lit l)) any_byte)) o t) o t
  unfolding eval
  bare_upto l o t =
      yields_many src none (suc (length t)) (λ i u. eval (seq (neg (lit l)) any_byte) i u) o t
      (λ i u. yields_after src none (eval (neg (lit l)) i u) (λ j v. eval any_byte j v) i u (yields_turned src none (eval (lit l) i u) i u)
      (λ j v. bare_leaf (one_byte (λ x. true) v) j v))

  bare_line : (a c : List ℕ) (o : ℕ) (t : List ℕ) → Yields src none (eval (seq (lit a) (star (seq (neg (lit c)) any_byte))) o t) o t
  unfolding eval run
  bare_line a c o t =
      yields_after src none (eval (lit a) o t) (λ i u. eval (star (seq (neg (lit c)) any_byte)) i u) o t (bare_leaf (run (lit a) t) o t)
      (λ i u. bare_upto c i u)

  bare_enclosed : (a c : List ℕ) (o : ℕ) (t : List ℕ) → Yields src none (eval (seq (seq (lit a) (star (seq (neg (lit c)) any_byte))) (lit c)) o t) o t
  unfolding eval run
  bare_enclosed a c o t =
      yields_after src none (eval (seq (lit a) (star (seq (neg (lit c)) any_byte))) o t) (λ i u. eval (lit c) i u) o t (bare_line a c o t)
      (λ i u. bare_leaf (run (lit c) u) i u)

  -- ---- a comment, and a string
  bare_none : (xs : List Item) → [] ≡ xs ++ [] → xs ≡ []
  bare_none xs e = sym (e ∙ append-nil xs)

  comment_yields : (o : ℕ) (t : List ℕ) → Yields src (lex src 0) (eval (bytewise COMMENT) o t) o t
  unfolding eval run COMMENT block_comment line_comment
  comment_yields o t =
      go (eval body o t) (same body o t)
      (yields_or_else src none (eval (bytewise block_comment) o t) (λ i u. eval (bytewise line_comment) i u) o t
      (bare_enclosed (47 ∷ 42 ∷ []) (42 ∷ 47 ∷ []) o t) (bare_line (47 ∷ 47 ∷ []) (10 ∷ []) o t))
    where
      body : Peg
      body = alt (bytewise block_comment) (bytewise line_comment)

      go : (x : Out) → outcome x ≡ run body t → Yields src none x o t → Yields src (lex src 0) (note_o Rule.COMMENT o x) o t
      go (missed f) e b = tt
      go (took n f w) e b =
          let a : run (bytewise COMMENT) t ≡ Took n f = sym e in
          let z : comments src w ≡ [] = bare_none (comments src w) b in
          let c : comments src (tree Rule.COMMENT o n w nil) ≡ comment_row src o n
          = comments_node src Rule.COMMENT o n w ∙ ap (λ (ys : List Item). comment_row src o n ++ ys) z in
          rw a at (lex_comment src o t (rw a)) ∙ ap (λ (ys : List Item). ys ++ lex src 0 (o + n) (drop n t)) (sym c)

  string_yields : (o : ℕ) (t : List ℕ) → Yields src (lex src 0) (eval (bytewise string) o t) o t
  unfolding eval run string
  string_yields o t = go (eval body o t) (same body o t) (bare_enclosed (34 ∷ []) (34 ∷ []) o t)
    where
      body : Peg
      body = seq (seq (lit (34 ∷ [])) (star (seq (neg (lit (34 ∷ []))) any_byte))) (lit (34 ∷ []))

      go : (x : Out) → outcome x ≡ run body t → Yields src none x o t → Yields src (lex src 0) (note_o Rule.string o x) o t
      go (missed f) e b = tt
      go (took n f w) e b =
          let a : run (bytewise string) t ≡ Took n f = sym e in
          let c : comments src (tree Rule.string o n w nil) ≡ [] = comments_node src Rule.string o n w ∙ bare_none (comments src w) b in
          rw a at (lex_string src o t (rw a)) ∙ ap (λ (ys : List Item). ys ++ lex src 0 (o + n) (drop n t)) (sym c)

  -- ---- texts and ranges of plain bytes
  text_on : (l t : List ℕ) (o : ℕ) → plain_bytes l ≡ true → prefixb l t ≡ true → lex src 0 o t ≡ lex src 0 (o + length l) (drop (length l) t)
  text_on [] t o s h = rw add-zero
  text_on (x ∷ l) [] o s h = cc
  text_on (x ∷ l) (y ∷ t) o s h =
      let e : x ≡ y = eqb-true x y (both_1 (eqb x y) (prefixb l t) h) in
      let q : o + 1 + length l ≡ o + suc (length l) = omega arith in
      let p : plain_byte y ≡ true = rw (← e) (both_1 (plain_byte x) (plain_bytes l) s) in
      lex_plain src o y t (not_first (eqb 47 y) (eqb 34 y) p) (not_second (eqb 47 y) (eqb 34 y) p)
      ∙ text_on l t (o + 1) (both_2 (plain_byte x) (plain_bytes l) s) (both_2 (eqb x y) (prefixb l t) h) ∙ rw q

  lit_yields : (l : List ℕ) (o : ℕ) (t : List ℕ) → plain_bytes l ≡ true → (b : Bool) → prefixb l t ≡ b
      → Yields src (lex src 0) (leaf (pick b (Took (length l) 0) (Missed 1))) o t
  unfolding comments
  lit_yields l o t s true h = text_on l t o s h
  lit_yields l o t s false h = tt

  range_yields : (f : ℕ → Bool) (o : ℕ) (t : List ℕ) → f 47 ≡ false → f 34 ≡ false → Yields src (lex src 0) (leaf (one_byte f t)) o t
  unfolding comments
  range_yields f o [] h k = tt
  range_yields f o (x ∷ t) h k = go (f x) refl
    where
      other : (a : ℕ) → f a ≡ false → f x ≡ true → (b : Bool) → eqb a x ≡ b → eqb a x ≡ false
      other a d e true q = let z : a ≡ x = eqb-true a x q in let y : true ≡ false = sym e ∙ ap f (sym z) ∙ d in cc
      other a d e false q = q

      go : (b : Bool) → f x ≡ b → Yields src (lex src 0) (leaf (pick b (Took 1 0) (Missed 1))) o (x ∷ t)
      go true e = lex_plain src o x t (other 47 h e (eqb 47 x) refl) (other 34 k e (eqb 34 x) refl)
      go false e = tt

  end_yields : (o : ℕ) (t : List ℕ) → Yields src (lex src 0) (leaf (at_end t)) o t
  end_yields o [] = yields_nil src (lex src 0) o 0 []
  end_yields o (x ∷ t) = tt

  node_yields : (r : Rule) (p : Peg) (o : ℕ) (t : List ℕ) (b c : Bool) → is Rule.COMMENT r ≡ b → pick b true (pick c true (plain p)) ≡ true
      → (plain p ≡ true → Yields src (lex src 0) (eval (usual p) o t) o t)
      → Yields src (lex src 0) (eval (pick b (bytewise COMMENT) (pick c (bytewise string) (rule r (usual p)))) o t) o t
  unfolding eval
  node_yields r p o t true c e h q = comment_yields o t
  node_yields r p o t false true e h q = string_yields o t
  node_yields r p o t false false e h q = yields_note src (lex src 0) r (eval (usual p) o t) o t e (q h)

  -- ---- every plain expression
  plain_yields : (g : Peg) → plain g ≡ true → (o : ℕ) (t : List ℕ) → Yields src (lex src 0) (eval (usual g) o t) o t
  unfolding eval
  plain_yields (lit l) h o t = lit_yields l o t h (prefixb l t) refl
  plain_yields (range lo hi) h o t =
      range_yields (within lo hi) o t (not_first (within lo hi 47) (within lo hi 34) h) (not_second (within lo hi 47) (within lo hi 34) h)
  plain_yields any h o t = absurd (let z : ◌≡◌ {A = ℕ} 0 1 = cc in omega arith)
  plain_yields any_byte h o t = absurd (let z : ◌≡◌ {A = ℕ} 0 1 = cc in omega arith)
  plain_yields end h o t = end_yields o t
  plain_yields (neg p) h o t = yields_turned src (lex src 0) (eval (usual p) o t) o t
  plain_yields (seq a b) h o t =
      yields_after src (lex src 0) (eval (usual a) o t) (λ i u. eval (usual b) i u) o t (plain_yields a (both_1 (plain a) (plain b) h) o t)
      (λ i u. plain_yields b (both_2 (plain a) (plain b) h) i u)
  plain_yields (alt a b) h o t =
      yields_or_else src (lex src 0) (eval (usual a) o t) (λ i u. eval (usual b) i u) o t (plain_yields a (both_1 (plain a) (plain b) h) o t)
      (plain_yields b (both_2 (plain a) (plain b) h) o t)
  plain_yields (star p) h o t = yields_many src (lex src 0) (suc (length t)) (λ i u. eval (usual p) i u) o t (λ i u. plain_yields p h i u)
  plain_yields (opt p) h o t = yields_maybe src (lex src 0) (eval (usual p) o t) o t (plain_yields p h o t)
  plain_yields (quiet p) h o t = yields_hushed src (lex src 0) (eval (usual p) o t) o t (plain_yields p h o t)
  plain_yields (rule r p) h o t = node_yields r p o t (is Rule.COMMENT r) (is Rule.string r) refl h (λ q. plain_yields p q o t)

-- ---- a match that ends at the end
abbrev Ends : Out → List ℕ → Type 0
Ends (missed f) t = Unit {0}
Ends (took n f w) t = length t ≤ n

ends_after : (x : Out) (p : ℕ → List ℕ → Out) (o : ℕ) (t : List ℕ) → ((i : ℕ) (u : List ℕ) → Ends (p i u) u) → Ends (after_o x p o t) t
ends_after (missed f) p o t h = tt
ends_after (took n f w) p o t h = go (p (o + n) (drop n t)) (h (o + n) (drop n t))
  where
    go : (y : Out) → Ends y (drop n t) → Ends (join_o n f w y) t
    go (missed g) e = tt
    go (took k g v) e = omega (arith, length-drop n t)

ends_note : (r : Rule) (x : Out) (o : ℕ) (t : List ℕ) → Ends x t → Ends (note_o r o x) t
ends_note r (missed f) o t e = tt
ends_note r (took n f w) o t e = e

ends_end : (t : List ℕ) → Ends (leaf (at_end t)) t
ends_end [] = omega arith
ends_end (x ∷ t) = tt

file_ends : (o : ℕ) (t : List ℕ) → Ends (eval (bytewise file) o t) t
unfolding eval file EOI
file_ends o t =
    ends_note Rule.file (eval (bytewise (seq head (seq skip EOI))) o t) o t
    (ends_after (eval (bytewise head) o t) (λ i u. eval (bytewise (seq skip EOI)) i u) o t
    (λ i u. ends_after (eval (bytewise skip) i u) (λ j v. eval (bytewise EOI) j v) i u
    (λ j v. ends_note Rule.EOI (eval end j v) j v (ends_end v))))
  where
    head : Peg
    head = SOI ~ endianness_declaration ~ repeat declaration

-- ---- the grammar: both tests by computation
file_plain : plain (bytewise file) ≡ true
unfolding rules
file_plain = refl

file_usual : usual (bytewise file) ≡ bytewise file
unfolding rules
file_usual = refl

-- the pass over an accepted source finds the comments of its forest, in order
pub lexed : (t : List ℕ) → hit (run (bytewise file) t) ≡ true → lexical t ≡ comments t (forest (eval (bytewise file) 0 t))
lexed t h =
    go (eval (bytewise file) 0 t) (same (bytewise file) 0 t) (file_ends 0 t)
    (subst (λ (g : Peg). Yields t (lex t 0) (eval g 0 t) 0 t) file_usual (plain_yields t (bytewise file) file_plain 0 t))
  where
    go : (x : Out) → outcome x ≡ run (bytewise file) t → Ends x t → Yields t (lex t 0) x 0 t → lexical t ≡ comments t (forest x)
    go (missed f) q e y = let z : true ≡ false = sym h ∙ ap hit (sym q) in cc
    go (took n f w) q e y =
        let z : lex t 0 (0 + n) (drop n t) ≡ [] = lex_none t 0 (0 + n) (drop n t) (omega (arith, length-drop n t)) in
        y ∙ ap (λ (xs : List Item). comments t w ++ xs) z ∙ append-nil (comments t w)
