-- The endianness line's words, from the text behind the leading blanks.
use Rattle.std.specs.Prelude.{ℕ, zero, suc, ◌-◌, ◌≤◌, ◌≡◌, refl, List, [], ◌∷◌, Bool, true, false, length, take, drop, eqb}
use Rattle.std.proofs.Common.{arith, ap, ap₂, sym, ◌∙◌}
use Rattle.meaning.specs.declared.Match.{Match}
use Rattle.meaning.specs.declared.Match.TheVariants.{Missed, Took}
use Rattle.meaning.specs.declared.SourceLocation.{SourceLocation}
use Rattle.meaning.specs.Choice.{pick, both}
use Rattle.meaning.specs.Quoted.{bytes}
use Rattle.meaning.specs.Peg.{lit, prefixb, after, or_else, run, bytewise, hit, taken}
use Rattle.meaning.specs.Rules.{Rule}
use Rattle.meaning.specs.Forest.{Forest}
use Rattle.meaning.specs.Pdl.{text, WHITESPACE, endianness_declaration}
use Rattle.meaning.specs.Places.{place_at}
use Rattle.meaning.specs.Rows.{endianness_words}
use Rattle.meaning.specs.Walk.{part, text_of, place, endianness}
use Rattle.grammar.specs.Matching.{Reads}
use Rattle.grammar.specs.Hits.{hit_join, taken_join}
use Rattle.grammar.specs.Steps.{rest_is}
use Rattle.reading.specs.declared.files.Line.{Line}
use Rattle.reading.specs.Lines.{line_start, line_length, line_end, Lined}
use Rattle.reading.specs.FileNodes.{line_hit, line_node, line_node_length}
use Rattle.reading.specs.Sources.{Matched, whole, joined}

abbrev pub little : List ℕ
little = bytes "little_endian_packets"

-- ---- a text in the first n bytes
prefix_take : (l t : List ℕ) (n : ℕ) → length l ≤ n → prefixb l (take n t) ≡ prefixb l t
prefix_take [] t n h = refl
prefix_take (x ∷ l) t zero h = absurd (omega arith)
prefix_take (x ∷ l) [] (suc n) h = refl
prefix_take (x ∷ l) (y ∷ t) (suc n) h = ap (both (eqb x y)) (prefix_take l t n (omega arith))

prefix_short : (l t : List ℕ) (n : ℕ) → prefixb l t ≡ false → prefixb l (take n t) ≡ false
prefix_short [] t n h = h
prefix_short (x ∷ l) t zero h = refl
prefix_short (x ∷ l) [] (suc n) h = refl
prefix_short (x ∷ l) (y ∷ t) (suc n) h = go (eqb x y) (λ e. prefix_short l t n e) h
  where
    go : (b : Bool) → (prefixb l t ≡ false → prefixb l (take n t) ≡ false) → both b (prefixb l t) ≡ false → both b (prefixb l (take n t)) ≡ false
    go true i e = i e
    go false i e = refl

-- ---- the line takes the whole word
line_long : (t : List ℕ) → prefixb little t ≡ true → hit (run (bytewise endianness_declaration) t) ≡ true
    → length little ≤ taken (run (bytewise endianness_declaration) t)
unfolding run endianness_declaration
line_long t e h = go (prefixb little t) e h
  where
    q : List ℕ → Match
    q u = run (text "big_endian_packets") u

    p : List ℕ → Match
    p u = run (bytewise WHITESPACE) u

    go : (b : Bool) → b ≡ true → hit (after (or_else (pick b (Took (length little) 0) (Missed 1)) q t) p t) ≡ true
        → length little ≤ taken (after (or_else (pick b (Took (length little) 0) (Missed 1)) q t) p t)
    go true e h = omega (arith, taken_join (length little) 0 (p (drop (length little) t)) (sym (hit_join (length little) 0 (p (drop (length little) t))) ∙ h))
    go false e h = absurd (let z : ◌≡◌ {A = ℕ} 0 1 = cc in omega arith)

line_says : (t : List ℕ) → hit (run (bytewise endianness_declaration) t) ≡ true
    → prefixb little (take (taken (run (bytewise endianness_declaration) t)) t) ≡ prefixb little t
line_says t h = go (prefixb little t) refl
  where
    go : (b : Bool) → prefixb little t ≡ b → prefixb little (take (taken (run (bytewise endianness_declaration) t)) t) ≡ prefixb little t
    go true e = prefix_take little t (taken (run (bytewise endianness_declaration) t)) (line_long t e h)
    go false e = prefix_short little t (taken (run (bytewise endianness_declaration) t)) e ∙ sym e

-- 1 little or 2 big, as the text t says at its front
abbrev pub byte_order : List ℕ → ℕ
byte_order t = pick (prefixb little t) 1 2

-- from the match of the word
order_by : (t : List ℕ) {m : Match} {b : Bool} → Reads (lit little) t m → b ≡ hit m → pick b 1 2 ≡ byte_order t
unfolding run
order_by t h e = ap (λ (b : Bool). pick b 1 2) (e ∙ ap hit h.is ∙ go (prefixb little t))
  where
    go : (b : Bool) → hit (pick b (Took (length little) 0) (Missed 1)) ≡ b
    go true = refl
    go false = refl

pub order_little : {t : List ℕ} {m : Match} {b : Bool} → Reads (lit little) t m → b ≡ hit m → b ≡ true → 1 ≡ byte_order t
order_little {t} h e q = ap (λ (b : Bool). pick b 1 2) (sym q) ∙ order_by t h e

pub order_big : {t : List ℕ} {m : Match} {b : Bool} → Reads (lit little) t m → b ≡ hit m → b ≡ false → 2 ≡ byte_order t
order_big {t} h e q = ap (λ (b : Bool). pick b 1 2) (sym q) ∙ order_by t h e

-- ---- the words of a file that the grammar matches
line_words : {src : List ℕ} → Matched src → endianness src (whole src)
    ≡ endianness_words (byte_order (drop (line_start src) src)) (place src (line_start src) (line_length src))
unfolding line_length
line_words {src} m =
    ap
    (λ (w : Forest).
    let line = part Rule.endianness_declaration (part Rule.file w).kids in
    endianness_words (byte_order (text_of src line)) (place src line.start line.len))
    (joined m)
    ∙ ap₂ (λ (o n : ℕ). endianness_words (byte_order (take n (drop o src))) (place src o n)) (line_node src m.hits) (line_node_length src m.hits)
    ∙ ap (λ (b : Bool). endianness_words (pick b 1 2) (place src (line_start src) (line_length src)))
    (line_says (drop (line_start src) src) (line_hit src m.hits))

-- x is the line, k is said at its start, p and q are its places
pub endianness_done : {src : List ℕ} {x : Line} {k : ℕ} {p q : SourceLocation} → Matched src → Lined src x
    → k ≡ byte_order (take (length src - x.start) (drop x.start src))
    → p ≡ place_at src x.start → q ≡ place_at src x.end
    → k ∷ p.offset ∷ p.line ∷ p.column ∷ q.offset ∷ q.line ∷ q.column ∷ [] ≡ endianness src (whole src)
endianness_done {src} {x} {k} {p} {q} m h e i j =
    let s : k ≡ byte_order (drop (line_start src) src) = e ∙ ap byte_order (rest_is x.start src) ∙ ap (λ (o : ℕ). byte_order (drop o src)) h.starts in
    let a : p ≡ place_at src (line_start src) = i ∙ ap (place_at src) h.starts in
    let b : q ≡ place_at src (line_end src) = j ∙ ap (place_at src) h.ends in
    rw (s, a, b) (sym (line_words m))
