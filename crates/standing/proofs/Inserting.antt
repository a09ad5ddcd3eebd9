-- W12, inserting: what the definitions of `specs/Inserting` are promised of.
use Rattle.std.specs.Prelude.{ℕ, ◌+◌, ◌≤◌, ◌<◌, ◌≡◌, false, List, ◌∷◌, ◌++◌, eqb, length, get_or}
use Rattle.std.proofs.Common.{arith, sym, ap, ◌∙◌, append_assoc, length-append}
use Rattle.std.proofs.Math.Seq.{take-append_seam}
use Rattle.meaning.specs.declared.SourceLocation.{SourceLocation}
use Rattle.meaning.specs.Choice.{pick}
use Rattle.meaning.specs.Forest.{Forest}
use Rattle.meaning.specs.Tables.{Table, number, Item, rows_of, count}
use Rattle.meaning.specs.Walk.{items, part}
use Rattle.meaning.specs.Rules.{Rule}
use Rattle.meaning.specs.Reading.{accepted, longest, reading}
use Rattle.reading.specs.Sources.{whole, declared, declared_rows}
use Rattle.reading.specs.Acceptance.{Accepts, reads}
use Rattle.meaning.specs.Places.{at, moved, place_at}
use Rattle.meaning.specs.Rows.{row_kind}
use Rattle.meaning.specs.Moving.{Move, moved_rows, KeywordLine, appended, Ends}
use Rattle.standing.specs.Joinings.{Head, head_whole}
use Rattle.standing.specs.Places.{breaks-++, breaks_line, on_line, end_of, end_line}
use Rattle.standing.specs.Carriers.{Moves}
use Rattle.standing.specs.Accepting.{whole_from, Read, read, joined_accepts, joined_endianness, new_items, other_rows, joined_rows}
use Rattle.standing.specs.Appending.{source_length, Appended, appends}
use Rattle.standing.specs.Cuts.{cut_head}
use Rattle.standing.specs.Inserting.{behind_cut, Inserted, alone, count_rows}

inserts : (a u b : List ℕ) (ys : List Item) → Moves a (a ++ 10 ∷ u) (behind_cut a u b ys)
inserts a u b ys =
    let p : place_at (a ++ b) (length a) ≡ end_of a = ap (λ (x : List ℕ). moved x (at 0 0 0)) (take-append_seam a b) in
    record {
      bytes = omega (arith, length-append a (10 ∷ u));
      lines = omega (arith, breaks-++ a (10 ∷ u), breaks_line u);
      loses = λ l. ap (λ (x : SourceLocation). pick (eqb l x.line) x.column 0) p ∙ ap (λ (i : ℕ). on_line i (end_of a).column l) (end_line a);
    }

inserting_at : (a u b : List ℕ) {h e e' : List ℕ} {xs ys : List Item} {F : Forest} → KeywordLine h → Head a F → Read (a ++ b) e xs → Read (h ++ u) e' ys
    → get_or e row_kind 0 ≡ get_or e' row_kind 0 → length (a ++ 10 ∷ (u ++ 10 ∷ b)) ≤ longest → Inserted a u b h e xs ys
inserting_at a u b {h} {e} {e'} {xs} {ys} l hd r s same long =
    let o : Read a e (items a (whole a)) = alone a b hd r in
    let q : List ℕ = a ++ 10 ∷ u in
    let text : q ++ 10 ∷ b ≡ a ++ 10 ∷ (u ++ 10 ∷ b) = append_assoc a (10 ∷ u) (10 ∷ b) in
    let size : length (q ++ 10 ∷ b) ≤ longest = rw text (long) in
    let d : Appended a u h e (items a (whole a)) ys = appends a u l o s same (omega (arith, size, length-append q (10 ∷ b))) in
    let n : Read q e d.items = read d.reads in
    let m : Move = behind_cut a u b ys in
    let mv : Moves a q m = inserts a u b ys in
    let before : (t : Table) → eqb (number t) 5 ≡ false → count t (declared q) ≡ count t (declared a) + m.before t =
    λ t k. ap length (sym (declared_rows t q k)) ∙ ap (count t) n.items
    ∙ count_rows t (items a (whole a)) ys d.items (appended a h (λ t. count t (items a (whole a)))) (d.rows t)
    ∙ ap (λ (i : ℕ). i + count t ys) (ap length (declared_rows t a k)) in
    let z : 0 < length a = omega (arith, source_length (head_whole hd)) in
    let acc : Accepts (q ++ 10 ∷ b) = joined_accepts a q b m hd z mv before n.accepts r.accepts size in
    record {
      before = items a (whole a);
      alone = reads o.accepts ∙ ap (λ (v : List ℕ). accepted v (items a (whole a))) o.words;
      behind = new_items a q b m hd z mv before n.accepts r.accepts size;
      split = λ t. ap (rows_of t) (sym r.items) ∙ other_rows a q b m hd z mv before n.accepts r.accepts size t;
      items = items (q ++ 10 ∷ b) (whole (q ++ 10 ∷ b));
      reads = ap reading (sym text) ∙ reads acc
          ∙ ap (λ (v : List ℕ). accepted v (items (q ++ 10 ∷ b) (whole (q ++ 10 ∷ b))))
          (joined_endianness a q b m hd z mv before n.accepts r.accepts size ∙ n.words);
      rows = λ t. joined_rows a q b m hd z mv before n.accepts r.accepts size t
          ∙ ap (λ (x : List (List ℕ)). x ++ moved_rows m t (rows_of t (new_items a q b m hd z mv before n.accepts r.accepts size)))
          (ap (rows_of t) n.items ∙ d.rows t);
    }

-- THE THEOREM: a cut after any declaration's last byte
pub inserting : (a u b : List ℕ) {h e e' : List ℕ} {xs ys : List Item} → KeywordLine h → reading (a ++ b) ≡ accepted e xs
    → Ends (length a) (part Rule.file (whole (a ++ b))).kids
    → reading (h ++ u) ≡ accepted e' ys → get_or e row_kind 0 ≡ get_or e' row_kind 0 → length (a ++ 10 ∷ (u ++ 10 ∷ b)) ≤ longest → Inserted a u b h e xs ys
inserting a u b l r x s same long =
    let i = read r in
    inserting_at a u b l (cut_head a b (whole_from i.accepts).1 x).1 i (read s) same long
