-- A comment's row: the walk comes to the comment's start as a, and to its end as b.
use Prim.Native.Nat.{ℕ, ◌+◌, ◌^◌, ◌<◌}
use native.Mathlib.Omega.{arith}
use mathlib.Core.Path.{◌≡◌, refl, ap, sym, ◌∙◌}
use mathlib.Core.List.{List, [], ◌∷◌}
use mathlib.Core.Bool.{Bool, true, false}
use lib.ListN.{length, drop}
use Rattle.meaning.specs.Choice.{pick}
use Rattle.meaning.specs.Places.{place_at}
use Rattle.meaning.specs.Rows.{comment_words, place_words}
use Rattle.meaning.specs.Quoted.{bytes}
use Rattle.meaning.specs.Peg.{prefixb}
use Rattle.meaning.specs.Tables.{Table, row}
use Rattle.walk.specs.declared.Door.TheVariants.{Write}
use Rattle.walk.specs.declared.Walk.{Walk}
use Rattle.walk.specs.State.{slot, counted, lend, Wrote, At, same, Came, Knows, Put}
use Rattle.walk.specs.Steps.{wrote_then, wrote_in, at_on, goes_then, goes_as}
use Rattle.walk.specs.Doors.{put_asks, put_goes, stood, spare}
use Rattle.comments.specs.declared.CommentKind.{CommentKind}
use Rattle.comments.specs.declared.CommentKind.TheVariants.{Block, Line}
use Rattle.comments.specs.Steps.{Ready, GoesComment, kind_of, word_of, words}

-- the row's first word is the number of its kind
kind_word : (b : Bool) → pick b 1 2 ≡ word_of (pick b Block Line)
kind_word true = refl
kind_word false = refl

module _ {src : List ℕ} {i l : ℕ} {n : Walk} (w : Ready src i l n) {a : Walk} (ca : Came src i n a) where
  pub end_ready : At src (i + l) a
  end_ready = at_on (omega arith) w.comment.fits ca.goes.at

  module _ {b : Walk} (cb : Came src (i + l) a b) where
    moved : Wrote [] n b same same
    moved = wrote_then ca.goes.wrote cb.goes.wrote

    room : counted Table.comments b < i + l
    room = spare w.came moved (omega (arith, w.some)) Table.comments

    pub row_asks : length src < 2 ^ 64 → Knows b (slot Table.comments)
    row_asks s = put_asks Table.comments cb.goes.at room s

    pub row_done : {r : Walk} {k : CommentKind} {ws t t' : List ℕ} → k ≡ kind_of src i → ws ≡ words k a.here b.here
        → Put (slot Table.comments) ws b r t t' → GoesComment src i l n r (lend Table.comments t) (lend Table.comments t')
    unfolding kind_of
    row_done {r} {k} {ws} {t} {t'} ek ew p =
        goes_as
        (ap (λ (x : ℕ). row Table.comments (comment_words x (place_words (place_at src i) (place_at src (i + l)))) ∷ [])
        (sym (kind_word (prefixb (bytes "/*") (drop i src)))))
        (goes_then (record { wrote = wrote_in (lend Table.comments t) moved; at = cb.goes.at })
        (put_goes Table.comments p (words (kind_of src i) (place_at src i) (place_at src (i + l))) right (ap length ew) cb.goes.at room))
      where
        right : b.door ≡ Write → ws ≡ words (kind_of src i) (place_at src i) (place_at src (i + l))
        right e =
            let ea : a.door ≡ Write = sym cb.goes.wrote.door ∙ e in
            let en : n.door ≡ Write = sym ca.goes.wrote.door ∙ ea in
            ew ∙ rw (ek, stood ca en, stood cb ea)
