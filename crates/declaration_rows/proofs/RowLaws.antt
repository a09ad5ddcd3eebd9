-- A declaration's row: what it asks, and what it comes to.
use denote.Enum.Declared.{tag_of}
use Prim.Native.Nat.{ℕ, ◌+◌, ◌-◌, ◌^◌, ◌<◌}
use native.Mathlib.Omega.{arith}
use mathlib.Core.Path.{◌≡◌, refl, ap, sym, ◌∙◌}
use mathlib.Core.List.{List}
use lib.ListN.{length}
use Rattle.meaning.specs.Rows.{place_words, declaration_words}
use Rattle.meaning.specs.Tables.{Table, first_of}
use Rattle.walk.specs.declared.Door.TheVariants.{Write}
use Rattle.walk.specs.declared.Walk.{Walk}
use Rattle.walk.specs.declared.rows.NumberWords.{NumberWords}
use Rattle.walk.specs.State.{slot, counted, lend, Came, Knows, Put}
use Rattle.walk.specs.Steps.{goes_then, goes_in, same_counts}
use Rattle.walk.specs.Doors.{put_asks, put_goes, stood}
use Rattle.walk.specs.Terms.{name_words, words_of_number, pair_words, words_of_declaration}
use Rattle.walk.specs.Sounds.{declaration_sized}
use Rattle.declaration_rows.specs.declared.Parts.{Parts}
use Rattle.declaration_rows.specs.declared.kinds.Kind.{Kind}
use Rattle.declaration_rows.specs.declared.kinds.Kind.TheVariants.{Enum, Packet, Struct, Group, Checksum, CustomField}
use Rattle.declaration_rows.specs.contracts.kinds.Kind.{the_type}
use Rattle.declaration_rows.specs.Kinds.{number}
use Rattle.declaration_rows.specs.Members.{members_of}
use Rattle.declaration_rows.specs.Declarations.{declaration_row, Rowed, GoesRow}

-- the number that `as` gives a kind
pub tag_is : (k : Kind) → tag_of the_type k + 1 ≡ number k
tag_is Enum = refl
tag_is Packet = refl
tag_is Struct = refl
tag_is Group = refl
tag_is Checksum = refl
tag_is CustomField = refl

module _ {src : List ℕ} {k : Kind} {n : Walk} {x : Parts} (w : Rowed src k n x) {m : Walk} (c : Came src x.members.end x.members.walk m) where
  spare : counted Table.declarations m < x.members.end
  spare = omega (arith, same_counts c.goes.wrote Table.declarations, w.spare)

  pub row_asks : length src < 2 ^ 64 → Knows m (slot Table.declarations)
  row_asks s = put_asks Table.declarations c.goes.at spare s

  -- a and b are the members behind all parts and behind the head, e those before; f and g the constraints before and behind the head
  pub row_done : {r : Walk} {ws t t' : List ℕ} {w a b e f g first list : ℕ} {width : NumberWords} → w ≡ number k → width ≡ words_of_number x.head.width
      → a ≡ members_of k x.members.walk → b ≡ members_of k x.head.walk → e ≡ members_of k n
      → first ≡ first_of e (a - b) → f ≡ counted Table.constraints n → g ≡ counted Table.constraints x.head.walk → list ≡ first_of f (g - f)
      → ws ≡ declaration_words w (place_words x.head.start m.here) (name_words x.head.id) (name_words x.head.other) (pair_words width)
      first (a - b) list (g - f)
      → Put (slot Table.declarations) ws m r t t' → GoesRow src k n x r (lend Table.declarations t) (lend Table.declarations t')
  unfolding declaration_row words_of_declaration
  row_done {r} {ws} {t} {t'} {w} {a} {b} {e} {f} {g} {first} {list} {width} ek ed ea eb ee e1 ef eg el ew p =
      record {
        goes = λ us h.
            goes_then (goes_in (lend Table.declarations t) c.goes)
            (put_goes Table.declarations p us (λ q. words (sym c.goes.wrote.door ∙ q) ∙ h (sym c.goes.wrote.door ∙ q))
            (ap length ew ∙ declaration_sized w x.head.start m.here x.head.id x.head.other width first (a - b) list (g - f))
            c.goes.at spare);
      }
    where
      words : x.members.walk.door ≡ Write → ws ≡ declaration_row src k n x
      words q = ew ∙ rw (ek, ed, stood c q, e1, el, ea, eb, ee, ef, eg)
