-- What the rows of declarations settle: all of the walk but the place that it knows, every word of the tables, and of a head
-- what its row says. Where a head starts is settled for a walk that writes; to one that counts no place is told.
use Rattle.std.specs.Prelude.{ℕ, ◌≡◌, List, length}
use Rattle.std.proofs.Common.{sym, ◌∙◌}
use Rattle.meaning.specs.Tables.{Lent}
use Rattle.spans.specs.declared.Matched.{Matched}
use Rattle.spans.specs.declared.Header.{Header}
use Rattle.walk.specs.declared.Door.TheVariants.{Write}
use Rattle.walk.specs.declared.Walk.{Walk}
use Rattle.walk.specs.Settled.{Alike, wrote_settled}
use Rattle.declaration_rows.specs.declared.heads.Headed.{Headed}
use Rattle.declaration_rows.specs.Heads.{GoesHead}
use Rattle.declaration_rows.specs.Lists.{GoesAll}

pub record AlikeHead (n : Walk) (r s : Headed) (b c : Lent → Lent) : Type 0 where
  pub walk : Alike r.walk s.walk b c
  pub start : n.door ≡ Write → r.start ≡ s.start
  pub id : r.id ≡ s.id
  pub other : r.other ≡ s.other
  pub width : r.width ≡ s.width

module _ {src : List ℕ} {n : Walk} {a b c : Lent → Lent} (e : length n.counts ≡ 5) where
  pub head_settled : {at : ℕ} {h : Matched Header} {r s : Headed} → GoesHead src at h n r a b → GoesHead src at h n s a c → AlikeHead n r s b c
  head_settled x y =
      record {
        walk = wrote_settled e x.wrote y.wrote;
        start = λ w. x.start w ∙ sym (y.start w);
        id = x.id ∙ sym y.id;
        other = x.other ∙ sym y.other;
        width = x.width ∙ sym y.width;
      }

  pub all_settled : {j : ℕ} {r s : Walk} → GoesAll src j n r a b → GoesAll src j n s a c → Alike r s b c
  all_settled x y = wrote_settled e x.wrote y.wrote
