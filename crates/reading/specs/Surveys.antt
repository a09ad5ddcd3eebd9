-- What the checks before any writing say: a reading's refusal, or the rows that each table needs, and the first table that
-- lacks some.
use Rattle.std.specs.Prelude.{ℕ, ◌-◌, ◌≡◌, List, [], ◌∷◌, get_or, ltb, Result, Ok, Err}
use Rattle.meaning.specs.Choice.{pick}
use Rattle.meaning.specs.Tables.{Table, number, size, room, Lent, lent, all}
use Rattle.meaning.specs.Reading.{Reading, refused, accepted, zeros, counted}
use Rattle.reading.specs.declared.refusals.Refusal.{Refusal}
use Rattle.reading.specs.declared.refusals.Refusal.TheVariants.{TooFewRows}
use Rattle.ast.specs.declared.tables.Table.{Table as Code}
use Rattle.ast.specs.Tables.{meant, named}
use Rattle.reading.specs.Refusals.{number_of, place_of, reason_of}

-- a refusal's number, place and reason, or else no number and the rows that each table needs
pub record Survey : Type 0 where
  pub number : ℕ
  pub place : ℕ
  pub reason : ℕ
  pub counts : List ℕ

abbrev pub surveyed : Reading → Survey
surveyed (refused n p r) = record { number = n; place = p; reason = r; counts = zeros 5 }
surveyed (accepted e xs) = record { number = 0; place = 0; reason = 0; counts = counted all xs }

abbrev pub survey : Result (List ℕ) Refusal → Survey
survey (Ok k) = record { number = 0; place = 0; reason = 0; counts = k }
survey (Err e) = record { number = number_of e; place = place_of e; reason = reason_of e; counts = zeros 5 }

-- x tells the reading y, and the tables are as they were lent
pub record Surveyed (y : Reading) (x : Result (List ℕ) Refusal) (a b : Lent) : Type 0 where
  pub is : survey x ≡ surveyed y
  pub same : b ≡ a

-- ---- the room of a table against the rows needed
abbrev pub room_for : Code → List ℕ → ℕ → Result (Unit {0}) Refusal
room_for t words needed = pick (ltb (room (size (meant t)) words) needed) (Err (TooFewRows t needed)) (Ok tt)

-- the first of some tables that lacks some rows; the counts go by the tables' numbers
abbrev pub room_among : List Table → List ℕ → Lent → Result (Unit {0}) Refusal
room_among [] counts l = Ok tt
room_among (t ∷ ts) counts l =
    let needed = get_or counts (number t - 1) 0 in
    pick (ltb (room (size t) (lent t l)) needed) (Err (TooFewRows (named t) needed)) (room_among ts counts l)
