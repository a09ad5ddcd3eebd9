-- The tally of a list: entry after entry, counted by whether the lines of its source are those that are listed of it.
use Rattle.std.specs.Prelude.{ℕ, ◌+◌, ◌≤◌, ◌≡◌, List, false, length}
use Rattle.listing.specs.declared.Wanted.TheVariants.{Tables}
use Rattle.listing.specs.Lists.{listed}
use Rattle.replay_answers.specs.declared.entries.Entry.{Entry}
use Rattle.replay_answers.specs.declared.Tally.{Tally}
use Rattle.replay_answers.specs.Entries.{heading, Stands}

-- a tally counts no more entries than it has read bytes, and stands in the list
pub record Bounds (list : List ℕ) (t : Tally) : Type 0 where
  pub few : t.passed + t.failed ≤ t.at
  pub inside : t.at ≤ length list

-- the lines of an entry are those of its source
abbrev pub Answered : Entry → Type 0
Answered e = listed Tables e.source.now ≡ e.lines.now

-- one entry more
pub data Step (t : Tally) (e : Entry) : Tally → Type 0 where
  same : Answered e → Step t e (record { passed = t.passed + 1; failed = t.failed; at = e.next })
  other : (Answered e → ⊥) → Step t e (record { passed = t.passed; failed = t.failed + 1; at = e.next })

-- entries that stand there, one behind the other
pub data Replayed (list : List ℕ) (t : Tally) : Tally → Type 0 where
  here : Replayed list t t
  more : {r s : Tally} (e : Entry) → Replayed list t r → Stands list r.at e → Step r e s → Replayed list t s

-- nothing is counted yet
abbrev pub start : List ℕ → Tally
start list = record { passed = 0; failed = 0; at = heading false list }
