-- A call over one chunk row by itself, in place of a call over a table of so many records.
use Rattle.std.specs.Prelude.{ℕ, ◌≡◌, List, get_or, ltb, eqb, Result}
use denote.Ref.{MutBor}
use Rattle.meaning.specs.declared.Aligner.{Aligner}
use Rattle.meaning.specs.Choice.{pick}
use Rattle.meaning.specs.Rows.{chunk_kind, chunk_first, chunk_count, chunk_width, chunk_symbol, chunk_words}
use Rattle.meaning.specs.Alignment.{Call, world, call}
use Rattle.alignment.specs.declared.Refusal.{Refusal}
use Rattle.alignment.specs.Answers.{called}
use Rattle.byte_aligner.specs.declared.Chunk.{Chunk}

-- a count of chunks, as against one row: 0 below the rows, 1 at them, 2 above them
abbrev pub near : ℕ → ℕ → ℕ
near k rows = pick (ltb k rows) 0 (pick (eqb k rows) 1 2)

abbrev pub with_chunks : Aligner → ℕ → Aligner
with_chunks a k = record { placed = a.placed; chunks = k; start = a.start; width = a.width }

abbrev pub near_state : Aligner → ℕ → Aligner
near_state a rows = with_chunks a (near a.chunks rows)

abbrev pub blank : List ℕ
blank = chunk_words 0 0 0 0 0

abbrev pub chunk_of : List ℕ → Chunk
chunk_of ws =
    record {
      kind = get_or ws chunk_kind 0;
      first = get_or ws chunk_first 0;
      count = get_or ws chunk_count 0;
      width = get_or ws chunk_width 0;
      symbol = get_or ws chunk_symbol 0;
    }

-- what a closure says of a call: at the state b, the placed words ps and one blank row it answers as the meaning's call k
abbrev pub Performs : (Aligner → MutBor (List ℕ) → MutBor (List ℕ) → Result Aligner Refusal → MutBor (List ℕ) → MutBor (List ℕ) → Type 0)
    → Call → Aligner → List ℕ → Type 0
Performs post k b ps =
    (a : Aligner) (p q : MutBor (List ℕ)) (r : Result Aligner Refusal) (p' q' : MutBor (List ℕ)) → a ≡ b → p.now ≡ ps → q.now ≡ blank
    → post a p q r p' q' → called b r p'.now q'.now ≡ call k (world b ps blank)
