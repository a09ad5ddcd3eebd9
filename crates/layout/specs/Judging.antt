-- What the judging pass answers, and the answer of the whole with the words that it leaves.
use Rattle.std.specs.Prelude.{ℕ, zero, suc, ◌+◌, ◌-◌, ◌≤◌, ◌≡◌, refl, List, eqb, Result, Ok, Err}
use Rattle.std.proofs.Common.{ap}
use Rattle.meaning.specs.declared.Aligner.{Aligner}
use Rattle.meaning.specs.Choice.{pick}
use Rattle.meaning.specs.Tables.{Table, size, room}
use Rattle.meaning.specs.Rows.{declaration_first, declaration_count}
use Rattle.meaning.specs.Alignment.{fresh, world, staged, end_number, add_bitfield, add_dyn_bytes}
use Rattle.meaning.specs.Feeding as meaning
use Rattle.alignment.specs.Answers.{Told, judged}
use Rattle.alignment.specs.Outcomes.{one_outcome}
use Rattle.layout.specs.declared.Layout as answer
use Rattle.layout.specs.declared.Refused.{Refused}
use Rattle.layout.specs.declared.Refusal.{Refusal}
use Rattle.layout.specs.declared.Request.{Request}
use Rattle.layout.specs.declared.Request.TheVariants.{Nothing, Bits, Dynamic}
use Rattle.layout.specs.Refusals.{number, outcome, outcome_refused}
use Rattle.layout.specs.Requests.{request}

-- the number of an outcome, and the state after it: as it came where it was refused
abbrev pub told : Aligner → Result Aligner Refusal → Told
told a (Ok b) = record { number = 0; state = b }
told a (Err e) = record { number = number e; state = a }

-- what the aligner would answer to a request, and the state that it would leave
unfoldable pub foreseen : Result Request Refusal → Aligner → List ℕ → List ℕ → Told
foreseen (Ok Nothing) a ps cs = record { number = 0; state = a }
foreseen (Ok (Bits v)) a ps cs = judged (add_bitfield 0 v) a ps cs
foreseen (Ok Dynamic) a ps cs = judged (add_dyn_bytes 0) a ps cs
foreseen (Err e) a ps cs = record { number = number e; state = a }

-- how the fields are judged: the number, and its place, 0 where they are accepted
pub record Verdict : Type 0 where
  pub number : ℕ
  pub place : ℕ

abbrev pub judgement : Result Unit Refused → Verdict
judgement (Ok x) = record { number = 0; place = 0 }
judgement (Err e) = record { number = number e.refusal; place = e.place }

abbrev pub verdict : meaning.Fed → Verdict
verdict x = record { number = x.number; place = x.place }

abbrev pub then : Told → ℕ → (Aligner → Verdict) → Verdict
then c i q = elim c.number [ zero ↦ q c.state | suc m ↦ record { number = suc m; place = i } ]

-- n fields from row i on, then the end, over tables that stay as they are; f is the first staged field row
unfoldable pub judge : List ℕ → List ℕ → List ℕ → ℕ → ℕ → Aligner → ℕ → Verdict
judge fs ps cs zero i a f =
    let n = end_number (world a ps cs) in
    record { number = n; place = pick (eqb n 0) 0 f }
judge fs ps cs (suc n) i a f = then (foreseen (request fs i) a ps cs) i (λ b. judge fs ps cs n (i + 1) b (pick (staged a) f i))

-- the field rows of a declaration stand from first up to last
pub record Among (ds fs : List ℕ) (d first last : ℕ) : Type 0 where
  pub starts : first ≡ meaning.declaration_word ds d declaration_first
  pub counts : last - first ≡ meaning.declaration_word ds d declaration_count
  pub rows : last ≤ room (size Table.fields) fs

-- the fields are rows, and feeding them is accepted
pub record Accepted (fs : List ℕ) (first last : ℕ) (ps cs : List ℕ) : Type 0 where
  pub rows : last ≤ room (size Table.fields) fs
  pub number : (meaning.feed_fields fs (last - first) first (world fresh ps cs)).number ≡ 0

-- the answer of the whole with the words that it leaves
abbrev pub answered : Result answer.Layout Refused → List ℕ → List ℕ → meaning.Layout
answered (Ok l) ps cs = record { number = 0; place = 0; placed = l.placed; chunks = l.chunks; ps = ps; cs = cs }
answered (Err e) ps cs = record { number = number e.refusal; place = e.place; placed = 0; chunks = 0; ps = ps; cs = cs }

-- ---- no two outcomes satisfy an equation with it
abbrev Outcome : Type 0
Outcome = Result answer.Layout Refused × (List ℕ × List ℕ)

abbrev pack : Outcome → meaning.Layout
pack o = answered o.0 o.1.0 o.1.1

-- a refusal at its place
abbrev placing : {A : Type 0} → ℕ → Result A Refusal → Result A Refused
placing p (Ok x) = Ok x
placing p (Err e) = Err (record { refusal = e; place = p })

abbrev unpack : meaning.Layout → Outcome
unpack x = (placing x.place (outcome x.number (record { placed = x.placed; chunks = x.chunks })), (x.ps, x.cs))

undone : (r : Result answer.Layout Refused) (ps cs : List ℕ) → unpack (answered r ps cs) ≡ (r, (ps, cs))
undone (Ok l) ps cs = refl
undone (Err e) ps cs =
    ap (λ (r : Result answer.Layout Refusal). (placing e.place r, (ps, cs))) (outcome_refused e.refusal (record { placed = 0; chunks = 0 }))

pub one_layout : (o p : Outcome) {z : meaning.Layout} → pack o ≡ z → pack p ≡ z → o ≡ p
one_layout = one_outcome pack unpack (λ o. undone o.0 o.1.0 o.1.1)

-- ---- nor one with a judgement
judged_back : (r : Result Unit Refused) → placing (judgement r).place (outcome (judgement r).number tt) ≡ r
judged_back (Ok x) = refl
judged_back (Err e) = ap (placing e.place) (outcome_refused e.refusal tt)

pub one_judgement : (r s : Result Unit Refused) {z : Verdict} → judgement r ≡ z → judgement s ≡ z → r ≡ s
one_judgement = one_outcome judgement (λ v. placing v.place (outcome v.number tt)) judged_back
