-- What crosses of the aligner's end: its number and its chunk count.
use Rattle.std.specs.Prelude.{◌≡◌, refl}
use Rattle.alignment.specs.Answers as alignment
use Rattle.alignment.specs.Outcomes.{one_outcome}
use Rattle.front.specs.declared.aligning.Ended.{Ended}

abbrev pub end_crossed : Ended → alignment.Ended
end_crossed e = record { number = e.number; chunks = e.chunks }

-- no two outcomes satisfy an equation with it
pub one_end : (e f : Ended) {z : alignment.Ended} → end_crossed e ≡ z → end_crossed f ≡ z → e ≡ f
one_end = one_outcome end_crossed (λ x. record { number = x.number; chunks = x.chunks }) (λ e. refl)
