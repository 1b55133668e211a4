-- `kistrovu_measures` keeps its promise. Assumes nothing.
use Rattle.std.proofs.Common.{ap}
use Rattle.pixel.specs.declared.Measures.{Measures}
use Rattle.kistrovu.specs.Answers.{measures_answer}
use Rattle.kistrovu.proofs.kistrovu_measures.Goals as goal

pub returns : goal.returns
unfolding measures_answer
returns c = ap (λ (m : Measures). record { number = 0; measures = m }) c.measure.ensures
