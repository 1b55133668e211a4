-- `run` answers the text that the input held, since what was read of it is enough, and what is printed has room. Assumes nothing.
use Rattle.std.proofs.Common.{arith, ℕ, subst}
use lib.ListN.{length-replicate}
use Rattle.swatch.specs.Reading.{longest_swatch, most_swatch_pixels}
use Rattle.card.specs.Program.{most_read, PrintsAll, PrintsPart}
use Rattle.card.proofs.Room.{answer-room}
use Rattle.card.proofs.Enough.{enough}
use Rattle.card.proofs.run.Goals as goal

pub read_text-requires : goal.read_text-requires
unfolding most_read longest_swatch most_swatch_pixels
read_text-requires g c = length-replicate {A = ℕ} most_read 0

pub write-requires : goal.write-requires
write-requires g c = rw c.answer.ensures (answer-room _)

pub returns-in-Ok-write-clause-ok : goal.returns-in-Ok-write-clause-ok
unfolding most_read longest_swatch most_swatch_pixels
returns-in-Ok-write-clause-ok g c =
    enough _ _ _ (PrintsAll _ _) (omega (arith, c.in-Ok.ensures.prefix.0, c.in-Ok.ensures.prefix.1, c.read_text.auto.text)) c.in-Ok.ensures.bytes
    (subst (PrintsAll _ _) c.answer.ensures c.in-Ok-write.ensures.all)

pub returns-in-Err-write-clause-err : goal.returns-in-Err-write-clause-err
unfolding most_read longest_swatch most_swatch_pixels
returns-in-Err-write-clause-err g c =
    enough _ _ _ (PrintsPart _ _) (omega (arith, c.in-Ok.ensures.prefix.0, c.in-Ok.ensures.prefix.1, c.read_text.auto.text)) c.in-Ok.ensures.bytes
    (subst (PrintsPart _ _) c.answer.ensures c.in-Err-write.ensures.part)
