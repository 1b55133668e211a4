-- `kistrovu_replay` keeps its promise; a replay accepts the log of the line alone. Assumes nothing.
use Rattle.std.proofs.Common.{sym, ◌∙◌, length}
use mir.Syntax.{w32}
use mir.ValLaws.{to_z-of_z}
use Rattle.segmentation.specs.Finished.{LineFinished}
use Rattle.joinlog.specs.JoinLog.{Replayed}
use Rattle.kistrovu.proofs.Modes.{served-so}
use Rattle.kistrovu.proofs.Replays.{accepts-only}
use Rattle.kistrovu.proofs.kistrovu_replay.Goals as goal

pub returns : goal.returns
returns c =
    let given = to_z-of_z w32 c.args.closeness c.ranges.closeness in
    let a = c.answered-number.ensures in (
      rw (a.number, a.value) (rw given at c.replay.ensures.answer),
      rw given at c.replay.ensures.list,
      accepts-only c.args.closeness c.args.histogram.now c.args.log.now (length c.args.separators.now),
      λ z. served-so (Replayed c.args.closeness c.args.histogram.now c.args.log.now × LineFinished c.args.closeness c.args.histogram.now) c.replay.result (rw given at c.replay.ensures.replayed) (sym a.number ∙ z),
    )
