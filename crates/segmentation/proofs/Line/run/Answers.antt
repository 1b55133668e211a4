-- The run is the definitions' one where its cost matters. Assumes nothing.
use Rattle.std.proofs.Common.{◌+◌, arith}
use mir.Syntax.{w64}
use mir.ValLaws.{to_z-of_z}
use Rattle.verdict.proofs.Machine.{handed-back}
use Rattle.segmentation.proofs.Searching.{run_is, choice, min-is}
use Rattle.segmentation.proofs.Line.run.Goals as goal

pub returns : goal.returns
returns c =
    let a = c.args in
    let fall = c.stretch_cost-fall in
    let rise = c.stretch_cost-rise in
    let least-is = to_z-of_z w64 a.least c.ranges.least in
    let cf = rw least-is at fall.ensures in
    let cr = rw (handed-back c.min-cap.type_inv, c.min-cap.ensures.value, min-is, handed-back fall.type_inv, least-is) at rise.ensures in
    rw (
      run_is a.self.now.closeness a.self.now.bins.now a.separators.now a.peaks.now (a.i + a.len) a.i a.len c.requires.le_len.0 (omega arith),
      c.by_costs.ensures,
      handed-back rise.type_inv,
      handed-back fall.type_inv,
    )
    (choice a.least _ _ fall.result rise.result cf a.i a.len cr)
