-- A part's counts are the difference of two running totals.
use Rattle.std.proofs.Common.{arith}
use Rattle.verdict.proofs.Scratch.{running-part}
use Rattle.verdict.proofs.parts.Stretch.part_counts.Goals as goal

pub overflow_sub-self : goal.overflow_sub-self
overflow_sub-self c =
    let s = c.args.self.now in
    omega (arith, running-part s.h.now s.before.now c.args.i c.args.j c.requires.0 c.requires.1 s.held.running)

pub returns : goal.returns
returns c =
    let s = c.args.self.now in
    omega (arith, c.from.ensures, running-part s.h.now s.before.now c.args.i c.args.j c.requires.0 c.requires.1 s.held.running)
