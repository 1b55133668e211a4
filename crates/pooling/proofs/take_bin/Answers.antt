-- What `take_bin` asks of `push`, and what it ensures: the bin is pushed onto the blocks of the bins after it.
use Rattle.std.proofs.Common.{drop, arith}
use Rattle.pooling.specs.Blocks.{direction}
use Rattle.pooling.specs.Stack.{stack_of}
use Rattle.pooling.proofs.Always.{always-pooled}
use Rattle.pooling.proofs.Stacking.{stack-length, held_more, held-room}
use Rattle.pooling.proofs.take_bin.Goals as goal

pub push-requires-clause-room : goal.push-requires-clause-room
push-requires-clause-room c =
    let held = held-room (direction c.args.rising) c.args.h.now c.args.i (stack_of c.args.places.now c.args.top) c.requires.in_bounds.0 c.requires.held in
    omega (arith, held.0, stack-length c.args.places.now c.args.top c.requires.in_bounds.1)

pub push-requires-clause-counts : goal.push-requires-clause-counts
push-requires-clause-counts c =
    omega (arith, (held-room (direction c.args.rising) c.args.h.now c.args.i (stack_of c.args.places.now c.args.top) c.requires.in_bounds.0 c.requires.held).1)

pub push-requires-clause-bins : goal.push-requires-clause-bins
push-requires-clause-bins c =
    omega (arith, (held-room (direction c.args.rising) c.args.h.now c.args.i (stack_of c.args.places.now c.args.top) c.requires.in_bounds.0 c.requires.held).2)

pub returns-clause-held : goal.returns-clause-held
returns-clause-held c =
    held_more (direction c.args.rising) c.args.h.now c.args.i (stack_of c.args.places.now c.args.top) c.requires.in_bounds.0 c.requires.held _ c.push.ensures.pushed

pub returns-clause-pooled : goal.returns-clause-pooled
returns-clause-pooled c = always-pooled (direction c.args.rising) (drop c.args.i c.args.h.now)
