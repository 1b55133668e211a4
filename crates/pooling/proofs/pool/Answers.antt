-- Before the first bin is taken, the stack holds the blocks of no bins.
use Rattle.std.proofs.Common.{◌∙◌, length, sym, ap, arith}
use lib.Seq.{drop-length}
use Rattle.pooling.specs.Blocks.{direction, blocks}
use Rattle.pooling.proofs.Stacking.{stack-none}
use Rattle.pooling.proofs.pool.Goals as goal

pub loop-i-init : goal.loop-i-init
unfolding blocks
loop-i-init c = record {
  within = omega arith;
  held = stack-none c.args.places.now (length c.args.places.now) (omega arith) ∙ ap (blocks (direction c.args.rising)) (sym (drop-length c.args.h.now));
}
