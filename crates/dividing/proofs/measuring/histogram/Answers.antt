use Rattle.std.proofs.Common.{arith}
use Rattle.palette.specs.Sound.{most_pixels}
use Rattle.dividing.proofs.Measured.{passed_none, passed-below, passed-few, passed-more, passed-all}
use Rattle.dividing.proofs.measuring.histogram.Goals as goal

pub loop-i-init : goal.loop-i-init
loop-i-init g c =
    rw g.met.M.Measure.bins
    (passed_none c.args.pixels.now (λ j. let known = c.type_inv.pixels j in omega arith) g.M.Measure.level c.args.order.now c.args.keys.now c.requires.0)

pub bounds-h-bin : goal.bounds-h-bin
bounds-h-bin g c =
    let below = passed-below c.args.pixels.now (λ j. let known = c.type_inv.pixels j in omega arith) g.M.Measure.level c.args.order.now c.args.keys.now c.requires.0 c.loop-i.i c.loop-i.keys c.loop-i.h c.loop-i.invariant c.loop-i-test.true
    c.pixel_at.result c.pixel_at.ensures c.bin-bin.result c.bin-bin.ensures in
    omega (arith, g.met.M.Measure.bins, below)

pub overflow_add-h : goal.overflow_add-h
unfolding most_pixels
overflow_add-h g c =
    let few = passed-few c.args.pixels.now (λ j. let known = c.type_inv.pixels j in omega arith) g.M.Measure.level c.args.order.now c.args.keys.now c.requires.0 c.loop-i.i c.loop-i.keys c.loop-i.h c.loop-i.invariant c.loop-i-test.true
    c.pixel_at.result c.pixel_at.ensures c.bin-bin.result c.bin-bin.ensures in
    omega (arith, few, c.requires.0, c.requires.1)

pub bounds-h-bin-in-loop-i : goal.bounds-h-bin-in-loop-i
bounds-h-bin-in-loop-i g c =
    let below = passed-below c.args.pixels.now (λ j. let known = c.type_inv.pixels j in omega arith) g.M.Measure.level c.args.order.now c.args.keys.now c.requires.0 c.loop-i.i c.loop-i.keys c.loop-i.h c.loop-i.invariant c.loop-i-test.true
    c.pixel_at.result c.pixel_at.ensures c.bin-bin.result c.bin-bin.ensures in
    omega (arith, g.met.M.Measure.bins, below)

pub loop-i-preserved : goal.loop-i-preserved
loop-i-preserved g c =
    passed-more c.args.pixels.now (λ j. let known = c.type_inv.pixels j in omega arith) g.M.Measure.level c.args.order.now c.args.keys.now c.requires.0 c.loop-i.i c.loop-i.keys c.loop-i.h c.loop-i.invariant c.loop-i-test.true
    c.pixel_at.result c.pixel_at.ensures c.bin-bin.result c.bin-bin.ensures

pub returns : goal.returns
returns g c =
    passed-all c.args.pixels.now (λ j. let known = c.type_inv.pixels j in omega arith) g.M.Measure.level c.args.order.now c.args.keys.now c.requires.0 c.loop-i.i c.loop-i.keys c.loop-i.h c.loop-i.invariant c.loop-i-test.false
