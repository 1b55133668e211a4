use Rattle.std.proofs.Common.{arith}
use Rattle.palette.specs.Cards.{pixels_of}
use Rattle.palette.proofs.Triples.{pixels-bytes}
use Rattle.making.proofs.Gathered.{gathered_none, gathered-room, gathered-more, gathered-all}
use Rattle.making.proofs.entries.gather.Goals as goal

pub loop-number-init : goal.loop-number-init
loop-number-init c =
    let z = c.default-sums.ensures in
    rw (z.0, z.1.0, z.1.1) (gathered_none (pixels_of c.args.pixels.now) c.args.numbers.now)

pub add-requires : goal.add-requires
add-requires c =
    let few = gathered-room (pixels_of c.args.pixels.now) c.args.numbers.now c.loop-number.number-index c.loop-number.sums.red c.loop-number.sums.green c.loop-number.sums.blue c.loop-number.invariant
    (pixels-bytes c.args.pixels.now (λ j. let known = c.type_inv.pixels j in omega arith)) in
    record { red = omega (arith, few.red, c.requires.0); green = omega (arith, few.green, c.requires.0); blue = omega (arith, few.blue, c.requires.0) }

pub loop-number-preserved : goal.loop-number-preserved
loop-number-preserved c =
    let a = c.add.ensures in
    gathered-more (pixels_of c.args.pixels.now) c.args.numbers.now c.loop-number.number-index c.loop-number.sums.red c.loop-number.sums.green c.loop-number.sums.blue c.loop-number.invariant c.loop-number-test.true
    c.pixel_at.result c.pixel_at.ensures c.add.new.self.red c.add.new.self.green c.add.new.self.blue a.0 a.1 a.2

pub returns : goal.returns
returns c = gathered-all (pixels_of c.args.pixels.now) c.args.numbers.now c.loop-number.number-index c.loop-number.sums.red c.loop-number.sums.green c.loop-number.sums.blue c.loop-number.invariant c.loop-number-test.false
