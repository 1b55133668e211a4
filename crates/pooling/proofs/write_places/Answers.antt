-- Each block that is left begins where the places written end, and its own places end before the next block on the stack.
use Rattle.std.proofs.Common.{◌∙◌, ◌+◌, ◌-◌, ◌<◌, ◌≤◌, length, drop, arith, rules, length-take-le, length-drop}
use Rattle.pooling.specs.Blocks.{direction}
use Rattle.pooling.proofs.Filling.{none-written, all-written, written-room, written_more}
use Rattle.pooling.proofs.Stacking.{block_at}
use Rattle.pooling.proofs.write_places.Goals as goal

pub loop-next-init : goal.loop-next-init
loop-next-init c = none-written (direction c.args.rising) c.args.h.now c.pool-top.new.places c.pool-top.result (omega arith) (omega arith) c.pool-top.ensures.pooled

pub slice_bounds-fill-end : goal.slice_bounds-fill-end
slice_bounds-fill-end c =
    let v = c.loop-next in
    let room : v.from + (block_at v.places v.next).len ≤ v.next + 1 = written-room (direction c.args.rising) c.args.h.now v.places v.from v.next (omega arith) v.invariant in
    search rules

pub loop-next-preserved : goal.loop-next-preserved
loop-next-preserved c =
    let v = c.loop-next in
    let b = block_at v.places v.next in
    let w = direction c.args.rising in
    let some : v.next < length v.places = omega arith in
    let room : v.from + b.len ≤ v.next + 1 = written-room w c.args.h.now v.places v.from v.next some v.invariant in
    let fits : v.from + b.len - v.from ≤ length (drop v.from v.places) = omega (arith, length-drop v.from v.places) in
    written_more w c.args.h.now v.places v.from v.next some v.invariant c.fill.new.self _ _ (omega arith) (length-take-le _ _ fits ∙ omega arith) (c.fill.ensures.after (λ y h. h))

pub returns : goal.returns
returns c = all-written (direction c.args.rising) c.args.h.now c.loop-next.places c.loop-next.from c.loop-next.next (omega arith) c.loop-next.invariant
