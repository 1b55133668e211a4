-- Each block that is left begins where the figures written end, and its own end within the stretch.
use Rattle.std.proofs.Common.{◌∙◌, ◌+◌, ◌-◌, ◌<◌, ◌≤◌, length, drop, arith, rules, length-take-le, length-drop}
use Rattle.pooling.specs.Blocks.{Block, direction}
use Rattle.pooling.specs.Stack.{stack_of}
use Rattle.pooling.proofs.Filling.{left-all, left-end, left_more, filled_none, filled-all, filled_more}
use Rattle.pooling.proofs.Stacking.{block_at}
use Rattle.pooling.proofs.fit_blocks.Goals as goal

pub loop-next-init : goal.loop-next-init
loop-next-init c =
    let w = direction c.args.rising in
    let h = c.args.h.now in
    record {
      in_bounds = omega arith;
      left = left-all w h (stack_of c.pool-top.new.places c.pool-top.result) c.pool-top.ensures.pooled;
      sums = filled_none w h (λ (b : Block). b.sum) c.args.sums.now;
      lens = filled_none w h (λ (b : Block). b.len) c.args.lens.now;
    }

pub overflow_add-to : goal.overflow_add-to
overflow_add-to c =
    let v = c.loop-next in
    omega (arith, left-end (direction c.args.rising) c.args.h.now c.pool-top.new.places v.from v.next c.loop-next-test.true v.invariant.left)

pub slice_bounds-fill-end : goal.slice_bounds-fill-end
slice_bounds-fill-end c =
    let v = c.loop-next in
    let ps = c.pool-top.new.places in
    let room : v.from + (block_at ps v.next).len ≤ length c.args.h.now = left-end (direction c.args.rising) c.args.h.now ps v.from v.next c.loop-next-test.true v.invariant.left in
    search rules

pub slice_bounds-fill-end-in-loop-next : goal.slice_bounds-fill-end-in-loop-next
slice_bounds-fill-end-in-loop-next c =
    let v = c.loop-next in
    let ps = c.pool-top.new.places in
    let room : v.from + (block_at ps v.next).len ≤ length c.args.h.now = left-end (direction c.args.rising) c.args.h.now ps v.from v.next c.loop-next-test.true v.invariant.left in
    search rules

pub loop-next-preserved : goal.loop-next-preserved
loop-next-preserved c =
    let v = c.loop-next in
    let ps = c.pool-top.new.places in
    let w = direction c.args.rising in
    let h = c.args.h.now in
    let b = block_at ps v.next in
    let some : v.next < length ps = c.loop-next-test.true in
    let room : v.from + b.len ≤ length h = left-end w h ps v.from v.next some v.invariant.left in
    let fits_sums : v.from + b.len - v.from ≤ length (drop v.from v.sums) = omega (arith, length-drop v.from v.sums) in
    let fits_lens : v.from + b.len - v.from ≤ length (drop v.from v.lens) = omega (arith, length-drop v.from v.lens) in
    record {
      in_bounds = omega arith;
      left = left_more w h ps v.from v.next some v.invariant.left;
      sums = filled_more w h (λ (q : Block). q.sum) ps v.from v.next some v.invariant.left c.args.sums.now v.sums c.fill.new.self _ _ (omega arith) (omega arith) (length-take-le _ _ fits_sums ∙ omega arith) (c.fill.ensures.after (λ y k. k)) v.invariant.sums;
      lens = filled_more w h (λ (q : Block). q.len) ps v.from v.next some v.invariant.left c.args.lens.now v.lens c.fill-in-loop-next.new.self _ _ (omega arith) (omega arith) (length-take-le _ _ fits_lens ∙ omega arith) (c.fill-in-loop-next.ensures.after (λ y k. k)) v.invariant.lens;
    }

pub returns-clause-sums : goal.returns-clause-sums
returns-clause-sums c =
    let v = c.loop-next in
    filled-all (direction c.args.rising) c.args.h.now (λ (b : Block). b.sum) c.pool-top.new.places v.from v.next c.args.sums.now v.sums (omega arith) v.invariant.in_bounds v.invariant.left v.invariant.sums

pub returns-clause-lens : goal.returns-clause-lens
returns-clause-lens c =
    let v = c.loop-next in
    filled-all (direction c.args.rising) c.args.h.now (λ (b : Block). b.len) c.pool-top.new.places v.from v.next c.args.lens.now v.lens (omega arith) v.invariant.in_bounds v.invariant.left v.invariant.lens
