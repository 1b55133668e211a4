-- What the loop of `push` keeps, and what it makes: the push of the definitions.
use Rattle.std.proofs.Common.{◌≡◌, ◌+◌, ◌-◌, ◌<◌, ◌∙◌, ◌∷◌, length, refl, sym, ap, arith}
use Rattle.pooling.specs.Blocks.{direction}
use Rattle.pooling.specs.Stack.{stack_of}
use Rattle.pooling.proofs.Stacking.{sum_top, bins-top, push-none, push-strict, push-merged, stack-stores}
use Rattle.pooling.proofs.push.Goals as goal
use Rattle.pooling.proofs.push.Goals.{else-loop-next-test, then-loop-next-test+then-steps_to}

pub steps_to-requires : goal.steps_to-requires
steps_to-requires c =
    let ps = c.args.places.now in
    let next = c.loop-next.next in
    omega (arith, sum_top ps next (omega arith), bins-top ps next (omega arith))

pub overflow_add-block : goal.overflow_add-block
overflow_add-block c = omega (arith, sum_top c.args.places.now c.loop-next.next (omega arith))

pub overflow_add-block-in-loop-next : goal.overflow_add-block-in-loop-next
overflow_add-block-in-loop-next c = omega (arith, bins-top c.args.places.now c.loop-next.next (omega arith))

pub loop-next-preserved : goal.loop-next-preserved
loop-next-preserved c =
    let v = c.loop-next in
    let ps = c.args.places.now in
    let some : v.next < length ps = omega arith in
    record {
      some = omega arith;
      within = omega arith;
      counts = omega (arith, sum_top ps v.next some);
      bins = omega (arith, bins-top ps v.next some);
      same = push-merged (direction c.args.rising) v.block ps v.next c.steps_to.result some c.steps_to.ensures _ c.if-steps_to.false v.invariant.same;
    }

pub returns-clause-pushed : goal.returns-clause-pushed
returns-clause-pushed c =
    let v = c.loop-next in
    let ps = c.args.places.now in
    let w = direction c.args.rising in
    let free : v.next - 1 + 1 ≡ v.next = omega arith in
    stack-stores ps (v.next - 1) _ _ v.block (omega arith) refl
    ∙ ap (λ n. v.block ∷ stack_of ps n) free
    ∙ sym (elim c.loop-next-test.branch [
      | else-loop-next-test e ↦ push-none w v.block ps v.next (omega arith)
      | then-loop-next-test+then-steps_to t ↦ push-strict w v.block ps v.next t.steps_to.result (omega arith) t.steps_to.ensures t.if-steps_to.true
    ])
    ∙ v.invariant.same
