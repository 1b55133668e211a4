-- The counts between are a difference of running totals.
use Rattle.std.proofs.Common.{◌≡◌, refl, ◌∙◌, arith, ℕ, ◌+◌, ◌-◌, ◌≤◌, List, length, get_or, take, drop, add-one}
use Rattle.lists.specs.Lists.{total}
use Rattle.lists.proofs.Sums.{total-take-le}
use Rattle.pooling.specs.declared.Place.{Place}
use Rattle.verdict.specs.Test.{mass_across}
use Rattle.verdict.specs.Scratch.{RunningTotals, Across}
use Rattle.verdict.proofs.Scratch.{running-between}
use Rattle.verdict.proofs.parts.Stretch.mass_across.Goals as goal

between : (h before : List ℕ) (p q : Place) (i j : ℕ) → RunningTotals h before → Across h p q i j
    → get_or before q.start 0 ≡ get_or before (p.start + p.block.len) 0 + total (take (q.start - (p.start + p.block.len)) (drop (p.start + p.block.len) h))
between h before p q i j r a = running-between h before (p.start + p.block.len) q.start a.apart (omega (arith, a)) r

pub overflow_sub-self : goal.overflow_sub-self
overflow_sub-self c =
    let s = c.args.self.now in
    omega (arith, between s.h.now s.before.now c.args.p c.args.q c.args.i c.args.j s.held.running c.requires)

pub mass_of_three-requires-clause-first_in_bounds : goal.mass_of_three-requires-clause-first_in_bounds
mass_of_three-requires-clause-first_in_bounds c =
    let s = c.args.self.now in
    let l : c.args.q.start ≤ length s.h.now = omega (arith, c.requires) in
    omega (arith, c.requires, s.held.small, c.from-between.ensures, s.held.running c.args.q.start l, total-take-le c.args.q.start s.h.now)

pub returns : goal.returns
unfolding mass_across
returns c =
    let s = c.args.self.now in
    let next = c.args.p.start + c.args.p.block.len in
    let e : c.from-between.result ≡ total (take (c.args.q.start - next) (drop next s.h.now)) =
    omega (arith, c.from-between.ensures, between s.h.now s.before.now c.args.p c.args.q c.args.i c.args.j s.held.running c.requires) in
    c.mass_of_three.ensures ∙ rw (e, add-one) refl
