-- A step of the walk, and its end at the last bin. Assumes nothing.
use Rattle.std.proofs.Common.{◌≡◌, ℕ, ◌≤◌, ◌+◌, ◌-◌, length, take, Option, None, Some, IfSome, get_or, ◌∙◌, arith, add-one, length-set}
use Rattle.std.proofs.Math.Seq.{take-suc-set}
use Rattle.segmentation.proofs.Walking.{Walked, walk_start, walk_more, walk_end, walk-room, fell-within}
use Rattle.segmentation.proofs.first.first_separators.Goals as goal

fell_later : (fell : Option ℕ) (i : ℕ) → IfSome fell (λ bin. bin ≤ i) → IfSome fell (λ bin. bin ≤ i + 1)
fell_later None i h = tt
fell_later (Some bin) i h = omega arith

pub loop-i-init : goal.loop-i-init
loop-i-init c = record {
  few = omega arith;
  fell_before = tt;
  walked = rw (take-suc-set c.args.separators.now 0 0 (omega arith)) (walk_start c.args.h.now);
}

pub loop-i-preserved : goal.loop-i-preserved
loop-i-preserved c =
    let h = c.args.h.now in
    let l = c.loop-i in
    let p = c.put_valley-n.ensures in
    let f = c.fell_after-fell.ensures in
    record {
      few = omega (arith, p.0);
      fell_before = rw f (fell-within l.fell (l.i + 1) (get_or h l.i 0) (get_or h (l.i + 1) 0) (l.i + 1) (fell_later l.fell l.i l.invariant.fell_before) (omega arith));
      walked = rw (p.1, f) (walk_more h l.i (take l.n l.separators) l.fell (omega arith) l.invariant.walked);
    }

pub bounds-separators-n : goal.bounds-separators-n
bounds-separators-n c =
    let l = c.loop-i in
    let same = l.auto.separators ∙ length-set c.args.separators.now 0 0 in
    omega (arith, walk-room c.args.h.now l.i l.separators l.n l.fell (omega arith) (omega arith) (omega arith) l.invariant.walked)

pub returns : goal.returns
returns c =
    let h = c.args.h.now in
    let l = c.loop-i in
    let same = l.auto.separators ∙ length-set c.args.separators.now 0 0 in
    let last : l.i ≡ length h - 1 = omega arith in
    let room = walk-room h l.i l.separators l.n l.fell (omega arith) (omega arith) (omega arith) l.invariant.walked in
    let walked : Walked h (length h - 1) (take l.n l.separators) l.fell = rw last at l.invariant.walked in (
      room,
      rw (add-one l.n) (take-suc-set l.separators l.n (length h - 1) (omega arith) ∙ walk_end h (length h - 1) (take l.n l.separators) l.fell (omega arith) (omega arith) walked),
    )
