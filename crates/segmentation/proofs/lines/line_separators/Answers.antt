-- The separators held are those of the line's modes. Assumes nothing.
use Rattle.std.proofs.Common.{ℕ, ◌+◌, List, ◌++◌, drop, sym, ap₂, ◌∙◌, arith}
use Rattle.std.proofs.Math.Seq.{length-take-le}
use Rattle.lists.specs.Lists.{over}
use Rattle.segmentation.proofs.HeldStarts.{held_below, line-listed, line-listed-length}
use Rattle.segmentation.proofs.lines.line_separators.Goals as goal

pub slice_bounds-copy_from_slice-end : goal.slice_bounds-copy_from_slice-end
slice_bounds-copy_from_slice-end c =
    let a = c.args in
    let t = c.line.new.self in
    omega (arith, held_below a.closeness a.h.now t.separators t.peaks t.count c.requires.in_bounds.0 c.line.ensures, c.requires.in_bounds)

pub slice_bounds-copy_from_slice-end-2 : goal.slice_bounds-copy_from_slice-end-2
slice_bounds-copy_from_slice-end-2 c =
    let a = c.args in
    let t = c.line.new.self in
    let k = held_below a.closeness a.h.now t.separators t.peaks t.count c.requires.in_bounds.0 c.line.ensures in
    sym (length-take-le (t.count + 1) a.list.now (omega (arith, c.requires.in_bounds)))

pub copy_from_slice-requires : goal.copy_from_slice-requires
copy_from_slice-requires c =
    let a = c.args in
    let t = c.line.new.self in
    let k = held_below a.closeness a.h.now t.separators t.peaks t.count c.requires.in_bounds.0 c.line.ensures in
    length-take-le (t.count + 1) a.list.now (omega (arith, c.requires.in_bounds)) ∙ sym (length-take-le (t.count + 1) t.separators (omega (arith, t.room)))

pub returns : goal.returns
unfolding over
returns c =
    let a = c.args in
    let t = c.line.new.self in
    let e = a.closeness in
    let k = line-listed-length e a.h.now t.separators t.peaks t.count c.requires.in_bounds.0 c.line.ensures in
    let listed = line-listed e a.h.now t.separators t.peaks t.count c.requires.in_bounds.0 c.line.ensures (omega (arith, t.room)) in
    (k, ap₂ (λ (xs : List ℕ) (n : ℕ). xs ++ drop n a.list.now) (c.copy_from_slice.ensures.after ∙ listed) k)
