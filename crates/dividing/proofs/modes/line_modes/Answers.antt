use Rattle.std.proofs.Common.{◌≡◌, ◌∙◌, length, sym, arith}
use Rattle.palette.specs.Sound.{most_pixels}
use Rattle.palette.proofs.FewModes.{line-few}
use Rattle.dividing.proofs.Numbered.{line-lent, line-numbered}
use Rattle.dividing.proofs.modes.line_modes.Goals as goal

pub line_separators-requires-clause-small : goal.line_separators-requires-clause-small
unfolding most_pixels
line_separators-requires-clause-small c = record { bins = omega (arith, c.requires.1); counts = omega (arith, c.requires.2) }

pub overflow_sub-n : goal.overflow_sub-n
overflow_sub-n c = (line-lent c.args.closeness c.args.h.now c.requires.0 _ _ _ c.line_separators.ensures.0 c.line_separators.ensures.1).0

pub slice_bounds-separators-end : goal.slice_bounds-separators-end
slice_bounds-separators-end c =
    let l = line-lent c.args.closeness c.args.h.now c.requires.0 _ _ _ c.line_separators.ensures.0 c.line_separators.ensures.1 in
    omega (arith, l.1.count, line-few c.args.closeness c.args.h.now c.requires.0, c.requires.0, c.requires.1, c.line_separators.auto.list)

pub slice_bounds-number_bins-end : goal.slice_bounds-number_bins-end
slice_bounds-number_bins-end c = sym (line-lent c.args.closeness c.args.h.now c.requires.0 _ _ _ c.line_separators.ensures.0 c.line_separators.ensures.1).1.long

pub number_bins-requires : goal.number_bins-requires
number_bins-requires c =
    let l = (line-lent c.args.closeness c.args.h.now c.requires.0 _ _ _ c.line_separators.ensures.0 c.line_separators.ensures.1).1 in
    (l.rise, omega (arith, l.long, l.count, line-few c.args.closeness c.args.h.now c.requires.0, c.requires.1), omega arith, omega arith)

pub returns : goal.returns
returns c =
    let l = (line-lent c.args.closeness c.args.h.now c.requires.0 _ _ _ c.line_separators.ensures.0 c.line_separators.ensures.1).1 in
    let same : length c.number_bins.new.modes ≡ length c.args.h.now = c.number_bins.auto.modes ∙ c.requires.3 in
    rw l.count (line-numbered c.args.closeness c.args.h.now c.requires.0 c.number_bins.new.modes same (rw l.starts at c.number_bins.ensures))
