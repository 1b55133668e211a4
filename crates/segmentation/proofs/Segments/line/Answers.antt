-- Joining the first segments gives the modes. Assumes nothing.
use Rattle.std.proofs.Common.{◌≤◌, length, sym, ap, ◌∙◌, arith, rules}
use Rattle.segmentation.specs.Segments.{first_segments}
use Rattle.segmentation.proofs.Holding.{held-length}
use Rattle.segmentation.proofs.Applied.{line-held}
use Rattle.segmentation.proofs.Settled.{one_kept}
use Rattle.segmentation.proofs.Stepping.{first-on-line}
use Rattle.segmentation.proofs.Segments.line.Goals as goal

pub returns-then-self-lt2 : goal.returns-then-self-lt2
returns-then-self-lt2 g c =
    let a = c.args in
    let f = c.first_segments in
    let t = f.new.self in
    let few : length (first_segments a.h.now) ≤ 1 = omega (arith, ap length f.ensures, held-length t.separators t.peaks 0 t.count) in
    f.ensures ∙ sym (one_kept a.closeness a.h.now few)

pub join_all-requires : goal.join_all-requires
join_all-requires g c =
    let a = c.args in
    let f = c.first_segments in
    let t = f.new.self in
    (search rules, first-on-line _ t c.requires.small c.requires.in_bounds f.ensures)

pub returns : goal.returns
returns g c =
    let a = c.args in
    let f = c.first_segments in
    let t = f.new.self in
    c.join_all.ensures.all ∙ line-held a.closeness a.h.now t.separators t.peaks t.count f.ensures
