use Rattle.std.proofs.Common.{◌*◌, sym, arith, rules}
use Rattle.pixel.proofs.Quarters.{turned-by-halves}
use Rattle.pixel.proofs.turned_back.Goals as goal

pub returns : goal.returns
returns c =
    let u = c.abs_diff-u in
    let v = c.abs_diff-v in
    let x = c.at_least in
    let y = c.at_least-2 in
    rw (c.chosen-4.ensures.0, c.chosen-3.ensures.0, c.chosen-2.ensures.0, c.chosen.ensures.0)
    (sym (turned-by-halves c.args.p (1732051 * u.result) (1000000 * v.result) x.result y.result _ _
    (omega (arith, u.ensures)) (omega (arith, v.ensures)) (rw (c.from-g.ensures, c.from-b.ensures) at x.ensures.0) (rw (c.from-twice.ensures, c.from-g.ensures, c.from-b.ensures) at y.ensures.0) (search rules) (search rules)))
