use Rattle.std.proofs.Common.{arith, rules}
use Rattle.pixel.proofs.Chroma.{chroma-le, chroma-fourfold}
use Rattle.pixel.proofs.chroma_squared.Goals as goal

pub overflow_add-result : goal.overflow_add-result
overflow_add-result c =
    omega (
      arith,
      chroma-fourfold c.args.p c.abs_diff-x.result c.abs_diff-y.result (search rules) (search rules),
      chroma-le c.args.p (omega arith) (omega arith) (omega arith),
    )

pub returns : goal.returns
returns c =
    let e = chroma-fourfold c.args.p c.abs_diff-x.result c.abs_diff-y.result (search rules) (search rules) in
    omega arith
