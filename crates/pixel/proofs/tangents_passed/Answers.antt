use Rattle.pixel.proofs.Hue.{passed_one, passed-by-thirds}
use Rattle.pixel.proofs.tangents_passed.Goals as goal

pub returns : goal.returns
unfolding passed_one
returns c =
    rw (c.passes-6.ensures.0, c.passes-5.ensures.0, c.from-bound.ensures)
    (passed-by-thirds c.args.a c.args.b _ c.inner_of-t.result.first c.inner_of-t.result.second
    (rw (c.passes-4.ensures.0, c.passes-3.ensures.0, c.passes-2.ensures.0, c.passes.ensures.0, c.from-bound.ensures))
    c.inner_of-t.ensures.0 c.inner_of-t.ensures.1)
