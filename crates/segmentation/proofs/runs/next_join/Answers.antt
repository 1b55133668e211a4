-- The first length that gives a join gives the next one. Assumes nothing.
use Rattle.std.proofs.Common.{sym, ◌∙◌, arith}
use Rattle.segmentation.specs.Runs.{reader_of, held_among}
use Rattle.segmentation.proofs.Searching.{from-two, length_found, length-passed, no_length}
use Rattle.segmentation.proofs.runs.next_join.Goals as goal

pub loop-len-init : goal.loop-len-init
loop-len-init c =
    let a = c.args in
    from-two a.line.now.closeness (reader_of a.line.now) (held_among a.among.round a.separators.now a.peaks.now a.n) a.among.round a.n

pub returns-then-is_some : goal.returns-then-is_some
returns-then-is_some c =
    let b = c.cheapest_below-best in
    length_found _ _ c.loop-len.len _ b.result c.loop-len.invariant (omega arith) b.ensures (sym c.is_some.ensures ∙ c.if-is_some.true)

pub loop-len-preserved : goal.loop-len-preserved
loop-len-preserved c =
    let b = c.cheapest_below-best in
    length-passed _ _ c.loop-len.len _ b.result c.loop-len.invariant (omega arith) b.ensures (sym c.is_some.ensures ∙ c.if-is_some.false)

pub returns : goal.returns
returns c = no_length _ _ c.loop-len.len _ c.loop-len.invariant (omega arith)
