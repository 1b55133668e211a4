-- The joins that are written are those of the line.
use Rattle.std.proofs.Common.{ℕ, ◌≡◌, List, length, ap, ◌∙◌, arith}
use Rattle.lists.specs.Lists.{over}
use Rattle.verdict.specs.Test.{Closeness}
use Rattle.segmentation.specs.declared.Join.{Join}
use Rattle.segmentation.specs.Segments.{first_segments}
use Rattle.segmentation.specs.Joining.{line_reader, line_joins}
use Rattle.segmentation.specs.Held.{segments_held}
use Rattle.segmentation.proofs.Stepping.{first-on-line}
use Rattle.joinlog.specs.JoinLog.{joins_made, made_on_line, log_of, line_log}
use Rattle.joinlog.proofs.Made.{made_held}
use Rattle.joinlog.proofs.Lines.{line-made-below}
use Rattle.joinlog.proofs.line_log.Goals as goal

pub write_joins-joins-requires : goal.write_joins-joins-requires
write_joins-joins-requires c =
    let a = c.args in
    let t = c.first_segments.new.self in
    let in_bounds = c.requires.in_bounds in (
      first-on-line _ t c.requires.small in_bounds.0 c.first_segments.ensures,
      in_bounds.1,
    )

-- the joins of the first segments that are held
made-is : (e : Closeness) (h s p : List ℕ) (n : ℕ) → segments_held s p 0 n ≡ first_segments h → joins_made n (line_joins e (line_reader h)) (segments_held s p 0 n) ≡ made_on_line e h
unfolding made_on_line
made-is e h s p n held = made_held (line_joins e (line_reader h)) s p n (first_segments h) held

pub overflow_cast-result : goal.overflow_cast-result
overflow_cast-result c =
    let t = c.first_segments.new.self in
    let few = line-made-below c.args.closeness c.args.h.now c.requires.in_bounds.0 in
    record { fits = omega (arith, c.write_joins-joins.ensures.0, ap length (made-is c.args.closeness c.args.h.now t.separators t.peaks t.count c.first_segments.ensures), few, c.requires.small.bins) }

pub returns : goal.returns
unfolding line_log
returns c =
    let t = c.first_segments.new.self in
    let made = made-is c.args.closeness c.args.h.now t.separators t.peaks t.count c.first_segments.ensures in
    let m = c.write_joins-joins.ensures in
    (m.0 ∙ ap length made, m.1 ∙ ap (λ (js : List Join). over (log_of js) c.args.log.now) made)
