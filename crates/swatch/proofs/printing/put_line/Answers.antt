-- A field behind those that are written, and the line feed behind them all. Assumes nothing.
use Rattle.std.proofs.Common.{arith, refl, ◌≡◌, ◌+◌, ◌-◌, sym, add-one, length, take, get_or, take_all, length-take-le}
use mathlib.Core.List.{flat_map}
use Rattle.lists.proofs.Buffers.{over_none, over-store}
use Rattle.lists.proofs.Flattened.{flat_map_more}
use Rattle.swatch.specs.Output.{printed_field, line_in}
use Rattle.swatch.proofs.PrintedLengths.{field-length, fields-length, line-length}
use Rattle.swatch.proofs.Writing.{put-piece}
use Rattle.swatch.proofs.printing.put_line.Goals as goal

pub loop-value-init : goal.loop-value-init
unfolding flat_map
loop-value-init c = (refl, sym (over_none c.args.out.now))

pub loop-value-preserved : goal.loop-value-preserved
loop-value-preserved c =
    let i = c.loop-value.value-index in
    let values = c.args.values.now in
    let written = flat_map printed_field (take i values) in
    let len : c.loop-value.len ≡ length written = omega (arith, c.loop-value.invariant.0, fields-length 6 (take i values), length-take-le i values (omega arith)) in
    let six : c.loop-value.len + 6 - c.loop-value.len ≡ length (printed_field (get_or values i 0)) = omega (arith, field-length 6 (get_or values i 0)) in (
      omega (arith, c.loop-value.invariant.0),
      rw (c.loop-value.invariant.1, c.copy_from_slice.ensures.after, c.field.ensures, add-one i, flat_map_more printed_field values i 0 c.loop-value-test.true)
          (put-piece written (printed_field (get_or values i 0)) c.args.out.now c.loop-value.len _ len six),
    )

pub returns-clause-text : goal.returns-clause-text
unfolding line_in
returns-clause-text c =
    let values = c.args.values.now in
    let all : take c.loop-value.value-index values ≡ values = take_all c.loop-value.value-index values c.loop-value-test.false in
    let len : c.loop-value.len ≡ length (flat_map printed_field values) = omega (arith, c.loop-value.invariant.0, fields-length 6 values) in
    rw (c.loop-value.invariant.1, all, len) (over-store (flat_map printed_field values) c.args.out.now 10 (omega (arith, c.requires, fields-length 6 values)))

pub returns-clause-len : goal.returns-clause-len
returns-clause-len c = omega (arith, c.loop-value.invariant.0, line-length c.args.values.now)
