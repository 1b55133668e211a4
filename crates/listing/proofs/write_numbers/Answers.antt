-- The bin that a turn of `write_numbers` lists is that of the next place.
use Rattle.std.proofs.Common.{◌≡◌, ◌∙◌, ◌≤◌, ◌++◌, length, take, drop, get_or, sym, ap, arith, ℕ}
use Rattle.lists.proofs.Buffers.{over_none, over-map}
use Rattle.lists.proofs.Rotations.{turned-length, turned-at}
use Rattle.listing.specs.Numbers.{bin_at_place}
use Rattle.listing.proofs.write_numbers.Goals as goal

pub loop-i-init : goal.loop-i-init
loop-i-init c = sym (over_none c.args.list.now)

pub loop-i-preserved : goal.loop-i-preserved
loop-i-preserved c =
    let places = c.args.places.now in
    let from = c.args.from in
    let ring = c.args.ring in
    let bin = bin_at_place ring.opening ring.bins in
    let turned = drop from places ++ take from places in
    let i = c.loop-i.i in
    let within : from ≤ length places = omega arith in
    let long = turned-length places from within in
    let next : c.bin_at.result ≡ bin (get_or turned i 0) =
    c.bin_at.ensures ∙ ap (λ (m : ℕ). bin (get_or places m 0)) c.listed_mode.ensures ∙ ap bin (sym (turned-at places from within i 0 (omega arith))) in
    rw (c.loop-i.invariant, next) (over-map bin turned c.args.list.now 0 i (omega (arith, long)) (omega arith))
