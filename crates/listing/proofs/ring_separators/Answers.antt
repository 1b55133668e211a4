-- The places where the modes start take the ring's numbers, those past the last bin first.
use Rattle.std.proofs.Common.{◌≡◌, ◌∙◌, ◌≤◌, List, length, take, refl, sym, ap, arith, ℕ, length-take-le}
use mathlib.Core.Path.{subst}
use Rattle.lists.specs.Lists.{first_index, over}
use Rattle.lists.proofs.Firsts.{first-within}
use Rattle.segmentation.specs.Ring.{opening}
use Rattle.segmentation.proofs.RingPlaces.{opening-in}
use Rattle.segmentation.proofs.RingModes.{ring-starts-taken}
use Rattle.segmentation.proofs.HeldStarts.{ring-modes-most}
use Rattle.listing.specs.Numbers.{past_last, bins_from}
use Rattle.listing.proofs.Listed.{start_places, listed, listed-count}
use Rattle.listing.proofs.ring_separators.Goals as goal
use Rattle.listing.proofs.ring_separators.Goals.{After-ring_modes-found}

-- there are no more modes than bins
few : (c : After-ring_modes-found) → c.ring_modes-found.result.modes ≤ length c.args.h.now
few c = omega (arith, c.ring_modes-found.ensures.1, ring-modes-most c.args.closeness c.args.h.now c.requires.in_bounds.0)

room : (c : After-ring_modes-found) → c.ring_modes-found.result.modes ≤ length c.ring_modes-found.new.places
room c = omega (arith, few c)

long : (c : After-ring_modes-found) → length (take c.ring_modes-found.result.modes c.ring_modes-found.new.places) ≡ c.ring_modes-found.result.modes
long c = length-take-le c.ring_modes-found.result.modes _ (room c)

-- the same bins, where the ring, its places and the first of them to be listed are the same
same-bins : (o : ℕ) (h places starts : List ℕ) (from : ℕ) → o ≡ opening h → places ≡ starts → from ≡ first_index (past_last o (length h)) places
    → bins_from o (length h) from places ≡ bins_from (opening h) (length h) (first_index (past_last (opening h) (length h)) starts) starts
same-bins o h places starts from a b c = rw (c, a, b) refl

pub slice_bounds-places-end : goal.slice_bounds-places-end
slice_bounds-places-end c = room (goal.at.slice_bounds-places-end c).After-ring_modes-found

pub slice_bounds-starts-end : goal.slice_bounds-starts-end
slice_bounds-starts-end c = sym (long (goal.at.slice_bounds-starts-end c).After-ring_modes-found)

pub invariant_of-ring : goal.invariant_of-ring
invariant_of-ring c = record { in_ring = omega (arith, c.ring_modes-found.ensures.0, opening-in c.args.h.now (omega arith)); small = omega arith }

pub write_numbers-requires : goal.write_numbers-requires
write_numbers-requires c =
    let m = (goal.at.write_numbers-requires c).After-ring_modes-found in
    let places = take c.ring_modes-found.result.modes c.ring_modes-found.new.places in
    let from : c.first_past_last-from.result ≤ length places = subst (λ (k : ℕ). k ≤ length places) (sym c.first_past_last-from.ensures) (first-within _ places) in
    record { from_in_bounds = (omega arith, omega (arith, long m, few m), omega (arith, long m, few m)) }

pub overflow_cast-result : goal.overflow_cast-result
overflow_cast-result c = omega (arith, few (goal.at.overflow_cast-result c).After-ring_modes-found)

pub returns : goal.returns
returns c =
    let m = c.ring_modes-found in
    let e = c.args.closeness in
    let h = c.args.h.now in
    let two = c.requires.in_bounds.0 in
    let starts = ring-starts-taken e h _ _ m.result.modes m.ensures.1 m.ensures.2 in
    let same = same-bins m.result.opening h _ (start_places e h) _ m.ensures.0 starts c.first_past_last-from.ensures in (
      m.ensures.1 ∙ sym (listed-count e h two),
      c.write_numbers.ensures ∙ ap (λ (xs : List ℕ). over xs c.args.list.now) (same ∙ sym (listed e h two)),
    )
