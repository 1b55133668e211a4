use Rattle.std.proofs.Common.{◌≡◌, ◌<◌, ◌≤◌, ◌/◌, ◌∙◌, List, length, get_or, refl, sym, ap, arith}
use Rattle.std.proofs.Math.ListN.{length-map, replicate, length-replicate}
use Rattle.std.proofs.Math.Seq.{take_all}
use Rattle.lists.specs.Lists.{over}
use Rattle.lists.proofs.Buffers.{over_none, over-padded}
use Rattle.palette.specs.declared.Entry.{Entry}
use Rattle.palette.specs.Cards.{pixels_of, most_entries, no_entry}
use Rattle.palette.specs.Sound.{most_pixels}
use Rattle.dividing.specs.declared.keeping.CodedRange.{CodedRange}
use Rattle.dividing.specs.Keeping.{codes_of, sizes_of}
use Rattle.making.specs.Making.{entry_by, entries_by}
use Rattle.making.proofs.Held.{size_at, code_at}
use Rattle.making.proofs.Laid.{next-within, slice-few, slice_in}
use Rattle.making.proofs.Made.{entries-long, slice-sums-few, sums-own, made_more}
use Rattle.making.proofs.entries.entries_of.Goals as goal

pub loop-k-init : goal.loop-k-init
unfolding most_entries
loop-k-init c =
    rw c.no_entry-entries.ensures (record { within = omega arith; start = refl; room = refl; made = sym (over_none _) })

pub overflow_add-end : goal.overflow_add-end
unfolding most_pixels
overflow_add-end c =
    let rs = c.args.ranges.now in
    let sizes = sizes_of rs in
    let pixels = length c.args.pixels.now / 3 in
    let l = c.loop-k in
    let more : l.k < length sizes = omega (arith, length-map rs (λ (r : CodedRange). r.size), c.loop-k-test.true) in
    let size = size_at rs l.k in
    let next = next-within c.args.numbers.now sizes pixels c.requires.ranges l.k l.at l.invariant.start more in
    omega (arith, next, size, c.requires.many)

pub offset_bounds-numbers-at : goal.offset_bounds-numbers-at
unfolding most_pixels
offset_bounds-numbers-at c =
    let rs = c.args.ranges.now in
    let sizes = sizes_of rs in
    let pixels = length c.args.pixels.now / 3 in
    let l = c.loop-k in
    let more : l.k < length sizes = omega (arith, length-map rs (λ (r : CodedRange). r.size), c.loop-k-test.true) in
    let size = size_at rs l.k in
    let next = next-within c.args.numbers.now sizes pixels c.requires.ranges l.k l.at l.invariant.start more in
    omega (arith, next, c.requires.many)

pub slice_bounds-gather-end : goal.slice_bounds-gather-end
slice_bounds-gather-end c =
    let rs = c.args.ranges.now in
    let sizes = sizes_of rs in
    let pixels = length c.args.pixels.now / 3 in
    let l = c.loop-k in
    let more : l.k < length sizes = omega (arith, length-map rs (λ (r : CodedRange). r.size), c.loop-k-test.true) in
    let size = size_at rs l.k in
    let next = next-within c.args.numbers.now sizes pixels c.requires.ranges l.k l.at l.invariant.start more in
    omega (arith, next, size, c.requires.ranges.whole)

pub gather-sums-requires : goal.gather-sums-requires
gather-sums-requires c =
    let rs = c.args.ranges.now in
    let sizes = sizes_of rs in
    let pixels = length c.args.pixels.now / 3 in
    let l = c.loop-k in
    let more : l.k < length sizes = omega (arith, length-map rs (λ (r : CodedRange). r.size), c.loop-k-test.true) in
    let size = size_at rs l.k in
    let next = next-within c.args.numbers.now sizes pixels c.requires.ranges l.k l.at l.invariant.start more in
    (slice-few c.args.numbers.now _ _ most_pixels (omega (arith, size, next, c.requires.many)), slice_in c.args.numbers.now sizes pixels c.requires.ranges _ _ (omega (arith, size, next)))

pub entry-requires : goal.entry-requires
entry-requires c =
    let rs = c.args.ranges.now in
    let sizes = sizes_of rs in
    let pixels = length c.args.pixels.now / 3 in
    let l = c.loop-k in
    let more : l.k < length sizes = omega (arith, length-map rs (λ (r : CodedRange). r.size), c.loop-k-test.true) in
    let size = size_at rs l.k in
    let next = next-within c.args.numbers.now sizes pixels c.requires.ranges l.k l.at l.invariant.start more in
    let few = slice-sums-few c.args.pixels.now c.args.numbers.now (λ j. let known = c.type_inv.pixels j in omega arith) _ _ c.gather-sums.result c.gather-sums.ensures (get_or sizes l.k 0) (omega (arith, size)) in
    let code = code_at rs l.k in
    rw (sym code, sym size)
    (c.requires.small l.k (omega (arith, c.requires.coded, more)), c.requires.filled l.k more, omega (arith, next, c.requires.many), few)

pub bounds-entries-k : goal.bounds-entries-k
unfolding most_entries
bounds-entries-k c =
    let rs = c.args.ranges.now in
    let sizes = sizes_of rs in
    let pixels = length c.args.pixels.now / 3 in
    let l = c.loop-k in
    let more : l.k < length sizes = omega (arith, length-map rs (λ (r : CodedRange). r.size), c.loop-k-test.true) in
    let size = size_at rs l.k in
    let next = next-within c.args.numbers.now sizes pixels c.requires.ranges l.k l.at l.invariant.start more in
    omega (arith, more, c.requires.ranges.few)

pub loop-k-preserved : goal.loop-k-preserved
loop-k-preserved c =
    let rs = c.args.ranges.now in
    let sizes = sizes_of rs in
    let pixels = length c.args.pixels.now / 3 in
    let l = c.loop-k in
    let more : l.k < length sizes = omega (arith, length-map rs (λ (r : CodedRange). r.size), c.loop-k-test.true) in
    let size = size_at rs l.k in
    let next = next-within c.args.numbers.now sizes pixels c.requires.ranges l.k l.at l.invariant.start more in
    let blank = replicate most_entries no_entry in
    let sums = sums-own (pixels_of c.args.pixels.now) c.args.numbers.now _ _ c.gather-sums.result c.gather-sums.ensures l.at (get_or sizes l.k 0) (omega arith) (omega (arith, size)) in
    let is : c.entry.result ≡ entry_by (get_or (codes_of rs) l.k 0) (get_or sizes l.k 0) c.gather-sums.result = rw (code_at rs l.k, size) c.entry.ensures in
    rw (sym size)
    (made_more c.args.pixels.now c.args.numbers.now (codes_of rs) sizes pixels c.requires.ranges blank l.k l.at l.entries l.invariant more c.gather-sums.result sums
    c.entry.result is (omega (arith, c.requires.ranges.few, length-replicate most_entries no_entry)))

pub returns : goal.returns
returns c =
    let rs = c.args.ranges.now in
    let l = c.loop-k in
    let made = entries_by (codes_of rs) (sizes_of rs) c.args.numbers.now (pixels_of c.args.pixels.now) in
    let long = entries-long (codes_of rs) (sizes_of rs) c.args.numbers.now (pixels_of c.args.pixels.now) in
    let all : length made ≤ l.k = omega (arith, long, length-map rs (λ (r : CodedRange). r.size), c.loop-k-test.false) in
    l.invariant.made ∙ ap (λ (es : List Entry). over es (replicate most_entries no_entry)) (take_all l.k made all) ∙ over-padded most_entries no_entry made
