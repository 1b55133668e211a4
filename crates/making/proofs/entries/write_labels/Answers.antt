use Rattle.std.proofs.Common.{◌≡◌, ◌<◌, ◌+◌, ◌-◌, ◌∙◌, ℕ, List, length, take, drop, get_or, refl, sym, ap, arith}
use Rattle.std.proofs.Math.ListN.{length-map}
use Rattle.palette.specs.Cards.{most_entries}
use Rattle.dividing.specs.declared.keeping.CodedRange.{CodedRange}
use Rattle.dividing.specs.Keeping.{sizes_of}
use Rattle.making.specs.Making.{labelled, labels_by}
use Rattle.making.proofs.Held.{size_at}
use Rattle.making.proofs.Laid.{next-within, part_in}
use Rattle.making.proofs.Labelled.{given-more}
use Rattle.making.proofs.entries.write_labels.Goals as goal

pub loop-k-init : goal.loop-k-init
unfolding labels_by
loop-k-init c = record { within = omega arith; start = refl; long = refl; given = refl }

pub overflow_add-end : goal.overflow_add-end
overflow_add-end c =
    let rs = c.args.ranges.now in
    let sizes = sizes_of rs in
    let l = c.loop-k in
    let more : l.k < length sizes = omega (arith, length-map rs (λ (r : CodedRange). r.size), c.loop-k-test.true) in
    let size = size_at rs l.k in
    let next = next-within c.args.numbers.now sizes (length c.args.labels.now) c.requires l.k l.at l.invariant.start more in
    omega (arith, next, size, c.requires.whole)

pub offset_bounds-numbers-at : goal.offset_bounds-numbers-at
offset_bounds-numbers-at c =
    let rs = c.args.ranges.now in
    let sizes = sizes_of rs in
    let l = c.loop-k in
    let more : l.k < length sizes = omega (arith, length-map rs (λ (r : CodedRange). r.size), c.loop-k-test.true) in
    let size = size_at rs l.k in
    let next = next-within c.args.numbers.now sizes (length c.args.labels.now) c.requires l.k l.at l.invariant.start more in
    omega (arith, next, c.requires.whole)

pub slice_bounds-label_range-end : goal.slice_bounds-label_range-end
slice_bounds-label_range-end c =
    let rs = c.args.ranges.now in
    let sizes = sizes_of rs in
    let l = c.loop-k in
    let more : l.k < length sizes = omega (arith, length-map rs (λ (r : CodedRange). r.size), c.loop-k-test.true) in
    let size = size_at rs l.k in
    let next = next-within c.args.numbers.now sizes (length c.args.labels.now) c.requires l.k l.at l.invariant.start more in
    omega (arith, next, size, c.requires.whole)

pub label_of-requires : goal.label_of-requires
unfolding most_entries
label_of-requires c =
    let rs = c.args.ranges.now in
    let sizes = sizes_of rs in
    let l = c.loop-k in
    let more : l.k < length sizes = omega (arith, length-map rs (λ (r : CodedRange). r.size), c.loop-k-test.true) in
    let size = size_at rs l.k in
    omega (arith, more, c.requires.few)

pub label_range-requires : goal.label_range-requires
label_range-requires c =
    let rs = c.args.ranges.now in
    let sizes = sizes_of rs in
    let l = c.loop-k in
    let more : l.k < length sizes = omega (arith, length-map rs (λ (r : CodedRange). r.size), c.loop-k-test.true) in
    let size = size_at rs l.k in
    rw (sym size) (λ j h. omega (arith, part_in c.args.numbers.now sizes (length c.args.labels.now) c.requires l.k l.at l.invariant.start more j h, l.auto.labels))

pub loop-k-preserved : goal.loop-k-preserved
loop-k-preserved c =
    let rs = c.args.ranges.now in
    let sizes = sizes_of rs in
    let l = c.loop-k in
    let more : l.k < length sizes = omega (arith, length-map rs (λ (r : CodedRange). r.size), c.loop-k-test.true) in
    let size = size_at rs l.k in
    let w = c.label_range in
    let part : ℕ → List ℕ = λ s. take (l.at + s - l.at) (drop l.at c.args.numbers.now) in
    let given : w.new.labels ≡ labelled l.k (part (get_or sizes l.k 0)) l.labels =
    rw size (w.ensures ∙ ap (λ (n : ℕ). labelled n (part (get_or rs l.k (record { code = 0; size = 0 })).size) l.labels) c.label_of.ensures) in
    rw (sym size) (given-more c.args.numbers.now sizes c.args.labels.now (length c.args.labels.now) c.requires l.k l.at l.labels l.invariant more w.new.labels given)

pub returns : goal.returns
returns c =
    let l = c.loop-k in
    let all : l.k ≡ length (sizes_of c.args.ranges.now) = omega (arith, l.invariant.within, c.loop-k-test.false, length-map c.args.ranges.now (λ (r : CodedRange). r.size)) in
    l.invariant.given ∙ ap (λ (k : ℕ). labels_by (sizes_of c.args.ranges.now) c.args.numbers.now k c.args.labels.now) all
