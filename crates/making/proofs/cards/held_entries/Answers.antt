use Rattle.std.proofs.Common.{◌∙◌, ℕ, List, ap₂}
use Rattle.lists.specs.Lists.{padded, numbers}
use Rattle.palette.specs.Cards.{pixels_of, most_entries, no_entry}
use Rattle.dividing.specs.declared.keeping.CodedRange.{CodedRange}
use Rattle.making.specs.Making.{entries_by}
use Rattle.making.proofs.Held.{held-figures, held-none}
use Rattle.making.proofs.cards.held_entries.Goals as goal

pub entries_of-requires : goal.entries_of-requires
entries_of-requires c =
    let f = c.args.found.now in
    let k = c.in-Some.ensures in
    rw (held-figures (λ (r : CodedRange). r.code) f.ranges c.in-Some.ranges.now f.count k.0 k.1, held-figures (λ (r : CodedRange). r.size) f.ranges c.in-Some.ranges.now f.count k.0 k.1)
    c.requires

pub returns-in-Some : goal.returns-in-Some
returns-in-Some c =
    let f = c.args.found.now in
    let k = c.in-Some.ensures in
    c.entries_of.ensures
    ∙ ap₂ (λ (codes sizes : List ℕ). padded most_entries no_entry (entries_by codes sizes c.args.numbers.now (pixels_of c.args.pixels.now)))
    (held-figures (λ (r : CodedRange). r.code) f.ranges c.in-Some.ranges.now f.count k.0 k.1) (held-figures (λ (r : CodedRange). r.size) f.ranges c.in-Some.ranges.now f.count k.0 k.1)

pub returns-in-None : goal.returns-in-None
unfolding entries_by numbers
returns-in-None c = rw (held-none c.args.found.now.count c.in-None.ensures) c.no_entries.ensures
