use Rattle.std.proofs.Common.{◌≡◌, ◌≤◌, ◌/◌, ◌∙◌, ℕ, List, length, sym, ap, arith, rules}
use Rattle.palette.specs.Cards.{pixels_of}
use Rattle.palette.specs.Sound.{most_pixels}
use Rattle.palette.proofs.Triples.{pixels-length}
use Rattle.dividing.specs.declared.keeping.CodedRange.{CodedRange}
use Rattle.dividing.specs.Keeping.{sizes_of}
use Rattle.making.specs.Making.{held_figures, labels_by}
use Rattle.making.proofs.Divided.{bytes-each}
use Rattle.making.proofs.Held.{held-figures, none-labelled}
use Rattle.making.proofs.Labelled.{labels-laid, labels-left}
use Rattle.making.proofs.cards.make_card.Goals as goal

pub make_entries-made-requires : goal.make_entries-made-requires
unfolding most_pixels
make_entries-made-requires c =
    let p = c.requires in
    let n = length c.args.pixels.now / 3 in
    let few : n ≤ 65536 = omega (arith, p.0, p.1) in
    record { pixels_len = (omega (arith, p.0), omega (arith, p.0, p.1)); pixels_in_bounds = (search rules, search rules, search rules) }

pub write_labels-requires : goal.write_labels-requires
write_labels-requires c =
    let m = c.make_entries-made in
    let f = m.new.found in
    let long = pixels-length c.args.pixels.now (length c.args.labels.now) c.requires.0 in
    let k = c.in-Some.ensures in
    let figures : sizes_of c.in-Some.ranges.now ≡ held_figures m.result.total (sizes_of f.ranges) =
    held-figures (λ (r : CodedRange). r.size) f.ranges c.in-Some.ranges.now f.count k.0 k.1 ∙ ap (λ (n : ℕ). held_figures n (sizes_of f.ranges)) (sym m.ensures.2) in
    rw (figures, sym long) (labels-laid c.args.closeness (pixels_of c.args.pixels.now) m.new.order (sizes_of f.ranges) m.ensures.1 m.result m.ensures.0)

pub returns-in-Some : goal.returns-in-Some
returns-in-Some c =
    let m = c.make_entries-made in
    let f = m.new.found in
    let long = pixels-length c.args.pixels.now (length c.args.labels.now) c.requires.0 in
    let k = c.in-Some.ensures in
    let figures : sizes_of c.in-Some.ranges.now ≡ held_figures m.result.total (sizes_of f.ranges) =
    held-figures (λ (r : CodedRange). r.size) f.ranges c.in-Some.ranges.now f.count k.0 k.1 ∙ ap (λ (n : ℕ). held_figures n (sizes_of f.ranges)) (sym m.ensures.2) in
    let bytes = bytes-each c.args.pixels.now (λ j. let known = c.type_inv.pixels j in omega arith) in
    let left = labels-left c.args.closeness (pixels_of c.args.pixels.now) m.new.order (sizes_of f.ranges) m.ensures.1 m.result m.ensures.0 bytes c.args.labels.now (sym long) in
    (m.ensures.0, c.write_labels.ensures ∙ ap (λ (z : List ℕ). labels_by z m.new.order (length z) c.args.labels.now) figures ∙ left)

pub returns-in_default : goal.returns-in_default
returns-in_default c =
    let m = c.make_entries-made in
    let f = m.new.found in
    let long = pixels-length c.args.pixels.now (length c.args.labels.now) c.requires.0 in
    let bytes = bytes-each c.args.pixels.now (λ j. let known = c.type_inv.pixels j in omega arith) in
    let left = labels-left c.args.closeness (pixels_of c.args.pixels.now) m.new.order (sizes_of f.ranges) m.ensures.1 m.result m.ensures.0 bytes c.args.labels.now (sym long) in
    (m.ensures.0, none-labelled (sizes_of f.ranges) m.new.order c.args.labels.now m.result.total (omega (arith, c.in_default.ensures, m.ensures.2)) ∙ left)
