use Rattle.std.proofs.Common.{◌≡◌, ◌<◌, ◌/◌, ◌∙◌, ℕ, length, drop, get_or, refl, sym, arith, rules}
use Rattle.std.proofs.Math.ListN.{length-map}
use Rattle.std.proofs.Math.Seq.{length-take-le}
use Rattle.palette.specs.Cards.{pixels_of, most_entries}
use Rattle.palette.specs.Sound.{most_pixels}
use Rattle.palette.proofs.Triples.{pixels-length}
use Rattle.dividing.specs.declared.keeping.CodedRange.{CodedRange}
use Rattle.dividing.specs.Keeping.{codes_of, sizes_of}
use Rattle.making.proofs.Divided.{divided-left, divided-few, figures-laid, card-made}
use Rattle.making.proofs.cards.make_entries.Goals as goal

pub overflow_cast-result : goal.overflow_cast-result
unfolding most_pixels most_entries
overflow_cast-result c =
    let n = length c.args.pixels.now / 3 in
    let p = c.requires.pixels_len in
    let rs = c.args.found.now.ranges in
    let d = c.divide_pixels-found in
    let room : length rs ≡ most_entries = search rules in
    let codes : length (codes_of rs) ≡ most_entries = length-map rs (λ (r : CodedRange). r.code) ∙ room in
    let sizes : length (sizes_of rs) ≡ most_entries = length-map rs (λ (r : CodedRange). r.size) ∙ room in
    let long : length d.new.order ≡ n = d.auto.order ∙ length-take-le n c.args.order.now c.requires.pixels_in_bounds.0 in
    let left = divided-left c.args.closeness (pixels_of c.args.pixels.now) (codes_of rs) (sizes_of rs) (codes_of d.new.ranges) (sizes_of d.new.ranges)
    d.new.order (drop n c.args.order.now) d.result d.ensures codes sizes (long ∙ sym (pixels-length c.args.pixels.now n p.0)) in
    let byte : (j : ℕ) → get_or c.args.pixels.now j 0 < 256 = λ j. let known = c.type_inv.pixels j in omega arith in
    omega (arith, divided-few c.args.pixels.now byte p.0 _ _ _ _ _ left, p.1)

pub held_entries-requires : goal.held_entries-requires
unfolding most_entries
held_entries-requires c =
    let n = length c.args.pixels.now / 3 in
    let p = c.requires.pixels_len in
    let rs = c.args.found.now.ranges in
    let d = c.divide_pixels-found in
    let room : length rs ≡ most_entries = search rules in
    let codes : length (codes_of rs) ≡ most_entries = length-map rs (λ (r : CodedRange). r.code) ∙ room in
    let sizes : length (sizes_of rs) ≡ most_entries = length-map rs (λ (r : CodedRange). r.size) ∙ room in
    let long : length d.new.order ≡ n = d.auto.order ∙ length-take-le n c.args.order.now c.requires.pixels_in_bounds.0 in
    let left = divided-left c.args.closeness (pixels_of c.args.pixels.now) (codes_of rs) (sizes_of rs) (codes_of d.new.ranges) (sizes_of d.new.ranges)
    d.new.order (drop n c.args.order.now) d.result d.ensures codes sizes (long ∙ sym (pixels-length c.args.pixels.now n p.0)) in
    let byte : (j : ℕ) → get_or c.args.pixels.now j 0 < 256 = λ j. let known = c.type_inv.pixels j in omega arith in
    figures-laid c.args.pixels.now byte p.0 _ _ _ _ _ left p.1

pub returns : goal.returns
unfolding most_entries
returns c =
    let n = length c.args.pixels.now / 3 in
    let p = c.requires.pixels_len in
    let rs = c.args.found.now.ranges in
    let d = c.divide_pixels-found in
    let room : length rs ≡ most_entries = search rules in
    let codes : length (codes_of rs) ≡ most_entries = length-map rs (λ (r : CodedRange). r.code) ∙ room in
    let sizes : length (sizes_of rs) ≡ most_entries = length-map rs (λ (r : CodedRange). r.size) ∙ room in
    let long : length d.new.order ≡ n = d.auto.order ∙ length-take-le n c.args.order.now c.requires.pixels_in_bounds.0 in
    let left = divided-left c.args.closeness (pixels_of c.args.pixels.now) (codes_of rs) (sizes_of rs) (codes_of d.new.ranges) (sizes_of d.new.ranges)
    d.new.order (drop n c.args.order.now) d.result d.ensures codes sizes (long ∙ sym (pixels-length c.args.pixels.now n p.0)) in
    let byte : (j : ℕ) → get_or c.args.pixels.now j 0 < 256 = λ j. let known = c.type_inv.pixels j in omega arith in
    (card-made c.args.pixels.now byte p.0 _ _ _ _ _ left _ refl c.held_entries.ensures, left.laid, refl)
