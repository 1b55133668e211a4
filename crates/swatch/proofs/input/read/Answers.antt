-- The grounds in their sequence. Assumes nothing.
use Rattle.std.proofs.Common.{arith, refl, ℕ, List, ◌≡◌, ◌*◌, ◌≤◌, true, false, sym, ap, ◌∙◌}
use Rattle.std.specs.Prelude.{Ok}
use Rattle.std.proofs.Math.Option.{some, none}
use Rattle.std.proofs.lemmas.Result.{err_from_is_err_and}
use Rattle.swatch.specs.Input.{header_of, size_of, bytes_of, pixel_bytes}
use Rattle.swatch.specs.Reading.{most_swatch_pixels, bad_size}
use Rattle.swatch.proofs.Given.{turned_down}
use Rattle.swatch.proofs.Numbers.{size_is, size-none, size-large, size-good, reading-headless, reading-sizeless, reading-lineless, reading-whole}
use Rattle.swatch.proofs.input.read.Goals as goal
use Rattle.swatch.proofs.input.read.Goals.{then-pixels-eq0-via-then-pixels-eq0, then-pixels-eq0-via-else-pixels-eq0+then-pixels}

pub returns-in_err-width-clause-answer : goal.returns-in_err-width-clause-answer
returns-in_err-width-clause-answer c =
    let p = err_from_is_err_and c.from_residual.result c.from_residual.ensures.1 in
    let bare : none ≡ header_of c.args.text.now = rw c.in_err-width.ensures.ok_part at c.header.ensures in
    rw (p.1, p.2, turned_down _ _ _ c.in_err-width.ensures.value) (reading-headless c.args.text.now bare)

pub returns-then-pixels-eq0-clause-answer : goal.returns-then-pixels-eq0-clause-answer
unfolding most_swatch_pixels
returns-then-pixels-eq0-clause-answer c =
    let there : some c.in_ok-width.field-0 ≡ header_of c.args.text.now = rw c.in_ok-width.ensures.ok_part at c.header.ensures in
    let size = size_is c.args.text.now c.in_ok-width.field-0 c.from.result c.from-2.result there c.from.ensures c.from-2.ensures in
    let bad : bad_size (size_of c.args.text.now) ≡ true =
    elim c.then-pixels-eq0.branch [
      | then-pixels-eq0-via-then-pixels-eq0 w ↦ rw size (size-none (c.from.result * c.from-2.result) (omega (arith, w.if-pixels-eq0.true)))
      | then-pixels-eq0-via-else-pixels-eq0+then-pixels w ↦ rw size (size-large (c.from.result * c.from-2.result) (omega (arith, w.if-pixels.true)))
    ] in
    reading-sizeless c.args.text.now c.in_ok-width.field-0 there bad

pub pixel_lines-requires : goal.pixel_lines-requires
unfolding most_swatch_pixels
pixel_lines-requires c =
    let there : some c.in_ok-width.field-0 ≡ header_of c.args.text.now = rw c.in_ok-width.ensures.ok_part at c.header.ensures in
    let size = size_is c.args.text.now c.in_ok-width.field-0 c.from.result c.from-2.result there c.from.ensures c.from-2.ensures in
    (sym size, omega (arith, c.if-pixels-eq0.false), omega (arith, c.if-pixels.false), omega (arith, c.if-pixels.false, c.requires))

-- a size that is not turned down
size-fine : (text : List ℕ) (n : ℕ) → size_of text ≡ n → (n ≡ 0 → ⊥) → n ≤ 16384 → bad_size (size_of text) ≡ false
unfolding most_swatch_pixels
size-fine text n e s few = rw e (size-good n s few)

pub returns-in_err-ok_or-clause-answer : goal.returns-in_err-ok_or-clause-answer
returns-in_err-ok_or-clause-answer c =
    let there : some c.in_ok-width.field-0 ≡ header_of c.args.text.now = rw c.in_ok-width.ensures.ok_part at c.header.ensures in
    let size = size_is c.args.text.now c.in_ok-width.field-0 c.from.result c.from-2.result there c.from.ensures c.from-2.ensures in
    let p = err_from_is_err_and c.from_residual-in_err-ok_or.result c.from_residual-in_err-ok_or.ensures.1 in
    let bad : none ≡ pixel_bytes c.args.text.now = rw c.in_err-ok_or.ensures.ok_part at c.pixel_lines.ensures in
    rw (p.1, p.2, turned_down _ _ _ c.in_err-ok_or.ensures.value)
    (reading-lineless c.args.text.now c.in_ok-width.field-0 there (size-fine _ _ size (λ z. omega (arith, z, c.if-pixels-eq0.false)) (omega (arith, c.if-pixels.false))) bad)

pub returns-clause-answer : goal.returns-clause-answer
returns-clause-answer c =
    let there : some c.in_ok-width.field-0 ≡ header_of c.args.text.now = rw c.in_ok-width.ensures.ok_part at c.header.ensures in
    let size = size_is c.args.text.now c.in_ok-width.field-0 c.from.result c.from-2.result there c.from.ensures c.from-2.ensures in
    let good = rw c.in_ok-ok_or.ensures.ok_part at c.pixel_lines.ensures in
    ap (λ (n : ℕ). Ok n) (sym size) ∙ reading-whole c.args.text.now c.in_ok-width.field-0 _ there (size-fine _ _ size (λ z. omega (arith, z, c.if-pixels-eq0.false)) (omega (arith, c.if-pixels.false))) good

pub returns-clause-bytes : goal.returns-clause-bytes
unfolding bytes_of
returns-clause-bytes c = let good = rw c.in_ok-ok_or.ensures.ok_part at c.pixel_lines.ensures in rw (← good) refl
