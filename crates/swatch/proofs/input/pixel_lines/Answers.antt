-- Line by line, three bytes for each. Assumes nothing.
use Rattle.std.proofs.Common.{arith, ℕ, List, [], ◌++◌, ◌≡◌, sym, ap, ◌∙◌, take, drop, ◌+◌, ◌*◌, ◌-◌, length, length-take, length-drop}
use Rattle.std.proofs.Math.Option.{some, none}
use Rattle.std.proofs.lemmas.Slice.{take-put_mid}
use Rattle.swatch.specs.Input.{pixel_line}
use Rattle.swatch.specs.Reading.{most_swatch_pixels}
use Rattle.swatch.proofs.Rows.{joined, rows_at, rows_start, rows_step, rows-bad, rows_end, bytes-none}
use Rattle.swatch.proofs.input.pixel_lines.Goals as goal

pub overflow_mul-pixels : goal.overflow_mul-pixels
unfolding most_swatch_pixels
overflow_mul-pixels c = omega (arith, c.requires)

pub returns-then-text-pixels : goal.returns-then-text-pixels
returns-then-text-pixels c = sym (bytes-none c.args.text.now (omega (arith, c.requires)) (λ e. omega (arith, c.requires, c.if-text-pixels.true)))

pub loop-i-init : goal.loop-i-init
loop-i-init c = ap (λ (n : ℕ). joined [] (rows_at (n - 0) (drop 13 c.args.text.now))) c.requires.0 ∙ rows_start c.args.text.now (omega (arith, c.requires))

-- the part of the text that is read is a line
line-part : (start : ℕ) → start + 13 - start ≡ 13
line-part start = omega arith

pub returns-in_err-row : goal.returns-in_err-row
returns-in_err-row c =
    let start = 13 * (c.loop-i.i + 1) in
    let bad : none ≡ pixel_line (take 13 (drop start c.args.text.now)) = rw (line-part start) at c.in_err-row.ensures in
    rw c.from_residual.ensures (sym (rows-bad c.args.pixels c.loop-i.i c.args.text.now (take (3 * c.loop-i.i) c.loop-i.bytes) c.loop-i-test.true bad) ∙ c.loop-i.invariant)

pub loop-i-preserved : goal.loop-i-preserved
loop-i-preserved c =
    let i = c.loop-i.i in
    let text = c.args.text.now in
    let start = 13 * (i + 1) in
    let row = c.in_ok-row.row in
    let good : some row ≡ pixel_line (take 13 (drop start text)) = rw (line-part start) at c.in_ok-row.ensures in
    let three : 3 * (i + 1) ≡ 3 * i + length c.copy_from_slice.new.self =
    omega (arith, c.copy_from_slice.ensures.len, length-take (3 * i + 3 - 3 * i) (drop (3 * i) c.loop-i.bytes), length-drop (3 * i) c.loop-i.bytes, c.loop-i.auto.bytes, c.requires) in
    ap (λ (xs : List ℕ). joined xs (rows_at (c.args.pixels - (i + 1)) (drop (13 * (i + 1 + 1)) text)))
    (take-put_mid (3 * i) _ c.loop-i.bytes c.copy_from_slice.new.self (3 * (i + 1)) three (omega (arith, c.loop-i.auto.bytes, c.requires)) ∙ ap (λ (ys : List ℕ). take (3 * i) c.loop-i.bytes ++ ys) c.copy_from_slice.ensures.after)
    ∙ sym (rows_step c.args.pixels i text (take (3 * i) c.loop-i.bytes) row c.loop-i-test.true good)
    ∙ c.loop-i.invariant

pub returns : goal.returns
returns c =
    let e : c.loop-i.i ≡ c.args.pixels = omega arith in
    sym (rows_end c.args.pixels c.args.text.now (take (3 * c.args.pixels) c.loop-i.bytes) (omega (arith, c.if-text-pixels.false))) ∙ rw e at c.loop-i.invariant
