-- `print_in` meets its contract. Assumes nothing.
use Rattle.std.proofs.Common.{arith, sym, ◌*◌, length-take-le}
use Rattle.std.proofs.lemmas.Result.{err_from_is_err_and}
use Rattle.grounds.specs.Checks.{ground_of}
use Rattle.kistrovu.proofs.Texts.{text-refused, text-made, unread-number, read-served}
use Rattle.kistrovu.proofs.printing.print_in.Goals as goal

pub returns-in_err-n : goal.returns-in_err-n
returns-in_err-n c =
    let p = err_from_is_err_and c.from_residual.result c.from_residual.ensures.1 in
    rw (p.1, p.2) (text-refused c.args.text.now c.args.out.now (ground_of c.in_err-n.field-0.0) (unread-number c.args.text.now c.in_err-n.field-0.0 c.in_err-n.ensures.answer))

pub slice_bounds-print_pixels-end : goal.slice_bounds-print_pixels-end
slice_bounds-print_pixels-end c = omega (arith, read-served c.args.text.now c.in_ok-n.n c.in_ok-n.ensures.answer, c.requires.0, c.read.auto.bytes)

pub slice_bounds-print_pixels-end-2 : goal.slice_bounds-print_pixels-end-2
slice_bounds-print_pixels-end-2 c =
    sym (length-take-le (3 * c.in_ok-n.n) _ (omega (arith, read-served c.args.text.now c.in_ok-n.n c.in_ok-n.ensures.answer, c.requires.0, c.read.auto.bytes)))

pub print_pixels-requires : goal.print_pixels-requires
print_pixels-requires c =
    let few = read-served c.args.text.now c.in_ok-n.n c.in_ok-n.ensures.answer in
    let long = length-take-le (3 * c.in_ok-n.n) c.read.new.bytes (omega (arith, few, c.requires.0, c.read.auto.bytes)) in
    (omega (arith, long), omega (arith, long, few.1), c.requires.1)

pub returns : goal.returns
returns c =
    text-made c.args.text.now c.args.out.now _ _ (read-served c.args.text.now c.in_ok-n.n c.in_ok-n.ensures.answer).0 (rw c.in_ok-n.ensures.bytes at c.print_pixels.ensures)
