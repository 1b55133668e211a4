-- What is pending is the bin where the counts fell, or nothing. Assumes nothing.
use Rattle.std.proofs.Common.{◌≡◌, ℕ, List, [], ◌++◌, take, sym, ap, ◌∙◌, append-nil, arith}
use Rattle.segmentation.specs.Walk.{pending}
use Rattle.segmentation.proofs.Walking.{pending-none, pending-nowhere, pending-store}
use Rattle.segmentation.proofs.first.put_valley.Goals as goal

pub returns-in-Some : goal.returns-in-Some
returns-in-Some c = let a = c.args in (omega arith, rw c.in-Some.is (pending-store a.separators.now a.n c.in-Some.bin a.rises (omega arith) c.if-rises.true))

pub returns-in_default : goal.returns-in_default
returns-in_default c =
    let a = c.args in
    let none : pending a.fell a.rises ≡ [] = ap (pending a.fell) c.if-rises.false ∙ pending-none a.fell in
    (omega arith, sym (ap (λ (xs : List ℕ). take a.n a.separators.now ++ xs) none ∙ append-nil (take a.n a.separators.now)))

pub returns-in_default-2 : goal.returns-in_default-2
returns-in_default-2 c =
    let a = c.args in
    let none : pending a.fell a.rises ≡ [] = rw c.in_default.is (pending-nowhere a.rises) in
    (omega arith, sym (ap (λ (xs : List ℕ). take a.n a.separators.now ++ xs) none ∙ append-nil (take a.n a.separators.now)))
