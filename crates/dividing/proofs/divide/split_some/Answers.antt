use Rattle.std.proofs.Common.{refl, sym}
use Rattle.dividing.specs.Splitting.{left_of}
use Rattle.dividing.proofs.KindLaws.{some-none, some-some}
use Rattle.dividing.proofs.divide.split_some.Goals as goal

pub returns-then-order-eq0 : goal.returns-then-order-eq0
returns-then-order-eq0 c =
    let a = c.args in
    some-none a.node.closeness _ (left_of a.node.next) a.node.code a.found a.order.now _ _ a.order.now a.other.now c.if-order-eq0.true refl (sym c.requires.lists)

pub returns : goal.returns
returns c =
    let a = c.args in
    some-some a.node.closeness _ (left_of a.node.next) a.node.code a.found a.order.now _ _ _ _ _ _ c.if-order-eq0.false c.split.ensures
