use Rattle.weak_order.proofs.One.{one_order}
use Rattle.weak_order.proofs.laws.orders_are_one.Goals as goal

pub returns : goal.returns
returns c = one_order
