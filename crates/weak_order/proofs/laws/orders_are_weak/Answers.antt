use Rattle.weak_order.proofs.Weak.{is_weak}
use Rattle.weak_order.proofs.laws.orders_are_weak.Goals as goal

pub returns : goal.returns
returns c = is_weak
