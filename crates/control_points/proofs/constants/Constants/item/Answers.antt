use Rattle.control_points.proofs.Walked.{ok_found}
use Rattle.control_points.proofs.constants.Constants.item.Goals as goal

pub returns-in-Some : goal.returns-in-Some
returns-in-Some c = rw c.in-Some.is (ok_found _ _ _ _ _ _ c.in_ok-written.ensures c.expr.ensures)
