use Rattle.control_points.proofs.Alone.{call_is_alone}
use Rattle.control_points.proofs.laws.a_call_leaves_its_point_alone.Goals as goal

pub returns : goal.returns
returns _ = call_is_alone
