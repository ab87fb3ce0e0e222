use Rattle.control_points.proofs.ValidSteps.{value_lies_in_host}
use Rattle.control_points.proofs.laws.values_lie_in_their_hosts.Goals as goal

pub returns : goal.returns
returns _ = value_lies_in_host
