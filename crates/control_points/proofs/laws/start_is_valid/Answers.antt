use Rattle.control_points.proofs.ValidSteps.{start_is_valid}
use Rattle.control_points.proofs.laws.start_is_valid.Goals as goal

pub returns : goal.returns
returns _ = start_is_valid
