use Rattle.control_points.proofs.ValidSteps.{variable_exists}
use Rattle.control_points.proofs.laws.variables_exist.Goals as goal

pub returns : goal.returns
returns _ = variable_exists
