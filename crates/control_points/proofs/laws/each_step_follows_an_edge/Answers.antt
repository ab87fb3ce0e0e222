use Rattle.control_points.proofs.ValidSteps.{step_found}
use Rattle.control_points.proofs.laws.each_step_follows_an_edge.Goals as goal

pub returns : goal.returns
returns _ = step_found
