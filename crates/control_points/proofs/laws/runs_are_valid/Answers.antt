use Rattle.control_points.proofs.ValidSteps.{run_is_valid}
use Rattle.control_points.proofs.laws.runs_are_valid.Goals as goal

pub returns : goal.returns
returns _ = run_is_valid
