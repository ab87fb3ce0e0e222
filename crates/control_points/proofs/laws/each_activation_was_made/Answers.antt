use Rattle.control_points.proofs.ValidCallers.{made_in_run}
use Rattle.control_points.proofs.laws.each_activation_was_made.Goals as goal

pub returns : goal.returns
returns _ = made_in_run
