use Rattle.control_points.proofs.ValidSteps.{spot_exists}
use Rattle.control_points.proofs.laws.spots_exist.Goals as goal

pub returns : goal.returns
returns _ = spot_exists
