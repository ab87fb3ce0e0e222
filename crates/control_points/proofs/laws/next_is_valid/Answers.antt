use Rattle.control_points.proofs.ValidSteps.{step_is_valid}
use Rattle.control_points.proofs.laws.next_is_valid.Goals as goal

pub returns : goal.returns
returns _ c s t w v h = step_is_valid c w s v t h
