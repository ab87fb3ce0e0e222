use Rattle.control_points.proofs.ValidForeseen.{error_is_foreseen}
use Rattle.control_points.proofs.laws.each_error_is_foreseen.Goals as goal

pub returns : goal.returns
returns _ c s f w v h = error_is_foreseen c w s v f h
