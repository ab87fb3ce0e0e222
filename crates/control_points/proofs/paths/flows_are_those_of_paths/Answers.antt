use Rattle.control_points.proofs.PathsWhole.{flow_is_of_paths}
use Rattle.control_points.proofs.paths.flows_are_those_of_paths.Goals as goal

pub returns : goal.returns
returns _ f = flow_is_of_paths f
