use Rattle.control_points.proofs.PathsWhole.{paths_are_numbers}
use Rattle.control_points.proofs.paths.paths_say_the_same_as_numbers.Goals as goal

pub returns : goal.returns
returns _ p = paths_are_numbers p
