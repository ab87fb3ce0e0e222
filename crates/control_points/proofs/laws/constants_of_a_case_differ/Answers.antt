use Rattle.control_points.proofs.ArmsStatements.{constants_differ_in_flow}
use Rattle.control_points.proofs.laws.constants_of_a_case_differ.Goals as goal

pub returns : goal.returns
returns _ = constants_differ_in_flow
