use Rattle.control_points.proofs.AssertedRoutines.{asserted_in_flow}
use Rattle.control_points.proofs.laws.assertions_are_of_their_routine.Goals as goal

pub returns : goal.returns
returns _ = asserted_in_flow
