use Rattle.control_points.proofs.JudgedFlows.{checks_are}
use Rattle.control_points.proofs.judgements.checks_are_those_of_points.Goals as goal

pub returns : goal.returns
returns _ f = checks_are f
