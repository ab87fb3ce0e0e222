use Rattle.control_points.proofs.StatementPlaces.{checks_differ}
use Rattle.control_points.proofs.judgements.checks_of_a_kind_differ_in_place.Goals as goal

pub returns : goal.returns
returns _ = checks_differ
