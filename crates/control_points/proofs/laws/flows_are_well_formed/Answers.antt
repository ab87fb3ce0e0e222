use Rattle.control_points.proofs.Exits.{flow_pairs}
use Rattle.control_points.proofs.ValidFlows.{flow_is_well_formed}
use Rattle.control_points.proofs.laws.flows_are_well_formed.Goals as goal

pub returns : goal.returns
returns _ = λ f. flow_is_well_formed f f.entries_fit f.edges_lead (flow_pairs f)
