use Rattle.control_points.specs.Flows.{chart_of}
use Rattle.alias_class.proofs.Chains.{has_its_class}
use Rattle.alias_class.proofs.laws.each_activation_has_its_class.Goals as goal

pub returns : goal.returns
returns c = λ f items i s classes input reached closed. has_its_class f classes closed s.stack (c.runs_are_valid.ensures (chart_of f) items i s (c.flows_are_well_formed.ensures f) input reached).stack
