use Rattle.control_points.specs.Flows.{chart_of}
use Rattle.alias_class.proofs.Denoting.{disjoint}
use Rattle.alias_class.proofs.laws.cells_denote_different_variables.Goals as goal

pub returns : goal.returns
returns c = λ f items i s input reached. disjoint f s.stack (c.runs_are_valid.ensures (chart_of f) items i s (c.flows_are_well_formed.ensures f) input reached).stack
