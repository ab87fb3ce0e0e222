use Rattle.control_points.specs.Flows.{chart_of}
use Rattle.alias_class.proofs.Sharing.{linked_same}
use Rattle.alias_class.proofs.laws.linked_cells_denote_one_variable.Goals as goal

pub returns : goal.returns
returns c = λ f items i s input reached. record { each = linked_same f s.stack (c.runs_are_valid.ensures (chart_of f) items i s (c.flows_are_well_formed.ensures f) input reached).stack }
