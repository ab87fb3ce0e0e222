use Rattle.std.proofs.Common.{suc, arith}
use Rattle.control_points.specs.Flows.{chart_of}
use Rattle.alias_class.proofs.Reaching.{keeps_reach}
use Rattle.alias_class.proofs.laws.what_is_hidden_is_out_of_reach.Goals as goal

pub returns : goal.returns
returns c = λ f items j i d k caller later input call deeper before after.
    keeps_reach f items j i d k caller later call deeper before after (c.runs_are_valid.ensures (chart_of f) items i later (c.flows_are_well_formed.ensures f) input after).stack
    (λ g at. c.each_activation_was_made.ensures (chart_of f) items i later after (suc d) g (omega arith) at)
