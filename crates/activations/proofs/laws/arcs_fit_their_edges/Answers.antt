use Rattle.activations.proofs.FittingGraphs.{arcs_fit}
use Rattle.activations.proofs.laws.arcs_fit_their_edges.Goals as goal

pub returns : goal.returns
returns c = λ f g drawn valid. arcs_fit f g drawn valid c.what_is_in_scope_is_seen.ensures.routines
