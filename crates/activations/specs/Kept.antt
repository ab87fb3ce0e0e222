-- How a graph is kept, so that its readers find what they answer.
use Rattle.std.specs.Prelude.{◌≡◌, length}
use Rattle.activations.specs.declared.arcs.Arcs.{Arcs}
use Rattle.activations.specs.declared.nodes.Nodes.{Nodes}
use Rattle.activations.specs.Listed.{AreNumbered}

pub record IsKept (nodes : Nodes) (arcs : Arcs) : Type 0 where
  pub numbered : AreNumbered nodes
  pub incoming : length arcs.incoming.items ≡ length nodes.list.items
  pub outgoing : length arcs.outgoing.items ≡ length nodes.list.items
