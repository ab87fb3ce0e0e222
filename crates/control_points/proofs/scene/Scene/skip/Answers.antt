use Rattle.std.proofs.Common.{arith}
use Rattle.control_points.proofs.Left.{then_ok}
use Rattle.control_points.proofs.Scened.{weaker_in}
use Rattle.control_points.proofs.scene.Scene.skip.Goals as goal

pub returns-clause-graph : goal.returns-clause-graph
returns-clause-graph c = then_ok c.edge.result (c.edge.ensures.graph c.args.here c.requires.graph) (λ g. weaker_in c.args.self.now _ _ c.args.here _ g (omega arith))
