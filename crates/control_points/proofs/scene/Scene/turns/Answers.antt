use Rattle.std.proofs.Common.{arith}
use Rattle.control_points.proofs.Left.{then_ok}
use Rattle.control_points.proofs.Scened.{weaker_in}
use Rattle.control_points.proofs.Followed.{followed_by_both}
use Rattle.control_points.proofs.scene.Scene.turns.Goals as goal

pub returns-clause-graph : goal.returns-clause-graph
returns-clause-graph c =
    let first = c.in_ok-edge.ensures.graph c.args.step c.requires.graph in
    then_ok c.edge-2.result (c.edge-2.ensures.graph c.args.step first) (λ h. weaker_in c.args.self.now _ _ c.args.step _ h (omega arith))

pub returns-clause-exact : goal.returns-clause-exact
returns-clause-exact c = then_ok c.edge-2.result c.edge-2.ensures.exact (λ f. followed_by_both c.in_ok-edge.ensures.exact f)
