use Rattle.std.proofs.Common.{arith, ap}
use Rattle.control_points.specs.Drawing.{points_in}
use Rattle.control_points.proofs.Drawn.{drawn_goto, graph_along}
use Rattle.control_points.proofs.Left.{both_ok}
use Rattle.control_points.proofs.Scened.{block, weaker_in}
use Rattle.control_points.proofs.Followed.{followed_along, followed_by_way}
use Rattle.control_points.specs.declared.edge.Act.TheVariants as act
use Rattle.control_points.specs.Pieces.{way}
use Rattle.control_points.proofs.scene.Scene.goto.Goals as goal

pub returns-clause-graph : goal.returns-clause-graph
returns-clause-graph c =
    let s = c.args.self.now in
    let g = c.args.graph.now in
    let more = drawn_goto s.program.now (points_in s) s.routine s.entry s.exit (block s) g.edges g.checks c.args.here c.args.here c.label.result c.args.routine c.requires.graph (omega arith) c.requires.high c.label.ensures.within c.requires.fits in
    both_ok c.edge.result c.edge.ensures.edges c.edge.ensures.checks (λ e k. weaker_in s _ _ c.args.here _ (graph_along s.program.now (points_in s) _ _ _ _ c.args.here e k more) (omega arith))

pub returns-clause-exact : goal.returns-clause-exact
returns-clause-exact c =
    both_ok c.edge.result c.edge.ensures.edges c.edge.ensures.checks
    (λ e k. followed_along (ap (way c.args.here (act.Goto c.args.routine)) c.label.ensures.point) (followed_by_way c.args.here c.label.result (act.Goto c.args.routine) e k))
