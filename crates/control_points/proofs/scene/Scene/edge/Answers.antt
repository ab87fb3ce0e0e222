use Rattle.control_points.specs.Drawing.{points_in}
use Rattle.control_points.proofs.Drawn.{drawn_edge, graph_along, own_block}
use Rattle.control_points.proofs.Left.{both_ok}
use Rattle.control_points.proofs.Followed.{followed_by_way}
use Rattle.control_points.proofs.scene.Scene.edge.Goals as goal

pub returns-clause-graph : goal.returns-clause-graph
returns-clause-graph c = λ n drawn.
    let s = c.args.self.now in
    let p = s.program.now in
    let block = own_block p s.numbering.now.marks s.numbering.now.entries s.labels.now s.routine s.entry s.exit s.placed in
    let more = drawn_edge p (points_in s) s.routine s.entry s.exit block c.args.graph.now.edges c.args.graph.now.checks n c.args.from c.args.to c.args.act drawn c.requires.low c.requires.high c.requires.next_low c.requires.next_high c.requires.fits c.requires.local in
    both_ok c.edge.result c.edge.ensures.edges c.edge.ensures.checks (λ e k. graph_along p (points_in s) _ _ _ _ n e k more)

pub returns-clause-exact : goal.returns-clause-exact
returns-clause-exact c = both_ok c.edge.result c.edge.ensures.edges c.edge.ensures.checks (λ e k. followed_by_way c.args.from c.args.to c.args.act e k)
