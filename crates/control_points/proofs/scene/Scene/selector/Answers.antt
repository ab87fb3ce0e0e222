use Rattle.std.proofs.Common.{arith, refl}
use Rattle.control_points.proofs.Left.{then_ok}
use Rattle.control_points.proofs.Scened.{judged_in, weaker_in}
use Rattle.control_points.proofs.Followed.{followed_by_judged}
use Rattle.pas_program.specs.Checked.{tables}
use Rattle.control_points.specs.Checking.{selector_checks}
use Rattle.control_points.proofs.scene.Scene.selector.Goals as goal

pub returns-clause-graph : goal.returns-clause-graph
returns-clause-graph c =
    let s = c.args.self.now in
    let g = c.args.graph.now in
    then_ok c.selector.result c.selector.ensures (λ e. weaker_in s g.edges c.selector.new.checks c.args.here _ (judged_in s g.edges g.checks c.selector.new.checks c.args.here c.judge.result _ c.requires.graph (omega arith) c.requires.high c.judge.ensures.point e) (omega arith))

pub returns-clause-exact : goal.returns-clause-exact
returns-clause-exact c = then_ok c.selector.result c.selector.ensures (λ e. followed_by_judged c.judge.result c.args.here c.args.self.now.program.now (λ p. selector_checks (tables p) c.args.of.now) c.judge.ensures.program c.judge.ensures.point refl e)
