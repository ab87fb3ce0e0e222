use Rattle.std.proofs.Common.{arith, refl}
use Rattle.control_points.proofs.Left.{then_ok}
use Rattle.control_points.proofs.Scened.{judged_in, weaker_in}
use Rattle.control_points.proofs.Followed.{judged_before, followed_by_both}
use Rattle.control_points.specs.Checking.{expr_checks}
use Rattle.pas_program.specs.Checked.{tables}
use Rattle.control_points.proofs.scene.Scene.condition.Goals as goal

pub test-requires-clause-graph : goal.test-requires-clause-graph
test-requires-clause-graph c =
    let g = c.args.graph.now in
    judged_in c.args.self.now g.edges g.checks c.expr.new.checks c.args.here c.judge.result _ c.requires.graph (omega arith) c.requires.high c.judge.ensures.point c.in_ok-expr.ensures

pub returns-clause-graph : goal.returns-clause-graph
returns-clause-graph c = then_ok c.test-2.result c.test-2.ensures.graph (λ h. weaker_in c.args.self.now _ _ c.args.here _ h (omega arith))

pub returns-clause-exact : goal.returns-clause-exact
returns-clause-exact c =
    then_ok c.test-2.result c.test-2.ensures.exact
    (λ f. judged_before (followed_by_both c.in_ok-test.ensures.exact f) c.judge.result c.args.here c.args.self.now.program.now (λ p. expr_checks (tables p) c.args.cond.now) c.judge.ensures.program c.judge.ensures.point refl c.in_ok-expr.ensures)
