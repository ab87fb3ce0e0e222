use Rattle.std.proofs.Common.{arith, refl}
use Rattle.control_points.proofs.Left.{then_ok}
use Rattle.control_points.proofs.Scened.{judged_in}
use Rattle.control_points.proofs.Followed.{followed_by_judged}
use Rattle.control_points.specs.Checking.{assert_checks}
use Rattle.control_points.proofs.scene.Scene.assertions.Goals as goal

pub returns-clause-graph : goal.returns-clause-graph
returns-clause-graph c = then_ok c.assertions.result c.assertions.ensures (λ e. judged_in c.args.self.now c.args.graph.now.edges c.args.graph.now.checks _ c.args.here c.judge.result _ c.requires.graph (omega arith) c.requires.high c.judge.ensures.point e)

pub returns-clause-exact : goal.returns-clause-exact
returns-clause-exact c = then_ok c.assertions.result c.assertions.ensures (λ e. followed_by_judged c.judge.result c.args.here c.args.self.now.program.now (λ p. assert_checks p.asserts c.args.listed.now) c.judge.ensures.program c.judge.ensures.point refl e)
