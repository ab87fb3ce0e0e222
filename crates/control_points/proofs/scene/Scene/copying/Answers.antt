use Rattle.std.proofs.Common.{arith, refl, ap, ◌∙◌, ◌++◌}
use Rattle.control_points.proofs.Left.{then_ok}
use Rattle.control_points.proofs.Scened.{judged_in, weaker_in}
use Rattle.control_points.proofs.Followed.{judged_before, followed_along}
use Rattle.control_points.specs.Checking.{access_checks}
use Rattle.pas_program.specs.Checked.{tables}
use Rattle.control_points.specs.declared.edge.Act.TheVariants as act
use Rattle.control_points.specs.Pieces.{way}
use Rattle.control_points.proofs.scene.Scene.copying.Goals as goal

pub returns-clause-graph : goal.returns-clause-graph
returns-clause-graph c =
    let s = c.args.self.now in
    let g = c.args.graph.now in
    let judged = judged_in s g.edges g.checks c.copying.new.checks c.args.here c.judge.result _ c.requires.graph (omega arith) c.requires.high c.judge.ensures.point c.in_ok-copying.ensures in
    then_ok c.edge.result (c.edge.ensures.graph c.args.here judged) (λ h. weaker_in s _ _ c.args.here _ h (omega arith))

pub returns-clause-exact : goal.returns-clause-exact
returns-clause-exact c =
    let acts = ap (λ x. act.Copy x c.in_ok-from.from) c.in_ok-to.ensures ∙ ap (λ y. act.Copy c.args.to.now y) c.in_ok-from.ensures in
    then_ok c.edge.result c.edge.ensures.exact
    (λ f. judged_before (followed_along (ap (λ x. way c.args.here x c.args.next) acts) f) c.judge.result c.args.here c.args.self.now.program.now (λ p. access_checks (tables p) c.args.to.now ++ access_checks (tables p) c.args.from.now) c.judge.ensures.program c.judge.ensures.point refl c.in_ok-copying.ensures)
