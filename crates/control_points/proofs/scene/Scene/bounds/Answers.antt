use Rattle.std.proofs.Common.{arith, refl, ap, ◌∙◌, ◌+◌}
use Rattle.control_points.proofs.Left.{then_ok}
use Rattle.control_points.proofs.Scened.{judged_in, weaker_in}
use Rattle.control_points.proofs.Followed.{judged_before, followed_by_both, followed_along}
use Rattle.control_points.specs.Checking.{bounds_checks}
use Rattle.control_points.specs.Evaluation.{var_type}
use Rattle.pas_program.specs.Checked.{tables}
use Rattle.control_points.specs.declared.edge.Act.TheVariants as act
use Rattle.control_points.specs.Pieces.{way}
use Rattle.control_points.proofs.scene.Scene.bounds.Goals as goal

pub returns-clause-graph : goal.returns-clause-graph
returns-clause-graph c =
    let s = c.args.self.now in
    let g = c.args.graph.now in
    let judged = judged_in s g.edges g.checks c.bounds.new.checks c.args.here c.judge.result _ c.requires.graph (omega arith) c.requires.high c.judge.ensures.point c.in_ok-bounds.ensures in
    let first = c.in_ok-edge.ensures.graph c.args.here judged in
    then_ok c.edge-2.result (c.edge-2.ensures.graph c.args.here first) (λ h. weaker_in s _ _ c.args.here _ h (omega arith))

pub returns-clause-exact : goal.returns-clause-exact
returns-clause-exact c =
    let t = c.args.turn in
    let into = ap (λ x. act.Enter t.control t.bound x t.down c.in_ok-copy_expr-2.field-0) c.in_ok-copy_expr.ensures ∙ ap (λ y. act.Enter t.control t.bound c.args.first.now t.down y) c.in_ok-copy_expr-2.ensures in
    let past = ap (λ x. act.Bypass t.control t.bound x t.down c.in_ok-copy_expr-4.field-0) c.in_ok-copy_expr-3.ensures ∙ ap (λ y. act.Bypass t.control t.bound c.args.first.now t.down y) c.in_ok-copy_expr-4.ensures in
    then_ok c.edge-2.result c.edge-2.ensures.exact
    (λ f. judged_before (followed_by_both (followed_along (ap (λ x. way c.args.here x (c.args.here + 1)) into) c.in_ok-edge.ensures.exact) (followed_along (ap (λ x. way c.args.here x c.args.next) past) f))
    c.judge.result c.args.here c.args.self.now.program.now (λ p. bounds_checks (tables p) (var_type (tables p) t.control) c.args.first.now c.args.last.now) c.judge.ensures.program c.judge.ensures.point refl c.in_ok-bounds.ensures)
