use Rattle.std.proofs.Common.{◌≡◌, sym, ap, ◌∙◌, arith, refl}
use Rattle.pas_program.specs.declared.statement.Body.TheOpen.{Body-F}
use Rattle.pas_program.specs.declared.statement.Body.TheVariants as view
use Rattle.pas_program.specs.declared.statement.Body.TheViews.{out-Body, out-roll-Body}
use Rattle.control_points.specs.Extents.{part_points}
use Rattle.control_points.proofs.Scened.{judged_last, weaker_in}
use Rattle.control_points.proofs.Followed.{followed_along, followed_by_both, followed_by_judged}
use Rattle.control_points.proofs.Laying.{part_is}
use Rattle.control_points.specs.Checking.{result_checks}
use Rattle.control_points.specs.Drawing.{plan_in}
use Rattle.control_points.proofs.scene.Scene.block.Goals as goal

pub sequence-requires-clause-graph : goal.sequence-requires-clause-graph
sequence-requires-clause-graph c =
    let s = c.args.self.now in
    weaker_in s _ _ _ _ (c.in_ok-edge-in-Begin.ensures.graph s.entry c.requires.graph) (omega arith)

pub returns-clause-graph : goal.returns-clause-graph
returns-clause-graph c =
    let s = c.args.self.now in
    let opened : out-Body c.args.routine.now.body.body ≡ Body-F.Begin c.in-Begin.body c.in-Begin.end = ap out-Body (c.in-Begin.is ∙ sym (view.rolls-Begin c.in-Begin.body c.in-Begin.end)) ∙ out-roll-Body (Body-F.Begin c.in-Begin.body c.in-Begin.end) in
    judged_last s _ _ _ _ c.judge.result _ (rw c.as_slice.ensures at c.in_ok-order-in-Begin.ensures.graph) (omega (arith, ap part_points opened, c.requires.size)) c.judge.ensures.point c.in_ok-outcome-in-Begin.ensures

pub returns-clause-exact : goal.returns-clause-exact
returns-clause-exact c =
    let s = c.args.self.now in
    let opened : out-Body c.args.routine.now.body.body ≡ Body-F.Begin c.in-Begin.body c.in-Begin.end = ap out-Body (c.in-Begin.is ∙ sym (view.rolls-Begin c.in-Begin.body c.in-Begin.end)) ∙ out-roll-Body (Body-F.Begin c.in-Begin.body c.in-Begin.end) in
    followed_along (part_is (plan_in s) s.routine c.args.routine.now c.in-Begin.body c.in-Begin.end s.entry s.exit opened s.placed.entry_is s.placed.exit_is)
    (followed_by_both c.in_ok-edge-in-Begin.ensures.exact (followed_by_both (rw c.as_slice.ensures at c.in_ok-order-in-Begin.ensures.exact)
    (followed_by_judged c.judge.result s.exit s.program.now (λ p. result_checks c.args.routine.now.result c.in-Begin.end) c.judge.ensures.program c.judge.ensures.point refl c.in_ok-outcome-in-Begin.ensures)))
