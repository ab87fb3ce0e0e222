use Rattle.std.proofs.Common.{◌≡◌, ◌+◌, ap, sym, ◌∙◌, arith, map, drop}
use Rattle.control_points.proofs.Left.{then_ok}
use Rattle.control_points.proofs.Followed.{followed_along, leads_step}
use Rattle.control_points.proofs.Laying.{reads_left, reads_done, total_left}
use Rattle.control_points.specs.Drawing.{plan_in}
use Rattle.control_points.specs.Extents.{read_points, total}
use Rattle.control_points.specs.Pieces.{both, line_act, way}
use Rattle.control_points.specs.Pieces as pieces
use Rattle.control_points.specs.declared.edge.Act.TheVariants as act
use Rattle.control_points.proofs.scene.Scene.reads.Goals as goal
use Rattle.control_points.proofs.scene.Scene.reads.Goals.{else-line, then-line}

pub loop-access-preserved : goal.loop-access-preserved
loop-access-preserved c =
    let plan = plan_in c.args.self.now in
    let xs = c.args.to.now in
    let k = c.loop-access.access-index in
    let x = c.access-item.result in
    let end = line_act c.args.line act.DropLine in
    let point = c.in_ok-here.ensures.point in
    let left : total (map read_points (drop k xs)) ≡ read_points x + total (map read_points (drop (k + 1) xs)) = total_left read_points xs k x (omega arith) c.access-item.is in
    record {
      here = omega (arith, c.loop-access.invariant.here, left, point);
      low = omega (arith, c.loop-access.invariant.low, point);
      drawn = c.in_ok-here.ensures.graph;
      exact = leads_step c.loop-access.invariant.exact c.in_ok-here.ensures.exact
          (reads_left plan xs k x end c.loop-access.here c.args.next (omega arith) c.access-item.is ∙ ap (λ n. both (pieces.read plan x c.loop-access.here) (pieces.reads plan (drop (k + 1) xs) end n c.args.next)) (sym point));
    }

pub returns-clause-exact : goal.returns-clause-exact
returns-clause-exact c =
    let end = line_act c.args.line act.DropLine in
    let last : c.if-line.end ≡ end = elim c.if-line.branch [ then-line w ↦ w.end-is ∙ ap (λ b. line_act b act.DropLine) (sym w.if-line.true) | else-line w ↦ w.end-is ∙ ap (λ b. line_act b act.DropLine) (sym w.if-line.false) ] in
    then_ok c.edge.result c.edge.ensures.exact
    (λ f. c.loop-access.invariant.exact.then _ (followed_along (sym (reads_done (plan_in c.args.self.now) c.args.to.now c.loop-access.access-index end c.loop-access.here c.args.next c.loop-access-test.false)) (followed_along (ap (λ a. way c.loop-access.here a c.args.next) last) f)))
