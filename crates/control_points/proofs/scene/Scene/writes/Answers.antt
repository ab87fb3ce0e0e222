use Rattle.std.proofs.Common.{arith, ◌≡◌, ◌+◌, map, drop, ap, sym, ◌∙◌}
use Rattle.control_points.proofs.Loops.{item_at}
use Rattle.control_points.proofs.Left.{then_ok}
use Rattle.control_points.proofs.Followed.{followed_along, leads_step}
use Rattle.control_points.proofs.Laying.{writes_left, writes_done, total_left}
use Rattle.control_points.specs.Drawing.{plan_in}
use Rattle.control_points.specs.Extents.{write_points, total}
use Rattle.control_points.specs.Pieces.{both, line_act, way}
use Rattle.control_points.specs.Pieces as pieces
use Rattle.control_points.specs.declared.edge.Act.TheVariants as act
use Rattle.control_points.proofs.scene.Scene.writes.Goals as goal
use Rattle.control_points.proofs.scene.Scene.writes.Goals.{else-line, then-line}

pub write-requires-clause-fits : goal.write-requires-clause-fits
write-requires-clause-fits c = c.requires.fits.each c.loop-item.item-index c.item-item.result (item_at c.args.items.now c.loop-item.item-index c.item-item.result (omega arith) c.item-item.is)

pub loop-item-preserved : goal.loop-item-preserved
loop-item-preserved c =
    let plan = plan_in c.args.self.now in
    let xs = c.args.items.now in
    let k = c.loop-item.item-index in
    let x = c.item-item.result in
    let end = line_act c.args.line act.EndLine in
    let point = c.in_ok-here.ensures.point in
    let left : total (map write_points (drop k xs)) ≡ write_points x + total (map write_points (drop (k + 1) xs)) = total_left write_points xs k x (omega arith) c.item-item.is in
    record {
      here = omega (arith, c.loop-item.invariant.here, left, point);
      low = omega (arith, c.loop-item.invariant.low, point);
      drawn = c.in_ok-here.ensures.graph;
      exact = leads_step c.loop-item.invariant.exact c.in_ok-here.ensures.exact
          (writes_left plan xs k x end c.loop-item.here c.args.next (omega arith) c.item-item.is ∙ ap (λ n. both (pieces.write plan x c.loop-item.here) (pieces.writes plan (drop (k + 1) xs) end n c.args.next)) (sym point));
    }

pub returns-clause-exact : goal.returns-clause-exact
returns-clause-exact c =
    let end = line_act c.args.line act.EndLine in
    let last : c.if-line.end ≡ end = elim c.if-line.branch [ then-line w ↦ w.end-is ∙ ap (λ b. line_act b act.EndLine) (sym w.if-line.true) | else-line w ↦ w.end-is ∙ ap (λ b. line_act b act.EndLine) (sym w.if-line.false) ] in
    then_ok c.edge.result c.edge.ensures.exact
    (λ f. c.loop-item.invariant.exact.then _ (followed_along (sym (writes_done (plan_in c.args.self.now) c.args.items.now c.loop-item.item-index end c.loop-item.here c.args.next c.loop-item-test.false)) (followed_along (ap (λ a. way c.loop-item.here a c.args.next) last) f)))
