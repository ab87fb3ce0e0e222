use Rattle.std.proofs.Common.{◌≡◌, ◌+◌, Bool, Global, Vec, List, length, Some, slice_get, refl, sym, subst, arith}
use Rattle.std.proofs.lemmas.Option.{slice_get_read}
use Rattle.control_points.specs.declared.edge.Edge.{Edge}
use Rattle.activations.specs.Outside.{AreLeaving}
use Rattle.activations.proofs.SilenceSteps.{leaving_more, leaving_same}
use Rattle.activations.proofs.silence.leaving_routines.Goals as goal
use Rattle.activations.proofs.silence.leaving_routines.Goals.{then-leads_out, else-leads_out}

pub loop-edge-preserved : goal.loop-edge-preserved
loop-edge-preserved c =
    let f = c.args.flow.now in
    let n = c.loop-edge.edge-index in
    let e = c.edge-item.result in
    let s = c.routine_of_point-stands.result in
    let es = c.edges-edge-items.result.now in
    let known : slice_get f.edges n ≡ Some e = subst (λ (l : List Edge). slice_get l n ≡ Some e) c.edges-edge-items.ensures (slice_get_read es (length es) n e refl c.loop-edge-test.true c.edge-item.is) in
    elim c.if-leads_out.branch [
      | then-leads_out w ↦
          let more = leaving_more f n s e known c.routine_of_point-stands.ensures c.loop-edge.routines.items c.loop-edge.invariant (c.leads_out.ensures.0 w.if-leads_out.true) in
          subst (λ (v : Vec Bool Global). AreLeaving f (n + 1) v.items) (sym w.routines-is) more
      | else-leads_out w ↦
          let same = leaving_same f n s e known c.routine_of_point-stands.ensures c.loop-edge.routines.items c.loop-edge.invariant (λ out. let marked = c.leads_out.ensures.1 out in absurd (grind (arith, marked, w.if-leads_out.false))) in
          subst (λ (v : Vec Bool Global). AreLeaving f (n + 1) v.items) (sym w.routines-is) same
    ]
