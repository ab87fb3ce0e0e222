use Rattle.std.proofs.Common.{ap, sym, ◌∙◌, subst, refl, Some, get_or}
use Rattle.std.specs.Option.{option_map}
use Rattle.std.proofs.lemmas.Option.{get_or_from_slice_get}
use Rattle.control_points.specs.declared.edge.Edge.{Edge}
use Rattle.control_points.specs.Fits.{routine_at}
use Rattle.interp.specs.Deeds.{IsAsked}
use Rattle.interp.proofs.Asking.{asked_calls, asked_lands}
use Rattle.interp.proofs.machine.Machine.follow.Goals as goal

pub land-requires-clause-point : goal.land-requires-clause-point
land-requires-clause-point c =
    let m = c.args.self.now in
    let d = c.requires in
    let l = asked_lands m.flow.now m.frames.items m.flow.now.edges_lead m.framed c.args.edge d.edge d.known d.leaves c.in-Lands.effect d.edge.act refl (subst (IsAsked m.flow.now.program m.frames.items d.edge.act) c.in-Lands.is d.asked) in
    ap (λ (e : Edge). routine_at m.flow.now.points e.to) (ap (λ xs. get_or xs c.args.edge c.index-edges-edge.result) c.edges.ensures ∙ get_or_from_slice_get m.flow.now.edges c.args.edge d.edge c.index-edges-edge.result d.known) ∙ l.point

pub call-requires-clause-target : goal.call-requires-clause-target
call-requires-clause-target c =
    let m = c.args.self.now in
    let d = c.requires in
    ap (option_map (λ (e : Edge). e.to)) d.known
    ∙ ap (λ (e : Edge). Some e.to) (sym (ap (λ xs. get_or xs c.args.edge c.index-edges-edge.result) c.edges.ensures ∙ get_or_from_slice_get m.flow.now.edges c.args.edge d.edge c.index-edges-edge.result d.known))

pub call-requires-clause-call : goal.call-requires-clause-call
call-requires-clause-call c =
    let m = c.args.self.now in
    let d = c.requires in
    asked_calls m.flow.now m.frames.items c.args.edge d.edge d.known d.leaves c.in-Calls.routine c.in-Calls.actuals d.edge.act refl (subst (IsAsked m.flow.now.program m.frames.items d.edge.act) c.in-Calls.is d.asked)
