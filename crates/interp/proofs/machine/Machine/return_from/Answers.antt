use Rattle.std.proofs.Common.{◌≡◌, ◌-◌, [], ◌∷◌, refl, ap, arith, ◌∙◌, sym, subst, Some, is_some}
use Rattle.std.specs.Option.{option_and_then}
use Rattle.std.proofs.lemmas.Bool.{eq-eqb}
use Rattle.std.proofs.lemmas.Option.{slice_get_within}
use Rattle.pas_program.specs.Checked.{tables}
use Rattle.control_points.specs.Actions as meaning
use Rattle.control_points.specs.Actions.{give_back, goes_on, result_of, result_value, sets, top_depth, was_made_by}
use Rattle.control_points.specs.Evaluation.{var_type}
use Rattle.control_points.specs.Flows.{chart_of}
use Rattle.control_points.specs.Storage.{whole}
use Rattle.interp.specs.declared.frame.Frame.{Frame}
use Rattle.interp.specs.Deeds.{IsOwn}
use Rattle.interp.specs.Machines.{top_of}
use Rattle.interp.proofs.Asking.{made_by}
use Rattle.interp.specs.Meant.{IsDecided, IsScalarAt}
use Rattle.interp.proofs.Casts.{number_cast, number_kept}
use Rattle.interp.proofs.Deciding.{if_true, then_value}
use Rattle.interp.proofs.Returning.{latest_call, slot_result, slot_scalar}
use Rattle.interp.proofs.Targets.{slot_facts, room_place}
use Rattle.interp.proofs.ValuingExprs.{scalar_type}
use Rattle.interp.proofs.machine.Machine.return_from.Goals as goal

pub slot_of-requires : goal.slot_of-requires
slot_of-requires c =
    let m = c.args.self.now in
    let top = ap (option_and_then (λ (g : Frame). g.call)) c.top.ensures ∙ c.in-Some.is ∙ ap Some c.if-made-call.false in
    let w = made_by m.flow.now m.frames.items m.framed c.args.call top in
    slice_get_within m.flow.now.edges c.args.call w.site w.known

pub scalar_of-requires-clause-in_range : goal.scalar_of-requires-clause-in_range
scalar_of-requires-clause-in_range c =
    let m = c.args.self.now in
    let top = ap (option_and_then (λ (g : Frame). g.call)) c.top.ensures ∙ c.in-Some.is ∙ ap Some c.if-made-call.false in
    (slot_facts m.flow.now m.frames.items m.framed c.args.call c.in-Some-slot_of.slot top (sym c.in-Some-slot_of.ensures)).in_range

pub scalar_of-requires-clause-own : goal.scalar_of-requires-clause-own
scalar_of-requires-clause-own c =
    let m = c.args.self.now in
    let top = ap (option_and_then (λ (g : Frame). g.call)) c.top.ensures ∙ c.in-Some.is ∙ ap Some c.if-made-call.false in
    let d : top_of m.frames.items - 1 ≡ c.len-depth.result - 2 = omega (arith, c.len-depth.ensures, m.frames.ok.0) in
    subst (λ d. IsOwn m.flow.now.program m.frames.items d c.in-Some-slot_of.slot) d (slot_facts m.flow.now m.frames.items m.framed c.args.call c.in-Some-slot_of.slot top (sym c.in-Some-slot_of.ensures)).own

pub goes_on-requires-in-Some-slot_of-clause-change : goal.goes_on-requires-in-Some-slot_of-clause-change
goes_on-requires-in-Some-slot_of-clause-change c =
    let m = c.args.self.now in
    let top = ap (option_and_then (λ (g : Frame). g.call)) c.top.ensures ∙ c.in-Some.is ∙ ap Some c.if-made-call.false in
    let o = (slot_facts m.flow.now m.frames.items m.framed c.args.call c.in-Some-slot_of.slot top (sym c.in-Some-slot_of.ensures)).own in (
      room_place m.flow.now.program m.frames.items c.in-Some-slot_of.slot c.scalar_of.result o.var o.known c.scalar_of.ensures.room,
      number_cast c.in_ok-z-in-Some-slot_of.z c.in_ok-z-in-Some-slot_of.ensures.number,
    )

pub result-requires : goal.result-requires
result-requires c =
    let m = c.args.self.now in
    let top = ap (option_and_then (λ (g : Frame). g.call)) c.top.ensures ∙ c.in-Some.is ∙ ap Some c.if-made-call.false in
    ap is_some (slot_result m.flow.now m.frames.items m.framed c.args.call c.in-Some-slot_of.slot top (sym c.in-Some-slot_of.ensures)).1

pub returns-in-None-clause-exact : goal.returns-in-None-clause-exact
returns-in-None-clause-exact c = λ k s st.
    let m = c.args.self.now in
    let chart = chart_of m.flow.now in
    let call = c.args.call in
    let r = c.goes_on.result in
    let top = ap (option_and_then (λ (g : Frame). g.call)) c.top.ensures ∙ c.in-Some.is ∙ ap Some c.if-made-call.false in
    let d : c.len-depth.result - 2 ≡ top_depth s.stack - 1 = omega (arith, c.len-depth.ensures, m.frames.ok.0, st.stack.height) in
    if_true m s k (was_made_by call (meaning.top_call s.stack)) _ _ r (ap (was_made_by call) (latest_call m s st ∙ top) ∙ eq-eqb call call refl)
    (subst (λ o. IsDecided m s k (give_back chart s c.args.at o) r) c.in-None.ensures
    (subst (λ d. IsDecided m s k (goes_on chart s d []) r) d (c.goes_on.ensures.exact k [] tt s st)))

pub returns-in_ok-z-in-Some-slot_of-clause-exact : goal.returns-in_ok-z-in-Some-slot_of-clause-exact
returns-in_ok-z-in-Some-slot_of-clause-exact c = λ k s st.
    let m = c.args.self.now in
    let p = m.flow.now.program in
    let chart = chart_of m.flow.now in
    let call = c.args.call in
    let slot = c.in-Some-slot_of.slot in
    let z = c.in_ok-z-in-Some-slot_of.z in
    let r = c.goes_on-in-Some-slot_of.result in
    let n = c.len-depth.result - 2 in
    let a = c.scalar_of.result in
    let top = ap (option_and_then (λ (g : Frame). g.call)) c.top.ensures ∙ c.in-Some.is ∙ ap Some c.if-made-call.false in
    let d : n ≡ top_depth s.stack - 1 = omega (arith, c.len-depth.ensures, m.frames.ok.0, st.stack.height) in
    let scalar = scalar_type p slot (slot_scalar m.flow.now m.frames.items m.framed call slot top (sym c.in-Some-slot_of.ensures)) in
    let at : IsScalarAt p m.frames.items n (whole n slot) a = record { of_type = var_type (tables p) slot; lies = c.scalar_of.ensures.exact; scalar = scalar; below = omega arith } in
    if_true m s k (was_made_by call (meaning.top_call s.stack)) _ _ r (ap (was_made_by call) (latest_call m s st ∙ top) ∙ eq-eqb call call refl)
    (subst (λ o. IsDecided m s k (give_back chart s c.args.at o) r) c.in-Some-slot_of.ensures
    (then_value m s k (result_value c.args.at (s.store (whole (top_depth s.stack) (result_of chart s.stack)))) z _ r (c.in_ok-z-in-Some-slot_of.ensures.exact s st)
    (subst (λ d. IsDecided m s k (goes_on chart s d (sets (whole d slot) (Some z) ∷ [])) r) d
    (c.goes_on-in-Some-slot_of.ensures.exact k (sets (whole n slot) (Some z) ∷ []) (ap Some (number_kept z c.in_ok-z-in-Some-slot_of.ensures.number), at) s st))))
