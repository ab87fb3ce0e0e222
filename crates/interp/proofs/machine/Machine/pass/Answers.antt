use Rattle.std.proofs.lemmas.Result.{err_from_is_err_and}
use Rattle.std.proofs.Common.{◌≡◌, ℕ, Some, Err, refl, ◌<◌, length, true, ap, arith, ◌∙◌, sym, subst, get_or, List}
use Rattle.std.proofs.lemmas.Option.{slice_get_within, slice_get-get_or}
use Rattle.control_points.specs.declared.flow.Flow.{Flow}
use Rattle.interp.specs.declared.frame.Frame.{Frame}
use Rattle.pas_program.specs.declared.variable.VarDef.{VarDef}
use Rattle.pas_program.specs.Checked.{numbers_in, scope_in, tables}
use Rattle.pas_program.specs.Each.{each_actual}
use Rattle.pas_program.specs.Tables.{holds_of}
use Rattle.pas_program.specs.Typed.{is_passed_to, passed}
use Rattle.std.specs.List.{slice_get}
use Rattle.pas_program.proofs.Elements.{all_true_at}
use Rattle.interp.specs.Machines.{top_routine}
use Rattle.interp.specs.Calls.{HasNew}
use Rattle.interp.specs.Passed.{AreAllPassed, AreUndefined, HasPassed}
use Rattle.interp.specs.declared.frame.Extent.{Extent}
use Rattle.control_points.specs.Actions.{formals_of, pass}
use Rattle.control_points.specs.Flows.{chart_of}
use Rattle.interp.proofs.LandingCalls.{stands_behind}
use Rattle.interp.proofs.LandingPassing.{all_fault, all_given, all_passed, fault_passed, formals_are, has_passed, none_passed, formals_distinct, links_given, more_passed, scalars_given, so_far_kept}
use Rattle.interp.proofs.Passing.{formal_is, passed_all, all_linked, given_length, given_more, room_kept, so_far_moved}
use Rattle.interp.proofs.machine.Machine.pass.Goals as goal

pub bounds-formals-i : goal.bounds-formals-i
bounds-formals-i c =
    let m = c.args.self.now in
    let f = formal_is m.flow.now.program c.args.routine c.routine.result.now c.args.actuals.now c.as_slice-formals.result.now c.loop-i.i c.index-actuals-i.result c.routine.ensures.value c.as_slice-formals.ensures c.requires.fits c.loop-i-test.true c.index-actuals-i.is in
    slice_get_within c.as_slice-formals.result.now c.loop-i.i _ f.known

pub argument-requires-clause-numbers : goal.argument-requires-clause-numbers
argument-requires-clause-numbers c =
    let m = c.args.self.now in
    let a = c.index-actuals-i.result in
    subst (λ (f : Flow). each_actual (numbers_in f.program) a ≡ true) (sym c.loop-i.invariant.kept.flow)
    (all_true_at (each_actual (numbers_in m.flow.now.program)) c.args.actuals.now c.loop-i.i a c.loop-i-test.true c.index-actuals-i.is c.requires.numbers)

pub argument-requires-clause-scopes : goal.argument-requires-clause-scopes
argument-requires-clause-scopes c =
    let m = c.args.self.now in
    let a = c.index-actuals-i.result in
    subst (λ (f : Flow). each_actual (scope_in f.program (top_routine c.loop-i.self.frames.items)) a ≡ true) (sym c.loop-i.invariant.kept.flow)
    (subst (λ (xs : List Frame). each_actual (scope_in m.flow.now.program (top_routine xs)) a ≡ true) (sym c.loop-i.invariant.kept.frames)
    (all_true_at (each_actual (scope_in m.flow.now.program (top_routine m.frames.items))) c.args.actuals.now c.loop-i.i a c.loop-i-test.true c.index-actuals-i.is c.requires.scopes))

pub argument-requires-clause-fits : goal.argument-requires-clause-fits
argument-requires-clause-fits c =
    let m = c.args.self.now in
    let a = c.index-actuals-i.result in
    let f = formal_is m.flow.now.program c.args.routine c.routine.result.now c.args.actuals.now c.as_slice-formals.result.now c.loop-i.i a c.routine.ensures.value c.as_slice-formals.ensures c.requires.fits c.loop-i-test.true c.index-actuals-i.is in
    subst (λ (g : Flow). holds_of (is_passed_to (tables g.program) (passed (tables g.program) a)) (slice_get g.program.vars (get_or c.as_slice-formals.result.now c.loop-i.i 0)) ≡ true) (sym c.loop-i.invariant.kept.flow) f.fits

pub bounds-formals-i-in-loop-i : goal.bounds-formals-i-in-loop-i
bounds-formals-i-in-loop-i c =
    let m = c.args.self.now in
    let f = formal_is m.flow.now.program c.args.routine c.routine.result.now c.args.actuals.now c.as_slice-formals.result.now c.loop-i.i c.index-actuals-i.result c.routine.ensures.value c.as_slice-formals.ensures c.requires.fits c.loop-i-test.true c.index-actuals-i.is in
    slice_get_within c.as_slice-formals.result.now c.loop-i.i _ f.known

pub give-requires-clause-in_range : goal.give-requires-clause-in_range
give-requires-clause-in_range c =
    let m = c.args.self.now in
    let f = formal_is m.flow.now.program c.args.routine c.routine.result.now c.args.actuals.now c.as_slice-formals.result.now c.loop-i.i c.index-actuals-i.result c.routine.ensures.value c.as_slice-formals.ensures c.requires.fits c.loop-i-test.true c.index-actuals-i.is in
    subst (λ (g : Flow). get_or c.as_slice-formals.result.now c.loop-i.i 0 < length g.program.vars) (sym c.loop-i.invariant.kept.flow) f.in_range

pub give-requires-clause-room : goal.give-requires-clause-room
give-requires-clause-room c = λ x e.
    let m = c.args.self.now in
    let n = c.loop-i.self in
    let f = formal_is m.flow.now.program c.args.routine c.routine.result.now c.args.actuals.now c.as_slice-formals.result.now c.loop-i.i c.index-actuals-i.result c.routine.ensures.value c.as_slice-formals.ensures c.requires.fits c.loop-i-test.true c.index-actuals-i.is in
    let o = f.own c.loop-i.i _ x f.known (sym (ap (λ (g : Flow). slice_get g.program.vars (get_or c.as_slice-formals.result.now c.loop-i.i 0)) c.loop-i.invariant.kept.flow) ∙ e) in
    subst (λ r. HasNew n.flow.now.program n.frames.items r n.links.items n.scalars.items) (sym o) c.loop-i.invariant.room

pub loop-i-preserved : goal.loop-i-preserved
loop-i-preserved c =
    let m = c.args.self.now in
    let n = c.loop-i.self in
    let k = c.loop-i.invariant.kept in
    let g = c.give.ensures.kept in
    let new = c.give.new.self in
    let fs = c.as_slice-formals.result.now in
    let v = get_or fs c.loop-i.i 0 in
    let f = formal_is m.flow.now.program c.args.routine c.routine.result.now c.args.actuals.now fs c.loop-i.i c.index-actuals-i.result c.routine.ensures.value c.as_slice-formals.ensures c.requires.fits c.loop-i-test.true c.index-actuals-i.is in
    let there : slice_get n.flow.now.program.vars v ≡ _ = ap (λ (g : Flow). slice_get g.program.vars v) k.flow ∙ f.there in
    let own = f.own c.loop-i.i v f.var f.known f.there in
    let all_own : (j u : ℕ) (x : VarDef) → slice_get fs j ≡ Some u → slice_get n.flow.now.program.vars u ≡ Some x → x.routine ≡ c.args.routine =
    λ j u x e h. f.own j u x e (sym (ap (λ (g : Flow). slice_get g.program.vars u) k.flow) ∙ h) in
    let room : HasNew n.flow.now.program n.frames.items f.var.routine n.links.items n.scalars.items =
    subst (λ r. HasNew n.flow.now.program n.frames.items r n.links.items n.scalars.items) (sym own) c.loop-i.invariant.room in
    let safe = c.in_ok-argument.ensures.safe f.var there in
    let at : slice_get c.args.actuals.now c.loop-i.i ≡ Some c.index-actuals-i.result = slice_get-get_or c.args.actuals.now c.loop-i.i c.index-actuals-i.result c.loop-i-test.true ∙ ap Some (sym c.index-actuals-i.is) in
    record {
      kept = record { flow = g.flow ∙ k.flow; frames = g.frames ∙ k.frames; items = g.items ∙ k.items; output = g.output ∙ k.output };
      room = room_kept n.flow.now new.flow.now n.frames.items new.frames.items c.args.routine n.links.items new.links.items n.scalars.items new.scalars.items g.flow g.frames
          (given_length n.flow.now.program n.frames.items v f.var c.in_ok-argument.argument n.links.items new.links.items there c.give.ensures.links) c.give.ensures.scalars c.loop-i.invariant.room;
      linked = so_far_moved n.flow.now new.flow.now n.frames.items new.frames.items fs _ new.links.items g.flow g.frames
          (given_more n.flow.now.program n.frames.items c.args.routine c.loop-i.i v f.var fs n.links.items new.links.items c.in_ok-argument.argument
          all_own f.known there
          safe c.give.ensures.links c.loop-i.invariant.linked);
      state = λ s t.
          stands_behind n new s g
          (links_given n.flow.now n.frames.items v f.var there n.links.items n.scalars.items room c.in_ok-argument.argument new.links.items c.give.ensures.links)
          (scalars_given n.flow.now n.frames.items v f.var there n.links.items n.scalars.items room c.in_ok-argument.argument new.scalars.items safe c.give.ensures.given)
          (c.loop-i.invariant.state s t);
      passed = λ s t.
          let here = c.loop-i.invariant.state s t in
          so_far_kept n.flow.now m.flow.now n.frames.items m.frames.items c.args.routine s c.args.actuals.now fs _ new.links.items new.scalars.items (sym k.flow) (sym k.frames)
          (more_passed n.flow.now n.frames.items c.args.routine s here.stack.height c.args.actuals.now fs c.loop-i.i c.index-actuals-i.result v at f.known n.links.items n.scalars.items
          (so_far_kept m.flow.now n.flow.now m.frames.items n.frames.items c.args.routine s c.args.actuals.now fs c.loop-i.i n.links.items n.scalars.items k.flow k.frames (c.loop-i.invariant.passed s t))
          f.var there own all_own (formals_distinct m.flow.now.program c.args.routine c.routine.result.now fs c.routine.ensures.value c.as_slice-formals.ensures) room c.in_ok-argument.argument safe new.links.items new.scalars.items
          c.give.ensures.given c.give.ensures.links (c.in_ok-argument.ensures.exact s here));
    }

pub returns-clause-linked : goal.returns-clause-linked
returns-clause-linked c =
    let m = c.args.self.now in
    let n = c.loop-i.self in
    let k = c.loop-i.invariant.kept in
    let l = passed_all m.flow.now.program c.args.routine c.routine.result.now c.args.actuals.now c.as_slice-formals.result.now c.routine.ensures.value c.as_slice-formals.ensures c.requires.fits in
    all_linked m.flow.now n.flow.now m.frames.items n.frames.items c.args.routine c.routine.result.now c.as_slice-formals.result.now c.loop-i.i n.links.items k.flow k.frames c.routine.ensures.value c.as_slice-formals.ensures
    (omega (arith, l, c.loop-i-test.false)) c.loop-i.invariant.linked

pub returns-clause-room : goal.returns-clause-room
returns-clause-room c =
    let m = c.args.self.now in
    let n = c.loop-i.self in
    let k = c.loop-i.invariant.kept in
    room_kept n.flow.now m.flow.now n.frames.items m.frames.items c.args.routine n.links.items n.links.items n.scalars.items n.scalars.items (sym k.flow) (sym k.frames) refl refl c.loop-i.invariant.room

pub loop-i-init : goal.loop-i-init
loop-i-init c =
    let m = c.args.self.now in
    record {
      kept = record { flow = refl; frames = refl; items = refl; output = refl };
      room = c.requires.room;
      linked = λ j v a x l. absurd (omega arith);
      state = λ s t. t;
      passed = λ s t.
          none_passed m.flow.now m.frames.items c.args.routine s t.stack.height c.args.actuals.now c.as_slice-formals.result.now m.links.items m.scalars.items
          (subst (λ n. AreUndefined n m.scalars.items) (ap (λ (x : Extent). x.scalars) c.requires.base) c.requires.fresh) t.store;
    }

pub returns-in_err-argument-clause-exact : goal.returns-in_err-argument-clause-exact
returns-in_err-argument-clause-exact c = λ s t.
    let m = c.args.self.now in
    let n = c.loop-i.self in
    let k = c.loop-i.invariant.kept in
    let fs = c.as_slice-formals.result.now in
    let here = c.loop-i.invariant.state s t in
    let d = c.routine.result.now in
    let f = formal_is m.flow.now.program c.args.routine d c.args.actuals.now fs c.loop-i.i c.index-actuals-i.result c.routine.ensures.value c.as_slice-formals.ensures c.requires.fits c.loop-i-test.true c.index-actuals-i.is in
    let at : slice_get c.args.actuals.now c.loop-i.i ≡ Some c.index-actuals-i.result = slice_get-get_or c.args.actuals.now c.loop-i.i c.index-actuals-i.result c.loop-i-test.true ∙ ap Some (sym c.index-actuals-i.is) in
    let e = err_from_is_err_and c.from_residual.result c.from_residual.ensures.1 in
    let meant =
    fault_passed n.flow.now n.frames.items c.args.routine s here.stack.height c.args.actuals.now fs c.loop-i.i c.index-actuals-i.result (get_or fs c.loop-i.i 0) at f.known n.links.items n.scalars.items
    (so_far_kept m.flow.now n.flow.now m.frames.items n.frames.items c.args.routine s c.args.actuals.now fs c.loop-i.i n.links.items n.scalars.items k.flow k.frames (c.loop-i.invariant.passed s t))
    c.in_err-argument.field-0.0 _ (c.in_err-argument.ensures.exact s here) in
    let same : pass (chart_of m.flow.now) s c.args.actuals.now fs ≡ Err c.in_err-argument.field-0.0 = subst (λ (g : Flow). pass (chart_of g) s c.args.actuals.now fs ≡ Err c.in_err-argument.field-0.0) k.flow meant in
    let all = ap (pass (chart_of m.flow.now) s c.args.actuals.now) (formals_are m.flow.now s c.args.routine d fs c.routine.ensures.value c.as_slice-formals.ensures) ∙ same in
    subst (AreAllPassed (pass (chart_of m.flow.now) s c.args.actuals.now (formals_of (chart_of m.flow.now) s ((tables m.flow.now.program).head_at c.args.routine))) (HasPassed m.flow.now m.frames.items c.args.routine n.links.items n.scalars.items s)) (sym (e.1 ∙ ap Err e.2))
    (all_fault _ (HasPassed m.flow.now m.frames.items c.args.routine n.links.items n.scalars.items s) c.in_err-argument.field-0.0 all)

pub returns-clause-exact : goal.returns-clause-exact
returns-clause-exact c = λ s t.
    let m = c.args.self.now in
    let n = c.loop-i.self in
    let fs = c.as_slice-formals.result.now in
    let d = c.routine.result.now in
    let l = passed_all m.flow.now.program c.args.routine d c.args.actuals.now fs c.routine.ensures.value c.as_slice-formals.ensures c.requires.fits in
    let so_far = c.loop-i.invariant.passed s t in
    all_given _ (HasPassed m.flow.now m.frames.items c.args.routine n.links.items n.scalars.items s) so_far.given
    (ap (pass (chart_of m.flow.now) s c.args.actuals.now) (formals_are m.flow.now s c.args.routine d fs c.routine.ensures.value c.as_slice-formals.ensures)
    ∙ all_passed m.flow.now m.frames.items c.args.routine s t.stack.height c.args.actuals.now fs c.loop-i.i n.links.items n.scalars.items c.loop-i-test.false so_far)
    (has_passed m.flow.now m.frames.items c.args.routine s t.stack.height c.args.actuals.now fs c.loop-i.i d n.links.items n.scalars.items c.routine.ensures.value c.as_slice-formals.ensures (omega (arith, l, c.loop-i-test.false)) so_far)
