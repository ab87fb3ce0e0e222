use Rattle.std.proofs.Common.{◌≡◌, false, ◌-◌, [], ◌∷◌, refl, ap, arith, ◌∙◌, sym, subst, Option, Some, None, Result, Ok}
use Rattle.std.specs.Int.{w32}
use Rattle.std.specs.List.{slice_get}
use Rattle.std.proofs.lemmas.Bool.{and_parts}
use Rattle.px_base.specs.declared.kind.Kind.TheVariants.{ValueOutOfRange}
use Rattle.pas_program.specs.declared.expr.Actual.TheViews.{out-Access}
use Rattle.pas_program.specs.Checked.{tables}
use Rattle.pas_program.specs.Typed.{reached}
use Rattle.control_points.specs.declared.fault.Fault.{Fault}
use Rattle.control_points.specs.Actions.{sets, with_taken}
use Rattle.control_points.specs.Evaluation.{checked, is_value_of, spot}
use Rattle.control_points.specs.Flows.{chart_of}
use Rattle.control_points.specs.Input.{Taken, next_number}
use Rattle.interp.specs.declared.decide.Change.TheVariants as change
use Rattle.interp.specs.declared.decide.Deed.{Deed}
use Rattle.interp.specs.declared.decide.Deed.TheVariants as deed
use Rattle.interp.specs.declared.decide.Effect.{Effect}
use Rattle.interp.specs.Meant.{IsDecided, view_in}
use Rattle.interp.proofs.Acting.{done_with}
use Rattle.interp.proofs.Casts.{number_cast, number_kept, checked_number}
use Rattle.interp.proofs.Deciding.{checked_at, scalar_at, then_spot, then_value}
use Rattle.interp.proofs.Targets.{host_scalar, target_place, taken_fits}
use Rattle.interp.proofs.machine.Machine.read.Goals as goal
use mir.Val.{of_z, to_z}

pub returns-clause-safe : goal.returns-clause-safe
returns-clause-safe c =
    let m = c.args.self.now in
    let p = m.flow.now.program in
    let told = c.in-Some.ensures in
    let f = taken_fits m.items.now _ m.input (sym told) in (
      ap (λ n. n - 1) (c.len.ensures ∙ m.frames.ok.0),
      record {
        depth = omega (arith, c.len.ensures, m.framed.some, m.frames.ok.0);
        change = (
          target_place p m.frames.items false (reached (tables p) c.args.to.now) c.in_ok-address.address c.requires.target c.in_ok-address.ensures.room,
          number_cast c.in_ok-z.z (checked_number _ _ _ _ c.in_ok-z.z c.in_ok-z.ensures (number_cast c.in-Some.number f.number)),
        );
        items = f.rest;
      },
    )

pub returns-clause-exact : goal.returns-clause-exact
returns-clause-exact c = λ k s st.
    let m = c.args.self.now in
    let p = m.flow.now.program in
    let chart = chart_of m.flow.now in
    let a = c.in_ok-address.address in
    let x = c.in-Some.number in
    let z = c.in_ok-z.z in
    let t = (reached (tables p) c.args.to.now).of_type in
    let place = (out-Access c.args.to.now).at in
    let e : Effect = record { depth = c.len.result - 1; change = change.Set a (Some (to_z w32 (of_z w32 z))); items = c.in-Some.rest; output = None } in
    let r : Result (Option Deed) Fault = Ok (Some (deed.Lands e)) in
    let taken : Taken = record { number = x; rest = c.in-Some.rest.now } in
    let told : Some taken ≡ next_number m.items.now = c.in-Some.ensures in
    let fits = taken_fits m.items.now taken m.input (sym told) in
    let z_number = checked_number _ _ _ _ z c.in_ok-z.ensures (number_cast x fits.number) in
    let scalar = host_scalar false (slice_get p.types t) (and_parts (reached (tables p) c.args.to.now).fits _ c.requires.target).1 in
    then_spot m s k t place a (spot (view_in m s) c.args.to.now) _ r (c.in_ok-address.ensures.exact s st) (λ q l at.
    subst (λ o. IsDecided m s k (with_taken chart s t q o) r) (told ∙ ap next_number (sym st.items))
    (then_value m s k (checked (is_value_of (slice_get p.types t) x) ValueOutOfRange q.at x) z _ r
    (ap (λ n. checked (is_value_of (slice_get p.types t) x) ValueOutOfRange n x) at ∙ checked_at p t c.type_of_access-of_type.result c.is_value_of-fits.result ValueOutOfRange place x (Ok z) fits.number (sym c.type_of_access-of_type.ensures.value) c.is_value_of-fits.ensures c.in_ok-z.ensures)
    (done_with m s k st (sets q.place (Some z) ∷ []) c.in-Some.rest.now e (ap (λ n. n - 1) (c.len.ensures ∙ m.frames.ok.0)) (ap Some (number_kept z z_number), scalar_at p m.frames.items q.place a t l scalar) refl refl)))
