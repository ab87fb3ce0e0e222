use Rattle.std.proofs.Common.{[], ◌∷◌, ap, ◌∙◌, sym, Some}
use Rattle.std.specs.List.{slice_get}
use Rattle.std.proofs.lemmas.Bool.{and_parts}
use Rattle.pas_program.specs.declared.expr.Actual.TheViews.{out-Access}
use Rattle.pas_program.specs.Checked.{tables}
use Rattle.pas_program.specs.Typed.{hosted, reached}
use Rattle.control_points.specs.Actions.{sets}
use Rattle.control_points.specs.Evaluation.{assigned, spot}
use Rattle.interp.specs.Meant.{view_in}
use Rattle.interp.proofs.Casts.{number_cast, number_kept}
use Rattle.interp.proofs.Deciding.{scalar_at, then_spot, then_value}
use Rattle.interp.proofs.Targets.{host_scalar, target_place}
use Rattle.interp.proofs.machine.Machine.assign.Goals as goal

pub does-requires : goal.does-requires
does-requires c =
    let m = c.args.self.now in
    let t = tables m.flow.now.program in (
      target_place m.flow.now.program m.frames.items (hosted t c.args.value.now).boolean (reached t c.args.to.now) c.in_ok-address.address c.requires.target c.in_ok-address.ensures.room,
      number_cast c.in_ok-z.z c.in_ok-z.ensures.number,
    )

pub returns-clause-exact : goal.returns-clause-exact
returns-clause-exact c = λ k s st.
    let m = c.args.self.now in
    let p = m.flow.now.program in
    let r = reached (tables p) c.args.to.now in
    let scalar = host_scalar (hosted (tables p) c.args.value.now).boolean (slice_get p.types r.of_type) (and_parts r.fits _ c.requires.target).1 in
    let z = c.in_ok-z.z in
    then_spot m s k r.of_type (out-Access c.args.to.now).at c.in_ok-address.address (spot (view_in m s) c.args.to.now) _ c.does.result (c.in_ok-address.ensures.exact s st) (λ q l a.
    then_value m s k (assigned (view_in m s) r.of_type c.args.value.now) z _ c.does.result (ap (λ n. assigned (view_in m s) n c.args.value.now) (sym c.type_of_access.ensures.value) ∙ c.in_ok-z.ensures.exact s st)
    (c.does.ensures.exact k (sets q.place (Some z) ∷ []) (ap Some (number_kept z c.in_ok-z.ensures.number), scalar_at p m.frames.items q.place c.in_ok-address.address r.of_type l scalar) s st))
