use Rattle.std.proofs.Common.{◌≡◌, ◌-◌, ap, ◌∙◌, sym, Ok}
use Rattle.std.specs.Option.{unwrap_or}
use Rattle.control_points.specs.Actions.{result_of, result_value, top_depth}
use Rattle.control_points.specs.Flows.{chart_of}
use Rattle.control_points.specs.Storage.{whole}
use Rattle.interp.specs.Standing.{content}
use Rattle.control_points.specs.Evaluation.{var_type}
use Rattle.pas_program.specs.Checked.{tables}
use Rattle.interp.proofs.Casts.{number_kept}
use Rattle.interp.proofs.Deciding.{top_is_top}
use Rattle.interp.proofs.Returning.{latest_result, result_known, result_scalar, result_unknown}
use Rattle.interp.proofs.Targets.{room_place}
use Rattle.interp.proofs.ValuingExprs.{scalar_type}
use Rattle.interp.proofs.machine.Machine.result.Goals as goal

pub used-requires : goal.used-requires
used-requires c =
    let m = c.args.self.now in
    let o = c.in-Some.ensures.result_variable in
    room_place m.flow.now.program m.frames.items c.in-Some.result c.scalar_of-address.result o.var o.known c.scalar_of-address.ensures.room

pub returns-in-Ok-clause-exact : goal.returns-in-Ok-clause-exact
returns-in-Ok-clause-exact c = λ s st.
    let m = c.args.self.now in
    let p = m.flow.now.program in
    let v = c.in-Some.result in
    let a = c.scalar_of-address.result in
    let d : top_depth s.stack ≡ c.len.result - 1 = top_is_top m s st ∙ sym (ap (λ n. n - 1) (c.len.ensures ∙ m.frames.ok.0)) in
    let n : result_of (chart_of m.flow.now) s.stack ≡ v = latest_result m s st ∙ ap (λ o. unwrap_or o 0) (sym c.in-Some.ensures.is) in
    let held = st.store.held (whole (c.len.result - 1) v) a (var_type (tables p) v) c.scalar_of-address.ensures.exact (scalar_type p v (result_scalar p _ v (sym c.in-Some.ensures.is))) in
    ap (result_value c.args.at) (ap (λ d. s.store (whole d (result_of (chart_of m.flow.now) s.stack))) d ∙ ap (λ n. s.store (whole (c.len.result - 1) n)) n ∙ held) ∙ result_known c.args.at (content m.scalars.items a) c.in-Ok.z c.in-Ok.ensures.value ∙ ap Ok (number_kept c.in-Ok.z c.in-Ok.ensures.number)

pub returns-in-Err-clause-exact : goal.returns-in-Err-clause-exact
returns-in-Err-clause-exact c = λ s st.
    let m = c.args.self.now in
    let p = m.flow.now.program in
    let v = c.in-Some.result in
    let a = c.scalar_of-address.result in
    let d : top_depth s.stack ≡ c.len.result - 1 = top_is_top m s st ∙ sym (ap (λ n. n - 1) (c.len.ensures ∙ m.frames.ok.0)) in
    let n : result_of (chart_of m.flow.now) s.stack ≡ v = latest_result m s st ∙ ap (λ o. unwrap_or o 0) (sym c.in-Some.ensures.is) in
    let held = st.store.held (whole (c.len.result - 1) v) a (var_type (tables p) v) c.scalar_of-address.ensures.exact (scalar_type p v (result_scalar p _ v (sym c.in-Some.ensures.is))) in
    ap (result_value c.args.at) (ap (λ d. s.store (whole d (result_of (chart_of m.flow.now) s.stack))) d ∙ ap (λ n. s.store (whole (c.len.result - 1) n)) n ∙ held) ∙ result_unknown c.args.at (content m.scalars.items a) c.in-Err.field-0 c.in-Err.ensures.value
