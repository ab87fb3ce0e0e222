use Rattle.std.proofs.Common.{◌≡◌, [], refl, ap, ◌∙◌, sym, None, Ok}
use Rattle.std.specs.List.{list_any}
use Rattle.std.specs.Ordering.{int_eq}
use Rattle.std.specs.Int.{w32}
use Rattle.control_points.specs.Actions.{is_one_of}
use Rattle.control_points.specs.Evaluation.{value}
use Rattle.interp.specs.Meant.{view_in}
use Rattle.interp.proofs.Casts.{number_kept}
use Rattle.interp.proofs.Deciding.{if_false, if_true, is_among, then_value}
use Rattle.interp.proofs.machine.Machine.arm.Goals as goal
use mir.Val.{of_z, to_z}

pub returns-then-contains-clause-exact : goal.returns-then-contains-clause-exact
returns-then-contains-clause-exact c = λ k s st.
    let m = c.args.self.now in
    let z = c.in_ok-value.field-0 in
    let xs = c.args.consts.now in
    let found : c.contains.result ≡ list_any (λ y. int_eq y (to_z w32 (of_z w32 z))) xs = c.contains.ensures.value in
    let e : is_one_of xs z ≡ c.contains.result = sym (is_among xs z) ∙ ap (λ z. list_any (λ y. int_eq y z) xs) (number_kept z c.in_ok-value.ensures.number) ∙ sym found in
    then_value m s k (value (view_in m s) c.args.of.now) z _ c.does.result (c.in_ok-value.ensures.exact s st)
    (if_true m s k (is_one_of xs z) _ _ c.does.result (e ∙ c.if-contains.true) (c.does.ensures.exact k [] tt s st))

pub returns-else-contains-clause-exact : goal.returns-else-contains-clause-exact
returns-else-contains-clause-exact c = λ k s st.
    let m = c.args.self.now in
    let z = c.in_ok-value.field-0 in
    let xs = c.args.consts.now in
    let found : c.contains.result ≡ list_any (λ y. int_eq y (to_z w32 (of_z w32 z))) xs = c.contains.ensures.value in
    let e : is_one_of xs z ≡ c.contains.result = sym (is_among xs z) ∙ ap (λ z. list_any (λ y. int_eq y z) xs) (number_kept z c.in_ok-value.ensures.number) ∙ sym found in
    then_value m s k (value (view_in m s) c.args.of.now) z _ (Ok None) (c.in_ok-value.ensures.exact s st)
    (if_false m s k (is_one_of xs z) _ _ (Ok None) (e ∙ c.if-contains.false) refl)
