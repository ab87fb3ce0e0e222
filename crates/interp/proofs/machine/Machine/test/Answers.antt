use Rattle.std.proofs.Common.{◌≡◌, [], ap, ◌∙◌}
use Rattle.std.specs.Int.{w32}
use Rattle.std.specs.Ordering.{int_eq}
use Rattle.arithmetic.specs.Numbers.{truth}
use Rattle.control_points.specs.Evaluation.{value}
use Rattle.interp.specs.Meant.{view_in}
use Rattle.interp.proofs.Casts.{same_bits}
use Rattle.interp.proofs.Deciding.{if_true, same_int, then_value, truth_is, truth_number}
use Rattle.interp.proofs.machine.Machine.test.Goals as goal
use mir.Val.{of_z}

pub returns-then-branch-from-clause-exact : goal.returns-then-branch-from-clause-exact
returns-then-branch-from-clause-exact c = λ k s st.
    let m = c.args.self.now in
    let z = c.in_ok-value.field-0 in
    let w = c.args.wanted in
    let e : z ≡ truth w = same_bits z (truth w) c.in_ok-value.ensures.number (truth_number w) (c.if-branch-from.true ∙ ap (of_z w32) (c.from.ensures ∙ truth_is w)) in
    then_value m s k (value (view_in m s) c.args.cond.now) z _ c.does.result (c.in_ok-value.ensures.exact s st)
    (if_true m s k (int_eq z (truth w)) _ _ c.does.result (same_int z (truth w) e) (c.does.ensures.exact k [] tt s st))
