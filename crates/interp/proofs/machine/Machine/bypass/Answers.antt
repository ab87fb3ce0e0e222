use Rattle.std.proofs.Common.{◌≡◌, false, ◌∙◌, sym}
use Rattle.control_points.specs.Actions.{in_order}
use Rattle.control_points.specs.Evaluation.{value}
use Rattle.interp.specs.Meant.{view_in}
use Rattle.interp.proofs.Casts.{numbers_kept}
use Rattle.interp.proofs.Deciding.{if_false, then_value}
use Rattle.interp.proofs.machine.Machine.bypass.Goals as goal

pub returns-clause-exact : goal.returns-clause-exact
returns-clause-exact c = λ k s st.
    let m = c.args.self.now in
    let x = c.in_ok-x.x in
    let y = c.in_ok-y.y in
    let down = c.args.down in
    let r = c.undefine.result in
    let on : in_order down x y ≡ false = numbers_kept (in_order down) x y c.in_ok-x.ensures.number c.in_ok-y.ensures.number ∙ sym c.if-is_in_order.ensures in
    then_value m s k (value (view_in m s) c.args.first.now) x _ r (c.in_ok-x.ensures.exact s st)
    (then_value m s k (value (view_in m s) c.args.last.now) y _ r (c.in_ok-y.ensures.exact s st)
    (if_false m s k (in_order down x y) _ _ r on (c.undefine.ensures.exact k s st)))
