use Rattle.std.proofs.Common.{◌≡◌, [], ◌∷◌, true, ap, ◌∙◌, sym, rules, Some, Ok, Err}
use Rattle.std.specs.List.{slice_get}
use Rattle.px_base.specs.declared.kind.Kind.TheVariants.{ValueOutOfRange}
use Rattle.pas_program.specs.declared.expr.Actual.TheViews.{out-Expr}
use Rattle.pas_program.specs.Checked.{tables}
use Rattle.arithmetic.specs.Numbers.{IsNumber}
use Rattle.control_points.specs.Actions.{in_order, sets}
use Rattle.control_points.specs.Evaluation.{checked, is_value_of, value, var_type}
use Rattle.interp.specs.Meant.{view_in}
use Rattle.interp.proofs.Addresses.{scalar_room, var_type_is}
use Rattle.interp.proofs.Casts.{checked_number, number_cast, number_kept, numbers_kept}
use Rattle.interp.proofs.Deciding.{checked_at, if_true, then_error, then_value, var_at}
use Rattle.interp.proofs.machine.Machine.enter.Goals as goal

pub does-requires : goal.does-requires
does-requires c = (
  scalar_room c.args.self.now.flow.now.program c.args.self.now.frames.items c.args.control c.address_of.result c.requires.scalar c.address_of.ensures.room,
  scalar_room c.args.self.now.flow.now.program c.args.self.now.frames.items c.args.bound c.address_of-2.result c.requires.bound_scalar c.address_of-2.ensures.room,
  number_cast c.in_ok-x-2.x (checked_number _ _ _ _ c.in_ok-x-2.x c.in_ok-x-2.ensures (number_cast c.in_ok-x.x c.in_ok-x.ensures.number)),
  number_cast c.in_ok-y-2.y (checked_number _ _ _ _ c.in_ok-y-2.y c.in_ok-y-2.ensures (number_cast c.in_ok-y.y c.in_ok-y.ensures.number)),
)

pub returns-clause-exact : goal.returns-clause-exact
returns-clause-exact c = λ k s st.
    let m = c.args.self.now in
    let p = m.flow.now.program in
    let x = c.in_ok-x.x in
    let y = c.in_ok-y.y in
    let v = c.in_ok-x-2.x in
    let w = c.in_ok-y-2.y in
    let down = c.args.down in
    let control = (view_in m s).place c.args.control in
    let bound = (view_in m s).place c.args.bound in
    let r = c.does.result in
    let t = var_type (tables p) c.args.control in
    let first = (out-Expr c.args.first.now).first in
    let last = (out-Expr c.args.last.now).first in
    let x_number : IsNumber x = c.in_ok-x.ensures.number in
    let y_number : IsNumber y = c.in_ok-y.ensures.number in
    let v_number = checked_number _ _ _ _ v c.in_ok-x-2.ensures (number_cast x x_number) in
    let w_number = checked_number _ _ _ _ w c.in_ok-y-2.ensures (number_cast y y_number) in
    let on : in_order down x y ≡ true = numbers_kept (in_order down) x y x_number y_number ∙ sym c.if-not-is_in_order.ensures in
    let u = c.var_def-of_type.result.of_type in
    let same : t ≡ u = var_type_is p c.args.control c.var_def-of_type.result c.var_def-of_type.ensures.value in
    then_value m s k (value (view_in m s) c.args.first.now) x _ r (c.in_ok-x.ensures.exact s st)
    (then_value m s k (value (view_in m s) c.args.last.now) y _ r (c.in_ok-y.ensures.exact s st)
    (if_true m s k (in_order down x y) _ _ r on
    (then_value m s k (checked (is_value_of (slice_get p.types t) x) ValueOutOfRange first x) v _ r (checked_at p t u c.is_value_of.result ValueOutOfRange first x (Ok v) x_number same c.is_value_of.ensures c.in_ok-x-2.ensures)
    (then_value m s k (checked (is_value_of (slice_get p.types t) y) ValueOutOfRange last y) w _ r (checked_at p t u c.is_value_of-2.result ValueOutOfRange last y (Ok w) y_number same c.is_value_of-2.ensures c.in_ok-y-2.ensures)
    (c.does.ensures.exact k (sets control (Some v) ∷ sets bound (Some w) ∷ []) (
      (ap Some (number_kept v v_number), var_at m s c.args.control c.address_of.result c.requires.scalar (c.address_of.ensures.exact s st)),
      (ap Some (number_kept w w_number), var_at m s c.args.bound c.address_of-2.result c.requires.bound_scalar (c.address_of-2.ensures.exact s st)),
    ) s st)))))

pub returns-in_err-y-2-clause-exact : goal.returns-in_err-y-2-clause-exact
returns-in_err-y-2-clause-exact c = λ k s st.
    let m = c.args.self.now in
    let p = m.flow.now.program in
    let x = c.in_ok-x.x in
    let y = c.in_ok-y.y in
    let v = c.in_ok-x-2.x in
    let f = c.in_err-y-2.field-0.0 in
    let down = c.args.down in
    let r = c.from_residual-in_err-y-2.result in
    let is : r ≡ Err f = search rules in
    let t = var_type (tables p) c.args.control in
    let first = (out-Expr c.args.first.now).first in
    let last = (out-Expr c.args.last.now).first in
    let x_number : IsNumber x = c.in_ok-x.ensures.number in
    let y_number : IsNumber y = c.in_ok-y.ensures.number in
    let on : in_order down x y ≡ true = numbers_kept (in_order down) x y x_number y_number ∙ sym c.if-not-is_in_order.ensures in
    let u = c.var_def-of_type.result.of_type in
    let same : t ≡ u = var_type_is p c.args.control c.var_def-of_type.result c.var_def-of_type.ensures.value in
    then_value m s k (value (view_in m s) c.args.first.now) x _ r (c.in_ok-x.ensures.exact s st)
    (then_value m s k (value (view_in m s) c.args.last.now) y _ r (c.in_ok-y.ensures.exact s st)
    (if_true m s k (in_order down x y) _ _ r on
    (then_value m s k (checked (is_value_of (slice_get p.types t) x) ValueOutOfRange first x) v _ r (checked_at p t u c.is_value_of.result ValueOutOfRange first x (Ok v) x_number same c.is_value_of.ensures c.in_ok-x-2.ensures)
    (then_error m s k (checked (is_value_of (slice_get p.types t) y) ValueOutOfRange last y) f _ r is (checked_at p t u c.is_value_of-2.result ValueOutOfRange last y (Err f) y_number same c.is_value_of-2.ensures c.in_err-y-2.ensures)))))
