use Rattle.std.proofs.Common.{◌≡◌, [], ◌∷◌, true, ap, ◌∙◌, sym, Some}
use Rattle.control_points.specs.Actions.{comes_before, sets, stepped}
use Rattle.control_points.specs.Evaluation.{defined}
use Rattle.interp.specs.Meant.{view_in}
use Rattle.interp.proofs.Addresses.{scalar_room}
use Rattle.interp.proofs.Casts.{number_cast, number_kept, numbers_kept}
use Rattle.interp.proofs.Deciding.{if_true, then_value, var_at, var_read}
use Rattle.interp.proofs.machine.Machine.next_turn.Goals as goal

pub used-requires : goal.used-requires
used-requires c = scalar_room c.args.self.now.flow.now.program c.args.self.now.frames.items c.args.control c.address_of-address.result c.requires.scalar c.address_of-address.ensures.room

pub used-requires-2 : goal.used-requires-2
used-requires-2 c = scalar_room c.args.self.now.flow.now.program c.args.self.now.frames.items c.args.bound c.address_of.result c.requires.bound_scalar c.address_of.ensures.room

pub does-requires : goal.does-requires
does-requires c = (
  scalar_room c.args.self.now.flow.now.program c.args.self.now.frames.items c.args.control c.address_of-address.result c.requires.scalar c.address_of-address.ensures.room,
  number_cast c.next_value.result c.next_value.ensures.number,
)

pub returns-clause-exact : goal.returns-clause-exact
returns-clause-exact c = λ k s st.
    let m = c.args.self.now in
    let x = c.in_ok-x.x in
    let y = c.in_ok-y.y in
    let down = c.args.down in
    let control = (view_in m s).place c.args.control in
    let bound = (view_in m s).place c.args.bound in
    let r = c.does.result in
    let on : comes_before down x y ≡ true = numbers_kept (comes_before down) x y c.in_ok-x.ensures.number c.in_ok-y.ensures.number ∙ sym c.if-not-comes_before.ensures in
    let z = c.next_value.result in
    let next : stepped down x ≡ z = ap (stepped down) (number_kept x c.in_ok-x.ensures.number) ∙ sym c.next_value.ensures.value in
    let at = c.address_of-address.result in
    let first = c.address_of-address.ensures.exact s st in
    then_value m s k (defined c.args.at (s.store control)) x _ r (var_read m s st c.args.control at c.args.at c.requires.scalar first ∙ sym c.in_ok-x.ensures.value)
    (then_value m s k (defined c.args.at (s.store bound)) y _ r (var_read m s st c.args.bound c.address_of.result c.args.at c.requires.bound_scalar (c.address_of.ensures.exact s st) ∙ sym c.in_ok-y.ensures.value)
    (if_true m s k (comes_before down x y) _ _ r on
    (c.does.ensures.exact k (sets control (Some (stepped down x)) ∷ []) (ap Some (next ∙ number_kept z c.next_value.ensures.number), var_at m s c.args.control at c.requires.scalar first) s st)))
