use Rattle.std.proofs.Common.{◌≡◌, false, ◌∙◌, sym}
use Rattle.control_points.specs.Actions.{comes_before}
use Rattle.control_points.specs.Evaluation.{defined}
use Rattle.interp.specs.Meant.{view_in}
use Rattle.interp.proofs.Addresses.{scalar_room}
use Rattle.interp.proofs.Casts.{numbers_kept}
use Rattle.interp.proofs.Deciding.{if_false, then_value, var_read}
use Rattle.interp.proofs.machine.Machine.finish.Goals as goal

pub used-requires : goal.used-requires
used-requires c = scalar_room c.args.self.now.flow.now.program c.args.self.now.frames.items c.args.control c.address_of.result c.requires.scalar c.address_of.ensures.room

pub used-requires-2 : goal.used-requires-2
used-requires-2 c = scalar_room c.args.self.now.flow.now.program c.args.self.now.frames.items c.args.bound c.address_of-2.result c.requires.bound_scalar c.address_of-2.ensures.room

pub returns-clause-exact : goal.returns-clause-exact
returns-clause-exact c = λ k s st.
    let m = c.args.self.now in
    let x = c.in_ok-x.x in
    let y = c.in_ok-y.y in
    let down = c.args.down in
    let control = (view_in m s).place c.args.control in
    let bound = (view_in m s).place c.args.bound in
    let r = c.undefine.result in
    let on : comes_before down x y ≡ false = numbers_kept (comes_before down) x y c.in_ok-x.ensures.number c.in_ok-y.ensures.number ∙ sym c.if-comes_before.ensures in
    then_value m s k (defined c.args.at (s.store control)) x _ r (var_read m s st c.args.control c.address_of.result c.args.at c.requires.scalar (c.address_of.ensures.exact s st) ∙ sym c.in_ok-x.ensures.value)
    (then_value m s k (defined c.args.at (s.store bound)) y _ r (var_read m s st c.args.bound c.address_of-2.result c.args.at c.requires.bound_scalar (c.address_of-2.ensures.exact s st) ∙ sym c.in_ok-y.ensures.value)
    (if_false m s k (comes_before down x y) _ _ r on (c.undefine.ensures.exact k s st)))
