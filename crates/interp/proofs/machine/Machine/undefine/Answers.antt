use Rattle.std.proofs.Common.{[], ◌∷◌, refl, None}
use Rattle.control_points.specs.Actions.{sets}
use Rattle.interp.specs.Meant.{view_in}
use Rattle.interp.proofs.Addresses.{scalar_room}
use Rattle.interp.proofs.Deciding.{var_at}
use Rattle.interp.proofs.machine.Machine.undefine.Goals as goal

pub does-requires : goal.does-requires
does-requires c = (scalar_room c.args.self.now.flow.now.program c.args.self.now.frames.items c.args.var c.address_of.result c.requires.scalar c.address_of.ensures.room, tt)

pub returns-clause-exact : goal.returns-clause-exact
returns-clause-exact c = λ k s st.
    let m = c.args.self.now in
    c.does.ensures.exact k (sets ((view_in m s).place c.args.var) None ∷ []) (refl, var_at m s c.args.var c.address_of.result c.requires.scalar (c.address_of.ensures.exact s st)) s st
