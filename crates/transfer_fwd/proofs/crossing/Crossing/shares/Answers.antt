use Rattle.std.proofs.Common.{sym, subst}
use Rattle.alias_class.specs.Linked.{LinksShare}
use Rattle.abstract_expr.specs.Standing.{class_in}
use Rattle.transfer_fwd.proofs.Called.{shares}
use Rattle.transfer_fwd.proofs.crossing.Crossing.shares.Goals as goal

pub returns : goal.returns
returns c =
    let x = c.args.self.now in
    let t = x.classes.now in
    subst (LinksShare t.outline (class_in t x.outside) (class_in t x.inside)) (sym x.linked)
    (shares x.flow.now t x.outside x.inside x.site (record { routine = x.routine; actuals = x.actuals.now; slot = x.slot }) x.call c.links_join_the_shared_cells.ensures (c.count.ensures.each_is_a_class x.outside x.call.caller))
