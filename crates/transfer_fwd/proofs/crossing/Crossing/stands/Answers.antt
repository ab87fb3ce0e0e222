use Rattle.transfer_fwd.proofs.Called.{actuals_stand, routine_in_range}
use Rattle.transfer_fwd.proofs.crossing.Crossing.stands.Goals as goal

pub returns-clause-routine : goal.returns-clause-routine
returns-clause-routine c = let x = c.args.self.now in routine_in_range x.flow.now x.classes.now x.outside x.inside x.site (record { routine = x.routine; actuals = x.actuals.now; slot = x.slot }) x.call

pub returns-clause-actuals : goal.returns-clause-actuals
returns-clause-actuals c = let x = c.args.self.now in
    actuals_stand x.flow.now x.classes.now x.outside x.inside x.site (record { routine = x.routine; actuals = x.actuals.now; slot = x.slot }) x.call c.what_is_visible_is_seen.ensures.exprs c.what_is_visible_is_seen.ensures.accesses (c.count.ensures.each_is_a_class x.outside x.call.caller)
