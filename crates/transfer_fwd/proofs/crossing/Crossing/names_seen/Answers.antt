use Rattle.transfer_fwd.proofs.Called.{formals_seen, own_seen, result_seen, slot_seen, vars_in_range, vars_seen}
use Rattle.transfer_fwd.proofs.crossing.Crossing.names_seen.Goals as goal

pub returns-clause-own : goal.returns-clause-own
returns-clause-own c = let x = c.args.self.now in
    own_seen x.flow.now x.classes.now x.outside x.inside x.site (record { routine = x.routine; actuals = x.actuals.now; slot = x.slot }) x.call c.what_is_visible_is_seen.ensures.accesses c.count.ensures.each_is_a_class

pub returns-clause-result : goal.returns-clause-result
returns-clause-result c = let x = c.args.self.now in
    result_seen x.flow.now x.classes.now x.outside x.inside x.site (record { routine = x.routine; actuals = x.actuals.now; slot = x.slot }) x.call c.what_is_visible_is_seen.ensures.accesses c.count.ensures.each_is_a_class

pub returns-clause-slot : goal.returns-clause-slot
returns-clause-slot c = let x = c.args.self.now in
    slot_seen x.flow.now x.classes.now x.outside x.inside x.site (record { routine = x.routine; actuals = x.actuals.now; slot = x.slot }) x.call c.what_is_visible_is_seen.ensures.accesses c.count.ensures.each_is_a_class

pub returns-clause-formals : goal.returns-clause-formals
returns-clause-formals c = let x = c.args.self.now in
    formals_seen x.flow.now x.classes.now x.outside x.inside x.site (record { routine = x.routine; actuals = x.actuals.now; slot = x.slot }) x.call c.what_is_visible_is_seen.ensures.accesses c.count.ensures.each_is_a_class

pub returns-clause-vars : goal.returns-clause-vars
returns-clause-vars c = let x = c.args.self.now in
    vars_seen x.flow.now x.classes.now x.outside x.inside x.site (record { routine = x.routine; actuals = x.actuals.now; slot = x.slot }) x.call c.what_is_visible_is_seen.ensures.accesses c.count.ensures.each_is_a_class

pub returns-clause-in_range : goal.returns-clause-in_range
returns-clause-in_range c = let x = c.args.self.now in
    vars_in_range x.flow.now x.classes.now x.outside x.inside x.site (record { routine = x.routine; actuals = x.actuals.now; slot = x.slot }) x.call c.what_is_visible_is_seen.ensures.accesses c.count.ensures.each_is_a_class
