use Rattle.std.proofs.Common.{◌<◌, ◌+◌, length, ◌∙◌, arith}
use Rattle.alias_class.specs.Calls.{parent_in}
use Rattle.alias_class.specs.Classes.{class_at}
use Rattle.alias_class.proofs.Opened.{cells_are, names_fit, own_fits}
use Rattle.alias_class.proofs.classes.Classes.passing.Goals as goal

pub overflow_cast-first_foreign : goal.overflow_cast-first_foreign
overflow_cast-first_foreign c =
    let fit : c.cells-inherited.result + length c.own.result.now < 4294967296 = own_fits c.self.inside.outline c.self.inside.keys.keys c.self.inside.rows.items c.self.invariant c.args.self.now c.self.view_is c.args.class c.requires.class c.args.routine c.args.actuals.now c.requires.call c.cells-inherited.result (cells_are c.args.self.now c.callee_parent-parent.result (parent_in c.args.self.now.outline (class_at c.args.self.now.classes c.args.class) c.args.routine) c.callee_parent-parent.ensures.value c.cells-inherited.result c.cells-inherited.ensures) c.own.result.now c.own.ensures in
    omega arith

pub overflow_add-first_foreign : goal.overflow_add-first_foreign
overflow_add-first_foreign c =
    let fit : c.cells-inherited.result + length c.own.result.now < 4294967296 = own_fits c.self.inside.outline c.self.inside.keys.keys c.self.inside.rows.items c.self.invariant c.args.self.now c.self.view_is c.args.class c.requires.class c.args.routine c.args.actuals.now c.requires.call c.cells-inherited.result (cells_are c.args.self.now c.callee_parent-parent.result (parent_in c.args.self.now.outline (class_at c.args.self.now.classes c.args.class) c.args.routine) c.callee_parent-parent.ensures.value c.cells-inherited.result c.cells-inherited.ensures) c.own.result.now c.own.ensures in
    omega arith

pub new-requires-clause-few : goal.new-requires-clause-few
new-requires-clause-few c = names_fit c.self.inside.outline c.self.inside.keys.keys c.self.inside.rows.items c.self.invariant c.args.self.now c.self.view_is c.args.class c.requires.class c.args.routine c.args.actuals.now c.requires.call c.cells-inherited.result (cells_are c.args.self.now c.callee_parent-parent.result (parent_in c.args.self.now.outline (class_at c.args.self.now.classes c.args.class) c.args.routine) c.callee_parent-parent.ensures.value c.cells-inherited.result c.cells-inherited.ensures) c.own.result.now c.own.ensures c.deref.result.now (c.deref.ensures.value ∙ c.in_ok-named.ensures)
