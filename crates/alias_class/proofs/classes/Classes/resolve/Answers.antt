use Rattle.std.proofs.Common.{false, arith}
use Rattle.alias_class.proofs.Resolving.{bound_in_range, bound_value, own_fits, own_in_range, own_value, rank_in_range}
use Rattle.alias_class.proofs.classes.Classes.resolve.Goals as goal

pub overflow_add-result : goal.overflow_add-result
overflow_add-result c = let fits = own_fits c.self.inside.outline c.self.inside.keys.keys c.self.inside.rows.items c.self.invariant c.args.self.now c.self.view_is c.args.class c.args.var c.requires.class c.variable-variable.result c.variable-variable.ensures c.around-owner.result c.around-owner.ensures.value c.around-owner.ensures.before c.in-Own.rank c.in-Own.is c.index.result.now c.index.ensures in omega arith

pub bounds-bindings-rank : goal.bounds-bindings-rank
bounds-bindings-rank c = rank_in_range c.self.inside.outline c.self.inside.keys.keys c.self.inside.rows.items c.self.invariant c.args.self.now c.self.view_is c.args.class c.args.var c.requires.class c.variable-variable.result c.variable-variable.ensures c.around-owner.result c.around-owner.ensures.value c.around-owner.ensures.before c.in-Bound.rank c.in-Bound.is c.bindings.result.now c.bindings.ensures

pub returns-in-Own-clause-value : goal.returns-in-Own-clause-value
returns-in-Own-clause-value c = own_value c.self.inside.outline c.self.inside.keys.keys c.self.inside.rows.items c.self.invariant c.args.self.now c.self.view_is c.args.class c.args.var c.requires.class c.variable-variable.result c.variable-variable.ensures c.around-owner.result c.around-owner.ensures.value c.around-owner.ensures.before c.in-Own.rank c.in-Own.is c.index.result.now c.index.ensures

pub returns-in-Own-clause-in_range : goal.returns-in-Own-clause-in_range
returns-in-Own-clause-in_range c = own_in_range c.self.inside.outline c.self.inside.keys.keys c.self.inside.rows.items c.self.invariant c.args.self.now c.self.view_is c.args.class c.args.var c.requires.class c.variable-variable.result c.variable-variable.ensures c.around-owner.result c.around-owner.ensures.value c.around-owner.ensures.before c.in-Own.rank c.in-Own.is c.index.result.now c.index.ensures

pub returns-in-Bound-clause-value : goal.returns-in-Bound-clause-value
returns-in-Bound-clause-value c = bound_value c.self.inside.outline c.self.inside.keys.keys c.self.inside.rows.items c.self.invariant c.args.self.now c.self.view_is c.args.class c.args.var c.requires.class c.variable-variable.result c.variable-variable.ensures c.around-owner.result c.around-owner.ensures.value c.around-owner.ensures.before c.in-Bound.rank c.in-Bound.is c.bindings.result.now c.bindings.ensures (record { whole = false; cell = 0 })

pub returns-in-Bound-clause-in_range : goal.returns-in-Bound-clause-in_range
returns-in-Bound-clause-in_range c = bound_in_range c.self.inside.outline c.self.inside.keys.keys c.self.inside.rows.items c.self.invariant c.args.self.now c.self.view_is c.args.class c.args.var c.requires.class c.variable-variable.result c.variable-variable.ensures c.around-owner.result c.around-owner.ensures.value c.around-owner.ensures.before c.in-Bound.rank c.in-Bound.is c.bindings.result.now c.bindings.ensures (record { whole = false; cell = 0 })
