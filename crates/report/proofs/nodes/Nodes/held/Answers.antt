use Rattle.std.proofs.Common.{◌<◌, ℕ, sym, ap, subst, ◌∙◌}
use Rattle.environment.specs.Environments.{value_at}
use Rattle.alias_class.specs.declared.bind.Bind.{Bind}
use Rattle.activations.specs.Fitting.{point_number}
use Rattle.report.proofs.TableRows.{cells_at, held_at, seen, stands}
use Rattle.report.proofs.nodes.Nodes.held.Goals as goal

pub routine-routine-requires : goal.routine-routine-requires
routine-routine-requires c =
    (stands c.args.self.now.flow.now c.args.self.now.graph.now c.classes-classes.result.now c.args.node c.class_of-class.result c.args.self.now.outline c.args.self.now.fits c.requires.node c.classes-classes.ensures c.class_of-class.ensures).in_range

pub resolve-requires-clause-class : goal.resolve-requires-clause-class
resolve-requires-clause-class c =
    (stands c.args.self.now.flow.now c.args.self.now.graph.now c.classes-classes.result.now c.args.node c.class_of-class.result c.args.self.now.outline c.args.self.now.fits c.requires.node c.classes-classes.ensures c.class_of-class.ensures).in_range

pub resolve-requires-clause-seen : goal.resolve-requires-clause-seen
resolve-requires-clause-seen c =
    let at = stands c.args.self.now.flow.now c.args.self.now.graph.now c.classes-classes.result.now c.args.node c.class_of-class.result c.args.self.now.outline c.args.self.now.fits c.requires.node c.classes-classes.ensures c.class_of-class.ensures in
    seen c.args.self.now.flow.now c.classes-classes.result.now c.class_of-class.result (point_number c.args.self.now.graph.now c.args.node) c.args.var (c.what_is_in_scope_is_seen.ensures.variables c.args.self.now.flow.now) at c.routine-routine.ensures.is_class c.requires.seen

pub get-requires-clause-in_range : goal.get-requires-clause-in_range
get-requires-clause-in_range c =
    let P : ℕ → Type 0 = λ n. c.resolve.result.cell < n in
    subst P (sym (cells_at c.args.self.now.graph.now c.classes-classes.result.now c.args.table.now c.args.node c.class_of-class.result c.index-table-node.result c.requires.fits c.requires.node c.index-table-node.is c.classes-classes.ensures c.class_of-class.ensures)) c.resolve.ensures.in_range

pub returns : goal.returns
returns c =
    c.get.ensures.value ∙ ap (λ (b : Bind). value_at c.index-table-node.result.env b.cell) c.resolve.ensures.value
    ∙ held_at c.args.self.now.graph.now c.classes-classes.result.now c.args.table.now c.args.node c.class_of-class.result c.args.var c.index-table-node.result c.requires.fits c.requires.node c.index-table-node.is c.classes-classes.ensures c.class_of-class.ensures
