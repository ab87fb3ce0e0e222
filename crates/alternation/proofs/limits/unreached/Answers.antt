use Rattle.std.proofs.Common.{◌≤◌, length, map, ap, ◌∙◌, arith}
use Rattle.environment.specs.Environments.Environment.{Unreachable}
use Rattle.alias_class.specs.Tables.{Table}
use Rattle.abstract_expr.specs.Standing.{cells_in}
use Rattle.activations.specs.declared.node.Node.{Node}
use Rattle.alternation.proofs.Filling.{class_read, filled, filled_more}
use Rattle.alternation.proofs.limits.unreached.Goals as goal

pub cells-cells-requires : goal.cells-cells-requires
cells-cells-requires c =
    class_read c.args.graph.now c.classes.result.now c.loop-node.node c.class_of.result c.classes.ensures c.class_of.ensures
    (c.requires c.loop-node.node (omega (arith, c.loop-node-test.true, c.nodes-node-end.ensures)))

pub loop-node-preserved : goal.loop-node-preserved
loop-node-preserved c =
    let g = c.args.graph.now in
    let value = c.in_ok-new.ensures.value ∙ ap Unreachable (c.cells-cells.ensures ∙ ap (λ (t : Table). cells_in t c.class_of.result) c.classes.ensures) in
    filled_more (λ class. Unreachable (cells_in g.table class)) (map (λ (n : Node). n.class) g.nodes) c.loop-node.node c.class_of.result
    c.loop-node.table.items c.push.new.self.items c.in_ok-new.field-0 c.class_of.ensures c.in_ok-push.ensures.items value c.loop-node.invariant

pub returns : goal.returns
returns c =
    let g = c.args.graph.now in
    let all : length g.nodes ≤ c.loop-node.node = omega (arith, c.loop-node-test.false, c.nodes-node-end.ensures) in
    filled (λ class. Unreachable (cells_in g.table class)) g.nodes c.loop-node.node _ all c.loop-node.invariant
