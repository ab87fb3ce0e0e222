use Rattle.std.proofs.Common.{◌≤◌, length, map, refl, arith}
use Rattle.activations.specs.declared.node.Node.{Node}
use Rattle.alternation.specs.Limits.{class_limit}
use Rattle.alternation.proofs.Filling.{class_read, filled, filled_more}
use Rattle.alternation.proofs.limits.type_limits.Goals as goal

pub class_limit-requires : goal.class_limit-requires
class_limit-requires c =
    class_read c.args.graph.now c.args.graph.now.table c.loop-node.node c.class_of.result refl c.class_of.ensures
    (c.requires c.loop-node.node (omega (arith, c.loop-node-test.true, c.nodes-node-end.ensures)))

pub loop-node-preserved : goal.loop-node-preserved
loop-node-preserved c =
    let g = c.args.graph.now in
    filled_more (class_limit g.table) (map (λ (n : Node). n.class) g.nodes) c.loop-node.node c.class_of.result
    c.loop-node.table.items c.push.new.self.items c.in_ok-class_limit.field-0 c.class_of.ensures c.in_ok-push.ensures.items c.in_ok-class_limit.ensures c.loop-node.invariant

pub returns : goal.returns
returns c =
    let g = c.args.graph.now in
    let all : length g.nodes ≤ c.loop-node.node = omega (arith, c.loop-node-test.false, c.nodes-node-end.ensures) in
    filled (class_limit g.table) g.nodes c.loop-node.node _ all c.loop-node.invariant
