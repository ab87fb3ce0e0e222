use Rattle.std.proofs.Common.{◌≡◌, length, arith}
use Rattle.transfer_fwd.proofs.ReadArcs.{all_listed, none_yet, one_more}
use Rattle.transfer_fwd.proofs.reads.forward_reads.Goals as goal

pub loop-node-init : goal.loop-node-init
loop-node-init c = none_yet c.args.graph.now c.in_ok-lists.lists.items c.in_ok-lists.ensures.items

pub loop-node-preserved : goal.loop-node-preserved
loop-node-preserved c =
    one_more c.args.graph.now c.loop-node.node c.loop-node.lists.items c.push.new.self.items c.in_ok-reads_of.field-0 c.loop-node.invariant
    (record { rising = c.in_ok-reads_of.ensures.rising; members = c.in_ok-reads_of.ensures.members }) c.in_ok-push.ensures.items

pub returns : goal.returns
returns c =
    let all : c.loop-node.node ≡ length c.args.graph.now.nodes = omega (arith, c.loop-node-test.false, c.loop-node.auto.node-end, c.nodes-node-end.ensures) in
    all_listed c.args.graph.now c.loop-node.node c.loop-node.lists.items c.loop-node.invariant all
