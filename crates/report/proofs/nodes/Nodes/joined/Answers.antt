use Rattle.std.proofs.Common.{ℕ, sym, subst}
use Rattle.report.specs.Nodes.{SeesVariable}
use Rattle.report.proofs.ListedNodes.{listed_there, listed_within}
use Rattle.report.proofs.nodes.Nodes.joined.Goals as goal

pub held-requires-clause-node : goal.held-requires-clause-node
held-requires-clause-node c = listed_within c.args.self.now.graph.now c.args.point c.loop-node.node-index c.at-node-items.result.now c.at-node-items.ensures c.loop-node-test.true

pub held-requires-clause-seen : goal.held-requires-clause-seen
held-requires-clause-seen c =
    let there = listed_there c.args.self.now.graph.now c.args.point c.loop-node.node-index c.at-node-items.result.now c.at-node-items.ensures c.loop-node-test.true in
    let P : ℕ → Type 0 = λ p. SeesVariable c.args.self.now.flow.now p c.args.var in
    subst P (sym there) c.requires.seen
