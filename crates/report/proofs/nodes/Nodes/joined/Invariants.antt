use Rattle.std.proofs.Common.{◌≡◌, fold, take}
use Rattle.interval.specs.Values.{nothing, val_join}
use Rattle.transfer_fwd.specs.Systems.{environments}
use Rattle.report.specs.Nodes.{held}
use Rattle.report.proofs.nodes.Nodes.joined.Given as goal

abbrev pub invariant-loop-node : goal.invariant-loop-node
invariant-loop-node l = l.all ≡ fold (λ v node. val_join v (held l.self.graph.now (environments l.table) l.var node)) nothing (take l.node-index l.node-items)
