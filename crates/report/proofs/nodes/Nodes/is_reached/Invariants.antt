use Rattle.std.proofs.Common.{◌≡◌, false, take}
use Rattle.std.specs.List.{list_any}
use Rattle.environment.specs.Environments.{env_ops, is_reachable}
use Rattle.fixpoint.specs.System.{element}
use Rattle.transfer_fwd.specs.Systems.{environments}
use Rattle.report.proofs.nodes.Nodes.is_reached.Given as goal

abbrev pub invariant-loop-node : goal.invariant-loop-node
invariant-loop-node l = list_any (λ node. is_reachable (element env_ops (environments l.table) node)) (take l.node-index l.node-items) ≡ false
