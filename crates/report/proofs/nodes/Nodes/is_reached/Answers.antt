use Rattle.std.proofs.Common.{arith, ℕ, List, get_or, sym, ap, ◌∙◌}
use Rattle.std.proofs.lemmas.List.Folds.{list_any_at}
use Rattle.std.specs.List.{list_any}
use Rattle.environment.specs.Environments.{env_ops, Environment, is_reachable}
use Rattle.fixpoint.specs.System.{element}
use Rattle.transfer_fwd.specs.Systems.{environments}
use Rattle.report.proofs.ListedNodes.{listed_within}
use Rattle.report.proofs.TableRows.{row_of, rows_long}
use Rattle.report.proofs.nodes.Nodes.is_reached.Goals as goal

pub bounds-table-node : goal.bounds-table-node
bounds-table-node c =
    let within = listed_within c.args.self.now.graph.now c.args.point c.loop-node.node-index c.at-node-items.result.now c.at-node-items.ensures c.loop-node-test.true in
    omega (arith, within, rows_long c.args.self.now.graph.now c.args.table.now c.requires.fits)

pub returns-then-reachable : goal.returns-then-reachable
returns-then-reachable c =
    let graph = c.args.self.now.graph.now in
    let listed = c.at-node-items.result.now in
    let i = c.loop-node.node-index in
    let within = listed_within graph c.args.point i listed c.at-node-items.ensures c.loop-node-test.true in
    let row = row_of graph c.args.table.now (get_or listed i 0) c.index-table-node.result c.requires.fits within c.index-table-node.is in
    let there = ap (λ (e : Environment). is_reachable e) row ∙ sym c.reachable.ensures.value ∙ c.if-reachable.true in
    sym (ap (λ (xs : List ℕ). list_any (λ node. is_reachable (element env_ops (environments c.args.table.now) node)) xs) (sym c.at-node-items.ensures)
    ∙ list_any_at (λ node. is_reachable (element env_ops (environments c.args.table.now) node)) listed i 0 c.loop-node-test.true there)
