use Rattle.std.proofs.Common.{◌≡◌, ◌+◌, ℕ, get_or, map, set, sym, subst}
use Rattle.std.specs.List.{range_with_len}
use Rattle.activations.specs.Parts.{lists_of}
use Rattle.report.specs.Nodes.{first_nodes_at}
use Rattle.report.proofs.ListedNodes.{vec_more}
use Rattle.report.proofs.TableRows.{point_is}
use Rattle.report.proofs.nodes.listing.add_node.Goals as goal

pub returns-clause-listed : goal.returns-clause-listed
returns-clause-listed c = λ points listed.
    let is = point_is c.args.graph.now c.args.node c.point_of.result c.point_of.ensures in
    let old = c.index_mut.result.now in
    let Read : ℕ → Type 0 = λ k. old ≡ get_or c.args.lists.now.items k old in
    let Written : ℕ → Type 0 = λ k. lists_of (set c.args.lists.now.items k c.push.new.self) ≡ map (first_nodes_at c.args.graph.now (c.args.node + 1)) (range_with_len 0 points) in
    subst Written is (vec_more c.args.graph.now c.args.node points c.args.lists.now.items old c.push.new.self listed c.requires.point (subst Read (sym is) c.index_mut.ensures.value) (c.in_ok-push.ensures.items))
