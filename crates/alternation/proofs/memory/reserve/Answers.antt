use Rattle.std.proofs.Common.{rules, ◌<◌, ◌≤◌, ℕ, List, Global, Vec, length, map, sym, subst, arith}
use Rattle.std.proofs.lemmas.List.{length-map, length-replicate}
use Rattle.environment.specs.Environments.{Environment}
use Rattle.alias_class.specs.Cells.{IsClass}
use Rattle.alias_class.specs.Classes.{class_at}
use Rattle.alias_class.specs.Tables.{Table}
use Rattle.abstract_expr.specs.Standing.{cells_in}
use Rattle.transfer_fwd.specs.Reads.{AreForwardReads}
use Rattle.transfer_fwd.specs.Systems.{FitsGraph}
use Rattle.alternation.proofs.Solving.{unreached_fits}
use Rattle.alternation.proofs.Sources.{reads_are_nodes}
use Rattle.alternation.proofs.memory.reserve.Goals as goal

pub of-requires-clause-few : goal.of-requires-clause-few
of-requires-clause-few c =
    let items = λ (v : Vec ℕ Global). v.items in
    let reads : AreForwardReads c.args.graph.now (map items c.in_ok-forward_reads.field-0.items) = c.in_ok-forward_reads.ensures in
    let long = length-map c.in_ok-forward_reads.field-0.items items in
    omega (arith, long, reads.as_many, c.nodes-nodes.ensures, c.nodes-nodes.type_inv)

pub of-requires-clause-below : goal.of-requires-clause-below
of-requires-clause-below c =
    let f = c.args.flow.now in
    let graph = c.args.graph.now in
    let classes = subst (λ (t : Table). (i : ℕ) → i < length t.classes → IsClass t.outline (class_at t.classes i)) c.classes.ensures c.count-classes.ensures.each_is_a_class in
    reads_are_nodes f graph c.in_ok-forward_reads.field-0.items (c.arcs_fit_their_edges.ensures f graph c.requires classes) c.in_ok-forward_reads.ensures

pub invariant_of-result : goal.invariant_of-result
invariant_of-result c =
    let f = c.args.flow.now in
    let graph = c.args.graph.now in
    let classes = subst (λ (t : Table). (i : ℕ) → i < length t.classes → IsClass t.outline (class_at t.classes i)) c.classes.ensures c.count-classes.ensures.each_is_a_class in
    record {
      fits = c.arcs_fit_their_edges.ensures f graph c.requires classes;
      are_reads = subst (λ (lists : List (List ℕ)). AreForwardReads graph lists) (sym c.in_ok-of.ensures.reads) c.in_ok-forward_reads.ensures;
      least_first = c.in_ok-of.ensures.greatest_first;
      are_steps = c.in_ok-of-2.ensures;
      are_limits = c.in_ok-type_limits.ensures;
      table = subst (λ (es : List Environment). FitsGraph graph es) (sym c.in_ok-unreached.ensures) (unreached_fits graph);
      marks = search (rules, length-replicate, c.in_ok-vec.ensures.items_if_clones_equal, c.nodes-nodes.ensures);
      value_room = λ class below. subst (λ (room : ℕ). cells_in graph.table class ≤ room) (sym c.in_ok-new.ensures.room) (c.most_cells-room.ensures class below);
      arc_room = λ class below. subst (λ (room : ℕ). cells_in graph.table class ≤ room) (sym c.in_ok-new-2.ensures.room) (c.most_cells-room.ensures class below);
      outline = c.requires.outline;
    }
