use Rattle.std.proofs.Common.{◌≡◌, ◌∙◌, ◌+◌, Bool, List, length, get_or, refl, sym, ap, take, replicate, false, arith}
use Rattle.control_points.specs.Flows.{chart_of}
use Rattle.control_points.specs.Judgements.{point_judgements}
use Rattle.abstract_expr.specs.Verdicts.{holds_at, marks_with}
use Rattle.activations.specs.Fitting.{class_number, point_number}
use Rattle.environment.specs.Environments.{env_ops}
use Rattle.fixpoint.specs.System.{element}
use Rattle.transfer_fwd.specs.Systems.{environments}
use Rattle.report.proofs.ListedNodes.{listed_there, listed_within}
use Rattle.report.proofs.MarkedChecks.{marks_of, marks_length, none_marked, one_more_marked, written_back}
use Rattle.report.proofs.verdicts.open_at.Goals as goal

pub loop-node-init : goal.loop-node-init
loop-node-init c = record {
  marks = c.in_ok-marks.ensures.items_if_clones_equal (λ y h. h)
      ∙ ap (λ n. replicate n false) c.count_checks.ensures
      ∙ none_marked c.args.nodes.now.flow.now c.args.nodes.now.graph.now (environments c.args.plain.now) c.args.point;
  room = refl;
}

pub mark_at-requires-clause-node : goal.mark_at-requires-clause-node
mark_at-requires-clause-node c = listed_within c.args.nodes.now.graph.now c.args.point c.loop-node.node-index c.at-node-items.result.now c.at-node-items.ensures c.loop-node-test.true

pub mark_at-requires-clause-long : goal.mark_at-requires-clause-long
mark_at-requires-clause-long c =
    let flow = c.args.nodes.now.flow.now in
    let graph = c.args.nodes.now.graph.now in
    let listed = c.at-node-items.result.now in
    let there = listed_there graph c.args.point c.loop-node.node-index listed c.at-node-items.ensures c.loop-node-test.true in
    ap (λ (bs : List Bool). length bs) (c.deref_mut.ensures.value ∙ c.loop-node.invariant.marks)
    ∙ marks_length flow graph (environments c.args.plain.now) c.args.point (take c.loop-node.node-index listed)
    ∙ ap (λ p. length (point_judgements (chart_of flow) p)) (sym there)

pub loop-node-preserved : goal.loop-node-preserved
loop-node-preserved c =
    let flow = c.args.nodes.now.flow.now in
    let graph = c.args.nodes.now.graph.now in
    let table = environments c.args.plain.now in
    let listed = c.at-node-items.result.now in
    let i = c.loop-node.node-index in
    let there = listed_there graph c.args.point i listed c.at-node-items.ensures c.loop-node-test.true in
    let more = one_more_marked flow graph table c.args.point listed i c.loop-node-test.true there in
    let node = get_or listed i 0 in
    let before = c.loop-node.invariant.marks in
    let after : c.mark_at.new.marks ≡ marks_of flow graph table c.args.point (take (i + 1) listed) =
    c.mark_at.ensures.marks ∙ ap (λ (bs : List Bool). marks_with bs (holds_at flow graph.table (class_number graph node) (point_number graph node) (element env_ops table node))) (c.deref_mut.ensures.value ∙ before) ∙ more in
    let long : c.loop-node.marks.len ≡ length c.mark_at.new.marks =
    omega (arith, c.loop-node.marks.ok.0, ap (λ (bs : List Bool). length bs) before, marks_length flow graph table c.args.point (take i listed), ap (λ (bs : List Bool). length bs) after, marks_length flow graph table c.args.point (take (i + 1) listed)) in
    record {
      marks = written_back c.loop-node.marks.len c.mark_at.new.marks c.loop-node.marks.items long ∙ after;
      room = c.mark_at.ensures.room ∙ c.loop-node.invariant.room;
    }
