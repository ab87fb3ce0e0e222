use Rattle.std.proofs.Common.{◌∙◌, ◌++◌, Bool, List, sym, ap}
use Rattle.std.specs.List.{flat_map, range_with_len}
use Rattle.report.specs.Conditions.{open_at}
use Rattle.transfer_fwd.specs.Systems.{environments}
use Rattle.report.proofs.Ranges.{pieces_more}
use Rattle.report.proofs.verdicts.open_checks.Goals as goal

pub loop-point-preserved : goal.loop-point-preserved
loop-point-preserved c =
    let piece = open_at c.args.nodes.now.flow.now c.args.nodes.now.graph.now (environments c.args.plain.now) in
    let point = c.loop-point.point in
    record {
      marks = c.in_ok-extend_from_slice.ensures.items
          ∙ ap (λ (bs : List Bool). bs ++ c.deref.result.now) c.loop-point.invariant.marks
          ∙ ap (λ (bs : List Bool). flat_map piece (range_with_len 0 point) ++ bs) (c.deref.ensures.value ∙ c.in_ok-marks.ensures.value)
          ∙ sym (pieces_more piece point);
      room = c.open_at.ensures.room ∙ c.loop-point.invariant.room;
    }
