use Rattle.std.proofs.Common.{get_or, List, refl, sym, ◌∙◌, arith}
use Rattle.interval.specs.declared.val.Val.{Val}
use Rattle.interval.specs.Values.{val_meet}
use Rattle.interval.specs.ValueLaws.{val_meet_of_below}
use Rattle.environment.proofs.Progress.{done_more, something_more, untouched_more, full_at}
use Rattle.environment.proofs.passes.meet_cells.Goals as goal
use Rattle.environment.proofs.passes.meet_cells.Goals.{then-not-leq+else-is_bottom, else-not-leq}

pub loop-i-preserved : goal.loop-i-preserved
loop-i-preserved c =
    let vs : List Val = c.loop-i.cells in
    let ws : List Val = c.args.others.now in
    let i = c.loop-i.i in
    let cell : Val = get_or vs i c.index-cells-i.result in
    elim c.if-not-leq.branch [
      | then-not-leq+else-is_bottom w ↦
          rw w.cells-is (record {
            so_far =
                done_more val_meet vs ws i _ _ w.meet_from.new.self _ _ refl c.index-others-i.is w.meet_from.ensures.value (omega arith) (omega arith) ∙
                c.loop-i.invariant.so_far;
            something =
                something_more vs i w.meet_from.new.self (omega arith) c.loop-i.invariant.something (sym w.is_bottom.ensures ∙ w.if-is_bottom.false);
            untouched = untouched_more vs c.args.cells.now i _ c.loop-i.invariant.untouched;
          })
      | else-not-leq w ↦
          rw w.cells-is (record {
            so_far =
                done_more val_meet vs ws i _ _ cell _ _ refl c.index-others-i.is
                (sym (val_meet_of_below cell c.index-others-i.result (sym c.leq.ensures ∙ w.if-not-leq.false))) (omega arith) (omega arith) ∙
                c.loop-i.invariant.so_far;
            something =
                something_more vs i cell (omega arith) c.loop-i.invariant.something
                (full_at vs c.args.cells.now i cell _ c.loop-i.invariant.untouched c.requires.something refl (omega arith));
            untouched = untouched_more vs c.args.cells.now i _ c.loop-i.invariant.untouched;
          })
    ]
