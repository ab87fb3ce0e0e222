use Rattle.std.proofs.Common.{◌+◌, List, set, drop, arith, refl, sym, subst, ◌∙◌, IsTrue}
use Rattle.std.proofs.lemmas.Bool.{OnTrue_at, OnFalse_at}
use Rattle.interval.specs.declared.val.Val.{Val}
use Rattle.interval.specs.Values.{val_narrow}
use Rattle.environment.specs.Pointwise.{each_within}
use Rattle.environment.specs.Environments.{has_empty_cell}
use Rattle.environment.proofs.Progress.{done_within_more, untouched_more, flag_raised, flag_kept, emptied, something_more, full_at}
use Rattle.environment.proofs.passes.narrow_cells.Goals as goal
use Rattle.environment.proofs.passes.narrow_cells.Goals.{then-narrow_from+else-is_bottom, else-narrow_from}

pub returns-then-is_bottom-clause-emptied : goal.returns-then-is_bottom-clause-emptied
returns-then-is_bottom-clause-emptied c =
    let ls : List Val = c.args.limits.now in
    let cells : List Val = set c.loop-i.cells c.loop-i.i c.narrow_from.new.self in
    let P : List Val → Type 0 = λ xs. IsTrue (has_empty_cell xs) in
    let so_far =
    done_within_more val_narrow c.loop-i.cells c.args.others.now ls c.loop-i.i _ _ _ c.narrow_from.new.self _ _ _
    refl c.index-others-i.is c.index-limits-i.is c.narrow_from.ensures.value (omega arith) (omega arith)
    (omega arith) ∙ c.loop-i.invariant.so_far in
    let found : P (each_within val_narrow c.args.cells.now c.args.others.now ls) =
    subst P so_far
    (emptied c.loop-i.cells (each_within val_narrow (drop (c.loop-i.i + 1) cells) (drop (c.loop-i.i + 1) c.args.others.now) (drop (c.loop-i.i + 1) ls))
    c.loop-i.i c.narrow_from.new.self (omega arith) (sym c.is_bottom.ensures ∙ c.if-is_bottom.true)) in
    (λ _. found, λ _. refl)

pub loop-i-preserved : goal.loop-i-preserved
loop-i-preserved c =
    let vs : List Val = c.loop-i.cells in
    let ws : List Val = c.args.others.now in
    let ls : List Val = c.args.limits.now in
    let i = c.loop-i.i in
    let y : Val = c.narrow_from.new.self in
    let so_far =
    done_within_more val_narrow vs ws ls i _ _ _ y _ _ _ refl c.index-others-i.is c.index-limits-i.is c.narrow_from.ensures.value (omega arith) (omega arith) (omega arith) ∙
    c.loop-i.invariant.so_far in
    elim c.if-narrow_from.branch [
      | then-narrow_from+else-is_bottom w ↦
          rw w.cells-is (record {
            so_far = so_far;
            something = something_more vs i y (omega arith) c.loop-i.invariant.something (sym w.is_bottom.ensures ∙ w.if-is_bottom.false);
            untouched = untouched_more vs c.args.cells.now i _ c.loop-i.invariant.untouched;
            flag =
                flag_raised _ vs c.args.cells.now i _ _ w.changed-is c.loop-i.invariant.untouched (omega arith)
                (OnTrue_at w.if-narrow_from.true c.narrow_from.ensures.changed);
          })
      | else-narrow_from w ↦
          let same = OnFalse_at w.if-narrow_from.false c.narrow_from.ensures.same in
          rw w.cells-is (record {
            so_far = so_far;
            something =
                something_more vs i y (omega arith) c.loop-i.invariant.something
                (full_at vs c.args.cells.now i y _ c.loop-i.invariant.untouched c.requires.something same (omega arith));
            untouched = untouched_more vs c.args.cells.now i _ c.loop-i.invariant.untouched;
            flag = flag_kept _ _ vs c.args.cells.now i _ _ w.changed-is same c.loop-i.invariant.flag;
          })
    ]
