use Rattle.std.proofs.Common.{◌≡◌, List, length, arith, refl, sym, ◌∙◌, IsTrue}
use Rattle.std.proofs.lemmas.Bool.{OnTrue_at, OnFalse_at}
use Rattle.interval.specs.Values.{val_widen}
use Rattle.interval.specs.declared.val.Val.{Val}
use Rattle.environment.specs.Pointwise.{each_below}
use Rattle.environment.specs.CellLaws.{length_below}
use Rattle.environment.proofs.Progress.{below_at, done_within_more, untouched_more, flag_raised, flag_kept}
use Rattle.environment.proofs.passes.widen_cells.Goals as goal
use Rattle.environment.proofs.passes.widen_cells.Goals.{then-widen_from, else-widen_from}

-- the three lists are as long
as_limits : (vs us ls : List Val) → IsTrue (each_below vs ls) → IsTrue (each_below us ls) → length us ≡ length vs
as_limits vs us ls h k = length_below us ls k ∙ sym (length_below vs ls h)

pub bounds-others-i : goal.bounds-others-i
bounds-others-i c =
    omega (arith, as_limits c.args.cells.now c.args.others.now c.args.limits.now c.requires.within c.requires.others_within)

pub bounds-limits-i : goal.bounds-limits-i
bounds-limits-i c = omega (arith, length_below c.args.cells.now c.args.limits.now c.requires.within)

pub widen_from-requires-clause-within : goal.widen_from-requires-clause-within
widen_from-requires-clause-within c =
    below_at c.loop-i.cells c.args.cells.now c.args.limits.now c.loop-i.i _ _ _ _ c.loop-i.invariant.untouched c.requires.within refl c.index-limits-i.is (omega arith)
    (omega (arith, length_below c.args.cells.now c.args.limits.now c.requires.within))

pub widen_from-requires-clause-y_within : goal.widen_from-requires-clause-y_within
widen_from-requires-clause-y_within c =
    below_at c.args.others.now c.args.others.now c.args.limits.now c.loop-i.i _ _ _ _ refl c.requires.others_within c.index-others-i.is c.index-limits-i.is
    (omega (arith, as_limits c.args.cells.now c.args.others.now c.args.limits.now c.requires.within c.requires.others_within))
    (omega (arith, length_below c.args.cells.now c.args.limits.now c.requires.within))

pub loop-i-preserved : goal.loop-i-preserved
loop-i-preserved c = record {
  so_far =
      done_within_more (val_widen c.args.steps.now) c.loop-i.cells c.args.others.now c.args.limits.now c.loop-i.i _ _ _ _ _ _ _ refl c.index-others-i.is c.index-limits-i.is c.widen_from.ensures.value (omega arith)
      (omega (arith, as_limits c.args.cells.now c.args.others.now c.args.limits.now c.requires.within c.requires.others_within))
      (omega (arith, length_below c.args.cells.now c.args.limits.now c.requires.within)) ∙
      c.loop-i.invariant.so_far;
  untouched = untouched_more c.loop-i.cells c.args.cells.now c.loop-i.i _ c.loop-i.invariant.untouched;
  flag = elim c.if-widen_from.branch [
    | then-widen_from w ↦
        flag_raised _ c.loop-i.cells c.args.cells.now c.loop-i.i _ _ w.changed-is c.loop-i.invariant.untouched (omega arith)
        (OnTrue_at w.if-widen_from.true c.widen_from.ensures.changed)
    | else-widen_from w ↦
        flag_kept _ _ c.loop-i.cells c.args.cells.now c.loop-i.i _ _ w.changed-is
        (OnFalse_at w.if-widen_from.false c.widen_from.ensures.same) c.loop-i.invariant.flag
  ];
}
