use Rattle.std.proofs.Common.{◌≡◌, ◌∙◌, ◌+◌, Err, Ok, arith, length, refl, rules}
use Rattle.pas_tree.specs.declared.block.RoutineBody.TheViews.{out-Block}
use Rattle.pas_check.specs.Block.{ends_of}
use Rattle.pas_check.specs.Blocks.{BlockMay, EndMay, RoutineMay, RoutinesMay, Standing, in_block, is_word, not_begun, not_opened, planned, planned_with, standing, waiting_of, whole_block}
use Rattle.pas_check.specs.Sight.{sight}
use Rattle.pas_check.specs.Stage.{Stage, stage}
use Rattle.pas_check.proofs.Blocks.{block_in_routines, block_to_end, meets_all, meets_by, meets_given}
use Rattle.pas_check.proofs.Declarations.{meets_wrong}
use Rattle.pas_check.proofs.Routines.{lacking_theirs, no_plan, opened_as, plans_go, plans_theirs, routines_end, routines_go, routines_stop}
use Rattle.pas_check.proofs.checker.Checker.+block.Goals as goal

pub block-returns-in_err-outer : goal.block-returns-in_err-outer
block-returns-in_err-outer t c = record {
  value = meets_wrong {B = Stage} _ (BlockMay (stage c.args.self.now) c.args.opened c.args.block.now) c.from_residual.result c.in_err-outer.field-0.0 (search rules) (λ own. not_begun (c.in_err-outer.ensures.value own));
}

pub block-returns-in_err-routine_part : goal.block-returns-in_err-routine_part
block-returns-in_err-routine_part t c =
    let before = c.begin.new.self in
    let routines = c.as_slice-routines.result.now in
    let first = c.in-Ok.first in
    let so_many : first ≡ length before.made.built.routines = c.in-Ok.ensures.1 ∙ c.len.ensures in
    let plans = plans_theirs before.seen routines first c.in_ok-plans.plans.list.items c.in_ok-plans.ensures.plans in record {
      value = meets_wrong {B = Stage} _ (BlockMay (stage c.args.self.now) c.args.opened c.args.block.now) c.from_residual-in_err-routine_part.result c.in_err-routine_part.field-0.0 (search rules) (λ own.
          block_in_routines (stage c.args.self.now) (stage before) c.args.opened c.args.block.now c.in_ok-outer.ensures.value routines c.as_slice-routines.ensures first so_many (waiting_of c.new-waiting.result) c.new-waiting.ensures c.in_err-routine_part.field-0.0 (c.in_err-routine_part.ensures.value first plans own));
    }

pub block-returns : goal.block-returns
block-returns t c =
    let s = stage c.args.self.now in
    let before = c.begin.new.self in
    let text = (sight before.seen).text in
    let routines = c.as_slice-routines.result.now in
    let first = c.in-Ok.first in
    let so_many : first ≡ length before.made.built.routines = c.in-Ok.ensures.1 ∙ c.len.ensures in
    let plans = plans_theirs before.seen routines first c.in_ok-plans.plans.list.items c.in_ok-plans.ensures.plans in
    let lacking = lacking_theirs before.seen routines (out-Block c.args.block.now).routines c.as_slice-routines.ensures c.in_ok-plans.plans.lacking c.in_ok-plans.ensures.lacking in
    let end = standing (stage c.routine_part.new.self) (waiting_of c.routine_part.new.waiting) in record {
      value = meets_all _ (EndMay s c.args.opened c.args.block.now text end.at) (BlockMay s c.args.opened c.args.block.now) c.end.result
          (λ o is. block_to_end s (stage before) c.args.opened c.args.block.now c.in_ok-outer.ensures.value routines c.as_slice-routines.ensures first so_many (waiting_of c.new-waiting.result) c.new-waiting.ensures end o (c.in_ok-routine_part.ensures.value first plans) is)
          (c.end.ensures.value s c.args.opened text c.in_ok-outer.ensures.outer refl lacking);
    }

pub routine-returns-in_err-opened-in-Block : goal.routine-returns-in_err-opened-in-Block
routine-returns-in_err-opened-in-Block t c =
    let s = standing (stage c.args.self.now) (waiting_of c.args.waiting.now) in
    let p = planned_with c.args.routine.now c.args.plan in record {
      value = meets_wrong {B = Standing} _ (RoutineMay s p) c.from_residual.result c.in_err-opened-in-Block.field-0.0 (search rules) (λ own. not_opened c.in-Block.block c.in-Block.is (opened_as s p c.in-Block.block (Err c.in_err-opened-in-Block.field-0.0) (c.in_err-opened-in-Block.ensures.value s refl own)));
    }

pub routine-returns-in-Word : goal.routine-returns-in-Word
routine-returns-in-Word t c =
    let s = standing (stage c.args.self.now) (waiting_of c.args.waiting.now) in
    let p = planned_with c.args.routine.now c.args.plan in record {
      value = meets_given _ _ (RoutineMay s p) c.forward.result (λ o is. is_word c.in-Word.word c.in-Word.is is) c.forward.ensures.value;
    }

pub routine-returns-in_ok-opened-in-Block : goal.routine-returns-in_ok-opened-in-Block
routine-returns-in_ok-opened-in-Block t c =
    let s = standing (stage c.args.self.now) (waiting_of c.args.waiting.now) in
    let now = standing (stage c.opened.new.self) (waiting_of c.opened.new.waiting) in
    let p = planned_with c.args.routine.now c.args.plan in
    let is = opened_as s p c.in-Block.block (Ok (now, c.in_ok-opened-in-Block.opened)) (c.in_ok-opened-in-Block.ensures.value s refl) in record {
      value = meets_by _ (BlockMay (stage c.opened.new.self) c.in_ok-opened-in-Block.opened c.in-Block.block) _ (RoutineMay s p) c.block.result
          (λ a now. whole_block c.in-Block.block c.in-Block.is is now)
          (λ e now. in_block c.in-Block.block c.in-Block.is is now)
          c.block.ensures.value;
    }

pub routine_part-returns-in_default : goal.routine_part-returns-in_default
routine_part-returns-in_default t c = record {
  value = λ first same.
      let left = c.loop-routine.invariant first same in
      absurd (no_plan (sight c.args.self.now.seen).text left.0 c.args.routines.now c.loop-routine.routine-index c.routine-item.result c.loop-routine-test.true c.routine-item.is c.loop-routine.plans.items (omega (arith, c.loop-routine.plans.ok.0, c.in_default.ensures.cases.0)) left.1);
}

pub routine_part-returns-in_err-routine : goal.routine_part-returns-in_err-routine
routine_part-returns-in_err-routine t c = record {
  value = λ first same.
      let left = c.loop-routine.invariant first same in
      meets_wrong (λ (u : Unit {0}). standing (stage c.routine.new.self) (waiting_of c.routine.new.waiting)) (RoutinesMay (standing (stage c.args.self.now) (waiting_of c.args.waiting.now)) (planned (sight c.args.self.now.seen).text first c.args.routines.now)) c.from_residual.result c.in_err-routine.field-0.0 (search rules) (λ own.
      left.2 (Err c.in_err-routine.field-0.0) (routines_stop (sight c.args.self.now.seen).text left.0 c.args.routines.now c.loop-routine.routine-index c.routine-item.result c.loop-routine-test.true c.routine-item.is c.loop-routine.plans.items c.pop.new.self.items c.in-Some.plan c.in-Some.ensures.items left.1 (standing (stage c.loop-routine.self) (waiting_of c.loop-routine.waiting)) c.in_err-routine.field-0.0 (c.in_err-routine.ensures.value own)));
}

pub routine_part-loop-routine-preserved : goal.routine_part-loop-routine-preserved
routine_part-loop-routine-preserved t c = λ first same.
    let left = c.loop-routine.invariant first same in (
      left.0 + ends_of c.routine-item.result,
      plans_go (sight c.args.self.now.seen).text left.0 c.args.routines.now c.loop-routine.routine-index c.routine-item.result c.loop-routine-test.true c.routine-item.is c.loop-routine.plans.items c.pop.new.self.items c.in-Some.plan c.in-Some.ensures.items left.1,
      λ o rest. left.2 o (routines_go (sight c.args.self.now.seen).text left.0 c.args.routines.now c.loop-routine.routine-index c.routine-item.result c.loop-routine-test.true c.routine-item.is c.loop-routine.plans.items c.pop.new.self.items c.in-Some.plan c.in-Some.ensures.items left.1 (standing (stage c.loop-routine.self) (waiting_of c.loop-routine.waiting)) (standing (stage c.routine.new.self) (waiting_of c.routine.new.waiting)) o c.in_ok-routine.ensures.value rest),
    )

pub routine_part-returns : goal.routine_part-returns
routine_part-returns t c =
    let now = standing (stage c.loop-routine.self) (waiting_of c.loop-routine.waiting) in record {
      value = λ first same.
          let left = c.loop-routine.invariant first same in
          left.2 (Ok now) (routines_end (sight c.args.self.now.seen).text left.0 c.args.routines.now c.loop-routine.routine-index now c.loop-routine-test.false);
    }
