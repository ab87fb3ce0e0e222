use Rattle.std.proofs.Common.{◌∙◌, rules}
use Rattle.pas_check.specs.Blocks.{Standing, opened_by, standing, waiting_of, waits_for}
use Rattle.pas_check.specs.Sight.{sight}
use Rattle.pas_check.specs.Stage.{Stage, stage}
use Rattle.pas_check.specs.declared.heading.Opened.{Opened}
use Rattle.pas_check.proofs.Blocks.{gives_by}
use Rattle.pas_check.proofs.Passing.{gives_wrong}
use Rattle.pas_check.proofs.Routines.{at_hand, heading_fails, heading_opens, repeated_fails, repeated_opens, where_spelled}
use Rattle.pas_check.proofs.checker.Checker.opened.Goals as goal

pub returns-in_err-repeated_heading-in-Some : goal.returns-in_err-repeated_heading-in-Some
unfolding sight
returns-in_err-repeated_heading-in-Some c =
    let now = standing (stage c.args.self.now) (waiting_of c.args.waiting.now) in record {
      value = at_hand now _
          (gives_wrong {B = Standing × Opened} _ (opened_by now c.args.routine.now c.args.block.now c.args.number (waits_for now c.args.routine.now)) c.from_residual-in_err-repeated_heading-in-Some.result c.in_err-repeated_heading-in-Some.field-0.0 (search rules) (λ own.
          repeated_fails now c.args.routine.now c.args.block.now c.args.number _ (where_spelled (sight c.args.self.now.seen) c.spell.new.self c.args.self.now.made c.in_ok-spell.ensures.kept) c.as_slice.result.now (c.as_slice.ensures.value ∙ c.in_ok-spell.ensures.name) c.in-Some.opened c.in-Some.ensures.taken c.in_err-repeated_heading-in-Some.field-0.0 (c.in_err-repeated_heading-in-Some.ensures.value own)));
    }

pub returns-in_ok-repeated_heading-in-Some : goal.returns-in_ok-repeated_heading-in-Some
unfolding sight
returns-in_ok-repeated_heading-in-Some c =
    let now = standing (stage c.args.self.now) (waiting_of c.args.waiting.now) in record {
      value = at_hand now _
          (repeated_opens now c.args.routine.now c.args.block.now c.args.number _ (where_spelled (sight c.args.self.now.seen) c.spell.new.self c.args.self.now.made c.in_ok-spell.ensures.kept) c.as_slice.result.now (c.as_slice.ensures.value ∙ c.in_ok-spell.ensures.name) c.in-Some.opened c.in-Some.ensures.taken (waiting_of c.take.new.self) c.in_ok-repeated_heading-in-Some.ensures.value c.in-Some.ensures.left);
    }

pub returns-in-None : goal.returns-in-None
unfolding sight
returns-in-None c =
    let now = standing (stage c.args.self.now) (waiting_of c.args.waiting.now) in
    let kept = where_spelled (sight c.args.self.now.seen) c.spell.new.self c.args.self.now.made c.in_ok-spell.ensures.kept in
    let spelled = c.as_slice.ensures.value ∙ c.in_ok-spell.ensures.name in
    let x : Stage = record { seen = sight c.args.self.now.seen; built = c.spell.new.self.built } in record {
      value = at_hand now _
          (gives_by _ _ _ (opened_by now c.args.routine.now c.args.block.now c.args.number (waits_for now c.args.routine.now)) c.heading.result
          (λ o is. heading_opens now c.args.routine.now c.args.block.now c.args.number x kept c.as_slice.result.now spelled c.in-None.ensures.taken (waiting_of c.take.new.self) (stage c.heading.new.self, o) c.in-None.ensures.left is)
          (λ e is. heading_fails now c.args.routine.now c.args.block.now c.args.number x kept c.as_slice.result.now spelled c.in-None.ensures.taken e is)
          c.heading.ensures.value);
    }
