use Rattle.std.proofs.Common.{◌≡◌, ◌∙◌, Err, Ok, false, rules, true}
use Rattle.pas_check.specs.declared.heading.Opened.{Opened}
use Rattle.pas_check.specs.Blocks.{Standing, is_forward, planned_with, standing, waiting_of}
use Rattle.pas_check.specs.Sight.{sight}
use Rattle.pas_check.specs.Stage.{Stage, stage}
use Rattle.pas_check.proofs.Passing.{gives_wrong}
use Rattle.pas_check.proofs.Routines.{forward_by, forward_is, where_spelled, word_refused, word_waits}
use Rattle.pas_check.proofs.checker.Checker.forward.Goals as goal

pub returns-in_err-opened : goal.returns-in_err-opened
returns-in_err-opened c =
    let s = standing (stage c.args.self.now) (waiting_of c.args.waiting.now) in
    let p = planned_with c.args.routine.now c.args.plan in record {
      value = gives_wrong {B = Standing} _ _ c.from_residual.result c.in_err-opened.field-0.0 (search rules) (λ own. forward_by s p c.args.word (Err c.in_err-opened.field-0.0) (c.in_err-opened.ensures.value own));
    }

pub returns-then-not-eq_ignore_ascii_case : goal.returns-then-not-eq_ignore_ascii_case
unfolding sight
returns-then-not-eq_ignore_ascii_case c =
    let s = standing (stage c.args.self.now) (waiting_of c.args.waiting.now) in
    let p = planned_with c.args.routine.now c.args.plan in
    let h : Stage × Opened = (stage c.heading.new.self, c.in_ok-opened.opened) in
    let other : is_forward (sight c.heading.new.self.seen).text c.args.word ≡ false = forward_is (sight c.heading.new.self.seen).text c.args.word c.spelling.result.now c.eq_ignore_ascii_case.result c.spelling.ensures c.eq_ignore_ascii_case.ensures.test ∙ c.if-not-eq_ignore_ascii_case.true in record {
      value = λ own. forward_by s p c.args.word (Ok h) c.in_ok-opened.ensures.value ∙ word_refused s c.args.routine.now c.args.word h c.broken.result other c.broken.ensures;
    }

pub returns-in-Ok : goal.returns-in-Ok
unfolding sight
returns-in-Ok c =
    let s = standing (stage c.args.self.now) (waiting_of c.args.waiting.now) in
    let p = planned_with c.args.routine.now c.args.plan in
    let h : Stage × Opened = (stage c.heading.new.self, c.in_ok-opened.opened) in
    let right : is_forward (sight c.heading.new.self.seen).text c.args.word ≡ true = forward_is (sight c.heading.new.self.seen).text c.args.word c.spelling.result.now c.eq_ignore_ascii_case.result c.spelling.ensures c.eq_ignore_ascii_case.ensures.test ∙ c.if-not-eq_ignore_ascii_case.false in record {
      value = forward_by s p c.args.word (Ok h) c.in_ok-opened.ensures.value
          ∙ word_waits s c.args.routine.now c.args.word h _ (waiting_of c.add.new.self) c.as_slice.result.now (where_spelled (sight c.heading.new.self.seen) c.spell.new.self c.heading.new.self.made c.in_ok-spell.ensures.kept) right (c.as_slice.ensures.value ∙ c.in_ok-spell.ensures.name) c.in-Ok.ensures;
    }
