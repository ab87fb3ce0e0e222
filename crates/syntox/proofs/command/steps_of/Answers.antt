use Rattle.std.proofs.Common.{sym, ◌∙◌}
use Rattle.syntox.proofs.Steps.{no_number, taken, too_high, too_low}
use Rattle.syntox.proofs.command.steps_of.Goals as goal

pub returns-in-Ok : goal.returns-in-Ok
returns-in-Ok c =
    taken c.args.word.now c.parse.result c.parse.ensures.value.0 (sym c.has_digits_alone.ensures ∙ c.if-not-has_digits_alone.false) c.in-Ok.steps c.in-Ok.is c.if-steps-gt0.true c.if-steps-le-MAX_STEPS.true

pub returns-in_default : goal.returns-in_default
returns-in_default c =
    too_high c.args.word.now c.parse.result c.parse.ensures.value.0 (sym c.has_digits_alone.ensures ∙ c.if-not-has_digits_alone.false) c.in-Ok.steps c.in-Ok.is c.if-steps-le-MAX_STEPS.false

pub returns-in_default-2 : goal.returns-in_default-2
returns-in_default-2 c =
    too_low c.args.word.now c.parse.result c.parse.ensures.value.0 (sym c.has_digits_alone.ensures ∙ c.if-not-has_digits_alone.false) c.in-Ok.steps c.in-Ok.is c.if-steps-gt0.false

pub returns-in_default-3 : goal.returns-in_default-3
returns-in_default-3 c =
    no_number c.args.word.now c.parse.result c.parse.ensures.value.0 (sym c.has_digits_alone.ensures ∙ c.if-not-has_digits_alone.false) c.in_default.field-0 c.in_default.is
