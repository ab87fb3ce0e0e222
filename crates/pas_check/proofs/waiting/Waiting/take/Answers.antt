use Rattle.std.proofs.Common.{None, Some, is_some, if◌then◌else◌, Option, ap, sym, ◌∙◌}
use Rattle.pas_check.specs.declared.heading.Opened.{Opened}
use Rattle.pas_check.specs.Blocks.{waiting_of, waits}
use Rattle.pas_check.proofs.ByName.{not_same, same}
use Rattle.pas_check.proofs.Routines.{awaited_by, waiting_after}
use Rattle.pas_check.proofs.waiting.Waiting.take.Goals as goal

pub returns-in_err-get-clause-taken : goal.returns-in_err-get-clause-taken
returns-in_err-get-clause-taken c = c.from_residual.ensures ∙ sym (awaited_by c.args.function c.args.name.now c.args.self.now.opened.entries None c.in_err-get.ensures.value)

pub returns-then-branch-function-clause-taken : goal.returns-then-branch-function-clause-taken
returns-then-branch-function-clause-taken c = sym (awaited_by c.args.function c.args.name.now c.args.self.now.opened.entries (Some c.in_ok-get.field-0.now) c.in_ok-get.ensures.value ∙ not_same c.args.function c.in_ok-get.field-0.now.function (Some c.in_ok-get.field-0.now) None c.if-branch-function.true)

pub returns-clause-taken : goal.returns-clause-taken
returns-clause-taken c =
    c.swap_remove.ensures.value ∙ sym c.in_ok-get.ensures.value
    ∙ sym (awaited_by c.args.function c.args.name.now c.args.self.now.opened.entries (Some c.in_ok-get.field-0.now) c.in_ok-get.ensures.value ∙ same c.args.function c.in_ok-get.field-0.now.function (Some c.in_ok-get.field-0.now) None c.if-branch-function.false)

pub returns-clause-left : goal.returns-clause-left
returns-clause-left c =
    waiting_after c.args.name.now c.args.self.now.opened.entries c.swap_remove.new.self.entries None c.swap_remove.ensures.updates.1 c.swap_remove.ensures.updates.3
    ∙ ap (λ (o : Option Opened). if is_some o then waits (waiting_of c.args.self.now) c.args.name.now None else waiting_of c.args.self.now) (sym (c.swap_remove.ensures.value ∙ sym c.in_ok-get.ensures.value))
