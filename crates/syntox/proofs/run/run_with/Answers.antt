use Rattle.std.proofs.Common.{ap, ◌∙◌, codes, Err}
use Rattle.syntox.proofs.Owed.{failed, lined, ran_on_input}
use Rattle.syntox.specs.Lines.{large_input_line, unreadable_line}
use Rattle.syntox.specs.Lines as lines
use Rattle.syntox.specs.Running.{IsRunDue, input_of}
use Rattle.syntox.specs.Running as running
use Rattle.syntox.specs.declared.status.Status.TheVariants.{DataTooLarge, ReadFault}
use Rattle.syntox.proofs.run.run_with.Goals as goal

pub returns-in-Ok : goal.returns-in-Ok
returns-in-Ok g c told has =
    ran_on_input told c.deref.result.now c.args.steps
    (input_of (g.D.Source.left c.args.given.now) (g.D.Source.faults c.args.given.now) (g.D.Source.faults c.read_all.new.source))
    c.run_on.result (λ known e. c.deref.ensures.value ∙ c.in-Ok.ensures.bytes known e) c.run_on.ensures.stream (c.run_on.ensures.run told has)

pub returns-in-Err-TooLarge : goal.returns-in-Err-TooLarge
returns-in-Err-TooLarge g c told has =
    lined (IsRunDue told (input_of (g.D.Source.left c.args.given.now) (g.D.Source.faults c.args.given.now) (g.D.Source.faults c.read_all.new.source)) c.args.steps)
    large_input_line DataTooLarge c.line.result
    (running.large (c.args.text.now, c.args.flow.now, has) (c.in-Err-TooLarge.ensures.too_large (ap Err c.in-Err-TooLarge.field-0-is)))
    c.line.ensures.stream c.line.ensures.text c.line.ensures.status

pub returns-in-Err-Failed : goal.returns-in-Err-Failed
returns-in-Err-Failed g c told has =
    lined (IsRunDue told (input_of (g.D.Source.left c.args.given.now) (g.D.Source.faults c.args.given.now) (g.D.Source.faults c.read_all.new.source)) c.args.steps)
    (unreadable_line (codes "input")) ReadFault c.unreadable.result
    (running.unread (c.args.text.now, c.args.flow.now, has)
    (lines.unreadable (failed _ _ c.in-Err-Failed.field-0 c.in-Err-Failed.field-0-is c.in-Err-Failed.ensures.cause)))
    c.unreadable.ensures.stream c.unreadable.ensures.text c.unreadable.ensures.status
