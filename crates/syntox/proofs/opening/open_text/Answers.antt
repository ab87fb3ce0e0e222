use Rattle.std.proofs.Common.{◌≡◌, subst}
use Rattle.report.specs.Wording.{fault_line}
use Rattle.syntox.proofs.Owed.{as_due}
use Rattle.syntox.specs.Files.{IsSource, IsUnopened}
use Rattle.syntox.specs.Files as opening
use Rattle.syntox.specs.Source.{Refuses}
use Rattle.syntox.specs.declared.due.Stream.TheVariants.{Complaints}
use Rattle.syntox.specs.declared.status.Status.TheVariants.{Refused}
use Rattle.syntox.proofs.opening.open_text.Goals as goal

pub returns-in-Err-Fault : goal.returns-in-Err-Fault
returns-in-Err-Fault c told before after read =
    let file = c.args.file.now in
    let text = c.args.text.items in
    let line = c.in_ok-due-in-Err-Fault in
    let source : IsSource told text = record { of_file = read; within = c.requires } in
    as_due (IsUnopened file told before after) Complaints (fault_line file text c.in-Err-Fault.fault) Refused line.due
    (opening.faulty (opening.of_source source (subst (Refuses text) c.in-Err-Fault.field-0-is (subst (λ t. Refuses t c.in-Err-Fault.field-0) c.deref.ensures.value c.in-Err-Fault.ensures.fault))))
    line.ensures.stream (subst (λ t. line.due.text.items ≡ fault_line file t c.in-Err-Fault.fault) c.deref-in-Err-Fault.ensures.value line.ensures.text) line.ensures.status
