use Rattle.std.proofs.Common.{[], Err, ap}
use Rattle.report.specs.Wording.{fault_line}
use Rattle.report.specs.declared.fault.SourceFault.TheVariants.{TooLarge}
use Rattle.syntox.proofs.Owed.{as_due, failed}
use Rattle.syntox.specs.Files.{IsUnopened}
use Rattle.syntox.specs.Files as opening
use Rattle.syntox.specs.Lines.{unreadable_line}
use Rattle.syntox.specs.Lines as lines
use Rattle.syntox.specs.declared.due.Stream.TheVariants.{Complaints}
use Rattle.syntox.specs.declared.status.Status.TheVariants.{ReadFault, Refused}
use Rattle.syntox.proofs.opening.open_file.Goals as goal

pub returns-in-Ok-clause-opening : goal.returns-in-Ok-clause-opening
returns-in-Ok-clause-opening g c =
    c.open_text.ensures (g.P.Shelf.file c.args.shelf.now c.args.file.now) (g.P.Shelf.faults c.args.shelf.now) (g.P.Shelf.faults c.read_file.new.shelf) c.in-Ok.ensures.bytes

pub returns-in_ok-due-in-Err-TooLarge-clause-opening : goal.returns-in_ok-due-in-Err-TooLarge-clause-opening
returns-in_ok-due-in-Err-TooLarge-clause-opening g c =
    let file = c.args.file.now in
    let line = c.in_ok-due-in-Err-TooLarge in
    as_due (IsUnopened file (g.P.Shelf.file c.args.shelf.now file) (g.P.Shelf.faults c.args.shelf.now) (g.P.Shelf.faults c.read_file.new.shelf))
    Complaints (fault_line file [] TooLarge) Refused line.due
    (opening.faulty (opening.too_large (c.in-Err-TooLarge.ensures.too_large (ap Err c.in-Err-TooLarge.field-0-is))))
    line.ensures.stream line.ensures.text line.ensures.status

pub returns-in_ok-due-in-Err-Failed-clause-opening : goal.returns-in_ok-due-in-Err-Failed-clause-opening
returns-in_ok-due-in-Err-Failed-clause-opening g c =
    let file = c.args.file.now in
    let line = c.in_ok-due-in-Err-Failed in
    as_due (IsUnopened file (g.P.Shelf.file c.args.shelf.now file) (g.P.Shelf.faults c.args.shelf.now) (g.P.Shelf.faults c.read_file.new.shelf))
    Complaints (unreadable_line file) ReadFault line.due
    (opening.unread (lines.unreadable (failed _ _ c.in-Err-Failed.field-0 c.in-Err-Failed.field-0-is c.in-Err-Failed.ensures.cause)))
    line.ensures.stream line.ensures.text line.ensures.status
