use Rattle.std.proofs.Common.{subst, refl}
use Rattle.activations.specs.Drawn.{IsCause}
use Rattle.report.specs.Wording.{fault_line}
use Rattle.report.specs.declared.fault.SourceFault.TheVariants.{Cells}
use Rattle.syntox.proofs.Owed.{lined, reported}
use Rattle.syntox.specs.Analysis.{IsAnalysed, TellsCells}
use Rattle.syntox.specs.Analysis as analysis
use Rattle.syntox.specs.declared.status.Status.TheVariants.{Refused}
use Rattle.syntox.proofs.analyse.analyse_flow.Goals as goal

pub returns-in-Ok : goal.returns-in-Ok
returns-in-Ok c told has =
    reported c.args.file.now c.args.points told c.report_of.result c.report_of.ensures.stream (c.report_of.ensures.report told has) c.report_of.ensures.status

pub returns-in-Err-TooMany : goal.returns-in-Err-TooMany
returns-in-Err-TooMany c told has =
    let file = c.args.file.now in
    let text = c.args.text.now in
    let cells = c.in-Err-TooMany.cells in
    let cause = subst (IsCause c.args.flow.now) c.in-Err-TooMany.field-0-is c.in-Err-TooMany.ensures.cause in
    let tells : TellsCells file told (fault_line file text (Cells cells)) =
    record { source = text; flow = c.args.flow.now; has_flow = has; classes = cause.0; cells = cells; too_many = cause.1; is = refl } in
    lined (IsAnalysed file c.args.points told) (fault_line file text (Cells cells)) Refused c.refuse.result (analysis.large tells)
    c.refuse.ensures.stream c.refuse.ensures.text c.refuse.ensures.status
