use Rattle.std.proofs.Common.{subst, refl}
use Rattle.syntox.proofs.Complete.{no_line, no_report}
use Rattle.syntox.specs.Files.{HasProgram}
use Rattle.syntox.proofs.analyse.a_report_and_a_refusal_exclude_each_other.Goals as goal

pub returns-clause-fault : goal.returns-clause-fault
returns-clause-fault c file bytes text line points report tells =
    let law = c.a_text_has_one_covering.ensures in
    let source = report.has_flow.source in
    let flow = report.has_flow.is_flow in
    let has : HasProgram report.source =
    record { within = source.within; tree = flow.tree; is_tree = flow.is_tree; program = report.flow.program; is_program = flow.is_program } in
    no_line law.tokens law.either c.a_fault_and_a_program_exclude_each_other.ensures file bytes (subst HasProgram (source.of_file.bytes bytes refl) has) line tells

pub returns-clause-cells : goal.returns-clause-cells
returns-clause-cells c file bytes text line points report tells =
    let law = c.a_text_has_one_covering.ensures in
    let one = c.a_tree_has_one_program.ensures in
    no_report law.tokens law.either (record { types = one.types; vars = one.vars; routines = one.routines; asserts = one.asserts }) file bytes text points report line tells
