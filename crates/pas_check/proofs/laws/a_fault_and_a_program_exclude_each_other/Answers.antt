use Rattle.pas_check.proofs.OneAnswer.{fault_or_program}
use Rattle.pas_check.proofs.laws.a_fault_and_a_program_exclude_each_other.Goals as goal

pub returns : goal.returns
returns c = fault_or_program
