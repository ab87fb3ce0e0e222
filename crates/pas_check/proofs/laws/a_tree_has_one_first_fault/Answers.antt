use Rattle.pas_check.proofs.OneAnswer.{one_place, one_rule}
use Rattle.pas_check.proofs.laws.a_tree_has_one_first_fault.Goals as goal

pub returns : goal.returns
returns c = record { rule = one_rule; place = one_place }
