use Rattle.pas_check.proofs.OneAnswer.{one_answer}
use Rattle.pas_check.proofs.laws.a_tree_has_one_answer.Goals as goal

pub returns : goal.returns
returns c = one_answer
