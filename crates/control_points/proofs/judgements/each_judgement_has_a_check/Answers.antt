use Rattle.control_points.proofs.JudgedNumbers.{check_of_judgement}
use Rattle.control_points.proofs.judgements.each_judgement_has_a_check.Goals as goal

pub returns : goal.returns
returns _ f p i j h known = check_of_judgement f p i j h known
