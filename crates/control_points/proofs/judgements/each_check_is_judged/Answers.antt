use Rattle.control_points.proofs.JudgedNumbers.{judged_check}
use Rattle.control_points.proofs.judgements.each_check_is_judged.Goals as goal

pub returns : goal.returns
returns _ f k d h = judged_check f k d h
