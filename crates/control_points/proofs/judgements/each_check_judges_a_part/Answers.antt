use Rattle.control_points.proofs.JudgedParts.{act_faults}
use Rattle.control_points.proofs.judgements.each_check_judges_a_part.Goals as goal

pub returns : goal.returns
returns _ c at a = act_faults c at a
