use Rattle.control_points.proofs.ValidChoices.{no_action_is_case}
use Rattle.control_points.proofs.laws.only_a_case_may_have_no_action.Goals as goal

pub returns : goal.returns
returns _ c s w v halted h = no_action_is_case c w s v halted h
