use Rattle.control_points.proofs.ValidHalts.{halts_at_end}
use Rattle.control_points.proofs.laws.a_run_halts_at_its_exit_alone.Goals as goal

pub returns : goal.returns
returns _ c s w v = halts_at_end c w s v
