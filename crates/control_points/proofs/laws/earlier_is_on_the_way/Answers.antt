use Rattle.std.proofs.Common.{arith}
use Rattle.control_points.proofs.laws.earlier_is_on_the_way.Goals as goal

pub returns : goal.returns
returns _ c items i j h w = record { met_later = λ a d k s. let m = w.met_later a d k s in (m.0, omega (arith, h, m.1), m.2) }
