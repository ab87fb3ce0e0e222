use Rattle.std.proofs.Common.{rules, to_z-of_z}
use Rattle.interval_back.proofs.signs.of_parity.Goals as goal

pub returns-then-w : goal.returns-then-w
returns-then-w c = search (rules, to_z-of_z, c.trimmed.ensures)
