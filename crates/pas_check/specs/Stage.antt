-- Where the walk stands: what a test sees there, and what is built so far.
use Rattle.pas_check.specs.declared.built.Built.{Built}
use Rattle.pas_check.specs.declared.checker.Checker.{Checker}
use Rattle.pas_check.specs.Sight.{Sight, sight}

pub record Stage : Type 0 where
  pub seen : Sight
  pub built : Built

abbrev pub stage : Checker → Stage
stage c = record { seen = sight c.seen; built = c.made.built }
