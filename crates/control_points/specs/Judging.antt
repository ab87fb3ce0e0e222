-- The checks of a point: the errors that its action may be, each with the point.
use Rattle.std.specs.Prelude.{ℕ, List, map}
use Rattle.pas_program.specs.Checked.{tables}
use Rattle.pas_program.specs.Tables.{Tables}
use Rattle.control_points.specs.declared.check.Check.{Check}
use Rattle.control_points.specs.declared.fault.Fault.{Fault}
use Rattle.control_points.specs.declared.judging.Judge.{Judge}
use Rattle.control_points.specs.Checking.{Faults}

abbrev pub check_of : ℕ → Fault → Check
check_of point f = record { kind = f.kind; at = f.at; point = point }

abbrev pub checks_at : ℕ → Faults → List Check
checks_at point faults = map (check_of point) faults

abbrev pub known : Judge → Tables
known j = tables j.program.now

abbrev pub judged : Judge → Faults → List Check
judged j faults = checks_at j.point faults
