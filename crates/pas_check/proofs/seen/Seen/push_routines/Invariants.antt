use Rattle.std.proofs.Common.{◌≡◌, ◌++◌, drop, map}
use Rattle.std.specs.Prelude.{flat_map}
use Rattle.pas_check.specs.Block.{routine_name}
use Rattle.pas_check.specs.Hiding.{if_declaring}
use Rattle.pas_check.proofs.seen.Seen.push_routines.Given as goal

abbrev pub invariant-loop-routine : goal.invariant-loop-routine
invariant-loop-routine l =
    l.names ++ flat_map (if_declaring l.self.text.now l.noted) (map routine_name (drop l.routine-index l.routines))
    ≡ l.initial.names ++ flat_map (if_declaring l.self.text.now l.noted) (map routine_name l.routines)
