use Rattle.std.proofs.Common.{map, take}
use Rattle.pas_check.specs.Names.{name_at}
use Rattle.report.specs.Visible.{HasNames}
use Rattle.report.proofs.visible.seen.declared.Given as goal

abbrev pub invariant-loop-span : goal.invariant-loop-span
invariant-loop-span l = HasNames l.names (map (name_at l.text) (take l.span-index l.span-items))
