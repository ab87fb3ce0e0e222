use Rattle.std.proofs.Common.{◌≡◌, map, take}
use Rattle.pas_check.specs.Names.{name_at}
use Rattle.report.specs.Visible.{Text, name_of}
use Rattle.report.proofs.visible.seen.declarations.Given as goal

abbrev pub invariant-loop-var : goal.invariant-loop-var
invariant-loop-var l = (text : Text) → map (name_at text) l.spans.items ≡ map (name_of text l.program) (take l.var-index l.var-items)
