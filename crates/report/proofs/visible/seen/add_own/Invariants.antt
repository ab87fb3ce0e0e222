use Rattle.std.proofs.Common.{◌≡◌, ◌++◌, take}
use Rattle.std.specs.List.{filter, slice_get}
use Rattle.pas_program.specs.declared.variable.VarDef.{VarDef}
use Rattle.pas_program.specs.Tables.{holds_of}
use Rattle.report.specs.Visible.{has_name}
use Rattle.report.proofs.visible.seen.add_own.Given as goal

abbrev pub invariant-loop-var : goal.invariant-loop-var
invariant-loop-var l =
    l.vars.items ≡ l.initial.vars.items ++ filter (λ v. holds_of (λ (d : VarDef). has_name d.kind) (slice_get l.program.vars v)) (take l.var-index l.var-items)
