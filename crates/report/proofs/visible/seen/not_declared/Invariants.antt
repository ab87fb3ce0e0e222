use Rattle.std.proofs.Common.{◌≡◌, not, take}
use Rattle.std.specs.List.{filter}
use Rattle.report.specs.Visible.{is_declared}
use Rattle.report.proofs.visible.seen.not_declared.Given as goal

abbrev pub invariant-loop-var : goal.invariant-loop-var
invariant-loop-var l = l.vars.items ≡ filter (λ v. not (is_declared l.text l.program l.routine v)) (take l.var-index l.around)
