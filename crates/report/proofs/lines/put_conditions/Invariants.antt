use Rattle.std.proofs.Common.{◌≡◌, ◌++◌, take}
use Rattle.std.specs.List.{flat_map}
use Rattle.report.specs.Report.{condition_line}
use Rattle.report.proofs.lines.put_conditions.Given as goal

abbrev pub invariant-loop-condition : goal.invariant-loop-condition
invariant-loop-condition l =
    l.page.bytes.items ≡ l.initial.page.bytes.items ++ flat_map (condition_line l.source.text.now l.source.flow.now) (take l.condition-index l.conditions)
