use Rattle.std.proofs.Common.{◌≡◌, ◌++◌, take}
use Rattle.std.specs.List.{flat_map}
use Rattle.transfer_fwd.specs.Systems.{environments}
use Rattle.report.specs.Report.{variable_line}
use Rattle.report.proofs.points.put_variables.Given as goal

abbrev pub invariant-loop-var : goal.invariant-loop-var
invariant-loop-var l =
    l.page.bytes.items ≡ l.initial.page.bytes.items ++ flat_map (variable_line l.source.text.now l.source.flow.now l.nodes.graph.now (environments l.way) l.point) (take l.var-index l.vars)
