use Rattle.std.proofs.Common.{◌≡◌, ◌++◌}
use Rattle.std.specs.Iterator.Adapters.{zip_first, zip_second}
use Rattle.std.specs.Slice.Iter.{iter_rest}
use Rattle.std.specs.List.{flat_map, zip}
use Rattle.report.specs.Report.{check_line}
use Rattle.report.proofs.lines.put_checks.Given as goal

-- what is written, and the checks that are left, make the whole
abbrev pub invariant-loop-check : goal.invariant-loop-check
invariant-loop-check l =
    l.page.bytes.items ++ flat_map (check_line l.source.text.now l.source.flow.now) (zip (iter_rest (zip_first l.check-iterator)) (iter_rest (zip_second l.check-iterator)))
    ≡ l.initial.page.bytes.items ++ flat_map (check_line l.source.text.now l.source.flow.now) (zip l.source.flow.now.checks l.may_fail)
