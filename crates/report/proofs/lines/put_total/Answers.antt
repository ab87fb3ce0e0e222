use Rattle.std.proofs.Common.{codes, ◌++◌}
use Rattle.report.specs.Report.{count_text}
use Rattle.report.proofs.Pieces.{glued, on_ok}
use Rattle.report.proofs.lines.put_total.Goals as goal

pub returns : goal.returns
returns c =
    let old = c.args.page.now.bytes.items in
    let conditions = count_text c.args.counts.conditions (codes " conditions, ") in
    let needless = count_text c.args.counts.needless (codes " needless, ") in
    let fail = count_text c.args.counts.open_checks (codes " open\n") in
    let first = glued old (codes "total ") conditions c.put.new.self.bytes.items c.put_count.new.page.bytes.items c.in_ok-put.ensures c.in_ok-put_count.ensures in
    let second = glued old (codes "total " ++ conditions) needless c.put_count.new.page.bytes.items c.put_count-2.new.page.bytes.items first c.in_ok-put_count-2.ensures in
    on_ok c.put_count-3.result (glued old (codes "total " ++ conditions ++ needless) fail c.put_count-2.new.page.bytes.items c.put_count-3.new.page.bytes.items second) c.put_count-3.ensures
