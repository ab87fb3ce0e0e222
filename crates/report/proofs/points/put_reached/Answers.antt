use Rattle.std.proofs.Common.{codes, ◌∙◌, ◌++◌, Bool, sym, ap}
use Rattle.std.specs.Prelude.{if◌then◌else◌}
use Rattle.std.specs.List.{flat_map}
use Rattle.transfer_fwd.specs.Systems.{environments}
use Rattle.report.specs.Report.{variable_line}
use Rattle.report.proofs.Pieces.{glued, on_ok}
use Rattle.report.proofs.points.put_reached.Goals as goal

pub returns-then-not-is_reached : goal.returns-then-not-is_reached
returns-then-not-is_reached c =
    let lines = codes "\n" ++ flat_map (variable_line c.args.source.now.text.now c.args.source.now.flow.now c.args.nodes.now.graph.now (environments c.args.way.now) c.args.point) c.args.vars.now in
    let reached = sym c.is_reached.ensures ∙ c.if-not-is_reached.true in
    on_ok c.put.result
    (λ h. h ∙ ap (λ (b : Bool). c.args.page.now.bytes.items ++ (if b then lines else codes " not on the way\n")) (sym reached))
    c.put.ensures

pub returns : goal.returns
returns c =
    let old = c.args.page.now.bytes.items in
    let variables = flat_map (variable_line c.args.source.now.text.now c.args.source.now.flow.now c.args.nodes.now.graph.now (environments c.args.way.now) c.args.point) c.args.vars.now in
    let reached = sym c.is_reached.ensures ∙ c.if-not-is_reached.false in
    on_ok c.put_variables.result
    (λ h. glued old (codes "\n") variables c.put-2.new.self.bytes.items c.put_variables.new.page.bytes.items c.in_ok-put.ensures h
    ∙ ap (λ (b : Bool). old ++ (if b then codes "\n" ++ variables else codes " not on the way\n")) (sym reached))
    c.put_variables.ensures
