use Rattle.std.proofs.Common.{ap, codes, ◌∙◌, ◌++◌, List, ℕ}
use Rattle.control_points.specs.Chart.{place_of_point}
use Rattle.report.specs.Report.{demand_text, part_word, placed}
use Rattle.report.specs.Visible.{name_of}
use Rattle.report.proofs.Pieces.{glued, on_ok}
use Rattle.report.proofs.lines.put_condition.Goals as goal

pub returns : goal.returns
returns c =
    let text = c.args.source.now.text.now in
    let flow = c.args.source.now.flow.now in
    let condition = c.args.condition.now in
    let old = c.args.page.now.bytes.items in
    let place = placed text flow (place_of_point flow.points condition.point) in
    let name = name_of text flow.program condition.var in
    let part = part_word condition.of_part in
    let demand = demand_text text flow condition.var condition.demand in
    let at_place = c.in_ok-put_place.ensures ∙ ap (λ at. c.put.new.self.bytes.items ++ placed text flow at) c.place_of.ensures in
    let at_part = c.in_ok-put-3.ensures ∙ ap (λ (t : List ℕ). c.put_name.new.page.bytes.items ++ t) c.part_word.ensures in
    let a = glued old (codes "condition ") place c.put.new.self.bytes.items c.put_place.new.page.bytes.items c.in_ok-put.ensures at_place in
    let b = glued old (codes "condition " ++ place) (codes " ") c.put_place.new.page.bytes.items c.put-2.new.self.bytes.items a c.in_ok-put-2.ensures in
    let d = glued old (codes "condition " ++ place ++ codes " ") name c.put-2.new.self.bytes.items c.put_name.new.page.bytes.items b c.in_ok-put_name.ensures in
    let e = glued old (codes "condition " ++ place ++ codes " " ++ name) part c.put_name.new.page.bytes.items c.put-3.new.self.bytes.items d at_part in
    let f = glued old (codes "condition " ++ place ++ codes " " ++ name ++ part) demand c.put-3.new.self.bytes.items c.put_demand.new.page.bytes.items e c.in_ok-put_demand.ensures in
    on_ok c.put-4.result (glued old (codes "condition " ++ place ++ codes " " ++ name ++ part ++ demand) (codes "\n") c.put_demand.new.page.bytes.items c.put-4.new.self.bytes.items f) c.put-4.ensures
