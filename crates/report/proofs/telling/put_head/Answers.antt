use Rattle.std.proofs.Common.{ap, codes, ◌∙◌, ◌++◌, List, ℕ}
use Rattle.report.specs.Report.{origin_text}
use Rattle.report.proofs.Pieces.{glued, on_ok}
use Rattle.report.proofs.telling.put_head.Goals as goal

pub returns : goal.returns
returns c =
    let old = c.args.page.now.bytes.items in
    let name = c.args.name.now in
    let first = glued old (codes "file ") name c.put.new.self.bytes.items c.put-2.new.self.bytes.items c.in_ok-put.ensures c.in_ok-put-2.ensures in
    on_ok c.put-3.result (λ h. glued old (codes "file " ++ name) (origin_text c.args.is_possible) c.put-2.new.self.bytes.items c.put-3.new.self.bytes.items first (h ∙ ap (λ (t : List ℕ). c.put-2.new.self.bytes.items ++ t) c.origin_text.ensures)) c.put-3.ensures
