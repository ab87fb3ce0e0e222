use Rattle.std.proofs.Common.{◌++◌, List, ℕ, sym, ap, ◌∙◌}
use Rattle.std.proofs.lemmas.Slice.Zip.{Zip-more, either_empty_from_Zip}
use Rattle.report.specs.Report.{check_line}
use Rattle.report.proofs.Pieces.{pair_more, written_all, written_more}
use Rattle.report.proofs.lines.put_checks.Goals as goal

pub loop-check-preserved : goal.loop-check-preserved
loop-check-preserved c =
    let turn = Zip-more c.loop-check.check-iterator c.next.new.self c.next.result _ c.in-Some.is c.next.ensures.steps in
    let more = pair_more (check_line c.args.source.now.text.now c.args.source.now.flow.now) _ _ _ _ _ _ turn.0 turn.1 in
    written_more _ _ _ _ _ c.in_ok-put_check.ensures (ap (λ (t : List ℕ). c.loop-check.page.bytes.items ++ t) (sym more) ∙ c.loop-check.invariant)

pub returns : goal.returns
returns c =
    written_all (check_line c.args.source.now.text.now c.args.source.now.flow.now) _ _ _ _ (either_empty_from_Zip c.loop-check.check-iterator c.next.new.self c.next.result c.in-None.is c.next.ensures.steps) c.loop-check.invariant
