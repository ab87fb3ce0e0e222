use Rattle.std.proofs.Common.{◌≡◌, ℕ, ◌++◌, length, sym, ap, subst, ◌∙◌, arith, refl, ◌+◌}
use Rattle.std.proofs.lemmas.List.{length-map}
use Rattle.control_points.specs.Called.{site_of, sites_of}
use Rattle.control_points.specs.Calls.{item_calls, Sites}
use Rattle.control_points.specs.Scenes.{SitesFit}
use Rattle.control_points.proofs.OwnCalls.{item_fit}
use Rattle.control_points.proofs.Scened.{judged_in, weaker_in}
use Rattle.control_points.proofs.Followed.{judged_before, followed_by_both, followed_along}
use Rattle.control_points.specs.Checking.{item_checks}
use Rattle.pas_program.specs.Checked.{tables}
use Rattle.control_points.specs.declared.edge.Act.TheVariants as act
use Rattle.control_points.specs.Pieces.{Piece, both, judged, way}
use Rattle.control_points.specs.Pieces as pieces
use Rattle.control_points.specs.Drawing.{plan_in}
use Rattle.pas_program.specs.declared.statement.WriteItem.{WriteItem}
use Rattle.control_points.proofs.scene.Scene.write.Goals as goal

pub calls-requires-clause-fits : goal.calls-requires-clause-fits
calls-requires-clause-fits c =
    let s = c.args.self.now in
    let same : sites_of c.as_slice.result.now ≡ item_calls c.args.item.now = ap sites_of c.as_slice.ensures.value ∙ c.in_ok-calls_in_item.ensures ∙ ap (λ xs. sites_of xs ++ item_calls c.args.item.now) c.new-sites.ensures.items in
    subst (SitesFit s.program.now s.routine) (sym same) (item_fit s.program.now s.routine c.args.item.now c.requires.fits)

pub returns-clause-graph : goal.returns-clause-graph
returns-clause-graph c =
    let s = c.args.self.now in
    let g = c.calls.new.graph in
    let here = c.in_ok-here.here in
    let same : sites_of c.as_slice.result.now ≡ item_calls c.args.item.now = ap sites_of c.as_slice.ensures.value ∙ c.in_ok-calls_in_item.ensures ∙ ap (λ xs. sites_of xs ++ item_calls c.args.item.now) c.new-sites.ensures.items in
    let many : length c.as_slice.result.now ≡ length (item_calls c.args.item.now) = sym (length-map c.as_slice.result.now site_of) ∙ ap length same in
    let point = c.in_ok-here.ensures.point in
    let judged = judged_in s g.edges g.checks c.item.new.checks here c.judge.result _ c.in_ok-here.ensures.graph (omega (arith, point)) (omega (arith, point, many)) c.judge.ensures.point c.in_ok-item.ensures in
    weaker_in s _ _ here _ (c.in_ok-edge.ensures.graph here judged) (omega arith)

pub returns-clause-exact : goal.returns-clause-exact
returns-clause-exact c =
    let s = c.args.self.now in
    let p = s.program.now in
    let x = c.args.item.now in
    let here = c.in_ok-here.here in
    let same : sites_of c.as_slice.result.now ≡ item_calls x = ap sites_of c.as_slice.ensures.value ∙ c.in_ok-calls_in_item.ensures ∙ ap (λ xs. sites_of xs ++ item_calls x) c.new-sites.ensures.items in
    let many : length c.as_slice.result.now ≡ length (item_calls x) = sym (length-map c.as_slice.result.now site_of) ∙ ap length same in
    let at : here ≡ c.args.from + length (item_calls x) = omega (arith, c.in_ok-here.ensures.point, many) in
    let piece : Sites → ℕ → WriteItem → Piece = λ xs n y. both (pieces.calls (plan_in s) xs c.args.from) (both (judged n (item_checks (tables p) c.args.item.now)) (way n (act.Write y) (n + 1))) in
    followed_along
    (ap (λ xs. piece xs here c.in_ok-copy.copy) same ∙ ap (λ n. piece (item_calls x) n c.in_ok-copy.copy) at ∙ ap (λ y. piece (item_calls x) (c.args.from + length (item_calls x)) y) c.in_ok-copy.ensures)
    (followed_by_both c.in_ok-here.ensures.exact (judged_before c.in_ok-edge.ensures.exact c.judge.result here p (λ p. item_checks (tables p) c.args.item.now) c.judge.ensures.program c.judge.ensures.point refl c.in_ok-item.ensures))
