use Rattle.std.proofs.Common.{◌≡◌, ℕ, ◌++◌, length, sym, ap, subst, ◌∙◌, arith, refl, ◌+◌}
use Rattle.std.proofs.lemmas.List.{length-map}
use Rattle.control_points.specs.Called.{site_of, sites_of}
use Rattle.control_points.specs.Calls.{access_calls, Sites}
use Rattle.control_points.specs.Scenes.{SitesFit}
use Rattle.control_points.proofs.OwnCalls.{access_fit}
use Rattle.control_points.proofs.Scened.{judged_in, weaker_in}
use Rattle.control_points.proofs.Followed.{judged_before, followed_by_both, followed_along}
use Rattle.control_points.specs.Checking.{read_checks}
use Rattle.pas_program.specs.Checked.{tables}
use Rattle.control_points.specs.declared.edge.Act.TheVariants as act
use Rattle.control_points.specs.Pieces.{Piece, both, judged, way}
use Rattle.control_points.specs.Pieces as pieces
use Rattle.control_points.specs.Drawing.{plan_in}
use Rattle.control_points.specs.Evaluation.{access_type}
use Rattle.pas_program.specs.declared.expr.Access.{Access}
use Rattle.control_points.proofs.scene.Scene.read.Goals as goal

pub calls-requires-clause-fits : goal.calls-requires-clause-fits
calls-requires-clause-fits c =
    let s = c.args.self.now in
    let same : sites_of c.as_slice.result.now ≡ access_calls c.args.access.now = ap sites_of c.as_slice.ensures.value ∙ c.in_ok-calls_in_access.ensures ∙ ap (λ xs. sites_of xs ++ access_calls c.args.access.now) c.new-sites.ensures.items in
    subst (SitesFit s.program.now s.routine) (sym same) (access_fit s.program.now s.routine c.args.access.now c.requires.fits)

pub returns-clause-graph : goal.returns-clause-graph
returns-clause-graph c =
    let s = c.args.self.now in
    let g = c.calls.new.graph in
    let here = c.in_ok-here.here in
    let same : sites_of c.as_slice.result.now ≡ access_calls c.args.access.now = ap sites_of c.as_slice.ensures.value ∙ c.in_ok-calls_in_access.ensures ∙ ap (λ xs. sites_of xs ++ access_calls c.args.access.now) c.new-sites.ensures.items in
    let many : length c.as_slice.result.now ≡ length (access_calls c.args.access.now) = sym (length-map c.as_slice.result.now site_of) ∙ ap length same in
    let point = c.in_ok-here.ensures.point in
    let judged = judged_in s g.edges g.checks c.read.new.checks here c.judge.result _ c.in_ok-here.ensures.graph (omega (arith, point)) (omega (arith, point, many)) c.judge.ensures.point c.in_ok-read.ensures in
    weaker_in s _ _ here _ (c.in_ok-edge.ensures.graph here judged) (omega arith)

pub returns-clause-exact : goal.returns-clause-exact
returns-clause-exact c =
    let s = c.args.self.now in
    let p = s.program.now in
    let x = c.args.access.now in
    let here = c.in_ok-here.here in
    let same : sites_of c.as_slice.result.now ≡ access_calls x = ap sites_of c.as_slice.ensures.value ∙ c.in_ok-calls_in_access.ensures ∙ ap (λ xs. sites_of xs ++ access_calls x) c.new-sites.ensures.items in
    let many : length c.as_slice.result.now ≡ length (access_calls x) = sym (length-map c.as_slice.result.now site_of) ∙ ap length same in
    let at : here ≡ c.args.from + length (access_calls x) = omega (arith, c.in_ok-here.ensures.point, many) in
    let piece : Sites → ℕ → Access → Piece = λ xs n y. both (pieces.calls (plan_in s) xs c.args.from) (both (judged n (read_checks (tables p) (access_type (tables p) c.args.access.now) c.args.access.now)) (way n (act.Read y) (n + 1))) in
    followed_along
    (ap (λ xs. piece xs here c.in_ok-to.to) same ∙ ap (λ n. piece (access_calls x) n c.in_ok-to.to) at ∙ ap (λ y. piece (access_calls x) (c.args.from + length (access_calls x)) y) c.in_ok-to.ensures)
    (followed_by_both c.in_ok-here.ensures.exact (judged_before c.in_ok-edge.ensures.exact c.judge.result here p (λ p. read_checks (tables p) (access_type (tables p) c.args.access.now) c.args.access.now) c.judge.ensures.program c.judge.ensures.point refl c.in_ok-read.ensures))
