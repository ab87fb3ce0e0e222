use Rattle.std.proofs.Common.{◌≡◌, length, sym, ap, subst, ◌∙◌, arith}
use Rattle.std.proofs.lemmas.List.{length-map}
use Rattle.control_points.specs.Called.{own_calls, site_of, sites_of}
use Rattle.control_points.specs.Scenes.{SitesFit}
use Rattle.control_points.proofs.Opened.{own_room}
use Rattle.control_points.proofs.OwnCalls.{own_fit}
use Rattle.control_points.proofs.Followed.{followed_along, followed_by_both}
use Rattle.control_points.specs.Drawing.{plan_in}
use Rattle.control_points.specs.Pieces.{both, judged}
use Rattle.control_points.specs.Pieces as pieces
use Rattle.control_points.proofs.Left.{then_ok}
use Rattle.control_points.proofs.scene.Scene.begin.Goals as goal

pub calls-requires-clause-fits : goal.calls-requires-clause-fits
calls-requires-clause-fits c =
    let s = c.args.self.now in
    let same : sites_of c.as_slice-2.result.now ≡ own_calls c.args.s.now.body = ap sites_of c.as_slice-2.ensures.value ∙ c.in_ok-sites.ensures in
    subst (SitesFit s.program.now s.routine) (sym same) (own_fit s.program.now s.routine c.args.s.now c.requires.numbers c.requires.types c.requires.scopes)

pub calls-requires-clause-room : goal.calls-requires-clause-room
calls-requires-clause-room c =
    let same : sites_of c.as_slice-2.result.now ≡ own_calls c.args.s.now.body = ap sites_of c.as_slice-2.ensures.value ∙ c.in_ok-sites.ensures in
    omega (arith, length-map c.as_slice-2.result.now site_of, ap length same, own_room c.args.s.now, c.requires.stands.room)

pub returns-clause-exact : goal.returns-clause-exact
returns-clause-exact c =
    let s = c.args.self.now in
    let same : sites_of c.as_slice-2.result.now ≡ own_calls c.args.s.now.body = ap sites_of c.as_slice-2.ensures.value ∙ c.in_ok-sites.ensures in
    then_ok c.calls.result c.calls.ensures.exact
    (λ f. followed_by_both (rw c.as_slice.ensures at c.in_ok-assertions.ensures.exact) (followed_along (ap (λ xs. pieces.calls (plan_in s) xs c.args.stand.here) same) f))
