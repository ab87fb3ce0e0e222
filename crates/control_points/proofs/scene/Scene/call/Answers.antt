use Rattle.std.proofs.Common.{sym, subst, refl, arith, ap}
use Rattle.std.specs.List.{slice_index}
use Rattle.control_points.specs.declared.edge.Act.TheVariants as act
use Rattle.control_points.specs.Drawing.{points_in, plan_in}
use Rattle.control_points.specs.Wired.{ActFits, IsBlock}
use Rattle.control_points.proofs.Drawn.{callee_known, drawn_call, graph_along}
use Rattle.control_points.proofs.Left.{both_ok}
use Rattle.control_points.proofs.Scened.{block, judged_in, weaker_in}
use Rattle.control_points.proofs.Followed.{followed_by_call, judged_before}
use Rattle.control_points.specs.Checking.{passing_checks, formals_of}
use Rattle.pas_program.specs.Checked.{tables}
use Rattle.control_points.specs.Called.{site_of}
use Rattle.control_points.proofs.scene.Scene.call.Goals as goal

pub returns-clause-graph : goal.returns-clause-graph
returns-clause-graph c =
    let s = c.args.self.now in
    let p = s.program.now in
    let g = c.args.graph.now in
    let site = c.args.site.now in
    let judged = judged_in s g.edges g.checks c.passing.new.checks c.args.from c.judge.result _ c.requires.graph (omega arith) c.requires.high c.judge.ensures.point c.in_ok-passing.ensures in
    let fits = subst (λ xs. ActFits p s.routine (act.Call site.routine xs site.slot site.at)) (sym c.in_ok-copy_actuals.ensures) c.requires.fits in
    let known = callee_known p site.routine site.actuals.now site.slot site.at c.requires.fits.numbers in
    let callee =
    subst (λ n. IsBlock (points_in s) site.routine n c.exit_of-exit.result) (sym c.entry_of-entry.ensures)
    (subst (λ n. IsBlock (points_in s) site.routine (slice_index s.numbering.now.entries site.routine) n) (sym c.exit_of-exit.ensures) (s.placed.blocks.block site.routine known)) in
    let more = drawn_call p (points_in s) s.routine s.entry s.exit (block s) g.edges c.passing.new.checks c.args.from c.args.from c.args.back site.routine c.entry_of-entry.result c.exit_of-exit.result _ judged (omega arith) c.requires.high c.requires.back_low c.requires.back_high refl fits callee in
    both_ok c.call.result c.call.ensures.edges c.call.ensures.checks (λ e k. weaker_in s _ _ c.args.from _ (graph_along p (points_in s) _ _ _ _ c.args.from e k more) (omega arith))

pub returns-clause-exact : goal.returns-clause-exact
returns-clause-exact c =
    let site = c.args.site.now in
    let copied = ap (λ xs. act.Call site.routine xs site.slot site.at) c.in_ok-copy_actuals.ensures in
    both_ok c.call.result c.call.ensures.edges c.call.ensures.checks
    (λ e k. judged_before (followed_by_call {a = record { edges = c.args.graph.now.edges; checks = c.passing.new.checks; few = c.args.graph.now.few }} (plan_in c.args.self.now) (site_of site) c.args.from c.args.back c.entry_of-entry.result c.exit_of-exit.result _ copied c.entry_of-entry.ensures c.exit_of-exit.ensures e k)
    c.judge.result c.args.from c.args.self.now.program.now (λ p. passing_checks (tables p) site.actuals.now (formals_of ((tables p).head_at site.routine))) c.judge.ensures.program c.judge.ensures.point refl c.in_ok-passing.ensures)
