use Rattle.std.proofs.Common.{◌≡◌, Bool, true, not, ◌||◌, List, [], map, drop, sym, ap, ◌∙◌}
use Rattle.control_points.specs.Flows.{chart_of}
use Rattle.control_points.specs.Judgements.{Judgement, constants_at, point_judgements}
use Rattle.abstract_expr.specs.declared.tally.Tally.{Tally}
use Rattle.abstract_expr.specs.Scopes.{scope_of}
use Rattle.abstract_expr.specs.Tallies.{Tallied, after_verdicts, tallied}
use Rattle.abstract_expr.specs.Verdicts.{check_holds, marks_with, subject_holds}
use Rattle.abstract_expr.proofs.Marked.{map_same, marks_by, none_marked}
use Rattle.abstract_expr.proofs.Shrinking.{less_itself}
use Rattle.abstract_expr.proofs.judging.mark_from.Goals as goal

pub returns-then-reachable-clause-marks : goal.returns-then-reachable-clause-marks
returns-then-reachable-clause-marks c =
    let s = c.args.scope.now in
    let env = c.args.env.now.env in
    let cs = constants_at s.flow.now.edges c.args.point in
    let js = point_judgements (chart_of s.flow.now) c.args.point in
    let f : Judgement → Bool = λ j. subject_holds (scope_of s) cs env j.subject in
    let g : Judgement → Bool = check_holds (scope_of s) cs env in
    let reached = sym c.reachable.ensures.value ∙ c.if-reachable.true in
    let same : (j : Judgement) → f j ≡ g j = λ j. ap (λ (b : Bool). not b || f j) (sym reached) in
    ap (λ (t : Tallied). t.marks) c.judge_point.ensures.verdicts
    ∙ ap (λ (t : Tally). (after_verdicts (map f js) (tallied t c.args.marks.now)).marks) c.new.ensures
    ∙ marks_by (map f js) c.args.before true [] c.args.marks.now
    ∙ ap (λ (vs : List Bool). marks_with c.args.marks.now (drop c.args.before vs)) (map_same f g same js)

pub returns-else-reachable-clause-marks : goal.returns-else-reachable-clause-marks
returns-else-reachable-clause-marks c =
    let s = c.args.scope.now in
    let env = c.args.env.now.env in
    let cs = constants_at s.flow.now.edges c.args.point in
    let g : Judgement → Bool = check_holds (scope_of s) cs env in
    let unreached = sym c.reachable.ensures.value ∙ c.if-reachable.false in
    none_marked g (λ j. ap (λ (b : Bool). not b || subject_holds (scope_of s) cs env j.subject) unreached) (point_judgements (chart_of s.flow.now) c.args.point) c.args.before c.args.marks.now

pub returns-else-reachable-clause-below : goal.returns-else-reachable-clause-below
returns-else-reachable-clause-below c = (less_itself c.args.env.now.env).below
