use Rattle.std.proofs.Common.{◌≡◌, true, ap, ◌∙◌}
use Rattle.environment.specs.Environments.{Environment, env_below}
use Rattle.interval.specs.Intervals.{is_within}
use Rattle.abstract_expr.specs.Expressions.{range_of, related, truth_of, value_in}
use Rattle.abstract_expr.specs.Judging.{turns_of}
use Rattle.abstract_expr.specs.Scopes.{scope_of}
use Rattle.abstract_expr.specs.Tallies.{Tallied, after_verdict, tallied}
use Rattle.abstract_expr.specs.Verdicts.{last_holds, with_turn}
use Rattle.abstract_expr.proofs.scope.Scope.judge_turn.Goals as goal

pub returns-clause-verdicts : goal.returns-clause-verdicts
returns-clause-verdicts c =
    let s = scope_of c.args.self.now in
    let b = c.args.bounds.now in
    let env = c.args.env.now.env in
    let old = tallied c.args.tally.now c.args.marks.now in
    let one = tallied c.judge_bound.new.tally c.judge_bound.new.marks in
    let range = range_of (s.tables.type_at b.of_type) in
    let left : c.refine_relation.new.env.env ≡ with_turn s (turns_of b) env =
    c.refine_relation.ensures.value ∙ ap (λ op. related s op b.first.now b.last.now (truth_of true) env) c.turn_relation.ensures in
    c.judge_bound-2.ensures
    ∙ ap (λ (x : Environment). after_verdict one (is_within (value_in s.bind x b.last.now) range)) left
    ∙ ap (λ (t : Tallied). after_verdict t (last_holds s env (turns_of b)))
    (c.judge_bound.ensures ∙ ap (λ (x : Environment). after_verdict old (is_within (value_in s.bind x b.first.now) range)) left)

pub returns-clause-below : goal.returns-clause-below
returns-clause-below c =
    let s = scope_of c.args.self.now in
    let b = c.args.bounds.now in
    let env = c.args.env.now.env in
    ap (λ (x : Environment). env_below x env) c.refine_relation.ensures.value
    ∙ c.refining_leaves_less.ensures.relations s c.turn_relation.result b.first.now b.last.now (truth_of true) env
