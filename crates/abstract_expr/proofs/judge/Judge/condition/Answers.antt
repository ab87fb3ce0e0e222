use Rattle.std.proofs.Common.{◌≡◌, Bool, [], ◌&&◌, map, refl, ap, ◌∙◌}
use Rattle.std.proofs.lemmas.List.Folds.{list_all-map}
use Rattle.std.specs.List.{list_all}
use Rattle.control_points.specs.Judgements.{Judgement, Subject, constants_at, expr_judgements}
use Rattle.abstract_expr.specs.declared.tally.Tally.{Tally}
use Rattle.abstract_expr.specs.Expressions.{value_in}
use Rattle.abstract_expr.specs.Judging.{known}
use Rattle.abstract_expr.specs.Scopes.{scope_of}
use Rattle.abstract_expr.specs.Tallies.{Tallied, after_verdict, tallied}
use Rattle.abstract_expr.specs.Verdicts.{is_true, part_holds, subject_holds}
use Rattle.abstract_expr.proofs.AllHold.{all_count, and_either, one_counts}
use Rattle.abstract_expr.proofs.JudgedParts.{AgreeInside, inside_same}
use Rattle.abstract_expr.proofs.judge.Judge.condition.Goals as goal

pub returns : goal.returns
returns c =
    let j = c.args.self.now in
    let s = scope_of j.scope in
    let env = j.env.now.env in
    let e = c.args.cond.now in
    let js = expr_judgements (known j) e in
    let f : Subject → Bool = subject_holds s (constants_at j.scope.flow.now.edges j.point) env in
    let g : Subject → Bool = part_holds s [] env in
    let agree : AgreeInside f g = record { binary = λ op l r. refl; unary = λ op x. refl; used = λ a. refl; typed = λ n x. refl } in
    let inside : c.expr-x.new.tally.all_hold ≡ list_all (λ (x : Judgement). g x.subject) js =
    ap (λ (t : Tallied). t.tally.all_hold) c.expr-x.ensures.verdicts
    ∙ all_count (map (λ (x : Judgement). f x.subject) js) (tallied c.new-inner.result [])
    ∙ ap (λ (t : Tally). t.all_hold && list_all (λ b. b) (map (λ (x : Judgement). f x.subject) js)) c.new-inner.ensures
    ∙ list_all-map (λ b. b) (λ (x : Judgement). f x.subject) js
    ∙ inside_same (known j) f g agree e in
    let answer : c.is_true.result ≡ is_true (value_in s.bind env e) = c.is_true.ensures ∙ ap is_true c.expr-x.ensures.value in
    let all : c.add.new.self.all_hold ≡ (is_true (value_in s.bind env e) && list_all (λ (x : Judgement). g x.subject) js) =
    ap (λ (t : Tallied). t.tally.all_hold) c.add.ensures
    ∙ one_counts (tallied c.expr-x.new.tally []) c.is_true.result
    ∙ and_either c.expr-x.new.tally.all_hold c.is_true.result
    ∙ ap (λ b. b && c.expr-x.new.tally.all_hold) answer
    ∙ ap (λ b. is_true (value_in s.bind env e) && b) inside in
    c.add-2.ensures ∙ ap (after_verdict (tallied c.args.tally.now c.args.marks.now)) all
