use Rattle.std.proofs.Common.{sym, ap, ◌∙◌}
use Rattle.interval.specs.Forward.{binary_answer}
use Rattle.abstract_expr.specs.Expressions.{operands_refined, reached_value, refined, wanted_of}
use Rattle.abstract_expr.specs.Scopes.{scope_of}
use Rattle.abstract_expr.proofs.Levels.{wanted_kept, wanted_some}
use Rattle.abstract_expr.proofs.scope.Scope.refine_relation.Goals as goal

pub returns-in-Some-clause-value : goal.returns-in-Some-clause-value
returns-in-Some-clause-value c =
    let s = scope_of c.args.self.now in
    let op = c.args.op in
    let l = c.args.left.now in
    let r = c.args.right.now in
    let env = c.args.env.now.env in
    let w = c.truth.result in
    let x = reached_value s.bind env l in
    let y = reached_value s.bind env r in
    let both = operands_refined op x y (refined s l) (refined s r) in
    let some = sym c.meet_wanted.ensures.left ∙ c.in-Some.is in
    let same = wanted_kept c.binary.result.value w c.in-Some.wanted env c.meet_wanted.new.env.env some c.meet_wanted.ensures.value in
    let value = ap (λ a. a.value) c.binary.ensures.answer ∙ ap (λ u. (binary_answer op u c.value-y.result).value) c.value-x.ensures ∙ ap (λ u. (binary_answer op x u).value) c.value-y.ensures in
    c.refine_operands.ensures.value
    ∙ ap (λ v. operands_refined op (reached_value s.bind v l) (reached_value s.bind v r) (refined s l) (refined s r) c.in-Some.wanted v) same
    ∙ wanted_some c.binary.result.value both w env env (sym c.reachable.ensures.value ∙ c.if-not-reachable.false) (sym same ∙ c.meet_wanted.ensures.value) c.in-Some.wanted some
    ∙ ap (λ v. wanted_of v both w env) value
    ∙ ap (λ v. wanted_of (binary_answer op x y).value both v env) c.truth.ensures
