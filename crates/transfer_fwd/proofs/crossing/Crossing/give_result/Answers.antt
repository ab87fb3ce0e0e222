use Rattle.std.proofs.Common.{◌≡◌, ℕ, Option, Some, true, false, ap, sym, subst, ◌∙◌}
use Rattle.std.specs.Option.{option_and_then, option_map}
use Rattle.alias_class.specs.declared.bind.Bind.{Bind}
use Rattle.interval.specs.declared.val.Val.{Val}
use Rattle.environment.specs.Environments.{after_set, value_at}
use Rattle.control_points.specs.Judgements.{result_of}
use Rattle.pas_program.specs.Each.{Rule}
use Rattle.abstract_expr.specs.Expressions.{Scope}
use Rattle.transfer_fwd.specs.Crossed.{inside_of, outside_of}
use Rattle.transfer_fwd.specs.Crossings.{ResultCells, result_set}
use Rattle.transfer_fwd.proofs.crossing.Crossing.give_result.Goals as goal

pub bind-requires : goal.bind-requires
bind-requires c =
    let x = c.args.self.now in
    let result : result_of (inside_of x).tables x.routine ≡ Some c.in-Some-Some.result = ap (λ (s : Scope). result_of s.tables x.routine) (sym c.inside.ensures.scope) ∙ sym c.result.ensures ∙ c.in-Some-Some.is-1 in
    subst (λ (r : Rule). r.variable c.in-Some-Some.result ≡ true) (sym c.inside-in-Some-Some.ensures.seen) (c.names_seen.ensures.result c.in-Some-Some.result result)

pub bind-requires-in-Some-Some : goal.bind-requires-in-Some-Some
bind-requires-in-Some-Some c =
    let x = c.args.self.now in
    subst (λ (r : Rule). r.variable c.in-Some-Some.slot ≡ true) (sym c.outside.ensures.seen) (c.names_seen.ensures.slot c.in-Some-Some.slot c.in-Some-Some.is-0)

pub returns-in-Some-Some-clause-value : goal.returns-in-Some-Some-clause-value
returns-in-Some-Some-clause-value c =
    let x = c.args.self.now in
    let left = c.args.left.now.env in
    let exit = c.args.exit.now.env in
    let slot = c.in-Some-Some.slot in
    let result = c.in-Some-Some.result in
    let known : result_of (outside_of x).tables x.routine ≡ Some result = ap (λ (s : Scope). result_of s.tables x.routine) (sym c.inside.ensures.scope) ∙ sym c.result.ensures ∙ c.in-Some-Some.is-1 in
    let cells : ℕ → ℕ → ResultCells = λ s r. record { slot = ((outside_of x).bind s).cell; result = ((inside_of x).bind r).cell } in
    let all : option_and_then (λ s. option_map (cells s) (result_of (outside_of x).tables x.routine)) x.slot ≡ Some (cells slot result) =
    ap (λ (o : Option ℕ). option_and_then (λ s. option_map (cells s) (result_of (outside_of x).tables x.routine)) o) c.in-Some-Some.is-0 ∙ ap (option_map (cells slot)) known in
    let taken : c.get.result ≡ value_at exit ((inside_of x).bind result).cell =
    c.get.ensures.value ∙ ap (λ (b : Bind). value_at exit b.cell) c.bind.ensures.value ∙ ap (λ (s : Scope). value_at exit (s.bind result).cell) c.inside-in-Some-Some.ensures.scope in
    let into : c.bind-in-Some-Some.result ≡ (outside_of x).bind slot = c.bind-in-Some-Some.ensures.value ∙ ap (λ (s : Scope). s.bind slot) c.outside.ensures.scope in
    c.set.ensures.value
    ∙ ap (λ (b : Bind). after_set left b.cell (record { undef = false; itv = c.get.result.itv })) into
    ∙ ap (λ (v : Val). after_set left ((outside_of x).bind slot).cell (record { undef = false; itv = v.itv })) taken
    ∙ ap (λ (o : Option ResultCells). result_set o exit left) (sym all)
