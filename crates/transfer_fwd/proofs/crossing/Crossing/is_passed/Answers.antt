use Rattle.std.proofs.Common.{◌≡◌, ◌⊎◌, ℕ, List, [], ◌∷◌, true, length, ap, sym, ◌∙◌, inl, inr}
use Rattle.pas_program.specs.declared.expr.Actual.{Actual}
use Rattle.environment.specs.Environments.{is_reachable, started}
use Rattle.transfer_fwd.specs.Crossed.{inside_of, outside_of}
use Rattle.transfer_fwd.specs.Crossings.{formals_given}
use Rattle.transfer_fwd.proofs.Entered.{given_none, stops}
use Rattle.transfer_fwd.proofs.crossing.Crossing.is_passed.Goals as goal

pub returns-then-passes_nothing : goal.returns-then-passes_nothing
returns-then-passes_nothing c =
    let x = c.args.self.now in
    let left = c.args.left.now.env in
    let steps = c.in-Some.ensures.steps in
    let formals = c.in-Some.formal.now ∷ c.next.new.self.b.rest.now in
    sym (stops (outside_of x) (inside_of x) left c.in-Some.actual.now c.next.new.self.a.rest.now c.in-Some.formal.now c.next.new.self.b.rest.now [] (sym c.passes_nothing.ensures ∙ c.if-passes_nothing.true))
    ∙ ap (λ (xs : List Actual). is_reachable (formals_given true (outside_of x) (inside_of x) left xs formals (started 0))) (sym steps.0)
    ∙ ap (λ (vs : List ℕ). is_reachable (formals_given true (outside_of x) (inside_of x) left c.loop-actual.actual-iterator.a.rest.now vs (started 0))) (sym steps.1)
    ∙ c.loop-actual.invariant.given

pub returns : goal.returns
returns c =
    let x = c.args.self.now in
    let actuals = c.loop-actual.actual-iterator.a.rest.now in
    let formals = c.loop-actual.actual-iterator.b.rest.now in
    let none : (length actuals ≡ 0) ⊎ (length formals ≡ 0) = elim c.in-None.ensures.steps [ inl h ↦ inl h.1.0 | inr h ↦ inr h.1.0 ] in
    sym (ap is_reachable (given_none true (outside_of x) (inside_of x) c.args.left.now.env actuals formals (started 0) none)) ∙ c.loop-actual.invariant.given
