use Rattle.std.proofs.Common.{◌≡◌, ◌⊎◌, ℕ, List, ◌∷◌, map, length, ap, sym, ◌∙◌, inl, inr}
use Rattle.pas_program.specs.declared.expr.Actual.{Actual}
use Rattle.pas_program.specs.Checked.{tables}
use Rattle.pas_program.specs.Typed.{are_passed_to, passed}
use Rattle.transfer_fwd.specs.Crossed.{inside_of, outside_of}
use Rattle.transfer_fwd.proofs.Entered.{formal_within, given_none}
use Rattle.transfer_fwd.proofs.crossing.Crossing.give_formals.Goals as goal

pub give_formal-requires-clause-formal : goal.give_formal-requires-clause-formal
give_formal-requires-clause-formal c =
    let p = c.args.self.now.flow.now.program in
    let t = tables p in
    let steps = c.in-Some.ensures.steps in
    let formals = c.in-Some.formal.now ∷ c.next.new.self.b.rest.now in
    formal_within p (passed t c.in-Some.actual.now) (map (passed t) c.next.new.self.a.rest.now) c.in-Some.formal.now c.next.new.self.b.rest.now
    (ap (λ (xs : List Actual). are_passed_to t (map (passed t) xs) formals) (sym steps.0)
    ∙ ap (λ (vs : List ℕ). are_passed_to t (map (passed t) c.loop-actual.actual-iterator.a.rest.now) vs) (sym steps.1)
    ∙ c.loop-actual.invariant.types)

pub returns-clause-value : goal.returns-clause-value
returns-clause-value c =
    let x = c.args.self.now in
    let actuals = c.loop-actual.actual-iterator.a.rest.now in
    let formals = c.loop-actual.actual-iterator.b.rest.now in
    let none : (length actuals ≡ 0) ⊎ (length formals ≡ 0) = elim c.in-None.ensures.steps [ inl h ↦ inl h.1.0 | inr h ↦ inr h.1.0 ] in
    sym (given_none c.args.first (outside_of x) (inside_of x) c.args.left.now.env actuals formals c.loop-actual.out.env none) ∙ c.loop-actual.invariant.given
