-- What refines the actuals of a call.
use Rattle.std.proofs.Common.{◌≡◌, ◌⊎◌, ℕ, List, [], ◌∷◌, length, refl, inl, inr, arith}
use Rattle.pas_program.specs.declared.expr.Actual.{Actual}
use Rattle.environment.specs.Environments.{Environment}
use Rattle.abstract_expr.specs.Expressions.{Scope}
use Rattle.transfer_fwd.specs.Crossings.{actuals_refined}

-- where there are no more actuals or no more formals
pub refined_none : (s : Scope) (actuals : List Actual) (formals : List ℕ) (env : Environment) → (length actuals ≡ 0) ⊎ (length formals ≡ 0) → actuals_refined s actuals formals env ≡ env
refined_none s [] formals env h = refl
refined_none s (a ∷ actuals) [] env h = refl
refined_none s (a ∷ actuals) (v ∷ formals) env (inl e) = absurd (omega arith)
refined_none s (a ∷ actuals) (v ∷ formals) env (inr e) = absurd (omega arith)
