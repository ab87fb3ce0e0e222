-- Whether a type has Booleans, by more steps than are needed.
use Rattle.std.proofs.Common.{◌≡◌, ℕ, zero, suc, ◌<◌, true, List, refl, Option, None, Some, arith}
use Rattle.std.proofs.lemmas.Bool.Decides.{nat_tests}
use Rattle.std.specs.List.{slice_get}
use Rattle.pas_program.specs.declared.type_def.TypeDef.{TypeDef}
use Rattle.pas_program.specs.declared.type_def.TypeDef.TheVariants.{Scalar, Array}
use Rattle.pas_program.specs.Types.{TypesFit, type_fits}
use Rattle.report.specs.Hosts.{booleans_within, host_is_boolean}

-- the element type of an array stands before it
pub element_before : (types : List TypeDef) (t index element : ℕ) → type_fits types t (Array index element) ≡ true → element < t
element_before types t index element fits = grind (arith, nat_tests, fits)

module _ (types : List TypeDef) (fit : TypesFit types) where
  -- each number of steps above the type's number is enough
  pub enough : (m n t : ℕ) → t < m → t < n → booleans_within m types t ≡ booleans_within n types t
  enough zero n t below _ = absurd (omega (arith, below))
  enough (suc m) zero t _ below = absurd (omega (arith, below))
  enough (suc m) (suc n) t under below =
      by (slice_get types t) refl (λ e before. enough m n e (omega (arith, before, under)) (omega (arith, before, below)))
    where
      by : (o : Option TypeDef) → slice_get types t ≡ o → ((e : ℕ) → e < t → booleans_within m types e ≡ booleans_within n types e)
          → host_is_boolean (λ e. booleans_within m types e) o ≡ host_is_boolean (λ e. booleans_within n types e) o
      by None there next = refl
      by (Some (Scalar boolean lo hi)) there next = refl
      by (Some (Array index element)) there next = next element (element_before types t index element (fit.each t (Array index element) there))
