-- Whether a variable holds Booleans, by itself or in its elements.
use Rattle.std.specs.Prelude.{ℕ, zero, suc, Bool, false, List, Option, Some, None, slice_get}
use Rattle.pas_program.specs.declared.type_def.TypeDef.{TypeDef}
use Rattle.pas_program.specs.declared.type_def.TypeDef.TheVariants.{Scalar, Array}

-- the host of a scalar type, and that of an array's elements
abbrev pub host_is_boolean : (ℕ → Bool) → Option TypeDef → Bool
host_is_boolean of_element None = false
host_is_boolean of_element (Some (Scalar boolean lo hi)) = boolean
host_is_boolean of_element (Some (Array index element)) = of_element element

-- the same, where element types lead to a scalar one in so many steps
abbrev pub booleans_within : ℕ → List TypeDef → ℕ → Bool
booleans_within zero types t = false
booleans_within (suc steps) types t = host_is_boolean (λ e. booleans_within steps types e) (slice_get types t)

-- an element type stands before its array, so a type's number is steps enough
abbrev pub has_booleans : List TypeDef → ℕ → Bool
has_booleans types t = booleans_within (suc t) types t
