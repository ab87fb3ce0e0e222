-- The types of a program (ISO 7185, 6.4). A type is its place in the list.
use Rattle.std.specs.Prelude.{◌≡◌, ℕ, zero, suc, ◌+◌, ◌*◌, Bool, true, false, ◌&&◌, ◌||◌, List, ℤ, pos, neg_ℤ, int_le, ◌-ℤ◌, nat_lt, nat_le, ◌==◌, Option, Some, None, slice_get, unsigned_abs}
use Rattle.std.specs.Bool.{beq}
use Rattle.pas_program.specs.declared.type_def.TypeDef.{TypeDef}
use Rattle.pas_program.specs.declared.type_def.TypeDef.TheVariants.{Scalar, Array}

-- the greatest integer (ISO 7185, 6.7.2.2), and the number of scalars that an array may have at most
abbrev pub maxint : ℕ
maxint = 2147483647

abbrev pub most_elements : ℕ
most_elements = 1000000

-- whether z is a value of the host
abbrev pub in_host : Bool → ℤ → Bool
in_host true z = int_le (pos 0) z && int_le z (pos 1)
in_host false z = int_le (neg_ℤ (pos maxint)) z && int_le z (pos maxint)

-- what a type is, where there is one
abbrev pub is_scalar : Option TypeDef → Bool
is_scalar (Some (Scalar boolean lo hi)) = true
is_scalar _ = false

abbrev pub is_array : Option TypeDef → Bool
is_array (Some (Array index element)) = true
is_array _ = false

abbrev pub has_host : Bool → Option TypeDef → Bool
has_host host (Some (Scalar boolean lo hi)) = beq host boolean
has_host host _ = false

abbrev pub same_host : Option TypeDef → Option TypeDef → Bool
same_host (Some (Scalar boolean lo hi)) other = has_host boolean other
same_host _ other = false

-- one type, or scalars of one host
abbrev pub compatible : List TypeDef → ℕ → ℕ → Bool
compatible types a b = (a == b) || same_host (slice_get types a) (slice_get types b)

-- how many values a scalar type has
abbrev pub count_values : Option TypeDef → ℕ
count_values (Some (Scalar boolean lo hi)) = unsigned_abs (hi -ℤ lo) + 1
count_values _ = 0

-- The scalars that a value of a type is made of: how many, and the least and the greatest number that each may be.
pub record Layout : Type 0 where
  pub count : ℕ
  pub lo : ℤ
  pub hi : ℤ

-- an array has its element's scalars once for each value of its index
abbrev pub times : ℕ → Layout → Layout
times n part = record { count = n * part.count; lo = part.lo; hi = part.hi }

-- the layout of a type, from those of the types before it
abbrev pub layout_of : List TypeDef → (ℕ → Layout) → Option TypeDef → Layout
layout_of types before (Some (Scalar boolean lo hi)) = record { count = 1; lo = lo; hi = hi }
layout_of types before (Some (Array index element)) = times (count_values (slice_get types index)) (before element)
layout_of types before None = record { count = 0; lo = pos 0; hi = pos 0 }

-- the same, where element types lead to a scalar one in so many steps
abbrev pub layout_within : ℕ → List TypeDef → ℕ → Layout
layout_within zero types t = layout_of types (λ _. record { count = 0; lo = pos 0; hi = pos 0 }) None
layout_within (suc steps) types t = layout_of types (λ e. layout_within steps types e) (slice_get types t)

-- an element type stands before its array, so a type's number is steps enough
unfoldable pub layout : List TypeDef → ℕ → Layout
layout types t = layout_within (suc t) types t

-- whether the type t may stand in the list
abbrev pub type_fits : List TypeDef → ℕ → TypeDef → Bool
type_fits types t (Scalar boolean lo hi) = in_host boolean lo && (in_host boolean hi && int_le lo hi)
type_fits types t (Array index element) = (nat_lt index t && nat_lt element t) && (is_scalar (slice_get types index) && nat_le (count_values (slice_get types index) * (layout types element).count) most_elements)

pub record TypesFit (types : List TypeDef) : Type 0 where
  pub each : (t : ℕ) (d : TypeDef) → slice_get types t ≡ Some d → type_fits types t d ≡ true
