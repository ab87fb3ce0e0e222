-- The number of a node.
use Rattle.std.proofs.Common.{◌≡◌, ℕ, List, length, Some, slice_get, refl, sym}
use Rattle.std.specs.List.{Contains}
use Rattle.std.proofs.lemmas.Option.{get_or_from_slice_get, slice_get_read, slice_get_within}

-- a member at its number
pub record IsAt {A : Type 0} (xs : List A) (x : A) : Type 0 where
  pub number : ℕ
  pub is : slice_get xs number ≡ Some x

pub member_at : {A : Type 0} (xs : List A) (x : A) → Contains xs x → IsAt xs x
member_at xs x at = record { number = at.0; is = slice_get_read xs (length xs) at.0 x refl at.1 (sym at.2) }

pub at_is_member : {A : Type 0} (xs : List A) (x : A) (n : ℕ) → slice_get xs n ≡ Some x → Contains xs x
at_is_member xs x n is = (n, slice_get_within xs n x is, get_or_from_slice_get xs n x x is)
