-- Lists of numbers turned round: for each number, which lists it is in.
use Rattle.std.specs.Prelude.{◌≡◌, ℕ, ◌<◌, ◌≤◌, ◌↔◌, ◌⊎◌, List, [], length, slice_index_or}
use Rattle.std.specs.List.{Contains}
use Rattle.std.specs.List.Sorted.{IsStrictlyIncreasing}

-- the list at a place
abbrev pub list_at : List (List ℕ) → ℕ → List ℕ
list_at lists n = slice_index_or lists n []

-- m is in the reversed list n where n is in list m; there are as many of both
pub record IsReversal (size : ℕ) (list : ℕ → List ℕ) (reversed : List (List ℕ)) : Type 0 where
  pub as_many : length reversed ≡ size
  pub members : (m n : ℕ) → n < size → Contains (list_at reversed n) m ↔ ((m < size) × Contains (list m) n)

-- a list rises, to a greatest number
pub record IsRisingTo (greatest : ℕ) (list : List ℕ) : Type 0 where
  pub rising : IsStrictlyIncreasing list
  pub most : (m : ℕ) → Contains list m → m ≤ greatest

-- a list got a number
pub record AddsNumber (number : ℕ) (list after : List ℕ) : Type 0 where
  pub members : (m : ℕ) → Contains after m ↔ (Contains list m ⊎ (m ≡ number))
  pub rising : IsRisingTo number list → IsRisingTo number after

-- the lists at the places got a number, and no others
pub record AddsToEach (number : ℕ) (places : List ℕ) (lists after : List (List ℕ)) : Type 0 where
  pub as_many : length after ≡ length lists
  pub members : (n m : ℕ) → n < length lists → Contains (list_at after n) m ↔ (Contains (list_at lists n) m ⊎ ((m ≡ number) × Contains places n))
  pub rising : (n : ℕ) → n < length lists → IsRisingTo number (list_at lists n) → IsRisingTo number (list_at after n)
