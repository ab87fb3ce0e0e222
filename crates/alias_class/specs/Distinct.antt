-- The different members of a list, in the order in which they are first met.
use Rattle.std.specs.Prelude.{Bool, List, [], ◌∷◌, ◌++◌, fold, if◌then◌else◌}
use Rattle.std.specs.List.{list_any}

module _ {A : Type 0} (same : A → A → Bool) where
  -- x goes last, unless it is there
  abbrev pub with_member : List A → A → List A
  with_member xs x = if list_any (same x) xs then xs else xs ++ x ∷ []

  abbrev pub first_occurrences : List A → List A
  first_occurrences xs = fold with_member [] xs
