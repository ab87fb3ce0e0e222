-- Files in memory, as a shelf stores them.
use Rattle.std.specs.Prelude.{ℕ, ◌<◌, ◌≤◌, List, [], length, drop, map, slice_index_or, Option, Some, None, Vec, String, string_bytes}
use Rattle.std.specs.Option.{ForSome}
use Rattle.std.specs.declared.alloc.Global.{Global}

-- their names and bytes
abbrev pub named : List (String Global × Vec ℕ Global) → List (List ℕ × List ℕ)
named files = map (λ f. (string_bytes f.0, f.1.items)) files

-- the bytes of the file at this index
abbrev pub bytes_of : List (String Global × Vec ℕ Global) → ℕ → List ℕ
bytes_of files i = slice_index_or (map (λ f. f.1.items) files) i []

-- what is left of the picked file behind this place in it
abbrev pub rest_of : List (String Global × Vec ℕ Global) → Option ℕ → ℕ → List ℕ
rest_of files None at = []
rest_of files (Some i) at = drop at (bytes_of files i)

-- the picked file is one of these, and the place is in it
abbrev pub IsInRange : List (String Global × Vec ℕ Global) → Option ℕ → ℕ → Type 0
IsInRange files picked at = ForSome picked (λ i. (i < length files) × (at ≤ length (bytes_of files i)))
