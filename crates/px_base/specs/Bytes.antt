-- What the calls of a shelf, a source and a sink do to bytes. What there is may be told or not: `None` tells nothing,
-- and where nothing is told these facts say nothing.
use Rattle.std.specs.Prelude.{ℕ, ◌≤◌, ◌≡◌, ◌≢◌, List, [], ◌++◌, length, take, Option, Some, None}
use Rattle.std.specs.Option.{ForSome}

-- The bytes that were left are the piece and a rest, and this rest is left.
abbrev pub Gives : Option (List ℕ) → Option (List ℕ) → List ℕ → Type 0
Gives old new piece =
    ForSome old (λ bytes. (rest : List ℕ) × (bytes ≡ piece ++ rest) × (new ≡ Some rest))

-- Nothing is left.
abbrev pub IsAtEnd : Option (List ℕ) → Type 0
IsAtEnd left = ForSome left (λ bytes. bytes ≡ [])

-- The piece has come behind the bytes that were taken before.
abbrev pub Adds : Option (List ℕ) → Option (List ℕ) → List ℕ → Type 0
Adds old new piece = ForSome old (λ bytes. new ≡ Some (bytes ++ piece))

-- The bytes that were taken are those from before.
abbrev pub Keeps : Option (List ℕ) → Option (List ℕ) → Type 0
Keeps old new = ForSome old (λ bytes. new ≡ Some bytes)

-- A prefix of the piece has come behind the bytes that were taken before.
abbrev pub AddsPrefix : Option (List ℕ) → Option (List ℕ) → List ℕ → Type 0
AddsPrefix old new piece = (n : ℕ) × (n ≤ length piece) × Adds old new (take n piece)

-- What is told of the file under a name: there is one, and this holds of its bytes.
pub record ForFile (file : Option (Option (List ℕ))) (P : List ℕ → Type 0) : Type 0 where
  pub there : file ≢ Some None
  pub bytes : (bytes : List ℕ) → file ≡ Some (Some bytes) → P bytes
