-- What the meaning of a program is told over: what its numbers stand for, and its points and edges.
use Rattle.std.specs.Prelude.{ℕ, suc, Bool, true, false, ◌&&◌, List, [], ◌∷◌, nat_eq, slice_get, if◌then◌else◌}
use Rattle.std.specs.Option.{option_map, unwrap_or}
use Rattle.std.specs.List.{position}
use Rattle.pas_program.specs.declared.routine.Assert.{Assert}
use Rattle.pas_program.specs.Tables.{Tables}
use Rattle.control_points.specs.declared.edge.Edge.{Edge}
use Rattle.control_points.specs.declared.point.Point.{Point}
use Rattle.control_points.specs.declared.point.PointKind.{PointKind}
use Rattle.control_points.specs.declared.point.PointKind.TheVariants as kind

pub record Chart : Type 0 where
  -- types, variables and routines by their numbers
  pub tables : Tables
  -- the routine that is the program's block
  pub main : ℕ
  pub asserts : List Assert
  pub points : List Point
  pub edges : List Edge
  -- the assertions that belong to each point
  pub asserts_at : List (List ℕ)

-- the numbers of those that pass a test, where the first has the number n
abbrev pub numbers_from : {A : Type 0} → ℕ → (A → Bool) → List A → List ℕ
numbers_from n test [] = []
numbers_from n test (x ∷ xs) = if test x then n ∷ numbers_from (suc n) test xs else numbers_from (suc n) test xs

-- the edges that leave a point, and those that lead to it
abbrev pub leaving : List Edge → ℕ → List ℕ
leaving edges p = numbers_from 0 (λ (e : Edge). nat_eq e.from p) edges

abbrev pub arriving : List Edge → ℕ → List ℕ
arriving edges p = numbers_from 0 (λ (e : Edge). nat_eq e.to p) edges

abbrev pub is_entry : PointKind → Bool
is_entry kind.Entry = true
is_entry _ = false

-- the entry of a routine
abbrev pub entry_of : List Point → ℕ → ℕ
entry_of points r = unwrap_or (position (λ (p : Point). is_entry p.kind && nat_eq p.routine r) points) 0

-- the place of a point in the source
abbrev pub place_of_point : List Point → ℕ → ℕ
place_of_point points p = unwrap_or (option_map (λ (q : Point). q.at) (slice_get points p)) 0
