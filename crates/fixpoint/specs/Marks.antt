-- Marks of nodes: which of them are to be evaluated again.
use Rattle.std.specs.Prelude.{◌≡◌, ◌≢◌, ℕ, ◌+◌, ◌<◌, ◌≤◌, Bool, true, List, length, slice_index_or, count_by, sum_by, IsTrue, ◌⊎◌}
use Rattle.std.specs.List.{Contains}
use Rattle.lattice.specs.Lattice.{Ops}
use Rattle.fixpoint.specs.System.{System, Reads, change, element, readers}

-- whether a node has a mark
abbrev pub has_mark : List Bool → ℕ → Bool
has_mark marks k = slice_index_or marks k true

-- how many nodes have one
abbrev pub marked : List Bool → ℕ
marked marks = count_by (λ mark. mark) marks

-- the nodes of a list got a mark, and no others
pub record AddsMarks (nodes : List ℕ) (marks after : List Bool) : Type 0 where
  pub kept : (k : ℕ) → IsTrue (has_mark marks k) → IsTrue (has_mark after k)
  pub added : (k : ℕ) → Contains nodes k → IsTrue (has_mark after k)
  pub only : (k : ℕ) → IsTrue (has_mark after k) → IsTrue (has_mark marks k) ⊎ Contains nodes k

-- A node was visited, which made the table u of t: its mark was taken, and where its element changed its readers got one.
-- An evaluation is paid for by a mark.
pub record Visits {V : Type 0} (o : Ops V) (s : System V) (k : ℕ) (t u : List V) (marks after : List Bool) (count count_after : ℕ) : Type 0 where
  pub size : length after ≡ length marks
  pub kept : (m : ℕ) → m ≢ k → IsTrue (has_mark marks m) → IsTrue (has_mark after m)
  pub added : (m : ℕ) → m < s.nodes → Reads s k m → element o u k ≢ element o t k → IsTrue (has_mark after m)
  pub only : (m : ℕ) → IsTrue (has_mark after m) → ((m ≢ k) × IsTrue (has_mark marks m)) ⊎ (Reads s k m × (element o u k ≢ element o t k))
  pub once : count_after ≤ count + 1
  pub paid : count_after + marked after ≤ count + marked marks + sum_by (readers s) (change o t u k)
