-- A pass of a descent, place by place.
use Rattle.std.specs.Prelude.{◌≡◌, ◌≢◌, ℕ, zero, suc, ◌+◌, ◌<◌, Bool, List, slice_index, nat_lt, IsFalse, if◌then◌else◌}
use Rattle.lattice.specs.Lattice.{Ops}
use Rattle.weak_order.specs.Order.{Layout}
use Rattle.fixpoint.specs.Descent.{lowered, narrowed}
use Rattle.fixpoint.specs.Marks.{has_mark}
use Rattle.fixpoint.specs.System.{System, element}

-- the node at a place, and one past the component that begins there, or the place itself
abbrev pub node_at : Layout → ℕ → ℕ
node_at layout p = slice_index layout.nodes p

abbrev pub end_at : Layout → ℕ → ℕ
end_at layout p = slice_index layout.ends p

-- whether a component begins at a place
abbrev pub begins_component : Layout → ℕ → Bool
begins_component layout p = nat_lt p (end_at layout p)

-- the table after the step at a place
abbrev pub stepped : {V : Type 0} → Ops V → System V → Layout → List V → ℕ → List V → List V
stepped o s layout limits p t = if begins_component layout p then narrowed o s limits t (node_at layout p) else lowered o s t (node_at layout p)

-- the step at a node without a mark would leave the table as it is
abbrev pub IsUpToDate : {V : Type 0} → Ops V → System V → Layout → List V → List Bool → List V → Type 0
IsUpToDate o s layout limits marks t = (p : ℕ) → p < s.nodes → IsFalse (has_mark marks (node_at layout p)) → stepped o s layout limits p t ≡ t

-- how much the heads at the first n places can still shrink by narrowing
abbrev pub slack : {V : Type 0} → Ops V → Layout → List V → List V → ℕ → ℕ
slack o layout limits t zero = 0
slack o layout limits t (suc n) = slack o layout limits t n
    + (if begins_component layout n then o.narrowing_rank (element o limits (node_at layout n)) (element o t (node_at layout n)) else 0)

-- the head of the component that begins at a place is another element now
abbrev pub ChangesHead : {V : Type 0} → Ops V → Layout → List V → List V → ℕ → Type 0
ChangesHead o layout t u p = (p < end_at layout p) × (element o u (node_at layout p) ≢ element o t (node_at layout p))

-- it is as it was, if one begins there
abbrev pub KeepsHead : {V : Type 0} → Ops V → Layout → List V → List V → ℕ → Type 0
KeepsHead o layout t u p = p < end_at layout p → element o u (node_at layout p) ≡ element o t (node_at layout p)
