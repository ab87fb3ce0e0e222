-- Systems of equations over a lattice, and tables of its values.
use Rattle.std.specs.Prelude.{◌≡◌, ℕ, ◌<◌, ◌≤◌, ◌&&◌, Bool, List, [], ◌∷◌, length, slice_index_or, nat_eq, count_by, if◌then◌else◌}
use Rattle.std.specs.List.{Contains, list_any}
use Rattle.lattice.specs.Lattice.{Ops}
use Rattle.weak_order.specs.Order.{Elements, Layout, nodes_of, ends_of, numbers}

-- One equation for each node, which gives a value of the node's shape.
pub record System (V : Type 0) : Type 0 where
  pub nodes : ℕ
  -- the nodes that the equation of a node reads
  pub reads : ℕ → List ℕ
  pub shape : ℕ → ℕ
  -- the value of a node's equation at a table
  pub value : ℕ → List V → V

-- the equation of v reads u
abbrev pub Reads : {V : Type 0} → System V → ℕ → ℕ → Type 0
Reads s u v = Contains (s.reads v) u

-- how many equations read a node
abbrev pub readers : {V : Type 0} → System V → ℕ → ℕ
readers s k = count_by (λ v. list_any (nat_eq k) (s.reads v)) (numbers s.nodes)

-- the element of a table at a node
abbrev pub element : {V : Type 0} → Ops V → List V → ℕ → V
element o table node = slice_index_or table node (o.bottom 0)

-- A table has one element for each node, of the node's shape.
pub record IsTable {V : Type 0} (o : Ops V) (s : System V) (table : List V) : Type 0 where
  pub size : length table ≡ s.nodes
  pub shapes : (k : ℕ) → k < s.nodes → o.shape (element o table k) ≡ s.shape k

-- limits and a table, each with one element for each node
pub record AreTables {V : Type 0} (o : Ops V) (s : System V) (limits table : List V) : Type 0 where
  pub limits_fit : IsTable o s limits
  pub table_fits : IsTable o s table

-- whether elements are the same: each is below the other
abbrev pub is_same : {V : Type 0} → Ops V → V → V → Bool
is_same o x y = o.below x y && o.below y x

-- the node, if its element isn't the same in both tables
abbrev pub change : {V : Type 0} → Ops V → List V → List V → ℕ → List ℕ
change o t u k = if is_same o (element o t k) (element o u k) then [] else k ∷ []

-- Each equation reads nodes of the system, gives a value of its node's shape, and is a function of what it reads.
pub record IsSystem {V : Type 0} (o : Ops V) (s : System V) : Type 0 where
  pub reads_nodes : (k r : ℕ) → k < s.nodes → Contains (s.reads k) r → r < s.nodes
  pub shapes : (k : ℕ) (table : List V) → k < s.nodes → IsTable o s table → o.shape (s.value k table) ≡ s.shape k
  pub local : (k : ℕ) (t u : List V) → k < s.nodes → IsTable o s t → IsTable o s u
      → ((r : ℕ) → Contains (s.reads k) r → element o t r ≡ element o u r) → s.value k t ≡ s.value k u

-- there is room for an element of each node's shape
abbrev pub HasRoom : {V : Type 0} → System V → ℕ → Type 0
HasRoom s room = (k : ℕ) → k < s.nodes → s.shape k ≤ room

-- the order is laid out so
pub record IsLayoutOf (elements : Elements) (layout : Layout) : Type 0 where
  pub nodes : layout.nodes ≡ nodes_of elements
  pub ends : layout.ends ≡ ends_of 0 elements
