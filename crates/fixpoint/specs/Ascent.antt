-- The ascending iteration inside limits, after Bourdoncle (FMPA 1993): the recursive strategy with a widening at heads.
use Rattle.std.specs.Prelude.{◌≡◌, ℕ, ℤ, ◌+◌, ◌*◌, ◌<◌, ◌≤◌, Bool, true, false, ◌&&◌, List, [], ◌++◌, map, slice_set, IsTrue, IsFalse}
use Rattle.std.specs.List.{Contains}
use Rattle.std.proofs.Common.{subst, sym}
use Rattle.lattice.specs.Lattice.{Ops}
use Rattle.weak_order.specs.Order.{Elements, nodes_of}
use Rattle.weak_order.specs.Order.Elements.{none, node, component}
use Rattle.fixpoint.specs.Members.{contains_first, contains_later, contains_left, contains_right}
use Rattle.fixpoint.specs.System.{System, change, element}

-- the value of a node's equation at a table, met with the node's limit
abbrev pub met : {V : Type 0} → Ops V → System V → List V → List V → ℕ → V
met o s limits table k = o.meet (s.value k table) (element o limits k)

-- the table in which a node became its equation's value, met with its limit
abbrev pub evaluated : {V : Type 0} → Ops V → System V → List V → List V → ℕ → List V
evaluated o s limits table k = slice_set table k (met o s limits table k)

-- the table in which a head was widened by its equation's value, met with its limit
abbrev pub widened : {V : Type 0} → Ops V → System V → List V → List ℤ → List V → ℕ → List V
widened o s limits steps table head = slice_set table head (o.widen (element o table head) (met o s limits table head) (element o limits head) steps)

-- a component is done where a whole turn was made and the value for the head lies within the head's element
abbrev pub is_done : {V : Type 0} → Ops V → System V → List V → ℕ → Bool → List V → Bool
is_done o s limits head turned table = turned && o.below (met o s limits table head) (element o table head)

-- the turns of a component lead from a table to another; the rest of the component is handled as `Rest` says
pub data Turns {V : Type 0} (o : Ops V) (s : System V) (limits : List V) (steps : List ℤ) (head : ℕ) (Rest : List V → List V → Type 0) : Bool → List V → List V → Type 0 where
  done : {turned : Bool} {t u : List V} → IsTrue (is_done o s limits head turned t) → u ≡ t → Turns o s limits steps head Rest turned t u
  turn : {turned : Bool} {t middle u : List V} → IsFalse (is_done o s limits head turned t)
      → Rest (widened o s limits steps t head) middle → Turns o s limits steps head Rest true middle u → Turns o s limits steps head Rest turned t u

-- handling the elements one after the other leads from a table to another
abbrev pub Ascends : {V : Type 0} → Ops V → System V → List V → List ℤ → Elements → List V → List V → Type 0
Ascends o s limits steps none t u = u ≡ t
Ascends o s limits steps (node k rest) t u = Ascends o s limits steps rest (evaluated o s limits t k) u
Ascends {V} o s limits steps (component head body rest) t u = (middle : List V)
    × Turns o s limits steps head (Ascends o s limits steps body) false t middle × Ascends o s limits steps rest middle u

-- the ascent begins with each node at the bottom
abbrev pub bottoms : {V : Type 0} → Ops V → List V → List V
bottoms o limits = map (λ limit. o.bottom (o.shape limit)) limits

abbrev pub IsAscent : {V : Type 0} → Ops V → System V → List V → List ℤ → Elements → List V → Type 0
IsAscent o s limits steps elements table = Ascends o s limits steps elements (bottoms o limits) table

-- An ascent is a list of tables, each of which differs from the one before at one node. These are the nodes at which they do.
abbrev pub turns_changes : {V : Type 0} (o : Ops V) (s : System V) (limits : List V) (steps : List ℤ) (head : ℕ) (Rest : List V → List V → Type 0)
    → ((t u : List V) → Rest t u → List ℕ) → (turned : Bool) (t u : List V) → Turns o s limits steps head Rest turned t u → List ℕ
turns_changes o s limits steps head Rest rest_changes turned t u (done settled is) = []
turns_changes o s limits steps head Rest rest_changes turned t u (turn {middle = m} unsettled rest after) =
    let wide = widened o s limits steps t head in
    change o t wide head ++ rest_changes wide m rest ++ turns_changes o s limits steps head Rest rest_changes true m u after

abbrev pub changes : {V : Type 0} (o : Ops V) (s : System V) (limits : List V) (steps : List ℤ) (elements : Elements) (t u : List V)
    → Ascends o s limits steps elements t u → List ℕ
changes o s limits steps none t u is = []
changes o s limits steps (node k rest) t u way =
    change o t (evaluated o s limits t k) k ++ changes o s limits steps rest (evaluated o s limits t k) u way
changes o s limits steps (component head body rest) t u way =
    turns_changes o s limits steps head (Ascends o s limits steps body) (changes o s limits steps body) false t way.0 way.1
    ++ changes o s limits steps rest way.0 u way.2

-- each element lies within its limit
abbrev pub IsWithin : {V : Type 0} → Ops V → System V → List V → List V → Type 0
IsWithin o s limits table = (k : ℕ) → k < s.nodes → IsTrue (o.below (element o table k) (element o limits k))

-- the value of a node's equation, met with the limit, is below the table's element
abbrev pub IsStableAt : {V : Type 0} → Ops V → System V → List V → List V → ℕ → Type 0
IsStableAt o s limits table k = IsTrue (o.below (met o s limits table k) (element o table k))

abbrev pub IsStable : {V : Type 0} → Ops V → System V → List V → List V → Type 0
IsStable o s limits table = (k : ℕ) → k < s.nodes → IsStableAt o s limits table k

-- no limit is higher than h with these steps
abbrev pub AreAtMost : {V : Type 0} → Ops V → System V → List V → List ℤ → ℕ → Type 0
AreAtMost o s limits steps h = (k : ℕ) → k < s.nodes → o.height (element o limits k) steps ≤ h

-- the sum of `2 * (1 + depth * h)` over the nodes of elements that stand in so many components
abbrev pub ascent_bound : ℕ → ℕ → Elements → ℕ
ascent_bound h depth none = 0
ascent_bound h depth (node k rest) = 2 * (1 + depth * h) + ascent_bound h depth rest
ascent_bound h depth (component head body rest) = 2 * (1 + (depth + 1) * h) + ascent_bound h (depth + 1) body + ascent_bound h depth rest

-- what widening the head and handling the rest keep, the turns keep
turns_keep : {V : Type 0} (o : Ops V) (s : System V) (limits : List V) (steps : List ℤ) (head : ℕ) (Rest : List V → List V → Type 0) (P : List V → Type 0)
    → ((t : List V) → P t → P (widened o s limits steps t head)) → ((t u : List V) → Rest t u → P t → P u)
    → (turned : Bool) (t u : List V) → Turns o s limits steps head Rest turned t u → P t → P u
turns_keep o s limits steps head Rest P widens rests turned t u (done settled is) holds = subst P (sym is) holds
turns_keep o s limits steps head Rest P widens rests turned t u (turn {middle = m} unsettled rest after) holds =
    turns_keep o s limits steps head Rest P widens rests true m u after (rests (widened o s limits steps t head) m rest (widens t holds))

-- what each single update keeps, the ascent keeps
pub ascent_keeps : {V : Type 0} (o : Ops V) (s : System V) (limits : List V) (steps : List ℤ) (elements : Elements) (P : List V → Type 0)
    → ((k : ℕ) (t : List V) → Contains (nodes_of elements) k → P t → P (evaluated o s limits t k))
    → ((k : ℕ) (t : List V) → Contains (nodes_of elements) k → P t → P (widened o s limits steps t k))
    → (t u : List V) → Ascends o s limits steps elements t u → P t → P u
ascent_keeps o s limits steps none P evaluates widens t u is holds = subst P (sym is) holds
ascent_keeps o s limits steps (node k rest) P evaluates widens t u way holds =
    ascent_keeps o s limits steps rest P (λ i v at. evaluates i v (contains_later k i (nodes_of rest) at)) (λ i v at. widens i v (contains_later k i (nodes_of rest) at))
    (evaluated o s limits t k) u way (evaluates k t (contains_first k (nodes_of rest)) holds)
ascent_keeps o s limits steps (component head body rest) P evaluates widens t u way holds =
    let in_body = contains_left head (nodes_of body) (nodes_of rest) in
    let in_rest = contains_right head (nodes_of body) (nodes_of rest) in
    let after_turns = turns_keep o s limits steps head (Ascends o s limits steps body) P (λ v. widens head v (contains_first head (nodes_of body ++ nodes_of rest)))
    (ascent_keeps o s limits steps body P (λ i v at. evaluates i v (in_body i at)) (λ i v at. widens i v (in_body i at)))
    false t way.0 way.1 holds in
    ascent_keeps o s limits steps rest P (λ i v at. evaluates i v (in_rest i at)) (λ i v at. widens i v (in_rest i at)) way.0 u way.2 after_turns
