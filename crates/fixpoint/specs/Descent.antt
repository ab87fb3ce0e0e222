-- The descending iteration after an ascent (Bourdoncle, FMPA 1993): whole passes with a narrowing at heads.
use Rattle.std.specs.Prelude.{◌≡◌, ℕ, List, [], ◌∷◌, ◌++◌, slice_set}
use Rattle.std.specs.List.{Contains}
use Rattle.std.proofs.Common.{subst, sym}
use Rattle.lattice.specs.Lattice.{Ops}
use Rattle.weak_order.specs.Order.{Elements, nodes_of}
use Rattle.weak_order.specs.Order.Elements.{none, node, component}
use Rattle.fixpoint.specs.Members.{contains_first, contains_later, contains_left, contains_right}
use Rattle.fixpoint.specs.System.{System, change, element}

-- the table in which a node was met with its equation's value
abbrev pub lowered : {V : Type 0} → Ops V → System V → List V → ℕ → List V
lowered o s table k = slice_set table k (o.meet (element o table k) (s.value k table))

-- the table in which a head was narrowed by its equation's value
abbrev pub narrowed : {V : Type 0} → Ops V → System V → List V → List V → ℕ → List V
narrowed o s limits table head = slice_set table head (o.narrow (element o table head) (s.value head table) (element o limits head))

-- the table after a pass over all nodes
abbrev pub pass : {V : Type 0} → Ops V → System V → List V → Elements → List V → List V
pass o s limits none t = t
pass o s limits (node k rest) t = pass o s limits rest (lowered o s t k)
pass o s limits (component head body rest) t = pass o s limits rest (pass o s limits body (narrowed o s limits t head))

abbrev pub heads_of : Elements → List ℕ
heads_of none = []
heads_of (node k rest) = heads_of rest
heads_of (component head body rest) = head ∷ heads_of body ++ heads_of rest

-- the heads are as they were
abbrev pub KeepsHeads : {V : Type 0} → Ops V → Elements → List V → List V → Type 0
KeepsHeads o elements t u = (head : ℕ) → Contains (heads_of elements) head → element o u head ≡ element o t head

-- the descent leads from a table to another: the passes end after one that changes no head
pub data IsDescent {V : Type 0} (o : Ops V) (s : System V) (limits : List V) (elements : Elements) : List V → List V → Type 0 where
  last : {t u : List V} → KeepsHeads o elements t (pass o s limits elements t) → u ≡ pass o s limits elements t → IsDescent o s limits elements t u
  next : {t u : List V} → ¬ KeepsHeads o elements t (pass o s limits elements t) → IsDescent o s limits elements (pass o s limits elements t) u
      → IsDescent o s limits elements t u

-- A descent is a list of tables, each of which differs from the one before at one node. These are the nodes at which they do.
abbrev pub pass_changes : {V : Type 0} → Ops V → System V → List V → Elements → List V → List ℕ
pass_changes o s limits none t = []
pass_changes o s limits (node k rest) t = change o t (lowered o s t k) k ++ pass_changes o s limits rest (lowered o s t k)
pass_changes o s limits (component head body rest) t =
    let low = narrowed o s limits t head in
    change o t low head ++ pass_changes o s limits body low ++ pass_changes o s limits rest (pass o s limits body low)

abbrev pub descent_changes : {V : Type 0} (o : Ops V) (s : System V) (limits : List V) (elements : Elements) (t u : List V)
    → IsDescent o s limits elements t u → List ℕ
descent_changes o s limits elements t u (last keeps is) = pass_changes o s limits elements t
descent_changes o s limits elements t u (next changes after) =
    pass_changes o s limits elements t ++ descent_changes o s limits elements (pass o s limits elements t) u after

-- what each step of a pass keeps, the pass keeps
pub pass_keeps : {V : Type 0} (o : Ops V) (s : System V) (limits : List V) (elements : Elements) (P : List V → Type 0)
    → ((k : ℕ) (t : List V) → Contains (nodes_of elements) k → P t → P (lowered o s t k))
    → ((k : ℕ) (t : List V) → Contains (nodes_of elements) k → P t → P (narrowed o s limits t k))
    → (t : List V) → P t → P (pass o s limits elements t)
pass_keeps o s limits none P lowers narrows t holds = holds
pass_keeps o s limits (node k rest) P lowers narrows t holds =
    pass_keeps o s limits rest P (λ i u at. lowers i u (contains_later k i (nodes_of rest) at)) (λ i u at. narrows i u (contains_later k i (nodes_of rest) at))
    (lowered o s t k) (lowers k t (contains_first k (nodes_of rest)) holds)
pass_keeps o s limits (component head body rest) P lowers narrows t holds =
    let members = nodes_of body ++ nodes_of rest in
    let in_body = contains_left head (nodes_of body) (nodes_of rest) in
    let in_rest = contains_right head (nodes_of body) (nodes_of rest) in
    let after_head = narrows head t (contains_first head members) holds in
    let after_body = pass_keeps o s limits body P (λ i u at. lowers i u (in_body i at)) (λ i u at. narrows i u (in_body i at)) (narrowed o s limits t head) after_head in
    pass_keeps o s limits rest P (λ i u at. lowers i u (in_rest i at)) (λ i u at. narrows i u (in_rest i at))
    (pass o s limits body (narrowed o s limits t head)) after_body

-- and so does the descent
pub descent_keeps : {V : Type 0} (o : Ops V) (s : System V) (limits : List V) (elements : Elements) (P : List V → Type 0)
    → ((k : ℕ) (t : List V) → Contains (nodes_of elements) k → P t → P (lowered o s t k))
    → ((k : ℕ) (t : List V) → Contains (nodes_of elements) k → P t → P (narrowed o s limits t k))
    → (t u : List V) → IsDescent o s limits elements t u → P t → P u
descent_keeps o s limits elements P lowers narrows t u (last keeps is) holds =
    subst P (sym is) (pass_keeps o s limits elements P lowers narrows t holds)
descent_keeps o s limits elements P lowers narrows t u (next changes after) holds =
    descent_keeps o s limits elements P lowers narrows (pass o s limits elements t) u after (pass_keeps o s limits elements P lowers narrows t holds)
