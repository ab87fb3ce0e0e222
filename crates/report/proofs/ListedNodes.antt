-- Lists of nodes by their points, and one more node.
use Rattle.std.proofs.Common.{◌≡◌, ℕ, ◌+◌, ◌<◌, Bool, true, false, nat_eq, Global, List, Vec, map, [], ◌∷◌, ◌++◌, length, get_or, set, refl, sym, ap, subst, ◌∙◌, inl, inr, arith, get_or-set_same, get_or-set_other}
use Rattle.std.specs.Prelude.{◌≢◌}
use Rattle.std.specs.List.{All, filter, range_with_len}
use Rattle.std.proofs.lemmas.Bool.{cases_eq}
use Rattle.std.proofs.lemmas.Bool.Decides.{nat_tests}
use Rattle.std.proofs.lemmas.List.{append-nil, ext_get_or, get_or-map, length-map, length-set, map-set}
use Rattle.std.proofs.lemmas.List.Elements.{All-filter, filter-append, filter_passes}
use Rattle.std.proofs.lemmas.List.FromFn.{get_or-map-range_with_len, get_or-range_with_len, length-map-range_with_len, length-range_with_len}
use Rattle.activations.specs.Drawn.{Drawn}
use Rattle.activations.specs.Fitting.{point_number}
use Rattle.activations.specs.Parts.{lists_of}
use Rattle.report.proofs.Ranges.{mapped_long, range_more}
use Rattle.report.specs.Nodes.{first_nodes_at, nodes_at}

filter_one : (test : ℕ → Bool) (n : ℕ) → test n ≡ true → filter test (n ∷ []) ≡ n ∷ []
filter_one test n h = rw h refl

filter_none : (test : ℕ → Bool) (n : ℕ) → test n ≡ false → filter test (n ∷ []) ≡ []
filter_none test n h = rw h refl

module _ (g : Drawn) (n : ℕ) where
  parted : (i : ℕ) → first_nodes_at g (n + 1) i ≡ first_nodes_at g n i ++ filter (λ node. nat_eq (point_number g node) i) (n ∷ [])
  parted i = ap (filter (λ node. nat_eq (point_number g node) i)) (range_more n) ∙ filter-append (λ node. nat_eq (point_number g node) i) (range_with_len 0 n) (n ∷ [])

  after_at : (i : ℕ) → point_number g n ≡ i → first_nodes_at g (n + 1) i ≡ first_nodes_at g n i ++ n ∷ []
  after_at i is = parted i ∙ ap (λ (xs : List ℕ). first_nodes_at g n i ++ xs) (filter_one (λ node. nat_eq (point_number g node) i) n (grind (arith, nat_tests, is)))

  after_other : (i : ℕ) → point_number g n ≢ i → first_nodes_at g (n + 1) i ≡ first_nodes_at g n i
  after_other i other =
      parted i ∙ ap (λ (xs : List ℕ). first_nodes_at g n i ++ xs) (filter_none (λ node. nat_eq (point_number g node) i) n (grind (arith, nat_tests, other))) ∙ append-nil (first_nodes_at g n i)

  abbrev pub lists_before : ℕ → List (List ℕ)
  lists_before points = map (first_nodes_at g n) (range_with_len 0 points)

  abbrev pub lists_after : ℕ → List (List ℕ)
  lists_after points = map (first_nodes_at g (n + 1)) (range_with_len 0 points)

  abbrev pub set_at : ℕ → List (List ℕ)
  set_at points = set (lists_before points) (point_number g n) (first_nodes_at g n (point_number g n) ++ n ∷ [])

  long_before : (points : ℕ) → length (lists_before points) ≡ points
  long_before points = length-map-range_with_len (first_nodes_at g n) 0 points

  each_at : (points i : ℕ) → point_number g n < points → i < points → get_or (set_at points) i [] ≡ get_or (lists_after points) i []
  each_at points i inside below = elim (cases_eq (point_number g n) i) [
    | inl same ↦ subst (λ (k : ℕ). get_or (set_at points) k [] ≡ get_or (lists_after points) k []) same
        (get_or-set_same (lists_before points) (point_number g n) (first_nodes_at g n (point_number g n) ++ n ∷ []) [] (rw (long_before points) inside)
        ∙ sym (after_at (point_number g n) refl) ∙ sym (get_or-map-range_with_len (first_nodes_at g (n + 1)) 0 points (point_number g n) (point_number g n) [] inside (omega arith)))
    | inr other ↦ get_or-set_other (lists_before points) (point_number g n) i (first_nodes_at g n (point_number g n) ++ n ∷ []) [] (λ same. other (sym same))
        ∙ get_or-map-range_with_len (first_nodes_at g n) 0 points i i [] below (omega arith)
        ∙ sym (after_other i other) ∙ sym (get_or-map-range_with_len (first_nodes_at g (n + 1)) 0 points i i [] below (omega arith))
  ]

  long_set : (points : ℕ) → length (set_at points) ≡ points
  long_set points = length-set (lists_before points) (point_number g n) (first_nodes_at g n (point_number g n) ++ n ∷ []) ∙ long_before points

  one_more : (points : ℕ) → point_number g n < points → set_at points ≡ lists_after points
  one_more points inside = ext_get_or [] (set_at points) (lists_after points)
      (long_set points ∙ sym (length-map-range_with_len (first_nodes_at g (n + 1)) 0 points))
      (λ i below. each_at points i inside (subst (λ (k : ℕ). i < k) (long_set points) below))

-- the same of the vectors that hold the lists
pub vec_more : (g : Drawn) (n points : ℕ) (lists : List (Vec ℕ Global)) (old new : Vec ℕ Global)
    → lists_of lists ≡ map (first_nodes_at g n) (range_with_len 0 points) → point_number g n < length lists → old ≡ get_or lists (point_number g n) old → new.items ≡ old.items ++ n ∷ []
    → lists_of (set lists (point_number g n) new) ≡ map (first_nodes_at g (n + 1)) (range_with_len 0 points)
vec_more g n points lists old new is inside at pushed =
    let items = λ (v : Vec ℕ Global). v.items in
    let key = point_number g n in
    let long : length lists ≡ points = sym (length-map lists items) ∙ ap (λ (xs : List (List ℕ)). length xs) is ∙ length-map-range_with_len (first_nodes_at g n) 0 points in
    let within : key < points = omega (arith, inside, long) in
    let here : old.items ≡ first_nodes_at g n key =
    ap items at ∙ sym (get_or-map items lists key old [] inside) ∙ ap (λ (xs : List (List ℕ)). get_or xs key []) is
    ∙ get_or-map-range_with_len (first_nodes_at g n) 0 points key key [] within (omega arith) in
    map-set items lists key new
    ∙ ap (λ (xs : List ℕ). set (lists_of lists) key xs) (pushed ∙ ap (λ (xs : List ℕ). xs ++ n ∷ []) here)
    ∙ ap (λ (xs : List (List ℕ)). set xs key (first_nodes_at g n key ++ n ∷ [])) is
    ∙ one_more g n points within

pub first_long : (g : Drawn) (n points : ℕ) (lists : List (Vec ℕ Global)) → lists_of lists ≡ map (first_nodes_at g n) (range_with_len 0 points) → length lists ≡ points
first_long g n points lists is = mapped_long (first_nodes_at g n) points lists is

range_below : (n : ℕ) → All (λ k. k < n) (range_with_len 0 n)
range_below n = λ k d inside.
    let below : k < n = subst (λ (m : ℕ). k < m) (length-range_with_len 0 n) inside in
    subst (λ (m : ℕ). m < n) (sym (get_or-range_with_len 0 n k d below)) (omega arith)

-- the nodes of a point are some of all nodes, and of this point
pub node_within : (g : Drawn) (p : ℕ) → All (λ node. node < length g.nodes) (nodes_at g p)
node_within g p = All-filter (λ node. nat_eq (point_number g node) p) (λ node. node < length g.nodes) (range_with_len 0 (length g.nodes)) (range_below (length g.nodes))

pub node_there : (g : Drawn) (p : ℕ) → All (λ node. nat_eq (point_number g node) p ≡ true) (nodes_at g p)
node_there g p = filter_passes (λ node. nat_eq (point_number g node) p) (range_with_len 0 (length g.nodes))

-- the same of a node of the list of a point
pub listed_within : (g : Drawn) (p i : ℕ) (listed : List ℕ) → listed ≡ nodes_at g p → i < length listed → get_or listed i 0 < length g.nodes
listed_within g p i listed is inside =
    let P : List ℕ → Type 0 = λ xs. All (λ node. node < length g.nodes) xs in
    let all : P listed = subst P (sym is) (node_within g p) in
    all i 0 inside

pub listed_there : (g : Drawn) (p i : ℕ) (listed : List ℕ) → listed ≡ nodes_at g p → i < length listed → point_number g (get_or listed i 0) ≡ p
listed_there g p i listed is inside =
    let P : List ℕ → Type 0 = λ xs. All (λ node. nat_eq (point_number g node) p ≡ true) xs in
    let all : P listed = subst P (sym is) (node_there g p) in
    grind (arith, nat_tests, all i 0 inside)
