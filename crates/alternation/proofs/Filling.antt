-- Tables that are filled node by node, and limits cell by cell.
use Rattle.std.proofs.Common.{◌≡◌, ℕ, zero, suc, ◌+◌, ◌-◌, ◌<◌, ◌≤◌, List, [], ◌∷◌, ◌++◌, Option, Some, length, map, get_or, take, replicate, set, refl, sym, ap, subst, ◌∙◌, arith, append_assoc, below_more, length-append, nat_cmp, unwrap_or}
use Rattle.std.specs.Prelude.{max}
use Rattle.std.specs.Ordering.{ord_max}
use Rattle.std.proofs.lemmas.Bool.Decides.{nat_tests}
use Rattle.std.specs.List.{range_with_len, slice_get}
use Rattle.std.proofs.lemmas.List.{length-map, length-replicate, map-append, set_at, take_all, take_more}
use Rattle.std.proofs.lemmas.Option.{get_or_from_slice_get, slice_get-map, slice_get_within}
use Rattle.std.proofs.lemmas.Simd.{map-map}
use Rattle.environment.specs.Environments.{Environment, undefined}
use Rattle.environment.specs.Environments.Environment.{Reachable}
use Rattle.environment.specs.Kept.{Roomy}
use Rattle.interval.specs.declared.val.Val.{Val}
use Rattle.alias_class.specs.Tables.{Table}
use Rattle.abstract_expr.specs.Standing.{cells_in}
use Rattle.activations.specs.Drawn.{Drawn}
use Rattle.activations.specs.Fitting.{class_number}
use Rattle.activations.specs.declared.node.Node.{Node}
use Rattle.alternation.specs.Limits.{cell_limit, class_limit}

-- ---- tables

-- one more node has its element
pub filled_more : (at : ℕ → Environment) (classes : List ℕ) (i c : ℕ) (table after : List Roomy) (e : Roomy) → slice_get classes i ≡ Some c
    → after ≡ table ++ e ∷ [] → e.env ≡ at c → map (λ (r : Roomy). r.env) table ≡ map at (take i classes)
    → map (λ (r : Roomy). r.env) after ≡ map at (take (i + 1) classes)
filled_more at classes i c table after e read added is before =
    let env = λ (r : Roomy). r.env in
    let inside = slice_get_within classes i c read in
    let value : get_or classes i 0 ≡ c = get_or_from_slice_get classes i c 0 read in
    let element : e.env ≡ at (get_or classes i 0) = is ∙ ap at (sym value) in
    ap (map env) added ∙ map-append env table (e ∷ []) ∙ ap (λ (x : Environment). map env table ++ x ∷ []) element
    ∙ ap (λ (es : List Environment). es ++ at (get_or classes i 0) ∷ []) before
    ∙ sym (map-append at (take i classes) (get_or classes i 0 ∷ [])) ∙ ap (map at) (sym (take_more classes i 0 inside))

-- all nodes have theirs
pub filled : (at : ℕ → Environment) (nodes : List Node) (i : ℕ) (table : List Environment) → length nodes ≤ i
    → table ≡ map at (take i (map (λ (n : Node). n.class) nodes)) → table ≡ map (λ (n : Node). at n.class) nodes
filled at nodes i table all is =
    let class = λ (n : Node). n.class in
    let within : length (map class nodes) ≤ i = omega (arith, all, length-map nodes class) in
    is ∙ ap (map at) (take_all i (map class nodes) within) ∙ map-map at class nodes

-- ---- limits

pub length_numbers : (a n : ℕ) → length (range_with_len a n) ≡ n
length_numbers a zero = refl
length_numbers a (suc n) = ap suc (length_numbers (a + 1) n)

one_more : (a n : ℕ) → range_with_len a n ++ (a + n) ∷ [] ≡ range_with_len a (suc n)
one_more a zero = let same : a + 0 ≡ a = omega arith in ap (λ (k : ℕ). k ∷ []) same
one_more a (suc n) =
    let same : a + suc n ≡ a + 1 + n = omega arith in
    ap (λ (k : ℕ). a ∷ (range_with_len (a + 1) n ++ k ∷ [])) same ∙ ap (λ (ks : List ℕ). a ∷ ks) (one_more (a + 1) n)

-- the first cells have their limits, and the others are undefined
abbrev pub limited_to : Table → ℕ → ℕ → ℕ → List Val
limited_to t class cells n = map (cell_limit t class) (range_with_len 0 n) ++ replicate (cells - n) undefined

pub limited_none : (t : Table) (class cells : ℕ) → replicate cells undefined ≡ limited_to t class cells 0
limited_none t class cells = let same : cells ≡ cells - 0 = omega arith in ap (λ (n : ℕ). replicate n undefined) same

pub limited_more : (t : Table) (class cells n : ℕ) → n < cells → set (limited_to t class cells n) n (cell_limit t class n) ≡ limited_to t class cells (n + 1)
limited_more t class cells n below =
    let limit = cell_limit t class in
    let done = map limit (range_with_len 0 n) in
    let rest = replicate (cells - (n + 1)) undefined in
    let left : cells - n ≡ suc (cells - (n + 1)) = omega (arith, below) in
    let long : length done ≡ n = length-map (range_with_len 0 n) limit ∙ length_numbers 0 n in
    let from_zero : n ≡ 0 + n = omega arith in
    let next : suc n ≡ n + 1 = omega arith in
    ap (λ (k : ℕ). set (done ++ replicate k undefined) n (limit n)) left ∙ set_at done undefined rest (limit n) n long
    ∙ sym (append_assoc done (limit n ∷ []) rest)
    ∙ ap (λ (vs : List Val). vs ++ rest) (ap (λ (k : ℕ). done ++ limit k ∷ []) from_zero ∙ sym (map-append limit (range_with_len 0 n) ((0 + n) ∷ []))
    ∙ ap (map limit) (one_more 0 n ∙ ap (range_with_len 0) next))

append_none : (vs : List Val) → vs ++ [] ≡ vs
append_none [] = refl
append_none (v ∷ vs) = ap (λ (ws : List Val). v ∷ ws) (append_none vs)

pub limited_all : (t : Table) (class cells n : ℕ) → cells ≤ n → n ≤ cells → cells ≡ cells_in t class → Reachable (limited_to t class cells n) ≡ class_limit t class
limited_all t class cells n all within is =
    let none : cells - n ≡ 0 = omega (arith, all) in
    let last : n ≡ cells = omega (arith, all, within) in
    let limit = cell_limit t class in
    ap Reachable (ap (λ (k : ℕ). map limit (range_with_len 0 n) ++ replicate k undefined) none ∙ append_none (map limit (range_with_len 0 n))
    ∙ ap (λ (k : ℕ). map limit (range_with_len 0 k)) (last ∙ is))

-- ---- classes

-- the class that is read of a node is one of those listed
pub class_read : (g : Drawn) (t : Table) (node c : ℕ) → t ≡ g.table → slice_get (map (λ (n : Node). n.class) g.nodes) node ≡ Some c
    → class_number g node < length g.table.classes → c < length t.classes
class_read g t node c same read below =
    let class = λ (n : Node). n.class in
    let number : class_number g node ≡ c = ap (λ (o : Option ℕ). unwrap_or o 0) (sym (slice_get-map class g.nodes node) ∙ read) in
    subst (λ (u : Table). c < length u.classes) (sym same) (subst (λ (k : ℕ). k < length g.table.classes) number below)

pub limited_count : (t : Table) (class cells n : ℕ) → n ≤ cells → length (limited_to t class cells n) ≡ cells
limited_count t class cells n within =
    let done = map (cell_limit t class) (range_with_len 0 n) in
    let whole : n + (cells - n) ≡ cells = omega (arith, within) in
    length-append done (replicate (cells - n) undefined)
    ∙ ap (λ (k : ℕ). k + length (replicate (cells - n) undefined)) (length-map (range_with_len 0 n) (cell_limit t class) ∙ length_numbers 0 n)
    ∙ ap (λ (k : ℕ). n + k) (length-replicate (cells - n) undefined) ∙ whole

-- ---- the greatest number of cells

max_is : (a b : ℕ) → ord_max nat_cmp a b ≡ max a b
max_is a b = grind (arith, nat_tests)

pub most_more : (cells : ℕ → ℕ) (n most next here : ℕ) → here ≡ cells n → next ≡ ord_max nat_cmp most here
    → ((class : ℕ) → class < n → cells class ≤ most) → (class : ℕ) → class < n + 1 → cells class ≤ next
most_more cells n most next here is greatest before =
    let greater : next ≡ max most here = greatest ∙ max_is most here in
    let new : cells n ≤ next = omega (arith, greater, is) in
    let old : (class : ℕ) → class < n → cells class ≤ next = λ class below. (let known : cells class ≤ most = before class below in omega (arith, known, greater)) in
    below_more (λ class. cells class ≤ next) n old new
