-- Elements lie where their layout says, and the lengths of their components add up.
use Rattle.std.proofs.Common.{◌≡◌, ℕ, zero, suc, ◌+◌, ◌-◌, ◌*◌, ◌<◌, List, [], ◌∷◌, ◌++◌, length, drop, refl, sym, ap, ◌∙◌, arith, append_assoc, length-append, add-zero, add-one}
use Rattle.std.specs.Prelude.{slice_index}
use Rattle.std.proofs.lemmas.List.{append-nil, drop-drop, drop_at, get_or-drop}
use Rattle.weak_order.specs.Order.{Elements, Layout, nodes_of, ends_of}
use Rattle.weak_order.specs.Order.Elements.{none, node, component}
use Rattle.fixpoint.specs.Ascent.{ascent_bound}
use Rattle.fixpoint.specs.Passing.{node_at, end_at}
use Rattle.fixpoint.specs.System.{IsLayoutOf}

-- the elements lie at the places from p to q
abbrev pub LiesAt : Layout → Elements → ℕ → ℕ → Type 0
LiesAt layout none p q = p ≡ q
LiesAt layout (node k rest) p q = (p < q) × (node_at layout p ≡ k) × (end_at layout p ≡ p) × LiesAt layout rest (p + 1) q
LiesAt layout (component head body rest) p q = (p < q) × (node_at layout p ≡ head) × (p < end_at layout p)
    × LiesAt layout body (p + 1) (end_at layout p) × LiesAt layout rest (end_at layout p) q

-- no elements lie where there is no place
pub nothing_lies : (layout : Layout) (xs : Elements) (p : ℕ) → LiesAt layout xs p p → xs ≡ none
nothing_lies layout none p lies = refl
nothing_lies layout (node k rest) p lies = absurd (omega (arith, lies.0))
nothing_lies layout (component head body rest) p lies = absurd (omega (arith, lies.0))

-- how many nodes there are, and how many each component has, in all
abbrev pub size : Elements → ℕ
size none = 0
size (node k rest) = 1 + size rest
size (component head body rest) = 1 + size body + size rest

abbrev pub weight : Elements → ℕ
weight none = 0
weight (node k rest) = weight rest
weight (component head body rest) = 1 + size body + weight body + weight rest

length-nodes_of : (xs : Elements) → length (nodes_of xs) ≡ size xs
length-nodes_of none = refl
length-nodes_of (node k rest) = omega (arith, length-nodes_of rest)
length-nodes_of (component head body rest) =
    omega (arith, length-nodes_of body, length-nodes_of rest, length-append (nodes_of body) (nodes_of rest))

length-ends_of : (xs : Elements) (p : ℕ) → length (ends_of p xs) ≡ size xs
length-ends_of none p = refl
length-ends_of (node k rest) p = omega (arith, length-ends_of rest (p + 1))
length-ends_of (component head body rest) p =
    let end = p + 1 + length (nodes_of body) in
    omega (arith, length-ends_of body (p + 1), length-ends_of rest end, length-append (ends_of (p + 1) body) (ends_of end rest))

-- the list from a place on
first_of_rest : (xs : List ℕ) (p y : ℕ) (ys : List ℕ) → drop p xs ≡ y ∷ ys → slice_index xs p ≡ y
first_of_rest xs p y ys is =
    let here = get_or-drop p xs 0 0 in
    rw (is, add-zero) at (sym here)

rest_of_rest : (xs : List ℕ) (p y : ℕ) (ys : List ℕ) → drop p xs ≡ y ∷ ys → drop (p + 1) xs ≡ ys
rest_of_rest xs p y ys is = sym (drop-drop 1 p xs) ∙ ap (λ (l : List ℕ). drop 1 l) is

past_rest : (xs : List ℕ) (p n : ℕ) (ys zs : List ℕ) → drop p xs ≡ ys ++ zs → length ys ≡ n → drop (p + n) xs ≡ zs
past_rest xs p n ys zs is long = sym (drop-drop n p xs) ∙ ap (λ (l : List ℕ). drop n l) is ∙ drop_at ys zs n long

pub lies_from : (layout : Layout) (xs : Elements) (p q : ℕ) (more_nodes more_ends : List ℕ) → q ≡ p + size xs
    → drop p layout.nodes ≡ nodes_of xs ++ more_nodes → drop p layout.ends ≡ ends_of p xs ++ more_ends → LiesAt layout xs p q
lies_from layout none p q more_nodes more_ends long nodes ends = omega (arith, long)
lies_from layout (node k rest) p q more_nodes more_ends long nodes ends =
    let after = lies_from layout rest (p + 1) q more_nodes more_ends (omega (arith, long))
    (rest_of_rest layout.nodes p k _ nodes) (rest_of_rest layout.ends p p _ ends) in
    (omega (arith, long), first_of_rest layout.nodes p k _ nodes, first_of_rest layout.ends p p _ ends, after)
lies_from layout (component head body rest) p q more_nodes more_ends long nodes ends =
    let end = p + 1 + length (nodes_of body) in
    let end_is : end_at layout p ≡ end = first_of_rest layout.ends p end _ ends in
    let nodes_after : drop (p + 1) layout.nodes ≡ nodes_of body ++ (nodes_of rest ++ more_nodes) =
    rest_of_rest layout.nodes p head _ nodes ∙ append_assoc (nodes_of body) (nodes_of rest) more_nodes in
    let ends_after : drop (p + 1) layout.ends ≡ ends_of (p + 1) body ++ (ends_of end rest ++ more_ends) =
    rest_of_rest layout.ends p end _ ends ∙ append_assoc (ends_of (p + 1) body) (ends_of end rest) more_ends in
    let body_lies : LiesAt layout body (p + 1) end =
    lies_from layout body (p + 1) end _ _ (omega (arith, length-nodes_of body)) nodes_after ends_after in
    let rest_lies : LiesAt layout rest end q =
    lies_from layout rest end q more_nodes more_ends (omega (arith, long, length-nodes_of body))
    (past_rest layout.nodes (p + 1) (length (nodes_of body)) (nodes_of body) _ nodes_after refl)
    (past_rest layout.ends (p + 1) (length (nodes_of body)) (ends_of (p + 1) body) _ ends_after
    (length-ends_of body (p + 1) ∙ sym (length-nodes_of body))) in
    (omega (arith, long), first_of_rest layout.nodes p head _ nodes, omega (arith, end_is), rw end_is body_lies, rw end_is rest_lies)

pub size_is : (layout : Layout) (xs : Elements) → IsLayoutOf xs layout → length layout.nodes ≡ size xs
size_is layout xs is = ap (λ (l : List ℕ). length l) is.nodes ∙ length-nodes_of xs

pub lies_all : (layout : Layout) (xs : Elements) → IsLayoutOf xs layout → LiesAt layout xs 0 (length layout.nodes)
lies_all layout xs is =
    lies_from layout xs 0 (length layout.nodes) [] [] (omega (arith, size_is layout xs is))
    (is.nodes ∙ sym (append-nil (nodes_of xs))) (is.ends ∙ sym (append-nil (ends_of 0 xs)))

-- the sum of the lengths of the components that begin before a place
abbrev pub spread : Layout → ℕ → ℕ
spread layout zero = 0
spread layout (suc n) = spread layout n + (end_at layout n - n)

pub spread_along : (layout : Layout) (xs : Elements) (p q : ℕ) → LiesAt layout xs p q
    → (q ≡ p + size xs) × (spread layout q ≡ spread layout p + weight xs)
spread_along layout none p q lies = (omega (arith, lies), ap (spread layout) (sym lies) ∙ sym (add-zero (spread layout p)))
spread_along layout (node k rest) p q lies =
    let after = spread_along layout rest (p + 1) q lies.3 in
    let here : spread layout (p + 1) ≡ spread layout p = rw add-one (omega (arith, lies.2)) in
    (omega (arith, after.0), omega (arith, after.1, here))
spread_along layout (component head body rest) p q lies =
    let inside = spread_along layout body (p + 1) (end_at layout p) lies.3 in
    let after = spread_along layout rest (end_at layout p) q lies.4 in
    let here : spread layout (p + 1) ≡ spread layout p + (end_at layout p - p) = rw add-one refl in
    (omega (arith, inside.0, after.0), omega (arith, inside.0, inside.1, after.1, here))

-- the bound, by the sizes and the lengths alone
pub bound_is : (h d : ℕ) (xs : Elements) → ascent_bound h d xs ≡ 2 * size xs + 2 * (h * weight xs) + 2 * (d * h * size xs)
bound_is h d none = omega arith
bound_is h d (node k rest) = omega (arith, bound_is h d rest)
bound_is h d (component head body rest) = omega (arith, bound_is h (d + 1) body, bound_is h d rest)
