-- Pieces for the numbers from 0, and one more.
use Rattle.std.proofs.Common.{◌≡◌, ℕ, ◌+◌, ◌<◌, Global, List, Vec, [], ◌∷◌, ◌++◌, get_or, length, map, refl, sym, ap, ◌∙◌, arith}
use Rattle.std.proofs.lemmas.List.{append-nil, append_assoc, get_or-map, length-map, map-id}
use Rattle.std.proofs.lemmas.List.FromFn.{get_or-map-range_with_len, length-map-range_with_len, map-range_with_len_more}
use Rattle.std.specs.List.{flat_map, range_with_len}
use Rattle.activations.specs.Parts.{lists_of}

pub range_more : (n : ℕ) → range_with_len 0 (n + 1) ≡ range_with_len 0 n ++ n ∷ []
range_more n =
    sym (map-id (range_with_len 0 (n + 1))) ∙ map-range_with_len_more (λ (i : ℕ). i) 0 n n (omega arith)
    ∙ ap (λ (xs : List ℕ). xs ++ n ∷ []) (map-id (range_with_len 0 n))

pub flat_map_both : {X A : Type 0} (f : X → List A) (xs ys : List X) → flat_map f (xs ++ ys) ≡ flat_map f xs ++ flat_map f ys
flat_map_both f [] ys = refl
flat_map_both {A = A} f (x ∷ xs) ys = ap (λ (zs : List A). f x ++ zs) (flat_map_both f xs ys) ∙ sym (append_assoc (f x) (flat_map f xs) (flat_map f ys))

pub flat_map_last : {X A : Type 0} (f : X → List A) (xs : List X) (x : X) → flat_map f (xs ++ x ∷ []) ≡ flat_map f xs ++ f x
flat_map_last {A = A} f xs x = flat_map_both f xs (x ∷ []) ∙ ap (λ (zs : List A). flat_map f xs ++ zs) (append-nil (f x))

pub pieces_more : {A : Type 0} (f : ℕ → List A) (n : ℕ) → flat_map f (range_with_len 0 (n + 1)) ≡ flat_map f (range_with_len 0 n) ++ f n
pieces_more f n = ap (flat_map f) (range_more n) ∙ flat_map_last f (range_with_len 0 n) n

-- vectors that have the lists of a function
pub mapped_long : {A : Type 0} (at : ℕ → List A) (n : ℕ) (lists : List (Vec A Global)) → lists_of lists ≡ map at (range_with_len 0 n) → length lists ≡ n
mapped_long {A = A} at n lists is = sym (length-map lists (λ (v : Vec A Global). v.items)) ∙ ap (λ (xs : List (List A)). length xs) is ∙ length-map-range_with_len at 0 n

pub mapped_at : {A : Type 0} (at : ℕ → List A) (n k : ℕ) (lists : List (Vec A Global)) (row : Vec A Global) → lists_of lists ≡ map at (range_with_len 0 n) → k < n → row ≡ get_or lists k row → row.items ≡ at k
mapped_at {A = A} at n k lists row is inside here =
    let items = λ (v : Vec A Global). v.items in
    let within : k < length lists = rw (mapped_long at n lists is) inside in
    ap items here ∙ sym (get_or-map items lists k row [] within) ∙ ap (λ (xs : List (List A)). get_or xs k []) is
    ∙ get_or-map-range_with_len at 0 n k k [] inside (omega arith)
