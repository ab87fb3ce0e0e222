-- Lists of arcs by nodes, and one more arc.
use Rattle.std.proofs.Common.{◌≡◌, ℕ, ◌<◌, Bool, true, false, nat_eq, Global, List, Vec, map, [], ◌∷◌, ◌++◌, length, get_or, set, refl, sym, ap, subst, ◌∙◌, inl, inr, arith, get_or-set_same, get_or-set_other}
use Rattle.std.specs.Prelude.{◌≢◌}
use Rattle.std.specs.List.{filter, range_with_len}
use Rattle.std.proofs.lemmas.Bool.{cases_eq}
use Rattle.std.proofs.lemmas.Bool.Decides.{nat_tests}
use Rattle.std.proofs.lemmas.List.{ext_get_or, get_or-map, length-map, length-set, map-set}
use Rattle.std.proofs.lemmas.List.Elements.{filter-append}
use Rattle.std.proofs.lemmas.List.FromFn.{get_or-map-range_with_len, length-map-range_with_len}
use Rattle.activations.specs.declared.arc.Arc.{Arc}
use Rattle.activations.specs.declared.arcs.Arcs.{Arcs}
use Rattle.activations.specs.Arcs.{arcs_from, arcs_into}
use Rattle.activations.specs.Listed.{AreListed}
use Rattle.activations.specs.Parts.{lists_of}

-- those arcs of which the key is the node
abbrev pub by_key : (Arc → ℕ) → List Arc → ℕ → List Arc
by_key key arcs n = filter (λ a. nat_eq (key a) n) arcs

filter_one : (test : Arc → Bool) (a : Arc) → test a ≡ true → filter test (a ∷ []) ≡ a ∷ []
filter_one test a h = rw h refl

filter_none : (test : Arc → Bool) (a : Arc) → test a ≡ false → filter test (a ∷ []) ≡ []
filter_none test a h = rw h refl

append_nil : (xs : List Arc) → xs ++ [] ≡ xs
append_nil [] = refl
append_nil (x ∷ xs) = ap (λ (ys : List Arc). x ∷ ys) (append_nil xs)

module _ (key : Arc → ℕ) (arcs : List Arc) (arc : Arc) where
  after_at : (i : ℕ) → key arc ≡ i → by_key key (arcs ++ arc ∷ []) i ≡ by_key key arcs i ++ arc ∷ []
  after_at i is = filter-append (λ a. nat_eq (key a) i) arcs (arc ∷ [])
      ∙ ap (λ (xs : List Arc). by_key key arcs i ++ xs) (filter_one (λ a. nat_eq (key a) i) arc (grind (arith, nat_tests, is)))

  after_other : (i : ℕ) → key arc ≢ i → by_key key (arcs ++ arc ∷ []) i ≡ by_key key arcs i
  after_other i other = filter-append (λ a. nat_eq (key a) i) arcs (arc ∷ [])
      ∙ ap (λ (xs : List Arc). by_key key arcs i ++ xs) (filter_none (λ a. nat_eq (key a) i) arc (grind (arith, nat_tests, other)))
      ∙ append_nil (by_key key arcs i)

  abbrev pub set_at : ℕ → List (List Arc)
  set_at nodes = set (map (by_key key arcs) (range_with_len 0 nodes)) (key arc) (by_key key arcs (key arc) ++ arc ∷ [])

  long_before : (nodes : ℕ) → length (map (by_key key arcs) (range_with_len 0 nodes)) ≡ nodes
  long_before nodes = length-map-range_with_len (by_key key arcs) 0 nodes

  each_at : (nodes i : ℕ) → key arc < nodes → i < nodes → get_or (set_at nodes) i [] ≡ get_or (map (by_key key (arcs ++ arc ∷ [])) (range_with_len 0 nodes)) i []
  each_at nodes i inside below = elim (cases_eq (key arc) i) [
    | inl same ↦ subst (λ (k : ℕ). get_or (set_at nodes) k [] ≡ get_or (map (by_key key (arcs ++ arc ∷ [])) (range_with_len 0 nodes)) k []) same
        (get_or-set_same (map (by_key key arcs) (range_with_len 0 nodes)) (key arc) (by_key key arcs (key arc) ++ arc ∷ []) [] (rw (long_before nodes) inside)
        ∙ sym (after_at (key arc) refl) ∙ sym (get_or-map-range_with_len (by_key key (arcs ++ arc ∷ [])) 0 nodes (key arc) (key arc) [] inside (omega arith)))
    | inr other ↦ get_or-set_other (map (by_key key arcs) (range_with_len 0 nodes)) (key arc) i (by_key key arcs (key arc) ++ arc ∷ []) [] (λ same. other (sym same))
        ∙ get_or-map-range_with_len (by_key key arcs) 0 nodes i i [] below (omega arith)
        ∙ sym (after_other i other) ∙ sym (get_or-map-range_with_len (by_key key (arcs ++ arc ∷ [])) 0 nodes i i [] below (omega arith))
  ]

  pub one_more : (nodes : ℕ) → key arc < nodes → set_at nodes ≡ map (by_key key (arcs ++ arc ∷ [])) (range_with_len 0 nodes)
  one_more nodes inside = ext_get_or [] (set_at nodes) (map (by_key key (arcs ++ arc ∷ [])) (range_with_len 0 nodes))
      (length-set (map (by_key key arcs) (range_with_len 0 nodes)) (key arc) (by_key key arcs (key arc) ++ arc ∷ []) ∙ long_before nodes ∙ sym (length-map-range_with_len (by_key key (arcs ++ arc ∷ [])) 0 nodes))
      (λ i below. each_at nodes i inside (subst (λ (k : ℕ). i < k) (length-set (map (by_key key arcs) (range_with_len 0 nodes)) (key arc) (by_key key arcs (key arc) ++ arc ∷ []) ∙ long_before nodes) below))

-- the same of the vectors that hold the lists
pub vec_more : (key : Arc → ℕ) (arcs : List Arc) (arc : Arc) (nodes : ℕ) (lists : List (Vec Arc Global)) (old new : Vec Arc Global)
    → lists_of lists ≡ map (by_key key arcs) (range_with_len 0 nodes) → key arc < length lists → old ≡ get_or lists (key arc) old → new.items ≡ old.items ++ arc ∷ []
    → lists_of (set lists (key arc) new) ≡ map (by_key key (arcs ++ arc ∷ [])) (range_with_len 0 nodes)
vec_more key arcs arc nodes lists old new is inside at pushed =
    let items = λ (v : Vec Arc Global). v.items in
    let long : length lists ≡ nodes = sym (length-map lists items) ∙ ap (λ (xs : List (List Arc)). length xs) is ∙ length-map-range_with_len (by_key key arcs) 0 nodes in
    let within : key arc < nodes = omega (arith, inside, long) in
    let here : old.items ≡ by_key key arcs (key arc) =
    ap items at ∙ sym (get_or-map items lists (key arc) old [] inside) ∙ ap (λ (xs : List (List Arc)). get_or xs (key arc) []) is
    ∙ get_or-map-range_with_len (by_key key arcs) 0 nodes (key arc) (key arc) [] within (omega arith) in
    map-set items lists (key arc) new
    ∙ ap (λ (xs : List Arc). set (lists_of lists) (key arc) xs) (pushed ∙ ap (λ (xs : List Arc). xs ++ arc ∷ []) here)
    ∙ ap (λ (xs : List (List Arc)). set xs (key arc) (by_key key arcs (key arc) ++ arc ∷ [])) is
    ∙ one_more key arcs arc nodes within

-- ---- how many lists there are

lists_long : (lists : List (Vec Arc Global)) (at : ℕ → List Arc) (n : ℕ) → lists_of lists ≡ map at (range_with_len 0 n) → length lists ≡ n
lists_long lists at n is = sym (length-map lists (λ v. v.items)) ∙ ap (λ (xs : List (List Arc)). length xs) is ∙ length-map-range_with_len at 0 n

pub incoming_long : (n : ℕ) (arcs : List Arc) (listed : Arcs) → AreListed n arcs listed → length listed.incoming.items ≡ n
incoming_long n arcs listed is = lists_long listed.incoming.items (arcs_into arcs) n is.incoming

pub outgoing_long : (n : ℕ) (arcs : List Arc) (listed : Arcs) → AreListed n arcs listed → length listed.outgoing.items ≡ n
outgoing_long n arcs listed is = lists_long listed.outgoing.items (arcs_from arcs) n is.outgoing
