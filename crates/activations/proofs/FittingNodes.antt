-- The node of a class and a point of its routine stands at its number.
use Rattle.std.proofs.Common.{◌≡◌, ℕ, zero, suc, ◌+◌, ◌<◌, Bool, true, false, List, [], ◌∷◌, length, nat_eq, Option, Some, slice_get, refl, sym, ap, subst, ◌∙◌, arith}
use Rattle.std.specs.List.{position_or_len}
use Rattle.std.specs.Option.{option_map}
use Rattle.std.proofs.lemmas.Bool.Decides.{nat_tests}
use Rattle.std.proofs.lemmas.Option.{slice_get-map}
use Rattle.control_points.specs.declared.flow.Flow.{Flow}
use Rattle.control_points.specs.declared.point.Point.{Point}
use Rattle.control_points.specs.Fits.{routine_at}
use Rattle.alias_class.specs.Cells.{routine_of}
use Rattle.alias_class.specs.Classes.{Class, class_at}
use Rattle.alias_class.specs.Outlines.{outline_of}
use Rattle.activations.specs.declared.node.Node.{Node}
use Rattle.activations.specs.Calls.{points_of}
use Rattle.activations.specs.Unfolding.{Unfolding, node_at, nodes_of, nodes_of_class, same_node, unfolding_of}
use Rattle.activations.proofs.Blocks.{at_block, blocks, in_block}
use Rattle.activations.proofs.FirstPlaces.{and_left, and_right, node_of}
use Rattle.activations.proofs.NodeNumbers.{node_is, point_in}
use Rattle.activations.proofs.NumbersFrom.{none_missed}
use Rattle.activations.proofs.StandingNodes.{point_by}

-- ---- the first that passes a test

module _ {A : Type 0} (test : A → Bool) where
  pub record IsFirst (xs : List A) : Type 0 where
    pub one : A
    pub there : slice_get xs (position_or_len test xs) ≡ Some one
    pub passes : test one ≡ true

  some_same : (x y : A) → Some x ≡ Some y → x ≡ y
  some_same x y h = grind arith

  here_by : (x : A) (xs : List A) → test x ≡ true → IsFirst (x ∷ xs)
  here_by x xs passes = let at : position_or_len test (x ∷ xs) ≡ 0 = rw passes refl in record {
    one = x;
    there = ap (λ (n : ℕ). slice_get (x ∷ xs) n) at;
    passes = passes;
  }

  later_by : (x : A) (xs : List A) → test x ≡ false → IsFirst xs → IsFirst (x ∷ xs)
  later_by x xs fails rest =
      let at : position_or_len test (x ∷ xs) ≡ suc (position_or_len test xs) = rw fails (omega arith) in
      record { one = rest.one; there = ap (λ (n : ℕ). slice_get (x ∷ xs) n) at ∙ rest.there; passes = rest.passes }

  first_by : (x : A) (xs : List A) (b : Bool) → test x ≡ b → (test x ≡ false → IsFirst xs) → IsFirst (x ∷ xs)
  first_by x xs true passes rest = here_by x xs passes
  first_by x xs false fails rest = later_by x xs fails (rest fails)

  not_both : (x y : A) → Some x ≡ Some y → test y ≡ true → test x ≡ false → IsFirst []
  not_both x y at passes fails = absurd (grind (arith, some_same x y at, passes, fails))

  pub first_is : (xs : List A) (n : ℕ) (y : A) → slice_get xs n ≡ Some y → test y ≡ true → IsFirst xs
  first_is [] n y at passes = absurd (grind arith)
  first_is (x ∷ xs) zero y at passes = here_by x xs (ap test (some_same x y at) ∙ passes)
  first_is (x ∷ xs) (suc n) y at passes = first_by x xs (test x) refl (λ _. first_is xs n y at passes)

-- ---- nodes

same_node_sound : (x y : Node) → same_node x y ≡ true → x ≡ y
same_node_sound x y h =
    let class : x.class ≡ y.class = grind (arith, nat_tests, and_left (nat_eq x.class y.class) (nat_eq x.point y.point) h) in
    let point : x.point ≡ y.point = grind (arith, nat_tests, and_right (nat_eq x.class y.class) (nat_eq x.point y.point) h) in
    ap (λ (i : ℕ). node_of i x.point) class ∙ ap (λ (p : ℕ). node_of y.class p) point

same_node_reflexive : (x : Node) → same_node x x ≡ true
same_node_reflexive x = grind (arith, nat_tests)

module _ (f : Flow) (classes : List Class) where
  abbrev pub u : Unfolding
  u = unfolding_of f classes

  -- a point of the routine of a class
  pub record StandsIn (i p : ℕ) : Type 0 where
    pub class : i < length classes
    pub stands : routine_at f.points p ≡ Some (routine_of (outline_of f) (class_at classes i))

  pub node_there : (i p : ℕ) → StandsIn i p → slice_get (nodes_of u) (node_at u i p) ≡ Some (node_of i p)
  node_there i p fits =
      let r = routine_of (outline_of f) (class_at classes i) in
      let point = point_by f p r (slice_get f.points p) refl fits.stands in
      let place = none_missed (λ (q : Point). nat_eq q.routine r) 0 f.points p point.one point.is (grind (arith, nat_tests, point.stands)) in
      let zero_more : 0 + p ≡ p = omega arith in
      let listed : slice_get (points_of f.points r) place.0 ≡ Some p = place.1 ∙ ap (λ (n : ℕ). Some n) zero_more in
      let here : slice_get (nodes_of_class u i) place.0 ≡ Some (node_of i p) =
      slice_get-map (λ q. record { class = i; point = q }) (points_of f.points r) place.0 ∙ ap (λ (o : Option ℕ). option_map (λ q. record { class = i; point = q }) o) listed in
      let at = at_block (nodes_of_class u) (length classes) i place.0 (node_of i p) fits.class here in
      let first = first_is (same_node (node_of i p)) (nodes_of u) (length (blocks (nodes_of_class u) i) + place.0) (node_of i p) at (same_node_reflexive (node_of i p)) in
      first.there ∙ ap (λ (x : Node). Some x) (sym (same_node_sound (node_of i p) first.one first.passes))

  -- each node is one of a class and a point of its routine
  pub node_stands_in : (n : ℕ) (x : Node) → slice_get (nodes_of u) n ≡ Some x → StandsIn x.class x.point
  node_stands_in n x at =
      let found = in_block (nodes_of_class u) (length classes) n x at in
      let is = node_is u found.block found.place x found.is in
      record {
        class = subst (λ (k : ℕ). k < length classes) (sym is.0) found.known;
        stands = point_in f (routine_of (outline_of f) (class_at classes found.block)) found.place x.point is.1
            ∙ ap (λ (k : ℕ). Some (routine_of (outline_of f) (class_at classes k))) (sym is.0);
      }
