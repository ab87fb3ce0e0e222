-- The points of each routine, as they are found one after another.
use Rattle.std.proofs.Common.{◌≡◌, ℕ, zero, suc, ◌+◌, ◌<◌, ◌≤◌, ◌^◌, Bool, true, false, nat_eq, Global, List, Vec, map, take, [], ◌∷◌, ◌++◌, length, get_or, set, Option, None, Some, slice_get, refl, sym, ap, subst, ◌∙◌, inl, inr, arith, get_or-set_same, get_or-set_other, length-append}
use Rattle.std.specs.Prelude.{◌≢◌, if◌then◌else◌}
use Rattle.std.specs.List.{range_with_len}
use Rattle.std.specs.Option.{option_map}
use Rattle.std.proofs.lemmas.Bool.{cases_eq}
use Rattle.std.proofs.lemmas.Bool.Decides.{nat_tests}
use Rattle.std.proofs.lemmas.List.{ext_get_or, get_or-map, length-map, length-set, length-take-le, map-set, take_all, take_more}
use Rattle.std.proofs.lemmas.List.FromFn.{get_or-map-range_with_len, length-map-range_with_len}
use Rattle.std.proofs.lemmas.Option.{get_or_from_slice_get, slice_get-get_or, slice_get_within}
use Rattle.control_points.specs.declared.flow.Flow.{Flow}
use Rattle.control_points.specs.declared.point.Point.{Point}
use Rattle.control_points.specs.Chart.{numbers_from}
use Rattle.control_points.specs.Fits.{routine_at}
use Rattle.activations.specs.declared.routines.RoutinePoints.{RoutinePoints}
use Rattle.activations.specs.Calls.{points_of}
use Rattle.activations.specs.Found.{AreFirstPoints}
use Rattle.activations.specs.Parts.{ArePointsOf, lists_of}
use Rattle.activations.proofs.Blocks.{append_at_left, append_at_right, append_nil, in_either}

-- a number names each point
pub few_points : (f : Flow) → length f.points < 2 ^ 32
few_points f = f.points_few

-- ---- one more point

module _ {A : Type 0} (test : A → Bool) where
  numbers_push : (n m : ℕ) (xs : List A) (y : A) → n + length xs ≡ m → numbers_from n test (xs ++ y ∷ []) ≡ numbers_from n test xs ++ (if test y then m ∷ [] else [])
  numbers_push n m [] y e = ap (λ (k : ℕ). if test y then k ∷ [] else []) (omega (arith, e))
  numbers_push n m (x ∷ xs) y e = by (test x) (numbers_push (suc n) m xs y (omega (arith, e)))
    where
      by : (b : Bool) → numbers_from (suc n) test (xs ++ y ∷ []) ≡ numbers_from (suc n) test xs ++ (if test y then m ∷ [] else [])
          → (if b then n ∷ numbers_from (suc n) test (xs ++ y ∷ []) else numbers_from (suc n) test (xs ++ y ∷ [])) ≡ (if b then n ∷ numbers_from (suc n) test xs else numbers_from (suc n) test xs) ++ (if test y then m ∷ [] else [])
      by true rest = ap (λ (ks : List ℕ). n ∷ ks) rest
      by false rest = rest

  length-numbers : (n : ℕ) (xs : List A) → length (numbers_from n test xs) ≤ length xs
  length-numbers n [] = omega arith
  length-numbers n (x ∷ xs) = by (test x) (length-numbers (suc n) xs)
    where
      by : (b : Bool) → length (numbers_from (suc n) test xs) ≤ length xs → length (if b then n ∷ numbers_from (suc n) test xs else numbers_from (suc n) test xs) ≤ suc (length xs)
      by true rest = omega (arith, rest)
      by false rest = omega (arith, rest)

pub few_of_routine : (points : List Point) (r : ℕ) → length (points_of points r) ≤ length points
few_of_routine points r = length-numbers (λ (q : Point). nat_eq q.routine r) 0 points

module _ (points : List Point) (q : Point) where
  push_here : points_of (points ++ q ∷ []) q.routine ≡ points_of points q.routine ++ length points ∷ []
  push_here =
      let same : nat_eq q.routine q.routine ≡ true = grind (arith, nat_tests) in
      numbers_push (λ (p : Point). nat_eq p.routine q.routine) 0 (length points) points q (omega arith)
      ∙ ap (λ (b : Bool). points_of points q.routine ++ (if b then length points ∷ [] else [])) same

  push_other : (r : ℕ) → q.routine ≢ r → points_of (points ++ q ∷ []) r ≡ points_of points r
  push_other r other =
      let differs : nat_eq q.routine r ≡ false = grind (arith, nat_tests, other) in
      numbers_push (λ (p : Point). nat_eq p.routine r) 0 (length points) points q (omega arith)
      ∙ ap (λ (b : Bool). points_of points r ++ (if b then length points ∷ [] else [])) differs
      ∙ append_nil (points_of points r)

-- a list of values of a function, and one that changes at one number
module _ {B : Type 0} (f g : ℕ → B) (n k : ℕ) (d : B) (inside : k < n) (others : (i : ℕ) → k ≢ i → g i ≡ f i) where
  long : length (set (map f (range_with_len 0 n)) k (g k)) ≡ n
  long = length-set (map f (range_with_len 0 n)) k (g k) ∙ length-map-range_with_len f 0 n

  each : (i : ℕ) → i < n → get_or (set (map f (range_with_len 0 n)) k (g k)) i d ≡ get_or (map g (range_with_len 0 n)) i d
  each i below = elim (cases_eq k i) [
    | inl same ↦ subst (λ (j : ℕ). get_or (set (map f (range_with_len 0 n)) k (g k)) j d ≡ get_or (map g (range_with_len 0 n)) j d) same
        (get_or-set_same (map f (range_with_len 0 n)) k (g k) d (rw (length-map-range_with_len f 0 n) inside)
        ∙ sym (get_or-map-range_with_len g 0 n k k d inside (omega arith)))
    | inr other ↦ get_or-set_other (map f (range_with_len 0 n)) k i (g k) d (λ same. other (sym same))
        ∙ get_or-map-range_with_len f 0 n i i d below (omega arith) ∙ sym (others i other)
        ∙ sym (get_or-map-range_with_len g 0 n i i d below (omega arith))
  ]

  pub set_value : set (map f (range_with_len 0 n)) k (g k) ≡ map g (range_with_len 0 n)
  set_value = ext_get_or d (set (map f (range_with_len 0 n)) k (g k)) (map g (range_with_len 0 n)) (long ∙ sym (length-map-range_with_len g 0 n)) (λ i below. each i (subst (λ (m : ℕ). i < m) long below))

module _ (f : Flow) (n : ℕ) (r after : RoutinePoints) (q : Point) (inner new : Vec ℕ Global)
    (before : AreFirstPoints f n r) (known : slice_get f.points n ≡ Some q) (within : q.routine < length r.lists.items)
    (found : inner ≡ get_or r.lists.items q.routine inner) where
  abbrev lower : List Point
  lower = take n f.points

  bound : n < length f.points
  bound = slice_get_within f.points n q known

  pub more : take (n + 1) f.points ≡ lower ++ q ∷ []
  more = take_more f.points n q bound ∙ ap (λ (p : Point). lower ++ p ∷ []) (get_or_from_slice_get f.points n q q known)

  lower_long : length lower ≡ n
  lower_long = length-take-le n f.points (omega (arith, bound))

  abbrev items : Vec ℕ Global → List ℕ
  items v = v.items

  routines_long : length r.lists.items ≡ length f.program.routines
  routines_long = sym (length-map r.lists.items items) ∙ ap (λ (xs : List (List ℕ)). length xs) before.lists ∙ length-map-range_with_len (points_of lower) 0 (length f.program.routines)

  is_routine : q.routine < length f.program.routines
  is_routine = omega (arith, within, routines_long)

  pub listed : inner.items ≡ points_of lower q.routine
  listed = ap items found ∙ sym (get_or-map items r.lists.items q.routine inner [] within) ∙ ap (λ (xs : List (List ℕ)). get_or xs q.routine []) before.lists
      ∙ get_or-map-range_with_len (points_of lower) 0 (length f.program.routines) q.routine q.routine [] is_routine (omega arith)

  pub few_listed : length inner.items ≤ n
  few_listed = omega (arith, ap (λ (xs : List ℕ). length xs) listed, few_of_routine lower q.routine, lower_long)

  after_lists : after.lists.items ≡ set r.lists.items q.routine new → new.items ≡ inner.items ++ n ∷ []
      → lists_of after.lists.items ≡ map (points_of (lower ++ q ∷ [])) (range_with_len 0 (length f.program.routines))
  after_lists is pushed =
      let value : new.items ≡ points_of (lower ++ q ∷ []) q.routine =
      pushed ∙ ap (λ (xs : List ℕ). xs ++ n ∷ []) listed ∙ ap (λ (m : ℕ). points_of lower q.routine ++ m ∷ []) (sym lower_long) ∙ sym (push_here lower q) in
      ap (λ (vs : List (Vec ℕ Global)). lists_of vs) is
      ∙ map-set items r.lists.items q.routine new
      ∙ ap (λ (xs : List (List ℕ)). set xs q.routine new.items) before.lists
      ∙ ap (λ (v : List ℕ). set (map (points_of lower) (range_with_len 0 (length f.program.routines))) q.routine v) value
      ∙ set_value (points_of lower) (points_of (lower ++ q ∷ [])) (length f.program.routines) q.routine [] is_routine (λ i other. push_other lower q i other)

  ranked_before : (p s k : ℕ) → routine_at (lower ++ q ∷ []) p ≡ Some s → slice_get r.ranks.items p ≡ Some k → slice_get (points_of (lower ++ q ∷ []) s) k ≡ Some p
  ranked_before p s k stands rank =
      let small : p < length lower = omega (arith, slice_get_within r.ranks.items p k rank, before.ranks, lower_long) in
      let there : slice_get (lower ++ q ∷ []) p ≡ slice_get lower p = append_at_left lower (q ∷ []) p (get_or lower p q) (slice_get-get_or lower p q small) ∙ sym (slice_get-get_or lower p q small) in
      let here : routine_at lower p ≡ Some s = ap (λ o. option_map (λ (x : Point). x.routine) o) (sym there) ∙ stands in
      subst (λ (xs : List ℕ). slice_get xs k ≡ Some p) (sym (numbers_push (λ (x : Point). nat_eq x.routine s) 0 (length lower) lower q (omega arith)))
      (append_at_left (points_of lower s) (if nat_eq q.routine s then length lower ∷ [] else []) k p (before.ranked p s k here rank))

  last_at : (k m : ℕ) (x y : ℕ) → slice_get (x ∷ []) k ≡ Some y → (k ≡ 0) × (x ≡ y)
  last_at zero m x y h = (refl, grind (arith, h))
  last_at (suc k) m x y h = absurd (grind (arith, h))

  ranked_last : (s k : ℕ) → routine_at (lower ++ q ∷ []) (length lower) ≡ Some s → length inner.items ≡ k → slice_get (points_of (lower ++ q ∷ []) s) k ≡ Some (length lower)
  ranked_last s k stands is =
      let at : slice_get (lower ++ q ∷ []) (length lower + 0) ≡ Some q = append_at_right lower (q ∷ []) 0 q refl in
      let plain : length lower + 0 ≡ length lower = omega arith in
      let there : slice_get (lower ++ q ∷ []) (length lower) ≡ Some q = subst (λ (m : ℕ). slice_get (lower ++ q ∷ []) m ≡ Some q) plain at in
      let routine : Some q.routine ≡ Some s = sym (ap (λ o. option_map (λ (x : Point). x.routine) o) there) ∙ stands in
      let same : q.routine ≡ s = grind (arith, routine) in
      let rank : length (points_of lower q.routine) + 0 ≡ k = omega (arith, is, ap (λ (xs : List ℕ). length xs) listed) in
      subst (λ (t : ℕ). slice_get (points_of (lower ++ q ∷ []) t) k ≡ Some (length lower)) same
      (subst (λ (xs : List ℕ). slice_get xs k ≡ Some (length lower)) (sym (push_here lower q))
      (subst (λ (m : ℕ). slice_get (points_of lower q.routine ++ length lower ∷ []) m ≡ Some (length lower)) rank
      (append_at_right (points_of lower q.routine) (length lower ∷ []) 0 (length lower) refl)))

  after_ranked : after.ranks.items ≡ r.ranks.items ++ length inner.items ∷ []
      → (p s k : ℕ) → routine_at (lower ++ q ∷ []) p ≡ Some s → slice_get after.ranks.items p ≡ Some k → slice_get (points_of (lower ++ q ∷ []) s) k ≡ Some p
  after_ranked is p s k stands rank = elim (in_either r.ranks.items (length inner.items ∷ []) p k (subst (λ (xs : List ℕ). slice_get xs p ≡ Some k) is rank)) [
    | inl at ↦ ranked_before p s k stands at
    | inr at ↦
        let last = last_at at.place 0 (length inner.items) k at.is in
        let place : p ≡ length lower = omega (arith, at.number, last.0, before.ranks, lower_long) in
        subst (λ (m : ℕ). slice_get (points_of (lower ++ q ∷ []) s) k ≡ Some m) (sym place)
        (ranked_last s k (subst (λ (m : ℕ). routine_at (lower ++ q ∷ []) m ≡ Some s) place stands) last.1)
  ]

  pub one_more : after.lists.items ≡ set r.lists.items q.routine new → new.items ≡ inner.items ++ n ∷ [] → after.ranks.items ≡ r.ranks.items ++ length inner.items ∷ []
      → AreFirstPoints f (n + 1) after
  one_more lists pushed ranks = record {
    lists = subst (λ (ps : List Point). lists_of after.lists.items ≡ map (points_of ps) (range_with_len 0 (length f.program.routines))) (sym more) (after_lists lists pushed);
    ranks = ap (λ (xs : List ℕ). length xs) ranks ∙ simp length-append (omega (arith, before.ranks));
    ranked = subst (λ (ps : List Point). (p s k : ℕ) → routine_at ps p ≡ Some s → slice_get after.ranks.items p ≡ Some k → slice_get (points_of ps s) k ≡ Some p) (sym more) (after_ranked ranks);
  }

-- ---- the same by the routine of the point

point_by : (o : Option Point) (r : ℕ) → option_map (λ (q : Point). q.routine) o ≡ Some r → (q : Point) × (o ≡ Some q) × (q.routine ≡ r)
point_by None r h = absurd (grind (arith, h))
point_by (Some q) r h = (q, refl, grind (arith, h))

pub point_at : (points : List Point) (p r : ℕ) → routine_at points p ≡ Some r → (q : Point) × (slice_get points p ≡ Some q) × (q.routine ≡ r)
point_at points p r h = point_by (slice_get points p) r h

module _ (f : Flow) (n k : ℕ) (r after : RoutinePoints) (inner new : Vec ℕ Global) (before : AreFirstPoints f n r) (stands : routine_at f.points n ≡ Some k) where
  abbrev standing : (q : Point) × (slice_get f.points n ≡ Some q) × (q.routine ≡ k)
  standing = point_at f.points n k stands

  pub few_there : k < length r.lists.items → inner ≡ get_or r.lists.items k inner → length inner.items ≤ n
  few_there = subst (λ (s : ℕ). s < length r.lists.items → inner ≡ get_or r.lists.items s inner → length inner.items ≤ n) standing.2
      (λ within found. few_listed f n r after standing.0 inner new before standing.1 within found)

  pub one_more_there : k < length r.lists.items → inner ≡ get_or r.lists.items k inner → after.lists.items ≡ set r.lists.items k new
      → new.items ≡ inner.items ++ n ∷ [] → after.ranks.items ≡ r.ranks.items ++ length inner.items ∷ [] → AreFirstPoints f (n + 1) after
  one_more_there = subst (λ (s : ℕ). s < length r.lists.items → inner ≡ get_or r.lists.items s inner → after.lists.items ≡ set r.lists.items s new
      → new.items ≡ inner.items ++ n ∷ [] → after.ranks.items ≡ r.ranks.items ++ length inner.items ∷ [] → AreFirstPoints f (n + 1) after) standing.2
      (λ within found lists pushed ranks. one_more f n r after standing.0 inner new before standing.1 within found lists pushed ranks)

pub within_lists : (f : Flow) (n p k : ℕ) (r : RoutinePoints) → AreFirstPoints f n r → routine_at f.points p ≡ Some k → k < length r.lists.items
within_lists f n p k r before stands =
    let q = point_at f.points p k stands in
    let known = f.points_fit.routine p q.0 q.1 in
    let long : length r.lists.items ≡ length f.program.routines =
    sym (length-map r.lists.items (λ (v : Vec ℕ Global). v.items)) ∙ ap (λ (xs : List (List ℕ)). length xs) before.lists ∙ length-map-range_with_len (points_of (take n f.points)) 0 (length f.program.routines) in
    omega (arith, known, long, q.2)

-- ---- all of them

pub all_points : (f : Flow) (n : ℕ) (r : RoutinePoints) → n ≡ length f.points → AreFirstPoints f n r → ArePointsOf f r
all_points f n r all found =
    let whole : take n f.points ≡ f.points = take_all n f.points (omega (arith, all)) in
    record {
      lists = subst (λ (ps : List Point). lists_of r.lists.items ≡ map (points_of ps) (range_with_len 0 (length f.program.routines))) whole found.lists;
      ranks = found.ranks ∙ all;
      ranked = subst (λ (ps : List Point). (p s k : ℕ) → routine_at ps p ≡ Some s → slice_get r.ranks.items p ≡ Some k → slice_get (points_of ps s) k ≡ Some p) whole found.ranked;
    }
