-- The call that stands at a point: no other edge leaves its point.
use Rattle.std.proofs.Common.{◌≡◌, ℕ, suc, ◌+◌, ◌<◌, ◌≤◌, Bool, true, false, List, [], ◌∷◌, ◌++◌, take, get_or, length, nat_eq, Option, None, Some, slice_get, refl, sym, ap, subst, ◌∙◌, arith, length-append}
use Rattle.std.specs.List.{filter, flat_map}
use Rattle.std.specs.Option.{is_some, option_and_then, option_map}
use Rattle.std.proofs.lemmas.Bool.Decides.{nat_tests}
use Rattle.std.specs.Prelude.{if◌then◌else◌}
use Rattle.std.proofs.lemmas.Grind.{flat_map-append}
use Rattle.std.proofs.lemmas.List.{length-take-le, take_more}
use Rattle.std.proofs.lemmas.Option.{slice_get-get_or}
use Rattle.control_points.specs.declared.edge.Edge.{Edge}
use Rattle.control_points.specs.declared.point.Point.{Point}
use Rattle.control_points.specs.Chart.{leaving}
use Rattle.control_points.specs.Fits.{callee_of, routine_at}
use Rattle.alias_class.specs.Calls.{IsSite}
use Rattle.activations.specs.Calls.{is_call, points_of, sites_at}
use Rattle.activations.proofs.Blocks.{append_nil}
use Rattle.activations.proofs.FoundNodes.{IsAt}
use Rattle.activations.proofs.NumbersFrom.{all_pass}

-- the edge of a call that leaves a point
pub record IsCallAt (edges : List Edge) (p k : ℕ) : Type 0 where
  pub edge : Edge
  pub called : ℕ
  pub known : slice_get edges k ≡ Some edge
  pub is_call : callee_of edge.act ≡ Some called
  pub leaves : edge.from ≡ p

some_of : (o : Option ℕ) → is_some o ≡ true → (r : ℕ) × (o ≡ Some r)
some_of None h = absurd (grind (arith, h))
some_of (Some r) h = (r, refl)

pub calls_by : (edges : List Edge) (k : ℕ) (e : Edge) → slice_get edges k ≡ Some e → is_call edges k ≡ is_some (callee_of e.act)
calls_by edges k e known = ap (λ (o : Option Edge). is_some (option_and_then callee_of (option_map (λ (x : Edge). x.act) o))) known

-- a number of those that leave a point
pub record IsLeaving (edges : List Edge) (p k : ℕ) : Type 0 where
  pub edge : Edge
  pub known : slice_get edges k ≡ Some edge
  pub leaves : edge.from ≡ p

pub is_leaving : (edges : List Edge) (p i k : ℕ) → slice_get (leaving edges p) i ≡ Some k → IsLeaving edges p k
is_leaving edges p i k at =
    let found = all_pass (λ (e : Edge). nat_eq e.from p) 0 edges i k at in
    let place : found.place ≡ k = omega (arith, found.number) in
    record {
      edge = found.one;
      known = subst (λ (n : ℕ). slice_get edges n ≡ Some found.one) place found.is;
      leaves = grind (arith, nat_tests, found.passes);
    }

call_at_point : (edges : List Edge) (p k : ℕ) → IsLeaving edges p k → is_call edges k ≡ true → IsCallAt edges p k
call_at_point edges p k at calls =
    let called = some_of (callee_of at.edge.act) (sym (calls_by edges k at.edge at.known) ∙ calls) in
    record { edge = at.edge; called = called.0; known = at.known; is_call = called.1; leaves = at.leaves }

-- what a test of the action at a number says
pub call_tested : (edges es : List Edge) (k : ℕ) (d : Edge) (b t : Bool) → es ≡ edges → k < length es → t ≡ is_some (callee_of (get_or es k d).act) → t ≡ b → is_call edges k ≡ b
call_tested edges es k d b t same within tested is =
    subst (λ (l : List Edge). is_call l k ≡ b) same (calls_by es k (get_or es k d) (slice_get-get_or es k d within) ∙ sym tested ∙ is)

pub first_of : {A : Type 0} (xs : List A) (x : A) → slice_get xs 0 ≡ Some x → (rest : List A) × (xs ≡ x ∷ rest)
first_of [] x h = absurd (grind (arith, h))
first_of {A} (y ∷ xs) x h = let same : y ≡ x = grind (arith, h) in (xs, ap (λ (z : A). z ∷ xs) same)

-- ---- filtered lists

filter_by : {A : Type 0} (p : A → Bool) (x : A) (xs : List A) (b : Bool) → p x ≡ b → filter p (x ∷ xs) ≡ (if b then x ∷ filter p xs else filter p xs)
filter_by p x xs true is = rw is refl
filter_by p x xs false is = rw is refl

first_filtered : {A : Type 0} (p : A → Bool) (xs : List A) (y : A) (ys : List A) → filter p xs ≡ y ∷ ys → (p y ≡ true) × IsAt xs y
first_filtered p [] y ys h = absurd (grind (arith, h))
first_filtered {A} p (x ∷ xs) y ys h = by (p x) refl (first_filtered p xs y ys)
  where
    by : (b : Bool) → p x ≡ b → (filter p xs ≡ y ∷ ys → (p y ≡ true) × IsAt xs y) → (p y ≡ true) × IsAt (x ∷ xs) y
    by true is rest =
        let heads : x ∷ filter p xs ≡ y ∷ ys = sym (filter_by p x xs true is) ∙ h in
        let same : x ≡ y = grind (arith, heads) in
        (subst (λ (z : A). p z ≡ true) same is, record { number = 0; is = ap (λ (z : A). Some z) same })
    by false is rest =
        let found = rest (sym (filter_by p x xs false is) ∙ h) in
        (found.0, record { number = suc found.1.number; is = found.1.is })

none_filtered : {A : Type 0} (p : A → Bool) (xs : List A) → ((i : ℕ) (x : A) → slice_get xs i ≡ Some x → p x ≡ false) → filter p xs ≡ []
none_filtered p [] h = refl
none_filtered p (x ∷ xs) h = filter_by p x xs false (h 0 x refl) ∙ none_filtered p xs (λ i y at. h (suc i) y at)

-- ---- the site of a point

abbrev pub CallsStandAlone : List Edge → Type 0
CallsStandAlone edges = (k r : ℕ) (e : Edge) → slice_get edges k ≡ Some e → callee_of e.act ≡ Some r → leaving edges e.from ≡ k ∷ []

module _ (edges : List Edge) (alone : CallsStandAlone edges) (p : ℕ) where
  alone_at : (i k : ℕ) → slice_get (leaving edges p) i ≡ Some k → is_call edges k ≡ true → leaving edges p ≡ k ∷ []
  alone_at i k at calls =
      let found = call_at_point edges p k (is_leaving edges p i k at) calls in
      subst (λ (q : ℕ). leaving edges q ≡ k ∷ []) found.leaves (alone k found.called found.edge found.known found.is_call)

  pub site_none : leaving edges p ≡ [] → sites_at edges p ≡ []
  site_none is = ap (λ (ks : List ℕ). filter (is_call edges) ks) is

  pub site_first : (k : ℕ) (rest : List ℕ) → leaving edges p ≡ k ∷ rest → is_call edges k ≡ true → sites_at edges p ≡ k ∷ []
  site_first k rest is calls =
      let only = alone_at 0 k (ap (λ (ks : List ℕ). slice_get ks 0) is) calls in
      ap (λ (ks : List ℕ). filter (is_call edges) ks) only ∙ filter_by (is_call edges) k [] true calls

  fails_by : (k : ℕ) (rest : List ℕ) → leaving edges p ≡ k ∷ rest → is_call edges k ≡ false → (i j : ℕ) → slice_get (k ∷ rest) i ≡ Some j → (b : Bool) → is_call edges j ≡ b → b ≡ false
  fails_by k rest is fails i j at false calls = refl
  fails_by k rest is fails i j at true calls =
      let only = alone_at i j (ap (λ (ks : List ℕ). slice_get ks i) is ∙ at) calls in
      let heads : k ∷ rest ≡ j ∷ [] = sym is ∙ only in
      let same : k ≡ j = grind (arith, heads) in
      sym calls ∙ ap (is_call edges) (sym same) ∙ fails

  pub site_other : (k : ℕ) (rest : List ℕ) → leaving edges p ≡ k ∷ rest → is_call edges k ≡ false → sites_at edges p ≡ []
  site_other k rest is fails =
      ap (λ (ks : List ℕ). filter (is_call edges) ks) is ∙ none_filtered (is_call edges) (k ∷ rest) (λ i j at. fails_by k rest is fails i j at (is_call edges j) refl)

  few_by : (ks : List ℕ) → leaving edges p ≡ ks → length (sites_at edges p) ≤ 1
  few_by [] is = let none = ap (λ (js : List ℕ). length js) (site_none is) in omega (arith, none)
  few_by (k ∷ rest) is = by (is_call edges k) refl
    where
      by : (b : Bool) → is_call edges k ≡ b → length (sites_at edges p) ≤ 1
      by true calls = let one = ap (λ (js : List ℕ). length js) (site_first k rest is calls) in omega (arith, one)
      by false calls = let none = ap (λ (js : List ℕ). length js) (site_other k rest is calls) in omega (arith, none)

  pub few_sites_at : length (sites_at edges p) ≤ 1
  few_sites_at = few_by (leaving edges p) refl

pub few_sites : (edges : List Edge) → CallsStandAlone edges → (ps : List ℕ) → length (flat_map (sites_at edges) ps) ≤ length ps
few_sites edges alone [] = omega arith
few_sites edges alone (p ∷ ps) =
    let here = few_sites_at edges alone p in
    let rest = few_sites edges alone ps in
    omega (arith, here, rest, length-append (sites_at edges p) (flat_map (sites_at edges) ps))

pub few_before : (edges : List Edge) → CallsStandAlone edges → (ps : List ℕ) (i : ℕ) → i ≤ length ps → length (flat_map (sites_at edges) (take i ps)) ≤ i
few_before edges alone ps i within = let few = few_sites edges alone (take i ps) in omega (arith, few, length-take-le i ps within)

-- ---- a site is a call that stands in the routine of its point

pub site_is_call : (edges : List Edge) (p k : ℕ) (rest : List ℕ) → sites_at edges p ≡ k ∷ rest → IsCallAt edges p k
site_is_call edges p k rest is =
    let found = first_filtered (is_call edges) (leaving edges p) k rest is in
    call_at_point edges p k (is_leaving edges p found.1.number k found.1.is) found.0

pub site_in : (points : List Point) (edges : List Edge) (r p k : ℕ) (rest : List ℕ) → routine_at points p ≡ Some r → sites_at edges p ≡ k ∷ rest → IsSite points edges r k
site_in points edges r p k rest stands is =
    let found = site_is_call edges p k rest is in
    record { edge = found.edge; called = found.called; known = found.known; is_call = found.is_call; stands = ap (λ (q : ℕ). routine_at points q) found.leaves ∙ stands }

pub sites_more : (edges : List Edge) (ps : List ℕ) (i : ℕ) → i < length ps → flat_map (sites_at edges) (take (i + 1) ps) ≡ flat_map (sites_at edges) (take i ps) ++ sites_at edges (get_or ps i 0)
sites_more edges ps i below =
    ap (λ (qs : List ℕ). flat_map (sites_at edges) qs) (take_more ps i 0 below)
    ∙ flat_map-append (sites_at edges) (take i ps) (get_or ps i 0 ∷ [])
    ∙ ap (λ (ks : List ℕ). flat_map (sites_at edges) (take i ps) ++ ks) (append_nil (sites_at edges (get_or ps i 0)))

-- ---- the points of a routine

pub point_in : (points : List Point) (r k p : ℕ) → slice_get (points_of points r) k ≡ Some p → routine_at points p ≡ Some r
point_in points r k p h =
    let found = all_pass (λ (q : Point). nat_eq q.routine r) 0 points k p h in
    let is : found.place ≡ p = omega (arith, found.number) in
    let here : slice_get points p ≡ Some found.one = subst (λ (n : ℕ). slice_get points n ≡ Some found.one) is found.is in
    ap (λ (o : Option Point). option_map (λ (q : Point). q.routine) o) here ∙ ap (λ (n : ℕ). Some n) (grind (arith, nat_tests, found.passes))
