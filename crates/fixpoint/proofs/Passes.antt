-- A pass over all places is the pass over the elements, and passes make a descent.
use Rattle.std.proofs.Common.{◌≡◌, ℕ, ℤ, zero, suc, ◌+◌, ◌*◌, ◌<◌, ◌≤◌, List, ◌∷◌, ◌++◌, length, refl, sym, ap, subst, ◌∙◌, inl, inr, arith, Bool, true, false, add-one, add-zero, length-append, zero-le}
use Rattle.std.specs.Prelude.{◌||◌, if◌then◌else◌, sum_by}
use Rattle.std.specs.Bool.{MatchBool, OnTrue, OnFalse}
use Rattle.std.specs.List.{Contains}
use Rattle.std.proofs.Math.Nat.{mul-le-mul_left}
use Rattle.std.proofs.lemmas.Bool.{OnFalse_at, OnTrue_at, cases_eq, cases_lt, false≢true, le-ltb, lt-ltb}
use Rattle.std.proofs.lemmas.List.Elements.{Contains-append_cases, Contains-append_left, Contains-append_right}
use Rattle.std.proofs.lemmas.List.Sums.{count_by-le-length, sum_by-append}
use Rattle.lattice.specs.Lattice.{Ops, IsLattice}
use Rattle.weak_order.specs.Order.{Elements, Layout, IsWeakOrder}
use Rattle.weak_order.specs.Order.Elements.{none, node, component}
use Rattle.fixpoint.specs.Ascent.{AreAtMost}
use Rattle.fixpoint.specs.Descent.{lowered, narrowed, pass, pass_changes, descent_changes, heads_of, IsDescent, KeepsHeads}
use Rattle.fixpoint.specs.Descent.IsDescent.{last, next}
use Rattle.fixpoint.specs.Marks.{Visits, marked}
use Rattle.fixpoint.specs.Members.{contains_cases, contains_first, contains_later}
use Rattle.fixpoint.specs.Passing.{node_at, end_at, stepped, ChangesHead, IsUpToDate, KeepsHead, slack}
use Rattle.fixpoint.specs.System.{System, Reads, change, element, readers, IsTable, IsSystem, IsLayoutOf}
use Rattle.fixpoint.proofs.Layouts.{LiesAt, lies_all, spread_along}
use Rattle.fixpoint.proofs.OneOutcome.{one_descent_changes}
use Rattle.fixpoint.proofs.Settling.{node_below}
use Rattle.fixpoint.proofs.Steps.{slack_at_false, slack_at_true, stepped_elsewhere, stepped_fits, up_to_date_after}

-- the table after the steps at the first n places
abbrev pub passed : {V : Type 0} → Ops V → System V → Layout → List V → List V → ℕ → List V
passed o s layout limits t zero = t
passed o s layout limits t (suc n) = stepped o s layout limits n (passed o s layout limits t n)

-- and how many nodes read those that the steps changed
abbrev pub owed : {V : Type 0} → Ops V → System V → Layout → List V → List V → ℕ → ℕ
owed o s layout limits t zero = 0
owed o s layout limits t (suc n) = owed o s layout limits t n
    + sum_by (readers s) (change o (passed o s layout limits t n) (stepped o s layout limits n (passed o s layout limits t n)) (node_at layout n))

-- A pass has come to a place; `changed` tells whether a head before it did. It began with the table t, marks and a count.
pub record IsPassing {V : Type 0} (o : Ops V) (s : System V) (layout : Layout) (limits t : List V) (before : List Bool) (began : ℕ)
    (n : ℕ) (changed : Bool) (u : List V) (marks : List Bool) (count : ℕ) : Type 0 where
  pub is : u ≡ passed o s layout limits t n
  pub fits : IsTable o s u
  pub untouched : (k : ℕ) → k < s.nodes → n ≤ k → element o u (node_at layout k) ≡ element o t (node_at layout k)
  pub keeps : changed ≡ false → (k : ℕ) → k < n → KeepsHead o layout t u k
  pub changes : changed ≡ true → (k : ℕ) × (k < n) × ChangesHead o layout t u k
  pub falls : slack o layout limits u s.nodes + (if changed then 1 else 0) ≤ slack o layout limits t s.nodes
  pub all : length marks ≡ s.nodes
  pub up_to_date : IsUpToDate o s layout limits marks u
  pub most : count ≤ began + n
  pub paid : count + marked marks ≤ began + marked before + owed o s layout limits t n

-- how many nodes read those of a list
abbrev pub reads_of : {V : Type 0} → System V → List ℕ → ℕ
reads_of s nodes = sum_by (readers s) nodes

reads_of-append : {V : Type 0} (s : System V) (xs ys : List ℕ) → reads_of s (xs ++ ys) ≡ reads_of s xs + reads_of s ys
reads_of-append s xs ys = sum_by-append (readers s) xs ys

-- a descent from a table is the rest of one from an earlier table, by changes that pay for what was spent
abbrev pub IsRest : {V : Type 0} → Ops V → System V → List V → Elements → List V → ℕ → List V → ℕ → Type 0
IsRest {V} o s limits elements start most now spent = (v : List V) (after : IsDescent o s limits elements now v)
    → (whole : IsDescent o s limits elements start v)
    × (spent + reads_of s (descent_changes o s limits elements now v after) ≤ most + reads_of s (descent_changes o s limits elements start v whole))

-- the heads of elements are the nodes at the places where components begin
lies_up : (layout : Layout) (xs : Elements) (p q : ℕ) → LiesAt layout xs p q → p ≤ q
lies_up layout xs p q lies = omega (arith, (spread_along layout xs p q lies).0)

heads_at : (layout : Layout) (xs : Elements) (p q k : ℕ) → LiesAt layout xs p q → p ≤ k → k < q → k < end_at layout k
    → Contains (heads_of xs) (node_at layout k)
heads_at layout none p q k lies from to long = absurd (omega (arith, lies, from, to))
heads_at layout (node i rest) p q k lies from to long = elim (cases_eq p k) [
  | inl same ↦ let ends = subst (λ (j : ℕ). end_at layout j ≡ j) same lies.2 in absurd (omega (arith, ends, long))
  | inr differs ↦ heads_at layout rest (p + 1) q k lies.3 (omega (arith, from, differs)) to long
]
heads_at layout (component head body rest) p q k lies from to long = elim (cases_eq p k) [
  | inl same ↦ subst (λ (h : ℕ). Contains (head ∷ heads_of body ++ heads_of rest) h) (sym lies.1 ∙ ap (node_at layout) same)
      (contains_first head (heads_of body ++ heads_of rest))
  | inr differs ↦ elim (cases_lt k (end_at layout p)) [
    | inl inner ↦ contains_later head (node_at layout k) (heads_of body ++ heads_of rest)
        (Contains-append_left (heads_of body) (heads_of rest) (node_at layout k)
        (heads_at layout body (p + 1) (end_at layout p) k lies.3 (omega (arith, from, differs)) inner long))
    | inr outer ↦ contains_later head (node_at layout k) (heads_of body ++ heads_of rest)
        (Contains-append_right (heads_of body) (heads_of rest) (node_at layout k)
        (heads_at layout rest (end_at layout p) q k lies.4 outer to long))
  ]
]

heads_from : (layout : Layout) (xs : Elements) (p q h : ℕ) → LiesAt layout xs p q → Contains (heads_of xs) h
    → (k : ℕ) × (p ≤ k) × (k < q) × (k < end_at layout k) × (node_at layout k ≡ h)
heads_from layout none p q h lies at = absurd (omega (arith, at.1))
heads_from layout (node i rest) p q h lies at =
    let inner = heads_from layout rest (p + 1) q h lies.3 at in
    (inner.0, omega (arith, inner.1), inner.2, inner.3, inner.4)
heads_from layout (component head body rest) p q h lies at =
    elim (contains_cases head h (heads_of body ++ heads_of rest) at.0 at.1 at.2) [
      | inl same ↦ (p, omega arith, lies.0, lies.2, lies.1 ∙ same)
      | inr later ↦ elim (Contains-append_cases (heads_of body) (heads_of rest) h later) [
        | inl in_body ↦
            let inner = heads_from layout body (p + 1) (end_at layout p) h lies.3 in_body in
            (inner.0, omega (arith, inner.1), omega (arith, inner.2, lies_up layout rest (end_at layout p) q lies.4), inner.3, inner.4)
        | inr in_rest ↦
            let inner = heads_from layout rest (end_at layout p) q h lies.4 in_rest in
            (inner.0, omega (arith, inner.1, lies.2), inner.2, inner.3, inner.4)
      ]
    ]

module _ {V P : Type 0} {has : V → P → Type 0} (o : Ops V) (laws : IsLattice o has) (s : System V) (system : IsSystem o s)
    (layout : Layout) (limits : List V) (order : IsWeakOrder (Reads s) s.nodes layout) (limits_fit : IsTable o s limits) where
  -- a pass begins
  pub pass_begins : (t : List V) (marks : List Bool) (c : ℕ) → IsTable o s t → length marks ≡ s.nodes → IsUpToDate o s layout limits marks t
      → IsPassing o s layout limits t marks c 0 false t marks c
  pass_begins t marks c fits all up_to_date = record {
    is = refl;
    fits = fits;
    untouched = λ k below past. refl;
    keeps = λ unchanged k before. absurd (omega (arith, before));
    changes = λ changed. absurd (false≢true changed);
    falls = omega arith;
    all = all;
    up_to_date = up_to_date;
    most = omega arith;
    paid = omega arith;
  }

  slack_step : (r : Bool) (t : List V) (n : ℕ) → n < s.nodes → IsTable o s t → OnTrue r (ChangesHead o layout t (stepped o s layout limits n t) n)
      → OnFalse r (KeepsHead o layout t (stepped o s layout limits n t) n)
      → slack o layout limits (stepped o s layout limits n t) s.nodes + (if r then 1 else 0) ≤ slack o layout limits t s.nodes
  slack_step true t n below fits changes keeps =
      let less = slack_at_true o laws s system layout limits order limits_fit t n below fits changes in omega (arith, less)
  slack_step false t n below fits changes keeps =
      let less = slack_at_false o laws s system layout limits order limits_fit t n below keeps in omega (arith, less)

  kept_more : (n k : ℕ) (t u : List V) → n < s.nodes → k < n
      → element o (stepped o s layout limits n u) (node_at layout k) ≡ element o u (node_at layout k)
  kept_more n k t u below before =
      stepped_elsewhere o laws s system layout limits order limits_fit u n k below (omega (arith, below, before)) (omega (arith, before))

  -- a pass comes one place further
  module _ (n : ℕ) (t u : List V) (before marks : List Bool) (began c : ℕ) (below : n < s.nodes) where
    keeps_more : (changed r : Bool) → IsPassing o s layout limits t before began n changed u marks c
        → OnFalse r (KeepsHead o layout u (stepped o s layout limits n u) n)
        → (changed || r) ≡ false → (k : ℕ) → k < n + 1 → KeepsHead o layout t (stepped o s layout limits n u) k
    keeps_more true r way keeps unchanged k lower = absurd (false≢true (sym unchanged))
    keeps_more false r way keeps unchanged k lower = elim (cases_lt k n) [
      | inl less ↦ λ long. kept_more n k t u below less ∙ way.keeps refl k less long
      | inr past ↦
          let same : n ≡ k = omega (arith, past, lower) in
          subst (λ (j : ℕ). KeepsHead o layout t (stepped o s layout limits n u) j) same
          (λ long. OnFalse_at unchanged keeps long ∙ way.untouched n below (omega arith))
    ]

    changes_more : (changed r : Bool) → IsPassing o s layout limits t before began n changed u marks c
        → OnTrue r (ChangesHead o layout u (stepped o s layout limits n u) n)
        → (changed || r) ≡ true → (k : ℕ) × (k < n + 1) × ChangesHead o layout t (stepped o s layout limits n u) k
    changes_more true r way changes changed =
        let at = way.changes refl in
        (at.0, omega (arith, at.1), (at.2.0, λ same. at.2.1 (sym (kept_more n at.0 t u below at.1) ∙ same)))
    changes_more false r way changes changed =
        let change = OnTrue_at changed changes in
        let here = way.untouched n below (omega arith) in
        (n, omega arith, (change.0, λ same. change.1 (same ∙ sym here)))

    falls_more : (changed r : Bool) → IsPassing o s layout limits t before began n changed u marks c
        → OnTrue r (ChangesHead o layout u (stepped o s layout limits n u) n) → OnFalse r (KeepsHead o layout u (stepped o s layout limits n u) n)
        → slack o layout limits (stepped o s layout limits n u) s.nodes + (if changed || r then 1 else 0) ≤ slack o layout limits t s.nodes
    falls_more true r way changes keeps =
        let less = slack_step r u n below way.fits changes keeps in omega (arith, less, way.falls)
    falls_more false r way changes keeps =
        let less = slack_step r u n below way.fits changes keeps in omega (arith, less, way.falls)

    owed_more : u ≡ passed o s layout limits t n
        → owed o s layout limits t (n + 1) ≡ owed o s layout limits t n + sum_by (readers s) (change o u (stepped o s layout limits n u) (node_at layout n))
    owed_more is = rw (is, add-one) refl

    step_at : (changed r : Bool) (after : List Bool) (d : ℕ) → IsPassing o s layout limits t before began n changed u marks c
        → OnTrue r (ChangesHead o layout u (stepped o s layout limits n u) n) → OnFalse r (KeepsHead o layout u (stepped o s layout limits n u) n)
        → Visits o s (node_at layout n) u (stepped o s layout limits n u) marks after c d
        → IsPassing o s layout limits t before began (n + 1) (changed || r) (stepped o s layout limits n u) after d
    step_at changed r after d way changes keeps visits = record {
      is = rw add-one (ap (stepped o s layout limits n) way.is);
      fits = stepped_fits o laws s system layout limits order limits_fit u n below way.fits;
      untouched = λ k below_k past. stepped_elsewhere o laws s system layout limits order limits_fit u n k below below_k (omega (arith, past))
          ∙ way.untouched k below_k (omega (arith, past));
      keeps = keeps_more changed r way keeps;
      changes = changes_more changed r way changes;
      falls = falls_more changed r way changes keeps;
      all = visits.size ∙ way.all;
      up_to_date = up_to_date_after o laws s system layout limits order limits_fit n u (stepped o s layout limits n u) marks after c d below way.fits refl visits
          way.up_to_date;
      most = omega (arith, visits.once, way.most);
      paid = omega (arith, visits.paid, way.paid, owed_more way.is);
    }

    pub pass_step : (changed r : Bool) (v : List V) (after : List Bool) (d : ℕ) → v ≡ stepped o s layout limits n u
        → IsPassing o s layout limits t before began n changed u marks c → OnTrue r (ChangesHead o layout u v n) → OnFalse r (KeepsHead o layout u v n)
        → Visits o s (node_at layout n) u v marks after c d → IsPassing o s layout limits t before began (n + 1) (changed || r) v after d
    pass_step changed r v after d is way changes keeps visits =
        rw is (step_at changed r after d way (rw is at changes) (rw is at keeps) (rw is at visits))

  -- the steps at the places of elements are the pass over them, and change its nodes
  next_table : (p k : ℕ) (t u v : List V) → u ≡ passed o s layout limits t p → v ≡ stepped o s layout limits p u → v ≡ passed o s layout limits t (p + 1)
  next_table p k t u v is stepped_to = rw add-one (stepped_to ∙ ap (stepped o s layout limits p) is)

  next_owed : (p k : ℕ) (t u v : List V) → u ≡ passed o s layout limits t p → v ≡ stepped o s layout limits p u → node_at layout p ≡ k
      → owed o s layout limits t (p + 1) ≡ owed o s layout limits t p + reads_of s (change o u v k)
  next_owed p k t u v is stepped_to here = rw (stepped_to, is, ← here, add-one) refl

  pass_along : (xs : Elements) (p q : ℕ) (t u : List V) → LiesAt layout xs p q → u ≡ passed o s layout limits t p
      → (pass o s limits xs u ≡ passed o s layout limits t q) × (owed o s layout limits t q ≡ owed o s layout limits t p + reads_of s (pass_changes o s limits xs u))
  pass_along none p q t u lies is =
      (is ∙ ap (passed o s layout limits t) lies, ap (owed o s layout limits t) (sym lies) ∙ sym (add-zero (owed o s layout limits t p)))
  pass_along (node k rest) p q t u lies is =
      let short = le-ltb p (end_at layout p) (omega (arith, lies.2)) in
      let here : lowered o s u k ≡ stepped o s layout limits p u = rw (short, lies.1) refl in
      let v = lowered o s u k in
      let one = next_owed p k t u v is here lies.1 in
      let after = pass_along rest (p + 1) q t v lies.3 (next_table p k t u v is here) in
      let sum = reads_of-append s (change o u v k) (pass_changes o s limits rest v) in
      (after.0, omega (arith, after.1, one, sum))
  pass_along (component head body rest) p q t u lies is =
      let long = lt-ltb p (end_at layout p) lies.2 in
      let here : narrowed o s limits u head ≡ stepped o s layout limits p u = rw (long, lies.1) refl in
      let v = narrowed o s limits u head in
      let w = pass o s limits body v in
      let one = next_owed p head t u v is here lies.1 in
      let inner = pass_along body (p + 1) (end_at layout p) t v lies.3 (next_table p head t u v is here) in
      let after = pass_along rest (end_at layout p) q t w lies.4 inner.0 in
      let changed = pass_changes o s limits body v in
      let first = change o u v head in
      let inner_sum = reads_of-append s first changed in
      let sum : reads_of s (pass_changes o s limits (component head body rest) u)
      ≡ reads_of s first + reads_of s changed + reads_of s (pass_changes o s limits rest w) =
      reads_of-append s (first ++ changed) (pass_changes o s limits rest w) ∙ ap (λ (m : ℕ). m + reads_of s (pass_changes o s limits rest w)) inner_sum in
      (after.0, omega (arith, inner.1, after.1, one, sum))

  lies_whole : (elements : Elements) → IsLayoutOf elements layout → LiesAt layout elements 0 s.nodes
  lies_whole elements is = rw order.places at (lies_all layout elements is)

  -- what a whole pass has made
  module _ (elements : Elements) (t u : List V) (before marks : List Bool) (began c : ℕ) (is : IsLayoutOf elements layout) where
    pub pass_is : (changed : Bool) → IsPassing o s layout limits t before began s.nodes changed u marks c → u ≡ pass o s limits elements t
    pass_is changed way = way.is ∙ sym (pass_along elements 0 s.nodes t t (lies_whole elements is) refl).0

    pub pass_paid : (changed : Bool) → IsPassing o s layout limits t before began s.nodes changed u marks c
        → c + marked marks ≤ began + marked before + reads_of s (pass_changes o s limits elements t)
    pass_paid changed way = let along = (pass_along elements 0 s.nodes t t (lies_whole elements is) refl).1 in omega (arith, along, way.paid)

    heads_changed : IsPassing o s layout limits t before began s.nodes true u marks c → ¬ KeepsHeads o elements t u
    heads_changed way keeps =
        let change = way.changes refl in
        change.2.1 (keeps (node_at layout change.0) (heads_at layout elements 0 s.nodes change.0 (lies_whole elements is) zero-le change.1 change.2.0))

    heads_kept : IsPassing o s layout limits t before began s.nodes false u marks c → KeepsHeads o elements t u
    heads_kept way head member =
        let at = heads_from layout elements 0 s.nodes head (lies_whole elements is) member in
        subst (λ (k : ℕ). element o u k ≡ element o t k) at.4 (way.keeps refl at.0 at.2 at.3)

    pub heads_told : (changed : Bool) → IsPassing o s layout limits t before began s.nodes changed u marks c
        → MatchBool changed (¬ KeepsHeads o elements t u) (KeepsHeads o elements t u)
    heads_told true way = heads_changed way
    heads_told false way = heads_kept way

  pub slack_told : (changed : Bool) (t u : List V) (before marks : List Bool) (began c : ℕ) → IsPassing o s layout limits t before began s.nodes changed u marks c
      → OnTrue changed (slack o layout limits u s.nodes < slack o layout limits t s.nodes)
  slack_told true t u before marks began c way = omega (arith, way.falls)
  slack_told false t u before marks began c way = tt

  pub rest_first : (elements : Elements) (start : List V) (began : ℕ) (marks : List Bool) → length marks ≡ s.nodes
      → IsRest o s limits elements start (began + s.nodes) start (began + marked marks)
  rest_first elements start began marks all v after =
      (after, omega (arith, count_by-le-length (λ (mark : Bool). mark) marks, all))

  module _ (elements : Elements) (start : List V) (most : ℕ) (now after : List V) (spent more : ℕ) (is : after ≡ pass o s limits elements now)
      (paid : more ≤ spent + reads_of s (pass_changes o s limits elements now)) (rest : IsRest o s limits elements start most now spent) where
    -- a pass that changes a head is followed by others
    from_pass : ¬ KeepsHeads o elements now (pass o s limits elements now) → IsRest o s limits elements start most (pass o s limits elements now) more
    from_pass changes v later =
        let whole = rest v (next changes later) in
        let sum = reads_of-append s (pass_changes o s limits elements now)
        (descent_changes o s limits elements (pass o s limits elements now) v later) in
        (whole.0, omega (arith, whole.1, sum, paid))

    pub rest_next : ¬ KeepsHeads o elements now after → IsRest o s limits elements start most after more
    rest_next changes =
        subst (λ (x : List V). IsRest o s limits elements start most x more) (sym is)
        (from_pass (subst (λ (x : List V). ¬ KeepsHeads o elements now x) is changes))

    -- and one that changes none is the last
    pub rest_last : KeepsHeads o elements now after
        → (whole : IsDescent o s limits elements start after) × (more ≤ most + reads_of s (descent_changes o s limits elements start after whole))
    rest_last keeps =
        let whole = rest after (last (subst (λ (x : List V). KeepsHeads o elements now x) is keeps) is) in
        (whole.0, omega (arith, whole.1, paid))

  -- each way to the table changes the same nodes
  pub descent_paid : (elements : Elements) (start u : List V) (most count : ℕ) (marks : List Bool) (whole : IsDescent o s limits elements start u)
      → count + marked marks ≤ most + reads_of s (descent_changes o s limits elements start u whole) → (way : IsDescent o s limits elements start u)
      → count ≤ most + reads_of s (descent_changes o s limits elements start u way)
  descent_paid elements start u most count marks whole paid way =
      let same = ap (reads_of s) (one_descent_changes o s limits elements start u u whole way) in
      omega (arith, paid, same)

  -- the heads can shrink as often as there are heads and heights
  slack_along : (h : ℕ) (steps : List ℤ) (xs : Elements) (p q : ℕ) (t : List V) → AreAtMost o s limits steps h → IsTable o s t → q ≤ s.nodes → LiesAt layout xs p q
      → slack o layout limits t q ≤ slack o layout limits t p + length (heads_of xs) * h
  slack_along h steps none p q t most fits below lies = rw lies (omega arith)
  slack_along h steps (node k rest) p q t most fits below lies =
      let short = le-ltb p (end_at layout p) (omega (arith, lies.2)) in
      let here : slack o layout limits t (p + 1) ≡ slack o layout limits t p = rw (add-one, short) (omega arith) in
      let after = slack_along h steps rest (p + 1) q t most fits below lies.3 in
      omega (arith, here, after)
  slack_along h steps (component head body rest) p q t most fits below lies =
      let long = lt-ltb p (end_at layout p) lies.2 in
      let k = node_at layout p in
      let at = node_below o laws s system layout limits order p (omega (arith, lies.0, below)) in
      let rank = laws.narrowing_bound (element o t k) (element o limits k) steps (fits.shapes k at ∙ sym (limits_fit.shapes k at)) in
      let here : slack o layout limits t (p + 1) ≡ slack o layout limits t p + o.narrowing_rank (element o limits k) (element o t k) =
      rw (add-one, long) refl in
      let inner = slack_along h steps body (p + 1) (end_at layout p) t most fits (omega (arith, lies_up layout rest (end_at layout p) q lies.4, below)) lies.3 in
      let after = slack_along h steps rest (end_at layout p) q t most fits below lies.4 in
      slack_sum _ _ _ _ _ _ h (length (heads_of body)) (length (heads_of rest)) _ here rank (most k at) inner after
      (ap suc (length-append (heads_of body) (heads_of rest)))
    where
      slack_sum : (before here inner all rank high h a b c : ℕ) → here ≡ before + rank → rank ≤ high → high ≤ h
          → inner ≤ here + a * h → all ≤ inner + b * h → c ≡ suc (a + b) → all ≤ before + c * h
      slack_sum before here inner all rank high h a b c is bounded most in_body in_rest heads =
          rw heads (omega (arith, is, bounded, most, in_body, in_rest))

  pub cost_next : (c0 c d bound t u : ℕ) → c + s.nodes * t ≤ c0 + bound → d ≤ c + s.nodes → u < t → d + s.nodes * u ≤ c0 + bound
  cost_next c0 c d bound t u before one falls = let less = mul-le-mul_left s.nodes falls in omega (arith, before, one, less)

  pub cost_last : (elements : Elements) (steps : List ℤ) (h : ℕ) (start now : List V) (c0 c d : ℕ) → IsLayoutOf elements layout
      → AreAtMost o s limits steps h → IsTable o s start
      → c + s.nodes * slack o layout limits now s.nodes ≤ c0 + s.nodes * slack o layout limits start s.nodes → d ≤ c + s.nodes
      → d ≤ c0 + s.nodes * (2 + length (heads_of elements) * h)
  cost_last elements steps h start now c0 c d is most fits cost one =
      let all = slack_along h steps elements 0 s.nodes start most fits (omega arith) (lies_whole elements is) in
      let less = mul-le-mul_left s.nodes all in
      omega (arith, cost, one, less)
