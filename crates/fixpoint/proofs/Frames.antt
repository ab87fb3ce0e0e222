-- What is left of an ascent by the definition: elements, and the components around them, each with the elements after it.
use Rattle.std.proofs.Common.{◌≡◌, ℕ, ℤ, ◌+◌, ◌<◌, ◌≤◌, true, List, [], ◌∷◌, ◌++◌, Option, Some, None, refl, sym, ap, subst, ◌∙◌, arith, append_assoc}
use Rattle.std.specs.Prelude.{IsTrue, IsFalse, sum_by, ⊤}
use Rattle.std.proofs.lemmas.List.Sums.{sum_by-append}
use Rattle.lattice.specs.Lattice.{Ops}
use Rattle.weak_order.specs.Order.{Elements, Layout, IsHeadAround}
use Rattle.weak_order.specs.Order.Elements.{none, node, component}
use Rattle.fixpoint.specs.Ascent.{evaluated, widened, is_done, Turns, Ascends, changes, turns_changes}
use Rattle.fixpoint.specs.Ascent.Turns.{done, turn}
use Rattle.fixpoint.specs.Passing.{node_at, end_at}
use Rattle.fixpoint.specs.System.{System, change, readers}
use Rattle.fixpoint.proofs.Layouts.{LiesAt, nothing_lies}
use Rattle.fixpoint.proofs.Places.{bound, one_head_around}

-- the component whose head has a place, and the elements after it
pub record Frame : Type 0 where
  pub head : ℕ
  pub body : Elements
  pub rest : Elements

-- the components around a place, from the innermost outwards
abbrev pub FramesLie : Layout → ℕ → Option ℕ → List Frame → Type 0
FramesLie layout n None [] = ⊤
FramesLie layout n None (f ∷ fs) = ⊥
FramesLie layout n (Some h) [] = ⊥
FramesLie layout n (Some h) (f ∷ fs) = (outer : Option ℕ) × (f.head ≡ h) × IsHeadAround layout.ends h outer
    × LiesAt layout f.body (h + 1) (end_at layout h) × LiesAt layout f.rest (end_at layout h) (bound layout n outer) × FramesLie layout n outer fs

module _ {V : Type 0} (o : Ops V) (s : System V) (limits : List V) (steps : List ℤ) (layout : Layout) where
  -- handling the elements, and then further turns of the components around them and the elements after these, leads from a table to another
  abbrev pub Continues : Elements → List Frame → List V → List V → Type 0
  Continues ys [] t u = Ascends o s limits steps ys t u
  Continues ys (f ∷ fs) t u = (m : List V) × Ascends o s limits steps ys t m
      × (w : List V) × Turns o s limits steps (node_at layout f.head) (Ascends o s limits steps f.body) true m w × Continues f.rest fs w u

  -- the nodes that it changes
  abbrev pub continued : (ys : Elements) (fs : List Frame) (t u : List V) → Continues ys fs t u → List ℕ
  continued ys [] t u way = changes o s limits steps ys t u way
  continued ys (f ∷ fs) t u way =
      changes o s limits steps ys t way.0 way.1
      ++ (turns_changes o s limits steps (node_at layout f.head) (Ascends o s limits steps f.body) (changes o s limits steps f.body) true way.0 way.2 way.3
      ++ continued f.rest fs way.2 u way.4)

  -- a way on leads back before a step, and changes these nodes besides
  abbrev pub LeadsBack : Elements → List Frame → List V → Elements → List Frame → List V → List ℕ → Type 0
  LeadsBack ys fs t zs gs v more = (u : List V) (way : Continues zs gs v u)
      → (back : Continues ys fs t u) × (continued ys fs t u back ≡ more ++ continued zs gs v u way)

  -- a node
  pub node_first : (k : ℕ) (rest : Elements) (fs : List Frame) (t : List V)
      → LeadsBack (node k rest) fs t rest fs (evaluated o s limits t k) (change o t (evaluated o s limits t k) k)
  node_first k rest [] t u way = (way, refl)
  node_first k rest (f ∷ fs) t u way = ((way.0, way.1, way.2, way.3, way.4), simp append_assoc)

  -- the first turn of a component
  pub enter_first : (h : ℕ) (body rest : Elements) (fs : List Frame) (t : List V) → let head = node_at layout h in
      LeadsBack (component head body rest) fs t body (record { head = h; body = body; rest = rest } ∷ fs) (widened o s limits steps t head)
      (change o t (widened o s limits steps t head) head)
  enter_first h body rest [] t u way = ((way.2, turn refl way.1 way.3, way.4), simp append_assoc)
  enter_first h body rest (f ∷ fs) t u way = ((way.4.0, (way.2, turn refl way.1 way.3, way.4.1), way.4.2, way.4.3, way.4.4), simp append_assoc)

  -- another turn
  pub again_first : (f : Frame) (fs : List Frame) (t : List V) → let head = node_at layout f.head in
      IsFalse (is_done o s limits head true t)
      → LeadsBack none (f ∷ fs) t f.body (f ∷ fs) (widened o s limits steps t head) (change o t (widened o s limits steps t head) head)
  again_first f fs t unsettled u way = ((t, refl, way.2, turn unsettled way.1 way.3, way.4), simp append_assoc)

  -- the end of the turns
  pub leave_first : (f : Frame) (fs : List Frame) (t : List V) → IsTrue (is_done o s limits (node_at layout f.head) true t)
      → LeadsBack none (f ∷ fs) t f.rest fs t []
  leave_first f fs t settled u way = ((t, refl, t, done settled refl, way), refl)

  -- how many nodes read the nodes of a list
  abbrev pub reads_of : List ℕ → ℕ
  reads_of nodes = sum_by (readers s) nodes

  -- the table to which a way on leads is one to which the elements lead from the start, by changes that pay for what was spent
  abbrev pub Pays : Elements → List V → ℕ → ℕ → Elements → List Frame → List V → Type 0
  Pays xs start most spent ys fs t = (u : List V) (way : Continues ys fs t u)
      → (whole : Ascends o s limits steps xs start u) × (spent + reads_of (continued ys fs t u way) ≤ most + reads_of (changes o s limits steps xs start u whole))

  -- and this is what is left at a place, inside a component
  abbrev pub Rests : ℕ → ℕ → Option ℕ → Elements → List V → ℕ → ℕ → List V → Type 0
  Rests n place inside xs start most spent t =
      (ys : Elements) × (fs : List Frame) × LiesAt layout ys place (bound layout n inside) × FramesLie layout n inside fs × Pays xs start most spent ys fs t

  abbrev pub IsLeft : ℕ → List V → ℕ → ℕ → ℕ → Option ℕ → List V → Type 0
  IsLeft n start most spent place inside t = (xs : Elements) → LiesAt layout xs 0 n → Rests n place inside xs start most spent t

  pub left_first : (n : ℕ) (start : List V) (most spent : ℕ) → spent ≤ most → IsLeft n start most spent 0 None start
  left_first n start most spent less xs lies = (xs, [], lies, tt, λ u way. (way, omega (arith, less)))

  pays_on : (xs : Elements) (start : List V) (most spent more : ℕ) (ys zs : Elements) (fs gs : List Frame) (t v : List V) (nodes : List ℕ)
      → Pays xs start most spent ys fs t → LeadsBack ys fs t zs gs v nodes → more ≤ spent + reads_of nodes → Pays xs start most more zs gs v
  pays_on xs start most spent more ys zs fs gs t v nodes pays leads less u way =
      let back = leads u way in
      let whole = pays u back.0 in
      let split = ap reads_of back.1 ∙ sum_by-append (readers s) nodes (continued zs gs v u way) in
      (whole.0, omega (arith, whole.1, split, less))

  module _ (n : ℕ) (start : List V) (most spent more : ℕ) (t : List V) where
    -- past a node
    rests_node : (xs : Elements) (place : ℕ) (inside : Option ℕ) (ys : Elements) (fs : List Frame) → let v = evaluated o s limits t (node_at layout place) in
        place < bound layout n inside → end_at layout place ≤ place → more ≤ spent + reads_of (change o t v (node_at layout place))
        → LiesAt layout ys place (bound layout n inside) → FramesLie layout n inside fs → Pays xs start most spent ys fs t
        → Rests n (place + 1) inside xs start most more v
    rests_node xs place inside none fs below short less lies frames pays = absurd (omega (arith, lies, below))
    rests_node xs place inside (node k rest) fs below short less lies frames pays =
        let leads = subst (λ (j : ℕ). LeadsBack (node k rest) fs t rest fs (evaluated o s limits t j) (change o t (evaluated o s limits t j) j)) (sym lies.1)
        (node_first k rest fs t) in
        (rest, fs, lies.3, frames, pays_on xs start most spent more (node k rest) rest fs fs t _ _ pays leads less)
    rests_node xs place inside (component head body rest) fs below short less lies frames pays = absurd (omega (arith, lies.2, short))

    pub left_node : (place : ℕ) (inside : Option ℕ) → let v = evaluated o s limits t (node_at layout place) in
        place < bound layout n inside → end_at layout place ≤ place → more ≤ spent + reads_of (change o t v (node_at layout place))
        → IsLeft n start most spent place inside t → IsLeft n start most more (place + 1) inside v
    left_node place inside below short less left xs lies =
        let here = left xs lies in
        rests_node xs place inside here.0 here.1 below short less here.2 here.3 here.4

    -- into a component
    rests_enter : (xs : Elements) (place : ℕ) (inside : Option ℕ) (ys : Elements) (fs : List Frame) → let v = widened o s limits steps t (node_at layout place) in
        place < bound layout n inside → place < end_at layout place → IsHeadAround layout.ends place inside
        → more ≤ spent + reads_of (change o t v (node_at layout place))
        → LiesAt layout ys place (bound layout n inside) → FramesLie layout n inside fs → Pays xs start most spent ys fs t
        → Rests n (place + 1) (Some place) xs start most more v
    rests_enter xs place inside none fs below long around less lies frames pays = absurd (omega (arith, lies, below))
    rests_enter xs place inside (node k rest) fs below long around less lies frames pays = absurd (omega (arith, lies.2, long))
    rests_enter xs place inside (component head body rest) fs below long around less lies frames pays =
        let f : Frame = record { head = place; body = body; rest = rest } in
        let v = widened o s limits steps t (node_at layout place) in
        let leads = subst (λ (j : ℕ). LeadsBack (component j body rest) fs t body (f ∷ fs) v (change o t v (node_at layout place))) lies.1
        (enter_first place body rest fs t) in
        (body, f ∷ fs, lies.3, (inside, refl, around, lies.3, lies.4, frames), pays_on xs start most spent more (component head body rest) body fs (f ∷ fs) t v _ pays leads less)

    pub left_enter : (place : ℕ) (inside : Option ℕ) → let v = widened o s limits steps t (node_at layout place) in
        place < bound layout n inside → place < end_at layout place → IsHeadAround layout.ends place inside
        → more ≤ spent + reads_of (change o t v (node_at layout place))
        → IsLeft n start most spent place inside t → IsLeft n start most more (place + 1) (Some place) v
    left_enter place inside below long around less left xs lies =
        let here = left xs lies in
        rests_enter xs place inside here.0 here.1 below long around less here.2 here.3 here.4

    -- to the head again
    rests_again : (xs : Elements) (h : ℕ) (ys : Elements) (fs : List Frame) → let v = widened o s limits steps t (node_at layout h) in
        IsFalse (is_done o s limits (node_at layout h) true t) → more ≤ spent + reads_of (change o t v (node_at layout h)) → ys ≡ none
        → FramesLie layout n (Some h) fs → Pays xs start most spent ys fs t
        → Rests n (h + 1) (Some h) xs start most more v
    rests_again xs h ys [] unsettled less nothing frames pays = absurd frames
    rests_again xs h ys (f ∷ fs) unsettled less nothing frames pays =
        let head = frames.1 in
        let leads = subst (λ (j : ℕ). LeadsBack none (f ∷ fs) t f.body (f ∷ fs) (widened o s limits steps t (node_at layout j))
        (change o t (widened o s limits steps t (node_at layout j)) (node_at layout j))) head (again_first f fs t (rw head unsettled)) in
        let pays_none = subst (λ (zs : Elements). Pays xs start most spent zs (f ∷ fs) t) nothing pays in
        (f.body, f ∷ fs, frames.3, frames, pays_on xs start most spent more none f.body (f ∷ fs) (f ∷ fs) t _ _ pays_none leads less)

    pub left_again : (h : ℕ) → let v = widened o s limits steps t (node_at layout h) in
        IsFalse (is_done o s limits (node_at layout h) true t) → more ≤ spent + reads_of (change o t v (node_at layout h))
        → IsLeft n start most spent (end_at layout h) (Some h) t → IsLeft n start most more (h + 1) (Some h) v
    left_again h unsettled less left xs lies =
        let here = left xs lies in
        rests_again xs h here.0 here.1 unsettled less (nothing_lies layout here.0 (end_at layout h) here.2) here.3 here.4

    -- out of a component
    rests_leave : (xs : Elements) (h : ℕ) (outer : Option ℕ) (ys : Elements) (fs : List Frame) → IsTrue (is_done o s limits (node_at layout h) true t)
        → IsHeadAround layout.ends h outer → more ≤ spent → ys ≡ none → FramesLie layout n (Some h) fs → Pays xs start most spent ys fs t
        → Rests n (end_at layout h) outer xs start most more t
    rests_leave xs h outer ys [] settled around less nothing frames pays = absurd frames
    rests_leave xs h outer ys (f ∷ fs) settled around less nothing frames pays =
        let same = one_head_around layout h frames.0 outer frames.2 around in
        let leads = leave_first f fs t (rw frames.1 settled) in
        let pays_none = subst (λ (zs : Elements). Pays xs start most spent zs (f ∷ fs) t) nothing pays in (
          f.rest,
          fs,
          subst (λ (x : Option ℕ). LiesAt layout f.rest (end_at layout h) (bound layout n x)) same frames.4,
          subst (λ (x : Option ℕ). FramesLie layout n x fs) same frames.5,
          pays_on xs start most spent more none f.rest (f ∷ fs) fs t t [] pays_none leads (omega (arith, less)),
        )

    pub left_leave : (h : ℕ) (outer : Option ℕ) → IsTrue (is_done o s limits (node_at layout h) true t) → IsHeadAround layout.ends h outer → more ≤ spent
        → IsLeft n start most spent (end_at layout h) (Some h) t → IsLeft n start most more (end_at layout h) outer t
    left_leave h outer settled around less left xs lies =
        let here = left xs lies in
        rests_leave xs h outer here.0 here.1 settled around less (nothing_lies layout here.0 (end_at layout h) here.2) here.3 here.4

  -- nothing is left
  rests_none : (n : ℕ) (xs : Elements) (start : List V) (most spent : ℕ) (t : List V) (ys : Elements) (fs : List Frame) → ys ≡ none → FramesLie layout n None fs
      → Pays xs start most spent ys fs t → (whole : Ascends o s limits steps xs start t) × (spent ≤ most + reads_of (changes o s limits steps xs start t whole))
  rests_none n xs start most spent t ys [] nothing frames pays =
      let all = (subst (λ (zs : Elements). Pays xs start most spent zs [] t) nothing pays) t refl in
      (all.0, omega (arith, all.1))
  rests_none n xs start most spent t ys (f ∷ fs) nothing frames pays = absurd frames

  pub left_none : (n : ℕ) (start : List V) (most spent : ℕ) (t : List V) → IsLeft n start most spent n None t → (xs : Elements) → LiesAt layout xs 0 n
      → (whole : Ascends o s limits steps xs start t) × (spent ≤ most + reads_of (changes o s limits steps xs start t whole))
  left_none n start most spent t left xs lies =
      let here = left xs lies in
      rests_none n xs start most spent t here.0 here.1 (nothing_lies layout here.0 n here.2) here.3 here.4
