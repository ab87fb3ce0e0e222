-- An ascent while it walks along the order: what holds before each visit, and that each visit keeps it.
use Rattle.std.proofs.Common.{◌≡◌, ℕ, ℤ, ◌+◌, ◌-◌, ◌*◌, ◌<◌, ◌≤◌, Bool, true, false, List, Option, Some, None, length, set, refl, sym, ap, ◌∙◌, arith}
use Rattle.std.specs.Prelude.{IsTrue, IsFalse, ◌≢◌, is_some, not, sum_by}
use Rattle.std.proofs.lemmas.Bool.{both_ways, false≢true}
use Rattle.std.proofs.lemmas.List.Sums.{count_by-le-length}
use Rattle.lattice.specs.Lattice.{Ops, IsLattice, AreSteps}
use Rattle.weak_order.specs.Order.{Elements, Layout, IsHeadAround, IsWeakOrder}
use Rattle.fixpoint.specs.Ascent.{met, evaluated, widened, is_done, bottoms, Ascends, changes, IsStable}
use Rattle.fixpoint.specs.Marks.{Visits, has_mark, marked}
use Rattle.fixpoint.specs.Passing.{node_at, end_at}
use Rattle.fixpoint.specs.Progress.{IsInside}
use Rattle.fixpoint.specs.System.{System, Reads, element, readers, IsTable, IsSystem}
use Rattle.fixpoint.proofs.Frames.{IsLeft, left_again, left_enter, left_first, left_leave, left_node, left_none}
use Rattle.fixpoint.proofs.Layouts.{LiesAt}
use Rattle.fixpoint.proofs.Places.{IsPlaced, bound, bound_within, depth, depth_inside, around_entered, placed_enter, placed_first, placed_leave, placed_node}
use Rattle.fixpoint.proofs.Potential.{evaluated_potential, first_turn_potential, potential, turn_potential}
use Rattle.fixpoint.proofs.Settling.{AreClosed, AreSettled, closed_again, closed_entered, closed_left, closed_node, node_below, settled_after, stable_all}
use Rattle.fixpoint.proofs.Bottoms.{bottoms_inside}
use Rattle.fixpoint.proofs.Tables.{element-set_other, element-set_same}
use Rattle.fixpoint.proofs.Updates.{evaluated_inside, may_widen, widened_inside}
use Rattle.fixpoint.proofs.Visiting.{no_change}

-- how many visits are left at most: two for each place from here on, two for each place of a head's component whenever it grows, and a test of each component around
abbrev pub visits_left : {V : Type 0} → Ops V → Layout → List V → List ℤ → ℕ → ℕ → Option ℕ → List V → ℕ
visits_left o layout limits steps n place inside t = 2 * potential o layout limits steps t n + 2 * (n - place) + depth layout inside

-- before a visit: the walk stands before a place, inside a component; `count` evaluations were made, from `began` on
pub record IsWalking {V : Type 0} (o : Ops V) (s : System V) (layout : Layout) (limits : List V) (steps : List ℤ) (began : ℕ)
    (place : ℕ) (component : Option ℕ) (t : List V) (marks : List Bool) (count : ℕ) : Type 0 where
  pub placed : IsPlaced layout s.nodes place component
  pub inside : IsInside o s limits t
  pub all : length marks ≡ s.nodes
  pub settled : AreSettled o s layout limits marks t
  pub closed : AreClosed layout place component marks
  pub left : IsLeft o s limits steps layout s.nodes (bottoms o limits) (began + s.nodes) (count + marked marks) place component t
  pub cost : count + visits_left o layout limits steps s.nodes place component t ≤ began + visits_left o layout limits steps s.nodes 0 None (bottoms o limits)

-- what the test of a component around tells
pub none_told : (component : Option ℕ) (told : Bool) → told ≡ is_some component → told ≡ false → component ≡ None
none_told None told is outside = refl
none_told (Some h) told is outside = absurd (false≢true (sym outside ∙ is))

pub some_told : (component : Option ℕ) (told : Bool) → told ≡ is_some component → told ≡ true → component ≢ None
some_told component told is inside none = absurd (false≢true (sym (ap is_some none) ∙ sym is ∙ inside))

-- what the test after a turn tells
pub unsettled_from : (told b : Bool) → told ≡ not b → told ≡ true → IsFalse b
unsettled_from true false is holds = refl
unsettled_from true true is holds = absurd (false≢true (sym is))
unsettled_from false b is holds = absurd (false≢true holds)

pub settled_from : (told b : Bool) → told ≡ not b → told ≡ false → IsTrue b
settled_from false true is holds = refl
settled_from false false is holds = absurd (false≢true is)
settled_from true b is holds = absurd (false≢true (sym holds))

module _ {V P : Type 0} {has : V → P → Type 0} (o : Ops V) (laws : IsLattice o has) (s : System V) (system : IsSystem o s)
    (layout : Layout) (limits : List V) (steps : List ℤ) (order : IsWeakOrder (Reads s) s.nodes layout) (limits_fit : IsTable o s limits)
    (rise : AreSteps steps) (began : ℕ) where
  abbrev Walking : ℕ → Option ℕ → List V → List Bool → ℕ → Type 0
  Walking place component t marks count = IsWalking o s layout limits steps began place component t marks count

  -- the walk isn't at the end of its component, nor at that of the order
  pub in_order : (place : ℕ) (component : Option ℕ) → IsPlaced layout s.nodes place component → place < bound layout s.nodes component → place < s.nodes
  in_order place component placed below = omega (arith, bound_within layout s.nodes order place component placed, below)

  pub in_bound_from : (place : ℕ) (component : Option ℕ) → IsPlaced layout s.nodes place component
      → ((h : ℕ) → component ≡ Some h → end_at layout h ≢ place) → (component ≡ None → place < s.nodes) → place < bound layout s.nodes component
  in_bound_from place None placed goes_on before = before refl
  in_bound_from place (Some h) placed goes_on before = let differs = goes_on h refl in omega (arith, placed.to_bound, differs)

  -- each visit leaves fewer
  abbrev visits_after : ℕ → Option ℕ → List V → ℕ
  visits_after place component t = visits_left o layout limits steps s.nodes place component t

  pub falls_node : (place : ℕ) (component : Option ℕ) (t u : List V) → IsPlaced layout s.nodes place component → place < bound layout s.nodes component
      → end_at layout place ≤ place → u ≡ evaluated o s limits t (node_at layout place) → visits_after (place + 1) component u < visits_after place component t
  falls_node place component t u placed in_bound short is =
      let below = in_order place component placed in_bound in
      let ends : end_at layout place ≡ place = omega (arith, short, order.from_here place below) in
      let grows : potential o layout limits steps u s.nodes ≤ potential o layout limits steps t s.nodes =
      rw is (evaluated_potential o laws s system layout limits steps order limits_fit rise t place below ends) in
      omega (arith, grows, below)

  pub falls_enter : (place : ℕ) (component : Option ℕ) (t u : List V) → IsPlaced layout s.nodes place component → place < bound layout s.nodes component
      → place < end_at layout place → IsInside o s limits t → u ≡ widened o s limits steps t (node_at layout place)
      → visits_after (place + 1) (Some place) u < visits_after place component t
  falls_enter place component t u placed in_bound long inside is =
      let below = in_order place component placed in_bound in
      let deeper = depth_inside layout s.nodes order place component below long (around_entered layout s.nodes order place component placed in_bound) in
      let grows : potential o layout limits steps u s.nodes ≤ potential o layout limits steps t s.nodes =
      rw is (first_turn_potential o laws s system layout limits steps order limits_fit rise t place below inside) in
      omega (arith, grows, below, deeper)

  pub falls_again : (h place : ℕ) (t u : List V) → IsPlaced layout s.nodes place (Some h) → end_at layout h ≡ place → IsInside o s limits t
      → IsFalse (is_done o s limits (node_at layout h) true t) → u ≡ widened o s limits steps t (node_at layout h)
      → visits_after (h + 1) (Some h) u < visits_after place (Some h) t
  falls_again h place t u placed ends inside unsettled is =
      let below : h < s.nodes = omega (arith, placed.known) in
      let long : h < end_at layout h = omega (arith, ends, placed.begun) in
      let most = order.within h below in
      let grows : potential o layout limits steps u s.nodes + (end_at layout h - h) ≤ potential o layout limits steps t s.nodes =
      rw is (turn_potential o laws s system layout limits steps order limits_fit rise t h below inside unsettled) in
      omega (arith, grows, below, long, ends, most)

  pub falls_leave : (h place : ℕ) (outer : Option ℕ) (t u : List V) → IsPlaced layout s.nodes place (Some h) → end_at layout h ≡ place
      → IsHeadAround layout.ends h outer → u ≡ t → visits_after place outer u < visits_after place (Some h) t
  falls_leave h place outer t u placed ends around is =
      let below : h < s.nodes = omega (arith, placed.known) in
      let long : h < end_at layout h = omega (arith, ends, placed.begun) in
      let deeper = depth_inside layout s.nodes order h outer below long around in
      rw is (omega (arith, deeper))

  -- a visit of a node that is no head
  pub walk_node : (place : ℕ) (component : Option ℕ) (t u : List V) (marks after : List Bool) (c d : ℕ) → place < bound layout s.nodes component
      → end_at layout place ≤ place → u ≡ evaluated o s limits t (node_at layout place) → Visits o s (node_at layout place) t u marks after c d
      → Walking place component t marks c → Walking (place + 1) component u after d
  walk_node place component t u marks after c d in_bound short is visits walking =
      let k = node_at layout place in
      let below = in_order place component walking.placed in_bound in
      let at = node_below o laws s system layout limits order place below in
      let long : k < length t = rw walking.inside.fits.size at in
      let inside : IsInside o s limits u = rw is (evaluated_inside o laws s system limits limits_fit t k at walking.inside) in
      let here : element o u k ≡ met o s limits t k = rw is (element-set_same o t k (met o s limits t k) long) in
      record {
        placed = placed_node layout s.nodes order place component walking.placed in_bound short;
        inside = inside;
        all = visits.size ∙ walking.all;
        settled = settled_after o laws s system layout limits order place t u marks after c d below walking.inside.fits inside.fits
            (λ r other. rw is (element-set_other o t k r (met o s limits t k) other)) visits
            (rw here (laws.below_itself (met o s limits t k))) (λ _. here) walking.settled;
        closed = closed_node o laws s system layout limits order place component t u marks after c d below walking.placed short visits walking.closed;
        left = rw is (left_node o s limits steps layout s.nodes (bottoms o limits) (began + s.nodes) (c + marked marks) (d + marked after) t place component in_bound short
            (rw is at visits.paid) walking.left);
        cost = omega (arith, walking.cost, visits.once, falls_node place component t u walking.placed in_bound short is);
      }

  -- a widening at the head of a component: `place` is where the walk stands, and then it is inside the component
  module _ (h place : ℕ) (component : Option ℕ) (t u : List V) (marks after : List Bool) (c d : ℕ) (below : h < s.nodes) (long : h < end_at layout h)
      (is : u ≡ widened o s limits steps t (node_at layout h)) (visits : Visits o s (node_at layout h) t u marks after c d)
      (walking : Walking place component t marks c) where
    widened_within : IsInside o s limits u
    widened_within =
        rw is (widened_inside o laws s system limits limits_fit steps t (node_at layout h) rise (node_below o laws s system layout limits order h below) walking.inside)

    widened_settled : AreSettled o s layout limits after u
    widened_settled =
        let k = node_at layout h in
        let at = node_below o laws s system layout limits order h below in
        let inside : k < length t = rw walking.inside.fits.size at in
        let x = element o t k in
        let y = met o s limits t k in
        let l = element o limits k in
        let wide = o.widen x y l steps in
        let here : element o u k ≡ wide = rw is (element-set_same o t k wide inside) in
        settled_after o laws s system layout limits order h t u marks after c d below walking.inside.fits widened_within.fits
        (λ r other. rw is (element-set_other o t k r wide other)) visits
        (rw here (laws.widen_above_right x y l steps (may_widen o laws s system limits limits_fit t k at walking.inside) rise))
        (λ short. absurd (omega (arith, short, long))) walking.settled

  -- into a component
  pub walk_enter : (place : ℕ) (component : Option ℕ) (t u : List V) (marks after : List Bool) (c d : ℕ) → place < bound layout s.nodes component
      → place < end_at layout place → u ≡ widened o s limits steps t (node_at layout place) → Visits o s (node_at layout place) t u marks after c d
      → Walking place component t marks c → Walking (place + 1) (Some place) u after d
  walk_enter place component t u marks after c d in_bound long is visits walking =
      let below = in_order place component walking.placed in_bound in
      let around = around_entered layout s.nodes order place component walking.placed in_bound in
      record {
        placed = placed_enter layout s.nodes order place below long;
        inside = widened_within place place component t u marks after c d below long is visits walking;
        all = visits.size ∙ walking.all;
        settled = widened_settled place place component t u marks after c d below long is visits walking;
        closed = closed_entered o laws s system layout limits order place component t u marks after c d below walking.placed in_bound long visits walking.closed;
        left = rw is (left_enter o s limits steps layout s.nodes (bottoms o limits) (began + s.nodes) (c + marked marks) (d + marked after) t place component
            in_bound long around (rw is at visits.paid) walking.left);
        cost = omega (arith, walking.cost, visits.once, falls_enter place component t u walking.placed in_bound long walking.inside is);
      }

  -- to the head again
  pub walk_again : (h place : ℕ) (t u : List V) (marks after : List Bool) (c d : ℕ) → end_at layout h ≡ place
      → IsFalse (is_done o s limits (node_at layout h) true t) → u ≡ widened o s limits steps t (node_at layout h)
      → Visits o s (node_at layout h) t u marks after c d → Walking place (Some h) t marks c → Walking (h + 1) (Some h) u after d
  walk_again h place t u marks after c d ends unsettled is visits walking =
      let below : h < s.nodes = omega (arith, walking.placed.known) in
      let long : h < end_at layout h = omega (arith, ends, walking.placed.begun) in
      record {
        placed = placed_enter layout s.nodes order h below long;
        inside = widened_within h place (Some h) t u marks after c d below long is visits walking;
        all = visits.size ∙ walking.all;
        settled = widened_settled h place (Some h) t u marks after c d below long is visits walking;
        closed = closed_again o laws s system layout limits order h t u marks after c d below long visits (rw (← ends) at walking.closed);
        left = rw is (left_again o s limits steps layout s.nodes (bottoms o limits) (began + s.nodes) (c + marked marks) (d + marked after) t h
            unsettled (rw is at visits.paid) (rw (← ends) at walking.left));
        cost = omega (arith, walking.cost, visits.once, falls_again h place t u walking.placed ends walking.inside unsettled is);
      }

  -- out of a component
  pub walk_leave : (h place : ℕ) (outer : Option ℕ) (t u : List V) (marks after : List Bool) (c d : ℕ) → end_at layout h ≡ place
      → IsTrue (is_done o s limits (node_at layout h) true t) → u ≡ t → IsHeadAround layout.ends h outer
      → Visits o s (node_at layout h) t u marks after c d → Walking place (Some h) t marks c → Walking place outer u after d
  walk_leave h place outer t u marks after c d ends settled is around visits walking =
      let k = node_at layout h in
      let below : h < s.nodes = omega (arith, walking.placed.known) in
      let long : h < end_at layout h = omega (arith, ends, walking.placed.begun) in
      let inside : IsInside o s limits u = rw is walking.inside in
      let same : (r : ℕ) → element o u r ≡ element o t r = λ r. ap (λ (w : List V). element o w r) is in
      let paid : d + marked after ≤ c + marked marks = omega (arith, visits.paid, no_change o laws s t u k (sym (same k))) in
      record {
        placed = rw ends at (placed_leave layout s.nodes order h outer below long around);
        inside = inside;
        all = visits.size ∙ walking.all;
        settled = settled_after o laws s system layout limits order h t u marks after c d below walking.inside.fits inside.fits
            (λ r _. same r) visits (rw (same k) settled) (λ short. absurd (omega (arith, short, long))) walking.settled;
        closed = rw ends at (closed_left o laws s system layout limits order h outer t u marks after c d below around (same k) visits (rw (← ends) at walking.closed));
        left = rw (is, ← ends) (left_leave o s limits steps layout s.nodes (bottoms o limits) (began + s.nodes) (c + marked marks) (d + marked after) t h outer
            settled around paid (rw (← ends) at walking.left));
        cost = omega (arith, walking.cost, visits.once, falls_leave h place outer t u walking.placed ends around is);
      }

  -- the beginning: the table is at the bottom, and all nodes have marks
  pub walk_first : (marks : List Bool) → length marks ≡ s.nodes → ((k : ℕ) → IsTrue (has_mark marks k)) → Walking 0 None (bottoms o limits) marks began
  walk_first marks all set = record {
    placed = placed_first layout s.nodes order;
    inside = bottoms_inside o laws s limits limits_fit;
    all = all;
    settled = λ p below unmarked. absurd (both_ways (has_mark marks (node_at layout p)) unmarked (set (node_at layout p)));
    closed = λ q before. absurd (omega (arith, before));
    left = left_first o s limits steps layout s.nodes (bottoms o limits) (began + s.nodes) (began + marked marks)
        (omega (arith, count_by-le-length (λ (mark : Bool). mark) marks, all));
    cost = omega arith;
  }

  -- and the end: nothing is left
  module _ (place : ℕ) (t : List V) (marks : List Bool) (c : ℕ) (past : s.nodes ≤ place) (walking : Walking place None t marks c) where
    at_end : place ≡ s.nodes
    at_end = omega (arith, past, walking.placed.to_bound)

    pub walk_stable : IsStable o s limits t
    walk_stable = stable_all o laws s system layout limits order marks t walking.settled (rw at_end at walking.closed)

    pub walk_ascent : (elements : Elements) → LiesAt layout elements 0 s.nodes
        → (whole : Ascends o s limits steps elements (bottoms o limits) t)
        × (c + marked marks ≤ began + s.nodes + sum_by (readers s) (changes o s limits steps elements (bottoms o limits) t whole))
    walk_ascent = left_none o s limits steps layout s.nodes (bottoms o limits) (began + s.nodes) (c + marked marks) t (rw at_end at walking.left)

    pub walk_cost : c ≤ began + (2 * potential o layout limits steps (bottoms o limits) s.nodes + 2 * s.nodes)
    walk_cost = omega (arith, walking.cost)
