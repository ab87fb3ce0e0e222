-- Linked cells of a caller and its callee denote one variable.
use Rattle.std.proofs.Common.{◌≡◌, ℕ, zero, suc, ◌+◌, ◌-◌, ◌<◌, Bool, true, false, ◌||◌, not, cond, List, [], ◌∷◌, length, get_or, Option, Some, None, nat_eq, nat_lt, refl, sym, ap, ◌∙◌, subst, arith}
use Rattle.std.specs.List.{Contains, cons_option, filter_map, list_any, position_or_len, range_with_len}
use Rattle.std.specs.Option.{unwrap_or}
use Rattle.std.specs.Prelude.{slice_index, if◌then◌else◌}
use Rattle.std.proofs.lemmas.Bool.Decides.{nat_tests}
use Rattle.control_points.specs.declared.flow.Flow.{Flow}
use Rattle.control_points.specs.Finding.{frame_at}
use Rattle.control_points.specs.Flows.{chart_of}
use Rattle.control_points.specs.States.{Activation, Frame, Stack}
use Rattle.control_points.specs.ValidStates.{IsStack}
use Rattle.alias_class.specs.declared.bind.Link.{Link}
use Rattle.alias_class.specs.Calls.{Sharing, link_of, links_at, links_by, shared_cell, sharing}
use Rattle.alias_class.specs.Cells.{cell_count}
use Rattle.alias_class.specs.Classes.{Class}
use Rattle.alias_class.specs.Denotation.{class_of, denoted_from, made_by, shared_origin}
use Rattle.alias_class.specs.Denotation.Origin.{inherited, own, foreign}
use Rattle.alias_class.specs.Outlines.{outline_of, own_of}
use Rattle.alias_class.proofs.Chains.{IsDepth, class_in, class_latest, class_lower, depth_of, found_outer, is_called, parent_is}
use Rattle.alias_class.proofs.Chains.IsDepth.{latest, lower}
use Rattle.alias_class.proofs.Denoting.{denoted_in, denoted_latest, denoted_lower, inherits, origin_is, same_denoted}
use Rattle.alias_class.proofs.Frames.{frame_latest, frame_lower}

-- what stands at the place of a number
number_at : (m : ℕ) (ns : List ℕ) → list_any (λ d. nat_eq m d) ns ≡ true → get_or ns (position_or_len (λ d. nat_eq m d) ns) 0 ≡ m
number_at m [] e = absurd (grind arith)
number_at m (n ∷ ns) e = by (nat_eq m n) refl e (number_at m ns)
  where
    by : (b : Bool) → nat_eq m n ≡ b → (b || list_any (λ d. nat_eq m d) ns) ≡ true → (list_any (λ d. nat_eq m d) ns ≡ true → get_or ns (position_or_len (λ d. nat_eq m d) ns) 0 ≡ m) → get_or (n ∷ ns) (cond (not b) (1 + position_or_len (λ d. nat_eq m d) ns) 0) 0 ≡ m
    by true same h rest = grind (arith, nat_tests)
    by false other h rest =
        let next : 1 + position_or_len (λ d. nat_eq m d) ns ≡ suc (position_or_len (λ d. nat_eq m d) ns) = omega arith in
        ap (λ (k : ℕ). get_or (n ∷ ns) k 0) next ∙ rest h

-- where a link of a range comes from
record ComesFrom (f : ℕ → Option Link) (bound : ℕ) (y : Link) : Type 0 where
  cell : ℕ
  within : cell < bound
  made : f cell ≡ Some y

comes_from : (f : ℕ → Option Link) (a n : ℕ) (y : Link) → Contains (filter_map f (range_with_len a n)) y → ComesFrom f (a + n) y
comes_from f a zero y c = absurd (let none = c.1 in omega arith)
comes_from f a (suc n) y c = by (f a) refl c (comes_from f (a + 1) n y)
  where
    further : ComesFrom f (a + 1 + n) y → ComesFrom f (a + suc n) y
    further x = let within = x.within in record { cell = x.cell; within = omega arith; made = x.made }

    by : (o : Option Link) → f a ≡ o → Contains (cons_option o (filter_map f (range_with_len (a + 1) n))) y → (Contains (filter_map f (range_with_len (a + 1) n)) y → ComesFrom f (a + 1 + n) y) → ComesFrom f (a + suc n) y
    by None e c rest = further (rest c)
    by (Some x) e c rest = first c.0 c.1 c.2
      where
        first : (k : ℕ) → k < suc (length (filter_map f (range_with_len (a + 1) n))) → get_or (x ∷ filter_map f (range_with_len (a + 1) n)) k y ≡ y → ComesFrom f (a + suc n) y
        first zero h same = record { cell = a; within = omega arith; made = e ∙ ap Some same }
        first (suc k) h same = further (rest (k, omega arith, same))

module _ (f : Flow) where
  -- at the latest activation
  module _ (a b : Activation) (below : Stack) (is : IsStack (chart_of f) (a ∷ b ∷ below)) where
    abbrev given : Sharing
    given = sharing (outline_of f) (class_of (outline_of f) f.edges (b ∷ below)) a.frame.routine (is_called f a b below is).actuals

    abbrev Same : Link → Type 0
    Same y = denoted_in f (a ∷ b ∷ below) (length (b ∷ below)) y.callee ≡ denoted_in f (b ∷ below) (length below) y.caller

    same_inherited : (m : ℕ) → nat_lt m given.inherited ≡ true → denoted_in f (a ∷ b ∷ below) (length (b ∷ below)) m ≡ denoted_in f (b ∷ below) (length below) m
    same_inherited m test =
        let around_it = ap (cell_count (outline_of f)) (parent_is f a b below is) in
        let there : m < cell_count (outline_of f) (class_in f (b ∷ below) is.0.depth) = grind (arith, nat_tests) in
        inherits f a b below is m there
        ∙ sym (same_denoted f (b ∷ below) is.1 (length below) is.0.depth is.0.outer m (omega arith) (found_outer f a b below is.0) there)

    same_foreign : (m : ℕ) → nat_lt m given.inherited ≡ false → list_any (λ d. nat_eq m d) given.foreign ≡ true → denoted_in f (a ∷ b ∷ below) (length (b ∷ below)) (shared_cell given m) ≡ denoted_in f (b ∷ below) (length below) m
    same_foreign m test there =
        let place = position_or_len (λ d. nat_eq m d) given.foreign in
        let variables = own_of (outline_of f) a.frame.routine in
        let cell = given.first_foreign + position_or_len (λ d. nat_eq m d) given.foreign in
        let is_cell : shared_cell given m ≡ cell = ap (λ (x : Bool). if x then m else given.first_foreign + position_or_len (λ d. nat_eq m d) given.foreign) test in
        let not_inherited : nat_lt cell given.inherited ≡ false = grind (arith, nat_tests) in
        let not_own : nat_lt cell given.first_foreign ≡ false = grind (arith, nat_tests) in
        let rank : cell - given.first_foreign ≡ place = omega arith in
        let origin : shared_origin given variables cell ≡ foreign m =
        ap (λ (x : Bool). if x then inherited cell else if nat_lt cell given.first_foreign then own (slice_index variables (cell - given.inherited)) else foreign (slice_index given.foreign (cell - given.first_foreign))) not_inherited
        ∙ ap (λ (x : Bool). if x then own (slice_index variables (cell - given.inherited)) else foreign (slice_index given.foreign (cell - given.first_foreign))) not_own
        ∙ ap (λ (k : ℕ). foreign (slice_index given.foreign k)) rank
        ∙ ap foreign (number_at m given.foreign there) in
        let top : suc (length below) - 1 ≡ length below = omega arith in
        ap (denoted_in f (a ∷ b ∷ below) (length (b ∷ below))) is_cell
        ∙ denoted_latest f a (b ∷ below) cell
        ∙ ap (denoted_from (outline_of f) (denoted_in f (b ∷ below)) (length (b ∷ below)) a.frame.parent) (origin_is f a b below is cell ∙ origin)
        ∙ ap (λ (n : ℕ). denoted_in f (b ∷ below) n m) top

    same_by_link : (m : ℕ) (y : Link) → link_of given m ≡ Some y → denoted_in f (a ∷ b ∷ below) (length (b ∷ below)) y.callee ≡ denoted_in f (b ∷ below) (length below) y.caller
    same_by_link m y e = by (nat_lt m given.inherited) (list_any (λ d. nat_eq m d) given.foreign) refl refl e
      where
        by : (x z : Bool) → nat_lt m given.inherited ≡ x → list_any (λ d. nat_eq m d) given.foreign ≡ z
            → (if x then Some (record { caller = m; callee = m }) else if z then Some (record { caller = m; callee = shared_cell given m }) else None) ≡ Some y → denoted_in f (a ∷ b ∷ below) (length (b ∷ below)) y.callee ≡ denoted_in f (b ∷ below) (length below) y.caller
        by true z test there e =
            let same : record { caller = m; callee = m } ≡ y = cc in
            subst (λ (l : Link). denoted_in f (a ∷ b ∷ below) (length (b ∷ below)) l.callee ≡ denoted_in f (b ∷ below) (length below) l.caller) same (same_inherited m test)
        by false true test there e =
            let same : record { caller = m; callee = shared_cell given m } ≡ y = cc in
            subst (λ (l : Link). denoted_in f (a ∷ b ∷ below) (length (b ∷ below)) l.callee ≡ denoted_in f (b ∷ below) (length below) l.caller) same (same_foreign m test there)
        by false false test there e = absurd (grind arith)

    same_latest : (y : Link) → Contains (links_at (outline_of f) f.edges (class_of (outline_of f) f.edges (b ∷ below)) (made_by a)) y → denoted_in f (a ∷ b ∷ below) (length (b ∷ below)) y.callee ≡ denoted_in f (b ∷ below) (length below) y.caller
    same_latest y c =
        let listed : Contains (filter_map (link_of given) (range_with_len 0 (cell_count (outline_of f) (class_of (outline_of f) f.edges (b ∷ below))))) y =
        subst (λ (ls : List Link). Contains ls y) (ap (links_by (outline_of f) (class_of (outline_of f) f.edges (b ∷ below))) (is_called f a b below is).acts) c in
        let from = comes_from (link_of given) 0 (cell_count (outline_of f) (class_of (outline_of f) f.edges (b ∷ below))) y listed in
        same_by_link from.cell y from.made

  -- at each activation
  pub linked_same : (stack : Stack) → IsStack (chart_of f) stack → (d k : ℕ) (g : Frame) (y : Link) → frame_at stack (suc d) ≡ Some g → g.call ≡ Some k → suc d < length stack → Contains (links_at (outline_of f) f.edges (class_in f stack d) k) y
      → denoted_in f stack (suc d) y.callee ≡ denoted_in f stack d y.caller
  linked_same [] is d k g y at call h c = absurd is
  linked_same (a ∷ []) is d k g y at call h c = absurd (omega arith)
  linked_same (a ∷ b ∷ below) is d k g y at call h c = by (depth_of (length (b ∷ below)) (suc d) h) (linked_same (b ∷ below) is.1 d k g y)
    where
      under : d < length (b ∷ below)
      under = omega arith

      there : Contains (links_at (outline_of f) f.edges (class_in f (b ∷ below) d) k) y
      there = subst (λ (x : Class). Contains (links_at (outline_of f) f.edges x k) y) (class_lower f a (b ∷ below) d under) c

      by : IsDepth (length (b ∷ below)) (suc d)
          → (frame_at (b ∷ below) (suc d) ≡ Some g → g.call ≡ Some k → suc d < length (b ∷ below) → Contains (links_at (outline_of f) f.edges (class_in f (b ∷ below) d) k) y → denoted_in f (b ∷ below) (suc d) y.callee ≡ denoted_in f (b ∷ below) d y.caller)
          → denoted_in f (a ∷ b ∷ below) (suc d) y.callee ≡ denoted_in f (a ∷ b ∷ below) d y.caller
      by (lower less) rest =
          denoted_lower f a (b ∷ below) (suc d) y.callee less ∙ rest (sym (frame_lower a (b ∷ below) (suc d) less) ∙ at) call less there ∙ sym (denoted_lower f a (b ∷ below) d y.caller under)
      by (latest top) rest =
          let here : Some a.frame ≡ Some g = sym (frame_latest a (b ∷ below)) ∙ ap (frame_at (a ∷ b ∷ below)) (sym top) ∙ at in
          let frame : a.frame ≡ g = cc in
          let edge : made_by a ≡ k = ap (λ (x : Frame). unwrap_or x.call 0) frame ∙ ap (λ (x : Option ℕ). unwrap_or x 0) call in
          let depth : d ≡ length below = omega arith in
          let links : Contains (links_at (outline_of f) f.edges (class_of (outline_of f) f.edges (b ∷ below)) (made_by a)) y =
          subst (λ (x : Class). Contains (links_at (outline_of f) f.edges x (made_by a)) y) (ap (class_in f (b ∷ below)) depth ∙ class_latest f b below)
          (subst (λ (n : ℕ). Contains (links_at (outline_of f) f.edges (class_in f (b ∷ below) d) n) y) (sym edge) there) in
          ap (λ (n : ℕ). denoted_in f (a ∷ b ∷ below) n y.callee) top
          ∙ same_latest a b below is y links
          ∙ ap (λ (n : ℕ). denoted_in f (b ∷ below) n y.caller) (sym depth)
          ∙ sym (denoted_lower f a (b ∷ below) d y.caller under)
