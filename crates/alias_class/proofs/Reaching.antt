-- While a call lasts, cells of deeper activations denote what is deeper, or what is linked at the call.
use Rattle.std.proofs.Common.{◌≡◌, ℕ, zero, suc, ◌+◌, ◌<◌, ◌≤◌, Bool, true, false, List, [], ◌∷◌, length, Option, Some, None, inl, inr, nat_eq, nat_lt, refl, sym, ap, ◌∙◌, subst, arith}
use Rattle.std.specs.List.{Contains, cons_option, filter_map, list_any, range_with_len}
use Rattle.std.specs.Option.{unwrap_or}
use Rattle.std.specs.Prelude.{if◌then◌else◌}
use Rattle.std.proofs.lemmas.Bool.Decides.{nat_tests}
use Rattle.pas_program.specs.Scopes.{contains}
use Rattle.control_points.specs.declared.flow.Flow.{Flow}
use Rattle.control_points.specs.declared.item.Item.{Item}
use Rattle.control_points.specs.Finding.{frame_at}
use Rattle.control_points.specs.Flows.{chart_of}
use Rattle.control_points.specs.Matching.{IsMadeAt, StandsOn, below_depth}
use Rattle.control_points.specs.Runs.{at}
use Rattle.control_points.specs.States.{Activation, Frame, Stack, State}
use Rattle.control_points.specs.Storage.{Place, whole}
use Rattle.control_points.specs.ValidStates.{IsStack}
use Rattle.alias_class.specs.declared.bind.Link.{Link}
use Rattle.alias_class.specs.Calls.{Sharing, link_of, links_by, shared_cell, sharing}
use Rattle.alias_class.specs.Cells.{cell_count, inherited_count}
use Rattle.alias_class.specs.Classes.{Class}
use Rattle.alias_class.specs.Denotation.{class_of, made_by}
use Rattle.alias_class.specs.Outlines.{outline_of}
use Rattle.alias_class.specs.Storage.{Denotes, IsCallAt, IsFound, IsLinked, KeepsReach, StaysDeeper}
use Rattle.alias_class.proofs.Chains.{IsDepth, class_called, class_in, class_latest, class_lower, depth_of, is_called}
use Rattle.alias_class.proofs.Chains.IsDepth.{latest, lower}
use Rattle.alias_class.proofs.Frames.{below_latest, below_lower, frame_latest, frame_lower, frame_there, frame_within}
use Rattle.alias_class.proofs.Denoting.{CellIs, cell_is, denoted_in, denoted_lower}
use Rattle.alias_class.proofs.Denoting.CellIs.{mine, near, far}

-- ---- links

contains_later : {A : Type 0} (x y : A) (xs : List A) → Contains xs y → Contains (x ∷ xs) y
contains_later x y xs c = (suc c.0, omega arith, c.2)

contains_first : {A : Type 0} (y : A) (xs : List A) → Contains (y ∷ xs) y
contains_first y xs = (0, omega arith, refl)

in_range : (f : ℕ → Option Link) (a n m : ℕ) (y : Link) → a ≤ m → m < a + n → f m ≡ Some y → Contains (filter_map f (range_with_len a n)) y
in_range f a zero m y low high e = absurd (omega arith)
in_range f a (suc n) m y low high e = by (nat_eq a m) refl (λ less. in_range f (a + 1) n m y less (omega arith) e)
  where
    kept : (o : Option Link) → Contains (filter_map f (range_with_len (a + 1) n)) y → Contains (cons_option o (filter_map f (range_with_len (a + 1) n))) y
    kept None c = c
    kept (Some x) c = contains_later x y (filter_map f (range_with_len (a + 1) n)) c

    by : (b : Bool) → nat_eq a m ≡ b → (a + 1 ≤ m → Contains (filter_map f (range_with_len (a + 1) n)) y) → Contains (cons_option (f a) (filter_map f (range_with_len (a + 1) n))) y
    by true same rest =
        let equal : a ≡ m = grind (arith, nat_tests) in
        subst (λ (o : Option Link). Contains (cons_option o (filter_map f (range_with_len (a + 1) n))) y) (sym (ap f equal ∙ e)) (contains_first y (filter_map f (range_with_len (a + 1) n)))
    by false other rest =
        let differ : a ≡ m → ⊥ = λ same. grind (arith, nat_tests) in
        kept (f a) (rest (omega arith))

module _ (f : Flow) where
  -- ---- the cells of a caller that are linked

  module _ (a b : Activation) (below : Stack) (is : IsStack (chart_of f) (a ∷ b ∷ below)) where
    abbrev caller_class : Class
    caller_class = class_of (outline_of f) f.edges (b ∷ below)

    abbrev given : Sharing
    given = sharing (outline_of f) (class_of (outline_of f) f.edges (b ∷ below)) a.frame.routine (is_called f a b below is).actuals

    listed_link : (m : ℕ) (y : Link) → m < cell_count (outline_of f) (class_of (outline_of f) f.edges (b ∷ below)) → link_of given m ≡ Some y → y.caller ≡ m → IsLinked (chart_of f) (outline_of f) (b ∷ below) (made_by a) m
    listed_link m y h e same = record {
      link = y;
      listed =
          subst (λ (ls : List Link). Contains ls y) (sym (ap (links_by (outline_of f) (class_of (outline_of f) f.edges (b ∷ below))) (is_called f a b below is).acts))
          (in_range (link_of given) 0 (cell_count (outline_of f) (class_of (outline_of f) f.edges (b ∷ below))) m y (omega arith) (omega arith) e);
      linked = same;
    }

    link_near : (m : ℕ) → m < inherited_count (outline_of f) (class_of (outline_of f) f.edges (a ∷ b ∷ below)) → m < cell_count (outline_of f) (class_of (outline_of f) f.edges (b ∷ below)) → IsLinked (chart_of f) (outline_of f) (b ∷ below) (made_by a) m
    link_near m less h =
        let same = ap (inherited_count (outline_of f)) (class_called f a b below (is_called f a b below is)) in
        let test : nat_lt m given.inherited ≡ true = grind (arith, nat_tests) in
        listed_link m (record { caller = m; callee = m }) h
        (ap (λ (x : Bool). if x then Some (record { caller = m; callee = m }) else if list_any (λ d. nat_eq m d) given.foreign then Some (record { caller = m; callee = shared_cell given m }) else None) test) refl

    link_far : (m : ℕ) → inherited_count (outline_of f) (class_of (outline_of f) f.edges (a ∷ b ∷ below)) ≤ m → m < cell_count (outline_of f) (class_of (outline_of f) f.edges (b ∷ below)) → contains m given.foreign ≡ true → IsLinked (chart_of f) (outline_of f) (b ∷ below) (made_by a) m
    link_far m more h there =
        let same = ap (inherited_count (outline_of f)) (class_called f a b below (is_called f a b below is)) in
        let test : nat_lt m given.inherited ≡ false = grind (arith, nat_tests) in
        listed_link m (record { caller = m; callee = shared_cell given m }) h
        (ap (λ (x : Bool). if x then Some (record { caller = m; callee = m }) else if list_any (λ d. nat_eq m d) given.foreign then Some (record { caller = m; callee = shared_cell given m }) else None) test
        ∙ ap (λ (x : Bool). if x then Some (record { caller = m; callee = shared_cell given m }) else None) there) refl

  -- ---- what cells above a call denote

  module _ (d k : ℕ) (g : Frame) (caller : Stack) (by_call : g.call ≡ Some k) where
    found : Place → Type 0
    found p = IsFound (chart_of f) (outline_of f) caller d k p

    -- the cell m of the activation below the latest one, where the latest was made by the call
    at_call : (a b : Activation) (below : Stack) → length (b ∷ below) ≡ suc d → a.frame ≡ g → b ∷ below ≡ caller → (m : ℕ) (p : Place) → m < cell_count (outline_of f) (class_of (outline_of f) f.edges (b ∷ below))
        → IsLinked (chart_of f) (outline_of f) (b ∷ below) (made_by a) m → denoted_in f (b ∷ below) (length below) m ≡ Some p → IsFound (chart_of f) (outline_of f) caller d k p
    at_call a b below height frame same m p h linked e =
        let top : length below ≡ d = omega arith in
        let edge : made_by a ≡ k = ap (λ (x : Frame). unwrap_or x.call 0) frame ∙ ap (λ (x : Option ℕ). unwrap_or x 0) by_call in
        subst (λ (t : Stack). IsFound (chart_of f) (outline_of f) t d k p) same
        (inr (
          m,
          subst (λ (n : ℕ). IsLinked (chart_of f) (outline_of f) (b ∷ below) n m) edge linked,
          subst (λ (n : ℕ). Denotes (chart_of f) (outline_of f) (b ∷ below) n m p) top
              (record {
                is_cell = record { depth = omega arith; in_range = subst (λ (x : Class). m < cell_count (outline_of f) x) (sym (class_latest f b below)) h };
                variable = e;
              }),
        ))

    reaches : (stack : Stack) → IsStack (chart_of f) stack → StandsOn stack (suc d) g caller → (e i : ℕ) (p : Place) → suc d ≤ e → e < length stack → i < cell_count (outline_of f) (class_in f stack e) → denoted_in f stack e i ≡ Some p → IsFound (chart_of f) (outline_of f) caller d k p
    reaches [] is stands e i p deep h few at = absurd is
    reaches (a ∷ []) is stands e i p deep h few at = absurd (omega arith)
    reaches (a ∷ b ∷ below) is stands e i p deep h few at = by (depth_of (length (b ∷ below)) e h) (λ stands e i p deep h few at. reaches (b ∷ below) is.1 stands e i p deep h few at)
      where
        kept : suc d < length (b ∷ below) → StandsOn (b ∷ below) (suc d) g caller
        kept less = record { frame = sym (frame_lower a (b ∷ below) (suc d) less) ∙ stands.frame; below = sym (below_lower a (b ∷ below) (suc d) less) ∙ stands.below }

        -- the same of a cell of the one that called the latest
        through : (StandsOn (b ∷ below) (suc d) g caller → (e i : ℕ) (p : Place) → suc d ≤ e → e < length (b ∷ below) → i < cell_count (outline_of f) (class_in f (b ∷ below) e) → denoted_in f (b ∷ below) e i ≡ Some p → IsFound (chart_of f) (outline_of f) caller d k p)
            → e ≡ length (b ∷ below) → (m : ℕ) → m < cell_count (outline_of f) (class_of (outline_of f) f.edges (b ∷ below)) → IsLinked (chart_of f) (outline_of f) (b ∷ below) (made_by a) m → denoted_in f (b ∷ below) (length below) m ≡ Some p → IsDepth (length (b ∷ below)) (suc d) → IsFound (chart_of f) (outline_of f) caller d k p
        through rest top m fewer linked denotes (latest height) =
            let here : Some a.frame ≡ Some g = sym (frame_latest a (b ∷ below)) ∙ ap (frame_at (a ∷ b ∷ below)) (sym height) ∙ stands.frame in
            let frame : a.frame ≡ g = cc in
            let same : b ∷ below ≡ caller = sym (below_latest a (b ∷ below)) ∙ ap (below_depth (a ∷ b ∷ below)) (sym height) ∙ stands.below in
            at_call a b below (sym height) frame same m p fewer linked denotes
        through rest top m fewer linked denotes (lower less) =
            rest (kept less) (length below) m p (omega arith) (omega arith) (subst (λ (x : Class). m < cell_count (outline_of f) x) (sym (class_latest f b below)) fewer) denotes

        by : IsDepth (length (b ∷ below)) e
            → (StandsOn (b ∷ below) (suc d) g caller → (e i : ℕ) (p : Place) → suc d ≤ e → e < length (b ∷ below) → i < cell_count (outline_of f) (class_in f (b ∷ below) e) → denoted_in f (b ∷ below) e i ≡ Some p → IsFound (chart_of f) (outline_of f) caller d k p)
            → IsFound (chart_of f) (outline_of f) caller d k p
        by (lower less) rest =
            rest (kept (omega arith)) e i p deep less (subst (λ (x : Class). i < cell_count (outline_of f) x) (class_lower f a (b ∷ below) e less) few) (sym (denoted_lower f a (b ∷ below) e i less) ∙ at)
        by (latest top) rest =
            cases (cell_is f a b below is i (subst (λ (x : Class). i < cell_count (outline_of f) x) (ap (class_in f (a ∷ b ∷ below)) top ∙ class_latest f a (b ∷ below)) few))
          where
            here : denoted_in f (a ∷ b ∷ below) (length (b ∷ below)) i ≡ Some p
            here = ap (λ (n : ℕ). denoted_in f (a ∷ b ∷ below) n i) (sym top) ∙ at

            cases : CellIs f a b below is i → IsFound (chart_of f) (outline_of f) caller d k p
            cases (mine v listed o own) =
                let same : ◌≡◌ {A = Option Place} (Some (whole (length (b ∷ below)) v)) (Some p) = sym own ∙ here in
                let place : whole (length (b ∷ below)) v ≡ p = cc in
                let depth = ap (λ (x : Place). x.depth) place in
                let less : d < p.depth = omega arith in
                inl less
            cases (near less fewer denotes) = through rest top i fewer (link_near a b below is i less fewer) (sym denotes ∙ here) (depth_of (length (b ∷ below)) (suc d) (omega arith))
            cases (far m more fewer o listed denotes) = through rest top m fewer (link_far a b below is m more fewer listed) (sym denotes ∙ here) (depth_of (length (b ∷ below)) (suc d) (omega arith))

  -- ---- along a run

  module _ (items : List Item) (j i d k : ℕ) (caller later : State) (call : IsCallAt (chart_of f) (outline_of f) items j d k) (deeper : StaysDeeper (chart_of f) (outline_of f) items j i d)
      (before : at (chart_of f) items j ≡ Some caller) (after : at (chart_of f) items i ≡ Some later) where
    height : length caller.stack ≡ suc d
    height =
        let both : Some call.caller ≡ Some caller = sym call.before ∙ before in
        let same : call.caller ≡ caller = cc in
        ap (λ (s : State). length s.stack) (sym same) ∙ call.from_depth

    -- the call is the one that made the activation
    made_then : (n : ℕ) (g : Frame) → IsMadeAt (chart_of f) items i (suc d) n g → n ≡ j
    made_then n g made = by (nat_lt j n) (nat_lt n j) refl refl
      where
        by : (a b : Bool) → nat_lt j n ≡ a → nat_lt n j ≡ b → n ≡ j
        by true b e h =
            absurd
            (let more : j < n = grind (arith, nat_tests) in
            let soon = made.before in
            let high = deeper.deeper n made.caller more (omega arith) made.reached in
            let low = made.height in
            omega arith)
        by false true e h =
            absurd
            (let less : n < j = grind (arith, nat_tests) in
            let soon = deeper.later in
            let stands = made.stays j caller less (omega arith) before in
            let within = frame_within caller.stack (suc d) g stands.frame in
            let low = height in
            omega arith)
        by false false e h = grind (arith, nat_tests)

    stands_on : (n : ℕ) (g : Frame) → IsMadeAt (chart_of f) items i (suc d) n g → (g.call ≡ Some k) × StandsOn later.stack (suc d) g caller.stack
    stands_on n g made =
        let same = made_then n g made in
        let soon = deeper.later in
        let both : Some made.caller ≡ Some caller = sym made.reached ∙ ap (at (chart_of f) items) same ∙ before in
        let callers : made.caller ≡ caller = cc in
        let first = made.stays (suc j) call.callee (omega arith) (omega arith) call.after in
        let frames : Some g ≡ Some call.frame = sym first.frame ∙ call.made in
        let frame : g ≡ call.frame = cc in
        let last = made.stays i later (omega arith) (omega arith) after in
        (ap (λ (x : Frame). x.call) frame ∙ call.by, record { frame = last.frame; below = last.below ∙ ap (λ (s : State). s.stack) callers })

    pub keeps_reach : IsStack (chart_of f) later.stack → ((g : Frame) → frame_at later.stack (suc d) ≡ Some g → (n : ℕ) × IsMadeAt (chart_of f) items i (suc d) n g) → KeepsReach (chart_of f) (outline_of f) d k caller later
    keeps_reach is each =
        let high = deeper.deeper i later deeper.later (omega arith) after in
        let g = frame_there later.stack (suc d) high in
        let made = each g.0 g.1 in
        let stands = stands_on made.0 g.0 made.1 in
        record { reach = λ e cell p deep at. reaches d k g.0 caller.stack stands.0 later.stack is stands.1 e cell p (omega arith) at.is_cell.depth at.is_cell.in_range at.variable }
