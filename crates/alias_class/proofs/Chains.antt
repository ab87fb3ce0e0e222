-- The classes of the activations of a valid stack: each is one, and the activation around another has the class around its class.
use Rattle.std.proofs.Common.{◌≡◌, ℕ, suc, ◌-◌, ◌<◌, ◌≤◌, Bool, true, false, List, [], ◌∷◌, length, Option, Some, None, nat_eq, refl, sym, ap, ◌∙◌, subst, arith}
use Rattle.std.specs.List.{Contains}
use Rattle.std.specs.Option.{option_and_then, option_map, unwrap_or}
use Rattle.std.specs.Prelude.{slice_get, if◌then◌else◌}
use Rattle.std.proofs.lemmas.Bool.Decides.{nat_tests}
use Rattle.pas_program.specs.declared.expr.Actual.{Actual}
use Rattle.control_points.specs.declared.edge.Act.TheVariants as act
use Rattle.control_points.specs.declared.edge.Edge.{Edge}
use Rattle.control_points.specs.declared.flow.Flow.{Flow}
use Rattle.control_points.specs.Chart.{Chart}
use Rattle.control_points.specs.Finding as Finding
use Rattle.control_points.specs.Fits.{act_at, routine_at}
use Rattle.control_points.specs.Flows.{chart_of}
use Rattle.control_points.specs.States.{Activation, Stack}
use Rattle.control_points.specs.Steps.{point_of}
use Rattle.control_points.specs.ValidStates.{IsCallee, IsStack}
use Rattle.alias_class.specs.declared.outline.Outline.{Outline}
use Rattle.alias_class.specs.Calls.{IsSite, callee_by, entered, parent_in}
use Rattle.alias_class.specs.Cells.{IsClass, around, routine_of}
use Rattle.alias_class.specs.Classes.{Class}
use Rattle.alias_class.specs.Denotation.{class_at_depth, class_of, made_by, up_to}
use Rattle.alias_class.specs.Outlines.{outline_of}
use Rattle.alias_class.specs.Passings.{IsCallFrom}
use Rattle.alias_class.specs.Storage.{HasItsClass, IsClosed}
use Rattle.alias_class.proofs.Apart.{calls}
use Rattle.alias_class.proofs.Called.{parent_class_is}
use Rattle.alias_class.proofs.Entering.{entered_class, flow_calls}
use Rattle.alias_class.proofs.Outside.{around_here}
use Rattle.alias_class.proofs.Ranks.{outline_fits}
use Rattle.alias_class.proofs.Seen.{head_parent}

-- ---- depths

pub same_depth : (n : ℕ) → nat_eq n n ≡ true
same_depth n = grind (arith, nat_tests)

pub lower_depth : (d n : ℕ) → d < n → nat_eq d n ≡ false
lower_depth d n h = grind (arith, nat_tests)

-- a depth of a stack is that of its latest activation, or one below
pub data IsDepth (n d : ℕ) : Type 0 where
  latest : d ≡ n → IsDepth n d
  lower : d < n → IsDepth n d

pub depth_of : (n d : ℕ) → d < suc n → IsDepth n d
depth_of n d h = by (nat_eq d n) refl
  where
    by : (b : Bool) → nat_eq d n ≡ b → IsDepth n d
    by true e = latest (grind (arith, nat_tests))
    by false e = lower (grind (arith, nat_tests))

pub up_to_latest : (a : Activation) (below : Stack) → up_to (a ∷ below) (length below) ≡ a ∷ below
up_to_latest a below = ap (λ (b : Bool). if b then a ∷ below else up_to below (length below)) (same_depth (length below))

pub up_to_lower : (a : Activation) (below : Stack) (d : ℕ) → d < length below → up_to (a ∷ below) d ≡ up_to below d
up_to_lower a below d h = ap (λ (b : Bool). if b then a ∷ below else up_to below d) (lower_depth d (length below) h)

pub around_latest : (a : Activation) (below : Stack) (r : ℕ) → Finding.around (a ∷ below) (length below) r ≡ (if nat_eq a.frame.routine r then Some (length below) else option_and_then (λ p. Finding.around below p r) a.frame.parent)
around_latest a below r =
    ap (λ (b : Bool). if b then (if nat_eq a.frame.routine r then Some (length below) else option_and_then (λ p. Finding.around below p r) a.frame.parent) else Finding.around below (length below) r) (same_depth (length below))

pub around_lower : (a : Activation) (below : Stack) (d r : ℕ) → d < length below → Finding.around (a ∷ below) d r ≡ Finding.around below d r
around_lower a below d r h =
    ap (λ (b : Bool). if b then (if nat_eq a.frame.routine r then Some d else option_and_then (λ p. Finding.around below p r) a.frame.parent) else Finding.around below d r) (lower_depth d (length below) h)

-- the activation of a routine that is one or around it, or that of its parent
pub around_cases : {P : Type 0} (a : Activation) (r e n p : ℕ) (outer : ℕ → Option ℕ) → a.frame.parent ≡ Some p → (if nat_eq a.frame.routine r then Some n else option_and_then outer a.frame.parent) ≡ Some e
    → (nat_eq a.frame.routine r ≡ true → n ≡ e → P) → (nat_eq a.frame.routine r ≡ false → outer p ≡ Some e → P) → P
around_cases {P} a r e n p outer parent found here there = by (nat_eq a.frame.routine r) refl found
  where
    by : (b : Bool) → nat_eq a.frame.routine r ≡ b → (if b then Some n else option_and_then outer a.frame.parent) ≡ Some e → P
    by true same is = here same (cc)
    by false other is = there other (sym (ap (option_and_then outer) parent) ∙ is)

module _ (f : Flow) where
  abbrev pub o : Outline
  o = outline_of f

  abbrev pub c : Chart
  c = chart_of f

  -- the class of an activation
  abbrev pub class_in : Stack → ℕ → Class
  class_in stack d = class_at_depth (outline_of f) f.edges stack d

  pub class_latest : (a : Activation) (below : Stack) → class_in (a ∷ below) (length below) ≡ class_of (outline_of f) f.edges (a ∷ below)
  class_latest a below = ap (class_of (outline_of f) f.edges) (up_to_latest a below)

  pub class_lower : (a : Activation) (below : Stack) (d : ℕ) → d < length below → class_in (a ∷ below) d ≡ class_in below d
  class_lower a below d h = ap (class_of (outline_of f) f.edges) (up_to_lower a below d h)

  -- ---- each class is one

  -- what is known of the class of the latest activation
  pub record HasClass (stack : Stack) : Type 0 where
    pub is_class : IsClass (outline_of f) (class_of (outline_of f) f.edges stack)
    pub stands : routine_at f.points (point_of stack) ≡ Some (routine_of (outline_of f) (class_of (outline_of f) f.edges stack))

  -- the call that made an activation, as the class below sees it
  pub record IsCalled (a : Activation) (below : Stack) : Type 0 where
    pub actuals : List Actual
    pub slot : Option ℕ
    pub place : ℕ
    pub acts : act_at f.edges (made_by a) ≡ Some (act.Call a.frame.routine actuals slot place)
    pub site : IsSite f.points f.edges (routine_of (outline_of f) (class_of (outline_of f) f.edges below)) (made_by a)
    pub does : IsCallFrom (outline_of f) (class_of (outline_of f) f.edges below) a.frame.routine actuals

  called : (a b : Activation) (below : Stack) → IsCallee (chart_of f) a (b ∷ below) → HasClass (b ∷ below) → IsCalled a (b ∷ below)
  called a b below is has =
      let call = calls is.site.act a.frame.routine is.callee in
      let by : made_by a ≡ is.edge = ap (λ (k : Option ℕ). unwrap_or k 0) is.made in
      let known : slice_get f.edges (made_by a) ≡ Some is.site = ap (slice_get f.edges) by ∙ is.known in
      let acts : act_at f.edges (made_by a) ≡ Some (act.Call a.frame.routine call.actuals call.slot call.at) = ap (option_map (λ (e : Edge). e.act)) known ∙ ap Some call.is in
      let site : IsSite f.points f.edges (routine_of (outline_of f) (class_of (outline_of f) f.edges (b ∷ below))) (made_by a) =
      record { edge = is.site; called = a.frame.routine; known = known; is_call = is.callee; stands = ap (routine_at f.points) (sym is.waits) ∙ has.stands } in
      record {
        actuals = call.actuals;
        slot = call.slot;
        place = call.at;
        acts = acts;
        site = site;
        does = flow_calls f (outline_of f) refl (class_of (outline_of f) f.edges (b ∷ below)) has.is_class (made_by a) site a.frame.routine call.actuals (record { slot = call.slot; at = call.at; is = acts });
      }

  pub class_called : (a b : Activation) (below : Stack) (call : IsCalled a (b ∷ below)) → class_of (outline_of f) f.edges (a ∷ b ∷ below) ≡ entered (outline_of f) (class_of (outline_of f) f.edges (b ∷ below)) (made_by a) a.frame.routine call.actuals
  class_called a b below call = ap (callee_by (outline_of f) (class_of (outline_of f) f.edges (b ∷ below)) (made_by a)) call.acts

  pub has_class : (stack : Stack) → IsStack (chart_of f) stack → HasClass stack
  has_class [] is = absurd is
  has_class (a ∷ []) is = record { is_class = tt; stands = is.stands }
  has_class (a ∷ b ∷ below) is =
      let has = has_class (b ∷ below) is.1 in
      let call = called a b below is.0 has in
      let same = class_called a b below call in
      let outer = class_of (outline_of f) f.edges (b ∷ below) in
      let fits = outline_fits f.program in
      let entry = entered_class (outline_of f) fits outer has.is_class a.frame.routine call.actuals call.does (made_by a) _ refl in
      let around_it = parent_class_is (outline_of f) fits outer has.is_class a.frame.routine call.does.declared in
      record {
        is_class = subst (IsClass (outline_of f)) (sym same) (entry, around_it);
        stands = is.0.stands ∙ ap (λ (x : Class). Some (routine_of (outline_of f) x)) (sym same);
      }

  pub is_called : (a b : Activation) (below : Stack) → IsStack (chart_of f) (a ∷ b ∷ below) → IsCalled a (b ∷ below)
  is_called a b below is = called a b below is.0 (has_class (b ∷ below) is.1)

  -- the activations up to one are a valid stack
  pub up_to_valid : (stack : Stack) → IsStack (chart_of f) stack → (d : ℕ) → d < length stack → IsStack (chart_of f) (up_to stack d)
  up_to_valid [] is d h = absurd is
  up_to_valid (a ∷ []) is d h = subst (λ (n : ℕ). IsStack (chart_of f) (up_to (a ∷ []) n)) (let zero_is : 0 ≡ d = omega arith in zero_is) is
  up_to_valid (a ∷ b ∷ below) is d h = by (depth_of (length (b ∷ below)) d h) (up_to_valid (b ∷ below) is.1 d)
    where
      by : IsDepth (length (b ∷ below)) d → (d < length (b ∷ below) → IsStack (chart_of f) (up_to (b ∷ below) d)) → IsStack (chart_of f) (up_to (a ∷ b ∷ below) d)
      by (latest e) rest = subst (IsStack (chart_of f)) (sym (ap (up_to (a ∷ b ∷ below)) e ∙ up_to_latest a (b ∷ below))) is
      by (lower less) rest = subst (IsStack (chart_of f)) (sym (up_to_lower a (b ∷ below) d less)) (rest less)

  -- ---- activations around one, and their classes

  pub record IsOuter (stack : Stack) (d e r : ℕ) : Type 0 where
    pub within : e ≤ d
    pub class : around (outline_of f) (class_in stack d) r ≡ Some (class_in stack e)

  -- the class of the static parent of a callee is that of the activation around it
  parent_is_by : (a b : Activation) (below : Stack) (is : IsCallee (chart_of f) a (b ∷ below)) → IsOuter (b ∷ below) (length below) is.depth is.outer
      → parent_in (outline_of f) (class_of (outline_of f) f.edges (b ∷ below)) a.frame.routine ≡ class_in (b ∷ below) is.depth
  parent_is_by a b below is outer =
      let class : around (outline_of f) (class_of (outline_of f) f.edges (b ∷ below)) is.outer ≡ Some (class_in (b ∷ below) is.depth) = ap (λ (x : Class). around (outline_of f) x is.outer) (sym (class_latest b below)) ∙ outer.class in
      ap (λ (p : Option ℕ). unwrap_or (option_and_then (around (outline_of f) (class_of (outline_of f) f.edges (b ∷ below))) p) []) (head_parent f.program a.frame.routine is.head is.declared ∙ is.declares)
      ∙ ap (λ (x : Option Class). unwrap_or x []) class

  -- the activation around a callee is that of the routine that declares its own
  pub found_outer : (a b : Activation) (below : Stack) (is : IsCallee (chart_of f) a (b ∷ below)) → Finding.around (b ∷ below) (length below) is.outer ≡ Some is.depth
  found_outer a b below is = let top : suc (length below) - 1 ≡ length below = omega arith in subst (λ (n : ℕ). Finding.around (b ∷ below) n is.outer ≡ Some is.depth) top is.found

  outwards : (x : Class) (k s : ℕ) (actuals : List Actual) (r : ℕ) → nat_eq s r ≡ false → around (outline_of f) (entered (outline_of f) x k s actuals) r ≡ around (outline_of f) (parent_in (outline_of f) x s) r
  outwards x k s actuals r other = ap (λ (b : Bool). if b then Some (entered (outline_of f) x k s actuals) else around (outline_of f) (parent_in (outline_of f) x s) r) other

  pub is_outer : (stack : Stack) → IsStack (chart_of f) stack → (d e r : ℕ) → d < length stack → Finding.around stack d r ≡ Some e → IsOuter stack d e r
  is_outer [] is d e r h found = absurd is
  is_outer (a ∷ []) is d e r h found =
      let zero_is : d ≡ 0 = omega arith in
      by (nat_eq a.frame.routine r) refl (sym (around_latest a [] r) ∙ ap (λ (n : ℕ). Finding.around (a ∷ []) n r) (sym zero_is) ∙ found) zero_is
    where
      by : (b : Bool) → nat_eq a.frame.routine r ≡ b → (if b then Some 0 else option_and_then (λ p. Finding.around [] p r) a.frame.parent) ≡ Some e → d ≡ 0 → IsOuter (a ∷ []) d e r
      by true same here zero_is =
          let at : 0 ≡ e = cc in
          let of : routine_of (outline_of f) [] ≡ r = (let same_routine : a.frame.routine ≡ r = grind (arith, nat_tests) in sym is.routine ∙ same_routine) in
          record {
            within = omega arith;
            class = ap (λ (n : ℕ). around (outline_of f) (class_in (a ∷ []) n) r) zero_is ∙ around_here (outline_of f) [] r of ∙ ap (λ (n : ℕ). Some (class_in (a ∷ []) n)) at;
          }
      by false other there zero_is = absurd (let none : None ≡ Some e = sym (ap (option_and_then (λ p. Finding.around [] p r)) is.parent) ∙ there in grind arith)
  is_outer (a ∷ b ∷ below) is d e r h found = by (λ d e r h found. is_outer (b ∷ below) is.1 d e r h found) (depth_of (length (b ∷ below)) d h)
    where
      call : IsCalled a (b ∷ below)
      call = is_called a b below is

      by : ((d e r : ℕ) → d < length (b ∷ below) → Finding.around (b ∷ below) d r ≡ Some e → IsOuter (b ∷ below) d e r) → IsDepth (length (b ∷ below)) d → IsOuter (a ∷ b ∷ below) d e r
      by outers (lower less) =
          let rest = outers d e r less (sym (around_lower a (b ∷ below) d r less) ∙ found) in
          let within = rest.within in
          let under : e < length (b ∷ below) = omega arith in
          record {
            within = within;
            class = ap (λ (x : Class). around (outline_of f) x r) (class_lower a (b ∷ below) d less) ∙ rest.class ∙ ap Some (sym (class_lower a (b ∷ below) e under));
          }
      by outers (latest at) =
          around_cases a r e (length (b ∷ below)) is.0.depth (λ p. Finding.around (b ∷ below) p r) is.0.parent (sym (around_latest a (b ∷ below) r) ∙ ap (λ (n : ℕ). Finding.around (a ∷ b ∷ below) n r) (sym at) ∙ found)
          here there
        where
          class_is : class_in (a ∷ b ∷ below) d ≡ entered (outline_of f) (class_of (outline_of f) f.edges (b ∷ below)) (made_by a) a.frame.routine call.actuals
          class_is = ap (class_in (a ∷ b ∷ below)) at ∙ class_latest a (b ∷ below) ∙ class_called a b below call

          here : nat_eq a.frame.routine r ≡ true → length (b ∷ below) ≡ e → IsOuter (a ∷ b ∷ below) d e r
          here same top =
              let of : a.frame.routine ≡ r = grind (arith, nat_tests) in
              record {
                within = omega arith;
                class =
                    ap (λ (x : Class). around (outline_of f) x r) class_is
                    ∙ around_here (outline_of f) (entered (outline_of f) (class_of (outline_of f) f.edges (b ∷ below)) (made_by a) a.frame.routine call.actuals) r of
                    ∙ ap Some (sym class_is)
                    ∙ ap (λ (n : ℕ). Some (class_in (a ∷ b ∷ below) n)) (at ∙ top);
              }

          there : nat_eq a.frame.routine r ≡ false → Finding.around (b ∷ below) is.0.depth r ≡ Some e → IsOuter (a ∷ b ∷ below) d e r
          there other outer =
              let chain = outers (length below) is.0.depth is.0.outer (omega arith) (found_outer a b below is.0) in
              let near = chain.within in
              let rest = outers is.0.depth e r (omega arith) outer in
              let far = rest.within in
              let under : e < length (b ∷ below) = omega arith in
              record {
                within = omega arith;
                class =
                    ap (λ (x : Class). around (outline_of f) x r) class_is
                    ∙ outwards (class_of (outline_of f) f.edges (b ∷ below)) (made_by a) a.frame.routine call.actuals r other
                    ∙ ap (λ (x : Class). around (outline_of f) x r) (parent_is_by a b below is.0 chain)
                    ∙ rest.class
                    ∙ ap Some (sym (class_lower a (b ∷ below) e under));
              }

  pub parent_is : (a b : Activation) (below : Stack) (is : IsStack (chart_of f) (a ∷ b ∷ below)) → parent_in (outline_of f) (class_of (outline_of f) f.edges (b ∷ below)) a.frame.routine ≡ class_in (b ∷ below) is.0.depth
  parent_is a b below is = parent_is_by a b below is.0 (is_outer (b ∷ below) is.1 (length below) is.0.depth is.0.outer (omega arith) (found_outer a b below is.0))

  pub parent_within : (a b : Activation) (below : Stack) (is : IsStack (chart_of f) (a ∷ b ∷ below)) → is.0.depth ≤ length below
  parent_within a b below is = (is_outer (b ∷ below) is.1 (length below) is.0.depth is.0.outer (omega arith) (found_outer a b below is.0)).within

  -- ---- a list that has each class that is entered has that of each activation

  top_class : (classes : List Class) → IsClosed (chart_of f) (outline_of f) classes → (stack : Stack) → IsStack (chart_of f) stack → Contains classes (class_of (outline_of f) f.edges stack)
  top_class classes closed [] is = absurd is
  top_class classes closed (a ∷ []) is = closed.outermost
  top_class classes closed (a ∷ b ∷ below) is =
      closed.entered (class_of (outline_of f) f.edges (b ∷ below)) (made_by a) (top_class classes closed (b ∷ below) is.1) (is_called a b below is).site

  pub has_its_class : (classes : List Class) → IsClosed (chart_of f) (outline_of f) classes → (stack : Stack) → IsStack (chart_of f) stack → HasItsClass (chart_of f) (outline_of f) classes stack
  has_its_class classes closed stack is = record { each = λ d h. top_class classes closed (up_to stack d) (up_to_valid stack is d h) }
