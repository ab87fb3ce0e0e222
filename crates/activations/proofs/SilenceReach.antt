-- What a class reaches by calls, and the marks that say so.
use Rattle.std.proofs.Common.{◌≡◌, ℕ, ◌<◌, Bool, true, false, List, map, length, get_or, Option, None, Some, slice_get, refl, sym, ap, subst, ◌∙◌, inl, inr, arith}
use Rattle.std.specs.Option.{option_map}
use Rattle.std.proofs.lemmas.Option.{slice_get-get_or, slice_get-map, slice_get_within}
use Rattle.control_points.specs.declared.flow.Flow.{Flow}
use Rattle.alias_class.specs.Cells.{routine_of}
use Rattle.alias_class.specs.Classes.{Class, class_at, same_class}
use Rattle.alias_class.specs.Outlines.{outline_of}
use Rattle.activations.specs.declared.discovery.Call.{Call}
use Rattle.activations.specs.Arcs.{Site, call_of, callee_number, calls, sites}
use Rattle.activations.specs.Calls.{sites_of}
use Rattle.activations.specs.Found.{calls_of_class}
use Rattle.activations.specs.Marks.{AreClosedFrom, AreWithin, IsMarked, Leads, MarksSome, itself, by_call}
use Rattle.activations.specs.Outside.{AreLeaving, HasGoto, IsOther}
use Rattle.activations.specs.Silence.{AreLeft, AreSilent, IsLeft, IsSilent, Leaves, Reaches, here, call}
use Rattle.activations.specs.Unfolding.{IsWhole, Unfolding, unfolding_of}
use Rattle.activations.proofs.Blocks.{in_block}
use Rattle.activations.proofs.DiscoveredClasses.{call_from, callee_from}
use Rattle.activations.proofs.DiscoveredMembers.{IsIn, each_at, first_within}
use Rattle.activations.proofs.DiscoveredSteps.{all_calls, callees_in}
use Rattle.activations.proofs.FoundNodes.{at_is_member, member_at}

-- ---- an element of a list of values

pub record IsValue {A B : Type 0} (g : A → B) (xs : List A) (k : ℕ) (y : B) : Type 0 where
  pub one : A
  pub at : slice_get xs k ≡ Some one
  pub is : g one ≡ y

value_by : {A B : Type 0} (g : A → B) (y : B) (o : Option A) → option_map g o ≡ Some y → (x : A) × (o ≡ Some x) × (g x ≡ y)
value_by g y None h = absurd (grind (arith, h))
value_by g y (Some x) h = (x, refl, grind (arith, h))

pub value_at : {A B : Type 0} (g : A → B) (xs : List A) (k : ℕ) (y : B) → slice_get (map g xs) k ≡ Some y → IsValue g xs k y
value_at g xs k y h = let found = value_by g y (slice_get xs k) (sym (slice_get-map g xs k) ∙ h) in record { one = found.0; at = found.1; is = found.2 }

pub value_of : {A B : Type 0} (g : A → B) (xs : List A) (k : ℕ) (x : A) → slice_get xs k ≡ Some x → slice_get (map g xs) k ≡ Some (g x)
value_of g xs k x h = slice_get-map g xs k ∙ ap (λ o. option_map g o) h

-- ---- calls and sites

module _ (u : Unfolding) where
  pub reached : (i j : ℕ) → Leads (calls u) i j → Reaches u i j
  reached i j itself = here
  reached i j (by_call k c known is_caller rest) =
      let site = value_at (call_of u) (sites u) k c known in
      let caller : site.one.caller ≡ i = ap (λ (d : Call). d.caller) site.is ∙ is_caller in
      let callee : c.callee ≡ callee_number u i site.one.edge =
      sym (ap (λ (d : Call). d.callee) site.is) ∙ ap (λ (n : ℕ). callee_number u n site.one.edge) caller in
      call site.one (at_is_member (sites u) site.one k site.at) caller (subst (λ (n : ℕ). Reaches u n j) callee (reached c.callee j rest))

  pub reaches_on : (i j k : ℕ) → Reaches u i j → Reaches u j k → Reaches u i k
  reaches_on i j k here rest = rest
  reaches_on i j k (call s member is more) rest = call s member is (reaches_on (callee_number u i s.edge) j k more rest)

  callee_is : (s : Site) (i : ℕ) → s.caller ≡ i → (call_of u s).callee ≡ callee_number u i s.edge
  callee_is s i is = ap (λ (n : ℕ). callee_number u n s.edge) is

  -- marks that are handed on to callers
  pub marked_back : (mark : Bool) (marks : List Bool) → AreClosedFrom 0 (calls u) mark marks → (i j : ℕ) → Reaches u i j → IsMarked mark marks j → IsMarked mark marks i
  marked_back mark marks closed i j here h = h
  marked_back mark marks closed i j (call s member is rest) h =
      let at = member_at (sites u) s member in
      let known = value_of (call_of u) (sites u) at.number s at.is in
      let there = marked_back mark marks closed (callee_number u i s.edge) j rest h in
      subst (λ (n : ℕ). IsMarked mark marks n) is
      (closed at.number (call_of u s) (omega arith) known (subst (λ (n : ℕ). IsMarked mark marks n) (sym (callee_is s i is)) there))

  pub reaches_within : (n : ℕ) → AreWithin n (calls u) → (i j : ℕ) → i < n → Reaches u i j → j < n
  reaches_within n within i j below here = below
  reaches_within n within i j below (call s member is rest) =
      let at = member_at (sites u) s member in
      let known = value_of (call_of u) (sites u) at.number s at.is in
      let callee = (within at.number (call_of u s) known).1 in
      reaches_within n within (callee_number u i s.edge) j (subst (λ (m : ℕ). m < n) (callee_is s i is) callee) rest

module _ (f : Flow) (cs : List Class) (whole : IsWhole (unfolding_of f cs)) where
  abbrev u : Unfolding
  u = unfolding_of f cs

  call_within : (i k : ℕ) (c : Call) → i < length cs → slice_get (calls_of_class u i) k ≡ Some c → (c.caller < length cs) × (c.callee < length cs)
  call_within i k c below at =
      let ks = sites_of f.points f.edges (routine_of (outline_of f) (class_at cs i)) in
      let found = value_at (call_from f cs i) ks k c at in
      let there = each_at (IsIn same_class cs) (map (callee_from f cs i) ks) k (callee_from f cs i found.one) (callees_in f cs (length cs) i whole (omega arith) below)
      (value_of (callee_from f cs i) ks k found.one found.at) in
      let number = first_within (same_class (callee_from f cs i found.one)) cs there in
      (subst (λ (d : Call). d.caller < length cs) found.is below, subst (λ (d : Call). d.callee < length cs) found.is number)

  pub calls_within : AreWithin (length cs) (calls u)
  calls_within k c at =
      let found = in_block (calls_of_class u) (length cs) k c (subst (λ (l : List Call). slice_get l k ≡ Some c) (all_calls u) at) in
      call_within found.block found.place c found.known found.is

  -- ---- the classes of whose reach one is left by a `goto`

  leaves_by : (r : ℕ) → HasGoto f (length f.edges) r → Leaves u r
  leaves_by r h = record { number = h.number; edge = h.edge; target = h.out.0; known = h.known; is_goto = h.out.1; stands = h.stands; other = h.out.2 }

  goto_of : (r : ℕ) → Leaves u r → HasGoto f (length f.edges) r
  goto_of r h = record { number = h.number; edge = h.edge; before = slice_get_within f.edges h.number h.edge h.known; known = h.known; stands = h.stands; out = (h.target, h.is_goto, h.other) }

  abbrev routine_in : ℕ → ℕ
  routine_in i = routine_of (outline_of f) (class_at cs i)

  module _ (routines first marks : List Bool) (leaving : AreLeaving f (length f.edges) routines) (long : length first ≡ length cs)
      (each : (i : ℕ) → i < length cs → slice_get first i ≡ slice_get routines (routine_in i))
      (some : MarksSome (calls u) true first marks) (closed : AreClosedFrom 0 (calls u) true marks) where
    left_from : (i : ℕ) → slice_get marks i ≡ Some true → IsLeft u i
    left_from i h =
        let led = some.led i h in
        let below : led.class < length cs = omega (arith, slice_get_within first led.class true led.marked, long) in
        record {
          class = led.class;
          reached = reached u i led.class led.leads;
          leaves = leaves_by (routine_in led.class) (leaving.marked (routine_in led.class) (sym (each led.class below) ∙ led.marked));
        }

    left_to : (i : ℕ) → i < length cs → IsLeft u i → slice_get marks i ≡ Some true
    left_to i below h =
        let within = reaches_within u (length cs) calls_within i h.class below h.reached in
        let first_mark = each h.class within ∙ leaving.all (routine_in h.class) (goto_of (routine_in h.class) h.leaves) in
        marked_back u true marks closed i h.class h.reached (some.kept h.class first_mark)

    pub are_left : AreLeft u marks
    are_left = record { number = some.long ∙ long; marks = λ i below. (left_from i, left_to i below) }

  -- ---- the silent classes

  module _ (stands : ℕ) (left first marks : List Bool) (are_left : AreLeft u left) (long : length first ≡ length cs)
      (each : (i : ℕ) (b : Bool) → i < length cs → slice_get first i ≡ Some b → IsOther left stands i (routine_in i) b)
      (some : MarksSome (calls u) false first marks) (closed : AreClosedFrom 0 (calls u) false marks) where
    mark_of : (i : ℕ) (ms : List Bool) → length ms ≡ length cs → i < length cs → (b : Bool) × (slice_get ms i ≡ Some b)
    mark_of i ms is below = (get_or ms i true, slice_get-get_or ms i true (omega (arith, is, below)))

    both_marks : (i : ℕ) → slice_get marks i ≡ Some true → slice_get marks i ≡ Some false → ⊥
    both_marks i h g = let same : Some true ≡ Some false = sym h ∙ g in absurd (grind (arith, same))

    other_by : (i j : ℕ) → slice_get marks i ≡ Some true → Reaches u i j → (b : Bool) → slice_get first j ≡ Some b → slice_get first j ≡ Some true
    other_by i j h way true at = at
    other_by i j h way false at = absurd (both_marks i h (marked_back u false marks closed i j way (some.kept j at)))

    silent_other : (i j : ℕ) → i < length cs → slice_get marks i ≡ Some true → Reaches u i j → IsOther left stands j (routine_in j) true
    silent_other i j below h way =
        let within = reaches_within u (length cs) calls_within i j below way in
        let mark = mark_of j first long within in
        each j true within (other_by i j h way mark.0 mark.1)

    silent_from : (i : ℕ) → i < length cs → slice_get marks i ≡ Some true → IsSilent u stands i
    silent_from i below h = record {
      apart = λ j way. (silent_other i j below h way).apart refl;
      stays = λ is_left.
          let free = (silent_other i i below h here).free refl in
          let marked = (are_left.marks i below).1 is_left in
          let same : Some false ≡ Some true = sym free ∙ marked in
          absurd (grind (arith, same));
    }

    not_silent : (i : ℕ) → i < length cs → IsSilent u stands i → slice_get marks i ≡ Some false → ⊥
    not_silent i below silent h =
        let led = some.led i h in
        let within : led.class < length cs = omega (arith, slice_get_within first led.class false led.marked, long) in
        let way = reached u i led.class led.leads in
        elim ((each led.class false within led.marked).dropped refl) [
          | inl marked ↦
              let there = (are_left.marks led.class within).0 marked in
              silent.stays (record { class = there.class; reached = reaches_on u i led.class there.class way there.reached; leaves = there.leaves })
          | inr stands_there ↦ silent.apart led.class way stands_there
        ]

    silent_by : (i : ℕ) → i < length cs → IsSilent u stands i → (b : Bool) → slice_get marks i ≡ Some b → slice_get marks i ≡ Some true
    silent_by i below silent true at = at
    silent_by i below silent false at = absurd (not_silent i below silent at)

    silent_to : (i : ℕ) → i < length cs → IsSilent u stands i → slice_get marks i ≡ Some true
    silent_to i below silent = let mark = mark_of i marks (some.long ∙ long) below in silent_by i below silent mark.0 mark.1

    pub are_silent : AreSilent u stands marks
    are_silent = record { number = some.long ∙ long; marks = λ i below. (silent_from i below, silent_to i below) }
