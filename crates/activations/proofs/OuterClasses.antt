-- The classes around one of an unfolding are classes of it.
use Rattle.std.proofs.Common.{◌≡◌, ℕ, zero, suc, ◌<◌, Bool, true, false, List, [], ◌∷◌, ◌++◌, fold, length, nat_eq, Option, Some, None, slice_get, refl, sym, ap, subst, ◌∙◌, arith, cond}
use Rattle.std.specs.Prelude.{if◌then◌else◌}
use Rattle.std.specs.List.{Contains, list_any, flat_map}
use Rattle.std.specs.Option.{option_and_then, option_map, unwrap_or}
use Rattle.std.proofs.lemmas.Option.{slice_get-map}
use Rattle.control_points.specs.declared.edge.Act.{Act}
use Rattle.control_points.specs.declared.edge.Act.TheVariants as act
use Rattle.control_points.specs.Fits.{act_at}
use Rattle.alias_class.specs.declared.outline.Outline.{Outline}
use Rattle.alias_class.specs.Calls.{callee, callee_by}
use Rattle.alias_class.specs.Cells.{around, routine_of}
use Rattle.alias_class.specs.Classes.{Class, class_at, same_class}
use Rattle.alias_class.specs.Distinct.{with_member}
use Rattle.alias_class.specs.Outlines.{parent_of}
use Rattle.activations.specs.Calls.{callees, sites_of}
use Rattle.activations.specs.Unfolding.{IsWhole, Unfolding, outermost}
use Rattle.activations.proofs.Blocks.{append_at_left}
use Rattle.activations.proofs.ClassNumbers.{class_is, class_there, whole_is}
use Rattle.activations.proofs.FoundNodes.{member_at}

some_is : {A : Type 0} (x y : A) → Some x ≡ Some y → x ≡ y
some_is x y h = grind arith

-- a class of a list, with its number
abbrev pub Stands : List Class → Class → Type 0
Stands classes c = (n : ℕ) × (slice_get classes n ≡ Some c)

-- a class and all around it stand in a list
abbrev pub AllStand : List Class → Class → Type 0
AllStand classes [] = Stands classes []
AllStand classes (e ∷ parent) = Stands classes (e ∷ parent) × AllStand classes parent

module _ (classes : List Class) where
  pub stands : (c : Class) → AllStand classes c → Stands classes c
  stands [] all = all
  stands (e ∷ parent) all = all.0

  -- ---- around one

  same_all : (c d : Class) → Some c ≡ Some d → AllStand classes c → AllStand classes d
  same_all c d is all = subst (AllStand classes) (some_is c d is) all

  here_by : (c d : Class) (rest : Option Class) (b : Bool) → AllStand classes c → (rest ≡ Some d → AllStand classes d) → cond b (Some c) rest ≡ Some d → AllStand classes d
  here_by c d rest true all further h = same_all c d h all
  here_by c d rest false all further h = further h

  none_all : (d : Class) → None ≡ Some d → AllStand classes d
  none_all d h = absurd (grind arith)

  pub around_stand : (o : Outline) (c d : Class) (r : ℕ) → AllStand classes c → around o c r ≡ Some d → AllStand classes d
  around_stand o [] d r all h = here_by [] d None (nat_eq o.main r) all (none_all d) h
  around_stand o (e ∷ parent) d r all h = here_by (e ∷ parent) d (around o parent r) (nat_eq e.routine r) all (around_stand o parent d r all.1) h

  -- ---- what it calls

  parent_by : (o : Outline) (c : Class) (r : ℕ) → AllStand classes c → Stands classes [] → (found : Option Class) → around o c r ≡ found → AllStand classes (unwrap_or found [])
  parent_by o c r all outer None is = outer
  parent_by o c r all outer (Some d) is = around_stand o c d r all is

  parent_stands : (o : Outline) (c : Class) → AllStand classes c → Stands classes [] → (declared : Option ℕ) → AllStand classes (unwrap_or (option_and_then (around o c) declared) [])
  parent_stands o c all outer None = outer
  parent_stands o c all outer (Some r) = parent_by o c r all outer (around o c r) refl

  pub callee_stands : (o : Outline) (c : Class) (k : ℕ) → AllStand classes c → Stands classes [] → (a : Option Act) → Stands classes (callee_by o c k a) → AllStand classes (callee_by o c k a)
  callee_stands o c k all outer None there = there
  callee_stands o c k all outer (Some (act.Call r actuals slot at)) there = (there, parent_stands o c all outer (parent_of o r))
  callee_stands o c k all outer (Some a) there = there

-- ---- the first is the program's block

kept_by : (before : List Class) (x y : Class) (b : Bool) → slice_get before 0 ≡ Some y → slice_get (if b then before else before ++ x ∷ []) 0 ≡ Some y
kept_by before x y true at = at
kept_by before x y false at = append_at_left before (x ∷ []) 0 y at

first_kept : (before xs : List Class) (y : Class) → slice_get before 0 ≡ Some y → slice_get (fold (with_member same_class) before xs) 0 ≡ Some y
first_kept before [] y at = at
first_kept before (x ∷ xs) y at = first_kept (with_member same_class before x) xs y (kept_by before x y (list_any (same_class x) before) at)

module _ (u : Unfolding) (whole : IsWhole u) where
  outermost_first : slice_get u.classes 0 ≡ Some outermost
  outermost_first = ap (λ (cs : List Class). slice_get cs 0) (whole_is u whole) ∙ first_kept (outermost ∷ []) (flat_map (callees u.points u.edges u.outline) u.classes) outermost refl

  called_by : (c d : Class) (o : Option ℕ) → option_map (callee u.outline u.edges c) o ≡ Some d → (k : ℕ) × (callee u.outline u.edges c k ≡ d)
  called_by c d None h = absurd (grind arith)
  called_by c d (Some k) h = (k, some_is _ d h)

  called_from : (c d : Class) → Contains (callees u.points u.edges u.outline c) d → (k : ℕ) × (callee u.outline u.edges c k ≡ d)
  called_from c d among =
      let at = member_at (callees u.points u.edges u.outline c) d among in
      let sites = sites_of u.points u.edges (routine_of u.outline c) in
      called_by c d (slice_get sites at.number) (sym (slice_get-map (callee u.outline u.edges c) sites at.number) ∙ at.is)

  all_before : (n i : ℕ) → i < n → i < length u.classes → AllStand u.classes (class_at u.classes i)
  all_before zero i below inside = absurd (omega (arith, below))
  all_before (suc n) zero below inside = subst (AllStand u.classes) (sym (class_is u.classes 0 outermost outermost_first)) (0, outermost_first)
  all_before (suc n) (suc m) below inside =
      let by = whole.called m inside in
      let c = class_at u.classes by.0 in
      let d = class_at u.classes (suc m) in
      let is = called_from c d by.3 in
      let caller = all_before n by.0 (omega (arith, by.1, below)) (omega (arith, by.1, inside)) in
      let there : Stands u.classes d = (suc m, class_there u.classes (suc m) inside) in
      subst (AllStand u.classes) is.1 (callee_stands u.classes u.outline c is.0 caller (0, outermost_first) (act_at u.edges is.0) (subst (Stands u.classes) (sym is.1) there))

  -- the class around one, of a routine
  pub around_is_one : (i r : ℕ) (d : Class) → i < length u.classes → around u.outline (class_at u.classes i) r ≡ Some d → Stands u.classes d
  around_is_one i r d inside found = stands u.classes d (around_stand u.classes u.outline (class_at u.classes i) d r (all_before (suc i) i (omega arith) inside) found)
