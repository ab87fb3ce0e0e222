-- What holds of a call from a class: the class of the callee's static parent, the room for the callee's cells, and the class that is
-- entered.
use Rattle.std.proofs.Common.{◌≡◌, ℕ, ◌+◌, ◌<◌, ◌≤◌, Bool, true, false, List, [], ◌∷◌, length, map, Option, Some, None, nat_eq, refl, sym, ap, ◌∙◌, subst, arith}
use Rattle.std.specs.List.{All}
use Rattle.std.specs.Option.{option_and_then, option_map, unwrap_or}
use Rattle.std.specs.Prelude.{is_some, slice_get, if◌then◌else◌}
use Rattle.std.proofs.lemmas.List.{length-map}
use Rattle.std.proofs.lemmas.List.Elements.{All-cons, All-head, All-nil, All-tail}
use Rattle.std.proofs.lemmas.Option.{slice_get_within}
use Rattle.pas_program.specs.declared.expr.Access.{Access}
use Rattle.pas_program.specs.declared.expr.Actual.{Actual}
use Rattle.pas_program.specs.declared.expr.Actual.TheViews.{out-Access}
use Rattle.pas_program.specs.Tables.{holds_of}
use Rattle.alias_class.specs.declared.bind.Bind.{Bind}
use Rattle.alias_class.specs.declared.outline.Outline.{Outline}
use Rattle.alias_class.specs.declared.outline.Referent.{Referent}
use Rattle.alias_class.specs.declared.outline.Referent.TheVariants.{Own, Bound}
use Rattle.alias_class.specs.declared.outline.VariableOutline.{VariableOutline}
use Rattle.alias_class.specs.Calls.{named, parent_in, var_actuals}
use Rattle.alias_class.specs.Cells.{IsClass, around, cell_count, inherited_count, is_seen, own_count, referred, resolve, resolve_access, routine_of, whole_cell}
use Rattle.alias_class.specs.Classes.{Class, bindings_of}
use Rattle.alias_class.specs.Kept.{OutlineFits}
use Rattle.alias_class.specs.Outlines.{formals_of, owner_of, parent_of, referent_of}
use Rattle.alias_class.specs.Passings.{AreSeen, IsCallFrom, IsDeclaredAround}
use Rattle.alias_class.proofs.Resolving.{binding_within, bound_within, is_around_of, own_within, resolve_around}

-- ---- the class of a routine around a class

-- it is a class, too
pub around_class : (o : Outline) (c : Class) → IsClass o c → (r : ℕ) (d : Class) → around o c r ≡ Some d → IsClass o d
around_class o [] is r d e = by (nat_eq o.main r) e
  where
    by : (b : Bool) → ◌≡◌ {A = Option Class} (if b then Some [] else None) (Some d) → IsClass o d
    by true e = let here : [] ≡ d = grind arith in subst (IsClass o) here tt
    by false e = absurd (grind arith)
around_class o (x ∷ parent) is r d e = by (nat_eq x.routine r) e (around_class o parent is.1 r d)
  where
    by : (b : Bool) → (if b then Some (x ∷ parent) else around o parent r) ≡ Some d → (around o parent r ≡ Some d → IsClass o d) → IsClass o d
    by true e rest = let here : x ∷ parent ≡ d = grind arith in subst (IsClass o) here is
    by false e rest = rest e

-- a variable that is seen, and the class of its routine
record SeenIn (o : Outline) (c : Class) (v : ℕ) : Type 0 where
  below : v < length o.variables
  owner : Class
  found : around o c (owner_of o v) ≡ Some owner

seen_in : (o : Outline) (c : Class) (v : ℕ) → is_seen o c v ≡ true → SeenIn o c v
seen_in o c v e = by (slice_get o.variables v) refl e
  where
    of : (x : VariableOutline) → slice_get o.variables v ≡ Some x → (d : Option Class) → around o c x.routine ≡ d → is_some d ≡ true → SeenIn o c v
    of x at None there e = absurd (grind arith)
    of x at (Some d) there e = record { below = slice_get_within o.variables v x at; owner = d; found = ap (λ (y : Option VariableOutline). around o c (unwrap_or (option_map (λ (x : VariableOutline). x.routine) y) 0)) at ∙ there }

    by : (y : Option VariableOutline) → slice_get o.variables v ≡ y → holds_of (λ (x : VariableOutline). is_some (around o c x.routine)) y ≡ true → SeenIn o c v
    by None at e = absurd (grind arith)
    by (Some x) at e = of x at (around o c x.routine) refl e

-- what a name that is seen stands for is a cell of the class
pub resolve_below : (o : Outline) → OutlineFits o → (c : Class) → IsClass o c → (v : ℕ) → is_seen o c v ≡ true → (resolve o c v).cell < cell_count o c
resolve_below o fits c is v e =
    let within = is_around_of o c (owner_of o v) seen.owner seen.found in
    let fewer = within.fewer in
    let here = of (referent_of o v) refl in
    let same = ap (λ (b : Bind). b.cell) (resolve_around o c v seen.owner seen.found) in
    omega arith
  where
    seen : SeenIn o c v
    seen = seen_in o c v e

    routine : routine_of o seen.owner ≡ owner_of o v
    routine = (is_around_of o c (owner_of o v) seen.owner seen.found).routine

    of : (r : Referent) → referent_of o v ≡ r → (referred (inherited_count o seen.owner) (bindings_of seen.owner) (referent_of o v)).cell < cell_count o seen.owner
    of (Own k) at =
        let rank : k < own_count o (routine_of o seen.owner) = subst (λ (r : ℕ). k < own_count o r) (sym routine) (fits.own_rank v k seen.below at) in
        subst (λ (r : Referent). (referred (inherited_count o seen.owner) (bindings_of seen.owner) r).cell < cell_count o seen.owner) (sym at) (own_within o seen.owner k rank)
    of (Bound k) at =
        let rank : k < length (formals_of o (routine_of o seen.owner)) = subst (λ (r : ℕ). k < length (formals_of o r)) (sym routine) (fits.formal_rank v k seen.below at) in
        let owner_is = around_class o c is (owner_of o v) seen.owner seen.found in
        subst (λ (r : Referent). (referred (inherited_count o seen.owner) (bindings_of seen.owner) r).cell < cell_count o seen.owner) (sym at)
        (binding_within o seen.owner owner_is k (whole_cell 0) (bound_within o seen.owner fits owner_is k rank))

-- ---- a call

pub named_below : (o : Outline) → OutlineFits o → (c : Class) → IsClass o c → (accesses : List Access) → AreSeen o c accesses → All (λ (b : Bind). b.cell < cell_count o c) (map (resolve_access o c) accesses)
named_below o fits c is [] seen = All-nil (λ (b : Bind). b.cell < cell_count o c)
named_below o fits c is (a ∷ accesses) seen =
    All-cons (λ (b : Bind). b.cell < cell_count o c) (resolve_access o c a) (map (resolve_access o c) accesses)
    (resolve_below o fits c is (out-Access a).var (All-head (λ (a : Access). is_seen o c (out-Access a).var ≡ true) a accesses seen))
    (named_below o fits c is accesses (All-tail (λ (a : Access). is_seen o c (out-Access a).var ≡ true) a accesses seen))

module _ (o : Outline) (fits : OutlineFits o) (c : Class) (is : IsClass o c) (r : ℕ) (call : IsDeclaredAround o c r) where
  pub parent_is : parent_in o c r ≡ call.owner
  parent_is =
      ap (λ (p : Option ℕ). unwrap_or (option_and_then (around o c) p) []) call.declared
      ∙ ap (λ (d : Option Class). unwrap_or d []) call.found

  pub parent_class_is : IsClass o (parent_in o c r)
  parent_class_is = subst (IsClass o) (sym parent_is) (around_class o c is call.parent call.owner call.found)

  pub parent_declares : parent_of o r ≡ Some (routine_of o (parent_in o c r))
  parent_declares = call.declared ∙ ap Some (sym (is_around_of o c call.parent call.owner call.found).routine ∙ ap (routine_of o) (sym parent_is))

  pub parent_fewer : cell_count o (parent_in o c r) ≤ cell_count o c
  parent_fewer =
      let fewer = (is_around_of o c call.parent call.owner call.found).fewer in
      let same = ap (cell_count o) parent_is in
      omega arith

  pub parent_room : cell_count o (parent_in o c r) + (own_count o r + length (formals_of o r)) ≤ length o.variables
  parent_room = fits.room (parent_in o c r) r parent_class_is parent_declares

pub length-named : (o : Outline) (c : Class) (r : ℕ) (actuals : List Actual) → IsCallFrom o c r actuals → length (named o c actuals) ≡ length (formals_of o r)
length-named o c r actuals call = length-map (var_actuals actuals) (resolve_access o c) ∙ call.passed
