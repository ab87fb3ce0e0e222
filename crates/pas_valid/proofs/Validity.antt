-- The parts of validity, from what was tested of each routine, assertion and variable.
use Rattle.std.proofs.Common.{◌≡◌, ℕ, ◌<◌, Bool, true, false, ◌&&◌, List, length, nat_eq, nat_lt, map, refl, ap, ◌∙◌, Option, Some, None}
use Rattle.std.proofs.lemmas.Bool.{and_parts, and_from, lt-ltb, ltb-true, eq-eqb}
use Rattle.std.proofs.lemmas.Option.{slice_get_within}
use Rattle.std.specs.List.{slice_get, sum}
use Rattle.std.specs.Option.{option_map}
use Rattle.pas_program.specs.declared.routine.Assert.{Assert}
use Rattle.pas_program.specs.declared.routine.Routine.{Routine}
use Rattle.pas_program.specs.declared.type_def.TypeDef.{TypeDef}
use Rattle.pas_program.specs.declared.variable.VarDef.{VarDef}
use Rattle.pas_program.specs.declared.variable.VarKind.TheVariants as kind
use Rattle.pas_program.specs.Each.{each_expr}
use Rattle.pas_program.specs.Labels.{ConstantsDiffer, ControlsAreLocal, LabelsStand, assertion_rule, call_free_rule, choice_rule, control_rule, count_asserted, count_labelled, label_rule}
use Rattle.pas_program.specs.Order.{ListsOrdered}
use Rattle.pas_program.specs.Scopes.{scope_rule}
use Rattle.pas_program.specs.Tables.{head_of, holds_of, is_around, is_callable, is_own, is_visible, tables_of}
use Rattle.pas_program.specs.Typed.{type_of_var}
use Rattle.pas_program.specs.Types.{is_scalar}
use Rattle.pas_program.specs.Valid.{InRange, InScope, IsValid, WellTyped, counts_of, number_rule}
use Rattle.pas_program.proofs.Weaker.{Weaker, expr_weaker, statement_weaker}
use Rattle.pas_valid.specs.Standing.{Labels, LabelsAre, has_label}
use Rattle.pas_valid.specs.Whole.{AllFit, placed_in}
use Rattle.pas_valid.proofs.Order.{list_ordered}
use Rattle.pas_valid.proofs.Ranks.{holds_got, lists_fit, slice_get_below}

-- what is found is in range
found_below : {A : Type 0} (f : A → Bool) (xs : List A) (k : ℕ) → holds_of f (slice_get xs k) ≡ true → nat_lt k (length xs) ≡ true
found_below f xs k h = let p = holds_got f (slice_get xs k) h in lt-ltb _ _ (slice_get_within xs k p.0 p.1)

mapped_some : {A B : Type 0} (g : A → B) (o : Option A) (f : B → Bool) → holds_of f (option_map g o) ≡ true → holds_of (λ x. f (g x)) o ≡ true
mapped_some g None f h = h
mapped_some g (Some x) f h = h

module _ (types : List TypeDef) (vars : List VarDef) (routines : List Routine) (asserts : List Assert) (labels : List Labels) where
  callable_below : (r s : ℕ) → is_callable (tables_of types vars routines) r s ≡ true → nat_lt s (length routines) ≡ true
  callable_below r s h = found_below _ routines s (mapped_some head_of (slice_get routines s) _ h)

  numbers : (calls : Bool) (r : ℕ) → Weaker (placed_in types vars routines asserts labels calls r) (number_rule (counts_of types vars routines asserts))
  numbers calls r = record {
    variable = λ v h. found_below _ vars v h;
    call = λ s slot h. let p = and_parts (is_callable (tables_of types vars routines) r s) _ (and_parts calls _ h).1 in and_from _ _ (callable_below r s p.0) (found_below _ vars slot p.1);
    invoke = λ s h. callable_below r s h;
    loop = λ control bound h.
        let p = and_parts (is_own (tables_of types vars routines) r kind.Local control && is_scalar (type_of_var (tables_of types vars routines) control)) _ h in
        let q = and_parts (is_visible (tables_of types vars routines) r control) _ p.1 in
        and_from _ _ (found_below _ vars control q.0) (found_below _ vars bound q.1);
    jump = λ s label h. (and_parts (nat_lt s (length routines)) _ (and_parts (nat_lt s (length routines) && is_around (tables_of types vars routines) r s) _ h).0).0;
    assertion = λ a h. found_below _ asserts a h;
    sequence = λ n h. refl;
    choice = λ constants h. refl;
  }

  scopes : (calls : Bool) (r : ℕ) → Weaker (placed_in types vars routines asserts labels calls r) (scope_rule (tables_of types vars routines) r)
  scopes calls r = record {
    variable = λ v h. h;
    call = λ s slot h. (and_parts calls _ h).1;
    invoke = λ s h. h;
    loop = λ control bound h. (and_parts (is_own (tables_of types vars routines) r kind.Local control && is_scalar (type_of_var (tables_of types vars routines) control)) _ h).1;
    jump = λ s label h. (and_parts (nat_lt s (length routines)) _ (and_parts (nat_lt s (length routines) && is_around (tables_of types vars routines) r s) _ h).0).1;
    assertion = λ a h. refl;
    sequence = λ n h. h;
    choice = λ constants h. refl;
  }

  controls : (r : ℕ) → Weaker (placed_in types vars routines asserts labels true r) (control_rule (tables_of types vars routines) r)
  controls r = record {
    variable = λ v h. refl;
    call = λ s slot h. refl;
    invoke = λ s h. refl;
    loop = λ control bound h. (and_parts (is_own (tables_of types vars routines) r kind.Local control && is_scalar (type_of_var (tables_of types vars routines) control)) _ h).0;
    jump = λ s label h. refl;
    assertion = λ a h. refl;
    sequence = λ n h. refl;
    choice = λ constants h. refl;
  }

  constants : (r : ℕ) → Weaker (placed_in types vars routines asserts labels true r) choice_rule
  constants r = record {
    variable = λ v h. refl;
    call = λ s slot h. refl;
    invoke = λ s h. refl;
    loop = λ control bound h. refl;
    jump = λ s label h. refl;
    assertion = λ a h. refl;
    sequence = λ n h. refl;
    choice = λ constants h. h;
  }

  own_asserts : (r : ℕ) → Weaker (placed_in types vars routines asserts labels true r) (assertion_rule asserts r)
  own_asserts r = record {
    variable = λ v h. refl;
    call = λ s slot h. refl;
    invoke = λ s h. refl;
    loop = λ control bound h. refl;
    jump = λ s label h. refl;
    assertion = λ a h. h;
    sequence = λ n h. refl;
    choice = λ constants h. refl;
  }

  no_calls : (r : ℕ) → Weaker (placed_in types vars routines asserts labels false r) call_free_rule
  no_calls r = record {
    variable = λ v h. refl;
    call = λ s slot h. h;
    invoke = λ s h. refl;
    loop = λ control bound h. refl;
    jump = λ s label h. refl;
    assertion = λ a h. refl;
    sequence = λ n h. refl;
    choice = λ constants h. refl;
  }

  -- a label that the set of a routine has stands at one of its statements
  one_labelled : LabelsAre routines labels → (s label : ℕ) → nat_lt s (length routines) ≡ true → has_label labels s label ≡ true → (label_rule routines).jump s label ≡ true
  one_labelled are s label h has =
      let found = slice_get_below routines s (ltb-true s (length routines) h) in
      ap (holds_of (λ (d : Routine). nat_eq (count_labelled label d.body) 1)) found.1 ∙ eq-eqb _ _ (are.each s label found.0 found.1 has)

  jumps : LabelsAre routines labels → (r : ℕ) → Weaker (placed_in types vars routines asserts labels true r) (label_rule routines)
  jumps are r = record {
    variable = λ v h. refl;
    call = λ s slot h. refl;
    invoke = λ s h. refl;
    loop = λ control bound h. refl;
    jump = λ s label h.
        let p = and_parts (nat_lt s (length routines) && is_around (tables_of types vars routines) r s) _ h in
        one_labelled are s label (and_parts (nat_lt s (length routines)) _ p.0).0 p.1;
    assertion = λ a h. refl;
    sequence = λ n h. refl;
    choice = λ constants h. refl;
  }

  in_range : (ranks : List ℕ) → AllFit types vars routines asserts labels ranks → InRange types vars routines asserts
  in_range ranks f = record {
    var = f.range;
    routine = λ r d e. (f.routine r d e).range;
    body = λ r d e. statement_weaker _ _ (numbers true r) d.body (f.routine r d e).scopes;
    assertion = λ a d e. (f.assertion a d e).range;
    condition = λ a d e. expr_weaker _ _ (numbers false d.routine) d.cond (f.assertion a d e).scopes;
  }

  well_typed : (ranks : List ℕ) → AllFit types vars routines asserts labels ranks → WellTyped types vars routines asserts
  well_typed ranks f = record {
    result = λ r d e. (f.routine r d e).result;
    body = λ r d e. (f.routine r d e).body;
    condition = λ a d e. (f.assertion a d e).condition;
  }

  in_scope : (ranks : List ℕ) → AllFit types vars routines asserts labels ranks → InScope types vars routines asserts
  in_scope ranks f = record {
    last = f.some;
    parent = λ r d e. (f.routine r d e).parent;
    lists = λ r d e. lists_fit vars ranks routines r d e (f.routine r d e).lists f.known;
    outermost = λ r d e. (f.routine r d e).outermost;
    body = λ r d e. statement_weaker _ _ (scopes true r) d.body (f.routine r d e).scopes;
    condition = λ a d e. expr_weaker _ _ (scopes false d.routine) d.cond (f.assertion a d e).scopes;
  }

  controls_local : (ranks : List ℕ) → AllFit types vars routines asserts labels ranks → ControlsAreLocal (tables_of types vars routines) routines
  controls_local ranks f = record { each = λ r d e. statement_weaker _ _ (controls r) d.body (f.routine r d e).scopes }

  constants_differ : (ranks : List ℕ) → AllFit types vars routines asserts labels ranks → ConstantsDiffer routines
  constants_differ ranks f = record { each = λ r d e. statement_weaker _ _ (constants r) d.body (f.routine r d e).scopes }

  labels_stand : (ranks : List ℕ) → AllFit types vars routines asserts labels ranks → LabelsAre routines labels → LabelsStand routines
  labels_stand ranks f are = record { each = λ r d e. statement_weaker _ _ (jumps are r) d.body (f.routine r d e).scopes }

  conditions_call_free : (ranks : List ℕ) → AllFit types vars routines asserts labels ranks → (a : ℕ) (d : Assert) → slice_get asserts a ≡ Some d → each_expr call_free_rule d.cond ≡ true
  conditions_call_free ranks f a d e = expr_weaker _ _ (no_calls d.routine) d.cond (f.assertion a d e).scopes

  lists_ordered : (ranks : List ℕ) → AllFit types vars routines asserts labels ranks → ListsOrdered vars routines
  lists_ordered ranks f = record { each = λ r d e. list_ordered vars ranks r d (f.routine r d e).lists }

  -- how often assertions stand
  abbrev pub StandOnce : Type 0
  StandOnce = (a : ℕ) → a < length asserts → sum (map (λ (d : Routine). count_asserted a d.body) routines) ≡ 1

  abbrev pub StandInOwn : Type 0
  StandInOwn = (a : ℕ) (d : Assert) (e : Routine) → slice_get asserts a ≡ Some d → slice_get routines d.routine ≡ Some e → count_asserted a e.body ≡ 1

  pub valid : (ranks : List ℕ) → AllFit types vars routines asserts labels ranks → LabelsAre routines labels → StandOnce → StandInOwn → IsValid types vars routines asserts
  valid ranks f are once own = record {
    in_range = in_range ranks f;
    well_typed = well_typed ranks f;
    in_scope = in_scope ranks f;
    bounded = f.bounded;
    labels_stand = labels_stand ranks f are;
    controls_local = controls_local ranks f;
    constants_differ = constants_differ ranks f;
    asserts_stand = record {
      once = once;
      own = own;
      here = λ r d e. statement_weaker _ _ (own_asserts r) d.body (f.routine r d e).scopes;
      call_free = conditions_call_free ranks f;
    };
    lists_ordered = lists_ordered ranks f;
  }
