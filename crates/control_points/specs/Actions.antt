-- What each action does in a state (ISO 7185, 6.8 and 6.9): nothing, where it is not the one to be done; or its effect; or an
-- error.
use Rattle.std.specs.Prelude.{ℕ, ◌-◌, Bool, true, false, List, [], ◌∷◌, ◌++◌, length, ℤ, pos, ◌+ℤ◌, ◌-ℤ◌, int_le, int_lt, nat_abs, nat_eq, Option, Some, None, Ok, slice_get, unwrap_or, option_and_then, if◌then◌else◌}
use Rattle.std.specs.List.{list_any}
use Rattle.std.specs.Ordering.{int_eq}
use Rattle.arithmetic.specs.Numbers.{truth}
use Rattle.px_base.specs.declared.kind.Kind.TheVariants.{ValueOutOfRange, NoNumber, WidthOutOfRange, NoResult}
use Rattle.pas_program.specs.declared.expr.Access.{Access}
use Rattle.pas_program.specs.declared.expr.Actual.{Actual}
use Rattle.pas_program.specs.declared.expr.Actual.TheOpen.{Actual-F}
use Rattle.pas_program.specs.declared.expr.Actual.TheViews.{out-Actual, out-Expr}
use Rattle.pas_program.specs.declared.expr.Expr.{Expr}
use Rattle.pas_program.specs.declared.expr.ExprForm.{ExprForm}
use Rattle.pas_program.specs.declared.statement.WriteItem.{WriteItem}
use Rattle.pas_program.specs.declared.statement.WriteValue.{WriteValue}
use Rattle.pas_program.specs.declared.statement.WriteValue.TheVariants as written
use Rattle.pas_program.specs.Tables.{Head}
use Rattle.pas_program.specs.Typed.{hosted, reached}
use Rattle.control_points.specs.declared.edge.Act.{Act}
use Rattle.control_points.specs.declared.edge.Act.TheVariants as act
use Rattle.control_points.specs.declared.edge.Edge.{Edge}
use Rattle.control_points.specs.declared.item.Item.{Item}
use Rattle.control_points.specs.Chart.{Chart}
use Rattle.control_points.specs.Evaluation.{Answer, View, Spot, fault, then_with, checked, defined, is_value_of, var_type, value, spot, assigned}
use Rattle.control_points.specs.Finding.{around, place_of}
use Rattle.control_points.specs.Input.{Taken, next_number, after_line}
use Rattle.control_points.specs.Output.{Written, text_of, in_columns, is_width, line_feed}
use Rattle.control_points.specs.States.{Binding, Frame, Stack, State}
use Rattle.control_points.specs.Storage.{Place, whole}

-- ---- effects

-- A change of the store: a place gets a number or becomes undefined, or it gets the parts of another.
pub data Change : Type 0 where
  sets : Place → Option ℤ → Change
  copies : Place → Place → Change

-- Which activation goes on.
pub data Onward : Type 0 where
  -- the one at this depth; those above it end
  at_depth : ℕ → Onward
  -- a new one
  anew : Frame → Onward

-- Which activation goes on, what then changes in the store, and the input and the output afterwards.
pub record Effect : Type 0 where
  pub onward : Onward
  pub changes : List Change
  pub items : List Item
  pub output : List ℕ

-- None is the answer of an action that is not the one to be done.
abbrev pub Outcome : Type 0
Outcome = Answer (Option Effect)

-- What a call gives its new activation: the values of value parameters, and what variable parameters stand for.
pub record Passing : Type 0 where
  pub changes : List Change
  pub bindings : List Binding

abbrev pub no_passing : Passing
no_passing = record { changes = []; bindings = [] }

abbrev pub both : Passing → Passing → Passing
both p q = record { changes = p.changes ++ q.changes; bindings = p.bindings ++ q.bindings }

-- the constants of a `case` are those of which the selector's value must be one
abbrev pub is_one_of : List ℤ → ℤ → Bool
is_one_of constants z = list_any (λ y. int_eq z y) constants

-- whether a `for` from x to y has a turn, and whether there is one after that with the value x
abbrev pub in_order : Bool → ℤ → ℤ → Bool
in_order down x y = if down then int_le y x else int_le x y

abbrev pub comes_before : Bool → ℤ → ℤ → Bool
comes_before down x y = if down then int_lt y x else int_lt x y

-- the next value
abbrev pub stepped : Bool → ℤ → ℤ
stepped down x = if down then x -ℤ pos 1 else x +ℤ pos 1

-- the slot that a call's result goes to
abbrev pub slot_of : Act → Option ℕ
slot_of (act.Call routine actuals slot at) = slot
slot_of _ = None

abbrev pub slot_at : List Edge → ℕ → Option ℕ
slot_at edges k = option_and_then (λ (e : Edge). slot_of e.act) (slice_get edges k)

-- the number of a stack's latest activation
abbrev pub top_depth : Stack → ℕ
top_depth stack = length stack - 1

-- the edge of the call that made the latest activation
abbrev pub top_call : Stack → Option ℕ
top_call [] = None
top_call (a ∷ below) = a.frame.call

abbrev pub was_made_by : ℕ → Option ℕ → Bool
was_made_by k None = false
was_made_by k (Some j) = nat_eq j k

-- the types of a chart's accesses
abbrev pub access_type : Chart → Access → ℕ
access_type c a = (reached c.tables a).of_type

abbrev pub fits_type : Chart → ℕ → ℤ → Bool
fits_type c n z = is_value_of (c.tables.type_at n) z

-- the variable for the result of the latest activation's routine
abbrev pub result_of : Chart → Stack → ℕ
result_of c [] = 0
result_of c (a ∷ below) = unwrap_or (option_and_then (λ (h : Head). h.result) (c.tables.head_at a.frame.routine)) 0

-- a function's result, which must be defined (6.6.2)
abbrev pub result_value : ℕ → Option ℤ → Answer ℤ
result_value at (Some z) = Ok z
result_value at None = fault NoResult at

module _ (c : Chart) (s : State) where
  -- what the latest activation evaluates its expressions in
  abbrev pub view : View
  view = record { tables = c.tables; place = place_of c.tables s.stack (top_depth s.stack); store = s.store }

  -- the activation at a depth goes on, with changes of the store alone
  abbrev pub goes_on : ℕ → List Change → Outcome
  goes_on d changes = Ok (Some (record { onward = at_depth d; changes = changes; items = s.items; output = s.output }))

  -- the latest activation goes on
  abbrev pub does : List Change → Outcome
  does changes = goes_on (top_depth s.stack) changes

  -- ---- assignments (6.8.2.2): the subscripts on the left are evaluated first

  abbrev pub assign : Access → Expr → Outcome
  assign target e =
      then_with (spot view target) (λ p.
      then_with (assigned view (access_type c target) e) (λ z. does (sets p.place (Some z) ∷ [])))

  abbrev pub copy : Access → Access → Outcome
  copy target source =
      then_with (spot view target) (λ p.
      then_with (spot view source) (λ q. does (copies p.place q.place ∷ [])))

  -- ---- calls (6.6.3, 6.7.3 and 6.8.2.3): the new activation is one above the latest

  -- one actual, for the formal v
  abbrev pub pass_to : ℕ → Actual-F Actual ExprForm Access Expr → Answer Passing
  pass_to v (Actual-F.«Actual::Value» e) =
      then_with (assigned view (var_type c.tables v) e) (λ z.
      Ok (record { changes = sets (whole (length s.stack) v) (Some z) ∷ []; bindings = [] }))
  pass_to v (Actual-F.Whole source) =
      then_with (spot view source) (λ p.
      Ok (record { changes = copies (whole (length s.stack) v) p.place ∷ []; bindings = [] }))
  pass_to v (Actual-F.Var target) =
      then_with (spot view target) (λ p.
      Ok (record { changes = []; bindings = record { formal = v; place = p.place } ∷ [] }))

  -- all actuals, from left to right
  abbrev pub pass : List Actual → List ℕ → Answer Passing
  pass [] formals = Ok no_passing
  pass (a ∷ actuals) [] = Ok no_passing
  pass (a ∷ actuals) (v ∷ formals) =
      then_with (pass_to v (out-Actual a)) (λ first.
      then_with (pass actuals formals) (λ rest. Ok (both first rest)))

  -- the frame that the call of the edge k makes; it lies within the activation that declares the routine
  abbrev pub frame_of_call : ℕ → ℕ → Option Head → List Binding → Frame
  frame_of_call k routine head bindings = record {
    routine = routine;
    call = Some k;
    parent = option_and_then (λ (h : Head). option_and_then (λ p. around s.stack (top_depth s.stack) p) h.parent) head;
    bindings = bindings;
  }

  abbrev pub formals_of : Option Head → List ℕ
  formals_of None = []
  formals_of (Some h) = h.formals

  abbrev pub call : ℕ → ℕ → List Actual → Outcome
  call k routine actuals =
      let head = c.tables.head_at routine in
      then_with (pass actuals (formals_of head)) (λ p.
      Ok (Some (record { onward = anew (frame_of_call k routine head p.bindings); changes = p.changes; items = s.items; output = s.output })))

  -- the result of a function goes to the slot in the activation that called it; it must be defined at the exit
  abbrev pub give_back : ℕ → Option ℕ → Outcome
  give_back at None = goes_on (top_depth s.stack - 1) []
  give_back at (Some slot) =
      then_with (result_value at (s.store (whole (top_depth s.stack) (result_of c s.stack)))) (λ z.
      goes_on (top_depth s.stack - 1) (sets (whole (top_depth s.stack - 1) slot) (Some z) ∷ []))

  abbrev pub return_from : ℕ → ℕ → Outcome
  return_from k at = if was_made_by k (top_call s.stack) then give_back at (slot_at c.edges k) else Ok None

  -- a `goto` (6.8.2.4) ends the activations above that of the label's block
  abbrev pub jump : ℕ → Outcome
  jump routine = goes_on (unwrap_or (around s.stack (top_depth s.stack) routine) (top_depth s.stack)) []

  -- ---- conditions (6.8.3.4, 6.8.3.5, 6.8.3.7 and 6.8.3.8)

  abbrev pub test : Expr → Bool → Outcome
  test e wanted = then_with (value view e) (λ z. if int_eq z (truth wanted) then does [] else Ok None)

  abbrev pub arm : Expr → List ℤ → Outcome
  arm selector constants = then_with (value view selector) (λ z. if is_one_of constants z then does [] else Ok None)

  -- ---- `for` (6.8.3.9)

  -- the first and the last value
  abbrev pub range_of : Expr → Expr → (ℤ → ℤ → Outcome) → Outcome
  range_of first last f = then_with (value view first) (λ x. then_with (value view last) (λ y. f x y))

  -- both are checked after both are evaluated, where there is a turn
  abbrev pub enter : ℕ → ℕ → Expr → Bool → Expr → Outcome
  enter control bound first down last =
      range_of first last (λ x y.
      if in_order down x y
      then then_with (checked (fits_type c (var_type c.tables control) x) ValueOutOfRange (out-Expr first).first x) (λ x.
      then_with (checked (fits_type c (var_type c.tables control) y) ValueOutOfRange (out-Expr last).first y) (λ y.
      does (sets (view.place control) (Some x) ∷ sets (view.place bound) (Some y) ∷ [])))
      else Ok None)

  abbrev pub bypass : ℕ → Expr → Bool → Expr → Outcome
  bypass control first down last =
      range_of first last (λ x y. if in_order down x y then Ok None else does (sets (view.place control) None ∷ []))

  -- the values of the control variable and of the kept last value
  abbrev pub turn_of : ℕ → ℕ → ℕ → (ℤ → ℤ → Outcome) → Outcome
  turn_of control bound at f =
      then_with (defined at (s.store (view.place control))) (λ x.
      then_with (defined at (s.store (view.place bound))) (λ y. f x y))

  abbrev pub next_turn : ℕ → ℕ → Bool → ℕ → Outcome
  next_turn control bound down at =
      turn_of control bound at (λ x y. if comes_before down x y then does (sets (view.place control) (Some (stepped down x)) ∷ []) else Ok None)

  -- afterwards the control variable is undefined
  abbrev pub finish : ℕ → ℕ → Bool → ℕ → Outcome
  finish control bound down at =
      turn_of control bound at (λ x y. if comes_before down x y then Ok None else does (sets (view.place control) None ∷ []))

  -- ---- input and output (6.9)

  abbrev pub with_taken : ℕ → Spot → Option Taken → Outcome
  with_taken n p None = fault NoNumber p.at
  with_taken n p (Some taken) =
      then_with (checked (fits_type c n taken.number) ValueOutOfRange p.at taken.number) (λ z.
      Ok (Some (record { onward = at_depth (top_depth s.stack); changes = sets p.place (Some z) ∷ []; items = taken.rest; output = s.output })))

  abbrev pub read : Access → Outcome
  read target = then_with (spot view target) (λ p. with_taken (access_type c target) p (next_number s.items))

  abbrev pub drop_line : Outcome
  drop_line = Ok (Some (record { onward = at_depth (top_depth s.stack); changes = []; items = after_line s.items; output = s.output }))

  abbrev pub puts_out : List ℕ → Outcome
  puts_out bytes = Ok (Some (record { onward = at_depth (top_depth s.stack); changes = []; items = s.items; output = s.output ++ bytes }))

  abbrev pub written_value : WriteValue → Answer Written
  written_value (written.Value e) = then_with (value view e) (λ z. Ok (text_of (hosted c.tables e).boolean z))
  written_value (written.Text bytes at) = Ok (record { bytes = bytes; is_cut = true })

  abbrev pub write_in : Option Expr → Written → Outcome
  write_in None w = puts_out w.bytes
  write_in (Some width) w =
      then_with (value view width) (λ z.
      then_with (checked (is_width z) WidthOutOfRange (out-Expr width).first z) (λ z.
      puts_out (in_columns (nat_abs z) w)))

  -- the value comes before the width
  abbrev pub write : WriteItem → Outcome
  write item = then_with (written_value item.value) (λ w. write_in item.width w)

  -- ---- every action; `at` is the place of the point that it leaves

  -- what the edge k does
  abbrev pub effect_of : ℕ → ℕ → Act → Outcome
  effect_of k at act.Skip = does []
  effect_of k at (act.Assign target e) = assign target e
  effect_of k at (act.Copy target source) = copy target source
  effect_of k at (act.Call routine actuals slot name) = call k routine actuals
  effect_of k at (act.Return j) = return_from j at
  effect_of k at (act.Goto routine) = jump routine
  effect_of k at (act.Test e wanted) = test e wanted
  effect_of k at (act.Arm selector constants) = arm selector constants
  effect_of k at (act.Enter control bound first down last) = enter control bound first down last
  effect_of k at (act.Bypass control bound first down last) = bypass control first down last
  effect_of k at (act.Next control bound down) = next_turn control bound down at
  effect_of k at (act.Finish control bound down) = finish control bound down at
  effect_of k at (act.Read target) = read target
  effect_of k at act.DropLine = drop_line
  effect_of k at (act.Write item) = write item
  effect_of k at act.EndLine = puts_out (line_feed ∷ [])
