-- The definitions, computed on small cases whose answers are known from the language.
use Rattle.std.specs.Prelude.{◌≡◌, ℕ, List, [], ◌∷◌, ℤ, pos, negsuc, Option, Some, None, codes, refl, false, true, nat_eq, if◌then◌else◌}
use Rattle.std.specs.Option.{option_map}
use Rattle.px_base.specs.declared.kind.Kind.TheVariants as kinds
use Rattle.pas_program.specs.declared.type_def.TypeDef.TheVariants.{Scalar}
use Rattle.pas_program.specs.declared.variable.VarDef.{VarDef}
use Rattle.pas_program.specs.declared.variable.VarKind.{VarKind}
use Rattle.pas_program.specs.declared.variable.VarKind.TheVariants as var
use Rattle.pas_program.specs.Tables.{Tables, Head}
use Rattle.control_points.specs.declared.edge.Act.{Act}
use Rattle.control_points.specs.declared.edge.Act.TheVariants as act
use Rattle.control_points.specs.declared.edge.Edge.{Edge}
use Rattle.control_points.specs.declared.item.Item.TheVariants.{Number, LineEnd, Junk}
use Rattle.control_points.specs.declared.point.Point.{Point}
use Rattle.control_points.specs.declared.point.PointKind.{PointKind}
use Rattle.control_points.specs.declared.point.PointKind.TheVariants as kind
use Rattle.control_points.specs.Chart.{Chart}
use Rattle.control_points.specs.Finding.{place_of}
use Rattle.control_points.specs.Input.{next_number, after_line}
use Rattle.control_points.specs.Output.{text_of, in_columns}
use Rattle.control_points.specs.Runs.{at}
use Rattle.control_points.specs.States.{Binding, Frame, Activation, Stack, State}
use Rattle.control_points.specs.Steps.{Progress, moves, halts, fails, next, point_of}
use Rattle.control_points.specs.Storage.{Place, Store, whole, put, put_copy, empty_store}

-- ---- a program that does nothing: `program p; begin end.`

abbrev point : ℕ → PointKind → ℕ → Point
point r k place = record { routine = r; kind = k; at = place }

abbrev edge : ℕ → Act → ℕ → Edge
edge source action target = record { from = source; act = action; to = target }

abbrev no_tables : Tables
no_tables = record { type_at = λ t. None; var_at = λ v. None; head_at = λ r. None }

abbrev idle : Chart
idle = record {
  tables = no_tables;
  main = 0;
  asserts = [];
  points = point 0 kind.Entry 11 ∷ point 0 kind.Before 17 ∷ point 0 kind.Exit 17 ∷ [];
  edges = edge 0 act.Skip 1 ∷ edge 1 act.Skip 2 ∷ [];
  asserts_at = [] ∷ [] ∷ [] ∷ [];
}

-- it stands at its entry, then before its empty statement, then at its exit, and there it halts
pub idle_begins : option_map (λ (s : State). point_of s.stack) (at idle [] 0) ≡ Some 0
idle_begins = refl

pub idle_goes_on : option_map (λ (s : State). point_of s.stack) (at idle [] 2) ≡ Some 2
idle_goes_on = refl

pub idle_halts : option_map (next idle) (at idle [] 2) ≡ Some halts
idle_halts = refl

pub idle_has_ended : at idle [] 3 ≡ None
idle_has_ended = refl

-- ---- a program's block with a procedure p in it, and q in p; a function f; the variables x of the program, u and v of p

abbrev variable : ℕ → VarKind → VarDef
variable r k = record { name = record { start = 0; end = 0 }; routine = r; kind = k; of_type = 0; place = 0 }

abbrev vars : ℕ → Option VarDef
vars v =
    if nat_eq v 0 then Some (variable 3 var.Local)
    else (if nat_eq v 1 then Some (variable 1 var.Var)
    else (if nat_eq v 2 then Some (variable 1 var.Var)
    else (if nat_eq v 3 then Some (variable 2 var.Result)
    else (if nat_eq v 4 then Some (variable 3 var.Slot)
    else (if nat_eq v 5 then Some (variable 3 var.Bound) else None)))))

abbrev head : Option ℕ → ℕ → Option ℕ → Head
head parent level result = record { parent = parent; level = level; formals = []; result = result }

abbrev heads : ℕ → Option Head
heads r =
    if nat_eq r 0 then Some (head (Some 1) 2 None)
    else (if nat_eq r 1 then Some (head (Some 3) 1 None)
    else (if nat_eq r 2 then Some (head (Some 3) 1 (Some 3))
    else (if nat_eq r 3 then Some (head None 0 None) else None)))

abbrev tables : Tables
tables = record { type_at = λ t. Some (Scalar false (negsuc 99) (pos 100)); var_at = vars; head_at = heads }

abbrev frame : ℕ → Option ℕ → Option ℕ → List Binding → Frame
frame r call parent bindings = record { routine = r; call = call; parent = parent; bindings = bindings }

abbrev activation : Frame → ℕ → Activation
activation f p = record { frame = f; point = p }

-- p was called by the program with x for both of its parameters, then p called itself with u and v, and then p called q
abbrev bind : ℕ → ℕ → Binding
bind v x = record { formal = v; place = whole 0 x }

abbrev deep : Stack
deep =
    activation (frame 0 (Some 4) (Some 2) []) 0
    ∷ activation (frame 1 (Some 3) (Some 0) (bind 1 0 ∷ bind 2 0 ∷ [])) 1
    ∷ activation (frame 1 (Some 2) (Some 0) (bind 1 0 ∷ bind 2 0 ∷ [])) 2
    ∷ activation (frame 3 None None []) 3 ∷ []

-- both parameters of p stand for x, as q sees them too
pub u_is_x : place_of tables deep 3 1 ≡ whole 0 0
u_is_x = refl

pub v_is_x : place_of tables deep 3 2 ≡ whole 0 0
v_is_x = refl

pub x_is_x : place_of tables deep 3 0 ≡ whole 0 0
x_is_x = refl

-- ---- a `goto` out of three activations, into the program's block

abbrev leap : Chart
leap = record {
  tables = tables;
  main = 3;
  asserts = [];
  points = point 0 kind.Before 1 ∷ point 1 kind.Before 2 ∷ point 1 kind.Before 3 ∷ point 3 kind.Before 4 ∷ point 3 kind.Before 5 ∷ point 3 kind.Exit 6 ∷ [];
  edges = edge 0 (act.Goto 3) 4 ∷ [];
  asserts_at = [];
}

abbrev with_stack : Stack → Store → State
with_stack stack store = record { stack = stack; store = store; items = []; output = [] }

abbrev stack_after : Progress → Stack
stack_after (moves s) = s.stack
stack_after halts = []
stack_after (fails f) = []

abbrev held_after : Progress → Place → Option ℤ
held_after (moves s) p = s.store p
held_after halts p = None
held_after (fails f) p = None

pub leap_ends_three : stack_after (next leap (with_stack deep empty_store)) ≡ activation (frame 3 None None []) 4 ∷ []
leap_ends_three = refl

-- the storage of what ended is gone, and that of the program stays
pub leap_drops : held_after (next leap (with_stack deep (put empty_store (whole 2 1) (Some (pos 7))))) (whole 2 1) ≡ None
leap_drops = refl

pub leap_keeps : held_after (next leap (with_stack deep (put empty_store (whole 0 0) (Some (pos 7))))) (whole 0 0) ≡ Some (pos 7)
leap_keeps = refl

-- ---- a return of the function f, whose result goes to the slot of the call in the program

abbrev back : Chart
back = record {
  tables = tables;
  main = 3;
  asserts = [];
  points = point 2 kind.Exit 30 ∷ point 3 kind.Before 31 ∷ point 3 kind.AfterCall 32 ∷ point 3 kind.Exit 33 ∷ [];
  edges = edge 1 (act.Call 2 [] (Some 4) 32) 0 ∷ edge 0 (act.Return 0) 2 ∷ edge 1 (act.Call 2 [] (Some 4) 32) 0 ∷ edge 0 (act.Return 2) 3 ∷ [];
  asserts_at = [];
}

-- it was made by the second of two calls
abbrev called : Stack
called = activation (frame 2 (Some 2) (Some 0) []) 0 ∷ activation (frame 3 None None []) 1 ∷ []

abbrev doubled : Store
doubled = put empty_store (whole 1 3) (Some (pos 14))

pub returns_to_its_caller : stack_after (next back (with_stack called doubled)) ≡ activation (frame 3 None None []) 3 ∷ []
returns_to_its_caller = refl

pub result_is_in_the_slot : held_after (next back (with_stack called doubled)) (whole 0 4) ≡ Some (pos 14)
result_is_in_the_slot = refl

pub its_storage_ends : held_after (next back (with_stack called doubled)) (whole 1 3) ≡ None
its_storage_ends = refl

pub no_result : next back (with_stack called empty_store) ≡ fails (record { kind = kinds.NoResult; at = 30 })
no_result = refl

-- ---- the end of a turn of a `for` that counts x up to 3

abbrev turn : Chart
turn = record {
  tables = tables;
  main = 3;
  asserts = [];
  points = point 3 kind.Before 1 ∷ point 3 kind.Step 2 ∷ point 3 kind.Exit 3 ∷ [];
  edges = edge 1 (act.Next 0 5 false) 0 ∷ edge 1 (act.Finish 0 5 false) 2 ∷ [];
  asserts_at = [];
}

abbrev at_step : Option ℤ → State
at_step x = with_stack (activation (frame 3 None None []) 1 ∷ []) (put (put empty_store (whole 0 5) (Some (pos 3))) (whole 0 0) x)

abbrev point_after : Progress → Option ℕ
point_after (moves s) = Some (point_of s.stack)
point_after halts = None
point_after (fails f) = None

pub two_is_not_the_last : point_after (next turn (at_step (Some (pos 2)))) ≡ Some 0
two_is_not_the_last = refl

pub three_follows_two : held_after (next turn (at_step (Some (pos 2)))) (whole 0 0) ≡ Some (pos 3)
three_follows_two = refl

pub three_is_the_last : point_after (next turn (at_step (Some (pos 3)))) ≡ Some 2
three_is_the_last = refl

pub undefined_afterwards : held_after (next turn (at_step (Some (pos 3)))) (whole 0 0) ≡ None
undefined_afterwards = refl

pub bound_stays : held_after (next turn (at_step (Some (pos 3)))) (whole 0 5) ≡ Some (pos 3)
bound_stays = refl

pub undefined_control : next turn (at_step None) ≡ fails (record { kind = kinds.UndefinedValue; at = 2 })
undefined_control = refl

-- ---- a whole array is copied with its undefined elements

abbrev element : ℕ → ℤ → Place
element v z = record { depth = 0; var = v; subscripts = z ∷ [] }

abbrev half_filled : Store
half_filled = put (put empty_store (element 1 (pos 1)) (Some (pos 5))) (element 0 (pos 2)) (Some (pos 6))

pub copied_element : put_copy half_filled (whole 0 0) (whole 0 1) (element 0 (pos 1)) ≡ Some (pos 5)
copied_element = refl

pub copied_undefined : put_copy half_filled (whole 0 0) (whole 0 1) (element 0 (pos 2)) ≡ None
copied_undefined = refl

pub source_stays : put_copy half_filled (whole 0 0) (whole 0 1) (element 1 (pos 1)) ≡ Some (pos 5)
source_stays = refl

-- ---- input and output

pub reads_over_lines : next_number (LineEnd ∷ Number (pos 4) ∷ Junk ∷ []) ≡ Some (record { number = pos 4; rest = Junk ∷ [] })
reads_over_lines = refl

pub reads_no_junk : next_number (LineEnd ∷ Junk ∷ Number (pos 4) ∷ []) ≡ None
reads_no_junk = refl

pub drops_one_line : after_line (Number (pos 1) ∷ LineEnd ∷ LineEnd ∷ []) ≡ LineEnd ∷ []
drops_one_line = refl

-- `write('abc':2, true:6, 5:3)`
pub text_is_cut : in_columns 2 (record { bytes = codes "abc"; is_cut = true }) ≡ codes "ab"
text_is_cut = refl

pub boolean_is_padded : in_columns 6 (text_of true (pos 1)) ≡ codes "  true"
boolean_is_padded = refl

pub number_is_padded : in_columns 3 (record { bytes = codes "5"; is_cut = false }) ≡ codes "  5"
number_is_padded = refl

pub number_is_never_cut : in_columns 1 (record { bytes = codes "-12"; is_cut = false }) ≡ codes "-12"
number_is_never_cut = refl
