-- The eighteen rules: for each its test, which is true where the rule is broken, from what is known at the moment of the test.
-- The moment is the place of the test, but that of the tests marked "end" is the end of their block; they are placed at
-- the declaration.
use Rattle.std.specs.Prelude.{ℕ, ◌*◌, Bool, ◌&&◌, ◌||◌, not, nat_eq, nat_lt, nat_le, List, length, Option, Some, None, is_none, is_some, int_lt, ℤ}
use Rattle.std.specs.Bool.{beq}
use Rattle.std.specs.List.{list_any}
use Rattle.std.specs.Ordering.{int_eq}
use Rattle.px_base.specs.declared.place.Span.{Span}
use Rattle.pas_program.specs.declared.variable.VarKind.TheVariants as kind
use Rattle.pas_program.specs.Tables.{holds_of, is_kind}
use Rattle.pas_program.specs.Types.{most_elements}
use Rattle.pas_tree.specs.declared.block.Section.{Section}
use Rattle.pas_check.specs.declared.fault.Rule.{Rule}
use Rattle.pas_check.specs.declared.fault.Rule.TheVariants as rule
use Rattle.pas_check.specs.declared.meaning.Meaning.{Meaning}
use Rattle.pas_check.specs.declared.meaning.Meaning.TheVariants as means
use Rattle.pas_check.specs.declared.meaning.Value.{Value}
use Rattle.pas_check.specs.declared.meaning.Variable.{Variable}
use Rattle.pas_check.specs.declared.scope.Declaration.{Declaration}
use Rattle.pas_check.specs.Names.{Name, Names, denoted, found_in}

-- ---- 1, unknown name: no block around declares the name; at the name
abbrev pub is_unknown : Name → List Names → Bool
is_unknown name around = is_none (denoted name around)

-- ---- 2, declared twice; at the second one:
-- a name at a place, which its block declares at an earlier place
abbrev pub is_declared_before : Name → ℕ → Names → Bool
is_declared_before name at block = holds_of (λ (d : Declaration). not (nat_eq d.at at)) (found_in name block)

-- a label that its block's label part has before
abbrev pub is_label_again : ℕ → List ℕ → Bool
is_label_again value before = list_any (λ n. nat_eq value n) before

-- the heading of the body of a `forward` heading, which repeats formals or a result type
abbrev pub repeats_heading : List Section → Option Span → Bool
repeats_heading formals result = nat_lt 0 (length formals) || is_some result

-- ---- 3, used before its declaration: what the name denotes has no meaning yet, since its declaration has not ended; at the name
abbrev pub is_not_ended : Name → List Names → Bool
is_not_ended name around = holds_of (λ (d : Declaration). is_none d.meaning) (denoted name around)

-- ---- 4, wrong kind of name: what the name means is not what its place needs; at the name
abbrev pub constant_of : Meaning → Option Value
constant_of (means.Constant value) = Some value
constant_of _ = None

abbrev pub type_of_name : Meaning → Option ℕ
type_of_name (means.Type number) = Some number
type_of_name _ = None

abbrev pub variable_of_name : Meaning → Option Variable
variable_of_name (means.Variable variable) = Some variable
variable_of_name _ = None

-- a word after a heading that is not `forward` is a wrong kind of name too, and so is the name of a function whose heading has
-- no result type, unless it is the body of a `forward` heading
abbrev pub lacks_result_type : Bool → Option Span → Bool
lacks_result_type function result = function && is_none result

-- ---- 5, wrong type; at the first token of the expression, constant or type name
abbrev pub is_other_host : Bool → Bool → Bool
is_other_host wanted host = not (beq wanted host)

-- ---- 6, wrong number of actuals; at the routine's name
abbrev pub is_other_count : ℕ → ℕ → Bool
is_other_count formals actuals = not (nat_eq formals actuals)

-- `read` and `write` take one or more
abbrev pub lacks_actuals : Bool → ℕ → Bool
lacks_actuals line actuals = nat_eq actuals 0 && not line

-- ---- 7, not a variable of the formal type: a variable of another type, be it compatible; at its first token. What is no
-- variable at all breaks the rule too.
abbrev pub is_other_type : ℕ → ℕ → Bool
is_other_type formal actual = not (nat_eq actual formal)

-- ---- 8, empty range: the first constant is the greater; at its first token
abbrev pub is_empty_range : ℤ → ℤ → Bool
is_empty_range lo hi = int_lt hi lo

-- ---- 9, label not declared and placed once; at the number:
-- the label of a statement is not declared by its block, or an earlier statement has it. The first statement of the block's
-- statement part that has a label is its place.
abbrev pub is_misplaced : Option ℕ → ℕ → Bool
is_misplaced place at = not (holds_of (λ p. nat_eq p at) place)

-- end: a declared label has no place
abbrev pub is_unplaced : Option ℕ → Bool
is_unplaced place = is_none place

-- ---- 10, goto not allowed: the `goto` may not reach the label's place; at the number. Statements stand at paths: the path of a
-- statement inside another one, or of a member of its sequence, goes on from the other's. See `Labels`.

-- ---- 11, control variable not allowed; at its name in the `for`: it is no scalar of the variable part of the closest block,
-- or a routine of that block threatens it (a variable in sight is of the closest block where as many routines are around it),
abbrev pub is_no_control : ℕ → (ℕ → Bool) → Variable → Bool
is_no_control level threatened x = not (is_kind x.kind kind.Local && nat_eq x.level level) || threatened x.at

-- or the statement of a `for` over it writes it: at the threatening name
abbrev pub is_threat : ℕ → (ℕ → Bool) → Variable → Bool
is_threat level looping x = nat_eq x.level level && looping x.at

-- ---- 12, double case constant: the same `case` had it before; at the constant
abbrev pub is_double : ℤ → List ℤ → Bool
is_double constant before = list_any (λ z. int_eq constant z) before

-- ---- 13 (end), function without assignment to its name: its block, inner blocks included, nowhere assigns to its name
abbrev pub is_never_assigned : (ℕ → Bool) → ℕ → Bool
is_never_assigned assigned function = not (assigned function)

-- ---- 14 (end of the block around), forward without body
abbrev pub lacks_body : Bool → Bool
lacks_body has_body = not has_body

-- ---- 15, call in an assertion: of a declared function; at its name
abbrev pub is_call_in_assertion : Bool → Bool
is_call_in_assertion asserting = asserting

-- ---- 16, too many elements: an array type of more than 1,000,000 scalars; at `array`
abbrev pub has_too_many : ℕ → ℕ → Bool
has_too_many indexes elements = nat_lt most_elements (indexes * elements)

-- ---- 17, procedures nested too deep: a routine declared inside 16 others; at its name
abbrev pub is_too_deep : ℕ → Bool
is_too_deep around = nat_le 16 around

-- ---- 18, label above 9999: in a label part; at the number
abbrev pub is_label_too_great : ℕ → Bool
is_label_too_great value = nat_lt 9999 value

-- ---- the first fault

-- the number that a rule is known by
abbrev pub code_of : Rule → ℕ
code_of rule.Known = 1
code_of rule.DeclaredOnce = 2
code_of rule.DeclaredBefore = 3
code_of rule.Kind = 4
code_of rule.Type = 5
code_of rule.ActualCount = 6
code_of rule.VarActual = 7
code_of rule.Range = 8
code_of rule.Label = 9
code_of rule.Goto = 10
code_of rule.Control = 11
code_of rule.CaseConstant = 12
code_of rule.Result = 13
code_of rule.Body = 14
code_of rule.AssertionCall = 15
code_of rule.Elements = 16
code_of rule.Nesting = 17
code_of rule.LabelValue = 18
