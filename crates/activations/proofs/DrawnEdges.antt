-- The arcs of an edge, by its action.
use Rattle.std.proofs.Common.{◌≡◌, ℕ, ◌+◌, Bool, true, false, List, [], ◌∷◌, Option, Some, None, length, nat_eq, slice_get, refl, sym, ap, ◌∙◌, arith, cond}
use Rattle.std.specs.Option.{IsSome, is_some, option_and_then, option_map, unwrap_or}
use Rattle.std.proofs.lemmas.Bool.Decides.{nat_tests}
use Rattle.sqlite_items.specs.declared.items.Items.{Items}
use Rattle.pas_program.specs.declared.expr.Actual.{Actual}
use Rattle.control_points.specs.declared.edge.Act.{Act}
use Rattle.control_points.specs.declared.edge.Act.TheVariants as act
use Rattle.control_points.specs.declared.edge.Edge.{Edge}
use Rattle.control_points.specs.Fits.{callee_of}
use Rattle.control_points.specs.Leading.{goes_on_after}
use Rattle.alias_class.specs.declared.outline.Outline.{Outline}
use Rattle.alias_class.specs.Cells.{around, routine_of}
use Rattle.alias_class.specs.Classes.{Class, class_at}
use Rattle.activations.specs.Arcs.{arcs_by, arcs_of_edge, arcs_of_known, local_arc, number_of}
use Rattle.activations.specs.Calls.{is_call}
use Rattle.activations.specs.Unfolding.{IsWhole, Unfolding, outermost}
use Rattle.activations.proofs.ClassNumbers.{class_number}

-- ---- which action it is

pub not_call : (edges : List Edge) (k : ℕ) (e : Edge) → slice_get edges k ≡ Some e → callee_of e.act ≡ None → is_call edges k ≡ false
not_call edges k e known none = ap (λ (o : Option Edge). is_some (option_and_then callee_of (option_map (λ (d : Edge). d.act) o))) known ∙ ap (λ (o : Option ℕ). is_some o) none

pub a_call : (edges : List Edge) (k r : ℕ) (e : Edge) → slice_get edges k ≡ Some e → callee_of e.act ≡ Some r → is_call edges k ≡ true
a_call edges k r e known some = ap (λ (o : Option Edge). is_some (option_and_then callee_of (option_map (λ (d : Edge). d.act) o))) known ∙ ap (λ (o : Option ℕ). is_some o) some

-- what is counted of one edge
pub counted_none : (k n m : ℕ) (b : Bool) → b ≡ false → m ≡ n → m ≡ n + length (cond b (k ∷ []) [])
counted_none k n m true is same = absurd (grind (arith, is))
counted_none k n m false is same = omega (arith, same)

pub counted_one : (k n m : ℕ) (b : Bool) → b ≡ true → m ≡ n + 1 → m ≡ n + length (cond b (k ∷ []) [])
counted_one k n m true is same = omega (arith, same)
counted_one k n m false is same = absurd (grind (arith, is))

pub plain : (a : Act) → ((s : ℕ) (actuals : Items Actual) (slot : Option ℕ) (at : ℕ) → a ≡ act.Call s actuals slot at → ⊥) → ((k : ℕ) → a ≡ act.Return k → ⊥) → ((r : ℕ) → a ≡ act.Goto r → ⊥) → goes_on_after a ≡ true
plain (act.Call s actuals slot at) no_call no_return no_goto = absurd (no_call s actuals slot at refl)
plain (act.Return k) no_call no_return no_goto = absurd (no_return k refl)
plain (act.Goto r) no_call no_return no_goto = absurd (no_goto r refl)
plain a no_call no_return no_goto = refl

pub plain_calls : (a : Act) → goes_on_after a ≡ true → callee_of a ≡ None
plain_calls (act.Call s actuals slot at) h = absurd (grind (arith, h))
plain_calls a h = refl

-- ---- its arcs

pub known_arcs : (u : Unfolding) (i k : ℕ) (e : Edge) (a : Act) → slice_get u.edges k ≡ Some e → e.act ≡ a → arcs_of_edge u i k ≡ arcs_by u i k e a
known_arcs u i k e a known is = ap (λ (o : Option Edge). arcs_of_known u i k o) known ∙ ap (λ (x : Act). arcs_by u i k e x) is

plain_by : (u : Unfolding) (i k : ℕ) (e : Edge) (a : Act) → goes_on_after a ≡ true → arcs_by u i k e a ≡ local_arc u i i k e ∷ []
plain_by u i k e (act.Call s actuals slot at) h = absurd (grind (arith, h))
plain_by u i k e (act.Return call) h = absurd (grind (arith, h))
plain_by u i k e (act.Goto r) h = absurd (grind (arith, h))
plain_by u i k e a h = refl

pub plain_arcs : (u : Unfolding) (i k : ℕ) (e : Edge) → slice_get u.edges k ≡ Some e → goes_on_after e.act ≡ true → arcs_of_edge u i k ≡ local_arc u i i k e ∷ []
plain_arcs u i k e known h = known_arcs u i k e e.act known refl ∙ plain_by u i k e e.act h

pub goto_arcs : (u : Unfolding) → IsWhole u → (i k r j : ℕ) (e : Edge) → slice_get u.edges k ≡ Some e → e.act ≡ act.Goto r → around u.outline (class_at u.classes i) r ≡ slice_get u.classes j → (c : Class) → slice_get u.classes j ≡ Some c
    → arcs_of_edge u i k ≡ local_arc u i j k e ∷ []
goto_arcs u whole i k r j e known is found c at =
    let number : number_of u (unwrap_or (around u.outline (class_at u.classes i) r) outermost) ≡ j = ap (λ (o : Option Class). number_of u (unwrap_or o outermost)) (found ∙ at) ∙ class_number u whole j c at in
    known_arcs u i k e (act.Goto r) known is ∙ ap (λ (n : ℕ). local_arc u i n k e ∷ []) number

-- ---- the class around

some_is : (c d : Class) → Some c ≡ Some d → c ≡ d
some_is c d h = grind arith

here_by : (o : Outline) (c d : Class) (r : ℕ) (rest : Option Class) → (rest ≡ Some d → routine_of o d ≡ r) → (b : Bool) → nat_eq (routine_of o c) r ≡ b → cond b (Some c) rest ≡ Some d → routine_of o d ≡ r
here_by o c d r rest further true is h = ap (λ (x : Class). routine_of o x) (sym (some_is c d h)) ∙ grind (arith, nat_tests, is)
here_by o c d r rest further false is h = further h

none_is : (d : Class) (P : Type 0) → None ≡ Some d → P
none_is d P h = absurd (grind arith)

pub around_routine : (o : Outline) (c d : Class) (r : ℕ) → around o c r ≡ Some d → routine_of o d ≡ r
around_routine o [] d r h = here_by o [] d r None (none_is d (routine_of o d ≡ r)) (nat_eq o.main r) refl h
around_routine o (e ∷ parent) d r h = here_by o (e ∷ parent) d r (around o parent r) (around_routine o parent d r) (nat_eq e.routine r) refl h

pub some_around : (o : Option Class) → IsSome o → (c : Class) × (o ≡ Some c)
some_around None h = absurd (grind arith)
some_around (Some c) h = (c, refl)
