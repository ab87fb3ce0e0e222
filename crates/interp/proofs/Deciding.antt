-- What an action comes to in a state that the machine is in: of its parts, of which each gives a value or the same error.
use Rattle.std.proofs.Common.{◌≡◌, ℕ, ◌-◌, ◌≤◌, Bool, true, false, ◌||◌, cond, List, [], ◌∷◌, refl, sym, ap, ◌∙◌, subst, arith, rules, ℤ, pos, Option, Result, Ok, Err}
use Rattle.std.specs.List.{list_any, slice_get}
use Rattle.std.specs.Ordering.{int_eq}
use Rattle.std.proofs.lemmas.Int.{ints}
use Rattle.std.proofs.lemmas.Cmp.{int_eq_equiv}
use Rattle.std.proofs.lemmas.Option.{slice_get_within}
use Rattle.std.specs.Int.{w32}
use Rattle.px_base.specs.declared.kind.Kind.{Kind}
use Rattle.arithmetic.specs.Numbers.{IsNumber, truth}
use Rattle.pas_program.specs.declared.program.Program.{Program}
use Rattle.pas_program.specs.Checked.{tables}
use Rattle.pas_program.specs.Typed.{type_of_var}
use Rattle.pas_program.specs.Types.{is_scalar}
use Rattle.control_points.specs.declared.fault.Fault.{Fault}
use Rattle.control_points.specs.Actions.{Outcome, is_one_of, top_depth}
use Rattle.control_points.specs.Evaluation.{Answer, Spot, checked, defined, is_value_of, then_with, var_type}
use Rattle.control_points.specs.States.{State}
use Rattle.control_points.specs.Storage.{Place}
use Rattle.interp.specs.declared.decide.Deed.{Deed}
use Rattle.interp.specs.declared.frame.Frame.{Frame}
use Rattle.interp.specs.declared.machine.Machine.{Machine}
use Rattle.interp.specs.Machines.{top_of}
use Rattle.interp.specs.Meant.{IsDecided, IsScalarAt, IsSpot, view_in}
use Rattle.interp.specs.Places.{Lies}
use Rattle.interp.specs.Standing.{StandsFor, content}
use Rattle.interp.proofs.Casts.{number_kept}
use Rattle.interp.proofs.ValuingExprs.{scalar_type}
use mir.Val.{bool_byte, of_z, to_z}

-- the depth of the latest activation
pub top_is_top : (m : Machine) (s : State) → StandsFor m s → top_depth s.stack ≡ top_of m.frames.items
top_is_top m s h = ap (λ n. n - 1) h.stack.height

-- ---- places

pub lies_below : (p : Program) (frames : List Frame) (q : Place) (a t : ℕ) → Lies p frames q a t → q.depth ≤ top_of frames
lies_below p frames q a t l = let w = slice_get_within frames q.depth l.frame l.activation in omega (arith, w)

pub scalar_at : (p : Program) (frames : List Frame) (q : Place) (a t : ℕ) → Lies p frames q a t → is_scalar (slice_get p.types t) ≡ true → IsScalarAt p frames (top_of frames) q a
scalar_at p frames q a t l h = record { of_type = t; lies = l; scalar = h; below = lies_below p frames q a t l }

-- what a scalar that is used gives
read_is : (m : Machine) (s : State) → StandsFor m s → (q : Place) (a t at : ℕ) → Lies m.flow.now.program m.frames.items q a t → is_scalar (slice_get m.flow.now.program.types t) ≡ true → defined at (s.store q) ≡ defined at (content m.scalars.items a)
read_is m s h q a t at l k = ap (defined at) (h.store.held q a t l k)

-- ---- parts of an action

-- a part that gives a value, and one that meets an error
pub then_value : {A : Type 0} (m : Machine) (s : State) (k : ℕ) (r : Answer A) (x : A) (f : A → Outcome) (result : Result (Option Deed) Fault) → r ≡ Ok x → IsDecided m s k (f x) result → IsDecided m s k (then_with r f) result
then_value m s k r x f result e h = subst (λ r. IsDecided m s k (then_with r f) result) (sym e) h

pub then_error : {A : Type 0} (m : Machine) (s : State) (k : ℕ) (r : Answer A) (e : Fault) (f : A → Outcome) (result : Result (Option Deed) Fault) → result ≡ Err e → r ≡ Err e → IsDecided m s k (then_with r f) result
then_error m s k r e f result is h = subst (IsDecided m s k (then_with r f)) (sym is) (ap (λ r. then_with r f) h)

-- the same of a variable
pub then_spot : (m : Machine) (s : State) (k t at a : ℕ) (r : Answer Spot) (f : Spot → Outcome) (result : Result (Option Deed) Fault) → IsSpot m.flow.now.program m.frames.items t at r (Ok a)
    → ((spot : Spot) → Lies m.flow.now.program m.frames.items spot.place a t → spot.at ≡ at → IsDecided m s k (f spot) result) → IsDecided m s k (then_with r f) result
then_spot m s k t at a (Ok spot) f result h g = g spot h.0 h.1
then_spot m s k t at a (Err e) f result h g = absurd h

-- a variable whose value is used
pub var_read : (m : Machine) (s : State) → StandsFor m s → (v a at : ℕ) → is_scalar (type_of_var (tables m.flow.now.program) v) ≡ true
    → Lies m.flow.now.program m.frames.items ((view_in m s).place v) a (var_type (tables m.flow.now.program) v) → defined at (s.store ((view_in m s).place v)) ≡ defined at (content m.scalars.items a)
var_read m s h v a at k l = read_is m s h ((view_in m s).place v) a (var_type (tables m.flow.now.program) v) at l (scalar_type m.flow.now.program v k)

pub var_at : (m : Machine) (s : State) (v a : ℕ) → is_scalar (type_of_var (tables m.flow.now.program) v) ≡ true → Lies m.flow.now.program m.frames.items ((view_in m s).place v) a (var_type (tables m.flow.now.program) v)
    → IsScalarAt m.flow.now.program m.frames.items (top_of m.frames.items) ((view_in m s).place v) a
var_at m s v a k l = scalar_at m.flow.now.program m.frames.items ((view_in m s).place v) a (var_type (tables m.flow.now.program) v) l (scalar_type m.flow.now.program v k)

-- an action that is to be done where a test passes, and one that is where it fails
pub if_true : (m : Machine) (s : State) (k : ℕ) (b : Bool) (x y : Outcome) (result : Result (Option Deed) Fault) → b ≡ true → IsDecided m s k x result → IsDecided m s k (cond b x y) result
if_true m s k b x y result e h = subst (λ b. IsDecided m s k (cond b x y) result) (sym e) h

pub if_false : (m : Machine) (s : State) (k : ℕ) (b : Bool) (x y : Outcome) (result : Result (Option Deed) Fault) → b ≡ false → IsDecided m s k y result → IsDecided m s k (cond b x y) result
if_false m s k b x y result e h = subst (λ b. IsDecided m s k (cond b x y) result) (sym e) h

-- ---- tests

pub truth_is : (b : Bool) → pos (bool_byte b) ≡ truth b
truth_is true = refl
truth_is false = refl

pub truth_number : (b : Bool) → IsNumber (truth b)
truth_number true = search (rules, ints)
truth_number false = search (rules, ints)

pub same_int : (x y : ℤ) → x ≡ y → int_eq x y ≡ true
same_int x y e = subst (λ y. int_eq x y ≡ true) e (int_eq_equiv.refl x)

pub is_among : (xs : List ℤ) (z : ℤ) → list_any (λ y. int_eq y z) xs ≡ is_one_of xs z
is_among [] z = refl
is_among (x ∷ xs) z = ap (λ b. b || list_any (λ y. int_eq y z) xs) (int_eq_equiv.symm x z) ∙ ap (λ b. int_eq z x || b) (is_among xs z)

-- ---- numbers that are checked

-- what a check of a number answers, by its bits and a type that is the same
pub checked_at : (p : Program) (t u : ℕ) (b : Bool) (k : Kind) (at : ℕ) (x : ℤ) (answer : Answer ℤ) → IsNumber x → t ≡ u → b ≡ is_value_of (slice_get p.types u) (to_z w32 (of_z w32 x)) → answer ≡ checked b k at (to_z w32 (of_z w32 x))
    → checked (is_value_of (slice_get p.types t) x) k at x ≡ answer
checked_at p t u b k at x answer n e f h =
    ap (λ t. checked (is_value_of (slice_get p.types t) x) k at x) e
    ∙ ap (λ x. checked (is_value_of (slice_get p.types u) x) k at x) (number_kept x n)
    ∙ ap (λ b. checked b k at (to_z w32 (of_z w32 x))) (sym f) ∙ sym h
