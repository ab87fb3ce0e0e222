-- An edge, by its action: which action it is, and what is done of it.
use Rattle.std.proofs.Common.{◌≡◌, ℕ, List, [], ◌++◌, refl, sym, ap, ◌∙◌, subst, ℤ, pos, Option, Some, None, Result, Ok, Err, append-nil}
use Rattle.px_base.specs.declared.kind.Kind.TheVariants.{WidthOutOfRange}
use Rattle.pas_program.specs.declared.expr.Actual.TheViews.{out-Expr}
use Rattle.pas_program.specs.declared.expr.Expr.{Expr}
use Rattle.pas_program.specs.declared.statement.WriteItem.{WriteItem}
use Rattle.control_points.specs.declared.edge.Act.{Act}
use Rattle.control_points.specs.declared.fault.Fault.{Fault}
use Rattle.control_points.specs.declared.item.Item.{Item}
use Rattle.control_points.specs.Actions as meaning
use Rattle.control_points.specs.Actions.{Outcome, at_depth, effect_of, top_depth}
use Rattle.control_points.specs.Evaluation.{Answer, checked, then_with, value}
use Rattle.control_points.specs.Flows.{chart_of}
use Rattle.control_points.specs.Output.{Written, in_columns, is_width}
use Rattle.control_points.specs.States.{State}
use Rattle.interp.specs.declared.decide.Deed.{Deed}
use Rattle.interp.specs.declared.decide.Deed.TheVariants as deed
use Rattle.interp.specs.declared.decide.Effect.{Effect}
use Rattle.interp.specs.declared.machine.Machine.{Machine}
use Rattle.interp.specs.Machines.{top_of}
use Rattle.interp.specs.Meant.{IsChangeOf, IsDecided, bytes_of, view_in}
use Rattle.interp.specs.Standing.{StandsFor}
use Rattle.interp.proofs.Deciding.{then_value, top_is_top}

-- what is decided of an action that is known
pub act_is : (m : Machine) (s : State) (k at : ℕ) (a b : Act) (result : Result (Option Deed) Fault) → a ≡ b → IsDecided m s k (effect_of (chart_of m.flow.now) s k at b) result → IsDecided m s k (effect_of (chart_of m.flow.now) s k at a) result
act_is m s k at a b result e h = subst (λ a. IsDecided m s k (effect_of (chart_of m.flow.now) s k at a) result) (sym e) h

-- an action by which the latest activation goes on, with this input and this output afterwards
abbrev pub landed : State → List Item → List ℕ → Outcome
landed s items output = Ok (Some (record { onward = at_depth (top_depth s.stack); changes = []; items = items; output = output }))

pub landed_same : (m : Machine) (s : State) (k : ℕ) (xs ys : List Item) (u v : List ℕ) (result : Result (Option Deed) Fault) → xs ≡ ys → u ≡ v → IsDecided m s k (landed s xs u) result → IsDecided m s k (landed s ys v) result
landed_same m s k xs ys u v result e f h = subst (λ v. IsDecided m s k (landed s ys v) result) f (subst (λ xs. IsDecided m s k (landed s xs u) result) e h)

-- the same of a point whose place is known
pub at_place : (m : Machine) (s : State) (k : ℕ) (a : Act) (x y : ℕ) (result : Result (Option Deed) Fault) → x ≡ y → IsDecided m s k (effect_of (chart_of m.flow.now) s k x a) result → IsDecided m s k (effect_of (chart_of m.flow.now) s k y a) result
at_place m s k a x y result e h = subst (λ x. IsDecided m s k (effect_of (chart_of m.flow.now) s k x a) result) e h

-- what is done where the latest activation goes on by an effect
pub done_with : (m : Machine) (s : State) (k : ℕ) → StandsFor m s → (changes : List meaning.Change) (items : List Item) (e : Effect) → e.depth ≡ top_of m.frames.items → IsChangeOf m.flow.now.program m.frames.items (top_of m.frames.items) changes e.change → items ≡ e.items.now → e.output ≡ None
    → IsDecided m s k (Ok (Some (record { onward = at_depth (top_depth s.stack); changes = changes; items = items; output = s.output }))) (Ok (Some (deed.Lands e)))
done_with m s k h changes items e d c i o = (
  record { onward = at_depth (top_depth s.stack); changes = changes; items = items; output = s.output },
  refl,
  record {
    onward = ap at_depth (top_is_top m s h ∙ sym d);
    change = subst (λ d. IsChangeOf m.flow.now.program m.frames.items d changes e.change) (sym d) c;
    items = i;
    output = sym (append-nil s.output) ∙ ap (λ o. s.output ++ bytes_of o) (sym o);
  },
)

-- ---- write

-- two parts, of which the second needs the first's value
then_both : (m : Machine) (s : State) (k : ℕ) (r : Answer ℤ) (g : ℤ → Answer ℤ) (x : ℤ) (f : ℤ → Outcome) (result : Result (Option Deed) Fault) → then_with r g ≡ Ok x → IsDecided m s k (f x) result → IsDecided m s k (then_with r (λ z. then_with (g z) f)) result
then_both m s k (Ok z) g x f result e h = then_value m s k (g z) x f result e h
then_both m s k (Err d) g x f result e h = absurd (cc)

pub write_plain : (m : Machine) (s : State) (k : ℕ) (item : WriteItem) (w : Written) (result : Result (Option Deed) Fault) → meaning.written_value (chart_of m.flow.now) s item.value ≡ Ok w → item.width ≡ None → IsDecided m s k (landed s s.items (s.output ++ w.bytes)) result
    → IsDecided m s k (meaning.write (chart_of m.flow.now) s item) result
write_plain m s k item w result e f h =
    then_value m s k (meaning.written_value (chart_of m.flow.now) s item.value) w (meaning.write_in (chart_of m.flow.now) s item.width) result e
    (subst (λ o. IsDecided m s k (meaning.write_in (chart_of m.flow.now) s o w) result) (sym f) h)

pub write_wide : (m : Machine) (s : State) (k : ℕ) (item : WriteItem) (w : Written) (e : Expr) (n : ℕ) (result : Result (Option Deed) Fault) → meaning.written_value (chart_of m.flow.now) s item.value ≡ Ok w → item.width ≡ Some e
    → then_with (value (view_in m s) e) (λ z. checked (is_width z) WidthOutOfRange (out-Expr e).first z) ≡ Ok (pos n) → IsDecided m s k (landed s s.items (s.output ++ in_columns n w)) result
    → IsDecided m s k (meaning.write (chart_of m.flow.now) s item) result
write_wide m s k item w e n result v f g h =
    then_value m s k (meaning.written_value (chart_of m.flow.now) s item.value) w (meaning.write_in (chart_of m.flow.now) s item.width) result v
    (subst (λ o. IsDecided m s k (meaning.write_in (chart_of m.flow.now) s o w) result) (sym f)
    (then_both m s k (value (view_in m s) e) (λ z. checked (is_width z) WidthOutOfRange (out-Expr e).first z) (pos n) _ result g h))
