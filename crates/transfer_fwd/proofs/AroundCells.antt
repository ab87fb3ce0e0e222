-- A class around another has the first of its cells, so no more than it has; and what comes along an arc, by its action.
use Rattle.std.proofs.Common.{◌≡◌, ◌⊎◌, inl, inr, ℕ, ◌≤◌, Bool, true, false, [], ◌∷◌, nat_eq, Option, Some, None, refl, ap, arith, cond}
use Rattle.alias_class.specs.declared.outline.Outline.{Outline}
use Rattle.alias_class.specs.Cells.{around, cell_count}
use Rattle.alias_class.specs.Classes.{Class}
use Rattle.activations.specs.declared.arc.Arc.{Arc}
use Rattle.activations.specs.Drawn.{Drawn}
use Rattle.control_points.specs.declared.edge.Act.{Act}
use Rattle.control_points.specs.declared.edge.Act.TheVariants as act
use Rattle.control_points.specs.declared.flow.Flow.{Flow}
use Rattle.control_points.specs.Leading.{goes_on_after}
use Rattle.environment.specs.Environments.{env_ops}
use Rattle.fixpoint.specs.System.{element}
use Rattle.pas_program.specs.declared.expr.Actual.{Actual}
use Rattle.sqlite_items.specs.declared.items.Items.{Items}
use Rattle.transfer_fwd.specs.Actions.{after}
use Rattle.transfer_fwd.specs.Forward.{Table, along_by, scope_at}

same_fewer : (o : Outline) (c d : Class) → Some c ≡ Some d → cell_count o d ≤ cell_count o c
same_fewer o c d is = let same : c ≡ d = grind (arith, is) in let counts : cell_count o c ≡ cell_count o d = ap (cell_count o) same in omega (arith, counts)

fewer_by : (o : Outline) (c d : Class) (rest : Option Class) (b : Bool) → (rest ≡ Some d → cell_count o d ≤ cell_count o c) → cond b (Some c) rest ≡ Some d → cell_count o d ≤ cell_count o c
fewer_by o c d rest true further h = same_fewer o c d h
fewer_by o c d rest false further h = further h

none_fewer : (o : Outline) (c d : Class) → None ≡ Some d → cell_count o d ≤ cell_count o c
none_fewer o c d h = absurd (grind arith)

pub around_fewer : (o : Outline) (c d : Class) (r : ℕ) → around o c r ≡ Some d → cell_count o d ≤ cell_count o c
around_fewer o [] d r h = fewer_by o [] d None (nat_eq o.main r) (none_fewer o [] d) h
around_fewer o (e ∷ parent) d r h =
    fewer_by o (e ∷ parent) d (around o parent r) (nat_eq e.routine r) (λ at. let fewer = around_fewer o parent d r at in omega (arith, fewer)) h

-- an action that is no call, no return and no `goto` stays in its class
pub plain : (a : Act) → ((r : ℕ) (actuals : Items Actual) (slot : Option ℕ) (at : ℕ) → a ≡ act.Call r actuals slot at → ⊥) → ((k : ℕ) → a ≡ act.Return k → ⊥) → ((r : ℕ) → a ≡ act.Goto r → ⊥) → goes_on_after a ≡ true
plain (act.Call r actuals slot at) no_call no_return no_goto = absurd (no_call r actuals slot at refl)
plain (act.Return k) no_call no_return no_goto = absurd (no_return k refl)
plain (act.Goto r) no_call no_return no_goto = absurd (no_goto r refl)
plain a no_call no_return no_goto = refl

-- what comes along the arc of an action that stays in its class
pub along_plain : (f : Flow) (g : Drawn) (table : Table) (a : Arc) (action : Act) → goes_on_after action ≡ true → along_by f g table a action ≡ after (scope_at f g a.from) action (element env_ops table a.from)
along_plain f g table a (act.Call r actuals slot at) h = absurd (grind (arith, h))
along_plain f g table a (act.Return k) h = absurd (grind (arith, h))
along_plain f g table a (act.Goto r) h = absurd (grind (arith, h))
along_plain f g table a action h = refl

-- an action that changes nothing
abbrev pub IsIdle : Act → Type 0
IsIdle a = (a ≡ act.Skip) ⊎ ((a ≡ act.DropLine) ⊎ (a ≡ act.EndLine))

pub idle_goes_on : (a : Act) → IsIdle a → goes_on_after a ≡ true
idle_goes_on a (inl is) = ap goes_on_after is
idle_goes_on a (inr (inl is)) = ap goes_on_after is
idle_goes_on a (inr (inr is)) = ap goes_on_after is

pub along_idle : (f : Flow) (g : Drawn) (table : Table) (a : Arc) (action : Act) → IsIdle action → along_by f g table a action ≡ element env_ops table a.from
along_idle f g table a action (inl is) = ap (along_by f g table a) is
along_idle f g table a action (inr (inl is)) = ap (along_by f g table a) is
along_idle f g table a action (inr (inr is)) = ap (along_by f g table a) is
