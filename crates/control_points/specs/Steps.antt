-- The step from a state: to a state, or to the halt, or to an error.
use Rattle.std.specs.Prelude.{ℕ, suc, Bool, true, false, List, [], ◌∷◌, length, nat_eq, Option, Some, None, Ok, Err, slice_get, if◌then◌else◌}
use Rattle.px_base.specs.declared.kind.Kind.TheVariants.{NoCaseLabel}
use Rattle.pas_program.specs.declared.expr.Actual.TheViews.{out-Expr}
use Rattle.control_points.specs.declared.edge.Act.{Act}
use Rattle.control_points.specs.declared.edge.Act.TheVariants as act
use Rattle.control_points.specs.declared.edge.Edge.{Edge}
use Rattle.control_points.specs.declared.fault.Fault.{Fault}
use Rattle.control_points.specs.Actions.{Change, sets, copies, Onward, at_depth, anew, Effect, Outcome, effect_of}
use Rattle.control_points.specs.Chart.{Chart, leaving, place_of_point}
use Rattle.control_points.specs.Evaluation.{Answer}
use Rattle.control_points.specs.States.{Stack, State}
use Rattle.control_points.specs.Storage.{Store, put, put_copy, keep_below}

-- ---- the state after an effect

abbrev pub change : Change → Store → Store
change (sets p v) store = put store p v
change (copies p source) store = put_copy store p source

-- all changes, in order
abbrev pub change_all : List Change → Store → Store
change_all [] store = store
change_all (x ∷ changes) store = change_all changes (change x store)

-- the stack in which the activation at depth d is the latest and stands at the point p
abbrev pub down_to : Stack → ℕ → ℕ → Stack
down_to [] d p = []
down_to (a ∷ below) d p = if nat_eq d (length below) then record a { point = p } ∷ below else down_to below d p

-- the stack that goes on at the point p
abbrev pub onward_stack : Stack → ℕ → Onward → Stack
onward_stack stack p (at_depth d) = down_to stack d p
onward_stack stack p (anew frame) = record { frame = frame; point = p } ∷ stack

-- how many activations go on with their storage
abbrev pub kept_height : Stack → Onward → ℕ
kept_height stack (at_depth d) = suc d
kept_height stack (anew frame) = length stack

-- the state after an effect, at the point p. The storage of an activation that ends ends with it, and a new one begins with
-- none (ISO 7185, 6.2.3.2).
abbrev pub after : State → ℕ → Effect → State
after s p e = record {
  stack = onward_stack s.stack p e.onward;
  store = change_all e.changes (keep_below (kept_height s.stack e.onward) s.store);
  items = e.items;
  output = e.output;
}

-- ---- the step

pub data Progress : Type 0 where
  moves : State → Progress
  halts : Progress
  fails : Fault → Progress

-- where the latest activation stands
abbrev pub point_of : Stack → ℕ
point_of [] = 0
point_of (a ∷ below) = a.point

-- a run halts at the exit of the program's block, which is the last point
abbrev pub is_halted : Chart → Stack → Bool
is_halted c [] = true
is_halted c (a ∷ []) = nat_eq (suc a.point) (length c.points)
is_halted c (a ∷ b ∷ below) = false

-- what the edge k does in a state
abbrev pub edge_effect : Chart → State → ℕ → Option Edge → Outcome
edge_effect c s k None = Ok None
edge_effect c s k (Some e) = effect_of c s k (place_of_point c.points e.from) e.act

abbrev pub target_of : Option Edge → ℕ
target_of None = 0
target_of (Some e) = e.to

-- An edge's answer, or where its action is not the one to be done, that of the others.
abbrev pub or_else : Chart → State → ℕ → Outcome → Answer (Option State) → Answer (Option State)
or_else c s k (Ok (Some e)) others = Ok (Some (after s (target_of (slice_get c.edges k)) e))
or_else c s k (Ok None) others = others
or_else c s k (Err f) others = Err f

abbrev pub first_done : Chart → State → List ℕ → Answer (Option State)
first_done c s [] = Ok None
first_done c s (k ∷ ks) = or_else c s k (edge_effect c s k (slice_get c.edges k)) (first_done c s ks)

-- the first place of the selector of a `case`, whose edges are arms
abbrev pub arm_place : Act → ℕ
arm_place (act.Arm selector constants) = (out-Expr selector).first
arm_place _ = 0

abbrev pub selector_place : Option Edge → ℕ
selector_place None = 0
selector_place (Some e) = arm_place e.act

abbrev pub selector_of : Chart → List ℕ → ℕ
selector_of c [] = 0
selector_of c (k ∷ ks) = selector_place (slice_get c.edges k)

-- Where no action is to be done, no constant of a `case` is the selector's value (6.8.3.5).
abbrev pub progress : ℕ → Answer (Option State) → Progress
progress selector (Ok (Some s)) = moves s
progress selector (Ok None) = fails (record { kind = NoCaseLabel; at = selector })
progress selector (Err f) = fails f

abbrev pub next : Chart → State → Progress
next c s =
    if is_halted c s.stack then halts
    else (let ks = leaving c.edges (point_of s.stack) in progress (selector_of c ks) (first_done c s ks))
