-- Which variable a name denotes in an activation (ISO 7185, 6.2.2 and 6.2.3): one of it, or of an activation around it.
use Rattle.std.specs.Prelude.{ℕ, List, [], ◌∷◌, length, nat_eq, Option, Some, None, if◌then◌else◌}
use Rattle.std.specs.Option.{option_and_then, unwrap_or}
use Rattle.pas_program.specs.declared.variable.VarDef.{VarDef}
use Rattle.pas_program.specs.declared.variable.VarKind.{VarKind}
use Rattle.pas_program.specs.declared.variable.VarKind.TheVariants as kind
use Rattle.pas_program.specs.Tables.{Tables}
use Rattle.control_points.specs.States.{Binding, Frame, Stack}
use Rattle.control_points.specs.Storage.{Place, whole}

-- the depth of the activation of routine r that is the one at depth d or around it
abbrev pub around : Stack → ℕ → ℕ → Option ℕ
around [] d r = None
around (a ∷ below) d r =
    if nat_eq d (length below)
    then (if nat_eq a.frame.routine r then Some d else option_and_then (λ p. around below p r) a.frame.parent)
    else around below d r

-- the frame of the activation at depth d
abbrev pub frame_at : Stack → ℕ → Option Frame
frame_at [] d = None
frame_at (a ∷ below) d = if nat_eq d (length below) then Some a.frame else frame_at below d

-- what a variable parameter stands for
abbrev pub bound_to : ℕ → List Binding → Option Place
bound_to v [] = None
bound_to v (b ∷ bindings) = if nat_eq b.formal v then Some b.place else bound_to v bindings

-- the place of the variable v of the activation at depth d
abbrev pub own_place : Stack → ℕ → ℕ → VarKind → Option Place
own_place stack v d kind.Var = option_and_then (λ (f : Frame). bound_to v f.bindings) (frame_at stack d)
own_place stack v d _ = Some (whole d v)

-- the place of the variable v as the activation at depth d sees it, if it sees it
abbrev pub seen_place : Tables → Stack → ℕ → ℕ → Option Place
seen_place t stack d v =
    option_and_then (λ (x : VarDef). option_and_then (λ e. own_place stack v e x.kind) (around stack d x.routine)) (t.var_at v)

-- the same; in a checked program, each variable that is used is seen
abbrev pub place_of : Tables → Stack → ℕ → ℕ → Place
place_of t stack d v = unwrap_or (seen_place t stack d v) (whole d v)
