-- What a step follows, and which call made an activation of a run.
use Rattle.std.specs.Prelude.{◌≡◌, ℕ, ◌<◌, ◌≤◌, List, [], ◌∷◌, length, nat_eq, Some, Ok, slice_get, if◌then◌else◌}
use Rattle.control_points.specs.declared.edge.Edge.{Edge}
use Rattle.control_points.specs.declared.item.Item.{Item}
use Rattle.control_points.specs.Actions.{Effect, effect_of}
use Rattle.control_points.specs.Chart.{Chart, place_of_point}
use Rattle.control_points.specs.Finding.{frame_at}
use Rattle.control_points.specs.Runs.{at}
use Rattle.control_points.specs.States.{Frame, Stack, State}
use Rattle.control_points.specs.Steps.{after, point_of}

-- the step from s to t does the action of an edge that leaves the point of s, and leads to the edge's target
pub record IsStep (c : Chart) (s t : State) : Type 0 where
  pub number : ℕ
  pub edge : Edge
  pub effect : Effect
  pub known : slice_get c.edges number ≡ Some edge
  pub leaves : edge.from ≡ point_of s.stack
  pub done : effect_of c s number (place_of_point c.points edge.from) edge.act ≡ Ok (Some effect)
  pub leads : t ≡ after s edge.to effect

-- the activations below the depth d
abbrev pub below_depth : Stack → ℕ → Stack
below_depth [] d = []
below_depth (a ∷ below) d = if nat_eq d (length below) then below else below_depth below d

-- the frame f stands at depth d, on these activations
pub record StandsOn (stack : Stack) (d : ℕ) (f : Frame) (lower : Stack) : Type 0 where
  pub frame : frame_at stack d ≡ Some f
  pub below : below_depth stack d ≡ lower

-- The activation at depth d, whose frame is f, was made by the step that follows the first j. Until i steps are made it stands
-- at its depth, and those below it stay as they were before that step, with their points.
pub record IsMadeAt (c : Chart) (items : List Item) (i d j : ℕ) (f : Frame) : Type 0 where
  pub caller : State
  pub before : j < i
  pub reached : at c items j ≡ Some caller
  pub height : length caller.stack ≡ d
  pub stays : (m : ℕ) (s : State) → j < m → m ≤ i → at c items m ≡ Some s → StandsOn s.stack d f caller.stack
