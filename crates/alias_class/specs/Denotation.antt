-- What the cells of a class stand for in a state of a run: each for a whole variable of one activation.
use Rattle.std.specs.Prelude.{◌≡◌, ℕ, ◌-◌, ◌<◌, ◌≤◌, List, [], ◌∷◌, length, nat_eq, nat_lt, Option, Some, None, slice_index, unwrap_or, option_and_then, if◌then◌else◌}
use Rattle.control_points.specs.declared.edge.Act.{Act}
use Rattle.control_points.specs.declared.edge.Act.TheVariants as act
use Rattle.control_points.specs.declared.edge.Edge.{Edge}
use Rattle.control_points.specs.Fits.{act_at}
use Rattle.control_points.specs.States.{Activation, Stack}
use Rattle.control_points.specs.Storage.{Place, whole}
use Rattle.alias_class.specs.declared.outline.Outline.{Outline}
use Rattle.alias_class.specs.Calls.{Sharing, sharing, callee}
use Rattle.alias_class.specs.Classes.{Class}
use Rattle.alias_class.specs.Outlines.{own_of}

-- ---- the class of an activation

-- the edge of the call that made an activation
abbrev pub made_by : Activation → ℕ
made_by a = unwrap_or a.frame.call 0

-- the activations up to a depth
abbrev pub up_to : Stack → ℕ → Stack
up_to [] d = []
up_to (a ∷ below) d = if nat_eq d (length below) then a ∷ below else up_to below d

module _ (o : Outline) (edges : List Edge) where
  -- of the latest activation of a stack: what its call enters from the class of the one below
  abbrev pub class_of : Stack → Class
  class_of [] = []
  class_of (a ∷ []) = []
  class_of (a ∷ b ∷ below) = callee o edges (class_of (b ∷ below)) (made_by a)

  -- at a depth
  abbrev pub class_at_depth : Stack → ℕ → Class
  class_at_depth stack d = class_of (up_to stack d)

-- ---- how a cell comes about, at the call that enters its class

pub data Origin : Type 0 where
  -- a cell of the static parent's class
  inherited : ℕ → Origin
  -- a variable of the class's own
  own : ℕ → Origin
  -- a cell of the class that calls
  foreign : ℕ → Origin

abbrev pub shared_origin : Sharing → List ℕ → ℕ → Origin
shared_origin s variables cell =
    if nat_lt cell s.inherited then inherited cell
    else if nat_lt cell s.first_foreign then own (slice_index variables (cell - s.inherited))
    else foreign (slice_index s.foreign (cell - s.first_foreign))

-- Different cells of a class, which has so many, come about in different ways. The foreign ones are cells of the class that calls, which has so many,
-- behind those of the static parent's class.
pub record AreApart (origin : ℕ → Origin) (count inherited_cells caller_cells : ℕ) : Type 0 where
  pub apart : (i j : ℕ) → i < count → j < count → origin i ≡ origin j → i ≡ j
  pub outside : (i k : ℕ) → i < count → origin i ≡ foreign k → inherited_cells ≤ k
  pub within : (i k : ℕ) → i < count → origin i ≡ foreign k → k < caller_cells

module _ (o : Outline) where
  abbrev pub origin_by : Class → Option Act → ℕ → Origin
  origin_by c (Some (act.Call r actuals slot at)) cell = shared_origin (sharing o c r actuals) (own_of o r) cell
  origin_by c _ cell = own (slice_index (own_of o o.main) cell)

  -- of a cell of the latest activation's class
  abbrev pub origin_of : List Edge → Stack → ℕ → Origin
  origin_of edges [] cell = own 0
  origin_of edges (a ∷ []) cell = own (slice_index (own_of o o.main) cell)
  origin_of edges (a ∷ b ∷ below) cell = origin_by (class_of o edges (b ∷ below)) (act_at edges (made_by a)) cell

  -- ---- what a cell denotes

  -- A cell of the activation at a depth denotes one of its variables, or what a cell denotes of the activation around it or of the one that
  -- called it.
  abbrev pub denoted_from : (ℕ → ℕ → Option Place) → ℕ → Option ℕ → Origin → Option Place
  denoted_from below d parent (inherited i) = option_and_then (λ p. below p i) parent
  denoted_from below d parent (own v) = Some (whole d v)
  denoted_from below d parent (foreign i) = below (d - 1) i

  abbrev pub denoted : List Edge → Stack → ℕ → ℕ → Option Place
  denoted edges [] d cell = None
  denoted edges (a ∷ below) d cell =
      if nat_eq d (length below)
      then denoted_from (denoted edges below) d a.frame.parent (origin_of edges (a ∷ below) cell)
      else denoted edges below d cell
