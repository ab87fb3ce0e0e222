-- The forward system (Bourdoncle, PLDI 1993): what a node may hold is the join of what comes along its incoming arcs, each from the element of
-- the node that it leaves; a return also reads the exit of the routine that it leaves.
use Rattle.std.specs.Prelude.{ℕ, Bool, true, ◌&&◌, List, [], ◌∷◌, fold, nat_eq, Option, Some, None, option_map, slice_get, unwrap_or, if◌then◌else◌}
use Rattle.std.specs.Option.{option_and_then}
use Rattle.fixpoint.specs.System.{element}
use Rattle.environment.specs.Environments.{Environment, env_join, env_ops, started}
use Rattle.environment.specs.Environments.Environment.{Unreachable}
use Rattle.alias_class.specs.declared.bind.Link.{Link}
use Rattle.activations.specs.declared.arc.Arc.{Arc}
use Rattle.activations.specs.Drawn.{Drawn}
use Rattle.activations.specs.Fitting.{class_number, exit_of, point_number}
use Rattle.control_points.specs.declared.edge.Act.{Act}
use Rattle.control_points.specs.declared.edge.Act.TheVariants as act
use Rattle.control_points.specs.declared.flow.Flow.{Flow}
use Rattle.control_points.specs.Checking.{formals_of}
use Rattle.control_points.specs.Fits.{act_at}
use Rattle.control_points.specs.Flows.{chart_of}
use Rattle.control_points.specs.Judgements.{result_of}
use Rattle.control_points.specs.Runs.{standing_at}
use Rattle.pas_program.specs.declared.routine.Assert.{Assert}
use Rattle.pas_program.specs.Checked.{tables}
use Rattle.abstract_expr.specs.Expressions.{Change, Scope, refined, truth_of}
use Rattle.abstract_expr.specs.Standing.{cells_in, scope_in}
use Rattle.transfer_fwd.specs.Actions.{after}
use Rattle.transfer_fwd.specs.Crossings.{Crossing, ResultCells, called, kept_cells, returned}

-- of each node what may hold there
abbrev pub Table : Type 0
Table = List Environment

-- ---- nodes

-- how many cells it has
abbrev pub cells_at : Drawn → ℕ → ℕ
cells_at g node = cells_in g.table (class_number g node)

abbrev pub incoming_at : Drawn → ℕ → List Arc
incoming_at g node = unwrap_or (slice_get g.incoming node) []

abbrev pub links_at : Drawn → ℕ → List Link
links_at g call = unwrap_or (slice_get g.links call) []

module _ (f : Flow) (g : Drawn) where
  abbrev pub scope_at : ℕ → Scope
  scope_at node = scope_in f g.table (class_number g node)

  -- ---- calls: from the class of one node into that of another

  abbrev pub result_cells : ℕ → ℕ → ℕ → Option ℕ → Option ResultCells
  result_cells outside inside routine slot =
      option_and_then (λ s. option_map (λ r. record { slot = ((scope_at outside).bind s).cell; result = ((scope_at inside).bind r).cell })
      (result_of (tables f.program) routine)) slot

  abbrev pub crossing_by : ℕ → ℕ → ℕ → Act → Crossing
  crossing_by outside inside call (act.Call routine actuals slot at) = record {
    outside = scope_at outside;
    inside = scope_at inside;
    cells = cells_at g inside;
    links = links_at g call;
    actuals = actuals;
    formals = formals_of ((tables f.program).head_at routine);
    result = result_cells outside inside routine slot;
  }
  crossing_by outside inside call _ = record {
    outside = scope_at outside;
    inside = scope_at inside;
    cells = cells_at g inside;
    links = [];
    actuals = [];
    formals = [];
    result = None;
  }

  abbrev pub action_at : ℕ → Act
  action_at k = unwrap_or (act_at f.edges k) act.Skip

  -- ---- arcs

  abbrev pub along_by : Table → Arc → Act → Environment
  along_by table a (act.Call routine actuals slot at) =
      called (crossing_by a.from a.to a.call (act.Call routine actuals slot at)) (element env_ops table a.from)
  along_by table a (act.Return site) =
      returned (crossing_by a.from (exit_of a) a.call (action_at site)) (element env_ops table (exit_of a)) (element env_ops table a.from)
  along_by table a (act.Goto routine) = kept_cells (cells_at g a.to) (element env_ops table a.from)
  along_by table a action = after (scope_at a.from) action (element env_ops table a.from)

  -- what comes along an arc
  abbrev pub along : Table → Arc → Environment
  along table a = along_by table a (action_at a.edge)

  -- ---- nodes

  -- at the program's entry all cells are undefined, where that is reached
  abbrev pub initial : Bool → ℕ → Environment
  initial origin node = let cells = cells_at g node in if origin && nat_eq node 0 then started cells else Unreachable cells

  abbrev pub joined : Bool → Table → ℕ → Environment
  joined origin table node = fold (λ env a. env_join env (along table a)) (initial origin node) (incoming_at g node)

  -- an assertion that must always hold is true
  abbrev pub assumed : Scope → Option Assert → Change
  assumed scope None env = env
  assumed scope (Some a) env = if a.sometime then env else refined scope a.cond (truth_of true) env

  abbrev pub all_assumed : Scope → List ℕ → Change
  all_assumed scope [] env = env
  all_assumed scope (a ∷ listed) env = all_assumed scope listed (assumed scope (slice_get f.program.asserts a) env)

  -- the value of a node's equation, with the assertions of its point or without
  abbrev pub forward_value : Bool → Bool → ℕ → Table → Environment
  forward_value with_asserts origin node table =
      let env = joined origin table node in
      if with_asserts then all_assumed (scope_at node) (standing_at (chart_of f) (point_number g node)) env else env
