-- The conditions on the values that a program reads, and the verdicts on its checks: what holds whenever a run stands at a point (`plain`) decides
-- which checks are needless, and what holds on the way of a good run (`way`) gives the conditions.
use Rattle.std.specs.Prelude.{ℕ, ◌-◌, ◌<◌, Bool, not, ◌&&◌, List, [], ◌∷◌, length, map, nat_eq, Option, Some, None, count_by, if◌then◌else◌}
use Rattle.std.specs.Bool.{beq}
use Rattle.std.specs.List.{flat_map, list_any, range_with_len}
use Rattle.std.specs.Ordering.{int_eq}
use Rattle.interval.specs.declared.val.Val.{Val}
use Rattle.environment.specs.Environments.{env_ops, is_reachable}
use Rattle.activations.specs.Drawn.{Drawn}
use Rattle.activations.specs.Fitting.{class_number}
use Rattle.abstract_expr.specs.Standing.{scope_in}
use Rattle.abstract_expr.specs.Verdicts.{check_holds}
use Rattle.control_points.specs.declared.check.Check.{Check}
use Rattle.control_points.specs.declared.edge.Act.{Act}
use Rattle.control_points.specs.declared.edge.Act.TheVariants as act
use Rattle.control_points.specs.declared.flow.Flow.{Flow}
use Rattle.control_points.specs.declared.point.PointKind.{PointKind}
use Rattle.control_points.specs.declared.point.PointKind.TheVariants as kind
use Rattle.control_points.specs.Chart.{arriving}
use Rattle.control_points.specs.Fits.{act_at, kind_at}
use Rattle.control_points.specs.Flows.{chart_of}
use Rattle.control_points.specs.Judgements.{Judgement, constants_at, point_judgements}
use Rattle.pas_program.specs.declared.expr.Access.{Access}
use Rattle.pas_program.specs.declared.expr.Actual.TheViews.{out-Access}
use Rattle.report.specs.declared.condition.Condition.{Condition}
use Rattle.report.specs.declared.condition.Demand.{Demand}
use Rattle.report.specs.declared.condition.Demand.TheVariants.{Holds, OffTheWay}
use Rattle.report.specs.declared.counts.Counts.{Counts}
use Rattle.fixpoint.specs.System.{element}
use Rattle.transfer_fwd.specs.Forward.{Table}
use Rattle.report.specs.Nodes.{is_reached, joined, nodes_at}

-- two values are one
abbrev pub same_value : Val → Val → Bool
same_value v w = beq v.undef w.undef && (int_eq v.itv.lo w.itv.lo && int_eq v.itv.hi w.itv.hi)

module _ (f : Flow) where
  -- the variable that is read on the way to a point, with its subscripts
  abbrev pub read_by : Option Act → Option Access
  read_by (Some (act.Read a)) = Some a
  read_by _ = None

  abbrev pub first_read : List ℕ → Option Access
  first_read [] = None
  first_read (k ∷ ks) = read_by (act_at f.edges k)

  abbrev pub read_behind : ℕ → Option PointKind → Option Access
  read_behind p (Some kind.AfterRead) = first_read (arriving f.edges p)
  read_behind p _ = None

  abbrev pub read_at : ℕ → Option Access
  read_at p = read_behind p (kind_at f.points p)

-- ---- conditions

-- the way begins at the program's entry
abbrev pub is_possible : Table → Bool
is_possible way = is_reachable (element env_ops way 0)

module _ (f : Flow) (g : Drawn) (plain way : Table) where
  -- what is demanded of a variable that is read: what it holds on the way, or that its point is not on the way
  abbrev pub demand_at : ℕ → ℕ → Option Demand
  demand_at p v =
      if not (is_reached g plain p) then None
      else if not (is_reached g way p) then Some OffTheWay
      else if same_value (joined g way p v) (joined g plain p v) then None
      else Some (Holds (joined g way p v))

  abbrev pub condition_of : ℕ → Access → Option Demand → List Condition
  condition_of p a None = []
  condition_of p a (Some demand) =
      record { point = p; var = (out-Access a).var; of_part = not (nat_eq (length (out-Access a).subscripts) 0); demand = demand } ∷ []

  abbrev pub condition_behind : ℕ → Option Access → List Condition
  condition_behind p None = []
  condition_behind p (Some a) = condition_of p a (demand_at p (out-Access a).var)

  -- at most one at a point
  abbrev pub conditions_at : ℕ → List Condition
  conditions_at p = condition_behind p (read_at f p)

  -- those of all points, where there is a good run
  abbrev pub conditions : List Condition
  conditions = if is_possible way then flat_map conditions_at (range_with_len 0 (length f.points)) else []

-- ---- checks

module _ (f : Flow) (g : Drawn) (plain : Table) where
  -- a check may fail at a node
  abbrev pub fails_at : ℕ → Judgement → ℕ → Bool
  fails_at p j node = not (check_holds (scope_in f g.table (class_number g node)) (constants_at f.edges p) (element env_ops plain node) j)

  -- whether each check of a point may fail in some class, in order
  abbrev pub open_at : ℕ → List Bool
  open_at p = map (λ j. list_any (fails_at p j) (nodes_at g p)) (point_judgements (chart_of f) p)

  -- the same of each check of the program
  abbrev pub open_checks : List Bool
  open_checks = flat_map open_at (range_with_len 0 (length f.points))

-- ---- how many of each

-- the conditions, the checks, and of each check whether it may fail
abbrev pub counted : List Condition → List Check → List Bool → Counts
counted told checks marks =
    let open_count = count_by (λ is_open. is_open) marks in
    record { conditions = length told; needless = length checks - open_count; open_checks = open_count }

abbrev pub counts : Flow → Drawn → Table → Table → Counts
counts f g plain way = counted (conditions f g plain way) f.checks (open_checks f g plain)

-- the condition is one at a point of the flow, on a variable of its program
pub record IsOf (f : Flow) (c : Condition) : Type 0 where
  pub point : c.point < length f.points
  pub var : c.var < length f.program.vars
