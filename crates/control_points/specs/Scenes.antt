-- What the second walk rests on, and what holds of the graph while it goes on.
use Rattle.std.specs.Prelude.{◌≡◌, ℕ, suc, ◌-◌, ◌<◌, List, length, nat_eq, Some, slice_get, slice_index, slice_range}
use Rattle.std.specs.HashMap.{get}
use Rattle.pas_program.specs.declared.expr.Access.{Access}
use Rattle.pas_program.specs.declared.expr.Expr.{Expr}
use Rattle.pas_program.specs.declared.program.Program.{Program}
use Rattle.pas_program.specs.declared.statement.Arm.{Arm}
use Rattle.pas_program.specs.declared.statement.Body.TheViews.{out-Arm}
use Rattle.pas_program.specs.declared.statement.WriteItem.{WriteItem}
use Rattle.control_points.specs.declared.edge.Act.{Act}
use Rattle.control_points.specs.declared.edge.Act.TheVariants as act
use Rattle.control_points.specs.declared.labels.Labels.{Labels}
use Rattle.control_points.specs.declared.numbering.Mark.{Mark}
use Rattle.control_points.specs.declared.point.Point.{Point}
use Rattle.control_points.specs.Calls.{CallSite, Sites}
use Rattle.control_points.specs.Fits.{routine_at}
use Rattle.control_points.specs.Labelled.{label_in}
use Rattle.control_points.specs.Wired.{ActFits, AreBlocks, points_of}

-- a label that is found is before a statement of its routine
pub record LabelsLead (points : List Point) (labels : List Labels) : Type 0 where
  pub leads : (s : ℕ) (t : Labels) (n p : ℕ) → slice_get labels s ≡ Some t → get nat_eq t.points n ≡ Some p → routine_at points p ≡ Some s

-- the labels of each routine are those of its points
pub record LabelsAre (marks : List Mark) (entries : List ℕ) (labels : List Labels) : Type 0 where
  pub each : (r : ℕ) (t : Labels) → slice_get labels r ≡ Some t → (n : ℕ) → get nat_eq t.points n ≡ label_in (slice_index entries r) (slice_range marks (slice_index entries r) (slice_index entries (suc r))) n

-- the routine r with its entry and its exit, among the points of all
pub record IsPlaced (program : Program) (marks : List Mark) (entries : List ℕ) (labels : List Labels) (r entry exit : ℕ) : Type 0 where
  pub blocks : AreBlocks (points_of marks) (length program.routines) entries
  pub known : r < length program.routines
  pub entry_is : entry ≡ slice_index entries r
  pub exit_is : exit ≡ slice_index entries (suc r) - 1
  pub tables : length labels ≡ length program.routines
  pub labelled : LabelsAre marks entries labels
  pub jumps : LabelsLead (points_of marks) labels

abbrev pub call_act : CallSite → Act
call_act c = act.Call c.routine c.actuals c.slot c.at

-- each of the calls fits
pub record SitesFit (program : Program) (r : ℕ) (sites : Sites) : Type 0 where
  pub each : (k : ℕ) (c : CallSite) → slice_get sites k ≡ Some c → ActFits program r (call_act c)

-- each of the parameters of `read` fits, and each of `write`
pub record ReadsFit (program : Program) (r : ℕ) (targets : List Access) : Type 0 where
  pub each : (k : ℕ) (a : Access) → slice_get targets k ≡ Some a → ActFits program r (act.Read a)

pub record WritesFit (program : Program) (r : ℕ) (items : List WriteItem) : Type 0 where
  pub each : (k : ℕ) (item : WriteItem) → slice_get items k ≡ Some item → ActFits program r (act.Write item)

-- the way to each arm of a `case` fits
pub record ArmsFit (program : Program) (r : ℕ) (selector : Expr) (arms : List Arm) : Type 0 where
  pub each : (k : ℕ) (arm : Arm) → slice_get arms k ≡ Some arm → ActFits program r (act.Arm selector (out-Arm arm).consts)
