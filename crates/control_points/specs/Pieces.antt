-- Pieces of a graph: the edges and checks of an action, by the number of the point that it leaves.
use Rattle.std.specs.Prelude.{◌≡◌, ℕ, suc, ◌+◌, ◌-◌, Bool, true, false, List, [], ◌∷◌, ◌++◌, length, None, slice_index}
use Rattle.pas_program.specs.declared.expr.Access.{Access}
use Rattle.pas_program.specs.declared.expr.Actual.{Actual}
use Rattle.pas_program.specs.declared.expr.Expr.{Expr}
use Rattle.pas_program.specs.declared.routine.Assert.{Assert}
use Rattle.pas_program.specs.declared.statement.WriteItem.{WriteItem}
use Rattle.pas_program.specs.Tables.{Tables}
use Rattle.control_points.specs.declared.check.Check.{Check}
use Rattle.control_points.specs.declared.edge.Act.{Act}
use Rattle.control_points.specs.declared.edge.Act.TheVariants as act
use Rattle.control_points.specs.declared.edge.Edge.{Edge}
use Rattle.control_points.specs.declared.graph.Graph.{Graph}
use Rattle.control_points.specs.Calls.{CallSite, Sites, access_calls, item_calls}
use Rattle.control_points.specs.Checking.{Faults, expr_checks, access_checks, assigned_checks, passing_checks, read_checks, item_checks, bounds_checks, formals_of}
use Rattle.control_points.specs.Evaluation.{var_type, access_type}
use Rattle.control_points.specs.Extents.{read_points, write_points}
use Rattle.control_points.specs.Judging.{checks_at}
use Rattle.control_points.specs.Listing as listing
use Rattle.control_points.specs.Scenes.{call_act}

pub record Part : Type 0 where
  pub edges : List Edge
  pub checks : List Check

-- by the number of edges before it, since a return names its call by the number of the call's edge
abbrev pub Piece : Type 0
Piece = ℕ → Part

abbrev pub nothing : Piece
nothing n = record { edges = []; checks = [] }

abbrev pub after_part : Part → Part → Part
after_part a b = record { edges = a.edges ++ b.edges; checks = a.checks ++ b.checks }

-- one after the other
abbrev pub both : Piece → Piece → Piece
both p q n = after_part (p n) (q (n + length (p n).edges))

abbrev pub way : ℕ → Act → ℕ → Piece
way source action target n = record { edges = listing.edge source action target ∷ []; checks = [] }

-- the errors that the action at a point may be
abbrev pub judged : ℕ → Faults → Piece
judged point faults n = record { edges = []; checks = checks_at point faults }

-- a graph is another one with the piece behind it
pub record IsFollowedBy (old new : Graph) (piece : Piece) : Type 0 where
  pub edges : new.edges ≡ old.edges ++ (piece (length old.edges)).edges
  pub checks : new.checks ≡ old.checks ++ (piece (length old.edges)).checks

-- What the numbers of a program stand for: its tables, its assertions, the entry of each routine and at the end the number of points,
-- and the point before the statement of a routine with a label.
pub record Plan : Type 0 where
  pub tables : Tables
  pub asserts : List Assert
  pub entries : List ℕ
  pub label : ℕ → ℕ → ℕ

-- the call of a procedure, which has no slot
abbrev pub procedure_call : ℕ → List Actual → ℕ → CallSite
procedure_call routine actuals at = record { routine = routine; actuals = actuals; slot = None; at = at }

abbrev pub line_act : Bool → Act → Act
line_act true a = a
line_act false a = act.Skip

module _ (plan : Plan) where
  abbrev pub entry_of : ℕ → ℕ
  entry_of r = slice_index plan.entries r

  abbrev pub exit_of : ℕ → ℕ
  exit_of r = slice_index plan.entries (suc r) - 1

  -- a call with its return
  abbrev pub call_ways : CallSite → ℕ → ℕ → Piece
  call_ways c source back n = record { edges = listing.edge source (call_act c) (entry_of c.routine) ∷ listing.edge (exit_of c.routine) (act.Return n) back ∷ []; checks = [] }

  abbrev pub call : CallSite → ℕ → ℕ → Piece
  call c source back = both (judged source (passing_checks plan.tables c.actuals (formals_of (plan.tables.head_at c.routine)))) (call_ways c source back)

  -- calls from a point on: each returns to the point behind
  abbrev pub calls : Sites → ℕ → Piece
  calls [] source = nothing
  calls (c ∷ sites) source = both (call c source (source + 1)) (calls sites (source + 1))

  abbrev pub assignment : Access → Expr → ℕ → ℕ → Piece
  assignment target value here next = both (judged here (access_checks plan.tables target ++ assigned_checks plan.tables (access_type plan.tables target) value)) (way here (act.Assign target value) next)

  abbrev pub copying : Access → Access → ℕ → ℕ → Piece
  copying target source here next = both (judged here (access_checks plan.tables target ++ access_checks plan.tables source)) (way here (act.Copy target source) next)

  -- a condition with its two ways
  abbrev pub condition : Expr → ℕ → ℕ → ℕ → Piece
  condition cond here held failed = both (judged here (expr_checks plan.tables cond)) (both (way here (act.Test cond true) held) (way here (act.Test cond false) failed))

  -- the ways into a `for`, whose statement stands behind, and past it
  abbrev pub bounds : ℕ → ℕ → Expr → Bool → Expr → ℕ → ℕ → Piece
  bounds control bound first down final here next =
      both (judged here (bounds_checks plan.tables (var_type plan.tables control) first final))
      (both (way here (act.Enter control bound first down final) (here + 1)) (way here (act.Bypass control bound first down final) next))

  -- the parameters of `read` from a point on, each after its calls
  abbrev pub read : Access → ℕ → Piece
  read a source =
      let here = source + length (access_calls a) in
      both (calls (access_calls a) source) (both (judged here (read_checks plan.tables (access_type plan.tables a) a)) (way here (act.Read a) (here + 1)))

  abbrev pub reads : List Access → Act → ℕ → ℕ → Piece
  reads [] end source next = way source end next
  reads (a ∷ targets) end source next = both (read a source) (reads targets end (source + read_points a) next)

  -- those of `write`
  abbrev pub write : WriteItem → ℕ → Piece
  write item source =
      let here = source + length (item_calls item) in
      both (calls (item_calls item) source) (both (judged here (item_checks plan.tables item)) (way here (act.Write item) (here + 1)))

  abbrev pub writes : List WriteItem → Act → ℕ → ℕ → Piece
  writes [] end source next = way source end next
  writes (item ∷ items) end source next = both (write item source) (writes items end (source + write_points item) next)

-- A `case` without arms has one way, for no constant, so that an edge leaves its point. The grammar gives each an arm.
abbrev pub no_arms : {A : Type 0} → List A → Expr → ℕ → ℕ → Piece
no_arms [] selector here next = way here (act.Arm selector []) next
no_arms (arm ∷ arms) selector here next = nothing

-- the ways from the end of a turn of a `for`: to the next turn, and out of it
abbrev pub turns : ℕ → ℕ → Bool → ℕ → ℕ → ℕ → Piece
turns control bound down step inside next = both (way step (act.Next control bound down) inside) (way step (act.Finish control bound down) next)
