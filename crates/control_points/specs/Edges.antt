-- The edges and checks of a program, by the tree of its text and the numbers of its points. `here` is the point before a statement,
-- and `next` the point that follows it.
use Rattle.std.specs.Prelude.{ℕ, suc, ◌+◌, ◌-◌, Bool, List, [], ◌∷◌, map, length, Option, Some, None, unwrap_or, slice_index, slice_range}
use Rattle.pas_program.specs.declared.expr.Expr.{Expr}
use Rattle.pas_program.specs.declared.program.Program.{Program}
use Rattle.pas_program.specs.declared.routine.Routine.{Routine}
use Rattle.pas_program.specs.declared.statement.Arm.{Arm}
use Rattle.pas_program.specs.declared.statement.Body.{Body}
use Rattle.pas_program.specs.declared.statement.Body.TheOpen.{Body-F, Statement-F}
use Rattle.pas_program.specs.declared.statement.Body.TheFolds.{map-Body, para-Arm, para-Body, para-Statement}
use Rattle.pas_program.specs.declared.statement.Body.TheViews.{out-Arm, out-Body, out-Statement}
use Rattle.pas_program.specs.declared.statement.Statement.{Statement}
use Rattle.pas_program.specs.Checked.{tables}
use Rattle.control_points.specs.declared.check.Check.{Check}
use Rattle.control_points.specs.declared.edge.Act.TheVariants as act
use Rattle.control_points.specs.declared.edge.Edge.{Edge}
use Rattle.control_points.specs.declared.numbering.Mark.{Mark}
use Rattle.control_points.specs.Called.{calls_of}
use Rattle.control_points.specs.Calls.{expr_calls}
use Rattle.control_points.specs.Checking.{assert_checks, result_checks, selector_checks}
use Rattle.control_points.specs.Extents.{statement_extent, arm_extent, all_of}
use Rattle.control_points.specs.Labelled.{label_in}
use Rattle.control_points.specs.Marks.{routines_marks, starts}
use Rattle.control_points.specs.Pieces.{Piece, Plan, nothing, both, way, judged, line_act, no_arms, procedure_call, turns}
use Rattle.control_points.specs.Pieces as of

-- what a statement draws, by the point before it and the point that follows it
abbrev pub Placing : Type 0
Placing = ℕ → ℕ → Piece

-- the parts of a statement, each with what it draws
abbrev pub Laid : Type 0
Laid = Body-F (Body × Placing) (Arm × Placing) (Statement × Placing)

abbrev pub points_of : List (Statement × Placing) → ℕ
points_of body = (all_of (map (λ s. statement_extent s.0) body)).points

-- the point that follows the first of several statements
abbrev pub following : List (Statement × Placing) → ℕ → ℕ → ℕ
following [] behind next = next
following (s ∷ rest) behind next = behind

abbrev pub second_start : Option (Statement × Placing) → ℕ → ℕ → ℕ
second_start None behind next = next
second_start (Some s) behind next = behind

module _ (plan : Plan) where
  -- statements one after another
  abbrev pub in_order : List (Statement × Placing) → Placing
  in_order [] here next = nothing
  in_order (s ∷ rest) here next =
      let behind = here + (statement_extent s.0).points in
      both (s.1 here (following rest behind next)) (in_order rest behind next)

  abbrev pub second_piece : Option (Statement × Placing) → Placing
  second_piece None here next = nothing
  second_piece (Some s) here next = s.1 here next

  -- the arms of a `case` from a point on, whose selector is evaluated at the point `source`
  abbrev pub arms_from : Expr → ℕ → List (Arm × Placing) → Placing
  arms_from selector source [] here next = nothing
  arms_from selector source (arm ∷ arms) here next =
      both (way source (act.Arm selector (out-Arm arm.0).consts) here)
      (both (arm.1 here next) (arms_from selector source arms (here + (arm_extent arm.0).points) next))

  -- a `repeat`: its statements, and then its condition with its calls
  abbrev pub until_piece : List (Statement × Placing) → Expr → Placing
  until_piece body cond here next =
      let until = here + 1 + points_of body in
      both (in_order body (here + 1) until)
      (both (of.calls plan (expr_calls cond) until) (of.condition plan cond (until + length (expr_calls cond)) next (here + 1)))

  -- the statement of a `for`, and the ways from its end, where its bounds are evaluated at the point `source`
  abbrev pub loop_piece : ℕ → ℕ → Bool → Statement × Placing → Placing
  loop_piece control bound down body source next =
      let step = source + 1 + (statement_extent body.0).points in
      both (body.1 (source + 1) step) (turns control bound down step (source + 1) next)

  -- the action of a statement, which leaves the point `source`, and its checks
  abbrev pub own_piece : Laid → Placing
  own_piece Body-F.Empty source next = way source act.Skip next
  own_piece (Body-F.Assign target value) source next = of.assignment plan target value source next
  own_piece (Body-F.Copy target array) source next = of.copying plan target array source next
  own_piece (Body-F.Call routine actuals at) source next = of.call plan (procedure_call routine actuals at) source next
  own_piece (Body-F.Read targets line) source next = of.reads plan targets (line_act line act.DropLine) source next
  own_piece (Body-F.Write items line) source next = of.writes plan items (line_act line act.EndLine) source next
  own_piece (Body-F.Goto routine number) source next = way source (act.Goto routine) (plan.label routine number)
  own_piece (Body-F.Begin body end) source next = way source act.Skip (source + 1)
  own_piece (Body-F.If cond first second) source next = of.condition plan cond source (source + 1) (second_start second (source + 1 + (statement_extent first.0).points) next)
  own_piece (Body-F.Case selector arms) source next = both (judged source (selector_checks plan.tables selector)) (no_arms arms selector source next)
  own_piece (Body-F.While cond body) source next = of.condition plan cond source (source + 1) next
  own_piece (Body-F.Repeat body until cond) source next = way source act.Skip (source + 1)
  own_piece (Body-F.For control bound first down final body) source next = of.bounds plan control bound first down final source next

  -- what stands inside a statement, whose action leaves the point `source`
  abbrev pub inner_piece : Laid → ℕ → Placing
  inner_piece (Body-F.Begin body end) source here next = in_order body (source + 1) next
  inner_piece (Body-F.If cond first second) source here next = both (first.1 (source + 1) next) (second_piece second (source + 1 + (statement_extent first.0).points) next)
  inner_piece (Body-F.Case selector arms) source here next = arms_from selector source arms (source + 1) next
  inner_piece (Body-F.While cond body) source here next = body.1 (source + 1) here
  inner_piece (Body-F.Repeat body until cond) source here next = until_piece body cond here next
  inner_piece (Body-F.For control bound first down final body) source here next = loop_piece control bound down body source next
  inner_piece _ source here next = nothing

  -- the calls of the action, the action, and what stands inside
  abbrev pub body_step : Laid → Placing
  body_step body here next =
      let source = here + length (calls_of body) in
      both (of.calls plan (calls_of body) here) (both (own_piece body source next) (inner_piece body source here next))

  abbrev pub statement_step : Statement-F (Body × Placing) (Arm × Placing) (Statement × Placing) → Placing
  statement_step s here next = both (judged here (assert_checks plan.asserts s.asserts)) (s.body.1 here next)

  abbrev pub statement_piece : Statement → Placing
  statement_piece = para-Statement Placing Placing Placing body_step (λ a. a.body.1) statement_step

  abbrev pub arm_piece : Arm → Placing
  arm_piece = para-Arm Placing Placing Placing body_step (λ a. a.body.1) statement_step

  abbrev pub body_piece : Body → Placing
  body_piece = para-Body Placing Placing Placing body_step (λ a. a.body.1) statement_step

  abbrev pub laid_statement : Statement → Statement × Placing
  laid_statement s = (s, statement_piece s)

  abbrev pub laid_arm : Arm → Arm × Placing
  laid_arm a = (a, arm_piece a)

  abbrev pub laid_body : Body-F Body Arm Statement → Laid
  laid_body = map-Body Body Arm Statement (Body × Placing) (Arm × Placing) (Statement × Placing) (λ b. (b, body_piece b)) laid_arm laid_statement

  -- the statement part of a routine from its entry to its exit
  abbrev pub part_piece : Option ℕ → ℕ → ℕ → Body-F Body Arm Statement → Piece
  part_piece result entry exit (Body-F.Begin body end) =
      both (way entry act.Skip (entry + 1)) (both (in_order (map laid_statement body) (entry + 1) exit) (judged exit (result_checks result end)))
  part_piece result entry exit _ = nothing

  abbrev pub routine_piece : ℕ → Routine → Piece
  routine_piece r d = part_piece d.result (of.entry_of plan r) (of.exit_of plan r) (out-Body (out-Statement d.body).body)

  -- all routines, of which the first has the number r
  abbrev pub routines_piece : ℕ → List Routine → Piece
  routines_piece r [] = nothing
  routines_piece r (d ∷ routines) = both (routine_piece r d) (routines_piece (suc r) routines)

-- the point before the first statement of the routine with the label, or where there is none the routine's exit
abbrev pub label_point : List Mark → List ℕ → ℕ → ℕ → ℕ
label_point marks entries r n =
    let first = slice_index entries r in
    let end = slice_index entries (suc r) in
    unwrap_or (label_in first (slice_range marks first end) n) (end - 1)

abbrev pub plan_from : Program → List Mark → List ℕ → Plan
plan_from p marks entries = record { tables = tables p; asserts = p.asserts; entries = entries; label = label_point marks entries }

abbrev pub plan_of : Program → Plan
plan_of p = plan_from p (routines_marks 0 p.routines) (starts 0 0 p.routines)

abbrev pub program_piece : Program → Piece
program_piece p = routines_piece (plan_of p) 0 p.routines

-- the edges and the checks of a program, in their order
abbrev pub edges_of : Program → List Edge
edges_of p = (program_piece p 0).edges

abbrev pub checks_of : Program → List Check
checks_of p = (program_piece p 0).checks
