-- The points with their assertions, the edges and the checks of a program, by the tree of its text: a point is a routine, the path of a statement in the routine's
-- body, and a word that says where in the statement it lies. `next` is the point that follows a statement.
use Rattle.std.specs.Prelude.{◌≡◌, ℕ, suc, Bool, true, false, ◌&&◌, List, [], ◌∷◌, ◌++◌, map, ℤ, nat_eq, slice_get, Option, Some, None, unwrap_or, position, if◌then◌else◌}
use Rattle.pas_program.specs.declared.expr.Access.{Access}
use Rattle.pas_program.specs.declared.expr.Actual.TheViews.{out-Access, out-Expr}
use Rattle.pas_program.specs.declared.expr.Expr.{Expr}
use Rattle.pas_program.specs.declared.program.Program.{Program}
use Rattle.pas_program.specs.declared.routine.Assert.{Assert}
use Rattle.pas_program.specs.declared.routine.Routine.{Routine}
use Rattle.pas_program.specs.declared.statement.Arm.{Arm}
use Rattle.pas_program.specs.declared.statement.Body.{Body}
use Rattle.pas_program.specs.declared.statement.Body.TheOpen.{Body-F, Statement-F}
use Rattle.pas_program.specs.declared.statement.Body.TheFolds.{fold-Statement}
use Rattle.pas_program.specs.declared.statement.Body.TheViews.{out-Body, out-Statement}
use Rattle.pas_program.specs.declared.statement.Statement.{Statement}
use Rattle.pas_program.specs.declared.statement.WriteItem.{WriteItem}
use Rattle.pas_program.specs.declared.statement.WriteValue.{WriteValue}
use Rattle.pas_program.specs.declared.statement.WriteValue.TheVariants as written
use Rattle.pas_program.specs.Checked.{tables}
use Rattle.pas_program.specs.Tables.{Tables}
use Rattle.control_points.specs.declared.check.Check.{Check}
use Rattle.control_points.specs.declared.edge.Act.{Act}
use Rattle.control_points.specs.declared.edge.Act.TheVariants as act
use Rattle.control_points.specs.declared.edge.Edge.{Edge}
use Rattle.control_points.specs.declared.fault.Fault.{Fault}
use Rattle.control_points.specs.declared.point.Point.{Point}
use Rattle.control_points.specs.declared.point.PointKind.{PointKind}
use Rattle.control_points.specs.declared.point.PointKind.TheVariants as kind
use Rattle.control_points.specs.Calls.{CallSite, Sites, expr_calls, access_calls, actuals_calls, item_calls}
use Rattle.control_points.specs.Checking.{Faults, expr_checks, access_checks, assigned_checks, passing_checks, read_checks, item_checks, selector_checks, bounds_checks, formals_of, assert_checks, result_checks}
use Rattle.control_points.specs.Evaluation.{var_type, access_type}

-- ---- names of points

-- a path names a statement by the places of those around it and its own, each in the one around it
abbrev pub Path : Type 0
Path = List ℕ

-- of several points of one kind in a statement, the number tells which
pub record Site : Type 0 where
  pub routine : ℕ
  pub path : Path
  pub kind : PointKind
  pub number : ℕ

-- a point with its place in the source, and with the assertions that stand there
pub record Placed : Type 0 where
  pub site : Site
  pub at : ℕ
  pub asserts : List ℕ

-- What is done on an edge; a return is that of the call that leaves a point.
pub data Deed : Type 0 where
  does : Act → Deed
  calls : CallSite → Deed
  returns : Site → Deed

pub record Link : Type 0 where
  pub source : Site
  pub deed : Deed
  pub target : Site

-- a check of the action that leaves a point
pub record Judged : Type 0 where
  pub site : Site
  pub fault : Fault

-- the points of a statement in order, its edges, and its checks
pub record Piece : Type 0 where
  pub points : List Placed
  pub links : List Link
  pub checks : List Judged

abbrev pub nothing : Piece
nothing = record { points = []; links = []; checks = [] }

abbrev pub both : Piece → Piece → Piece
both p q = record { points = p.points ++ q.points; links = p.links ++ q.links; checks = p.checks ++ q.checks }

abbrev pub judged_at : Site → Fault → Judged
judged_at s f = record { site = s; fault = f }

abbrev pub judged : Site → Faults → Piece
judged s faults = record { points = []; links = []; checks = map (judged_at s) faults }

abbrev pub link : Site → Deed → Site → Link
link source deed target = record { source = source; deed = deed; target = target }

abbrev pub asserted_point : Site → ℕ → List ℕ → Piece
asserted_point site at asserts = record { points = record { site = site; at = at; asserts = asserts } ∷ []; links = []; checks = [] }

-- no assertion stands there
abbrev pub point_of : Site → ℕ → Piece
point_of site at = asserted_point site at []

abbrev pub way : Site → Act → Site → Piece
way source action target = record { points = []; links = link source (does action) target ∷ []; checks = [] }

abbrev pub entry_of : ℕ → Site
entry_of r = record { routine = r; path = []; kind = kind.Entry; number = 0 }

abbrev pub exit_of : ℕ → Site
exit_of r = record { routine = r; path = []; kind = kind.Exit; number = 0 }

-- ---- actions: where they begin, what is there besides, and where they go on

-- Calls in order, the first one from a point: each returns to a point of its own, from which what follows goes on.
pub record Made : Type 0 where
  pub piece : Piece
  pub here : Site
  pub number : ℕ

-- a call with its return
abbrev pub call_links : CallSite → Site → Site → Piece
call_links c source back = record { points = []; links = link source (calls c) (entry_of c.routine) ∷ link (exit_of c.routine) (returns source) back ∷ []; checks = [] }

abbrev pub call_checks : Tables → CallSite → Faults
call_checks t c = passing_checks t c.actuals (formals_of (t.head_at c.routine))

abbrev pub call_piece : Tables → CallSite → Site → Site → Piece
call_piece t c source back = both (judged source (call_checks t c)) (both (call_links c source back) (point_of back c.at))

abbrev pub before_made : Piece → Made → Made
before_made first m = record { piece = both first m.piece; here = m.here; number = m.number }

-- the calls of a statement at a path, of which the first has the number n
abbrev pub made : Tables → ℕ → Path → ℕ → Site → Sites → Made
made t r path n source [] = record { piece = nothing; here = source; number = n }
made t r path n source (c ∷ sites) =
    let back : Site = record { routine = r; path = path; kind = kind.AfterCall; number = n } in
    before_made (call_piece t c source back) (made t r path (suc n) back sites)

-- ---- statements

-- what a statement is at a path, by where it leads
abbrev pub Placing : Type 0
Placing = Path → Site → Piece

module _ (t : Tables) (asserts : List Assert) (r : ℕ) where
  abbrev pub site : PointKind → ℕ → Path → Site
  site k n path = record { routine = r; path = path; kind = k; number = n }

  abbrev pub before : Path → Site
  before path = site kind.Before 0 path

  abbrev pub inner : Path → ℕ → Path
  inner path n = path ++ n ∷ []

  -- statements one after another, of which the first is the n-th of those at the path
  abbrev pub in_order : ℕ → List Placing → Placing
  in_order n [] path next = nothing
  in_order n (s ∷ []) path next = s (inner path n) next
  in_order n (s ∷ u ∷ rest) path next = both (s (inner path n) (before (inner path (suc n)))) (in_order (suc n) (u ∷ rest) path next)

  -- an action after its calls, with its checks
  abbrev pub action : Path → Site → Sites → Faults → (Site → Piece) → Piece
  action path source sites faults rest = let m = made t r path 0 source sites in both m.piece (both (judged m.here faults) (rest m.here))

  -- a condition with its two ways
  abbrev pub condition : Path → Site → Expr → Site → Site → Piece
  condition path source cond held failed =
      action path source (expr_calls cond) (expr_checks t cond) (λ here. both (way here (act.Test cond true) held) (way here (act.Test cond false) failed))

  abbrev pub line_act : Bool → Act → Act
  line_act true a = a
  line_act false a = act.Skip

  -- The parameters of a `read` from a point on, of which the first has the number n, and k calls were before.
  abbrev pub reads : Path → ℕ → ℕ → Site → Act → List Access → Site → Piece
  reads path n k source end [] next = way source end next
  reads path n k source end (a ∷ targets) next =
      let m = made t r path k source (access_calls a) in
      let past = site kind.AfterRead n path in
      both m.piece (both (judged m.here (read_checks t (access_type t a) a)) (both (way m.here (act.Read a) past) (both (point_of past (out-Access a).at) (reads path (suc n) m.number past end targets next))))

  abbrev pub place_of_written : WriteValue → ℕ
  place_of_written (written.Value e) = (out-Expr e).first
  place_of_written (written.Text bytes at) = at

  abbrev pub writes : Path → ℕ → ℕ → Site → Act → List WriteItem → Site → Piece
  writes path n k source end [] next = way source end next
  writes path n k source end (item ∷ items) next =
      let m = made t r path k source (item_calls item) in
      let past = site kind.AfterWrite n path in
      both m.piece (both (judged m.here (item_checks t item)) (both (way m.here (act.Write item) past) (both (point_of past (place_of_written item.value)) (writes path (suc n) m.number past end items next))))

  -- the arms of a `case`, of which the first is the n-th, from the point where the selector is evaluated
  abbrev pub arms_from : ℕ → Expr → Site → List (List ℤ × Placing) → Placing
  arms_from n selector source [] path next = nothing
  arms_from n selector source (arm ∷ arms) path next =
      both (way source (act.Arm selector arm.0) (before (inner path n))) (both (arm.1 (inner path n) next) (arms_from (suc n) selector source arms path next))

  -- a `case` without arms has one way, for no constant, so that an edge leaves its point
  abbrev pub no_arms : List (List ℤ × Placing) → Expr → Site → Site → Piece
  no_arms [] selector source next = way source (act.Arm selector []) next
  no_arms (arm ∷ arms) selector source next = nothing

  abbrev pub second_branch : Option Placing → Path → Site → Site
  second_branch None path next = next
  second_branch (Some s) path next = before (inner path 1)

  abbrev pub second_piece : Option Placing → Placing
  second_piece None path next = nothing
  second_piece (Some s) path next = s (inner path 1) next

  abbrev pub loop_piece : ℕ → ℕ → Expr → Bool → Expr → ℕ → Placing → Placing
  loop_piece control bound first down final at body path next =
      let inside = before (inner path 0) in
      let step = site kind.Step 0 path in
      both (action path (before path) (expr_calls first ++ expr_calls final) (bounds_checks t (var_type t control) first final) (λ here.
      both (way here (act.Enter control bound first down final) inside) (way here (act.Bypass control bound first down final) next)))
      (both (body (inner path 0) step)
      (both (point_of step at)
      (both (way step (act.Next control bound down) inside) (way step (act.Finish control bound down) next))))

  -- what follows the point before a statement, by the kind of the statement
  abbrev pub body_step : (ℕ → ℕ → Site) → Body-F (ℕ → Placing) (List ℤ × Placing) Placing → ℕ → Placing
  body_step label Body-F.Empty at path next = way (before path) act.Skip next
  body_step label (Body-F.Assign target value) at path next = action path (before path) (access_calls target ++ expr_calls value) (access_checks t target ++ assigned_checks t (access_type t target) value) (λ here. way here (act.Assign target value) next)
  body_step label (Body-F.Copy target source) at path next = action path (before path) (access_calls target ++ access_calls source) (access_checks t target ++ access_checks t source) (λ here. way here (act.Copy target source) next)
  body_step label (Body-F.Call routine actuals name) at path next =
      let c : CallSite = record { routine = routine; actuals = actuals; slot = None; at = name } in
      action path (before path) (actuals_calls actuals) (call_checks t c) (λ here. call_links c here next)
  body_step label (Body-F.Read targets line) at path next = reads path 0 0 (before path) (line_act line act.DropLine) targets next
  body_step label (Body-F.Write items line) at path next = writes path 0 0 (before path) (line_act line act.EndLine) items next
  body_step label (Body-F.Goto routine number) at path next = way (before path) (act.Goto routine) (label routine number)
  body_step label (Body-F.Begin body end) at path next = both (way (before path) act.Skip (before (inner path 0))) (in_order 0 body path next)
  body_step label (Body-F.If cond first second) at path next =
      both (condition path (before path) cond (before (inner path 0)) (second_branch second path next)) (both (first (inner path 0) next) (second_piece second path next))
  body_step label (Body-F.Case selector arms) at path next = action path (before path) (expr_calls selector) (selector_checks t selector) (λ here. both (no_arms arms selector here next) (arms_from 0 selector here arms path next))
  body_step label (Body-F.While cond body) at path next = both (condition path (before path) cond (before (inner path 0)) next) (body (inner path 0) (before path))
  body_step label (Body-F.Repeat body until cond) at path next =
      both (way (before path) act.Skip (before (inner path 0)))
      (both (in_order 0 body path (site kind.Until 0 path))
      (both (point_of (site kind.Until 0 path) until) (condition path (site kind.Until 0 path) cond next (before (inner path 0)))))
  body_step label (Body-F.For control bound first down final body) at path next = loop_piece control bound first down final at body path next

  -- a statement with the point before it, which has the statement's assertions
  abbrev pub statement_step : (ℕ → ℕ → Site) → Statement-F (ℕ → Placing) (List ℤ × Placing) Placing → Placing
  statement_step label s path next = both (asserted_point (before path) s.at s.asserts) (both (judged (before path) (assert_checks asserts s.asserts)) (s.body s.at path next))

  abbrev pub statement_piece : (ℕ → ℕ → Site) → Statement → Placing
  statement_piece label = fold-Statement (ℕ → Placing) (List ℤ × Placing) Placing (body_step label) (λ a. (a.consts, a.body)) (statement_step label)

  -- the statement part of a routine, with its `begin` and its `end`
  abbrev pub block_piece : (ℕ → ℕ → Site) → ℕ → Option ℕ → Body-F Body Arm Statement → Piece
  block_piece label begin result (Body-F.Begin body end) =
      both (point_of (entry_of r) begin)
      (both (way (entry_of r) act.Skip (before (inner [] 0)))
      (both (in_order 0 (map (statement_piece label) body) [] (exit_of r))
      (both (point_of (exit_of r) end) (judged (exit_of r) (result_checks result end)))))
  block_piece label begin result _ = nothing

-- all routines, of which the first has the number r
abbrev pub routines_piece : Tables → List Assert → (ℕ → ℕ → Site) → ℕ → List Routine → Piece
routines_piece t asserts label r [] = nothing
routines_piece t asserts label r (d ∷ routines) =
    both (block_piece t asserts r label (out-Statement d.body).at d.result (out-Body (out-Statement d.body).body)) (routines_piece t asserts label (suc r) routines)

-- ---- labels: each names the statement that has it, by its path in the routine's body (ISO 7185, 6.8.1)

abbrev pub Labels : Type 0
Labels = List (ℕ × Path)

abbrev pub own_label : Option ℕ → Path → Labels
own_label None path = []
own_label (Some n) path = (n, path) ∷ []

abbrev pub labels_in : ℕ → List (Path → Labels) → Path → Labels
labels_in n [] path = []
labels_in n (s ∷ rest) path = s (path ++ n ∷ []) ++ labels_in (suc n) rest path

abbrev pub second_labels : Option (Path → Labels) → List (Path → Labels)
second_labels None = []
second_labels (Some s) = s ∷ []

abbrev pub body_labels : Body-F (Path → Labels) (Path → Labels) (Path → Labels) → Path → Labels
body_labels (Body-F.Begin body end) = labels_in 0 body
body_labels (Body-F.If cond first second) = labels_in 0 (first ∷ second_labels second)
body_labels (Body-F.Case selector arms) = labels_in 0 arms
body_labels (Body-F.While cond body) = labels_in 0 (body ∷ [])
body_labels (Body-F.Repeat body until cond) = labels_in 0 body
body_labels (Body-F.For control bound first down final body) = labels_in 0 (body ∷ [])
body_labels _ = λ path. []

abbrev pub statement_labels : Statement → Path → Labels
statement_labels = fold-Statement (Path → Labels) (Path → Labels) (Path → Labels) body_labels (λ a. a.body) (λ s path. own_label s.label path ++ s.body path)

-- the routine's body has the empty path, so that the paths of its statements have one number
abbrev pub labels_of_body : Option Routine → Labels
labels_of_body None = []
labels_of_body (Some d) = statement_labels d.body []

abbrev pub routine_labels : List Routine → ℕ → Labels
routine_labels routines r = labels_of_body (slice_get routines r)

-- the path with the label
abbrev pub path_of : Labels → ℕ → Path
path_of [] n = []
path_of (label ∷ labels) n = if nat_eq label.0 n then label.1 else path_of labels n

abbrev pub label_site : List Routine → ℕ → ℕ → Site
label_site routines r n = record { routine = r; path = path_of (routine_labels routines r) n; kind = kind.Before; number = 0 }

-- ---- numbers: a point's is its place among all points in their order, and a call's is that of its edge

abbrev pub program_piece : Program → Piece
program_piece p = routines_piece (tables p) p.asserts (label_site p.routines) 0 p.routines

abbrev pub same_kind : PointKind → PointKind → Bool
same_kind kind.Entry kind.Entry = true
same_kind kind.Before kind.Before = true
same_kind kind.AfterCall kind.AfterCall = true
same_kind kind.AfterRead kind.AfterRead = true
same_kind kind.AfterWrite kind.AfterWrite = true
same_kind kind.Until kind.Until = true
same_kind kind.Step kind.Step = true
same_kind kind.Exit kind.Exit = true
same_kind _ _ = false

abbrev pub same_path : Path → Path → Bool
same_path [] [] = true
same_path (m ∷ path) (n ∷ other) = nat_eq m n && same_path path other
same_path _ _ = false

abbrev pub same_site : Site → Site → Bool
same_site s t = (nat_eq s.routine t.routine && same_path s.path t.path) && (same_kind s.kind t.kind && nat_eq s.number t.number)

abbrev pub point_number : List Placed → Site → ℕ
point_number points s = unwrap_or (position (λ (p : Placed). same_site p.site s) points) 0

abbrev pub is_call : Deed → Bool
is_call (calls c) = true
is_call _ = false

abbrev pub is_call_from : Site → Link → Bool
is_call_from s l = is_call l.deed && same_site l.source s

abbrev pub act_of : List Link → Deed → Act
act_of links (does action) = action
act_of links (calls c) = act.Call c.routine c.actuals c.slot c.at
act_of links (returns s) = act.Return (unwrap_or (position (is_call_from s) links) 0)

abbrev pub point_at : Placed → Point
point_at p = record { routine = p.site.routine; kind = p.site.kind; at = p.at }

abbrev pub edge_at : Piece → Link → Edge
edge_at piece l = record { from = point_number piece.points l.source; act = act_of piece.links l.deed; to = point_number piece.points l.target }

abbrev pub check_at : Piece → Judged → Check
check_at piece j = record { kind = j.fault.kind; at = j.fault.at; point = point_number piece.points j.site }

-- these are the points, the assertions of each of them, the edges and the checks of the program, in this order
pub record IsFlowOf (p : Program) (points : List Point) (asserts : List (List ℕ)) (edges : List Edge) (checks : List Check) : Type 0 where
  pub points_are : points ≡ map point_at (program_piece p).points
  pub asserts_are : asserts ≡ map (λ (x : Placed). x.asserts) (program_piece p).points
  pub edges_are : edges ≡ map (edge_at (program_piece p)) (program_piece p).links
  pub checks_are : checks ≡ map (check_at (program_piece p)) (program_piece p).checks
