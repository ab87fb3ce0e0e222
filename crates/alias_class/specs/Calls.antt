-- What a call does from a class: the class that it enters, and which cells of the two stand for the same variables.
use Rattle.std.specs.Prelude.{◌≡◌, ℕ, ◌+◌, List, [], ◌∷◌, map, filter_map, nat_eq, nat_lt, Option, Some, None, slice_get, unwrap_or, option_and_then, if◌then◌else◌}
use Rattle.std.specs.List.{list_any, position_or_len, range_with_len}
use Rattle.pas_program.specs.declared.expr.Access.{Access}
use Rattle.pas_program.specs.declared.expr.Actual.{Actual}
use Rattle.pas_program.specs.declared.expr.Actual.TheOpen.{Actual-F}
use Rattle.pas_program.specs.declared.expr.Actual.TheViews.{out-Actual}
use Rattle.pas_program.specs.declared.expr.Expr.{Expr}
use Rattle.pas_program.specs.declared.expr.ExprForm.{ExprForm}
use Rattle.control_points.specs.declared.edge.Act.{Act}
use Rattle.control_points.specs.declared.edge.Act.TheVariants as act
use Rattle.control_points.specs.declared.edge.Edge.{Edge}
use Rattle.control_points.specs.declared.point.Point.{Point}
use Rattle.control_points.specs.Fits.{act_at, callee_of, routine_at}
use Rattle.alias_class.specs.declared.bind.Bind.{Bind}
use Rattle.alias_class.specs.declared.bind.Link.{Link}
use Rattle.alias_class.specs.declared.outline.Outline.{Outline}
use Rattle.alias_class.specs.Cells.{foreign_cells, own_count, cell_count, around, resolve_access}
use Rattle.alias_class.specs.Classes.{Class}
use Rattle.alias_class.specs.Outlines.{parent_of}

-- ---- actuals

abbrev pub var_actual : Actual-F Actual ExprForm Access Expr → Option Access
var_actual (Actual-F.Var access) = Some access
var_actual _ = None

-- the actuals of variable parameters, in order
abbrev pub var_actuals : List Actual → List Access
var_actuals actuals = filter_map (λ a. var_actual (out-Actual a)) actuals

-- ---- cells of both

-- how the cells of a callee come from those of its caller
pub record Sharing : Type 0 where
  -- how many are cells of the callee's static parent's class, which has them in common with the caller
  pub inherited : ℕ
  -- the callee's first foreign cell
  pub first_foreign : ℕ
  -- the caller's cells that are its foreign ones, in their order
  pub foreign : List ℕ

-- the cell of the callee for a cell of the caller that it has
abbrev pub shared_cell : Sharing → ℕ → ℕ
shared_cell s c = if nat_lt c s.inherited then c else s.first_foreign + position_or_len (λ d. nat_eq c d) s.foreign

abbrev pub shared_bind : Sharing → Bind → Bind
shared_bind s b = record b { cell = shared_cell s b.cell }

-- the link of a cell of the caller; without one it is hidden from the callee
abbrev pub link_of : Sharing → ℕ → Option Link
link_of s c =
    if nat_lt c s.inherited then Some (record { caller = c; callee = c })
    else if list_any (λ d. nat_eq c d) s.foreign then Some (record { caller = c; callee = shared_cell s c })
    else None

module _ (o : Outline) where
  -- ---- the callee of a class: a routine that the class calls with these actuals

  -- the class of its static parent, which is the class or around it
  abbrev pub parent_in : Class → ℕ → Class
  parent_in c r = unwrap_or (option_and_then (around o c) (parent_of o r)) []

  -- what its variable parameters stand for in the class that calls
  abbrev pub named : Class → List Actual → List Bind
  named c actuals = map (resolve_access o c) (var_actuals actuals)

  abbrev pub sharing : Class → ℕ → List Actual → Sharing
  sharing c r actuals =
      let inherited = cell_count o (parent_in c r) in
      record { inherited = inherited; first_foreign = inherited + own_count o r; foreign = foreign_cells inherited (named c actuals) }

  -- by the call of the edge k
  abbrev pub entered : Class → ℕ → ℕ → List Actual → Class
  entered c k r actuals = (record { routine = r; site = k; bindings = map (shared_bind (sharing c r actuals)) (named c actuals) }) ∷ parent_in c r

  -- in rising order of the caller's cells
  abbrev pub links : Class → ℕ → List Actual → List Link
  links c r actuals = filter_map (link_of (sharing c r actuals)) (range_with_len 0 (cell_count o c))

  -- ---- the same of the edge of a call

  abbrev pub callee_by : Class → ℕ → Option Act → Class
  callee_by c k (Some (act.Call r actuals slot at)) = entered c k r actuals
  callee_by c k _ = []

  abbrev pub callee : List Edge → Class → ℕ → Class
  callee edges c k = callee_by c k (act_at edges k)

  abbrev pub links_by : Class → Option Act → List Link
  links_by c (Some (act.Call r actuals slot at)) = links c r actuals
  links_by c _ = []

  abbrev pub links_at : List Edge → Class → ℕ → List Link
  links_at edges c k = links_by c (act_at edges k)

-- the edge k is a call that stands in the routine r
pub record IsSite (points : List Point) (edges : List Edge) (r k : ℕ) : Type 0 where
  pub edge : Edge
  pub called : ℕ
  pub known : slice_get edges k ≡ Some edge
  pub is_call : callee_of edge.act ≡ Some called
  pub stands : routine_at points edge.from ≡ Some r
