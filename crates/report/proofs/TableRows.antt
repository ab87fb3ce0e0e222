-- What a table has for a node, and where the node's class stands.
use Rattle.std.proofs.Common.{◌≡◌, ℕ, ◌<◌, List, get_or, map, true, sym, ap, subst, ◌∙◌, Some, unwrap_or}
use Rattle.std.proofs.lemmas.List.{get_or-map, length-map}
use Rattle.std.proofs.lemmas.Option.{slice_get-map}
use Rattle.std.specs.List.{slice_get}
use Rattle.std.specs.Prelude.{length}
use Rattle.environment.specs.Environments.{cell_count, env_ops, Environment, value_at}
use Rattle.environment.specs.Environments.Environment.{Unreachable}
use Rattle.environment.specs.Kept.{Roomy}
use Rattle.pas_program.specs.Checked.{tables}
use Rattle.pas_program.specs.Tables.{is_visible}
use Rattle.control_points.specs.declared.flow.Flow.{Flow}
use Rattle.alias_class.specs.declared.outline.Outline.{Outline}
use Rattle.alias_class.specs.Cells.{IsClass, is_seen, routine_of}
use Rattle.alias_class.specs.Classes.{Class, class_at}
use Rattle.alias_class.specs.Outlines.{outline_of}
use Rattle.alias_class.specs.Tables as alias
use Rattle.activations.specs.declared.node.Node.{Node}
use Rattle.activations.specs.Drawn.{Drawn}
use Rattle.activations.specs.Fitting.{ArcsFit, class_number, point_number}
use Rattle.abstract_expr.specs.Standing.{binds, cells_in}
use Rattle.abstract_expr.specs.Verdicts.{StandsAt}
use Rattle.fixpoint.specs.System.{element}
use Rattle.transfer_fwd.specs.Systems.{FitsGraph, environments}
use Rattle.report.specs.Nodes.{SeesVariable, held}

pub row_at : (rows : List Roomy) (node : ℕ) (row : Roomy) → node < length rows → row ≡ get_or rows node row → element env_ops (environments rows) node ≡ row.env
row_at rows node row inside is =
    get_or-map (λ (r : Roomy). r.env) rows node row (Unreachable 0) inside ∙ sym (ap (λ (r : Roomy). r.env) is)

pub class_is : (g : Drawn) (node class : ℕ) → slice_get (map (λ (n : Node). n.class) g.nodes) node ≡ Some class → class_number g node ≡ class
class_is g node class is =
    ap (λ o. unwrap_or o 0) (sym (slice_get-map (λ (n : Node). n.class) g.nodes node) ∙ is)

pub point_is : (g : Drawn) (node point : ℕ) → slice_get (map (λ (n : Node). n.point) g.nodes) node ≡ Some point → point_number g node ≡ point
point_is g node point is =
    ap (λ o. unwrap_or o 0) (sym (slice_get-map (λ (n : Node). n.point) g.nodes node) ∙ is)

-- a node of this class stands in its routine
pub stands : (f : Flow) (g : Drawn) (t : alias.Table) (node class : ℕ) → g.table.outline ≡ outline_of f → ArcsFit f g → node < length g.nodes → t ≡ g.table → slice_get (map (λ (n : Node). n.class) g.nodes) node ≡ Some class → StandsAt f t class (point_number g node)
stands f g t node class outline fits inside table is =
    let P : alias.Table → Type 0 = λ u. StandsAt f u class (point_number g node) in
    let Q : ℕ → Type 0 = λ n. StandsAt f g.table n (point_number g node) in
    let at = fits.nodes node inside in
    subst P (sym table) (subst Q (class_is g node class is) (record { outline = outline; in_range = at.class; routine = at.stands }))

-- a variable in scope at a point is seen by each class that stands there
pub seen : (f : Flow) (t : alias.Table) (class point var : ℕ) → ((c : Class) (v : ℕ) → IsClass (outline_of f) c → is_visible (tables f.program) (routine_of (outline_of f) c) v ≡ true → is_seen (outline_of f) c v ≡ true)
    → StandsAt f t class point → IsClass t.outline (class_at t.classes class) → SeesVariable f point var → is_seen t.outline (class_at t.classes class) var ≡ true
seen f t class point var law at is sees =
    let c = class_at t.classes class in
    let P : Outline → Type 0 = λ o. IsClass o c in
    let Q : Outline → Type 0 = λ o. is_seen o c var ≡ true in
    subst Q (sym at.outline) (law c var (subst P at.outline is) (sees (routine_of (outline_of f) c) (at.routine ∙ ap (λ (o : Outline). Some (routine_of o c)) at.outline)))

-- there are as many rows as nodes
pub rows_long : (g : Drawn) (rows : List Roomy) → FitsGraph g (environments rows) → length rows ≡ length g.nodes
rows_long g rows fits = sym (length-map rows (λ (r : Roomy). r.env)) ∙ fits.size

-- the row of a node
pub row_of : (g : Drawn) (rows : List Roomy) (node : ℕ) (row : Roomy) → FitsGraph g (environments rows) → node < length g.nodes → row ≡ get_or rows node row → element env_ops (environments rows) node ≡ row.env
row_of g rows node row fits inside is = row_at rows node row (rw (rows_long g rows fits) inside) is

-- its environment has the cells of the node's class
pub cells_at : (g : Drawn) (t : alias.Table) (rows : List Roomy) (node class : ℕ) (row : Roomy) → FitsGraph g (environments rows) → node < length g.nodes → row ≡ get_or rows node row
    → t ≡ g.table → slice_get (map (λ (n : Node). n.class) g.nodes) node ≡ Some class → cell_count row.env ≡ cells_in t class
cells_at g t rows node class row fits inside is table of_class =
    sym (ap cell_count (row_of g rows node row fits inside is)) ∙ fits.cells node inside ∙ ap (cells_in g.table) (class_is g node class of_class) ∙ ap (λ (u : alias.Table). cells_in u class) (sym table)

-- what it has for a variable
pub held_at : (g : Drawn) (t : alias.Table) (rows : List Roomy) (node class var : ℕ) (row : Roomy) → FitsGraph g (environments rows) → node < length g.nodes → row ≡ get_or rows node row
    → t ≡ g.table → slice_get (map (λ (n : Node). n.class) g.nodes) node ≡ Some class → value_at row.env (binds t class var).cell ≡ held g (environments rows) var node
held_at g t rows node class var row fits inside is table of_class =
    let env = element env_ops (environments rows) node in
    ap (λ (e : Environment). value_at e (binds t class var).cell) (sym (row_of g rows node row fits inside is))
    ∙ ap (λ (u : alias.Table). value_at env (binds u class var).cell) table
    ∙ ap (λ n. value_at env (binds g.table n var).cell) (sym (class_is g node class of_class))
