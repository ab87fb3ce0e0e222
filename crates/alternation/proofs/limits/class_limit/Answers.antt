use Rattle.std.proofs.Common.{◌≡◌, ◌<◌, ℕ, sym, ap, subst, true, ◌∙◌, arith}
use Rattle.interval.specs.declared.itv.Itv.{Itv}
use Rattle.environment.specs.Environments.{Environment, after_set, cell_count, is_reachable, started}
use Rattle.environment.specs.Environments.Environment.{Reachable}
use Rattle.alias_class.specs.Cells.{range_of_cell}
use Rattle.alias_class.specs.Tables.{Table}
use Rattle.abstract_expr.specs.Standing.{cells_in, class_in}
use Rattle.alternation.proofs.Filling.{limited_all, limited_count, limited_more, limited_none, limited_to}
use Rattle.alternation.proofs.limits.class_limit.Goals as goal

pub loop-cell-init : goal.loop-cell-init
loop-cell-init c =
    c.start.ensures.value ∙ ap (λ (e : Environment). started (cell_count e)) c.in_ok-limit.ensures.value
    ∙ ap Reachable (limited_none c.args.graph.now.table c.args.class c.cells-cells.result)

pub set-requires-clause-reachable : goal.set-requires-clause-reachable
set-requires-clause-reachable c = ap is_reachable c.loop-cell.invariant

pub set-requires-clause-in_range : goal.set-requires-clause-in_range
set-requires-clause-in_range c =
    let t = c.args.graph.now.table in
    let long = limited_count t c.args.class c.cells-cells.result c.loop-cell.cell (omega (arith, c.loop-cell-test.true)) in
    subst (λ (n : ℕ). c.loop-cell.cell < n) (sym (ap cell_count c.loop-cell.invariant ∙ long)) c.loop-cell-test.true

pub loop-cell-preserved : goal.loop-cell-preserved
loop-cell-preserved c =
    let t = c.args.graph.now.table in
    let cell = c.loop-cell.cell in
    let range : c.range-itv.result ≡ range_of_cell t.outline (class_in t c.args.class) cell
    = c.range-itv.ensures ∙ ap (λ (u : Table). range_of_cell u.outline (class_in u c.args.class) cell) c.classes-classes.ensures in
    c.set.ensures.value ∙ ap (λ (e : Environment). after_set e cell (record { undef = true; itv = c.range-itv.result })) c.loop-cell.invariant
    ∙ ap (λ (i : Itv). after_set (Reachable (limited_to t c.args.class c.cells-cells.result cell)) cell (record { undef = true; itv = i })) range
    ∙ ap Reachable (limited_more t c.args.class c.cells-cells.result cell c.loop-cell-test.true)

pub returns : goal.returns
returns c =
    let t = c.args.graph.now.table in
    let cells : c.cells-cells.result ≡ cells_in t c.args.class
    = c.cells-cells.ensures ∙ ap (λ (u : Table). cells_in u c.args.class) c.classes-classes.ensures in
    c.loop-cell.invariant ∙ limited_all t c.args.class c.cells-cells.result c.loop-cell.cell c.loop-cell-test.false c.loop-cell.auto.cell-end cells
