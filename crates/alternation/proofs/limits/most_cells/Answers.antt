use Rattle.std.proofs.Common.{◌≡◌, length, ap, ◌∙◌, arith}
use Rattle.alias_class.specs.Tables.{Table}
use Rattle.abstract_expr.specs.Standing.{cells_in}
use Rattle.alternation.proofs.Filling.{most_more}
use Rattle.alternation.proofs.limits.most_cells.Goals as goal

pub loop-class-preserved : goal.loop-class-preserved
loop-class-preserved c =
    most_more (cells_in c.args.graph.now.table) c.loop-class.class c.loop-class.most c.max-most.result c.cells.result
    (c.cells.ensures ∙ ap (λ (t : Table). cells_in t c.loop-class.class) c.classes-classes.ensures) c.max-most.ensures c.loop-class.invariant

pub returns : goal.returns
returns c = λ class below.
    let count : c.count-class-end.result ≡ length c.args.graph.now.table.classes
    = c.count-class-end.ensures.value ∙ ap (λ (t : Table). length t.classes) c.classes-classes.ensures in
    c.loop-class.invariant class (omega (arith, below, count, c.loop-class-test.false))
