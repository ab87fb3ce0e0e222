use Rattle.std.proofs.Common.{◌∙◌, ap, sym}
use Rattle.alias_class.specs.Tables.{Table}
use Rattle.environment.specs.Environments.{Environment}
use Rattle.activations.specs.Fitting.{class_number, point_number}
use Rattle.abstract_expr.specs.Verdicts.{holds_at, marks_with}
use Rattle.report.proofs.TableRows.{class_is, point_is, row_of}
use Rattle.report.proofs.verdicts.mark_at.Goals as goal

pub returns-clause-marks : goal.returns-clause-marks
returns-clause-marks c =
    let flow = c.args.nodes.now.flow.now in
    let graph = c.args.nodes.now.graph.now in
    let row = row_of graph c.args.plain.now c.args.node c.index-plain-node.result c.requires.fits c.requires.node c.index-plain-node.is in
    let marks = c.args.marks.now in
    let class = class_is graph c.args.node c.class_of.result c.class_of.ensures in
    let point = point_is graph c.args.node c.point_of.result c.point_of.ensures in
    c.mark_open.ensures.marks
    ∙ ap (λ (t : Table). marks_with marks (holds_at flow t c.class_of.result c.point_of.result c.copy_from.new.self.env)) c.classes.ensures
    ∙ ap (λ n. marks_with marks (holds_at flow graph.table n c.point_of.result c.copy_from.new.self.env)) (sym class)
    ∙ ap (λ p. marks_with marks (holds_at flow graph.table (class_number graph c.args.node) p c.copy_from.new.self.env)) (sym point)
    ∙ ap (λ (e : Environment). marks_with marks (holds_at flow graph.table (class_number graph c.args.node) (point_number graph c.args.node) e)) (c.copy_from.ensures.value ∙ sym row)
