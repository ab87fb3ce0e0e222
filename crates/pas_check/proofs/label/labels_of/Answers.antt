use Rattle.std.proofs.Common.{List, rules, subst, true}
use Rattle.pas_tree.specs.declared.statement.Statement.{Statement}
use Rattle.pas_check.specs.Labels.{Kept}
use Rattle.pas_check.specs.Placing.{Notes, labels_read, sequence_marks}
use Rattle.pas_check.proofs.Labels.{labels_are, part_fails}
use Rattle.pas_check.proofs.Passing.{gives_wrong}
use Rattle.pas_check.proofs.label.labels_of.Goals as goal

pub returns-in_err-declare_labels : goal.returns-in_err-declare_labels
returns-in_err-declare_labels c = record {
  value = gives_wrong {B = Kept} _ (labels_read c.args.block.now) c.from_residual.result c.in_err-declare_labels.field-0.0 (search rules) (λ own.
      part_fails c.args.block.now c.as_slice.result.now c.as_slice.ensures c.new-labels.result c.new-labels.ensures.empty c.in_err-declare_labels.field-0.0 (c.in_err-declare_labels.ensures.value own));
}

pub returns : goal.returns
returns c =
    let notes : Notes c.declare_labels.new.labels (sequence_marks c.as_slice-2.result.now true) c.place_labels.new.labels = search rules in record {
      value = labels_are c.args.block.now c.as_slice.result.now c.as_slice.ensures c.new-labels.result c.new-labels.ensures.empty c.declare_labels.new.labels c.place_labels.new.labels c.in_ok-declare_labels.ensures.value c.in_ok-declare_labels.ensures.added
          (subst (λ (body : List Statement). Notes c.declare_labels.new.labels (sequence_marks body true) c.place_labels.new.labels) c.as_slice-2.ensures notes);
    }
