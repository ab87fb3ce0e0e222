use Rattle.std.proofs.Common.{true}
use Rattle.pas_check.specs.Placing.{sequence_marks}
use Rattle.pas_check.proofs.Labels.{none_noted}
use Rattle.pas_check.proofs.label.place_labels.Goals as goal

pub returns-then-is_empty : goal.returns-then-is_empty
returns-then-is_empty c = record { noted = none_noted c.args.labels.now (sequence_marks c.args.body.now true) (c.is_empty.ensures.0 c.if-is_empty.true) }
