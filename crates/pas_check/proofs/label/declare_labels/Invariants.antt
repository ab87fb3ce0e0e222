use Rattle.std.proofs.Common.{◌≡◌, ℕ, drop, nat_eq}
use Rattle.indexmap.specs.IndexMap.{get, keys}
use Rattle.pas_check.specs.Labels.{declaration_of, labels_declared}
use Rattle.pas_check.proofs.label.declare_labels.Given as goal

abbrev pub invariant-loop-label : goal.invariant-loop-label
invariant-loop-label l = record {
  value : labels_declared (keys l.fn.labels) l.label_part ≡ labels_declared (keys l.labels) (drop l.label-index l.label_part);
  added : (n : ℕ) → declaration_of n l.label_part (get nat_eq l.fn.labels n) ≡ declaration_of n (drop l.label-index l.label_part) (get nat_eq l.labels n);
}
