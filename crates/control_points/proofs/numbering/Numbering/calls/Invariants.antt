use Rattle.std.proofs.Common.{◌≡◌, ◌++◌, drop}
use Rattle.control_points.specs.Called.{sites_of}
use Rattle.control_points.specs.Marks.{call_marks}
use Rattle.control_points.proofs.numbering.Numbering.calls.Given as goal

abbrev pub invariant-loop-site : goal.invariant-loop-site
invariant-loop-site l = record {
  marks : l.self.marks ++ call_marks l.routine (sites_of (drop l.site-index l.sites)) ≡ l.initial.self.marks ++ call_marks l.routine (sites_of l.sites);
  sizes : l.self.sizes ≡ l.initial.self.sizes;
  entries : l.self.entries ≡ l.initial.self.entries;
}
