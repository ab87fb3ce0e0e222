use Rattle.std.proofs.Common.{◌≡◌, map}
use Rattle.fixpoint.proofs.Passes.{IsPassing}
use Rattle.fixpoint.proofs.descent.pass.Given as goal

abbrev pub invariant-loop-place : goal.invariant-loop-place
invariant-loop-place g l = record {
  passing : IsPassing g.L.Lattice.ops (g.Q.Equations.system l.fn.eqs) l.order (map g.L.Lattice.value l.limits) (map g.L.Lattice.value l.fn.table)
      l.fn.stale l.fn.count l.place l.changed (map g.L.Lattice.value l.table) l.marks.stale.now l.evaluator.count.now;
  room : g.L.Lattice.room l.evaluator.scratch.now ≡ g.L.Lattice.room l.fn.scratch;
  same : g.Q.Equations.system l.evaluator.eqs.now ≡ g.Q.Equations.system l.fn.eqs;
  kept : g.Q.Equations.kept l.evaluator.eqs.now ≡ g.Q.Equations.kept l.fn.eqs;
  read_by : l.marks.read_by ≡ l.initial.marks.read_by;
  eqs_name : l.evaluator.eqs.ghost_name ≡ l.initial.evaluator.eqs.ghost_name;
  scratch_name : l.evaluator.scratch.ghost_name ≡ l.initial.evaluator.scratch.ghost_name;
  count_name : l.evaluator.count.ghost_name ≡ l.initial.evaluator.count.ghost_name;
  stale_name : l.marks.stale.ghost_name ≡ l.initial.marks.stale.ghost_name;
}
