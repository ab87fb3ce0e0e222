use Rattle.std.proofs.Common.{◌≡◌, map}
use Rattle.fixpoint.proofs.Walks.{IsWalking, visits_left}
use Rattle.fixpoint.proofs.ascent.ascend.Given as goal

abbrev pub invariant-walk : goal.invariant-walk
invariant-walk g l = record {
  walking : IsWalking g.L.Lattice.ops (g.Q.Equations.system l.fn.eqs) l.order (map g.L.Lattice.value l.limits) l.steps l.fn.count
      l.place l.inside (map g.L.Lattice.value l.table) l.marks.stale.now l.evaluator.count.now;
  room : g.L.Lattice.room l.evaluator.scratch.now ≡ g.L.Lattice.room l.fn.scratch;
  same : g.Q.Equations.system l.evaluator.eqs.now ≡ g.Q.Equations.system l.fn.eqs;
  kept : g.Q.Equations.kept l.evaluator.eqs.now ≡ g.Q.Equations.kept l.fn.eqs;
  read_by : l.marks.read_by ≡ l.initial.marks.read_by;
  eqs_name : l.evaluator.eqs.ghost_name ≡ l.initial.evaluator.eqs.ghost_name;
  scratch_name : l.evaluator.scratch.ghost_name ≡ l.initial.evaluator.scratch.ghost_name;
  count_name : l.evaluator.count.ghost_name ≡ l.initial.evaluator.count.ghost_name;
  stale_name : l.marks.stale.ghost_name ≡ l.initial.marks.stale.ghost_name;
}

abbrev pub decreases-walk : goal.decreases-walk
decreases-walk g l =
    visits_left g.L.Lattice.ops l.order (map g.L.Lattice.value l.limits) l.steps (g.Q.Equations.system l.fn.eqs).nodes l.place l.inside (map g.L.Lattice.value l.table)
