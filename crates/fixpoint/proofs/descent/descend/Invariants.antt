use Rattle.std.proofs.Common.{◌≡◌, ◌+◌, ◌*◌, ◌≤◌, length, map}
use Rattle.weak_order.specs.Order.{Elements}
use Rattle.fixpoint.specs.Marks.{marked}
use Rattle.fixpoint.specs.Passing.{slack, IsUpToDate}
use Rattle.fixpoint.specs.System.{IsLayoutOf, IsTable}
use Rattle.fixpoint.proofs.Passes.{IsRest}
use Rattle.fixpoint.proofs.descent.descend.Given as goal

abbrev pub invariant-passes : goal.invariant-passes
invariant-passes g l = record {
  fits : IsTable g.L.Lattice.ops (g.Q.Equations.system l.fn.eqs) (map g.L.Lattice.value l.table);
  all : length l.stale ≡ (g.Q.Equations.system l.fn.eqs).nodes;
  up_to_date : IsUpToDate g.L.Lattice.ops (g.Q.Equations.system l.fn.eqs) l.order (map g.L.Lattice.value l.limits) l.stale (map g.L.Lattice.value l.table);
  rest : (elements : Elements) → IsLayoutOf elements l.order
      → IsRest g.L.Lattice.ops (g.Q.Equations.system l.fn.eqs) (map g.L.Lattice.value l.limits) elements (map g.L.Lattice.value l.fn.table)
      (l.fn.count + (g.Q.Equations.system l.fn.eqs).nodes) (map g.L.Lattice.value l.table) (l.count + marked l.stale);
  cost : l.count + (g.Q.Equations.system l.fn.eqs).nodes
      * slack g.L.Lattice.ops l.order (map g.L.Lattice.value l.limits) (map g.L.Lattice.value l.table) (g.Q.Equations.system l.fn.eqs).nodes
      ≤ l.fn.count + (g.Q.Equations.system l.fn.eqs).nodes
      * slack g.L.Lattice.ops l.order (map g.L.Lattice.value l.limits) (map g.L.Lattice.value l.fn.table) (g.Q.Equations.system l.fn.eqs).nodes;
  room : g.L.Lattice.room l.scratch ≡ g.L.Lattice.room l.fn.scratch;
  same : g.Q.Equations.system l.eqs ≡ g.Q.Equations.system l.fn.eqs;
  kept : g.Q.Equations.kept l.eqs ≡ g.Q.Equations.kept l.fn.eqs;
}

-- each pass but the last lets a head shrink
abbrev pub decreases-passes : goal.decreases-passes
decreases-passes g l = slack g.L.Lattice.ops l.order (map g.L.Lattice.value l.limits) (map g.L.Lattice.value l.table) (g.Q.Equations.system l.fn.eqs).nodes
