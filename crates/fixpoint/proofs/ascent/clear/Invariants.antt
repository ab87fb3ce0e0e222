use Rattle.std.proofs.Common.{◌≡◌, ◌++◌, map, take, drop}
use Rattle.fixpoint.specs.Ascent.{bottoms}
use Rattle.fixpoint.proofs.ascent.clear.Given as goal

abbrev pub invariant-loop-element : goal.invariant-loop-element
invariant-loop-element g l = map g.L.Lattice.value l.table
    ≡ bottoms g.L.Lattice.ops (take l.element-index (map g.L.Lattice.value l.fn.table)) ++ drop l.element-index (map g.L.Lattice.value l.fn.table)
