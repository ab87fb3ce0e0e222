use Rattle.std.proofs.Common.{refl}
use Rattle.std.proofs.lemmas.Bool.{OnFalse_at, OnFalse_from}
use Rattle.std.proofs.lemmas.List.{map-set}
use Rattle.fixpoint.proofs.Tables.{value_at, value_read, value_written, unchanged}
use Rattle.fixpoint.proofs.ascent.widen.Goals as goal

pub returns-clause-value : goal.returns-clause-value
returns-clause-value g c =
    let o = g.L.Lattice.ops in
    let x = value_at o g.L.Lattice.value c.args.table.now c.args.node c.index-table-node.result c.requires.node in
    let l = value_read o g.L.Lattice.value c.args.limits.now c.args.node c.index-limits-node.result c.requires.limit c.index-limits-node.is in
    rw (map-set, c.widen_from.ensures.value, x, l) refl

pub returns-clause-changed : goal.returns-clause-changed
returns-clause-changed g c =
    let o = g.L.Lattice.ops in
    let x = value_at o g.L.Lattice.value c.args.table.now c.args.node c.index-table-node.result c.requires.node in
    let y = value_written o g.L.Lattice.value c.args.table.now c.args.node c.widen_from.new.self c.requires.node in
    rw (y, ← x) c.widen_from.ensures.changed

pub returns-clause-same : goal.returns-clause-same
returns-clause-same g c =
    OnFalse_from c.widen_from.result _ (λ same. unchanged g.L.Lattice.value c.args.table.now c.args.node c.index-table-node.result c.widen_from.new.self
    c.requires.node (OnFalse_at same c.widen_from.ensures.same))
