use Rattle.std.proofs.Common.{refl, sym, ◌∙◌, subst}
use Rattle.std.specs.Prelude.{IsTrue}
use Rattle.std.proofs.lemmas.Bool.{both_ways}
use Rattle.std.proofs.lemmas.List.{map-set}
use Rattle.fixpoint.proofs.Tables.{value_at, value_written}
use Rattle.fixpoint.proofs.descent.lower.Goals as goal

pub returns-clause-value : goal.returns-clause-value
returns-clause-value g c =
    let x = value_at g.L.Lattice.ops g.L.Lattice.value c.args.table.now c.args.node c.index-table-node.result c.requires.node in
    rw (map-set, c.meet_from.ensures.value, x) refl

pub returns-clause-changed : goal.returns-clause-changed
returns-clause-changed g c same =
    let o = g.L.Lattice.ops in
    let x = value_at o g.L.Lattice.value c.args.table.now c.args.node c.index-table-node.result c.requires.node in
    let y = value_written o g.L.Lattice.value c.args.table.now c.args.node c.meet_from.new.self c.requires.node in
    let equal = sym c.meet_from.ensures.value ∙ sym y ∙ same ∙ sym x in
    let lower = g.met.L.Lattice.laws.meet_below_right _ _ (rw (← x) at c.requires.shape) in
    both_ways _ c.if-leq.false (c.leq.ensures ∙ subst (λ v. IsTrue (o.below v (g.L.Lattice.value c.args.scratch.now))) equal lower)
