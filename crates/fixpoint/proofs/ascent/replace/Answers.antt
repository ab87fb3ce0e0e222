use Rattle.std.proofs.Common.{sym, ap, ◌∙◌, inl, inr, map}
use Rattle.std.specs.Prelude.{slice_set}
use Rattle.std.proofs.lemmas.List.{map-set}
use Rattle.fixpoint.proofs.Sameness.{differs}
use Rattle.fixpoint.proofs.Tables.{value_at, value_written}
use Rattle.fixpoint.proofs.ascent.replace.Goals as goal
use Rattle.fixpoint.proofs.ascent.replace.Goals.{else-leq-via-then-leq+else-leq-2, else-leq-via-else-leq}

pub returns-clause-value : goal.returns-clause-value
returns-clause-value g c =
    map-set g.L.Lattice.value c.args.table.now c.args.node c.copy_from.new.self
    ∙ ap (λ v. slice_set (map g.L.Lattice.value c.args.table.now) c.args.node v) c.copy_from.ensures.value

pub returns-clause-changed : goal.returns-clause-changed
returns-clause-changed g c same =
    let o = g.L.Lattice.ops in
    let x = value_at o g.L.Lattice.value c.args.table.now c.args.node c.index-table-node.result c.requires.node in
    let y = value_written o g.L.Lattice.value c.args.table.now c.args.node c.copy_from.new.self c.requires.node in
    let equal = sym c.copy_from.ensures.value ∙ sym y ∙ same ∙ sym x in
    differs o g.met.L.Lattice.laws _ _ (elim c.else-leq.branch [
      | else-leq-via-then-leq+else-leq-2 w ↦ inr (sym w.leq-then-leq.ensures ∙ w.if-leq-2.false)
      | else-leq-via-else-leq w ↦ inl (sym c.leq.ensures ∙ w.if-leq.false)
    ]) equal
