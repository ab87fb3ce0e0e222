use Rattle.std.proofs.Common.{sym}
use Rattle.std.proofs.lemmas.Bool.{OnTrue_at}
use Rattle.interval.specs.ValueLaws.{val_narrow_of_below}
use Rattle.interval.proofs.val_lattice.ValLattice.narrow_from.Goals as goal
use Rattle.interval.proofs.val_lattice.ValLattice.narrow_from.Goals.{then-spans-via-then-spans, then-spans-via-else-spans+then-stays}

pub returns-then-spans-clause-value : goal.returns-then-spans-clause-value
returns-then-spans-clause-value c =
    elim c.then-spans.branch [
      | then-spans-via-then-spans w ↦
          sym (val_narrow_of_below c.args.self.now c.args.y.now c.args.limit.now (OnTrue_at w.if-spans.true c.spans.ensures))
      | then-spans-via-else-spans+then-stays w ↦ sym (OnTrue_at w.if-stays.true w.stays.ensures)
    ]
