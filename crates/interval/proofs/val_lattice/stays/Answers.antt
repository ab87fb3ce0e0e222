use Rattle.std.proofs.Common.{◌≡◌, false, not, sym, ◌∙◌}
use Rattle.std.proofs.lemmas.Bool.{OnTrue_at, OnTrue_from, not-true, or_left, or_right}
use Rattle.interval.specs.Intervals.{is_empty}
use Rattle.interval.specs.Values.{val_narrow}
use Rattle.interval.proofs.Unmoved.{val_narrow_stays}
use Rattle.interval.proofs.val_lattice.stays.Goals as goal
use Rattle.interval.proofs.val_lattice.stays.Goals.{then-low_stays, else-low_stays, then-high_stays+then-y, then-high_stays+else-y, else-high_stays}

pub returns-then-not-v : goal.returns-then-not-v
returns-then-not-v c =
    let v = c.args.v.now in
    let y = c.args.y.now in
    let l = c.args.limit.now in
    OnTrue_from (not c.is_empty.result) (val_narrow v y l ≡ v) (λ h.
    let some : is_empty y.itv ≡ false = sym c.is_empty.ensures ∙ not-true _ h in
    elim c.if-low_stays.branch [
      | then-low_stays low ↦ elim c.if-high_stays.branch [
        | then-high_stays+then-y w ↦
            val_narrow_stays v y l (OnTrue_at low.if-low_stays.true c.low_stays.ensures) (OnTrue_at (sym low.value-is ∙ w.if-high_stays.true) low.high_stays.ensures)
            (or_left _ _ w.if-y.true) some
        | then-high_stays+else-y w ↦
            val_narrow_stays v y l (OnTrue_at low.if-low_stays.true c.low_stays.ensures) (OnTrue_at (sym low.value-is ∙ w.if-high_stays.true) low.high_stays.ensures)
            (or_right _ _ (sym w.value-is ∙ c.if-not-v.true)) some
        | else-high_stays w ↦ cc
      ]
      | else-low_stays low ↦ elim c.if-high_stays.branch [
        | then-high_stays+then-y w ↦ cc
        | then-high_stays+else-y w ↦ cc
        | else-high_stays w ↦ cc
      ]
    ])
