use Rattle.std.proofs.Common.{◌≡◌, ◌*◌, arith, ap, ◌∙◌}
use Rattle.pas_program.specs.Types.{Layout, layout}
use Rattle.pas_program.proofs.Layouts.{array_below, array_fits, layout-Scalar, layout_some, layout_few, counted_on, counted_few, counted_all}
use Rattle.pas_valid.proofs.type_list.TypeList.elements.Goals as goal
use Rattle.pas_valid.proofs.type_list.TypeList.elements.Goals.{After-count_values-count}

counted : (c : After-count_values-count) → c.loop-index.count * c.count_values-count.result * (layout c.args.self.now.list c.in-Array.element).count ≡ (layout c.args.self.now.list c.args.t).count
counted c =
    let b = array_below c.args.self.now.list c.loop-index.t c.in-Array.index c.in-Array.element c.args.self.now.fits c.in-Array.ensures.value in
    counted_on _ _ _ _ _ c.loop-index.invariant.1 (ap (λ v. v * (layout c.args.self.now.list c.in-Array.element).count) c.count_values-count.ensures ∙ b.count)

pub returns-in-Scalar : goal.returns-in-Scalar
returns-in-Scalar c = counted_all _ _ _ c.loop-index.invariant.1 (ap (λ (l : Layout). l.count) (layout-Scalar c.args.self.now.list c.loop-index.t c.in-Scalar.boolean c.in-Scalar.lo c.in-Scalar.hi c.in-Scalar.ensures.value))

pub count_values-count-requires-clause-in_range : goal.count_values-count-requires-clause-in_range
count_values-count-requires-clause-in_range c =
    omega (arith, (array_fits c.args.self.now.list c.loop-index.t c.in-Array.index c.in-Array.element c.args.self.now.fits c.in-Array.ensures.value).index_before)

pub count_values-count-requires-clause-scalar : goal.count_values-count-requires-clause-scalar
count_values-count-requires-clause-scalar c = (array_fits c.args.self.now.list c.loop-index.t c.in-Array.index c.in-Array.element c.args.self.now.fits c.in-Array.ensures.value).index_scalar

pub overflow_mul-count : goal.overflow_mul-count
overflow_mul-count c =
    let b = array_below c.args.self.now.list c.loop-index.t c.in-Array.index c.in-Array.element c.args.self.now.fits c.in-Array.ensures.value in
    let some = layout_some c.args.self.now.list c.in-Array.element c.args.self.now.fits b.in_range in
    omega (arith, counted_few _ _ _ _ (counted c) some, layout_few c.args.self.now.list c.args.t c.args.self.now.fits)

pub loop-index-preserved : goal.loop-index-preserved
loop-index-preserved c =
    let b = array_below c.args.self.now.list c.loop-index.t c.in-Array.index c.in-Array.element c.args.self.now.fits c.in-Array.ensures.value in
    (b.in_range, counted c)

pub loop-index-smaller : goal.loop-index-smaller
loop-index-smaller c = (array_below c.args.self.now.list c.loop-index.t c.in-Array.index c.in-Array.element c.args.self.now.fits c.in-Array.ensures.value).before
