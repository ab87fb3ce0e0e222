use Rattle.std.proofs.Common.{◌*◌, ◌∙◌, ap, sym, arith, get_or}
use Rattle.std.proofs.lemmas.Option.{get_or_from_slice_get}
use Rattle.std.specs.List.{slice_get}
use Rattle.pas_program.proofs.Layouts.{array_fits, layout-Array, layout-Scalar}
use Rattle.pas_program.specs.Types.{count_values}
use Rattle.interp.proofs.layout.next_count.Goals as goal

pub values_of-requires-clause-in_range : goal.values_of-requires-clause-in_range
values_of-requires-clause-in_range c =
    let p = c.args.program.now in
    let a = array_fits p.types c.args.number c.in-Array.index c.in-Array.element p.types_fit c.in-Array.ensures.value in
    omega (arith, a.index_before, c.requires.in_range)

pub values_of-requires-clause-scalar : goal.values_of-requires-clause-scalar
values_of-requires-clause-scalar c =
    let p = c.args.program.now in
    (array_fits p.types c.args.number c.in-Array.index c.in-Array.element p.types_fit c.in-Array.ensures.value).index_scalar

pub returns-in-Scalar : goal.returns-in-Scalar
returns-in-Scalar c = sym (ap (λ l. l.count) (layout-Scalar c.args.program.now.types c.args.number c.in-Scalar.boolean c.in-Scalar.lo c.in-Scalar.hi c.in-Scalar.ensures.value))

pub returns-in-Array : goal.returns-in-Array
returns-in-Array c =
    let p = c.args.program.now in
    let a = array_fits p.types c.args.number c.in-Array.index c.in-Array.element p.types_fit c.in-Array.ensures.value in
    ap (λ v. v * get_or c.args.counts.now c.in-Array.element 0) c.values_of.ensures
    ∙ ap (λ y. count_values (slice_get p.types c.in-Array.index) * y) (get_or_from_slice_get c.args.counts.now c.in-Array.element _ 0 (c.requires.counts.each c.in-Array.element a.element_before))
    ∙ sym (ap (λ l. l.count) (layout-Array p.types c.args.number c.in-Array.index c.in-Array.element p.types_fit c.in-Array.ensures.value))
