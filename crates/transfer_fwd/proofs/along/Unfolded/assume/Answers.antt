use Rattle.std.proofs.Common.{◌≡◌, ℕ, ◌<◌, true, List, Some, get_or, length, sym, ap, subst, ◌∙◌}
use Rattle.alias_class.specs.Cells.{IsClass}
use Rattle.alias_class.specs.Classes.{class_at}
use Rattle.alias_class.specs.Tables.{Table}
use Rattle.abstract_expr.specs.Expressions.{Scope, refined}
use Rattle.activations.specs.Fitting.{class_number, class_of_node}
use Rattle.control_points.specs.Fits.{routine_at}
use Rattle.environment.specs.Environments.{cell_count}
use Rattle.environment.specs.Kept.{Roomy, room_of}
use Rattle.interval.specs.declared.itv.Itv.{Itv}
use Rattle.pas_program.specs.declared.program.Program.{Program}
use Rattle.pas_program.specs.declared.routine.Assert.{Assert}
use Rattle.pas_program.specs.Checked.{numbers_in, tables}
use Rattle.pas_program.specs.Each.{Rule, each_expr}
use Rattle.pas_program.specs.Typed.{hosted}
use Rattle.transfer_fwd.specs.Forward.{assumed, scope_at}
use Rattle.transfer_fwd.proofs.StandingAsserts.{assert_inside, assert_known, assert_numbers, assert_seen, assert_types, assumed_always, assumed_sometime, one_assumed}
use Rattle.transfer_fwd.proofs.along.Unfolded.assume.Goals as goal
use Rattle.transfer_fwd.proofs.along.Unfolded.assume.Goals.{then-not-assert, else-not-assert}

pub bounds-as_slice-number : goal.bounds-as_slice-number
bounds-as_slice-number c =
    let f = c.args.self.now.flow.now in
    let listed = c.asserts_at-number-items.result.now in
    let i = c.loop-number.number-index in
    let inside = assert_inside f c.point.result listed c.asserts_at-number-items.ensures i c.loop-number-test.true in
    subst (λ (xs : List Assert). get_or listed i 0 < length xs) (sym (c.as_slice.ensures ∙ ap (λ (p : Program). p.asserts) c.program.ensures)) inside

pub refine-requires-clause-numbers : goal.refine-requires-clause-numbers
refine-requires-clause-numbers c =
    let d = c.index-as_slice-number.result in
    let all = c.as_slice.ensures ∙ ap (λ (p : Program). p.asserts) c.program.ensures in
    subst (λ (p : Program). each_expr (numbers_in p) d.cond ≡ true) (sym c.scope-scope.ensures.program)
    (assert_numbers c.args.self.now.flow.now c.point.result c.asserts_at-number-items.result.now c.asserts_at-number-items.ensures c.loop-number.number-index c.loop-number-test.true
    c.as_slice.result.now all d c.index-as_slice-number.is)

pub refine-requires-clause-types : goal.refine-requires-clause-types
refine-requires-clause-types c =
    let d = c.index-as_slice-number.result in
    let all = c.as_slice.ensures ∙ ap (λ (p : Program). p.asserts) c.program.ensures in
    subst (λ (p : Program). (hosted (tables p) d.cond).fits ≡ true) (sym c.scope-scope.ensures.program)
    (assert_types c.args.self.now.flow.now c.point.result c.asserts_at-number-items.result.now c.asserts_at-number-items.ensures c.loop-number.number-index c.loop-number-test.true
    c.as_slice.result.now all d c.index-as_slice-number.is)

pub refine-requires-clause-seen : goal.refine-requires-clause-seen
refine-requires-clause-seen c =
    let x = c.args.self.now in
    let f = x.flow.now in
    let g = x.graph.now in
    let node = x.fits.nodes c.args.node c.requires.node in
    let d = c.index-as_slice-number.result in
    let all = c.as_slice.ensures ∙ ap (λ (p : Program). p.asserts) c.program.ensures in
    let valid = subst (λ (t : Table). (i : ℕ) → i < length t.classes → IsClass t.outline (class_at t.classes i)) c.classes.ensures c.count.ensures.each_is_a_class (class_number g c.args.node) node.class in
    let stands = ap (λ (p : ℕ). routine_at f.points p) c.point.ensures.value ∙ node.stands in
    subst (λ (q : Rule). each_expr q d.cond ≡ true) (sym c.scope-scope.ensures.seen)
    (assert_seen f c.point.result c.asserts_at-number-items.result.now c.asserts_at-number-items.ensures c.loop-number.number-index c.loop-number-test.true c.as_slice.result.now all d c.index-as_slice-number.is
    c.assertions_are_of_their_routine.ensures c.what_is_visible_is_seen.ensures.exprs g.table.outline x.outline (class_of_node g c.args.node) valid stands)

pub loop-number-preserved : goal.loop-number-preserved
loop-number-preserved c =
    let f = c.args.self.now.flow.now in
    let g = c.args.self.now.graph.now in
    let s = scope_at f g c.args.node in
    let listed = c.asserts_at-number-items.result.now in
    let i = c.loop-number.number-index in
    let env = c.loop-number.out.env in
    let d = c.index-as_slice-number.result in
    let all = c.as_slice.ensures ∙ ap (λ (p : Program). p.asserts) c.program.ensures in
    let known = assert_known f c.point.result listed c.asserts_at-number-items.ensures i c.loop-number-test.true c.as_slice.result.now all d c.index-as_slice-number.is in
    let after : (c.if-not-assert.out.env ≡ assumed f g s (Some d) env) × (cell_count c.if-not-assert.out.env ≡ cell_count env) × (room_of c.if-not-assert.out ≡ room_of c.loop-number.out) =
    elim c.if-not-assert.branch [
      | then-not-assert w ↦ (
        ap (λ (o : Roomy). o.env) w.out-is ∙ w.refine.ensures.value
            ∙ ap (λ (m : Scope). refined m d.cond w.truth.result env) c.scope-scope.ensures.scope
            ∙ ap (λ (x : Itv). refined s d.cond x env) w.truth.ensures
            ∙ sym (assumed_always f g s d env w.if-not-assert.true),
        ap (λ (o : Roomy). cell_count o.env) w.out-is ∙ w.refine.ensures.cells,
        ap room_of w.out-is ∙ w.refine.ensures.room,
      )
      | else-not-assert w ↦ (ap (λ (o : Roomy). o.env) w.out-is ∙ sym (assumed_sometime f g s d env w.if-not-assert.false), ap (λ (o : Roomy). cell_count o.env) w.out-is, ap room_of w.out-is)
    ] in (
      one_assumed f g s listed i d env c.if-not-assert.out.env c.loop-number-test.true known after.0 ∙ c.loop-number.invariant.0,
      after.1 ∙ c.loop-number.invariant.1,
      after.2 ∙ c.loop-number.invariant.2,
    )
