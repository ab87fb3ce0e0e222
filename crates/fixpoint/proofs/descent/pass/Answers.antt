use Rattle.std.proofs.Common.{◌≡◌, ◌<◌, map, sym, refl, ◌∙◌, arith}
use Rattle.fixpoint.proofs.Passes.{heads_told, pass_begins, pass_is, pass_paid, pass_step, slack_told}
use Rattle.fixpoint.proofs.descent.pass.Goals as goal

pub loop-place-init : goal.loop-place-init
loop-place-init g c = record {
  passing = pass_begins g.L.Lattice.ops g.met.L.Lattice.laws (g.Q.Equations.system c.args.eqs.now) (g.met.Q.Equations.laws c.args.eqs.now) c.args.order.now
      (map g.L.Lattice.value c.args.limits.now) c.requires.order c.requires.tables.limits_fit (map g.L.Lattice.value c.args.table.now) c.args.stale.now c.args.count.now c.requires.tables.table_fits c.requires.stale c.requires.unmarked;
  room = refl;
  same = refl;
  kept = refl;
  read_by = refl;
  eqs_name = refl;
  scratch_name = refl;
  count_name = refl;
  stale_name = refl;
}

pub loop-place-preserved : goal.loop-place-preserved
loop-place-preserved g c =
    let same = c.loop-place.invariant.same in
    let below : c.loop-place.place < (g.Q.Equations.system c.args.eqs.now).nodes = omega (arith, c.len-place-end.ensures, c.loop-place-test.true, c.requires.order.places) in
    record {
      passing = pass_step g.L.Lattice.ops g.met.L.Lattice.laws (g.Q.Equations.system c.args.eqs.now) (g.met.Q.Equations.laws c.args.eqs.now) c.args.order.now
          (map g.L.Lattice.value c.args.limits.now) c.requires.order c.requires.tables.limits_fit c.loop-place.place (map g.L.Lattice.value c.args.table.now) (map g.L.Lattice.value c.loop-place.table) c.args.stale.now c.loop-place.marks.stale.now c.args.count.now c.loop-place.evaluator.count.now
          below c.loop-place.changed c.step-changed.result (map g.L.Lattice.value c.step-changed.new.table) c.step-changed.new.marks.stale.now c.step-changed.new.evaluator.count.now
          (rw same at c.step-changed.ensures.value) c.loop-place.invariant.passing c.step-changed.ensures.changed c.step-changed.ensures.unchanged (rw same at c.step-changed.ensures.visits);
      room = c.step-changed.ensures.room ∙ c.loop-place.invariant.room;
      same = c.step-changed.ensures.same ∙ same;
      kept = c.step-changed.ensures.kept ∙ c.loop-place.invariant.kept;
      read_by = c.step-changed.ensures.read_by ∙ c.loop-place.invariant.read_by;
      eqs_name = c.step-changed.ensures.eqs_name ∙ c.loop-place.invariant.eqs_name;
      scratch_name = c.step-changed.ensures.scratch_name ∙ c.loop-place.invariant.scratch_name;
      count_name = c.step-changed.ensures.count_name ∙ c.loop-place.invariant.count_name;
      stale_name = c.step-changed.ensures.stale_name ∙ c.loop-place.invariant.stale_name;
    }

pub returns-clause-passed : goal.returns-clause-passed
returns-clause-passed g c elements is =
    let last : c.loop-place.place ≡ (g.Q.Equations.system c.args.eqs.now).nodes = omega (arith, c.loop-place.auto.place-end, c.len-place-end.ensures, c.loop-place-test.false, c.requires.order.places) in
    let passing = rw last at c.loop-place.invariant.passing in
    pass_is g.L.Lattice.ops g.met.L.Lattice.laws (g.Q.Equations.system c.args.eqs.now) (g.met.Q.Equations.laws c.args.eqs.now) c.args.order.now
    (map g.L.Lattice.value c.args.limits.now) c.requires.order c.requires.tables.limits_fit elements (map g.L.Lattice.value c.args.table.now) (map g.L.Lattice.value c.loop-place.table) c.args.stale.now c.loop-place.marks.stale.now c.args.count.now c.loop-place.evaluator.count.now is c.loop-place.changed passing

pub returns-clause-heads : goal.returns-clause-heads
returns-clause-heads g c elements is =
    let last : c.loop-place.place ≡ (g.Q.Equations.system c.args.eqs.now).nodes = omega (arith, c.loop-place.auto.place-end, c.len-place-end.ensures, c.loop-place-test.false, c.requires.order.places) in
    let passing = rw last at c.loop-place.invariant.passing in
    heads_told g.L.Lattice.ops g.met.L.Lattice.laws (g.Q.Equations.system c.args.eqs.now) (g.met.Q.Equations.laws c.args.eqs.now) c.args.order.now
    (map g.L.Lattice.value c.args.limits.now) c.requires.order c.requires.tables.limits_fit elements (map g.L.Lattice.value c.args.table.now) (map g.L.Lattice.value c.loop-place.table) c.args.stale.now c.loop-place.marks.stale.now c.args.count.now c.loop-place.evaluator.count.now is c.loop-place.changed passing

pub returns-clause-shrinks : goal.returns-clause-shrinks
returns-clause-shrinks g c =
    let last : c.loop-place.place ≡ (g.Q.Equations.system c.args.eqs.now).nodes = omega (arith, c.loop-place.auto.place-end, c.len-place-end.ensures, c.loop-place-test.false, c.requires.order.places) in
    let passing = rw last at c.loop-place.invariant.passing in
    slack_told g.L.Lattice.ops g.met.L.Lattice.laws (g.Q.Equations.system c.args.eqs.now) (g.met.Q.Equations.laws c.args.eqs.now) c.args.order.now
    (map g.L.Lattice.value c.args.limits.now) c.requires.order c.requires.tables.limits_fit c.loop-place.changed (map g.L.Lattice.value c.args.table.now) (map g.L.Lattice.value c.loop-place.table) c.args.stale.now c.loop-place.marks.stale.now c.args.count.now c.loop-place.evaluator.count.now passing

pub returns-clause-evaluations : goal.returns-clause-evaluations
returns-clause-evaluations g c =
    let last : c.loop-place.place ≡ (g.Q.Equations.system c.args.eqs.now).nodes = omega (arith, c.loop-place.auto.place-end, c.len-place-end.ensures, c.loop-place-test.false, c.requires.order.places) in
    let passing = rw last at c.loop-place.invariant.passing in
    let back = c.count-1.given.1 (sym c.loop-place.invariant.count_name) in
    omega (arith, passing.most, back)

pub returns-clause-skips : goal.returns-clause-skips
returns-clause-skips g c elements is =
    let last : c.loop-place.place ≡ (g.Q.Equations.system c.args.eqs.now).nodes = omega (arith, c.loop-place.auto.place-end, c.len-place-end.ensures, c.loop-place-test.false, c.requires.order.places) in
    let passing = rw last at c.loop-place.invariant.passing in
    let paid = pass_paid g.L.Lattice.ops g.met.L.Lattice.laws (g.Q.Equations.system c.args.eqs.now) (g.met.Q.Equations.laws c.args.eqs.now) c.args.order.now
    (map g.L.Lattice.value c.args.limits.now) c.requires.order c.requires.tables.limits_fit elements (map g.L.Lattice.value c.args.table.now) (map g.L.Lattice.value c.loop-place.table) c.args.stale.now c.loop-place.marks.stale.now c.args.count.now c.loop-place.evaluator.count.now is c.loop-place.changed passing in
    let back = c.count-1.given.1 (sym c.loop-place.invariant.count_name) in
    let marks = c.stale-1.given.1.1 (sym c.loop-place.invariant.stale_name) in
    rw (back, marks) paid
