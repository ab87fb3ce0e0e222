use Rattle.std.proofs.Common.{◌+◌, length, map, refl, ap, ◌∙◌, arith, true}
use Rattle.std.proofs.lemmas.Bool.{both_ways}
use Rattle.std.proofs.lemmas.List.{length-replicate}
use Rattle.fixpoint.proofs.Marking.{all_marked}
use Rattle.fixpoint.proofs.Passes.{cost_last, cost_next, descent_paid, rest_first, rest_last, rest_next}
use Rattle.fixpoint.proofs.descent.descend.Goals as goal

pub passes-init : goal.passes-init
passes-init g c =
    let all = ap length c.mark_all.ensures ∙ length-replicate (length c.args.stale.now) true ∙ c.requires.stale in
    record {
      fits = c.requires.tables.table_fits;
      all = all;
      up_to_date = λ p below unmarked. absurd (both_ways _ unmarked (all_marked c.mark_all.new.stale (length c.args.stale.now) _ c.mark_all.ensures));
      rest = λ elements is. rest_first g.L.Lattice.ops g.met.L.Lattice.laws (g.Q.Equations.system c.args.eqs.now) (g.met.Q.Equations.laws c.args.eqs.now) c.args.order.now
          (map g.L.Lattice.value c.args.limits.now) c.requires.order c.requires.tables.limits_fit elements (map g.L.Lattice.value c.args.table.now) c.args.count.now c.mark_all.new.stale all;
      cost = omega arith;
      room = refl;
      same = refl;
      kept = refl;
    }

pub pass-requires-clause-unmarked : goal.pass-requires-clause-unmarked
pass-requires-clause-unmarked g c = rw c.passes.invariant.same c.passes.invariant.up_to_date

pub passes-preserved : goal.passes-preserved
passes-preserved g c =
    let same = c.passes.invariant.same in
    let made = rw same at c.pass.ensures.passed in
    let changed = rw c.passes-test.true at c.pass.ensures.heads in
    let skips = rw same at c.pass.ensures.skips in
    record {
      fits = rw same at c.pass.ensures.table;
      all = c.pass.auto.stale ∙ c.passes.invariant.all;
      up_to_date = rw same at c.pass.ensures.unmarked;
      rest = λ elements is. rest_next g.L.Lattice.ops g.met.L.Lattice.laws (g.Q.Equations.system c.args.eqs.now) (g.met.Q.Equations.laws c.args.eqs.now) c.args.order.now
          (map g.L.Lattice.value c.args.limits.now) c.requires.order c.requires.tables.limits_fit elements (map g.L.Lattice.value c.args.table.now) (c.args.count.now + (g.Q.Equations.system c.args.eqs.now).nodes) (map g.L.Lattice.value c.passes.table) (map g.L.Lattice.value c.pass.new.table) _ _
          (made elements is) (skips elements is) (c.passes.invariant.rest elements is) (changed elements is);
      cost = cost_next g.L.Lattice.ops g.met.L.Lattice.laws (g.Q.Equations.system c.args.eqs.now) (g.met.Q.Equations.laws c.args.eqs.now) c.args.order.now
          (map g.L.Lattice.value c.args.limits.now) c.requires.order c.requires.tables.limits_fit _ _ _ _ _ _ c.passes.invariant.cost (rw same at c.pass.ensures.evaluations) (rw (c.passes-test.true, same) at c.pass.ensures.shrinks);
      room = c.pass.ensures.room ∙ c.passes.invariant.room;
      same = c.pass.ensures.equations ∙ same;
      kept = c.pass.ensures.kept ∙ c.passes.invariant.kept;
    }

pub returns-clause-descent : goal.returns-clause-descent
returns-clause-descent g c elements is =
    let same = c.passes.invariant.same in
    let made = rw same at c.pass.ensures.passed in
    let kept = rw c.passes-test.false at c.pass.ensures.heads in
    let skips = rw same at c.pass.ensures.skips in
    (rest_last g.L.Lattice.ops g.met.L.Lattice.laws (g.Q.Equations.system c.args.eqs.now) (g.met.Q.Equations.laws c.args.eqs.now) c.args.order.now
    (map g.L.Lattice.value c.args.limits.now) c.requires.order c.requires.tables.limits_fit elements (map g.L.Lattice.value c.args.table.now) (c.args.count.now + (g.Q.Equations.system c.args.eqs.now).nodes) (map g.L.Lattice.value c.passes.table) (map g.L.Lattice.value c.pass.new.table) _ _
    (made elements is) (skips elements is) (c.passes.invariant.rest elements is) (kept elements is)).0

pub returns-clause-evaluations : goal.returns-clause-evaluations
returns-clause-evaluations g c elements steps h is most =
    let same = c.passes.invariant.same in
    cost_last g.L.Lattice.ops g.met.L.Lattice.laws (g.Q.Equations.system c.args.eqs.now) (g.met.Q.Equations.laws c.args.eqs.now) c.args.order.now
    (map g.L.Lattice.value c.args.limits.now) c.requires.order c.requires.tables.limits_fit elements steps h (map g.L.Lattice.value c.args.table.now) (map g.L.Lattice.value c.passes.table) c.args.count.now c.passes.count c.pass.new.count is most c.requires.tables.table_fits c.passes.invariant.cost
    (rw same at c.pass.ensures.evaluations)

pub returns-clause-skips : goal.returns-clause-skips
returns-clause-skips g c elements way is =
    let same = c.passes.invariant.same in
    let made = rw same at c.pass.ensures.passed in
    let kept = rw c.passes-test.false at c.pass.ensures.heads in
    let skips = rw same at c.pass.ensures.skips in
    let whole = rest_last g.L.Lattice.ops g.met.L.Lattice.laws (g.Q.Equations.system c.args.eqs.now) (g.met.Q.Equations.laws c.args.eqs.now) c.args.order.now
    (map g.L.Lattice.value c.args.limits.now) c.requires.order c.requires.tables.limits_fit elements (map g.L.Lattice.value c.args.table.now) (c.args.count.now + (g.Q.Equations.system c.args.eqs.now).nodes) (map g.L.Lattice.value c.passes.table) (map g.L.Lattice.value c.pass.new.table) _ _
    (made elements is) (skips elements is) (c.passes.invariant.rest elements is) (kept elements is) in
    descent_paid g.L.Lattice.ops g.met.L.Lattice.laws (g.Q.Equations.system c.args.eqs.now) (g.met.Q.Equations.laws c.args.eqs.now) c.args.order.now
    (map g.L.Lattice.value c.args.limits.now) c.requires.order c.requires.tables.limits_fit elements (map g.L.Lattice.value c.args.table.now) (map g.L.Lattice.value c.pass.new.table) _ c.pass.new.count c.pass.new.stale whole.0 whole.1 way
