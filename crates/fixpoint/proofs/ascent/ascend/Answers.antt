use Rattle.std.proofs.Common.{◌<◌, ◌≤◌, ◌+◌, ℕ, Option, length, map, sym, ap, subst, ◌∙◌, arith, refl, true}
use Rattle.std.specs.Prelude.{sum_by}
use Rattle.std.proofs.lemmas.List.{length-replicate}
use Rattle.fixpoint.specs.Passing.{end_at}
use Rattle.fixpoint.specs.System.{readers}
use Rattle.fixpoint.proofs.Bottoms.{bottoms_inside, bottoms_same}
use Rattle.fixpoint.proofs.Bounds.{ascent_at_most, lies_whole}
use Rattle.fixpoint.proofs.Marking.{all_marked}
use Rattle.fixpoint.proofs.OneOutcome.{one_changes}
use Rattle.fixpoint.proofs.Walks.{falls_again, falls_enter, falls_leave, falls_node, in_bound_from, in_order, none_told, settled_from, some_told, unsettled_from, visits_left, walk_again, walk_ascent, walk_cost, walk_enter, walk_first, walk_leave, walk_node, walk_stable}
use Rattle.fixpoint.proofs.ascent.ascend.Goals as goal
use Rattle.fixpoint.proofs.ascent.ascend.Goals.{then-is_some, else-is_some+then-place-places}

pub walk-init : goal.walk-init
walk-init g c =
    let fits = c.requires.tables.limits_fit in
    let bottoms = c.clear.ensures ∙ bottoms_same g.L.Lattice.ops g.met.L.Lattice.laws (g.Q.Equations.system c.args.eqs.now) (map g.L.Lattice.value c.args.limits.now) fits
    (map g.L.Lattice.value c.args.table.now) c.requires.tables.table_fits in
    let all = ap length c.mark_all.ensures ∙ length-replicate (length c.args.stale.now) true ∙ c.requires.stale in
    record {
      walking = rw bottoms (walk_first g.L.Lattice.ops g.met.L.Lattice.laws (g.Q.Equations.system c.args.eqs.now) (g.met.Q.Equations.laws c.args.eqs.now) c.args.order.now
          (map g.L.Lattice.value c.args.limits.now) c.args.steps.now c.requires.order c.requires.tables.limits_fit c.requires.steps c.args.count.now c.mark_all.new.stale all
          (λ k. all_marked c.mark_all.new.stale (length c.args.stale.now) k c.mark_all.ensures));
      room = refl;
      same = refl;
      kept = refl;
      read_by = refl;
      eqs_name = refl;
      scratch_name = refl;
      count_name = refl;
      stale_name = refl;
    }

pub walk-smaller-then-turn : goal.walk-smaller-then-turn
walk-smaller-then-turn g c =
    let same = c.walk.invariant.same in
    let here = c.in-Some.ensures in
    let walking = rw here.0 at c.walk.invariant.walking in
    let unsettled = unsettled_from _ _ (rw (same, c.node-node.ensures) at c.turn.ensures.unsettled) c.if-turn.true in
    let is = rw (c.if-turn.true, same, c.node-node.ensures) at c.turn.ensures.value in
    let left = λ (x : Option ℕ). visits_left g.L.Lattice.ops c.args.order.now (map g.L.Lattice.value c.args.limits.now) c.args.steps.now (g.Q.Equations.system c.args.eqs.now).nodes (c.in-Some.head + 1) x (map g.L.Lattice.value c.turn.new.table) < visits_left g.L.Lattice.ops c.args.order.now (map g.L.Lattice.value c.args.limits.now) c.args.steps.now (g.Q.Equations.system c.args.eqs.now).nodes c.walk.place x (map g.L.Lattice.value c.walk.table) in
    subst left (sym here.0)
    (falls_again g.L.Lattice.ops g.met.L.Lattice.laws (g.Q.Equations.system c.args.eqs.now) (g.met.Q.Equations.laws c.args.eqs.now) c.args.order.now
    (map g.L.Lattice.value c.args.limits.now) c.args.steps.now c.requires.order c.requires.tables.limits_fit c.requires.steps c.args.count.now
    c.in-Some.head c.walk.place (map g.L.Lattice.value c.walk.table) (map g.L.Lattice.value c.turn.new.table) walking.placed here.1 walking.inside unsettled is)

pub walk-preserved-then-turn : goal.walk-preserved-then-turn
walk-preserved-then-turn g c =
    let same = c.walk.invariant.same in
    let here = c.in-Some.ensures in
    let walking = rw here.0 at c.walk.invariant.walking in
    let unsettled = unsettled_from _ _ (rw (same, c.node-node.ensures) at c.turn.ensures.unsettled) c.if-turn.true in
    let is = rw (c.if-turn.true, same, c.node-node.ensures) at c.turn.ensures.value in
    let visits = rw (same, c.node-node.ensures) at c.turn.ensures.visits in
    record {
      walking = rw here.0 (walk_again g.L.Lattice.ops g.met.L.Lattice.laws (g.Q.Equations.system c.args.eqs.now) (g.met.Q.Equations.laws c.args.eqs.now) c.args.order.now
          (map g.L.Lattice.value c.args.limits.now) c.args.steps.now c.requires.order c.requires.tables.limits_fit c.requires.steps c.args.count.now
          c.in-Some.head c.walk.place (map g.L.Lattice.value c.walk.table) (map g.L.Lattice.value c.turn.new.table) c.walk.marks.stale.now c.turn.new.marks.stale.now c.walk.evaluator.count.now c.turn.new.evaluator.count.now here.1 unsettled is visits walking);
      room = c.turn.ensures.room ∙ c.walk.invariant.room;
      same = c.turn.ensures.same ∙ c.walk.invariant.same;
      kept = c.turn.ensures.kept ∙ c.walk.invariant.kept;
      read_by = c.turn.ensures.read_by ∙ c.walk.invariant.read_by;
      eqs_name = c.turn.ensures.eqs_name ∙ c.walk.invariant.eqs_name;
      scratch_name = c.turn.ensures.scratch_name ∙ c.walk.invariant.scratch_name;
      count_name = c.turn.ensures.count_name ∙ c.walk.invariant.count_name;
      stale_name = c.turn.ensures.stale_name ∙ c.walk.invariant.stale_name;
    }

pub walk-smaller-else-turn : goal.walk-smaller-else-turn
walk-smaller-else-turn g c =
    let same = c.walk.invariant.same in
    let here = c.in-Some.ensures in
    let walking = rw here.0 at c.walk.invariant.walking in
    let is = rw c.if-turn.false at c.turn.ensures.value in
    let left = λ (x : Option ℕ). visits_left g.L.Lattice.ops c.args.order.now (map g.L.Lattice.value c.args.limits.now) c.args.steps.now (g.Q.Equations.system c.args.eqs.now).nodes c.walk.place c.head_around-inside.result (map g.L.Lattice.value c.turn.new.table) < visits_left g.L.Lattice.ops c.args.order.now (map g.L.Lattice.value c.args.limits.now) c.args.steps.now (g.Q.Equations.system c.args.eqs.now).nodes c.walk.place x (map g.L.Lattice.value c.walk.table) in
    subst left (sym here.0)
    (falls_leave g.L.Lattice.ops g.met.L.Lattice.laws (g.Q.Equations.system c.args.eqs.now) (g.met.Q.Equations.laws c.args.eqs.now) c.args.order.now
    (map g.L.Lattice.value c.args.limits.now) c.args.steps.now c.requires.order c.requires.tables.limits_fit c.requires.steps c.args.count.now
    c.in-Some.head c.walk.place c.head_around-inside.result (map g.L.Lattice.value c.walk.table) (map g.L.Lattice.value c.turn.new.table) walking.placed here.1 c.head_around-inside.ensures is)

pub walk-preserved-else-turn : goal.walk-preserved-else-turn
walk-preserved-else-turn g c =
    let same = c.walk.invariant.same in
    let here = c.in-Some.ensures in
    let walking = rw here.0 at c.walk.invariant.walking in
    let settled = settled_from _ _ (rw (same, c.node-node.ensures) at c.turn.ensures.unsettled) c.if-turn.false in
    let is = rw c.if-turn.false at c.turn.ensures.value in
    let visits = rw (same, c.node-node.ensures) at c.turn.ensures.visits in
    record {
      walking = walk_leave g.L.Lattice.ops g.met.L.Lattice.laws (g.Q.Equations.system c.args.eqs.now) (g.met.Q.Equations.laws c.args.eqs.now) c.args.order.now
          (map g.L.Lattice.value c.args.limits.now) c.args.steps.now c.requires.order c.requires.tables.limits_fit c.requires.steps c.args.count.now
          c.in-Some.head c.walk.place c.head_around-inside.result (map g.L.Lattice.value c.walk.table) (map g.L.Lattice.value c.turn.new.table) c.walk.marks.stale.now c.turn.new.marks.stale.now c.walk.evaluator.count.now c.turn.new.evaluator.count.now here.1 settled is c.head_around-inside.ensures visits walking;
      room = c.turn.ensures.room ∙ c.walk.invariant.room;
      same = c.turn.ensures.same ∙ c.walk.invariant.same;
      kept = c.turn.ensures.kept ∙ c.walk.invariant.kept;
      read_by = c.turn.ensures.read_by ∙ c.walk.invariant.read_by;
      eqs_name = c.turn.ensures.eqs_name ∙ c.walk.invariant.eqs_name;
      scratch_name = c.turn.ensures.scratch_name ∙ c.walk.invariant.scratch_name;
      count_name = c.turn.ensures.count_name ∙ c.walk.invariant.count_name;
      stale_name = c.turn.ensures.stale_name ∙ c.walk.invariant.stale_name;
    }

pub walk-smaller-then-end-place : goal.walk-smaller-then-end-place
walk-smaller-then-end-place g c =
    let same = c.walk.invariant.same in
    let in_bound = in_bound_from g.L.Lattice.ops g.met.L.Lattice.laws (g.Q.Equations.system c.args.eqs.now) (g.met.Q.Equations.laws c.args.eqs.now) c.args.order.now
    (map g.L.Lattice.value c.args.limits.now) c.args.steps.now c.requires.order c.requires.tables.limits_fit c.requires.steps c.args.count.now
    c.walk.place c.walk.inside c.walk.invariant.walking.placed c.in-None.ensures (λ none. elim c.if-is_some.branch [
      | then-is_some w ↦ absurd (some_told c.walk.inside c.is_some.result c.is_some.ensures w.if-is_some.true none)
      | else-is_some+then-place-places w ↦ omega (arith, c.len-places.ensures, w.if-place-places.true, c.requires.order.places)
    ]) in
    let long : c.walk.place < end_at c.args.order.now c.walk.place = omega (arith, c.end.ensures, c.if-end-place.true) in
    let is = rw (same, c.node-node-in-None.ensures) at c.enter.ensures.value in
    falls_enter g.L.Lattice.ops g.met.L.Lattice.laws (g.Q.Equations.system c.args.eqs.now) (g.met.Q.Equations.laws c.args.eqs.now) c.args.order.now
    (map g.L.Lattice.value c.args.limits.now) c.args.steps.now c.requires.order c.requires.tables.limits_fit c.requires.steps c.args.count.now
    c.walk.place c.walk.inside (map g.L.Lattice.value c.walk.table) (map g.L.Lattice.value c.enter.new.table) c.walk.invariant.walking.placed in_bound long c.walk.invariant.walking.inside is

pub walk-preserved-then-end-place : goal.walk-preserved-then-end-place
walk-preserved-then-end-place g c =
    let same = c.walk.invariant.same in
    let in_bound = in_bound_from g.L.Lattice.ops g.met.L.Lattice.laws (g.Q.Equations.system c.args.eqs.now) (g.met.Q.Equations.laws c.args.eqs.now) c.args.order.now
    (map g.L.Lattice.value c.args.limits.now) c.args.steps.now c.requires.order c.requires.tables.limits_fit c.requires.steps c.args.count.now
    c.walk.place c.walk.inside c.walk.invariant.walking.placed c.in-None.ensures (λ none. elim c.if-is_some.branch [
      | then-is_some w ↦ absurd (some_told c.walk.inside c.is_some.result c.is_some.ensures w.if-is_some.true none)
      | else-is_some+then-place-places w ↦ omega (arith, c.len-places.ensures, w.if-place-places.true, c.requires.order.places)
    ]) in
    let long : c.walk.place < end_at c.args.order.now c.walk.place = omega (arith, c.end.ensures, c.if-end-place.true) in
    let is = rw (same, c.node-node-in-None.ensures) at c.enter.ensures.value in
    let visits = rw (same, c.node-node-in-None.ensures) at c.enter.ensures.visits in
    record {
      walking = walk_enter g.L.Lattice.ops g.met.L.Lattice.laws (g.Q.Equations.system c.args.eqs.now) (g.met.Q.Equations.laws c.args.eqs.now) c.args.order.now
          (map g.L.Lattice.value c.args.limits.now) c.args.steps.now c.requires.order c.requires.tables.limits_fit c.requires.steps c.args.count.now
          c.walk.place c.walk.inside (map g.L.Lattice.value c.walk.table) (map g.L.Lattice.value c.enter.new.table) c.walk.marks.stale.now c.enter.new.marks.stale.now c.walk.evaluator.count.now c.enter.new.evaluator.count.now in_bound long is visits c.walk.invariant.walking;
      room = c.enter.ensures.room ∙ c.walk.invariant.room;
      same = c.enter.ensures.same ∙ c.walk.invariant.same;
      kept = c.enter.ensures.kept ∙ c.walk.invariant.kept;
      read_by = c.enter.ensures.read_by ∙ c.walk.invariant.read_by;
      eqs_name = c.enter.ensures.eqs_name ∙ c.walk.invariant.eqs_name;
      scratch_name = c.enter.ensures.scratch_name ∙ c.walk.invariant.scratch_name;
      count_name = c.enter.ensures.count_name ∙ c.walk.invariant.count_name;
      stale_name = c.enter.ensures.stale_name ∙ c.walk.invariant.stale_name;
    }

pub overflow_add-place-in-None-2 : goal.overflow_add-place-in-None-2
overflow_add-place-in-None-2 g c =
    let in_bound = in_bound_from g.L.Lattice.ops g.met.L.Lattice.laws (g.Q.Equations.system c.args.eqs.now) (g.met.Q.Equations.laws c.args.eqs.now) c.args.order.now
    (map g.L.Lattice.value c.args.limits.now) c.args.steps.now c.requires.order c.requires.tables.limits_fit c.requires.steps c.args.count.now
    c.walk.place c.walk.inside c.walk.invariant.walking.placed c.in-None.ensures (λ none. elim c.if-is_some.branch [
      | then-is_some w ↦ absurd (some_told c.walk.inside c.is_some.result c.is_some.ensures w.if-is_some.true none)
      | else-is_some+then-place-places w ↦ omega (arith, c.len-places.ensures, w.if-place-places.true, c.requires.order.places)
    ]) in
    let below = in_order g.L.Lattice.ops g.met.L.Lattice.laws (g.Q.Equations.system c.args.eqs.now) (g.met.Q.Equations.laws c.args.eqs.now) c.args.order.now
    (map g.L.Lattice.value c.args.limits.now) c.args.steps.now c.requires.order c.requires.tables.limits_fit c.requires.steps c.args.count.now
    c.walk.place c.walk.inside c.walk.invariant.walking.placed in_bound in
    omega (arith, below, c.len-places.ensures, c.requires.order.places)

pub walk-smaller : goal.walk-smaller
walk-smaller g c =
    let same = c.walk.invariant.same in
    let in_bound = in_bound_from g.L.Lattice.ops g.met.L.Lattice.laws (g.Q.Equations.system c.args.eqs.now) (g.met.Q.Equations.laws c.args.eqs.now) c.args.order.now
    (map g.L.Lattice.value c.args.limits.now) c.args.steps.now c.requires.order c.requires.tables.limits_fit c.requires.steps c.args.count.now
    c.walk.place c.walk.inside c.walk.invariant.walking.placed c.in-None.ensures (λ none. elim c.if-is_some.branch [
      | then-is_some w ↦ absurd (some_told c.walk.inside c.is_some.result c.is_some.ensures w.if-is_some.true none)
      | else-is_some+then-place-places w ↦ omega (arith, c.len-places.ensures, w.if-place-places.true, c.requires.order.places)
    ]) in
    let short : end_at c.args.order.now c.walk.place ≤ c.walk.place = omega (arith, c.end.ensures, c.if-end-place.false) in
    let is = rw (same, c.node-node-in-None-2.ensures) at c.update.ensures.value in
    falls_node g.L.Lattice.ops g.met.L.Lattice.laws (g.Q.Equations.system c.args.eqs.now) (g.met.Q.Equations.laws c.args.eqs.now) c.args.order.now
    (map g.L.Lattice.value c.args.limits.now) c.args.steps.now c.requires.order c.requires.tables.limits_fit c.requires.steps c.args.count.now
    c.walk.place c.walk.inside (map g.L.Lattice.value c.walk.table) (map g.L.Lattice.value c.update.new.table) c.walk.invariant.walking.placed in_bound short is

pub walk-preserved : goal.walk-preserved
walk-preserved g c =
    let same = c.walk.invariant.same in
    let in_bound = in_bound_from g.L.Lattice.ops g.met.L.Lattice.laws (g.Q.Equations.system c.args.eqs.now) (g.met.Q.Equations.laws c.args.eqs.now) c.args.order.now
    (map g.L.Lattice.value c.args.limits.now) c.args.steps.now c.requires.order c.requires.tables.limits_fit c.requires.steps c.args.count.now
    c.walk.place c.walk.inside c.walk.invariant.walking.placed c.in-None.ensures (λ none. elim c.if-is_some.branch [
      | then-is_some w ↦ absurd (some_told c.walk.inside c.is_some.result c.is_some.ensures w.if-is_some.true none)
      | else-is_some+then-place-places w ↦ omega (arith, c.len-places.ensures, w.if-place-places.true, c.requires.order.places)
    ]) in
    let short : end_at c.args.order.now c.walk.place ≤ c.walk.place = omega (arith, c.end.ensures, c.if-end-place.false) in
    let is = rw (same, c.node-node-in-None-2.ensures) at c.update.ensures.value in
    let visits = rw (same, c.node-node-in-None-2.ensures) at c.update.ensures.visits in
    record {
      walking = walk_node g.L.Lattice.ops g.met.L.Lattice.laws (g.Q.Equations.system c.args.eqs.now) (g.met.Q.Equations.laws c.args.eqs.now) c.args.order.now
          (map g.L.Lattice.value c.args.limits.now) c.args.steps.now c.requires.order c.requires.tables.limits_fit c.requires.steps c.args.count.now
          c.walk.place c.walk.inside (map g.L.Lattice.value c.walk.table) (map g.L.Lattice.value c.update.new.table) c.walk.marks.stale.now c.update.new.marks.stale.now c.walk.evaluator.count.now c.update.new.evaluator.count.now in_bound short is visits c.walk.invariant.walking;
      room = c.update.ensures.room ∙ c.walk.invariant.room;
      same = c.update.ensures.same ∙ c.walk.invariant.same;
      kept = c.update.ensures.kept ∙ c.walk.invariant.kept;
      read_by = c.update.ensures.read_by ∙ c.walk.invariant.read_by;
      eqs_name = c.update.ensures.eqs_name ∙ c.walk.invariant.eqs_name;
      scratch_name = c.update.ensures.scratch_name ∙ c.walk.invariant.scratch_name;
      count_name = c.update.ensures.count_name ∙ c.walk.invariant.count_name;
      stale_name = c.update.ensures.stale_name ∙ c.walk.invariant.stale_name;
    }

pub returns-clause-ascent : goal.returns-clause-ascent
returns-clause-ascent g c elements is =
    let past : (g.Q.Equations.system c.args.eqs.now).nodes ≤ c.walk.place = omega (arith, c.len-places.ensures, c.if-place-places.false, c.requires.order.places) in
    let walking = rw (none_told c.walk.inside c.is_some.result c.is_some.ensures c.if-is_some.false) at c.walk.invariant.walking in
    (walk_ascent g.L.Lattice.ops g.met.L.Lattice.laws (g.Q.Equations.system c.args.eqs.now) (g.met.Q.Equations.laws c.args.eqs.now) c.args.order.now
    (map g.L.Lattice.value c.args.limits.now) c.args.steps.now c.requires.order c.requires.tables.limits_fit c.requires.steps c.args.count.now
    c.walk.place (map g.L.Lattice.value c.walk.table) c.walk.marks.stale.now c.walk.evaluator.count.now past walking elements (lies_whole g.L.Lattice.ops g.met.L.Lattice.laws (g.Q.Equations.system c.args.eqs.now) c.args.order.now
    (map g.L.Lattice.value c.args.limits.now) c.args.steps.now c.requires.order c.requires.tables.limits_fit elements is)).0

pub returns-clause-stable : goal.returns-clause-stable
returns-clause-stable g c =
    let past : (g.Q.Equations.system c.args.eqs.now).nodes ≤ c.walk.place = omega (arith, c.len-places.ensures, c.if-place-places.false, c.requires.order.places) in
    let walking = rw (none_told c.walk.inside c.is_some.result c.is_some.ensures c.if-is_some.false) at c.walk.invariant.walking in
    walk_stable g.L.Lattice.ops g.met.L.Lattice.laws (g.Q.Equations.system c.args.eqs.now) (g.met.Q.Equations.laws c.args.eqs.now) c.args.order.now
    (map g.L.Lattice.value c.args.limits.now) c.args.steps.now c.requires.order c.requires.tables.limits_fit c.requires.steps c.args.count.now
    c.walk.place (map g.L.Lattice.value c.walk.table) c.walk.marks.stale.now c.walk.evaluator.count.now past walking

pub returns-clause-evaluations : goal.returns-clause-evaluations
returns-clause-evaluations g c elements h is most =
    let bottoms = bottoms_inside g.L.Lattice.ops g.met.L.Lattice.laws (g.Q.Equations.system c.args.eqs.now) (map g.L.Lattice.value c.args.limits.now) c.requires.tables.limits_fit in
    let past : (g.Q.Equations.system c.args.eqs.now).nodes ≤ c.walk.place = omega (arith, c.len-places.ensures, c.if-place-places.false, c.requires.order.places) in
    let walking = rw (none_told c.walk.inside c.is_some.result c.is_some.ensures c.if-is_some.false) at c.walk.invariant.walking in
    let cost = walk_cost g.L.Lattice.ops g.met.L.Lattice.laws (g.Q.Equations.system c.args.eqs.now) (g.met.Q.Equations.laws c.args.eqs.now) c.args.order.now
    (map g.L.Lattice.value c.args.limits.now) c.args.steps.now c.requires.order c.requires.tables.limits_fit c.requires.steps c.args.count.now
    c.walk.place (map g.L.Lattice.value c.walk.table) c.walk.marks.stale.now c.walk.evaluator.count.now past walking in
    let back = c.count-1.given.1 (sym c.walk.invariant.count_name) in
    rw back (ascent_at_most g.L.Lattice.ops g.met.L.Lattice.laws (g.Q.Equations.system c.args.eqs.now) c.args.order.now
    (map g.L.Lattice.value c.args.limits.now) c.args.steps.now c.requires.order c.requires.tables.limits_fit
    elements h _ c.args.count.now c.walk.evaluator.count.now is most bottoms.fits cost)

pub returns-clause-skips : goal.returns-clause-skips
returns-clause-skips g c elements way is =
    let past : (g.Q.Equations.system c.args.eqs.now).nodes ≤ c.walk.place = omega (arith, c.len-places.ensures, c.if-place-places.false, c.requires.order.places) in
    let walking = rw (none_told c.walk.inside c.is_some.result c.is_some.ensures c.if-is_some.false) at c.walk.invariant.walking in
    let whole = walk_ascent g.L.Lattice.ops g.met.L.Lattice.laws (g.Q.Equations.system c.args.eqs.now) (g.met.Q.Equations.laws c.args.eqs.now) c.args.order.now
    (map g.L.Lattice.value c.args.limits.now) c.args.steps.now c.requires.order c.requires.tables.limits_fit c.requires.steps c.args.count.now
    c.walk.place (map g.L.Lattice.value c.walk.table) c.walk.marks.stale.now c.walk.evaluator.count.now past walking elements (lies_whole g.L.Lattice.ops g.met.L.Lattice.laws (g.Q.Equations.system c.args.eqs.now) c.args.order.now
    (map g.L.Lattice.value c.args.limits.now) c.args.steps.now c.requires.order c.requires.tables.limits_fit elements is) in
    let same = ap (sum_by (readers (g.Q.Equations.system c.args.eqs.now))) (one_changes g.L.Lattice.ops (g.Q.Equations.system c.args.eqs.now)
    (map g.L.Lattice.value c.args.limits.now) c.args.steps.now elements _ _ _ whole.0 way) in
    let back = c.count-1.given.1 (sym c.walk.invariant.count_name) in
    omega (arith, whole.1, same, back)
