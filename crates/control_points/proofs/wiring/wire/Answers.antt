use Rattle.std.proofs.Common.{◌≡◌, suc, ◌+◌, ◌-◌, ◌<◌, get_or, length, drop, sym, ap, subst, ◌∙◌, Some, add-one, arith}
use Rattle.std.proofs.lemmas.Option.{slice_get-get_or}
use Rattle.control_points.specs.Extents.{routines_sizes}
use Rattle.control_points.specs.Wired.{Begins, points_of}
use Rattle.control_points.proofs.Drawn.{drawn_weaker}
use Rattle.control_points.proofs.Whole.{blocks_in, number_few, routine_next, size_at}
use Rattle.control_points.proofs.Followed.{leads_on, leads_end}
use Rattle.control_points.proofs.Laying.{routines_left, routines_done}
use Rattle.control_points.specs.Edges.{plan_from}
use Rattle.control_points.proofs.wiring.wire.Goals as goal

pub bounds-as_slice-r : goal.bounds-as_slice-r
bounds-as_slice-r c =
    let p = c.args.program.now in
    let n = c.args.numbering.now in
    let blocks = blocks_in p n.marks c.requires.marks n.entries c.requires.entries in
    omega (arith, ap length c.as_slice.ensures, blocks.starts, ap length c.as_slice-routine-items.ensures)

pub bounds-as_slice-r-in-loop-r : goal.bounds-as_slice-r-in-loop-r
bounds-as_slice-r-in-loop-r c =
    let p = c.args.program.now in
    let n = c.args.numbering.now in
    let blocks = blocks_in p n.marks c.requires.marks n.entries c.requires.entries in
    omega (arith, ap length c.as_slice-in-loop-r.ensures, blocks.starts, ap length c.as_slice-routine-items.ensures)

pub overflow_sub-exit : goal.overflow_sub-exit
overflow_sub-exit c =
    let p = c.args.program.now in
    let n = c.args.numbering.now in
    let r = c.loop-r.r in
    let within : r < length p.routines = omega (arith, ap length c.as_slice-routine-items.ensures) in
    let block = (blocks_in p n.marks c.requires.marks n.entries c.requires.entries).block r within in
    let read : get_or c.as_slice-in-loop-r.result.now (r + 1) 0 ≡ get_or n.entries (suc r) 0 = ap (λ xs. get_or xs (r + 1) 0) c.as_slice-in-loop-r.ensures ∙ ap (λ k. get_or n.entries k 0) (add-one r) in
    omega (arith, block.order, read)

pub overflow_cast-scene : goal.overflow_cast-scene
overflow_cast-scene c =
    let p = c.args.program.now in
    let n = c.args.numbering.now in
    let r = c.loop-r.r in
    let within : r < length p.routines = omega (arith, ap length c.as_slice-routine-items.ensures) in
    omega (arith, number_few p n.marks c.requires.marks n.entries c.requires.entries n.few r within)

pub invariant_of-scene : goal.invariant_of-scene
invariant_of-scene c =
    let p = c.args.program.now in
    let n = c.args.numbering.now in
    let r = c.loop-r.r in
    let within : r < length p.routines = omega (arith, ap length c.as_slice-routine-items.ensures) in
    let read : get_or c.as_slice-in-loop-r.result.now (r + 1) 0 ≡ get_or n.entries (suc r) 0 = ap (λ xs. get_or xs (r + 1) 0) c.as_slice-in-loop-r.ensures ∙ ap (λ k. get_or n.entries k 0) (add-one r) in
    record {
      placed = record {
        blocks = blocks_in p n.marks c.requires.marks n.entries c.requires.entries;
        known = within;
        entry_is = ap (λ xs. get_or xs r 0) c.as_slice.ensures;
        exit_is = ap (λ k. k - 1) read;
        tables = c.requires.tables;
        labelled = c.requires.labelled;
        jumps = c.requires.jumps;
      };
    }

pub block-requires-clause-outermost : goal.block-requires-clause-outermost
block-requires-clause-outermost c =
    let p = c.args.program.now in
    let r = c.loop-r.r in
    let d = c.routine-item.result in
    let within : r < length p.routines = omega (arith, ap length c.as_slice-routine-items.ensures) in
    let is = rw c.as_slice-routine-items.ensures at c.routine-item.is in
    p.in_scope.outermost r d (slice_get-get_or p.routines r d within ∙ ap Some (sym is))

pub block-requires-clause-numbers : goal.block-requires-clause-numbers
block-requires-clause-numbers c =
    let p = c.args.program.now in
    let r = c.loop-r.r in
    let d = c.routine-item.result in
    let within : r < length p.routines = omega (arith, ap length c.as_slice-routine-items.ensures) in
    let is = rw c.as_slice-routine-items.ensures at c.routine-item.is in
    p.in_range.body r d (slice_get-get_or p.routines r d within ∙ ap Some (sym is))

pub block-requires-clause-types : goal.block-requires-clause-types
block-requires-clause-types c =
    let p = c.args.program.now in
    let r = c.loop-r.r in
    let d = c.routine-item.result in
    let within : r < length p.routines = omega (arith, ap length c.as_slice-routine-items.ensures) in
    let is = rw c.as_slice-routine-items.ensures at c.routine-item.is in
    p.well_typed.body r d (slice_get-get_or p.routines r d within ∙ ap Some (sym is))

pub block-requires-clause-scopes : goal.block-requires-clause-scopes
block-requires-clause-scopes c =
    let p = c.args.program.now in
    let r = c.loop-r.r in
    let d = c.routine-item.result in
    let within : r < length p.routines = omega (arith, ap length c.as_slice-routine-items.ensures) in
    let is = rw c.as_slice-routine-items.ensures at c.routine-item.is in
    p.in_scope.body r d (slice_get-get_or p.routines r d within ∙ ap Some (sym is))

pub block-requires-clause-size : goal.block-requires-clause-size
block-requires-clause-size c =
    let p = c.args.program.now in
    let n = c.args.numbering.now in
    let r = c.loop-r.r in
    let d = c.routine-item.result in
    let within : r < length p.routines = omega (arith, ap length c.as_slice-routine-items.ensures) in
    let is = rw c.as_slice-routine-items.ensures at c.routine-item.is in
    let first : get_or c.as_slice.result.now r 0 ≡ get_or n.entries r 0 = ap (λ xs. get_or xs r 0) c.as_slice.ensures in
    let next : get_or c.as_slice-in-loop-r.result.now (r + 1) 0 ≡ get_or n.entries (suc r) 0 = ap (λ xs. get_or xs (r + 1) 0) c.as_slice-in-loop-r.ensures ∙ ap (λ k. get_or n.entries k 0) (add-one r) in
    omega (arith, first, next, size_at p n.marks c.requires.marks n.entries c.requires.entries r d (slice_get-get_or p.routines r d within ∙ ap Some (sym is)))

pub block-requires-clause-sizes : goal.block-requires-clause-sizes
block-requires-clause-sizes c =
    let p = c.args.program.now in
    let r = c.loop-r.r in
    let d = c.routine-item.result in
    let within : r < length p.routines = omega (arith, ap length c.as_slice-routine-items.ensures) in
    let is = rw c.as_slice-routine-items.ensures at c.routine-item.is in
    (routine_next p.routines c.args.numbering.now.sizes r d c.loop-r.order within is c.loop-r.invariant.sizes).0

pub loop-r-preserved : goal.loop-r-preserved
loop-r-preserved c =
    let p = c.args.program.now in
    let n = c.args.numbering.now in
    let r = c.loop-r.r in
    let d = c.routine-item.result in
    let within : r < length p.routines = omega (arith, ap length c.as_slice-routine-items.ensures) in
    let is = rw c.as_slice-routine-items.ensures at c.routine-item.is in
    let rest = (routine_next p.routines n.sizes r d c.loop-r.order within is c.loop-r.invariant.sizes).1 in
    let block = (blocks_in p n.marks c.requires.marks n.entries c.requires.entries).block r within in
    let read : get_or c.as_slice-in-loop-r.result.now (r + 1) 0 ≡ get_or n.entries (r + 1) 0 = ap (λ xs. get_or xs (r + 1) 0) c.as_slice-in-loop-r.ensures in
    let same : get_or n.entries (r + 1) 0 ≡ get_or n.entries (suc r) 0 = ap (λ k. get_or n.entries k 0) (add-one r) in
    record {
      sizes = subst (λ k. Begins (routines_sizes (drop (r + 1) p.routines)) (drop k n.sizes)) (sym c.in_ok-order.ensures.order) rest;
      drawn = drawn_weaker p (points_of n.marks) _ _ _ _ c.in_ok-order.ensures.graph (omega (arith, read, same, block.order));
      exact = leads_on c.loop-r.invariant.exact c.in_ok-order.ensures.exact (routines_left (plan_from p n.marks n.entries) p.routines r d within is);
    }

pub returns-clause-edges : goal.returns-clause-edges
returns-clause-edges c =
    let p = c.args.program.now in
    let n = c.args.numbering.now in
    (leads_end c.loop-r.invariant.exact (routines_done (plan_from p n.marks n.entries) p.routines c.loop-r.r (omega (arith, c.loop-r-test.false, ap length c.as_slice-routine-items.ensures)))).0

pub returns-clause-checks : goal.returns-clause-checks
returns-clause-checks c =
    let p = c.args.program.now in
    let n = c.args.numbering.now in
    (leads_end c.loop-r.invariant.exact (routines_done (plan_from p n.marks n.entries) p.routines c.loop-r.r (omega (arith, c.loop-r-test.false, ap length c.as_slice-routine-items.ensures)))).1
