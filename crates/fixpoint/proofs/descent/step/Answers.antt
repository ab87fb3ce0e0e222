use Rattle.std.proofs.Common.{◌<◌, ℕ, nat_lt, Global, Vec, false, length, map, sym, ap, ◌∙◌}
use Rattle.std.proofs.lemmas.Bool.{OnTrue_at}
use Rattle.std.proofs.lemmas.List.{length-set}
use Rattle.fixpoint.specs.System.{IsTable}
use Rattle.fixpoint.proofs.Steps.{stepped_by, stepped_fits}
use Rattle.fixpoint.proofs.Visiting.{readers_below, visit_changed}
use Rattle.fixpoint.proofs.descent.step.Goals as goal

pub mark_readers-requires-clause-readers : goal.mark_readers-requires-clause-readers
mark_readers-requires-clause-readers g c =
    let items = λ (v : Vec ℕ Global). v.items in
    let below : c.node-node.result < (g.Q.Equations.system c.args.evaluator.now.eqs.now).nodes = rw c.node-node.ensures (c.requires.order.in_range c.args.place c.requires.place) in
    let all = ap length c.take.ensures.taken ∙ length-set c.args.marks.now.stale.now c.node-node.result false ∙ c.requires.marks in
    rw c.take.ensures.read_by (readers_below g.L.Lattice.ops g.met.L.Lattice.laws (g.Q.Equations.system c.args.evaluator.now.eqs.now)
    (map items c.args.marks.now.read_by.now) c.node-node.result c.take.new.self.stale.now c.requires.given.reversal below all)

pub returns-clause-value : goal.returns-clause-value
returns-clause-value g c =
    stepped_by g.L.Lattice.ops g.met.L.Lattice.laws (g.Q.Equations.system c.args.evaluator.now.eqs.now) (g.met.Q.Equations.laws c.args.evaluator.now.eqs.now) c.args.order.now
    (map g.L.Lattice.value c.args.limits.now) c.requires.order c.requires.given.limits_fit
    (map g.L.Lattice.value c.args.table.now) (map g.L.Lattice.value c.shrink.new.table) c.args.place c.node-node.result (g.L.Lattice.value c.evaluate.new.self.scratch.now)
    (nat_lt c.args.place c.end.result) c.node-node.ensures c.evaluate.ensures.value (ap (λ (e : ℕ). nat_lt c.args.place e) c.end.ensures) c.shrink.ensures.value

pub returns-clause-visits : goal.returns-clause-visits
returns-clause-visits g c =
    let items = λ (v : Vec ℕ Global). v.items in
    let o = g.L.Lattice.ops in
    let s = g.Q.Equations.system c.args.evaluator.now.eqs.now in
    let t = map g.L.Lattice.value c.args.table.now in
    let k = c.node-node.result in
    let below : k < s.nodes = rw c.node-node.ensures (c.requires.order.in_range c.args.place c.requires.place) in
    let long = c.mark_readers.ensures.size ∙ ap length c.take.ensures.taken ∙ length-set c.args.marks.now.stale.now k false in
    let made = stepped_by g.L.Lattice.ops g.met.L.Lattice.laws (g.Q.Equations.system c.args.evaluator.now.eqs.now) (g.met.Q.Equations.laws c.args.evaluator.now.eqs.now) c.args.order.now
    (map g.L.Lattice.value c.args.limits.now) c.requires.order c.requires.given.limits_fit
    (map g.L.Lattice.value c.args.table.now) (map g.L.Lattice.value c.shrink.new.table) c.args.place c.node-node.result (g.L.Lattice.value c.evaluate.new.self.scratch.now)
    (nat_lt c.args.place c.end.result) c.node-node.ensures c.evaluate.ensures.value (ap (λ (e : ℕ). nat_lt c.args.place e) c.end.ensures) c.shrink.ensures.value in
    let fits : IsTable o s (map g.L.Lattice.value c.shrink.new.table) = rw made (stepped_fits g.L.Lattice.ops g.met.L.Lattice.laws (g.Q.Equations.system c.args.evaluator.now.eqs.now) (g.met.Q.Equations.laws c.args.evaluator.now.eqs.now) c.args.order.now
    (map g.L.Lattice.value c.args.limits.now) c.requires.order c.requires.given.limits_fit t c.args.place c.requires.place c.requires.table) in
    rw (← c.node-node.ensures) (visit_changed o g.met.L.Lattice.laws s (map items c.args.marks.now.read_by.now) k t _ c.args.marks.now.stale.now c.mark_readers.new.self.stale.now _ _
    c.requires.given.reversal below c.requires.marks long (sym c.take.ensures.had ∙ c.if-not-take.false)
    (rw (c.take.ensures.read_by, c.take.ensures.taken) at c.mark_readers.ensures.added) c.requires.table fits
    (OnTrue_at c.if-not-shrink.false c.shrink.ensures.changed) c.evaluate.ensures.counted)
