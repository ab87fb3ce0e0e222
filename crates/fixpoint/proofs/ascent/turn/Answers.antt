use Rattle.std.proofs.Common.{ℕ, Global, Vec, false, length, map, set, sym, ap, ◌∙◌}
use Rattle.std.proofs.lemmas.Bool.{OnTrue_at}
use Rattle.std.proofs.lemmas.List.{length-set}
use Rattle.fixpoint.specs.System.{element}
use Rattle.fixpoint.specs.Progress.{IsInside}
use Rattle.fixpoint.proofs.Updates.{widened_inside}
use Rattle.fixpoint.proofs.Visiting.{readers_below, visit_changed}
use Rattle.fixpoint.proofs.ascent.turn.Goals as goal

pub mark_readers-requires-clause-readers : goal.mark_readers-requires-clause-readers
mark_readers-requires-clause-readers g c =
    let items = λ (v : Vec ℕ Global). v.items in
    let all = ap length c.take.ensures.taken ∙ length-set c.args.marks.now.stale.now c.args.head false ∙ c.requires.marks in
    rw c.take.ensures.read_by (readers_below g.L.Lattice.ops g.met.L.Lattice.laws (g.Q.Equations.system c.args.evaluator.now.eqs.now)
    (map items c.args.marks.now.read_by.now) c.args.head c.take.new.self.stale.now c.requires.given.reversal c.requires.head all)

pub returns-then-widen-clause-visits : goal.returns-then-widen-clause-visits
returns-then-widen-clause-visits g c =
    let items = λ (v : Vec ℕ Global). v.items in
    let o = g.L.Lattice.ops in
    let laws = g.met.L.Lattice.laws in
    let s = g.Q.Equations.system c.args.evaluator.now.eqs.now in
    let t = map g.L.Lattice.value c.args.table.now in
    let limits = map g.L.Lattice.value c.args.limits.now in
    let long = c.mark_readers.ensures.size ∙ ap length c.take.ensures.taken ∙ length-set c.args.marks.now.stale.now c.args.head false in
    let made = c.widen.ensures.value
    ∙ ap (λ y. set t c.args.head (o.widen (element o t c.args.head) y (element o limits c.args.head) c.args.steps.now)) c.evaluate_within.ensures.value in
    let inside : IsInside o s limits (map g.L.Lattice.value c.widen.new.table) = rw made (widened_inside o laws s (g.met.Q.Equations.laws c.args.evaluator.now.eqs.now) limits c.requires.given.limits_fit c.args.steps.now t c.args.head
    c.requires.steps c.requires.head c.requires.inside) in
    visit_changed o laws s (map items c.args.marks.now.read_by.now) c.args.head t _ c.args.marks.now.stale.now c.mark_readers.new.self.stale.now _ _
    c.requires.given.reversal c.requires.head c.requires.marks long (sym c.take.ensures.had ∙ c.if-not-take.false)
    (rw (c.take.ensures.read_by, c.take.ensures.taken) at c.mark_readers.ensures.added) c.requires.inside.fits inside.fits
    (OnTrue_at c.if-widen.true c.widen.ensures.changed) c.evaluate_within.ensures.counted
