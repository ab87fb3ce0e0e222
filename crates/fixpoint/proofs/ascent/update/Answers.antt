use Rattle.std.proofs.Common.{ℕ, Global, Vec, false, length, map, set, sym, ap, ◌∙◌}
use Rattle.std.proofs.lemmas.Bool.{OnTrue_at}
use Rattle.std.proofs.lemmas.List.{length-set}
use Rattle.fixpoint.specs.Progress.{IsInside}
use Rattle.fixpoint.proofs.Updates.{evaluated_inside}
use Rattle.fixpoint.proofs.Visiting.{readers_below, visit_changed}
use Rattle.fixpoint.proofs.ascent.update.Goals as goal

pub mark_readers-requires-clause-readers : goal.mark_readers-requires-clause-readers
mark_readers-requires-clause-readers g c =
    let items = λ (v : Vec ℕ Global). v.items in
    let all = ap length c.take.ensures.taken ∙ length-set c.args.marks.now.stale.now c.args.node false ∙ c.requires.marks in
    rw c.take.ensures.read_by (readers_below g.L.Lattice.ops g.met.L.Lattice.laws (g.Q.Equations.system c.args.evaluator.now.eqs.now)
    (map items c.args.marks.now.read_by.now) c.args.node c.take.new.self.stale.now c.requires.given.reversal c.requires.node all)

pub returns-then-replace-clause-visits : goal.returns-then-replace-clause-visits
returns-then-replace-clause-visits g c =
    let items = λ (v : Vec ℕ Global). v.items in
    let o = g.L.Lattice.ops in
    let laws = g.met.L.Lattice.laws in
    let s = g.Q.Equations.system c.args.evaluator.now.eqs.now in
    let t = map g.L.Lattice.value c.args.table.now in
    let limits = map g.L.Lattice.value c.args.limits.now in
    let long = c.mark_readers.ensures.size ∙ ap length c.take.ensures.taken ∙ length-set c.args.marks.now.stale.now c.args.node false in
    let made = c.replace.ensures.value ∙ ap (set t c.args.node) c.evaluate_within.ensures.value in
    let inside : IsInside o s limits (map g.L.Lattice.value c.replace.new.table) = rw made (evaluated_inside o laws s (g.met.Q.Equations.laws c.args.evaluator.now.eqs.now) limits c.requires.given.limits_fit t c.args.node c.requires.node c.requires.inside) in
    visit_changed o laws s (map items c.args.marks.now.read_by.now) c.args.node t _ c.args.marks.now.stale.now c.mark_readers.new.self.stale.now _ _
    c.requires.given.reversal c.requires.node c.requires.marks long (sym c.take.ensures.had ∙ c.if-not-take.false)
    (rw (c.take.ensures.read_by, c.take.ensures.taken) at c.mark_readers.ensures.added) c.requires.inside.fits inside.fits
    (OnTrue_at c.if-replace.true c.replace.ensures.changed) c.evaluate_within.ensures.counted
