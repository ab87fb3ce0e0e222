use Rattle.std.proofs.Common.{◌≡◌, ℕ, ◌<◌, Bool, false, List, length, Some, slice_get, sym, ap, subst, ◌∙◌, arith}
use Rattle.pas_program.specs.declared.program.Program.{Program}
use Rattle.pas_program.specs.declared.routine.Assert.{Assert}
use Rattle.alias_class.specs.declared.outline.Outline.{Outline}
use Rattle.alias_class.specs.Cells.{routine_of}
use Rattle.alias_class.specs.Classes.{class_at}
use Rattle.activations.specs.declared.discovery.Call.{Call}
use Rattle.activations.specs.Arcs.{calls}
use Rattle.activations.specs.Drawn.{Drawn}
use Rattle.activations.specs.Marks.{AreClosedFrom, AreWithin, MarksSome}
use Rattle.activations.specs.Outside.{AreOthers, IsOther}
use Rattle.activations.specs.Silence.{AreSilent}
use Rattle.activations.specs.Unfolding.{unfolding_of}
use Rattle.activations.proofs.SilenceReach.{are_silent, calls_within}
use Rattle.activations.proofs.graph.Graph.silent_into.Goals as goal

pub mark_callers-requires : goal.mark_callers-requires
mark_callers-requires c =
    let f = c.args.flow.now in
    let g = c.args.self.now in
    let cs = g.table.classes in
    let same : c.deref.result.now ≡ calls (unfolding_of f cs) = c.deref.ensures.value ∙ ap (λ (d : Drawn). d.calls) c.self.view_is ∙ c.requires.unfolding.unfolded.calls in
    subst (λ (n : ℕ). AreWithin n c.deref.result.now) (sym c.loop-class.invariant.long)
    (subst (λ (l : List Call). AreWithin (length cs) l) (sym same) (calls_within f cs c.requires.unfolding.unfolded.whole))

pub returns : goal.returns
returns c = λ a at.
    let f = c.args.flow.now in
    let g = c.args.self.now in
    let cs = g.table.classes in
    let u = unfolding_of f cs in
    let stands = c.assertion.result.now.routine in
    let same : c.deref.result.now ≡ calls u = c.deref.ensures.value ∙ ap (λ (d : Drawn). d.calls) c.self.view_is ∙ c.requires.unfolding.unfolded.calls in
    let known = subst (λ (p : Program). slice_get p.asserts c.args.assert ≡ Some c.assertion.result.now) c.program.ensures c.assertion.ensures.value in
    let is : Some c.assertion.result.now ≡ Some a = sym known ∙ at in
    let one : c.assertion.result.now ≡ a = grind (arith, is) in
    let some = subst (λ (l : List Call). MarksSome l false c.loop-class.out c.mark_callers.new.marks) same c.mark_callers.ensures.marks in
    let closed = subst (λ (l : List Call). AreClosedFrom 0 l false c.mark_callers.new.marks) same c.mark_callers.ensures.closed in
    let number = ap (λ (d : Drawn). length d.table.classes) c.self.view_is in
    let all : c.loop-class.class ≡ length cs = omega (arith, c.loop-class-test.false, c.count-class-end.ensures.value, c.loop-class.auto.class-end, number) in
    let others = subst (λ (n : ℕ). AreOthers g.table g.left stands n c.loop-class.out) all c.loop-class.invariant in
    let each = subst (λ (o : Outline). (i : ℕ) (b : Bool) → i < length cs → slice_get c.loop-class.out i ≡ Some b → IsOther g.left stands i (routine_of o (class_at cs i)) b) c.requires.unfolding.outline others.each in
    subst (λ (x : Assert). AreSilent u x.routine c.mark_callers.new.marks) one
    (are_silent f cs c.requires.unfolding.unfolded.whole stands g.left c.loop-class.out c.mark_callers.new.marks c.requires.unfolding.unfolded.left others.long each some closed)
