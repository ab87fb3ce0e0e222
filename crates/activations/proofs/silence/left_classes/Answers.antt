use Rattle.std.proofs.Common.{◌≡◌, ℕ, ◌<◌, ◌++◌, Bool, List, true, drop, length, slice_get, take, sym, ap, subst, ◌∙◌, arith}
use Rattle.std.proofs.Math.Seq.{take-append_seam}
use Rattle.alias_class.specs.declared.outline.Outline.{Outline}
use Rattle.alias_class.specs.Cells.{routine_of}
use Rattle.alias_class.specs.Classes.{class_at}
use Rattle.activations.specs.declared.discovery.Call.{Call}
use Rattle.activations.specs.Arcs.{calls}
use Rattle.activations.specs.Marks.{AreClosedFrom, AreWithin, MarksSome}
use Rattle.activations.specs.Outside.{AreOfRoutines}
use Rattle.activations.specs.Silence.{AreLeft}
use Rattle.activations.specs.Unfolding.{unfolding_of}
use Rattle.activations.proofs.SilenceReach.{are_left, calls_within}
use Rattle.activations.proofs.silence.left_classes.Goals as goal

-- what was written over all marks
written : (n : ℕ) (new old : List Bool) → length new ≡ n → take n (new ++ drop (length new) old) ≡ new
written n new old is = ap (λ (k : ℕ). take k (new ++ drop (length new) old)) (sym is) ∙ take-append_seam new (drop (length new) old)

pub mark_callers-requires : goal.mark_callers-requires
mark_callers-requires c =
    let f = c.args.flow.now in
    let cs = c.args.found.now.classes.classes in
    let same : c.deref-2.result.now ≡ calls (unfolding_of f cs) = c.deref-2.ensures.value ∙ c.requires.calls in
    let long : length cs ≡ length c.deref_mut.result.now = sym (ap (λ (l : List Bool). length l) c.deref_mut.ensures.value ∙ c.in_ok-marks.ensures.long) in
    subst (λ (n : ℕ). AreWithin n c.deref-2.result.now) long (subst (λ (l : List Call). AreWithin (length cs) l) (sym same) (calls_within f cs c.requires.whole))

pub returns : goal.returns
returns c =
    let f = c.args.flow.now in
    let t = c.args.found.now.classes in
    let cs = t.classes in
    let u = unfolding_of f cs in
    let first = c.in_ok-marks.marks.items in
    let new = c.mark_callers.new.marks in
    let same : c.deref-2.result.now ≡ calls u = c.deref-2.ensures.value ∙ c.requires.calls in
    let of_routines = subst (λ (l : List Bool). AreOfRoutines t l (length cs) first) c.deref.ensures.value c.in_ok-marks.ensures in
    let each = subst (λ (o : Outline). (i : ℕ) → i < length cs → slice_get first i ≡ slice_get c.in_ok-routines.routines.items (routine_of o (class_at cs i))) c.requires.outline of_routines.each in
    let by_calls = subst (λ (l : List Call). MarksSome l true c.deref_mut.result.now new) same c.mark_callers.ensures.marks in
    let some = subst (λ (l : List Bool). MarksSome (calls u) true l new) c.deref_mut.ensures.value by_calls in
    let closed = subst (λ (l : List Call). AreClosedFrom 0 l true new) same c.mark_callers.ensures.closed in
    let left = are_left f cs c.requires.whole c.in_ok-routines.routines.items first new c.in_ok-routines.ensures of_routines.long each some closed in
    let long : length new ≡ c.in_ok-marks.marks.len = omega (arith, some.long, c.in_ok-marks.marks.ok.0) in
    subst (AreLeft u) (sym (written c.in_ok-marks.marks.len new first long)) left
