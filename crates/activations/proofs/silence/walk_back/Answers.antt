use Rattle.std.proofs.Common.{◌≡◌, ℕ, ◌+◌, ◌-◌, ◌<◌, List, length, get_or, Some, slice_get, true, refl, arith}
use Rattle.std.proofs.lemmas.Option.{slice_get-get_or}
use Rattle.activations.specs.declared.discovery.Call.{Call}
use Rattle.activations.specs.Marks.{AreWithin}
use Rattle.activations.proofs.SilenceMarks.{walked_more, walked_none}
use Rattle.activations.proofs.silence.walk_back.Goals as goal

-- a call before the end of the list, and that its classes have marks
call_before : (calls : List Call) (classes n : ℕ) → AreWithin classes calls → 0 < n → n < length calls + 1
    → (slice_get calls (n - 1) ≡ Some (get_or calls (n - 1) (record { caller = 0; site = 0; callee = 0 })))
    × ((get_or calls (n - 1) (record { caller = 0; site = 0; callee = 0 })).caller < classes) × ((get_or calls (n - 1) (record { caller = 0; site = 0; callee = 0 })).callee < classes)
call_before calls classes n within some below =
    let d : Call = record { caller = 0; site = 0; callee = 0 } in
    let known = slice_get-get_or calls (n - 1) d (omega (arith, some, below)) in
    let both = within (n - 1) (get_or calls (n - 1) d) known in
    (known, both.0, both.1)

pub loop-left-init : goal.loop-left-init
loop-left-init c = record { within = omega arith; walked = walked_none c.args.calls.now c.args.mark (length c.args.calls.now) c.args.marks.now (omega arith) }

pub hand_on-requires-clause-caller : goal.hand_on-requires-clause-caller
hand_on-requires-clause-caller c =
    let at = call_before c.args.calls.now (length c.args.marks.now) c.loop-left.left c.requires c.loop-left-test.true (omega (arith, c.loop-left.invariant.within)) in
    omega (arith, at.1, c.loop-left.invariant.walked.marks.long)

pub hand_on-requires-clause-callee : goal.hand_on-requires-clause-callee
hand_on-requires-clause-callee c =
    let at = call_before c.args.calls.now (length c.args.marks.now) c.loop-left.left c.requires c.loop-left-test.true (omega (arith, c.loop-left.invariant.within)) in
    omega (arith, at.2, c.loop-left.invariant.walked.marks.long)

pub loop-left-preserved-then-hand_on : goal.loop-left-preserved-then-hand_on
loop-left-preserved-then-hand_on c =
    let calls = c.args.calls.now in
    let n = c.loop-left.left - 1 in
    let one : Call = get_or calls n (record { caller = 0; site = 0; callee = 0 }) in
    let at = call_before calls (length c.args.marks.now) c.loop-left.left c.requires c.loop-left-test.true (omega (arith, c.loop-left.invariant.within)) in
    record {
      within = omega (arith, c.loop-left.invariant.within);
      walked = walked_more calls c.args.mark n c.loop-left.left c.loop-left.changed true c.hand_on.result c.args.marks.now c.loop-left.marks c.hand_on.new.marks one
          (omega (arith, c.loop-left-test.true)) c.loop-left.invariant.walked at.0 (omega (arith, at.1, c.loop-left.invariant.walked.marks.long)) c.hand_on.ensures
          (λ _. refl) (λ h. absurd (grind (arith, h, c.if-hand_on.true)));
    }

pub loop-left-preserved : goal.loop-left-preserved
loop-left-preserved c =
    let calls = c.args.calls.now in
    let n = c.loop-left.left - 1 in
    let one : Call = get_or calls n (record { caller = 0; site = 0; callee = 0 }) in
    let at = call_before calls (length c.args.marks.now) c.loop-left.left c.requires c.loop-left-test.true (omega (arith, c.loop-left.invariant.within)) in
    record {
      within = omega (arith, c.loop-left.invariant.within);
      walked = walked_more calls c.args.mark n c.loop-left.left c.loop-left.changed c.loop-left.changed c.hand_on.result c.args.marks.now c.loop-left.marks c.hand_on.new.marks one
          (omega (arith, c.loop-left-test.true)) c.loop-left.invariant.walked at.0 (omega (arith, at.1, c.loop-left.invariant.walked.marks.long)) c.hand_on.ensures
          (λ h. absurd (grind (arith, h, c.if-hand_on.false))) (λ _. refl);
    }
