use Rattle.interp.specs.Calls.{HasNew}
use Rattle.interp.specs.Meant.{InState}
use Rattle.interp.specs.Same.{SameActivations}
use Rattle.interp.specs.Standing.{StandsFor}
use Rattle.interp.proofs.LandingPassing.{PassedSoFar}
use Rattle.interp.proofs.Passing.{LinkedSoFar}
use Rattle.interp.proofs.machine.Machine.pass.Given as goal

-- the activations and the state stay, there is room for the new one, the formals so far are linked, and have what their actuals give
abbrev pub invariant-loop-i : goal.invariant-loop-i
invariant-loop-i l =
    let p = l.self.flow.now.program in
    record {
      kept : SameActivations l.initial.self l.self;
      room : HasNew p l.self.frames.items l.routine l.self.links.items l.self.scalars.items;
      linked : LinkedSoFar p l.self.frames.items l.formals l.i l.self.links.items;
      state : InState l.initial.self (λ s. StandsFor l.self s);
      passed : InState l.initial.self (λ s. PassedSoFar l.initial.self.flow.now l.initial.self.frames.items l.routine s l.actuals l.formals l.i l.self.links.items l.self.scalars.items);
    }
