-- What calls leave as it is.
use Rattle.std.specs.Prelude.{◌≡◌}
use Rattle.interp.specs.declared.machine.Machine.{Machine}

-- the activations, the input and the output are the same
pub record SameActivations (old new : Machine) : Type 0 where
  pub flow : new.flow.now ≡ old.flow.now
  pub frames : new.frames.items ≡ old.frames.items
  pub items : new.items.now ≡ old.items.now
  pub output : new.output.items ≡ old.output.items
