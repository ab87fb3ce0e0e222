use Rattle.std.proofs.Common.{refl}
use Rattle.activations.proofs.DiscoveredSteps.{found_none}
use Rattle.activations.proofs.discovery.Discovery.of_block.Goals as goal

pub returns : goal.returns
returns c = found_none c.args.flow.now (record { classes = c.in_ok-new.field-0; calls = c.new-2.result; size = 0 }) c.in_ok-new.ensures c.new-2.ensures.items refl
