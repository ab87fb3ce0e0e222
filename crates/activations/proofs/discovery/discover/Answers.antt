use Rattle.std.proofs.Common.{arith}
use Rattle.activations.proofs.DiscoveredSteps.{all_found}
use Rattle.activations.proofs.discovery.discover.Goals as goal

pub returns-clause-found : goal.returns-clause-found
returns-clause-found c =
    all_found c.args.flow.now c.loop-class.class c.loop-class.found (omega (arith, c.loop-class-test.false, c.count.ensures.value, c.loop-class.invariant.number)) c.count.ensures.each_is_a_class c.loop-class.invariant
