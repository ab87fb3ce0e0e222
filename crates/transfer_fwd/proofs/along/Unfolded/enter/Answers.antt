use Rattle.std.proofs.Common.{ap, ◌∙◌}
use Rattle.environment.specs.Environments.{Environment, env_join}
use Rattle.transfer_fwd.specs.Crossed.{crossing_of}
use Rattle.transfer_fwd.specs.Crossings.{Crossing, called, entry_from}
use Rattle.transfer_fwd.proofs.AlongArcs.{call_leaves}
use Rattle.transfer_fwd.proofs.along.Unfolded.enter.Goals as goal

pub crossing-crossing-requires-clause-stands : goal.crossing-crossing-requires-clause-stands
crossing-crossing-requires-clause-stands c = call_leaves c.args.self.now.flow.now c.args.self.now.graph.now c.args.arc.now c.requires.arc c.requires.call

pub returns-clause-value : goal.returns-clause-value
returns-clause-value c =
    c.join_entry.ensures.value
    ∙ ap (λ (e : Environment). env_join c.args.out.now.env (entry_from (crossing_of c.crossing-crossing.result) e)) c.leave.ensures.value
    ∙ ap (λ (x : Crossing). env_join c.args.out.now.env (called x c.args.scratch.now.env)) c.crossing-crossing.ensures.value
