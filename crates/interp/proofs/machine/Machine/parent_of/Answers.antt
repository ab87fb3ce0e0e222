use Rattle.std.proofs.Common.{ap, ◌∙◌, Option, ℕ}
use Rattle.std.specs.Option.{option_and_then, option_map}
use Rattle.pas_program.specs.Tables.{Head, head_of}
use Rattle.control_points.specs.Actions.{top_depth}
use Rattle.control_points.specs.Finding.{around}
use Rattle.interp.proofs.Called.{parent_around}
use Rattle.interp.specs.Machines.{top_routine}
use Rattle.interp.proofs.machine.Machine.parent_of.Goals as goal

pub depth_of-requires : goal.depth_of-requires
depth_of-requires c =
    let m = c.args.self.now in
    parent_around m.flow.now.program (top_routine m.frames.items) c.args.routine c.in-Some.parent c.routine.result.now c.routine.ensures.value c.requires.callable c.in-Some.is

pub returns-in-Some-clause-exact : goal.returns-in-Some-clause-exact
returns-in-Some-clause-exact c = λ s t.
    let f : ℕ → Option ℕ = λ p. around s.stack (top_depth s.stack) p in
    ap (λ o. option_and_then (λ (h : Head). option_and_then f h.parent) (option_map head_of o)) c.routine.ensures.value
    ∙ ap (option_and_then f) c.in-Some.is ∙ c.depth_of.ensures.around s t
