use Rattle.std.proofs.lemmas.List.{get_or_default}
use Rattle.std.specs.List.{slice_get}
use Rattle.control_points.specs.Thresholds.{condition_constants}
use Rattle.control_points.proofs.Walked.{walked_all, walked_more}
use Rattle.control_points.proofs.constants.Constants.assertions.Goals as goal

pub loop-a-preserved : goal.loop-a-preserved
loop-a-preserved c =
    let listed = c.args.listed.now in
    let within = c.loop-a-test.true in
    walked_more (λ a. condition_constants (slice_get c.args.program.now.asserts a)) listed c.loop-a.a-index _ _ _ _ within (get_or_default listed c.loop-a.a-index _ _ within) c.in_ok-condition.ensures c.loop-a.invariant

pub returns : goal.returns
returns c = walked_all (λ a. condition_constants (slice_get c.args.program.now.asserts a)) c.args.listed.now c.loop-a.a-index c.loop-a.self.values _ c.loop-a.self.first c.loop-a-test.false c.loop-a.invariant
