use Rattle.std.proofs.Common.{sym, ◌∙◌}
use Rattle.pas_program.specs.Size.{actual_size}
use Rattle.pas_valid.specs.Passing.{known}
use Rattle.pas_valid.proofs.Lists.{walked_next, passed_next}
use Rattle.pas_valid.proofs.ground.Ground.+expr.Goals as goal

pub actuals-loop-k-preserved : goal.actuals-loop-k-preserved
actuals-loop-k-preserved t c = (
  walked_next _ _ actual_size c.args.actuals.now c.loop-k.k _ c.loop-k.left _ c.index-actuals-k.result c.loop-k-test.true c.index-actuals-k.is c.in_ok-actual.ensures.scopes c.in_ok-actual.ensures.scopes c.in_ok-actual.ensures.size c.loop-k.invariant.0,
  c.loop-k.invariant.1 ∙ passed_next (known c.args.self.now) c.args.actuals.now c.args.formals.now c.loop-k.k c.index-actuals-k.result c.in_ok-formal.field-0.now c.loop-k-test.true c.index-actuals-k.is (sym c.in_ok-formal.ensures) c.in_ok-actual.ensures.types,
)
