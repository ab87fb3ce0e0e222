use Rattle.pas_program.specs.declared.routine.Assert.{Assert}
use Rattle.pas_program.specs.Size.{expr_size}
use Rattle.pas_valid.specs.Whole.{AssertFits}
use Rattle.pas_valid.proofs.Lists.{each_next, each_last, spent_next}
use Rattle.pas_valid.proofs.parts.Parts.asserts.Goals as goal

pub loop-d-preserved : goal.loop-d-preserved
loop-d-preserved c =
    let p = c.args.self.now in (
      each_next (λ j d. AssertFits p.types.now p.vars.now p.routines.now p.asserts.now p.labels.now d) p.asserts.now c.loop-d.d-index c.d-item.result c.loop-d-test.true c.d-item.is c.in_ok-assert.ensures.fits c.loop-d.invariant.0,
      spent_next (λ (d : Assert). expr_size d.cond) p.asserts.now c.loop-d.d-index _ c.loop-d.left _ c.d-item.result c.loop-d-test.true c.d-item.is c.in_ok-assert.ensures.size c.loop-d.invariant.1,
    )

pub returns-clause-fit : goal.returns-clause-fit
returns-clause-fit c =
    let p = c.args.self.now in
    each_last (λ j d. AssertFits p.types.now p.vars.now p.routines.now p.asserts.now p.labels.now d) p.asserts.now c.loop-d.d-index c.loop-d-test.false c.loop-d.invariant.0
