use Rattle.pas_program.specs.declared.routine.Routine.{Routine}
use Rattle.pas_program.specs.Size.{statement_size}
use Rattle.pas_valid.specs.Whole.{RoutineFits}
use Rattle.pas_valid.proofs.Lists.{each_next, each_last, spent_next}
use Rattle.pas_valid.proofs.parts.Parts.routines.Goals as goal

pub loop-r-preserved : goal.loop-r-preserved
loop-r-preserved c =
    let p = c.args.self.now in (
      each_next (λ j d. RoutineFits p.types.now p.vars.now p.routines.now p.asserts.now p.labels.now p.ranks.now j d) p.routines.now c.loop-r.r c.d-item.result c.loop-r-test.true c.d-item.is c.in_ok-routine.ensures.fits c.loop-r.invariant.0,
      spent_next (λ (d : Routine). statement_size d.body) p.routines.now c.loop-r.r _ c.loop-r.left _ c.d-item.result c.loop-r-test.true c.d-item.is c.in_ok-routine.ensures.size c.loop-r.invariant.1,
    )

pub returns-clause-fit : goal.returns-clause-fit
returns-clause-fit c =
    let p = c.args.self.now in
    each_last (λ j d. RoutineFits p.types.now p.vars.now p.routines.now p.asserts.now p.labels.now p.ranks.now j d) p.routines.now c.loop-r.r c.loop-r-test.false c.loop-r.invariant.0
