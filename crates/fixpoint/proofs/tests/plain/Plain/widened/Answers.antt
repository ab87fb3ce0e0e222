use Rattle.fixpoint.proofs.tests.plain.Plain.widened.Goals as goal

pub widen_from-requires-clause-steps : goal.widen_from-requires-clause-steps
widen_from-requires-clause-steps g c = c.args.self.now.rising
