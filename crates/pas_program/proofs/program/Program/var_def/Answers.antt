use Rattle.std.proofs.lemmas.Bool.{and_parts, ltb-true}
use Rattle.std.proofs.lemmas.Option.{slice_get-get_or}
use Rattle.pas_program.proofs.program.Program.var_def.Goals as goal

pub returns-clause-routine_in_range : goal.returns-clause-routine_in_range
returns-clause-routine_in_range c =
    rw c.as_slice.ensures (ltb-true _ _ (and_parts _ _ (c.args.self.now.in_range.var c.args.v _ (slice_get-get_or c.args.self.now.vars c.args.v _ c.requires))).0)

pub returns-clause-type_in_range : goal.returns-clause-type_in_range
returns-clause-type_in_range c =
    rw c.as_slice.ensures (ltb-true _ _ (and_parts _ _ (c.args.self.now.in_range.var c.args.v _ (slice_get-get_or c.args.self.now.vars c.args.v _ c.requires))).1)
