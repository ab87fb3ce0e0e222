use Rattle.std.proofs.Common.{◌<◌, length, map, drop}
use Rattle.pas_program.specs.Checked.{tables}
use Rattle.pas_program.specs.Typed.{hosted, reached}
use Rattle.pas_program.specs.declared.expr.Actual.TheViews.{out-Access}
use Rattle.pas_program.proofs.Subscripts.{Leads}
use Rattle.pas_program.proofs.program.Program.type_of_access.Given as goal

-- the subscripts left lead from the type reached to the whole's
abbrev pub invariant-loop-subscript : goal.invariant-loop-subscript
invariant-loop-subscript l =
    (l.t < length l.self.types) × Leads (tables l.self) (reached (tables l.self) l.access) l.t (drop l._subscript-index (map (hosted (tables l.self)) (out-Access l.access).subscripts))
