use Rattle.std.proofs.Common.{ap, ◌∙◌}
use Rattle.pas_program.specs.Checked.{tables}
use Rattle.pas_program.specs.Typed.{reached}
use Rattle.abstract_expr.proofs.AccessTypes.{type_same}
use Rattle.abstract_expr.proofs.scope.Scope.access_type.Goals as goal

pub returns-clause-value : goal.returns-clause-value
returns-clause-value c =
    let p = c.args.self.now.flow.now.program in
    c.type_of_access.ensures.value ∙ ap (λ q. (reached (tables q) c.args.access.now).of_type) c.program.ensures ∙ type_same (tables p) c.args.access.now c.requires
