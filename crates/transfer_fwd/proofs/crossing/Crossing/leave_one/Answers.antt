use Rattle.std.proofs.Common.{◌≡◌, Bool, Some, true, false, ap, sym, subst, ◌∙◌}
use Rattle.std.specs.Prelude.{slice_get, if◌then◌else◌}
use Rattle.alias_class.specs.declared.bind.Bind.{Bind}
use Rattle.interval.specs.declared.val.Val.{Val}
use Rattle.environment.specs.Environments.{undefined}
use Rattle.pas_program.specs.declared.program.Program.{Program}
use Rattle.pas_program.specs.declared.variable.VarDef.{VarDef}
use Rattle.pas_program.specs.Each.{Rule}
use Rattle.pas_program.specs.Scopes.{is_formal}
use Rattle.pas_program.specs.Tables.{holds_of}
use Rattle.abstract_expr.specs.Expressions.{Scope}
use Rattle.transfer_fwd.specs.Crossed.{inside_of}
use Rattle.transfer_fwd.specs.Crossings.{given}
use Rattle.transfer_fwd.proofs.crossing.Crossing.leave_one.Goals as goal

pub bind-requires : goal.bind-requires
bind-requires c = subst (λ (r : Rule). r.variable c.args.var ≡ true) (sym c.inside.ensures.seen) c.requires.seen

pub returns-then-not-is_parameter-clause-value : goal.returns-then-not-is_parameter-clause-value
returns-then-not-is_parameter-clause-value c =
    let x = c.args.self.now in
    let env = c.args.out.now.env in
    let v = c.args.var in
    let known : slice_get x.flow.now.program.vars v ≡ Some c.var_def.result = ap (λ (p : Program). slice_get p.vars v) (sym c.program.ensures) ∙ c.var_def.ensures.value in
    let test : holds_of (λ (d : VarDef). is_formal d.kind) (slice_get x.flow.now.program.vars v) ≡ false =
    ap (holds_of (λ (d : VarDef). is_formal d.kind)) known ∙ sym c.is_parameter.ensures ∙ c.if-not-is_parameter.true in
    c.give.ensures.value
    ∙ ap (λ (u : Val). given false c.bind.result.cell u env) c.undefined.ensures
    ∙ ap (λ (b : Bind). given false b.cell undefined env) (c.bind.ensures.value ∙ ap (λ (s : Scope). s.bind v) c.inside.ensures.scope)
    ∙ ap (λ (b : Bool). if b then env else given false ((inside_of x).bind v).cell undefined env) (sym test)
