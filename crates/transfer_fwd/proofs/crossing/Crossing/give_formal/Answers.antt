use Rattle.std.proofs.Common.{◌≡◌, Option, true, ap, sym, subst, ◌∙◌}
use Rattle.alias_class.specs.declared.bind.Bind.{Bind}
use Rattle.interval.specs.declared.val.Val.{Val}
use Rattle.pas_program.specs.Each.{Rule}
use Rattle.abstract_expr.specs.Expressions.{Scope}
use Rattle.transfer_fwd.specs.Crossed.{inside_of}
use Rattle.transfer_fwd.specs.Crossings.{formal_given, given}
use Rattle.transfer_fwd.proofs.crossing.Crossing.give_formal.Goals as goal

pub bind-requires : goal.bind-requires
bind-requires c = subst (λ (r : Rule). r.variable c.args.formal ≡ true) (sym c.inside.ensures.seen) c.requires.seen

pub returns-in-Some-clause-value : goal.returns-in-Some-clause-value
returns-in-Some-clause-value c =
    let x = c.args.self.now in
    let env = c.args.out.now.env in
    c.give.ensures.value
    ∙ ap (λ (b : Bind). given c.args.first b.cell c.in-Some.v env) (c.bind.ensures.value ∙ ap (λ (s : Scope). s.bind c.args.formal) c.inside.ensures.scope)
    ∙ ap (λ (o : Option Val). formal_given c.args.first (inside_of x) c.args.formal o env) (sym c.in-Some.is ∙ c.passed.ensures)
