use Rattle.std.proofs.Common.{◌≡◌, rules, sym, ap, subst, ◌∙◌, true}
use Rattle.pas_program.specs.declared.expr.Actual.TheViews.{the_lemmas}
use Rattle.pas_program.specs.declared.expr.ExprForm.TheVariants.{rolls-Binary}
use Rattle.pas_program.specs.Each.{each_expr}
use Rattle.abstract_expr.specs.Standing.{binds, seen_in}
use Rattle.abstract_expr.proofs.Levels.{value_of_operands}
use Rattle.abstract_expr.proofs.Parts.{operands_each}
use Rattle.abstract_expr.proofs.names.Names.+value.Goals as goal

pub value-y-requires : goal.value-y-requires
value-y-requires t c =
    let s = c.args.self.now in
    let q = seen_in s.classes.now s.class in (
      search (rules, the_lemmas),
      (
        c.requires.reached,
        (
          c.requires.cells,
          subst (λ x. each_expr q x ≡ true) (sym c.get-in-Binary-2.ensures) (operands_each q c.args.e.now c.in-Binary.op c.in-Binary.left c.in-Binary.right c.in-Binary.at (c.in-Binary.is ∙ sym (rolls-Binary c.in-Binary.op c.in-Binary.left c.in-Binary.right c.in-Binary.at)) c.requires.seen).1,
        ),
      ),
    )

pub returns-in-Binary : goal.returns-in-Binary
returns-in-Binary t c =
    let s = c.args.self.now in
    let b = c.in-Binary in
    ap (λ a. a.value) c.binary.ensures.answer
    ∙ value_of_operands (binds s.classes.now s.class) c.args.env.now.env c.args.e.now b.op b.left b.right b.at c.get-in-Binary.result.now c.get-in-Binary-2.result.now c.value-x.result c.value-y.result
    (b.is ∙ sym (rolls-Binary b.op b.left b.right b.at)) c.get-in-Binary.ensures c.get-in-Binary-2.ensures c.value-x.ensures c.value-y.ensures
