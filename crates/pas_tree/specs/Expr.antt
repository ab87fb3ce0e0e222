-- What is read off an expression.
use Rattle.px_base.specs.declared.place.Span.{Span}
use Rattle.pas_tree.specs.declared.expr.Expr.{Expr}
use Rattle.pas_tree.specs.declared.expr.ActualValue.TheOpen.{Expr-F}
use Rattle.pas_tree.specs.declared.expr.ActualValue.TheViews.{out-Expr}

-- one form, whatever stands for its parts
abbrev pub span_of_form : {V E A P : Type 0} → Expr-F V E A P → Span
span_of_form (Expr-F.Number value span) = span
span_of_form (Expr-F.Name name actuals span) = span
span_of_form (Expr-F.Indexed access span) = span
span_of_form (Expr-F.Paren inner span) = span
span_of_form (Expr-F.Not inner span) = span
span_of_form (Expr-F.Signed sign inner span) = span
span_of_form (Expr-F.Binary op left right at span) = span

-- where an expression stands
abbrev pub expr_span : Expr → Span
expr_span e = span_of_form (out-Expr e)
