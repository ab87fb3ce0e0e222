use Rattle.std.proofs.Common.{◌≡◌, List, [], ◌∷◌, ◌++◌, take, Vec, Global, ap, sym, ◌∙◌, true}
use Rattle.std.specs.Option.{option_copied}
use Rattle.pas_program.specs.declared.expr.Access.{Access}
use Rattle.pas_program.specs.declared.expr.Actual.{Actual}
use Rattle.pas_program.specs.declared.expr.Actual.TheViews.{out-Access, out-Actual}
use Rattle.alias_class.specs.declared.bind.Bind.{Bind}
use Rattle.alias_class.specs.Calls.{named, var_actual}
use Rattle.alias_class.specs.Cells.{is_seen}
use Rattle.alias_class.specs.Classes.{class_at}
use Rattle.alias_class.proofs.Actuals.{each_passed, named-none, named-some, none_copied}
use Rattle.alias_class.proofs.classes.Classes.named_by.Goals as goal
use Rattle.alias_class.proofs.classes.Classes.named_by.Goals.{in-Some+in_ok-push, in_default}

pub resolve_access-requires-clause-seen : goal.resolve_access-requires-clause-seen
resolve_access-requires-clause-seen c =
    let t = c.args.self.now in
    each_passed (λ (a : Access). is_seen t.outline (class_at t.classes c.args.class) (out-Access a).var ≡ true) c.args.actuals.now c.requires.seen c.loop-actual.actual-index c.actual-item.result c.loop-actual-test.true c.in-Some.access.now
    (ap (λ (a : Actual). var_actual (out-Actual a)) (sym c.actual-item.is) ∙ sym c.in-Some.ensures)

pub loop-actual-preserved : goal.loop-actual-preserved
loop-actual-preserved c =
    let t = c.args.self.now in
    let class = class_at t.classes c.args.class in
    let here = ap (λ (a : Actual). var_actual (out-Actual a)) (sym c.actual-item.is) ∙ sym c.passed_variable.ensures in
    elim c.match-passed_variable.branch [
      | in-Some+in_ok-push w ↦
          ap (λ (v : Vec Bind Global). v.items) w.named-is
          ∙ w.in_ok-push.ensures.items
          ∙ ap (λ (xs : List Bind). xs ++ w.resolve_access.result ∷ []) c.loop-actual.invariant
          ∙ ap (λ (b : Bind). named t.outline class (take c.loop-actual.actual-index c.args.actuals.now) ++ b ∷ []) w.resolve_access.ensures.value
          ∙ sym (named-some t.outline class c.args.actuals.now c.loop-actual.actual-index c.actual-item.result c.loop-actual-test.true w.in-Some.access.now (here ∙ ap option_copied w.in-Some.is))
      | in_default w ↦
          ap (λ (v : Vec Bind Global). v.items) w.named-is
          ∙ c.loop-actual.invariant
          ∙ sym (named-none t.outline class c.args.actuals.now c.loop-actual.actual-index c.actual-item.result c.loop-actual-test.true (here ∙ none_copied c.passed_variable.result w.in_default.not-Some))
    ]
