-- Small trees, each with what is defined of it.
use Rattle.std.proofs.Common.{◌≡◌, ℕ, Bool, List, [], ◌∷◌, map, Option, Some, None, Result, Ok, Err, refl, ap, ◌∙◌}
use Rattle.px_base.specs.declared.operator.BinOp.{BinOp}
use Rattle.px_base.specs.declared.place.Span.{Span}
use Rattle.pas_tree.specs.declared.block.Label.{Label}
use Rattle.pas_tree.specs.declared.constant.Constant.{Constant}
use Rattle.pas_tree.specs.declared.constant.Sign.{Sign}
use Rattle.pas_tree.specs.declared.expr.Access.{Access}
use Rattle.pas_tree.specs.declared.expr.Actual.{Actual}
use Rattle.pas_tree.specs.declared.expr.ActualValue.TheFolds.{fold-roll-Access, fold-roll-Actual, fold-roll-ActualValue, fold-roll-Expr}
use Rattle.pas_tree.specs.declared.expr.ActualValue.TheOpen.{ActualValue-F, Expr-F}
use Rattle.pas_tree.specs.declared.expr.ActualValue.TheViews.{roll-Access, roll-Actual, roll-ActualValue, roll-Expr}
use Rattle.pas_tree.specs.declared.expr.Expr.{Expr}
use Rattle.pas_tree.specs.declared.statement.Assertion.{Assertion}
use Rattle.pas_tree.specs.declared.statement.Body.{Body}
use Rattle.pas_tree.specs.declared.statement.Body.TheFolds.{fold-roll-Body, fold-roll-Element, fold-roll-Statement}
use Rattle.pas_tree.specs.declared.statement.Body.TheOpen.{Body-F}
use Rattle.pas_tree.specs.declared.statement.Body.TheViews.{roll-Body, roll-Element, roll-Statement}
use Rattle.pas_tree.specs.declared.statement.Element.{Element}
use Rattle.pas_tree.specs.declared.statement.Statement.{Statement}
use Rattle.pas_check.specs.declared.access.Reached.{Reached}
use Rattle.pas_check.specs.Built.{Builds}
use Rattle.pas_check.specs.Forms.{Form, GivenForm, access_by, access_step, actual_step, expr_form, expr_step, given_form, value_step}
use Rattle.pas_check.specs.Sight.{Sight}
use Rattle.pas_check.specs.StatementForms.{ArmForm, BodyForm, StatementForm, arm_form, arm_step, body_form, body_step, statement_form, statement_step}

abbrev pub upto : ℕ → ℕ → Span
upto start end = record { start = start; end = end }

-- ---- trees with what is defined of them

pub record Shown (v : Sight) : Type 0 where
  pub tree : Expr
  pub form : Form
  pub is : expr_form v tree ≡ form

pub record Given (v : Sight) : Type 0 where
  pub tree : Actual
  pub form : GivenForm
  pub is : given_form v tree ≡ form

module _ (v : Sight) where
  abbrev pub trees : List (Shown v) → List Expr
  trees xs = map (λ (x : Shown v). x.tree) xs

  abbrev pub given_trees : List (Given v) → List Actual
  given_trees xs = map (λ (x : Given v). x.tree) xs

  pub shown_all : (xs : List (Shown v)) → map (expr_form v) (trees xs) ≡ map (λ (x : Shown v). x.form) xs
  shown_all [] = refl
  shown_all (x ∷ rest) = ap (λ f. f ∷ map (expr_form v) (trees rest)) x.is ∙ ap (λ fs. x.form ∷ fs) (shown_all rest)

  pub given_all : (xs : List (Given v)) → map (given_form v) (given_trees xs) ≡ map (λ (x : Given v). x.form) xs
  given_all [] = refl
  given_all (x ∷ rest) = ap (λ f. f ∷ map (given_form v) (given_trees rest)) x.is ∙ ap (λ fs. x.form ∷ fs) (given_all rest)

  pub number_is : (value : ℕ) (span : Span) → expr_form v (roll-Expr (Expr-F.Number value span)) ≡ expr_step v (Expr-F.Number value span)
  unfolding expr_form
  number_is value span = fold-roll-Expr (Result Form Span) Form (Builds Reached) GivenForm value_step (expr_step v) (access_step v) actual_step (Expr-F.Number value span)

  pub name_is : (name : Span) (actuals : List (Given v)) (span : Span) → expr_form v (roll-Expr (Expr-F.Name name (given_trees actuals) span)) ≡ expr_step v (Expr-F.Name name (map (λ (x : Given v). x.form) actuals) span)
  unfolding expr_form given_form
  name_is name actuals span =
      fold-roll-Expr (Result Form Span) Form (Builds Reached) GivenForm value_step (expr_step v) (access_step v) actual_step (Expr-F.Name name (given_trees actuals) span)
      ∙ ap (λ fs. expr_step v (Expr-F.Name name fs span)) (given_all actuals)

  pub indexed_is : (name : Span) (subscripts : List (Shown v)) (span : Span) → expr_form v (roll-Expr (Expr-F.Indexed (roll-Access (record { name = name; subscripts = trees subscripts; span = span })) span))
      ≡ expr_step v (Expr-F.Indexed (access_by v name (map (λ (x : Shown v). x.form) subscripts)) span)
  unfolding expr_form
  indexed_is name subscripts span =
      fold-roll-Expr (Result Form Span) Form (Builds Reached) GivenForm value_step (expr_step v) (access_step v) actual_step (Expr-F.Indexed (roll-Access (record { name = name; subscripts = trees subscripts; span = span })) span)
      ∙ ap (λ (a : Builds Reached). expr_step v (Expr-F.Indexed a span)) (fold-roll-Access (Result Form Span) Form (Builds Reached) GivenForm value_step (expr_step v) (access_step v) actual_step (record { name = name; subscripts = trees subscripts; span = span })
      ∙ ap (access_by v name) (shown_all subscripts))

  pub paren_is : (e : Shown v) (span : Span) → expr_form v (roll-Expr (Expr-F.Paren e.tree span)) ≡ expr_step v (Expr-F.Paren e.form span)
  unfolding expr_form
  paren_is e span =
      fold-roll-Expr (Result Form Span) Form (Builds Reached) GivenForm value_step (expr_step v) (access_step v) actual_step (Expr-F.Paren e.tree span)
      ∙ ap (λ f. expr_step v (Expr-F.Paren f span)) e.is

  pub signed_is : (s : Sign) (e : Shown v) (span : Span) → expr_form v (roll-Expr (Expr-F.Signed s e.tree span)) ≡ expr_step v (Expr-F.Signed s e.form span)
  unfolding expr_form
  signed_is s e span =
      fold-roll-Expr (Result Form Span) Form (Builds Reached) GivenForm value_step (expr_step v) (access_step v) actual_step (Expr-F.Signed s e.tree span)
      ∙ ap (λ f. expr_step v (Expr-F.Signed s f span)) e.is

  pub binary_is : (o : BinOp) (l r : Shown v) (at span : Span) → expr_form v (roll-Expr (Expr-F.Binary o l.tree r.tree at span)) ≡ expr_step v (Expr-F.Binary o l.form r.form at span)
  unfolding expr_form
  binary_is o l r at span =
      fold-roll-Expr (Result Form Span) Form (Builds Reached) GivenForm value_step (expr_step v) (access_step v) actual_step (Expr-F.Binary o l.tree r.tree at span)
      ∙ ap (λ f. expr_step v (Expr-F.Binary o f (expr_form v r.tree) at span)) l.is ∙ ap (λ f. expr_step v (Expr-F.Binary o l.form f at span)) r.is

  pub actual_is : (e : Shown v) → given_form v (roll-Actual (record { value = roll-ActualValue (ActualValue-F.Value e.tree); width = None })) ≡ record { value = Ok e.form; width = None }
  unfolding expr_form given_form
  actual_is e =
      fold-roll-Actual (Result Form Span) Form (Builds Reached) GivenForm value_step (expr_step v) (access_step v) actual_step (record { value = roll-ActualValue (ActualValue-F.Value e.tree); width = None })
      ∙ ap (λ (r : Result Form Span). record { value = r; width = None }) (fold-roll-ActualValue (Result Form Span) Form (Builds Reached) GivenForm value_step (expr_step v) (access_step v) actual_step (ActualValue-F.Value e.tree)
      ∙ ap (λ f. Ok f) e.is)

  pub wide_is : (e w : Shown v) → given_form v (roll-Actual (record { value = roll-ActualValue (ActualValue-F.Value e.tree); width = Some w.tree })) ≡ record { value = Ok e.form; width = Some w.form }
  unfolding expr_form given_form
  wide_is e w =
      fold-roll-Actual (Result Form Span) Form (Builds Reached) GivenForm value_step (expr_step v) (access_step v) actual_step (record { value = roll-ActualValue (ActualValue-F.Value e.tree); width = Some w.tree })
      ∙ ap (λ (r : Result Form Span). record { value = r; width = Some (expr_form v w.tree) }) (fold-roll-ActualValue (Result Form Span) Form (Builds Reached) GivenForm value_step (expr_step v) (access_step v) actual_step (ActualValue-F.Value e.tree)
      ∙ ap (λ f. Ok f) e.is) ∙ ap (λ f. record { value = Ok e.form; width = Some f }) w.is

  pub string_is : (span : Span) → given_form v (roll-Actual (record { value = roll-ActualValue (ActualValue-F.«Text» span); width = None })) ≡ record { value = Err span; width = None }
  unfolding given_form
  string_is span =
      fold-roll-Actual (Result Form Span) Form (Builds Reached) GivenForm value_step (expr_step v) (access_step v) actual_step (record { value = roll-ActualValue (ActualValue-F.«Text» span); width = None })
      ∙ ap (λ (r : Result Form Span). record { value = r; width = None }) (fold-roll-ActualValue (Result Form Span) Form (Builds Reached) GivenForm value_step (expr_step v) (access_step v) actual_step (ActualValue-F.«Text» span))

module _ {v : Sight} where
  abbrev pub number : ℕ → Span → Shown v
  number value span = record { tree = roll-Expr (Expr-F.Number value span); form = expr_step v (Expr-F.Number value span); is = number_is v value span }

  abbrev pub call : Span → List (Given v) → Span → Shown v
  call name actuals span = record { tree = roll-Expr (Expr-F.Name name (given_trees v actuals) span); form = expr_step v (Expr-F.Name name (map (λ (x : Given v). x.form) actuals) span); is = name_is v name actuals span }

  abbrev pub name : Span → Shown v
  name span = call span [] span

  abbrev pub indexed : Span → List (Shown v) → Span → Shown v
  indexed name subscripts span = record {
    tree = roll-Expr (Expr-F.Indexed (roll-Access (record { name = name; subscripts = trees v subscripts; span = span })) span);
    form = expr_step v (Expr-F.Indexed (access_by v name (map (λ (x : Shown v). x.form) subscripts)) span);
    is = indexed_is v name subscripts span;
  }

  abbrev pub paren : Shown v → Span → Shown v
  paren e span = record { tree = roll-Expr (Expr-F.Paren e.tree span); form = expr_step v (Expr-F.Paren e.form span); is = paren_is v e span }

  abbrev pub signed : Sign → Shown v → Span → Shown v
  signed s e span = record { tree = roll-Expr (Expr-F.Signed s e.tree span); form = expr_step v (Expr-F.Signed s e.form span); is = signed_is v s e span }

  abbrev pub binary : BinOp → Shown v → Shown v → Span → Span → Shown v
  binary o l r at span = record { tree = roll-Expr (Expr-F.Binary o l.tree r.tree at span); form = expr_step v (Expr-F.Binary o l.form r.form at span); is = binary_is v o l r at span }

  abbrev pub actual : Shown v → Given v
  actual e = record { tree = roll-Actual (record { value = roll-ActualValue (ActualValue-F.Value e.tree); width = None }); form = record { value = Ok e.form; width = None }; is = actual_is v e }

  abbrev pub wide : Shown v → Shown v → Given v
  wide e w = record { tree = roll-Actual (record { value = roll-ActualValue (ActualValue-F.Value e.tree); width = Some w.tree }); form = record { value = Ok e.form; width = Some w.form }; is = wide_is v e w }

  abbrev pub string : Span → Given v
  string span = record { tree = roll-Actual (record { value = roll-ActualValue (ActualValue-F.«Text» span); width = None }); form = record { value = Err span; width = None }; is = string_is v span }

-- ---- statements

pub record Known (T F : Type 0) (of : T → F) : Type 0 where
  pub tree : T
  pub form : F
  pub is : of tree ≡ form

abbrev pub KnownBody : Type 0
KnownBody = Known Body BodyForm body_form

abbrev pub KnownStatement : Type 0
KnownStatement = Known Statement StatementForm statement_form

abbrev pub KnownArm : Type 0
KnownArm = Known Element ArmForm arm_form

abbrev pub arm_trees : List KnownArm → List Element
arm_trees xs = map (λ (x : KnownArm). x.tree) xs

abbrev pub arm_forms : List KnownArm → List ArmForm
arm_forms xs = map (λ (x : KnownArm). x.form) xs

pub all_arms : (xs : List KnownArm) → map arm_form (arm_trees xs) ≡ arm_forms xs
all_arms [] = refl
all_arms (x ∷ rest) = ap (λ f. f ∷ map arm_form (arm_trees rest)) x.is ∙ ap (λ fs. x.form ∷ fs) (all_arms rest)

abbrev pub statement_trees : List KnownStatement → List Statement
statement_trees xs = map (λ (x : KnownStatement). x.tree) xs

abbrev pub statement_forms : List KnownStatement → List StatementForm
statement_forms xs = map (λ (x : KnownStatement). x.form) xs

pub all_statements : (xs : List KnownStatement) → map statement_form (statement_trees xs) ≡ statement_forms xs
all_statements [] = refl
all_statements (x ∷ rest) = ap (λ f. f ∷ map statement_form (statement_trees rest)) x.is ∙ ap (λ fs. x.form ∷ fs) (all_statements rest)

pub empty_is : body_form (roll-Body Body-F.Empty) ≡ body_step Body-F.Empty
unfolding body_form
empty_is = fold-roll-Body BodyForm ArmForm StatementForm body_step arm_step statement_step Body-F.Empty

pub called_is : (name : Span) (actuals : List Actual) → body_form (roll-Body (Body-F.Call name actuals)) ≡ body_step (Body-F.Call name actuals)
unfolding body_form
called_is name actuals = fold-roll-Body BodyForm ArmForm StatementForm body_step arm_step statement_step (Body-F.Call name actuals)

pub assigned_is : (to : Access) (value : Expr) → body_form (roll-Body (Body-F.Assign to value)) ≡ body_step (Body-F.Assign to value)
unfolding body_form
assigned_is to value = fold-roll-Body BodyForm ArmForm StatementForm body_step arm_step statement_step (Body-F.Assign to value)

pub left_is : (label : Label) → body_form (roll-Body (Body-F.Goto label)) ≡ body_step (Body-F.Goto label)
unfolding body_form
left_is label = fold-roll-Body BodyForm ArmForm StatementForm body_step arm_step statement_step (Body-F.Goto label)

pub counted_is : (control : Span) (first : Expr) (down : Bool) (last : Expr) (inner : KnownStatement) → body_form (roll-Body (Body-F.For control first down last inner.tree)) ≡ body_step (Body-F.For control first down last inner.form)
unfolding body_form statement_form
counted_is control first down last inner =
    fold-roll-Body BodyForm ArmForm StatementForm body_step arm_step statement_step (Body-F.For control first down last inner.tree)
    ∙ ap (λ f. body_step (Body-F.For control first down last f)) inner.is

pub repeated_is : (members : List KnownStatement) (until : Span) (test : Expr) → body_form (roll-Body (Body-F.Repeat (statement_trees members) until test)) ≡ body_step (Body-F.Repeat (statement_forms members) until test)
unfolding body_form statement_form
repeated_is members until test =
    fold-roll-Body BodyForm ArmForm StatementForm body_step arm_step statement_step (Body-F.Repeat (statement_trees members) until test)
    ∙ ap (λ fs. body_step (Body-F.Repeat fs until test)) (all_statements members)

pub chosen_is : (selector : Expr) (arms : List KnownArm) → body_form (roll-Body (Body-F.Case selector (arm_trees arms))) ≡ body_step (Body-F.Case selector (arm_forms arms))
unfolding body_form arm_form
chosen_is selector arms =
    fold-roll-Body BodyForm ArmForm StatementForm body_step arm_step statement_step (Body-F.Case selector (arm_trees arms))
    ∙ ap (λ fs. body_step (Body-F.Case selector fs)) (all_arms arms)

pub statement_is : (label : Option Label) (asserts : List Assertion) (body : KnownBody) (at : Span) → statement_form (roll-Statement (record { label = label; asserts = asserts; body = body.tree; at = at })) ≡ statement_step (record { label = label; asserts = asserts; body = body.form; at = at })
unfolding body_form statement_form
statement_is label asserts body at =
    fold-roll-Statement BodyForm ArmForm StatementForm body_step arm_step statement_step (record { label = label; asserts = asserts; body = body.tree; at = at })
    ∙ ap (λ (f : BodyForm). statement_step (record { label = label; asserts = asserts; body = f; at = at })) body.is

pub arm_is : (consts : List Constant) (body : KnownStatement) → arm_form (roll-Element (record { consts = consts; body = body.tree })) ≡ arm_step (record { consts = consts; body = body.form })
unfolding arm_form statement_form
arm_is consts body =
    fold-roll-Element BodyForm ArmForm StatementForm body_step arm_step statement_step (record { consts = consts; body = body.tree })
    ∙ ap (λ (f : StatementForm). arm_step (record { consts = consts; body = f })) body.is

abbrev pub target : Span → List Expr → Span → Access
target name subscripts span = roll-Access (record { name = name; subscripts = subscripts; span = span })

abbrev pub nothing : KnownBody
nothing = record { tree = roll-Body Body-F.Empty; form = body_step Body-F.Empty; is = empty_is }

abbrev pub called : Span → List Actual → KnownBody
called name actuals = record { tree = roll-Body (Body-F.Call name actuals); form = body_step (Body-F.Call name actuals); is = called_is name actuals }

abbrev pub assigned : Access → Expr → KnownBody
assigned to value = record { tree = roll-Body (Body-F.Assign to value); form = body_step (Body-F.Assign to value); is = assigned_is to value }

abbrev pub left : Label → KnownBody
left label = record { tree = roll-Body (Body-F.Goto label); form = body_step (Body-F.Goto label); is = left_is label }

abbrev pub counted : Span → Expr → Bool → Expr → KnownStatement → KnownBody
counted control first down last inner = record {
  tree = roll-Body (Body-F.For control first down last inner.tree);
  form = body_step (Body-F.For control first down last inner.form);
  is = counted_is control first down last inner;
}

abbrev pub repeated : List KnownStatement → Span → Expr → KnownBody
repeated members until test = record {
  tree = roll-Body (Body-F.Repeat (statement_trees members) until test);
  form = body_step (Body-F.Repeat (statement_forms members) until test);
  is = repeated_is members until test;
}

abbrev pub chosen : Expr → List KnownArm → KnownBody
chosen selector arms = record { tree = roll-Body (Body-F.Case selector (arm_trees arms)); form = body_step (Body-F.Case selector (arm_forms arms)); is = chosen_is selector arms }

abbrev pub statement : Option Label → List Assertion → KnownBody → Span → KnownStatement
statement label asserts body at = record {
  tree = roll-Statement (record { label = label; asserts = asserts; body = body.tree; at = at });
  form = statement_step (record { label = label; asserts = asserts; body = body.form; at = at });
  is = statement_is label asserts body at;
}

abbrev pub arm : List Constant → KnownStatement → KnownArm
arm consts body = record { tree = roll-Element (record { consts = consts; body = body.tree }); form = arm_step (record { consts = consts; body = body.form }); is = arm_is consts body }
