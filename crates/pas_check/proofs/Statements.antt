-- Statements, one level at a time.
use Rattle.std.proofs.Common.{◌≡◌, ℕ, ℤ, ◌+◌, ◌<◌, Bool, true, false, List, ◌∷◌, length, get_or, drop, map, Option, Some, None, Ok, Err, refl, sym, ap, subst, ◌∙◌}
use Rattle.std.specs.Prelude.{not, ◌&&◌}
use Rattle.std.specs.Option.{option_map}
use Rattle.px_base.specs.declared.place.Span.{Span}
use Rattle.pas_tree.specs.declared.constant.Constant.{Constant}
use Rattle.pas_tree.specs.declared.expr.Actual.{Actual}
use Rattle.pas_tree.specs.declared.expr.ActualValue.TheViews.{out-Actual}
use Rattle.pas_tree.specs.declared.statement.Assertion.{Assertion}
use Rattle.pas_tree.specs.declared.statement.Body.TheFolds.{fold_out-Element, fold_out-Statement}
use Rattle.pas_tree.specs.declared.statement.Body.TheViews.{out-Element, out-Statement}
use Rattle.pas_tree.specs.declared.statement.Element.{Element}
use Rattle.pas_tree.specs.declared.statement.Statement.{Statement}
use Rattle.pas_check.specs.declared.fault.Fault.{Fault}
use Rattle.pas_check.specs.declared.meaning.Meaning.{Meaning}
use Rattle.pas_check.specs.declared.meaning.Meaning.TheVariants as means
use Rattle.pas_check.specs.declared.meaning.Variable.{Variable}
use Rattle.pas_check.specs.Control.{control_by, control_host, controlled, is_free, no_control}
use Rattle.pas_check.specs.Expr.{Found, found, given, meant, of_host, result_inside, value_given}
use Rattle.pas_check.specs.Labels.{label_before}
use Rattle.pas_check.specs.Outcome.{Outcome, ◌>>=◌, each}
use Rattle.pas_check.specs.Rules.{is_no_control}
use Rattle.pas_check.specs.Sight.{Sight, host_at}
use Rattle.pas_check.specs.Statements.{Arm, Test, arm_step, arms_in_turn, asserted, body_step, case_constants, for_head, stated, stated_arm, stated_body, statement_step, value_written, width_written, written}
use Rattle.pas_check.proofs.Found.{given_value, given_width}
use Rattle.pas_check.proofs.Passing.{drop_next}

-- ---- statements

stated_by : (s : Statement) (v : Sight)
    → stated s v ≡ (label_before v.labels (out-Statement s).label >>= (λ label. each (asserted v) (out-Statement s).asserts >>= (λ done. stated_body (out-Statement s).body (out-Statement s).at.start v)))
unfolding stated stated_body stated_arm
stated_by s v = ap (λ (t : Test). t v) (fold_out-Statement (ℕ → Test) Arm Test body_step arm_step statement_step s)

module _ (s : Statement) (v : Sight) where
  after_label : Outcome (Unit {0}) → Outcome (Unit {0})
  after_label o = o >>= (λ label. each (asserted v) (out-Statement s).asserts >>= (λ done. stated_body (out-Statement s).body (out-Statement s).at.start v))

  after_asserts : Outcome (Unit {0}) → Outcome (Unit {0})
  after_asserts o = o >>= (λ done. stated_body (out-Statement s).body (out-Statement s).at.start v)

  pub label_fails : (f : Fault) → label_before v.labels (out-Statement s).label ≡ Err f → stated s v ≡ Err f
  unfolding after_label
  label_fails f e = stated_by s v ∙ ap after_label e

  asserts_by : label_before v.labels (out-Statement s).label ≡ Ok tt → stated s v ≡ after_asserts (each (asserted v) (out-Statement s).asserts)
  unfolding after_label after_asserts
  asserts_by e = stated_by s v ∙ ap after_label e

  pub asserts_fail : (xs : List Assertion) (f : Fault) → label_before v.labels (out-Statement s).label ≡ Ok tt → xs ≡ (out-Statement s).asserts → each (asserted v) xs ≡ Err f → stated s v ≡ Err f
  unfolding after_asserts
  asserts_fail xs f e same is = asserts_by e ∙ ap (λ ys. after_asserts (each (asserted v) ys)) (sym same) ∙ ap after_asserts is

  -- the label and the assertions pass
  pub body_is : (xs : List Assertion) (w : Sight) (o : Outcome (Unit {0})) → label_before v.labels (out-Statement s).label ≡ Ok tt → xs ≡ (out-Statement s).asserts → each (asserted v) xs ≡ Ok tt
      → w ≡ v → stated_body (out-Statement s).body (out-Statement s).at.start w ≡ o → stated s v ≡ o
  unfolding after_asserts
  body_is xs w o e same is kept body =
      asserts_by e ∙ ap (λ ys. after_asserts (each (asserted v) ys)) (sym same) ∙ ap after_asserts is
      ∙ ap (λ u. stated_body (out-Statement s).body (out-Statement s).at.start u) (sym kept) ∙ body

-- ---- arms

stated_arm_by : (a : Element) → stated_arm a ≡ record { consts = (out-Element a).consts; body = stated (out-Element a).body }
unfolding stated stated_body stated_arm
stated_arm_by a = fold_out-Element (ℕ → Test) Arm Test body_step arm_step statement_step a

module _ (v : Sight) (boolean : Bool) (arms : List Element) (k : ℕ) (a : Element) where
  rest : List ℤ → Outcome (Unit {0})
  rest before = arms_in_turn v boolean before (map stated_arm (drop (k + 1) arms))

  arms_next : (before : List ℤ) → k < length arms → a ≡ get_or arms k a
      → arms_in_turn v boolean before (map stated_arm (drop k arms)) ≡ (case_constants v boolean before (out-Element a).consts >>= (λ after. stated (out-Element a).body v >>= (λ done. rest after)))
  unfolding rest
  arms_next before h e =
      ap (λ xs. arms_in_turn v boolean before (map stated_arm xs)) (drop_next arms k a h e)
      ∙ ap (λ arm. arms_in_turn v boolean before (arm ∷ map stated_arm (drop (k + 1) arms))) (stated_arm_by a)

  module _ (start : Outcome (Unit {0})) (before : List ℤ) (w : Sight) (xs : List Constant) (kept : w ≡ v) (h : k < length arms) (e : a ≡ get_or arms k a) (so : start ≡ arms_in_turn v boolean before (map stated_arm (drop k arms))) (same : xs ≡ (out-Element a).consts) where
    consts_by : (o : Outcome (List ℤ)) → case_constants w boolean before xs ≡ o → start ≡ (o >>= (λ after. stated (out-Element a).body v >>= (λ done. rest after)))
    consts_by o is =
        so ∙ arms_next before h e
        ∙ ap (λ (p : Outcome (List ℤ)). p >>= (λ after. stated (out-Element a).body v >>= (λ done. rest after)))
        (ap (λ ys. case_constants v boolean before ys) (sym same) ∙ ap (λ u. case_constants u boolean before xs) (sym kept) ∙ is)

    pub consts_fail : (f : Fault) → case_constants w boolean before xs ≡ Err f → start ≡ Err f
    consts_fail f is = consts_by (Err f) is

    pub arm_fails : (after : List ℤ) (f : Fault) → case_constants w boolean before xs ≡ Ok after → stated (out-Element a).body w ≡ Err f → start ≡ Err f
    arm_fails after f is body =
        consts_by (Ok after) is ∙ ap (λ (o : Outcome (Unit {0})). o >>= (λ done. rest after)) (ap (λ u. stated (out-Element a).body u) (sym kept) ∙ body)

    pub arm_goes : (after : List ℤ) → case_constants w boolean before xs ≡ Ok after → stated (out-Element a).body w ≡ Ok tt → start ≡ arms_in_turn v boolean after (map stated_arm (drop (k + 1) arms))
    unfolding rest
    arm_goes after is body =
        consts_by (Ok after) is ∙ ap (λ (o : Outcome (Unit {0})). o >>= (λ done. rest after)) (ap (λ u. stated (out-Element a).body u) (sym kept) ∙ body)

-- ---- what is written

module _ (v : Sight) (a : Actual) where
  written_by : written (given v a) ≡ (value_written (value_given v (out-Actual a).value) >>= (λ done. width_written (option_map (found v) (out-Actual a).width)))
  unfolding written
  written_by =
      ap (λ x. value_written x >>= (λ done. width_written (given v a).width)) (given_value v a)
      ∙ ap (λ y. value_written (value_given v (out-Actual a).value) >>= (λ done. width_written y)) (given_width v a)

  pub value_fails : (f : Fault) → value_written (value_given v (out-Actual a).value) ≡ Err f → written (given v a) ≡ Err f
  value_fails f e = written_by ∙ ap (λ (o : Outcome (Unit {0})). o >>= (λ done. width_written (option_map (found v) (out-Actual a).width))) e

  pub width_is : (o : Outcome (Unit {0})) → value_written (value_given v (out-Actual a).value) ≡ Ok tt → width_written (option_map (found v) (out-Actual a).width) ≡ o → written (given v a) ≡ o
  width_is o e is = written_by ∙ ap (λ (p : Outcome (Unit {0})). p >>= (λ done. width_written (option_map (found v) (out-Actual a).width))) e ∙ is

-- ---- control variables

pub bind_ok : {A B : Type 0} (r : Outcome A) (f : A → Outcome B) (b : B) → (r >>= f) ≡ Ok b → (a : A) × (r ≡ Ok a) × (f a ≡ Ok b)
bind_ok (Ok a) f b h = (a, refl, h)
bind_ok (Err e) f b h = absurd (cc)

not_looping : (a b : Bool) → (not a && not b) ≡ true → b ≡ false
not_looping a false h = refl
not_looping true true h = absurd (cc)
not_looping false true h = absurd (cc)

host_free : (free : Bool) (x : Variable) (at : ℕ) (host : Option Bool) (c : Variable × Bool) → control_host free x at host ≡ Ok c → (free ≡ true) × (x ≡ c.0)
host_free free x at None c h = absurd (cc)
host_free true x at (Some host) c h = (refl, cc)
host_free false x at (Some host) c h = absurd (cc)

none_control : (at : ℕ) (o : Option Variable) (c : Variable × Bool) → no_control at o ≡ Ok c → ⊥
none_control at None c h = cc
none_control at (Some x) c h = cc

same_ok : (a b : Variable) (r : Outcome Variable) → r ≡ Ok a → r ≡ Ok b → a ≡ b
same_ok a b r one other = cc

module _ (v : Sight) where
  control_free : (m : Meaning) (at : ℕ) (c : Variable × Bool) → control_by v m at ≡ Ok c → v.looping c.0.at ≡ false
  control_free (means.Variable x) at c h =
      let free = host_free (is_free v x) x at (host_at v x.of_type) c h in
      subst (λ (y : Variable). v.looping y.at ≡ false) free.1 (not_looping (is_no_control v.level v.threatened x) (v.looping x.at) free.0)
  control_free (means.Routine head function) at c h = absurd (none_control at (result_inside v head) c h)
  control_free (means.Constant x) at c h = absurd (cc)
  control_free (means.Type t) at c h = absurd (cc)
  control_free means.Untyped at c h = absurd (cc)
  control_free (means.Required f) at c h = absurd (cc)
  control_free (means.Transput t) at c h = absurd (cc)

  -- no `for` around is over the control variable
  pub head_free : (control : Span) (first last : Found) (x : Variable) → for_head v control first last ≡ Ok x → v.looping x.at ≡ false
  unfolding for_head
  head_free control first last x h =
      let one = bind_ok (controlled v control) (λ c. of_host c.1 first >>= (λ from. of_host c.1 last >>= (λ until. Ok c.0))) x h in
      let two = bind_ok (of_host one.0.1 first) (λ from. of_host one.0.1 last >>= (λ until. Ok one.0.0)) x one.2 in
      let three = bind_ok (of_host one.0.1 last) (λ until. Ok one.0.0) x two.2 in
      let meaning = bind_ok (meant v control) (λ m. control_by v m control.start) one.0 one.1 in
      subst (λ (y : Variable). v.looping y.at ≡ false) (same_ok one.0.0 x (Ok one.0.0) refl three.2) (control_free meaning.0 control.start one.0 meaning.2)
