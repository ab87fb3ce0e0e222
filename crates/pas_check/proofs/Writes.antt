-- What is written, one statement or actual after the other.
use Rattle.std.proofs.Common.{◌≡◌, ℕ, ◌+◌, ◌<◌, List, length, get_or, drop, map, Option, Some, None, Ok, sym, ap, ◌∙◌, if◌then◌else◌, nat_eq}
use Rattle.std.specs.Option.{option_map}
use Rattle.pas_tree.specs.declared.expr.Access.{Access}
use Rattle.pas_tree.specs.declared.expr.Actual.{Actual}
use Rattle.pas_tree.specs.declared.expr.ActualValue.TheViews.{out-Access, out-Actual}
use Rattle.pas_tree.specs.declared.expr.Expr.{Expr}
use Rattle.pas_tree.specs.declared.statement.Assertion.{Assertion}
use Rattle.pas_tree.specs.declared.statement.Body.TheFolds.{fold_out-Element, fold_out-Statement}
use Rattle.pas_tree.specs.declared.statement.Body.TheViews.{out-Element, out-Statement}
use Rattle.pas_tree.specs.declared.statement.Element.{Element}
use Rattle.pas_tree.specs.declared.statement.Statement.{Statement}
use Rattle.pas_check.specs.declared.meaning.Meaning.{Meaning}
use Rattle.pas_check.specs.declared.meaning.Variable.{Variable}
use Rattle.pas_check.specs.Expr.{Found, Place, found, found_writes, given, given_writes, led, meant, reached, value_given}
use Rattle.pas_check.specs.Sight.{Sight}
use Rattle.pas_check.specs.Statement.{target_by}
use Rattle.pas_check.specs.Writes.{Writing, arm_step, arm_writes, assertion_writes, assignment_writes, body_step, body_writes, item_writes, statement_step, statement_writes, target_writes, targeted_writes, width_writes}
use Rattle.pas_check.specs.Written.{Writes, Written, assigns, writes_in_turn, writes_whole}
use Rattle.pas_check.proofs.Found.{given_value, given_width}
use Rattle.pas_check.proofs.Passing.{drop_next}
use Rattle.pas_check.proofs.Statements.{bind_ok}

-- the part at hand, and then the others
pub turn_goes : {A B : Type 0} (writes : A → Writes) (shown : B → A) (xs : List B) (k : ℕ) (x : B) (start w after : Written) → k < length xs → x ≡ get_or xs k x
    → start ≡ writes_in_turn writes (map shown (drop k xs)) w → after ≡ writes (shown x) w → start ≡ writes_in_turn writes (map shown (drop (k + 1) xs)) after
turn_goes writes shown xs k x start w after h e so is =
    so ∙ ap (λ ys. writes_in_turn writes (map shown ys) w) (drop_next xs k x h e) ∙ ap (writes_in_turn writes (map shown (drop (k + 1) xs))) (sym is)

-- ---- statements

pub statement_writes_are : (s : Statement) (v u : Sight) (xs : List Assertion) (w asserted done : Written) → xs ≡ (out-Statement s).asserts → asserted ≡ writes_in_turn (assertion_writes v) xs w
    → u ≡ v → done ≡ body_writes (out-Statement s).body u asserted → done ≡ statement_writes s v w
unfolding statement_writes body_writes arm_writes
statement_writes_are s v u xs w asserted done same is kept body =
    body ∙ ap (λ (t : Sight). body_writes (out-Statement s).body t asserted) kept
    ∙ ap (body_writes (out-Statement s).body v) (is ∙ ap (λ ys. writes_in_turn (assertion_writes v) ys w) same)
    ∙ sym (ap (λ (t : Writing). t v w) (fold_out-Statement Writing Writing Writing body_step arm_step statement_step s))

pub arm_writes_are : (a : Element) (v u : Sight) (w before done : Written) → u ≡ v → before ≡ w → done ≡ statement_writes (out-Element a).body u before → done ≡ arm_writes a v w
unfolding statement_writes body_writes arm_writes
arm_writes_are a v u w before done kept same is =
    is ∙ ap (λ (t : Sight). statement_writes (out-Element a).body t before) kept ∙ ap (statement_writes (out-Element a).body v) same
    ∙ sym (ap (λ (t : Writing). t v w) (fold_out-Element Writing Writing Writing body_step arm_step statement_step a))

-- ---- what is written

pub item_writes_are : (v : Sight) (a : Actual) (w valued done : Written) → valued ≡ given_writes found_writes (value_given v (out-Actual a).value) w
    → done ≡ width_writes (option_map (found v) (out-Actual a).width) valued → done ≡ item_writes (given v a) w
item_writes_are v a w valued done value width =
    width ∙ ap (width_writes (option_map (found v) (out-Actual a).width)) value
    ∙ sym (ap (λ x. width_writes (given v a).width (given_writes found_writes x w)) (given_value v a)
    ∙ ap (λ x. width_writes x (given_writes found_writes (value_given v (out-Actual a).value) w)) (given_width v a))

-- ---- assignment

whole_reached : (v : Sight) (x : Variable) (subscripts : List Found) (p : Place) → reached v x subscripts ≡ Ok p → p.itself ≡ (if nat_eq (length subscripts) 0 then Some x else None)
unfolding reached
whole_reached v x subscripts p h =
    let one = bind_ok (led v subscripts x.of_type) (λ t. Ok (record { of_type = t; itself = if nat_eq (length subscripts) 0 then Some x else None })) p h in
    ap (λ (o : Place). o.itself) (sym (let same : record { of_type = one.0; itself = if nat_eq (length subscripts) 0 then Some x else None } ≡ p = cc (one.2) in same))

module _ (v : Sight) (a : Access) (value : Expr) (subscripts : List Expr) (m : Meaning) (t : Variable × Option ℕ) (p : Place) where
  pub assignment_writes_are : (w named led threatened done : Written) → subscripts ≡ (out-Access a).subscripts → meant v (out-Access a).name ≡ Ok m → target_by v m (out-Access a).name.start ≡ Ok t
      → reached v t.0 (map (found v) subscripts) ≡ Ok p → named ≡ w → led ≡ writes_in_turn found_writes (map (found v) subscripts) named → threatened ≡ writes_whole v.level p.itself led
      → done ≡ (found v value).writes threatened → assigns t.1 done ≡ assignment_writes v a value w
  assignment_writes_are w named led threatened done same meaning target place kept through whole is =
      let xs = map (found v) (out-Access a).subscripts in
      let at = (out-Access a).name.start in
      ap (assigns t.1) (is ∙ ap (found v value).writes (whole ∙ ap (λ o. writes_whole v.level o led) (whole_reached v t.0 (map (found v) subscripts) p place)
      ∙ ap (writes_whole v.level (if nat_eq (length (map (found v) subscripts)) 0 then Some t.0 else None)) (through ∙ ap (writes_in_turn found_writes (map (found v) subscripts)) kept)))
      ∙ ap (λ ys. target_writes v (Ok t) (map (found v) ys) (found v value) w) same
      ∙ sym (ap (λ o. targeted_writes v o at xs (found v value) w) meaning ∙ ap (λ o. target_writes v o xs (found v value) w) target)
