use Rattle.std.proofs.Common.{◌≡◌, ◌+◌, [], ◌∷◌, ◌++◌, refl, sym, ap, subst, ◌∙◌, drop, map, rules, Option, Some, Err, IfOk, OnOk}
use Rattle.std.proofs.lemmas.Bool.{iff_false}
use Rattle.pas_check.specs.Expr.{Place, all_passed, all_passed_writes, formals_at, found, found_writes, given, passed, passed_writes, place_of}
use Rattle.pas_check.specs.declared.access.Reached.{Reached}
use Rattle.pas_check.specs.declared.built.Built.{Built}
use Rattle.pas_check.specs.Forms.{all_passed_form, expr_form, given_form, passed_form, reached_form, subscripts_form}
use Rattle.pas_check.specs.Outcome.{Gives, Outcome, ◌>>=◌}
use Rattle.pas_check.specs.Sight.{sight}
use Rattle.pas_check.specs.Written.{Written, writes_in_turn, written}
use Rattle.pas_check.proofs.InOrder.{after}
use Rattle.pas_check.proofs.Forms.{access_form_by, actuals_begin, actuals_end, actuals_go, after_subscripts, reached_by, subscripts_begin, subscripts_end, subscripts_go}
use Rattle.pas_check.proofs.Found.{access_writes, accessed_by, call_is_no_variable}
use Rattle.pas_check.proofs.Passing.{gives_wrong, led_fails, led_goes, led_stops, passed_next, passed_writes_next, reached_fails, writes_next}
use Rattle.pas_check.proofs.seen.Seen.+expr.Goals as goal

pub access-returns-clause-value : goal.access-returns-clause-value
access-returns-clause-value t c =
    let v = sight c.args.self.now in
    subst (λ (o : Outcome Place). Gives place_of o c.reached.result) (sym (accessed_by v c.args.access.now c.in_ok-variable.variable c.as_slice.result.now c.as_slice.ensures c.in_ok-variable.ensures.value)) c.reached.ensures.value

pub access-returns-clause-writes : goal.access-returns-clause-writes
access-returns-clause-writes t c =
    let v = sight c.args.self.now in
    subst (λ (w : Written). OnOk c.reached.result (written c.reached.new.made ≡ w))
    (ap (writes_in_turn found_writes (map (found v) c.as_slice.result.now)) c.in_ok-variable.ensures.writes ∙ sym (access_writes v c.args.access.now c.as_slice.result.now (written c.args.made.now) c.as_slice.ensures))
    c.reached.ensures.writes

pub access-returns-clause-form : goal.access-returns-clause-form
access-returns-clause-form t c =
    let v = sight c.args.self.now in
    let x = c.in_ok-variable.variable in
    let at = c.args.access.now.name.start in
    let xs = c.as_slice.result.now in
    subst (λ (o : Option (Reached × Built)). IfOk c.reached.result (λ r. o ≡ Some (r, c.reached.new.made.built)))
    (ap (reached_form v x at (map (expr_form v) xs)) c.in_ok-variable.ensures.kept ∙ sym (access_form_by v c.args.access.now x xs c.args.made.now.built c.as_slice.ensures c.in_ok-variable.ensures.value))
    c.reached.ensures.form

pub actuals-returns-clause-form : goal.actuals-returns-clause-form
actuals-returns-clause-form t c =
    let v = sight c.args.self.now in
    let formals = formals_at v c.args.head in
    let xs = c.args.actuals.now in
    actuals_end v (all_passed_form formals (map (given_form v) xs) c.args.made.now.built) c.loop-k.list formals xs c.loop-k.k c.loop-k.made.built c.loop-k.invariant.form c.loop-k-test.false

pub function_call-returns-clause-writes : goal.function_call-returns-clause-writes
unfolding written
function_call-returns-clause-writes t c = c.in_ok-actuals.ensures.writes

pub reached-returns-clause-form : goal.reached-returns-clause-form
reached-returns-clause-form t c =
    let v = sight c.args.self.now in
    let xs = c.args.subscripts.now in
    reached_by v c.args.variable c.args.name.start xs c.args.made.now.built c.loop-subscript.list c.loop-subscript.of_type c.if-is_empty.result c.loop-subscript.made.built
    (subscripts_end v (subscripts_form v c.args.variable.of_type (map (expr_form v) xs) c.args.made.now.built) c.loop-subscript.list c.loop-subscript.of_type xs c.loop-subscript.subscript-index c.loop-subscript.made.built c.loop-subscript.invariant.form c.loop-subscript-test.false)
    (search rules)

pub actuals-loop-k-init : goal.actuals-loop-k-init
actuals-loop-k-init t c = record {
  passed = refl;
  writes = refl;
  form =
      let v = sight c.args.self.now in
      let formals = formals_at v c.args.head in
      actuals_begin v formals c.args.actuals.now c.args.made.now.built ∙ ap (λ ys. after ys (all_passed_form formals (map (given_form v) c.args.actuals.now) c.args.made.now.built)) (sym c.new-list.ensures);
}

pub reached-loop-subscript-init : goal.reached-loop-subscript-init
reached-loop-subscript-init t c = record {
  led = refl;
  writes = refl;
  form =
      let v = sight c.args.self.now in
      let x = c.args.variable in
      subscripts_begin v x.of_type c.args.subscripts.now c.args.made.now.built ∙ ap (λ ys. after_subscripts ys (subscripts_form v x.of_type (map (expr_form v) c.args.subscripts.now) c.args.made.now.built)) (sym c.new-list.ensures);
}

pub actuals-returns-in_err-passed-clause-value : goal.actuals-returns-in_err-passed-clause-value
actuals-returns-in_err-passed-clause-value t c =
    let v = sight c.args.self.now in
    let formals = formals_at v c.args.head in
    let rest = all_passed v (drop (c.loop-k.k + 1) formals) (map (given v) (drop (c.loop-k.k + 1) c.args.actuals.now)) in
    gives_wrong _ _ c.from_residual.result c.in_err-passed.field-0.0 (search rules) (λ own.
    c.loop-k.invariant.passed ∙ passed_next v formals c.args.actuals.now c.loop-k.k c.index-actuals-k.result c.loop-k-test.true c.index-actuals-k.is
    ∙ ap (λ f. passed v f (given v c.index-actuals-k.result) >>= (λ done. rest)) (sym c.formal.ensures)
    ∙ ap (λ o. o >>= (λ done. rest)) (c.in_err-passed.ensures.value own))

pub actuals-loop-k-preserved : goal.actuals-loop-k-preserved
actuals-loop-k-preserved t c =
    let v = sight c.args.self.now in
    let formals = formals_at v c.args.head in
    let rest = all_passed v (drop (c.loop-k.k + 1) formals) (map (given v) (drop (c.loop-k.k + 1) c.args.actuals.now)) in
    let others_write = all_passed_writes v (drop (c.loop-k.k + 1) formals) (map (given v) (drop (c.loop-k.k + 1) c.args.actuals.now)) in record {
      passed =
          c.loop-k.invariant.passed ∙ passed_next v formals c.args.actuals.now c.loop-k.k c.index-actuals-k.result c.loop-k-test.true c.index-actuals-k.is
          ∙ ap (λ f. passed v f (given v c.index-actuals-k.result) >>= (λ done. rest)) (sym c.formal.ensures)
          ∙ ap (λ o. o >>= (λ done. rest)) c.in_ok-passed.ensures.value;
      writes =
          c.loop-k.invariant.writes ∙ passed_writes_next v formals c.args.actuals.now c.loop-k.k c.index-actuals-k.result (written c.loop-k.made) c.loop-k-test.true c.index-actuals-k.is
          ∙ ap (λ f. others_write (passed_writes v f (given v c.index-actuals-k.result) (written c.loop-k.made))) (sym c.formal.ensures)
          ∙ ap others_write (sym c.in_ok-passed.ensures.writes);
      form =
          let all = all_passed_form formals (map (given_form v) c.args.actuals.now) c.args.made.now.built in
          let pushed : c.push.new.self ≡ c.loop-k.list ++ c.in_ok-passed.passed ∷ [] = search rules in
          subst (λ ys. all ≡ after ys (all_passed_form (drop (c.loop-k.k + 1) formals) (map (given_form v) (drop (c.loop-k.k + 1) c.args.actuals.now)) c.passed.new.made.built)) (sym pushed)
          (actuals_go v all c.loop-k.list formals c.args.actuals.now c.loop-k.k c.index-actuals-k.result c.loop-k.made.built c.in_ok-passed.passed c.passed.new.made.built c.loop-k.invariant.form c.loop-k-test.true c.index-actuals-k.is
          (ap (λ f. passed_form f (given_form v c.index-actuals-k.result) c.loop-k.made.built) (sym c.formal.ensures) ∙ c.in_ok-passed.ensures.form));
    }

pub reached-returns-in_default-clause-value : goal.reached-returns-in_default-clause-value
reached-returns-in_default-clause-value t c =
    let v = sight c.args.self.now in
    let xs = c.args.subscripts.now in
    λ own.
    reached_fails v c.args.variable xs c.first_fault.result
    (c.loop-subscript.invariant.led ∙ led_stops v xs c.loop-subscript.subscript-index c.loop-subscript.of_type c.subscript-item.result c.first_fault.result c.loop-subscript-test.true c.subscript-item.is
    (sym c.parts.ensures ∙ c.in_default.is) (c.first_fault.ensures.value own))

pub reached-returns-in_err-value-clause-value : goal.reached-returns-in_err-value-clause-value
reached-returns-in_err-value-clause-value t c =
    let v = sight c.args.self.now in
    let xs = c.args.subscripts.now in
    gives_wrong _ _ c.from_residual.result c.in_err-value.field-0.0 (search rules) (λ own.
    reached_fails v c.args.variable xs c.in_err-value.field-0.0
    (c.loop-subscript.invariant.led ∙ led_fails v xs c.loop-subscript.subscript-index c.loop-subscript.of_type c.subscript-item.result c.in_err-value.field-0.0 (c.in-Some.index, c.in-Some.element) c.loop-subscript-test.true c.subscript-item.is
    (sym c.parts.ensures ∙ c.in-Some.is) (c.in_err-value.ensures.value own)))

pub reached-loop-subscript-preserved : goal.reached-loop-subscript-preserved
reached-loop-subscript-preserved t c =
    let v = sight c.args.self.now in
    let xs = c.args.subscripts.now in record {
      led =
          c.loop-subscript.invariant.led ∙ led_goes v xs c.loop-subscript.subscript-index c.loop-subscript.of_type c.subscript-item.result (c.in-Some.index, c.in-Some.element) c.loop-subscript-test.true c.subscript-item.is
          (sym c.parts.ensures ∙ c.in-Some.is) c.in_ok-value.ensures.value;
      writes =
          c.loop-subscript.invariant.writes ∙ writes_next (found v) found_writes xs c.loop-subscript.subscript-index c.subscript-item.result (written c.loop-subscript.made) c.loop-subscript-test.true c.subscript-item.is
          ∙ ap (writes_in_turn found_writes (map (found v) (drop (c.loop-subscript.subscript-index + 1) xs))) (sym c.in_ok-value.ensures.writes);
      form =
          let all = subscripts_form v c.args.variable.of_type (map (expr_form v) xs) c.args.made.now.built in
          let pushed : c.push.new.self ≡ c.loop-subscript.list ++ c.in_ok-value.value ∷ [] = search rules in
          subst (λ ys. all ≡ after_subscripts ys (subscripts_form v c.in-Some.element (map (expr_form v) (drop (c.loop-subscript.subscript-index + 1) xs)) c.subscript.new.made.built)) (sym pushed)
          (subscripts_go v all c.loop-subscript.list c.loop-subscript.of_type xs c.loop-subscript.subscript-index c.subscript-item.result c.loop-subscript.made.built (c.in-Some.index, c.in-Some.element) c.in_ok-value.value c.subscript.new.made.built
          c.loop-subscript.invariant.form c.loop-subscript-test.true c.subscript-item.is (sym c.parts.ensures ∙ c.in-Some.is) c.in_ok-value.ensures.form);
    }

pub variable_of-returns-else-is_empty-clause-value : goal.variable_of-returns-else-is_empty-clause-value
variable_of-returns-else-is_empty-clause-value t c =
    let v = sight c.args.self.now in
    λ own.
    call_is_no_variable v c.args.value.now c.in-Name.name c.in-Name.actuals c.in-Name.span c.in-Name.is
    (iff_false c.is_empty.ensures c.if-is_empty.false) ∙ ap Err (sym (c.first_fault.ensures.value own))
