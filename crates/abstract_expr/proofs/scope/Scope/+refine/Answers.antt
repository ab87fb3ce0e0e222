use Rattle.std.proofs.Common.{◌≡◌, ◌<◌, ◌+◌, arith, length, rules, refl, sym, ap, subst, ◌∙◌, true, drop, map}
use Rattle.std.specs.List.{slice_get}
use Rattle.std.proofs.lemmas.List.{drop_all}
use Rattle.control_points.specs.Evaluation.{var_type}
use Rattle.interval_back.specs.Backward.{left_back, right_back}
use Rattle.pas_program.specs.declared.expr.Actual.TheViews.{out-Access, out-Expr, the_lemmas}
use Rattle.pas_program.specs.declared.expr.ExprForm.TheVariants.{rolls-Const, rolls-Value, rolls-Unary, rolls-Binary, rolls-Call}
use Rattle.pas_program.specs.Checked.{numbers_in, tables}
use Rattle.pas_program.specs.Typed.{hosted, subscripted}
use Rattle.abstract_expr.specs.Expressions.{Change, defined_in, operator_refined, range_of, reached_value, refined, refined_form, subscripts_refined, wanted_of}
use Rattle.abstract_expr.specs.Scopes.{Stands, program_of, scope_of, seen_of}
use Rattle.abstract_expr.proofs.AccessTypes.{subscripts_fit}
use Rattle.abstract_expr.proofs.Levels.{beside, indexed_is, next_subscript, of_access, of_call, of_constant, of_operand, of_operands, refined_is, wanted_none, wanted_some, wanted_unreached}
use Rattle.abstract_expr.proofs.Parts.{operands_stand, subscript_each}
use Rattle.abstract_expr.proofs.Subscripts.{array_after, leading_at, not_scalar, same_array}
use Rattle.abstract_expr.proofs.scope.Scope.+refine.Goals as goal

pub refine-returns-then-not-reachable-clause-value : goal.refine-returns-then-not-reachable-clause-value
refine-returns-then-not-reachable-clause-value t c =
    let s = scope_of c.args.self.now in
    let e = c.args.e.now in
    let env = c.args.env.now.env in
    wanted_unreached (reached_value s.bind env e) (refined_form s (out-Expr e).form) c.args.wanted env (sym c.reachable.ensures.value ∙ c.if-not-reachable.true) ∙ sym (refined_is s e c.args.wanted env)

pub refine-returns-in-Some-clause-value : goal.refine-returns-in-Some-clause-value
refine-returns-in-Some-clause-value t c =
    let s = scope_of c.args.self.now in
    let e = c.args.e.now in
    let w = c.args.wanted in
    let env = c.args.env.now.env in
    let form = refined_form s (out-Expr e).form in
    c.refine_form.ensures.value
    ∙ wanted_some c.value-value.result form w env c.meet_wanted.new.env.env (sym c.reachable.ensures.value ∙ c.if-not-reachable.false) c.meet_wanted.ensures.value c.in-Some.left (sym c.meet_wanted.ensures.left ∙ c.in-Some.is)
    ∙ ap (λ x. wanted_of x form w env) c.value-value.ensures ∙ sym (refined_is s e w env)

pub refine-returns-in_default-clause-value : goal.refine-returns-in_default-clause-value
refine-returns-in_default-clause-value t c =
    let s = scope_of c.args.self.now in
    let e = c.args.e.now in
    let w = c.args.wanted in
    let env = c.args.env.now.env in
    let form = refined_form s (out-Expr e).form in
    wanted_none c.value-value.result form w env c.meet_wanted.new.env.env (sym c.reachable.ensures.value ∙ c.if-not-reachable.false) c.meet_wanted.ensures.value (sym c.meet_wanted.ensures.left ∙ c.in_default.is)
    ∙ ap (λ x. wanted_of x form w env) c.value-value.ensures ∙ sym (refined_is s e w env)

pub refine_form-refine_operands-requires : goal.refine_form-refine_operands-requires
refine_form-refine_operands-requires t c =
    let s = c.args.self.now in
    let r = c.requires in
    let stand : Stands s c.args.e.now = record { numbers = r.numbers; types = r.types; seen = r.seen } in
    let o = operands_stand s c.args.e.now c.in-Binary.op c.in-Binary.left c.in-Binary.right c.in-Binary.at (c.in-Binary.is ∙ sym (rolls-Binary c.in-Binary.op c.in-Binary.left c.in-Binary.right c.in-Binary.at)) stand in
    (search (rules, the_lemmas), (r.reached, (r.cells, (subst (Stands s) (sym c.get-in-Binary.ensures) o.0, subst (Stands s) (sym c.get-in-Binary-2.ensures) o.1))))

pub refine_form-returns-in-Const-clause-value : goal.refine_form-returns-in-Const-clause-value
refine_form-returns-in-Const-clause-value t c =
    sym (of_constant (scope_of c.args.self.now) _ c.args.wanted c.args.env.now.env c.in-Const.boolean c.in-Const.value (c.in-Const.is ∙ sym (rolls-Const c.in-Const.boolean c.in-Const.value)))

pub refine_form-returns-in-Value-clause-value : goal.refine_form-returns-in-Value-clause-value
refine_form-returns-in-Value-clause-value t c =
    c.refine_variable.ensures.value
    ∙ sym (of_access (scope_of c.args.self.now) _ c.args.wanted c.args.env.now.env c.in-Value.access (c.in-Value.is ∙ sym (rolls-Value c.in-Value.access)))

pub refine_form-returns-in-Unary-clause-value : goal.refine_form-returns-in-Unary-clause-value
refine_form-returns-in-Unary-clause-value t c =
    let u = c.in-Unary in
    c.refine.ensures.value
    ∙ of_operand (scope_of c.args.self.now) _ c.args.wanted c.args.env.now.env u.op u.of u.at c.get.result.now c.get-in-Unary.result.now c.value-x.result c.unary_back.result (u.is ∙ sym (rolls-Unary u.op u.of u.at))
    c.get.ensures c.get-in-Unary.ensures c.value-x.ensures c.unary_back.ensures.answer

pub refine_form-returns-in-Binary-clause-value : goal.refine_form-returns-in-Binary-clause-value
refine_form-returns-in-Binary-clause-value t c =
    let s = scope_of c.args.self.now in
    let w = c.args.wanted in
    let env = c.args.env.now.env in
    let b = c.in-Binary in
    let left = c.get-in-Binary.result.now in
    let right = c.get-in-Binary-2.result.now in
    ◌∙◌ {b = operator_refined s b.op left right w env} c.refine_operands.ensures.value
    (of_operands s _ w env b.op b.left b.right b.at left right (b.is ∙ sym (rolls-Binary b.op b.left b.right b.at)) c.get-in-Binary.ensures c.get-in-Binary-2.ensures)

pub refine_form-returns-in-Call-clause-value : goal.refine_form-returns-in-Call-clause-value
refine_form-returns-in-Call-clause-value t c =
    let s = scope_of c.args.self.now in
    let w = c.args.wanted in
    let env = c.args.env.now.env in
    let f = c.in-Call in
    c.define.ensures.value ∙ ap (λ b. defined_in b.cell w env) c.bind.ensures.value
    ∙ sym (of_call s _ w env f.routine f.actuals f.slot f.at (f.is ∙ sym (rolls-Call f.routine f.actuals f.slot f.at)))

pub refine_operands-refine-requires-2 : goal.refine_operands-refine-requires-2
refine_operands-refine-requires-2 t c =
    let r = c.requires.right in
    (search (rules, the_lemmas), (c.refine.ensures.cells ∙ c.requires.cells, (r.numbers, (r.types, r.seen))))

pub refine_operands-returns-clause-value : goal.refine_operands-returns-clause-value
refine_operands-returns-clause-value t c =
    let s = scope_of c.args.self.now in
    let op = c.args.op in
    let w = c.args.wanted in
    let env = c.args.env.now.env in
    let x = reached_value s.bind env c.args.left.now in
    let l = c.binary_back.ensures.left ∙ ap (λ u. left_back op w u c.value-y.result) c.value-x.ensures ∙ ap (left_back op w x) c.value-y.ensures in
    let r = c.binary_back.ensures.right ∙ ap (λ u. right_back op w u c.value-y.result) c.value-x.ensures ∙ ap (right_back op w x) c.value-y.ensures in
    c.refine-2.ensures.value ∙ ap (λ v. refined s c.args.right.now v c.refine.new.env.env) r
    ∙ ap (refined s c.args.right.now _) (c.refine.ensures.value ∙ ap (λ v. refined s c.args.left.now v env) l)

pub refine_subscripts-loop-subscript-init : goal.refine_subscripts-loop-subscript-init
refine_subscripts-loop-subscript-init t c =
    let p = program_of c.args.self.now in
    let a = c.args.access.now in
    record {
      in_range = c.var_type-of_type.ensures.in_range;
      fits = subst (λ n. (subscripted (tables p) n (map (hosted (tables p)) c.as_slice-subscript-items.result.now)).fits ≡ true) (sym c.var_type-of_type.ensures.value)
          (subst (λ xs. (subscripted (tables p) (var_type (tables p) (out-Access a).var) (map (hosted (tables p)) xs)).fits ≡ true) (sym c.as_slice-subscript-items.ensures) (subscripts_fit (tables p) a c.requires.types));
      refined = refl;
      cells = refl;
      room = refl;
    }

pub refine_subscripts-type_def-requires : goal.refine_subscripts-type_def-requires
refine_subscripts-type_def-requires t c =
    subst (λ p. c.loop-subscript.of_type < length p.types) (sym c.program.ensures) c.loop-subscript.invariant.in_range

pub refine_subscripts-refine-requires : goal.refine_subscripts-refine-requires
refine_subscripts-refine-requires t c =
    let s = c.args.self.now in
    let p = program_of s in
    let a = c.args.access.now in
    let xs = c.as_slice-subscript-items.result.now in
    let i = c.loop-subscript.subscript-index in
    let e = c.subscript-item.result in (
      search (rules, the_lemmas),
      (
        c.loop-subscript.invariant.cells ∙ c.requires.cells,
        (
          subscript_each (numbers_in p) a xs i e c.as_slice-subscript-items.ensures c.loop-subscript-test.true c.subscript-item.is c.requires.numbers,
          (
            (leading_at (tables p) c.loop-subscript.of_type i e xs c.loop-subscript-test.true c.subscript-item.is c.loop-subscript.invariant.fits).subscript,
            subscript_each (seen_of s) a xs i e c.as_slice-subscript-items.ensures c.loop-subscript-test.true c.subscript-item.is c.requires.seen,
          ),
        ),
      ),
    )

pub refine_subscripts-unreachable-requires : goal.refine_subscripts-unreachable-requires
refine_subscripts-unreachable-requires t c =
    let p = program_of c.args.self.now in
    not_scalar (tables p) c.loop-subscript.of_type c.loop-subscript.subscript-index c.subscript-item.result c.as_slice-subscript-items.result.now c.in-Scalar.boolean c.in-Scalar.lo c.in-Scalar.hi
    c.loop-subscript-test.true c.subscript-item.is c.loop-subscript.invariant.fits (ap (λ q. slice_get q.types c.loop-subscript.of_type) (sym c.program.ensures) ∙ c.in-Scalar.ensures.value)

pub refine_subscripts-loop-subscript-preserved : goal.refine_subscripts-loop-subscript-preserved
refine_subscripts-loop-subscript-preserved t c =
    let s = c.args.self.now in
    let p = program_of s in
    let xs = c.as_slice-subscript-items.result.now in
    let n = c.loop-subscript.of_type in
    let i = c.loop-subscript.subscript-index in
    let e = c.subscript-item.result in
    let env = c.loop-subscript.env.env in
    let array = ap (λ q. slice_get q.types n) (sym c.program.ensures) ∙ c.in-Array.ensures.value in
    let l = leading_at (tables p) n i e xs c.loop-subscript-test.true c.subscript-item.is c.loop-subscript.invariant.fits in
    let same = same_array _ l.index l.element c.in-Array.index c.in-Array.element l.array array in
    let after = array_after _ n c.in-Array.index c.in-Array.element c.in-Array.ensures.fits in
    let range = c.range_of.ensures ∙ ap range_of (c.type_at.ensures ∙ ap (λ q. slice_get q.types c.in-Array.index) c.program-in-Array.ensures) in
    record {
      in_range = omega (arith, after.1, c.loop-subscript.invariant.in_range);
      fits = subst (λ m. (subscripted (tables p) m (map (hosted (tables p)) (drop (i + 1) xs))).fits ≡ true) same.1 l.fits;
      refined = ap (subscripts_refined (scope_of s) c.in-Array.element (beside (scope_of s) (drop (i + 1) xs))) (c.refine.ensures.value ∙ ap (λ w. refined (scope_of s) e w env) range)
          ∙ sym (next_subscript (scope_of s) xs i e n c.in-Array.index c.in-Array.element env c.loop-subscript-test.true c.subscript-item.is array) ∙ c.loop-subscript.invariant.refined;
      cells = c.refine.ensures.cells ∙ c.loop-subscript.invariant.cells;
      room = c.refine.ensures.room ∙ c.loop-subscript.invariant.room;
    }

pub refine_subscripts-returns-clause-value : goal.refine_subscripts-returns-clause-value
refine_subscripts-returns-clause-value t c =
    let s = scope_of c.args.self.now in
    let env = c.args.env.now.env in
    let xs = c.as_slice-subscript-items.result.now in
    ap (λ ys. subscripts_refined s c.loop-subscript.of_type (beside s ys) c.loop-subscript.env.env) (sym (drop_all c.loop-subscript.subscript-index xs c.loop-subscript-test.false))
    ∙ c.loop-subscript.invariant.refined
    ∙ ap (λ n. subscripts_refined s n (beside s xs) env) c.var_type-of_type.ensures.value
    ∙ ap (λ ys. subscripts_refined s (var_type s.tables (out-Access c.args.access.now).var) (beside s ys) env) c.as_slice-subscript-items.ensures
    ∙ ap (λ (f : Change). f env) (sym (indexed_is s c.args.access.now))

pub refine_subscripts-returns-clause-cells : goal.refine_subscripts-returns-clause-cells
refine_subscripts-returns-clause-cells t c = c.loop-subscript.invariant.cells

pub refine_subscripts-returns-clause-room : goal.refine_subscripts-returns-clause-room
refine_subscripts-returns-clause-room t c = c.loop-subscript.invariant.room
