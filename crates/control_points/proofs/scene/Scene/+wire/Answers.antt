use Rattle.std.proofs.Common.{◌≡◌, suc, ◌+◌, ◌<◌, true, false, ◌&&◌, [], ◌++◌, refl, length, length-append, map, nat_lt, drop, sym, ap, subst, ◌∙◌, rules, arith, ◌-◌}
use Rattle.std.proofs.lemmas.Bool.{and_parts}
use Rattle.std.proofs.lemmas.List.{length-map}
use Rattle.std.specs.List.{list_all}
use Rattle.std.specs.Option.{option_map}
use Rattle.pas_program.proofs.Elements.{all_true_at}
use Rattle.pas_program.specs.Checked.{numbers_in, scope_in, tables}
use Rattle.pas_program.specs.declared.statement.Body.TheOpen.{Body-F}
use Rattle.pas_program.specs.declared.statement.Body.TheVariants as view
use Rattle.pas_program.specs.declared.statement.Body.TheViews.{the_lemmas, out-Body}
use Rattle.pas_program.specs.Each.{all_true, arm_of, constants, each_expr, each_statement, true_if_some}
use Rattle.pas_program.specs.Typed.{arm_types, hosted, is_of_host, statement_types_fit}
use Rattle.pas_program.specs.Types.{in_host}
use Rattle.control_points.specs.Marks.{second_or}
use Rattle.control_points.specs.Extents.{Extent, both, extent_of, arm_extent, arms_extent, statement_extent, statements_extent}
use Rattle.control_points.specs.Called.{site_of, sites_of, own_calls}
use Rattle.control_points.specs.Calls.{expr_calls}
use Rattle.control_points.specs.Scenes.{SitesFit}
use Rattle.control_points.specs.Wired.{Begins}
use Rattle.control_points.proofs.Loops.{firsts_at, item_at}
use Rattle.control_points.proofs.Opened.{action_at, calls_at, for_fits, if_extent_is, if_first, if_first_types, if_second, if_second_types, inner_sizes, own_room, points_at, repeat_extent, repeat_sizes, rule_at, sizes_at, test_fits, types_at}
use Rattle.control_points.proofs.Left.{then_if, then_ok}
use Rattle.control_points.proofs.OwnCalls.{arms_fit, expr_fit}
use Rattle.control_points.proofs.Scened.{exit_fits, weaker_in}
use Rattle.control_points.proofs.Sized.{arm_headed, arm_is, arm_rule, arm_type, none_left, one_of, size_of, statement_headed}
use Rattle.control_points.proofs.Sizes.{sizes_both, sizes_rest}
use Rattle.control_points.specs.Drawing.{plan_in}
use Rattle.control_points.specs.Edges.{laid_statement, points_of, second_piece, inner_piece, laid_body, own_piece}
use Rattle.control_points.proofs.Followed.{followed_again, followed_along, followed_by_both, followed_by_nothing, leads_last, leads_step}
use Rattle.control_points.proofs.Laying.{arms_done, arms_step, if_inside, inner_at, loop_is, order_done, order_step, points_of_laid, statement_drawn, until_is}
use Rattle.control_points.specs.Checking.{assert_checks}
use Rattle.control_points.specs.Pieces.{judged}
use Rattle.control_points.specs.Pieces as pieces
use Rattle.control_points.proofs.scene.Scene.+wire.Goals as goal

pub sequence-size-requires : goal.sequence-size-requires
sequence-size-requires t c =
    let s = c.args.self.now in
    let i = c.loop-k.invariant in
    let part = one_of statement_extent statement_headed c.args.body.now s.numbering.now.sizes c.loop-k.k c.index-body-k.result c.loop-k.here c.loop-k.order c.args.stand.here c.args.stand.order (omega arith) c.index-body-k.is i.here i.order i.sizes in
    part.known

pub sequence-overflow_add-after : goal.sequence-overflow_add-after
sequence-overflow_add-after t c =
    let s = c.args.self.now in
    let i = c.loop-k.invariant in
    let part = one_of statement_extent statement_headed c.args.body.now s.numbering.now.sizes c.loop-k.k c.index-body-k.result c.loop-k.here c.loop-k.order c.args.stand.here c.args.stand.order (omega arith) c.index-body-k.is i.here i.order i.sizes in
    omega (arith, part.size, c.size.ensures, part.room, c.requires.stands.room, exit_fits s)

pub sequence-statement-requires : goal.sequence-statement-requires
sequence-statement-requires t c =
    let s = c.args.self.now in
    let i = c.loop-k.invariant in
    let part = one_of statement_extent statement_headed c.args.body.now s.numbering.now.sizes c.loop-k.k c.index-body-k.result c.loop-k.here c.loop-k.order c.args.stand.here c.args.stand.order (omega arith) c.index-body-k.is i.here i.order i.sizes in
    let p = s.program.now in
    let k = c.loop-k.k in
    let x = c.index-body-k.result in
    let within : k < length c.args.body.now = omega arith in (
      search (rules, the_lemmas),
      (
        all_true_at (each_statement (numbers_in p)) c.args.body.now k x within c.index-body-k.is c.requires.numbers,
        (
          all_true_at (statement_types_fit (tables p)) c.args.body.now k x within c.index-body-k.is c.requires.types,
          (
            all_true_at (each_statement (scope_in p s.routine)) c.args.body.now k x within c.index-body-k.is c.requires.scopes,
            (
              record {
                low = omega (arith, i.low, c.requires.stands.low);
                room = omega (arith, part.room, c.requires.stands.room);
                next_low = c.choose-next.ensures.low s.entry c.requires.stands.next_low (omega (arith, i.low, c.requires.stands.low));
                next_high = c.choose-next.ensures.high s.exit c.requires.stands.next_high (omega (arith, part.size, c.size.ensures, part.room, c.requires.stands.room));
              },
              (
                part.own,
                i.drawn,
              ),
            ),
          ),
        ),
      ),
    )

pub sequence-loop-k-preserved : goal.sequence-loop-k-preserved
sequence-loop-k-preserved t c =
    let s = c.args.self.now in
    let i = c.loop-k.invariant in
    let part = one_of statement_extent statement_headed c.args.body.now s.numbering.now.sizes c.loop-k.k c.index-body-k.result c.loop-k.here c.loop-k.order c.args.stand.here c.args.stand.order (omega arith) c.index-body-k.is i.here i.order i.sizes in
    let order = c.in_ok-order.ensures.order in
    record {
      here = omega (arith, part.here_next, part.size, c.size.ensures);
      low = omega (arith, i.low);
      order = omega (arith, order, part.order_next);
      sizes = subst (λ n. Begins (statements_extent (drop (c.loop-k.k + 1) c.args.body.now)).sizes (drop n s.numbering.now.sizes)) (sym order) part.rest;
      drawn = weaker_in s _ _ _ _ c.in_ok-order.ensures.graph (omega (arith, part.size, c.size.ensures));
      exact = leads_step i.exact c.in_ok-order.ensures.exact (order_step (plan_in s) c.args.body.now c.loop-k.k c.index-body-k.result c.loop-k.here _ c.args.stand.next _ _ (omega arith) c.index-body-k.is (omega (arith, part.size, c.size.ensures)) c.choose-next.ensures.value refl);
    }

pub sequence-returns-clause-order : goal.sequence-returns-clause-order
sequence-returns-clause-order t c =
    let none = none_left statement_extent c.args.body.now c.loop-k.k c.loop-k-test.false in
    omega (arith, c.loop-k.invariant.order, ap (λ (x : Extent). length x.sizes) none)

pub sequence-returns-clause-graph : goal.sequence-returns-clause-graph
sequence-returns-clause-graph t c =
    let none = none_left statement_extent c.args.body.now c.loop-k.k c.loop-k-test.false in
    weaker_in c.args.self.now _ _ _ _ c.loop-k.invariant.drawn (omega (arith, c.loop-k.invariant.here, ap (λ (x : Extent). x.points) none))

pub arms-size-requires : goal.arms-size-requires
arms-size-requires t c =
    let s = c.args.self.now in
    let i = c.loop-arm.invariant in
    let part = one_of arm_extent arm_headed c.args.arms.now s.numbering.now.sizes c.loop-arm.arm-index c.arm-item.result c.loop-arm.here c.loop-arm.order c.args.inside.here c.args.inside.order (omega arith) c.arm-item.is i.here i.order i.sizes in
    part.known

pub arms-overflow_add-after : goal.arms-overflow_add-after
arms-overflow_add-after t c =
    let s = c.args.self.now in
    let i = c.loop-arm.invariant in
    let part = one_of arm_extent arm_headed c.args.arms.now s.numbering.now.sizes c.loop-arm.arm-index c.arm-item.result c.loop-arm.here c.loop-arm.order c.args.inside.here c.args.inside.order (omega arith) c.arm-item.is i.here i.order i.sizes in
    omega (arith, part.size, c.size.ensures, part.room, c.requires.stands.room, exit_fits s)

pub arms-arm-requires-clause-fits : goal.arms-arm-requires-clause-fits
arms-arm-requires-clause-fits t c =
    let k = c.loop-arm.arm-index in
    rw c.as_slice.ensures (c.requires.fits.each k c.arm-item.result (item_at c.args.arms.now k c.arm-item.result (omega arith) c.arm-item.is))

pub arms-statement-requires : goal.arms-statement-requires
arms-statement-requires t c =
    let s = c.args.self.now in
    let i = c.loop-arm.invariant in
    let part = one_of arm_extent arm_headed c.args.arms.now s.numbering.now.sizes c.loop-arm.arm-index c.arm-item.result c.loop-arm.here c.loop-arm.order c.args.inside.here c.args.inside.order (omega arith) c.arm-item.is i.here i.order i.sizes in
    let p = s.program.now in
    let k = c.loop-arm.arm-index in
    let x = c.arm-item.result in
    let within : k < length c.args.arms.now = omega arith in (
      search (rules, the_lemmas),
      (
        arm_rule (numbers_in p) x (firsts_at (arm_of (numbers_in p)) c.args.arms.now k x within c.arm-item.is c.requires.numbers),
        (
          arm_type (tables p) x (firsts_at (arm_types (tables p)) c.args.arms.now k x within c.arm-item.is c.requires.types),
          (
            arm_rule (scope_in p s.routine) x (firsts_at (arm_of (scope_in p s.routine)) c.args.arms.now k x within c.arm-item.is c.requires.scopes),
            (
              record {
                low = omega (arith, i.low, c.requires.stands.low);
                room = omega (arith, part.room, c.requires.stands.room, ap (λ (y : Extent). y.points) (arm_is x));
                next_low = c.requires.stands.next_low;
                next_high = c.requires.stands.next_high;
              },
              (
                subst (λ (y : Extent). Begins y.sizes (drop c.loop-arm.order s.numbering.now.sizes)) (arm_is x) part.own,
                c.in_ok-arm.ensures.graph,
              ),
            ),
          ),
        ),
      ),
    )

pub arms-loop-arm-preserved : goal.arms-loop-arm-preserved
arms-loop-arm-preserved t c =
    let s = c.args.self.now in
    let i = c.loop-arm.invariant in
    let part = one_of arm_extent arm_headed c.args.arms.now s.numbering.now.sizes c.loop-arm.arm-index c.arm-item.result c.loop-arm.here c.loop-arm.order c.args.inside.here c.args.inside.order (omega arith) c.arm-item.is i.here i.order i.sizes in
    let order = c.in_ok-order.ensures.order in
    let same = arm_is c.arm-item.result in
    record {
      here = omega (arith, part.here_next, part.size, c.size.ensures);
      low = omega (arith, i.low);
      order = omega (arith, order, part.order_next, ap (λ (y : Extent). length y.sizes) same);
      sizes = subst (λ n. Begins (arms_extent (drop (c.loop-arm.arm-index + 1) c.args.arms.now)).sizes (drop n s.numbering.now.sizes)) (omega (arith, order, ap (λ (y : Extent). length y.sizes) same)) part.rest;
      drawn = weaker_in s _ _ _ _ c.in_ok-order.ensures.graph (omega (arith, part.size, c.size.ensures, ap (λ (y : Extent). y.points) same));
      exact = leads_step (leads_step i.exact (rw c.as_slice.ensures at c.in_ok-arm.ensures.exact) (arms_step (plan_in s) c.args.of.now c.args.from c.args.arms.now c.loop-arm.arm-index c.arm-item.result c.loop-arm.here _ c.args.inside.next (omega arith) c.arm-item.is (omega (arith, part.size, c.size.ensures)))) c.in_ok-order.ensures.exact refl;
    }

pub arms-returns-clause-order : goal.arms-returns-clause-order
arms-returns-clause-order t c =
    let none = none_left arm_extent c.args.arms.now c.loop-arm.arm-index c.loop-arm-test.false in
    omega (arith, c.loop-arm.invariant.order, ap (λ (x : Extent). length x.sizes) none)

pub arms-returns-clause-graph : goal.arms-returns-clause-graph
arms-returns-clause-graph t c =
    let none = none_left arm_extent c.args.arms.now c.loop-arm.arm-index c.loop-arm-test.false in
    weaker_in c.args.self.now _ _ _ _ c.loop-arm.invariant.drawn (omega (arith, c.loop-arm.invariant.here, ap (λ (x : Extent). x.points) none))

pub statement-act-requires-clause-here : goal.statement-act-requires-clause-here
statement-act-requires-clause-here t c =
    c.in_ok-here.ensures.here

pub statement-inner-requires : goal.statement-inner-requires
statement-inner-requires t c = (
  search (rules, the_lemmas),
  (
    c.requires.numbers,
    (
      c.requires.types,
      (
        c.requires.scopes,
        (
          c.requires.stands,
          (
            c.requires.sizes,
            (
              c.in_ok-here.ensures.here,
              c.in_ok-act.ensures.graph,
            ),
          ),
        ),
      ),
    ),
  ),
)

pub inner-sequence-requires : goal.inner-sequence-requires
inner-sequence-requires t c =
    let s = c.args.self.now in
    let p = s.program.now in
    let x = c.args.s.now in
    let zs = s.numbering.now.sizes in
    let d = Body-F.Begin c.in-Begin.body c.in-Begin.end in
    let is = c.in-Begin.is ∙ sym (view.rolls-Begin c.in-Begin.body c.in-Begin.end) in
    let points = points_at x d is in
    let calls = ap length (calls_at x d is) in
    let action = action_at x d is in
    let inner = inner_sizes x d is zs c.args.stand.order c.requires.sizes in (
      search (rules, the_lemmas),
      (
        rw c.as_slice.ensures (rule_at x d is (numbers_in p) c.requires.numbers),
        (
          rw c.as_slice.ensures (types_at x d is (tables p) c.requires.types),
          (
            rw c.as_slice.ensures (and_parts (nat_lt 0 (length (map (each_statement (scope_in p s.routine)) c.in-Begin.body))) _ (rule_at x d is (scope_in p s.routine) c.requires.scopes)).1,
            (
              rw c.as_slice.ensures (record { low = omega (arith, c.requires.here, c.requires.stands.low); room = omega (arith, points, calls, c.requires.here, c.requires.stands.room); next_low = c.requires.stands.next_low; next_high = c.requires.stands.next_high }),
              (
                rw c.as_slice.ensures inner,
                weaker_in s _ _ _ _ c.requires.graph (omega (arith, action)),
              ),
            ),
          ),
        ),
      ),
    )

pub inner-returns-in-Empty-clause-graph : goal.inner-returns-in-Empty-clause-graph
inner-returns-in-Empty-clause-graph t c =
    weaker_in c.args.self.now _ _ _ _ c.requires.graph (omega (arith, own_room c.args.s.now, c.requires.here))

pub inner-returns-in-Assign-clause-graph : goal.inner-returns-in-Assign-clause-graph
inner-returns-in-Assign-clause-graph t c =
    weaker_in c.args.self.now _ _ _ _ c.requires.graph (omega (arith, own_room c.args.s.now, c.requires.here))

pub inner-returns-in-Copy-clause-graph : goal.inner-returns-in-Copy-clause-graph
inner-returns-in-Copy-clause-graph t c =
    weaker_in c.args.self.now _ _ _ _ c.requires.graph (omega (arith, own_room c.args.s.now, c.requires.here))

pub inner-returns-in-Call-clause-graph : goal.inner-returns-in-Call-clause-graph
inner-returns-in-Call-clause-graph t c =
    weaker_in c.args.self.now _ _ _ _ c.requires.graph (omega (arith, own_room c.args.s.now, c.requires.here))

pub inner-returns-in-Goto-clause-graph : goal.inner-returns-in-Goto-clause-graph
inner-returns-in-Goto-clause-graph t c =
    weaker_in c.args.self.now _ _ _ _ c.requires.graph (omega (arith, own_room c.args.s.now, c.requires.here))

pub inner-returns-in-Read-clause-graph : goal.inner-returns-in-Read-clause-graph
inner-returns-in-Read-clause-graph t c =
    weaker_in c.args.self.now _ _ _ _ c.requires.graph (omega (arith, own_room c.args.s.now, c.requires.here))

pub inner-returns-in-Write-clause-graph : goal.inner-returns-in-Write-clause-graph
inner-returns-in-Write-clause-graph t c =
    weaker_in c.args.self.now _ _ _ _ c.requires.graph (omega (arith, own_room c.args.s.now, c.requires.here))

pub inner-returns-in-Begin-clause-order : goal.inner-returns-in-Begin-clause-order
inner-returns-in-Begin-clause-order t c =
    let x = c.args.s.now in
    let d = Body-F.Begin c.in-Begin.body c.in-Begin.end in
    let is = c.in-Begin.is ∙ sym (view.rolls-Begin c.in-Begin.body c.in-Begin.end) in
    let sizes = ap length (sizes_at x d is) in
    then_if c.sequence.result (rw c.as_slice.ensures at c.sequence.ensures.order) (λ k h. omega (arith, h, sizes))

pub inner-returns-in-Begin-clause-graph : goal.inner-returns-in-Begin-clause-graph
inner-returns-in-Begin-clause-graph t c =
    let s = c.args.self.now in
    let x = c.args.s.now in
    let d = Body-F.Begin c.in-Begin.body c.in-Begin.end in
    let is = c.in-Begin.is ∙ sym (view.rolls-Begin c.in-Begin.body c.in-Begin.end) in
    let points = points_at x d is in
    let calls = ap length (calls_at x d is) in
    then_ok c.sequence.result (rw c.as_slice.ensures at c.sequence.ensures.graph) (λ h. weaker_in s _ _ _ _ h (omega (arith, points, calls, c.requires.here)))

pub inner-arms-requires : goal.inner-arms-requires
inner-arms-requires t c =
    let s = c.args.self.now in
    let p = s.program.now in
    let x = c.args.s.now in
    let zs = s.numbering.now.sizes in
    let d = Body-F.Case c.in-Case.of c.in-Case.arms in
    let is = c.in-Case.is ∙ sym (view.rolls-Case c.in-Case.of c.in-Case.arms) in
    let points = points_at x d is in
    let calls = ap length (calls_at x d is) in
    let action = action_at x d is in
    let inner = inner_sizes x d is zs c.args.stand.order c.requires.sizes in
    let q = numbers_in p in
    let u = scope_in p s.routine in
    let of = c.in-Case.of in
    let n = and_parts (each_expr q of) _ (rule_at x d is q c.requires.numbers) in
    let ty = and_parts (hosted (tables p) of).fits _ (types_at x d is (tables p) c.requires.types) in
    let ty2 = and_parts (list_all (in_host (hosted (tables p) of).boolean) (constants (map (arm_types (tables p)) c.in-Case.arms))) _ ty.1 in
    let sc = and_parts (each_expr u of) _ (rule_at x d is u c.requires.scopes) in (
      search (rules, the_lemmas),
      (
        rw c.as_slice-in-Case.ensures n.1,
        (
          rw c.as_slice-in-Case.ensures ty2.1,
          (
            rw c.as_slice-in-Case.ensures sc.1,
            (
              rw c.as_slice-in-Case.ensures (arms_fit p s.routine of c.in-Case.arms n.0 ty.0 ty2.0 sc.0),
              (
                omega (arith, c.requires.here, c.requires.stands.low),
                (
                  refl,
                  (
                    rw c.as_slice-in-Case.ensures (record { low = omega (arith, c.requires.here, c.requires.stands.low); room = omega (arith, points, calls, c.requires.here, c.requires.stands.room); next_low = c.requires.stands.next_low; next_high = c.requires.stands.next_high }),
                    (
                      rw c.as_slice-in-Case.ensures inner,
                      weaker_in s _ _ _ _ c.requires.graph (omega (arith, action)),
                    ),
                  ),
                ),
              ),
            ),
          ),
        ),
      ),
    )

pub inner-returns-in-Case-clause-order : goal.inner-returns-in-Case-clause-order
inner-returns-in-Case-clause-order t c =
    let x = c.args.s.now in
    let d = Body-F.Case c.in-Case.of c.in-Case.arms in
    let is = c.in-Case.is ∙ sym (view.rolls-Case c.in-Case.of c.in-Case.arms) in
    let sizes = ap length (sizes_at x d is) in
    then_if c.arms.result (rw c.as_slice-in-Case.ensures at c.arms.ensures.order) (λ k h. omega (arith, h, sizes))

pub inner-returns-in-Case-clause-graph : goal.inner-returns-in-Case-clause-graph
inner-returns-in-Case-clause-graph t c =
    let s = c.args.self.now in
    let x = c.args.s.now in
    let d = Body-F.Case c.in-Case.of c.in-Case.arms in
    let is = c.in-Case.is ∙ sym (view.rolls-Case c.in-Case.of c.in-Case.arms) in
    let points = points_at x d is in
    let calls = ap length (calls_at x d is) in
    then_ok c.arms.result (rw c.as_slice-in-Case.ensures at c.arms.ensures.graph) (λ h. weaker_in s _ _ _ _ h (omega (arith, points, calls, c.requires.here)))

pub inner-repeat-requires : goal.inner-repeat-requires
inner-repeat-requires t c =
    let s = c.args.self.now in
    let p = s.program.now in
    let x = c.args.s.now in
    let zs = s.numbering.now.sizes in
    let d = Body-F.Repeat c.in-Repeat.body c.in-Repeat.at c.in-Repeat.cond in
    let is = c.in-Repeat.is ∙ sym (view.rolls-Repeat c.in-Repeat.body c.in-Repeat.at c.in-Repeat.cond) in
    let points = points_at x d is in
    let calls = ap length (calls_at x d is) in
    let action = action_at x d is in
    let q = numbers_in p in
    let u = scope_in p s.routine in
    let cond = c.in-Repeat.cond in
    let body = c.in-Repeat.body in
    let n = and_parts (all_true (map (each_statement q) body)) _ (rule_at x d is q c.requires.numbers) in
    let ty = and_parts (all_true (map (statement_types_fit (tables p)) body)) _ (types_at x d is (tables p) c.requires.types) in
    let sc = and_parts (nat_lt 0 (length (map (each_statement u) body)) && all_true (map (each_statement u) body)) _ (rule_at x d is u c.requires.scopes) in (
      search (rules, the_lemmas),
      (
        expr_fit p s.routine cond n.1 (and_parts (hosted (tables p) cond).fits _ ty.1).0 sc.1,
        (
          test_fits p s.routine cond true n.1 ty.1 sc.1,
          (
            test_fits p s.routine cond false n.1 ty.1 sc.1,
            (
              rw c.as_slice-in-Repeat.ensures n.0,
              (
                rw c.as_slice-in-Repeat.ensures ty.0,
                (
                  rw c.as_slice-in-Repeat.ensures (and_parts (nat_lt 0 (length (map (each_statement u) body))) _ sc.0).1,
                  (
                    rw c.as_slice-in-Repeat.ensures (record { low = c.requires.stands.low; room = omega (arith, points, c.requires.stands.room); next_low = c.requires.stands.next_low; next_high = c.requires.stands.next_high }),
                    (
                      subst (λ b. Begins (repeat_extent b cond).sizes (drop c.args.stand.order zs)) (sym c.as_slice-in-Repeat.ensures) (repeat_sizes x body c.in-Repeat.at cond is zs c.args.stand.order c.requires.sizes),
                      weaker_in s _ _ _ _ c.requires.graph (omega (arith, action, calls, c.requires.here)),
                    ),
                  ),
                ),
              ),
            ),
          ),
        ),
      ),
    )

pub inner-returns-in-Repeat-clause-order : goal.inner-returns-in-Repeat-clause-order
inner-returns-in-Repeat-clause-order t c =
    let x = c.args.s.now in
    let d = Body-F.Repeat c.in-Repeat.body c.in-Repeat.at c.in-Repeat.cond in
    let is = c.in-Repeat.is ∙ sym (view.rolls-Repeat c.in-Repeat.body c.in-Repeat.at c.in-Repeat.cond) in
    let sizes = ap length (sizes_at x d is) in
    then_if c.repeat.result (rw c.as_slice-in-Repeat.ensures at c.repeat.ensures.order) (λ k h. omega (arith, h, sizes))

pub inner-returns-in-Repeat-clause-graph : goal.inner-returns-in-Repeat-clause-graph
inner-returns-in-Repeat-clause-graph t c =
    let s = c.args.self.now in
    let x = c.args.s.now in
    let d = Body-F.Repeat c.in-Repeat.body c.in-Repeat.at c.in-Repeat.cond in
    let is = c.in-Repeat.is ∙ sym (view.rolls-Repeat c.in-Repeat.body c.in-Repeat.at c.in-Repeat.cond) in
    let points = points_at x d is in
    let calls = ap length (calls_at x d is) in
    then_ok c.repeat.result (rw c.as_slice-in-Repeat.ensures at c.repeat.ensures.graph) (λ h. weaker_in s _ _ _ _ h (omega (arith, points, calls, c.requires.here)))

pub inner-for_loop-requires : goal.inner-for_loop-requires
inner-for_loop-requires t c =
    let s = c.args.self.now in
    let p = s.program.now in
    let x = c.args.s.now in
    let zs = s.numbering.now.sizes in
    let d = Body-F.For c.in-For.control c.in-For.bound c.in-For.first c.in-For.down c.in-For.last c.in-For.body in
    let is = c.in-For.is ∙ sym (view.rolls-For c.in-For.control c.in-For.bound c.in-For.first c.in-For.down c.in-For.last c.in-For.body) in
    let points = points_at x d is in
    let calls = ap length (calls_at x d is) in
    let action = action_at x d is in
    let inner = inner_sizes x d is zs c.args.stand.order c.requires.sizes in
    let f = c.in-For in
    let fit = for_fits p s.routine x f.control f.bound f.first f.down f.last f.body f.is c.requires.numbers c.requires.types c.requires.scopes in (
      search (rules, the_lemmas),
      (
        fit.again,
        (
          fit.finish,
          (
            rw c.get-in-For.ensures fit.numbers,
            (
              rw c.get-in-For.ensures fit.types,
              (
                rw c.get-in-For.ensures fit.scopes,
                (
                  omega (arith, c.requires.here, c.requires.stands.low),
                  (
                    rw c.get-in-For.ensures (omega (arith, points, calls, c.requires.here, c.requires.stands.room)),
                    (
                      c.requires.stands.next_low,
                      (
                        c.requires.stands.next_high,
                        (
                          rw c.get-in-For.ensures (sizes_both zs (c.args.stand.order + 1) (statement_extent f.body).sizes _ inner).0,
                          weaker_in s _ _ _ _ c.requires.graph (omega (arith, action)),
                        ),
                      ),
                    ),
                  ),
                ),
              ),
            ),
          ),
        ),
      ),
    )

pub inner-returns-in-For-clause-order : goal.inner-returns-in-For-clause-order
inner-returns-in-For-clause-order t c =
    let x = c.args.s.now in
    let d = Body-F.For c.in-For.control c.in-For.bound c.in-For.first c.in-For.down c.in-For.last c.in-For.body in
    let is = c.in-For.is ∙ sym (view.rolls-For c.in-For.control c.in-For.bound c.in-For.first c.in-For.down c.in-For.last c.in-For.body) in
    let sizes = ap length (sizes_at x d is) in
    then_if c.for_loop.result (rw c.get-in-For.ensures at c.for_loop.ensures.order) (λ k h. omega (arith, h, sizes, length-append (statement_extent c.in-For.body).sizes []))

pub inner-returns-in-For-clause-graph : goal.inner-returns-in-For-clause-graph
inner-returns-in-For-clause-graph t c =
    let s = c.args.self.now in
    let x = c.args.s.now in
    let d = Body-F.For c.in-For.control c.in-For.bound c.in-For.first c.in-For.down c.in-For.last c.in-For.body in
    let is = c.in-For.is ∙ sym (view.rolls-For c.in-For.control c.in-For.bound c.in-For.first c.in-For.down c.in-For.last c.in-For.body) in
    let points = points_at x d is in
    let calls = ap length (calls_at x d is) in
    then_ok c.for_loop.result (rw c.get-in-For.ensures at c.for_loop.ensures.graph) (λ h. weaker_in s _ _ _ _ h (omega (arith, points, calls, c.requires.here)))

pub for_loop-size-requires : goal.for_loop-size-requires
for_loop-size-requires t c =
    let s = c.args.self.now in
    let body = c.args.body.now in
    let found = size_of s.numbering.now.sizes (c.args.stand.order + 1) (statement_extent body) (statement_headed body) c.requires.sizes in
    found.0

pub for_loop-overflow_add-step : goal.for_loop-overflow_add-step
for_loop-overflow_add-step t c =
    let s = c.args.self.now in
    omega (arith, c.requires.room, exit_fits s)

pub for_loop-overflow_add-stand : goal.for_loop-overflow_add-stand
for_loop-overflow_add-stand t c =
    let s = c.args.self.now in
    let body = c.args.body.now in
    let found = size_of s.numbering.now.sizes (c.args.stand.order + 1) (statement_extent body) (statement_headed body) c.requires.sizes in
    omega (arith, found.0, s.numbering.now.sizes_few)

pub for_loop-overflow_add-step-2 : goal.for_loop-overflow_add-step-2
for_loop-overflow_add-step-2 t c =
    let s = c.args.self.now in
    let body = c.args.body.now in
    let found = size_of s.numbering.now.sizes (c.args.stand.order + 1) (statement_extent body) (statement_headed body) c.requires.sizes in
    omega (arith, found.1, c.size.ensures, c.requires.room, exit_fits s)

pub for_loop-overflow_add-inside : goal.for_loop-overflow_add-inside
for_loop-overflow_add-inside t c =
    let s = c.args.self.now in
    let body = c.args.body.now in
    let found = size_of s.numbering.now.sizes (c.args.stand.order + 1) (statement_extent body) (statement_headed body) c.requires.sizes in
    omega (arith, found.0, s.numbering.now.sizes_few)

pub for_loop-overflow_add-inside-2 : goal.for_loop-overflow_add-inside-2
for_loop-overflow_add-inside-2 t c =
    let s = c.args.self.now in
    omega (arith, c.requires.room, exit_fits s)

pub for_loop-overflow_add-here : goal.for_loop-overflow_add-here
for_loop-overflow_add-here t c =
    let s = c.args.self.now in
    omega (arith, c.requires.room, exit_fits s)

pub for_loop-statement-requires : goal.for_loop-statement-requires
for_loop-statement-requires t c =
    let s = c.args.self.now in
    let body = c.args.body.now in
    let found = size_of s.numbering.now.sizes (c.args.stand.order + 1) (statement_extent body) (statement_headed body) c.requires.sizes in (
      search (rules, the_lemmas),
      (
        c.requires.numbers,
        (
          c.requires.types,
          (
            c.requires.scopes,
            (
              record { low = omega (arith, c.requires.low); room = omega (arith, c.requires.room); next_low = omega (arith, c.requires.low); next_high = omega (arith, found.1, c.size.ensures, c.requires.room) },
              (
                c.requires.sizes,
                c.requires.graph,
              ),
            ),
          ),
        ),
      ),
    )

pub for_loop-turns-requires-clause-high : goal.for_loop-turns-requires-clause-high
for_loop-turns-requires-clause-high t c =
    let s = c.args.self.now in
    let body = c.args.body.now in
    let found = size_of s.numbering.now.sizes (c.args.stand.order + 1) (statement_extent body) (statement_headed body) c.requires.sizes in
    omega (arith, found.1, c.size.ensures, c.requires.room)

pub for_loop-turns-requires-clause-graph : goal.for_loop-turns-requires-clause-graph
for_loop-turns-requires-clause-graph t c =
    let s = c.args.self.now in
    let body = c.args.body.now in
    let found = size_of s.numbering.now.sizes (c.args.stand.order + 1) (statement_extent body) (statement_headed body) c.requires.sizes in
    weaker_in s _ _ _ _ c.in_ok-order.ensures.graph (omega (arith, found.1, c.size.ensures))

pub for_loop-returns-clause-graph : goal.for_loop-returns-clause-graph
for_loop-returns-clause-graph t c =
    let s = c.args.self.now in
    let body = c.args.body.now in
    let found = size_of s.numbering.now.sizes (c.args.stand.order + 1) (statement_extent body) (statement_headed body) c.requires.sizes in
    weaker_in s _ _ _ _ c.in_ok-turns.ensures.graph (omega (arith, found.1, c.size.ensures))

pub for_loop-returns-clause-order : goal.for_loop-returns-clause-order
for_loop-returns-clause-order t c =
    omega (arith, c.in_ok-order.ensures.order)

pub repeat-size-requires : goal.repeat-size-requires
repeat-size-requires t c =
    let s = c.args.self.now in
    (size_of s.numbering.now.sizes c.args.stand.order (repeat_extent c.args.body.now c.args.cond.now) (_, refl) c.requires.sizes).0

pub repeat-overflow_add-until : goal.repeat-overflow_add-until
repeat-overflow_add-until t c =
    let s = c.args.self.now in
    let zs = s.numbering.now.sizes in
    let body = c.args.body.now in
    let cond = c.args.cond.now in
    let found = size_of zs c.args.stand.order (repeat_extent body cond) ((both (statements_extent body) (extent_of (suc (length (expr_calls cond))))).sizes, refl) c.requires.sizes in
    omega (arith, found.1, c.size.ensures, c.requires.stands.room, exit_fits s)

pub repeat-overflow_sub-until : goal.repeat-overflow_sub-until
repeat-overflow_sub-until t c =
    let s = c.args.self.now in
    let zs = s.numbering.now.sizes in
    let body = c.args.body.now in
    let cond = c.args.cond.now in
    let found = size_of zs c.args.stand.order (repeat_extent body cond) ((both (statements_extent body) (extent_of (suc (length (expr_calls cond))))).sizes, refl) c.requires.sizes in
    omega (arith, found.1, c.size.ensures)

pub repeat-overflow_cast-until : goal.repeat-overflow_cast-until
repeat-overflow_cast-until t c =
    let s = c.args.self.now in
    let zs = s.numbering.now.sizes in
    let body = c.args.body.now in
    let cond = c.args.cond.now in
    let found = size_of zs c.args.stand.order (repeat_extent body cond) ((both (statements_extent body) (extent_of (suc (length (expr_calls cond))))).sizes, refl) c.requires.sizes in
    let sites = c.calls_in_expr.new.sites in
    let same : sites_of sites.items ≡ expr_calls cond = c.in_ok-calls_in_expr.ensures ∙ ap (λ xs. sites_of xs ++ expr_calls cond) c.new-sites.ensures.items in
    let many : length sites.items ≡ length (expr_calls cond) = sym (length-map sites.items site_of) ∙ ap length same in
    omega (arith, found.1, many, sites.ok.0, c.len.ensures, c.requires.stands.room, exit_fits s)

pub repeat-overflow_sub-until-2 : goal.repeat-overflow_sub-until-2
repeat-overflow_sub-until-2 t c =
    let s = c.args.self.now in
    let zs = s.numbering.now.sizes in
    let body = c.args.body.now in
    let cond = c.args.cond.now in
    let found = size_of zs c.args.stand.order (repeat_extent body cond) ((both (statements_extent body) (extent_of (suc (length (expr_calls cond))))).sizes, refl) c.requires.sizes in
    let sites = c.calls_in_expr.new.sites in
    let same : sites_of sites.items ≡ expr_calls cond = c.in_ok-calls_in_expr.ensures ∙ ap (λ xs. sites_of xs ++ expr_calls cond) c.new-sites.ensures.items in
    let many : length sites.items ≡ length (expr_calls cond) = sym (length-map sites.items site_of) ∙ ap length same in
    omega (arith, found.1, c.size.ensures, many, sites.ok.0, c.len.ensures)

pub repeat-overflow_add-inside : goal.repeat-overflow_add-inside
repeat-overflow_add-inside t c =
    let s = c.args.self.now in
    let zs = s.numbering.now.sizes in
    let body = c.args.body.now in
    let cond = c.args.cond.now in
    let found = size_of zs c.args.stand.order (repeat_extent body cond) ((both (statements_extent body) (extent_of (suc (length (expr_calls cond))))).sizes, refl) c.requires.sizes in
    omega (arith, found.0, s.numbering.now.sizes_few)

pub repeat-overflow_add-inside-2 : goal.repeat-overflow_add-inside-2
repeat-overflow_add-inside-2 t c =
    let s = c.args.self.now in
    omega (arith, c.requires.stands.room, exit_fits s)

pub repeat-sequence-requires : goal.repeat-sequence-requires
repeat-sequence-requires t c =
    let s = c.args.self.now in
    let zs = s.numbering.now.sizes in
    let body = c.args.body.now in
    let cond = c.args.cond.now in
    let found = size_of zs c.args.stand.order (repeat_extent body cond) ((both (statements_extent body) (extent_of (suc (length (expr_calls cond))))).sizes, refl) c.requires.sizes in
    let sites = c.calls_in_expr.new.sites in
    let same : sites_of sites.items ≡ expr_calls cond = c.in_ok-calls_in_expr.ensures ∙ ap (λ xs. sites_of xs ++ expr_calls cond) c.new-sites.ensures.items in
    let many : length sites.items ≡ length (expr_calls cond) = sym (length-map sites.items site_of) ∙ ap length same in (
      search (rules, the_lemmas),
      (
        c.requires.numbers,
        (
          c.requires.types,
          (
            c.requires.scopes,
            (
              record { low = omega (arith, c.requires.stands.low); room = omega (arith, c.requires.stands.room); next_low = omega (arith, found.1, c.size.ensures, many, sites.ok.0, c.len.ensures, c.requires.stands.low); next_high = omega (arith, found.1, c.size.ensures, c.requires.stands.room) },
              (
                (sizes_both zs (c.args.stand.order + 1) (statements_extent body).sizes _ (sizes_rest zs c.args.stand.order _ _ c.requires.sizes)).0,
                c.requires.graph,
              ),
            ),
          ),
        ),
      ),
    )

pub repeat-calls-requires-clause-fits : goal.repeat-calls-requires-clause-fits
repeat-calls-requires-clause-fits t c =
    let s = c.args.self.now in
    let cond = c.args.cond.now in
    let sites = c.calls_in_expr.new.sites in
    let same : sites_of sites.items ≡ expr_calls cond = c.in_ok-calls_in_expr.ensures ∙ ap (λ xs. sites_of xs ++ expr_calls cond) c.new-sites.ensures.items in
    subst (SitesFit s.program.now s.routine) (sym (ap sites_of c.as_slice.ensures.value ∙ same)) c.requires.fits

pub repeat-calls-requires-clause-low : goal.repeat-calls-requires-clause-low
repeat-calls-requires-clause-low t c =
    let s = c.args.self.now in
    let zs = s.numbering.now.sizes in
    let body = c.args.body.now in
    let cond = c.args.cond.now in
    let found = size_of zs c.args.stand.order (repeat_extent body cond) ((both (statements_extent body) (extent_of (suc (length (expr_calls cond))))).sizes, refl) c.requires.sizes in
    let sites = c.calls_in_expr.new.sites in
    let same : sites_of sites.items ≡ expr_calls cond = c.in_ok-calls_in_expr.ensures ∙ ap (λ xs. sites_of xs ++ expr_calls cond) c.new-sites.ensures.items in
    let many : length sites.items ≡ length (expr_calls cond) = sym (length-map sites.items site_of) ∙ ap length same in
    omega (arith, found.1, c.size.ensures, many, sites.ok.0, c.len.ensures, c.requires.stands.low)

pub repeat-calls-requires-clause-room : goal.repeat-calls-requires-clause-room
repeat-calls-requires-clause-room t c =
    let s = c.args.self.now in
    let zs = s.numbering.now.sizes in
    let body = c.args.body.now in
    let cond = c.args.cond.now in
    let found = size_of zs c.args.stand.order (repeat_extent body cond) ((both (statements_extent body) (extent_of (suc (length (expr_calls cond))))).sizes, refl) c.requires.sizes in
    let sites = c.calls_in_expr.new.sites in
    let same : sites_of sites.items ≡ expr_calls cond = c.in_ok-calls_in_expr.ensures ∙ ap (λ xs. sites_of xs ++ expr_calls cond) c.new-sites.ensures.items in
    let many : length sites.items ≡ length (expr_calls cond) = sym (length-map sites.items site_of) ∙ ap length same in
    omega (arith, found.1, c.size.ensures, many, sites.ok.0, c.len.ensures, ap length c.as_slice.ensures.value, c.requires.stands.room)

pub repeat-calls-requires-clause-graph : goal.repeat-calls-requires-clause-graph
repeat-calls-requires-clause-graph t c =
    let s = c.args.self.now in
    let zs = s.numbering.now.sizes in
    let body = c.args.body.now in
    let cond = c.args.cond.now in
    let found = size_of zs c.args.stand.order (repeat_extent body cond) ((both (statements_extent body) (extent_of (suc (length (expr_calls cond))))).sizes, refl) c.requires.sizes in
    let sites = c.calls_in_expr.new.sites in
    let same : sites_of sites.items ≡ expr_calls cond = c.in_ok-calls_in_expr.ensures ∙ ap (λ xs. sites_of xs ++ expr_calls cond) c.new-sites.ensures.items in
    let many : length sites.items ≡ length (expr_calls cond) = sym (length-map sites.items site_of) ∙ ap length same in
    weaker_in s _ _ _ _ c.in_ok-order.ensures.graph (omega (arith, found.1, c.size.ensures, many, sites.ok.0, c.len.ensures))

pub repeat-condition-requires-clause-low : goal.repeat-condition-requires-clause-low
repeat-condition-requires-clause-low t c =
    let s = c.args.self.now in
    let zs = s.numbering.now.sizes in
    let body = c.args.body.now in
    let cond = c.args.cond.now in
    let found = size_of zs c.args.stand.order (repeat_extent body cond) ((both (statements_extent body) (extent_of (suc (length (expr_calls cond))))).sizes, refl) c.requires.sizes in
    let sites = c.calls_in_expr.new.sites in
    let same : sites_of sites.items ≡ expr_calls cond = c.in_ok-calls_in_expr.ensures ∙ ap (λ xs. sites_of xs ++ expr_calls cond) c.new-sites.ensures.items in
    let many : length sites.items ≡ length (expr_calls cond) = sym (length-map sites.items site_of) ∙ ap length same in
    omega (arith, found.1, c.size.ensures, many, sites.ok.0, c.len.ensures, ap length c.as_slice.ensures.value, c.in_ok-last.ensures.point, c.requires.stands.low, c.requires.stands.room, c.requires.stands.next_low, c.requires.stands.next_high)

pub repeat-condition-requires-clause-high : goal.repeat-condition-requires-clause-high
repeat-condition-requires-clause-high t c =
    let s = c.args.self.now in
    let zs = s.numbering.now.sizes in
    let body = c.args.body.now in
    let cond = c.args.cond.now in
    let found = size_of zs c.args.stand.order (repeat_extent body cond) ((both (statements_extent body) (extent_of (suc (length (expr_calls cond))))).sizes, refl) c.requires.sizes in
    let sites = c.calls_in_expr.new.sites in
    let same : sites_of sites.items ≡ expr_calls cond = c.in_ok-calls_in_expr.ensures ∙ ap (λ xs. sites_of xs ++ expr_calls cond) c.new-sites.ensures.items in
    let many : length sites.items ≡ length (expr_calls cond) = sym (length-map sites.items site_of) ∙ ap length same in
    omega (arith, found.1, c.size.ensures, many, sites.ok.0, c.len.ensures, ap length c.as_slice.ensures.value, c.in_ok-last.ensures.point, c.requires.stands.low, c.requires.stands.room, c.requires.stands.next_low, c.requires.stands.next_high)

pub repeat-condition-requires-clause-held_low : goal.repeat-condition-requires-clause-held_low
repeat-condition-requires-clause-held_low t c =
    let s = c.args.self.now in
    let zs = s.numbering.now.sizes in
    let body = c.args.body.now in
    let cond = c.args.cond.now in
    let found = size_of zs c.args.stand.order (repeat_extent body cond) ((both (statements_extent body) (extent_of (suc (length (expr_calls cond))))).sizes, refl) c.requires.sizes in
    let sites = c.calls_in_expr.new.sites in
    let same : sites_of sites.items ≡ expr_calls cond = c.in_ok-calls_in_expr.ensures ∙ ap (λ xs. sites_of xs ++ expr_calls cond) c.new-sites.ensures.items in
    let many : length sites.items ≡ length (expr_calls cond) = sym (length-map sites.items site_of) ∙ ap length same in
    omega (arith, found.1, c.size.ensures, many, sites.ok.0, c.len.ensures, ap length c.as_slice.ensures.value, c.in_ok-last.ensures.point, c.requires.stands.low, c.requires.stands.room, c.requires.stands.next_low, c.requires.stands.next_high)

pub repeat-condition-requires-clause-held_high : goal.repeat-condition-requires-clause-held_high
repeat-condition-requires-clause-held_high t c =
    let s = c.args.self.now in
    let zs = s.numbering.now.sizes in
    let body = c.args.body.now in
    let cond = c.args.cond.now in
    let found = size_of zs c.args.stand.order (repeat_extent body cond) ((both (statements_extent body) (extent_of (suc (length (expr_calls cond))))).sizes, refl) c.requires.sizes in
    let sites = c.calls_in_expr.new.sites in
    let same : sites_of sites.items ≡ expr_calls cond = c.in_ok-calls_in_expr.ensures ∙ ap (λ xs. sites_of xs ++ expr_calls cond) c.new-sites.ensures.items in
    let many : length sites.items ≡ length (expr_calls cond) = sym (length-map sites.items site_of) ∙ ap length same in
    omega (arith, found.1, c.size.ensures, many, sites.ok.0, c.len.ensures, ap length c.as_slice.ensures.value, c.in_ok-last.ensures.point, c.requires.stands.low, c.requires.stands.room, c.requires.stands.next_low, c.requires.stands.next_high)

pub repeat-condition-requires-clause-failed_low : goal.repeat-condition-requires-clause-failed_low
repeat-condition-requires-clause-failed_low t c =
    let s = c.args.self.now in
    let zs = s.numbering.now.sizes in
    let body = c.args.body.now in
    let cond = c.args.cond.now in
    let found = size_of zs c.args.stand.order (repeat_extent body cond) ((both (statements_extent body) (extent_of (suc (length (expr_calls cond))))).sizes, refl) c.requires.sizes in
    let sites = c.calls_in_expr.new.sites in
    let same : sites_of sites.items ≡ expr_calls cond = c.in_ok-calls_in_expr.ensures ∙ ap (λ xs. sites_of xs ++ expr_calls cond) c.new-sites.ensures.items in
    let many : length sites.items ≡ length (expr_calls cond) = sym (length-map sites.items site_of) ∙ ap length same in
    omega (arith, found.1, c.size.ensures, many, sites.ok.0, c.len.ensures, ap length c.as_slice.ensures.value, c.in_ok-last.ensures.point, c.requires.stands.low, c.requires.stands.room, c.requires.stands.next_low, c.requires.stands.next_high)

pub repeat-condition-requires-clause-failed_high : goal.repeat-condition-requires-clause-failed_high
repeat-condition-requires-clause-failed_high t c =
    let s = c.args.self.now in
    let zs = s.numbering.now.sizes in
    let body = c.args.body.now in
    let cond = c.args.cond.now in
    let found = size_of zs c.args.stand.order (repeat_extent body cond) ((both (statements_extent body) (extent_of (suc (length (expr_calls cond))))).sizes, refl) c.requires.sizes in
    let sites = c.calls_in_expr.new.sites in
    let same : sites_of sites.items ≡ expr_calls cond = c.in_ok-calls_in_expr.ensures ∙ ap (λ xs. sites_of xs ++ expr_calls cond) c.new-sites.ensures.items in
    let many : length sites.items ≡ length (expr_calls cond) = sym (length-map sites.items site_of) ∙ ap length same in
    omega (arith, found.1, c.size.ensures, many, sites.ok.0, c.len.ensures, ap length c.as_slice.ensures.value, c.in_ok-last.ensures.point, c.requires.stands.low, c.requires.stands.room, c.requires.stands.next_low, c.requires.stands.next_high)

pub repeat-condition-requires-clause-held_fits : goal.repeat-condition-requires-clause-held_fits
repeat-condition-requires-clause-held_fits t c =
    c.requires.held_fits

pub repeat-condition-requires-clause-failed_fits : goal.repeat-condition-requires-clause-failed_fits
repeat-condition-requires-clause-failed_fits t c =
    c.requires.failed_fits

pub repeat-condition-requires-clause-graph : goal.repeat-condition-requires-clause-graph
repeat-condition-requires-clause-graph t c =
    c.in_ok-last.ensures.graph

pub repeat-returns-clause-order : goal.repeat-returns-clause-order
repeat-returns-clause-order t c =
    let body = c.args.body.now in
    omega (arith, c.in_ok-order.ensures.order, length-append (statements_extent body).sizes [])

pub repeat-returns-clause-graph : goal.repeat-returns-clause-graph
repeat-returns-clause-graph t c =
    let s = c.args.self.now in
    let zs = s.numbering.now.sizes in
    let body = c.args.body.now in
    let cond = c.args.cond.now in
    let found = size_of zs c.args.stand.order (repeat_extent body cond) ((both (statements_extent body) (extent_of (suc (length (expr_calls cond))))).sizes, refl) c.requires.sizes in
    let sites = c.calls_in_expr.new.sites in
    let same : sites_of sites.items ≡ expr_calls cond = c.in_ok-calls_in_expr.ensures ∙ ap (λ xs. sites_of xs ++ expr_calls cond) c.new-sites.ensures.items in
    let many : length sites.items ≡ length (expr_calls cond) = sym (length-map sites.items site_of) ∙ ap length same in
    weaker_in s _ _ _ _ c.in_ok-condition.ensures.graph (omega (arith, found.1, c.size.ensures, many, sites.ok.0, c.len.ensures, ap length c.as_slice.ensures.value, c.in_ok-last.ensures.point))

pub inner-statement-requires-in-While : goal.inner-statement-requires-in-While
inner-statement-requires-in-While t c =
    let s = c.args.self.now in
    let p = s.program.now in
    let x = c.args.s.now in
    let zs = s.numbering.now.sizes in
    let d = Body-F.While c.in-While.cond c.in-While.body in
    let is = c.in-While.is ∙ sym (view.rolls-While c.in-While.cond c.in-While.body) in
    let points = points_at x d is in
    let calls = ap length (calls_at x d is) in
    let action = action_at x d is in
    let inner = inner_sizes x d is zs c.args.stand.order c.requires.sizes in
    let q = numbers_in p in
    let u = scope_in p s.routine in
    let cond = c.in-While.cond in (
      search (rules, the_lemmas),
      (
        rw c.get-in-While.ensures (and_parts (each_expr q cond) _ (rule_at x d is q c.requires.numbers)).1,
        (
          rw c.get-in-While.ensures (and_parts (is_of_host true (hosted (tables p) cond)) _ (types_at x d is (tables p) c.requires.types)).1,
          (
            rw c.get-in-While.ensures (and_parts (each_expr u cond) _ (rule_at x d is u c.requires.scopes)).1,
            (
              rw c.get-in-While.ensures (record { low = omega (arith, c.requires.here, c.requires.stands.low); room = omega (arith, points, calls, c.requires.here, c.requires.stands.room); next_low = c.requires.stands.low; next_high = omega (arith, points, c.requires.stands.room) }),
              (
                rw c.get-in-While.ensures inner,
                weaker_in s _ _ _ _ c.requires.graph (omega (arith, action)),
              ),
            ),
          ),
        ),
      ),
    )

pub inner-returns-in-While-clause-order : goal.inner-returns-in-While-clause-order
inner-returns-in-While-clause-order t c =
    let x = c.args.s.now in
    let d = Body-F.While c.in-While.cond c.in-While.body in
    let is = c.in-While.is ∙ sym (view.rolls-While c.in-While.cond c.in-While.body) in
    let sizes = ap length (sizes_at x d is) in
    then_if c.statement-in-While.result (rw c.get-in-While.ensures at c.statement-in-While.ensures.order) (λ k h. omega (arith, h, sizes))

pub inner-returns-in-While-clause-graph : goal.inner-returns-in-While-clause-graph
inner-returns-in-While-clause-graph t c =
    let s = c.args.self.now in
    let x = c.args.s.now in
    let d = Body-F.While c.in-While.cond c.in-While.body in
    let is = c.in-While.is ∙ sym (view.rolls-While c.in-While.cond c.in-While.body) in
    let points = points_at x d is in
    let calls = ap length (calls_at x d is) in
    then_ok c.statement-in-While.result (rw c.get-in-While.ensures at c.statement-in-While.ensures.graph) (λ h. weaker_in s _ _ _ _ h (omega (arith, points, calls, c.requires.here)))

pub inner-size-requires : goal.inner-size-requires
inner-size-requires t c =
    let s = c.args.self.now in
    let x = c.args.s.now in
    let zs = s.numbering.now.sizes in
    let f = c.in-If in
    let d = Body-F.If f.cond f.yes f.no in
    let is = f.is ∙ sym (view.rolls-If f.cond f.yes f.no) in
    let inner = inner_sizes x d is zs c.args.stand.order c.requires.sizes in
    let e = if_extent_is f.cond f.yes f.no in
    let more = second_or (extent_of 0) (option_map statement_extent f.no) in
    let split = sizes_both zs (c.args.stand.order + 1) (statement_extent f.yes).sizes more.sizes (subst (λ (y : Extent). Begins y.sizes (drop (c.args.stand.order + 1) zs)) e inner) in
    let found = size_of zs (c.args.stand.order + 1) (statement_extent f.yes) (statement_headed f.yes) split.0 in
    found.0

pub inner-overflow_add-second : goal.inner-overflow_add-second
inner-overflow_add-second t c =
    let s = c.args.self.now in
    let x = c.args.s.now in
    let zs = s.numbering.now.sizes in
    let f = c.in-If in
    let d = Body-F.If f.cond f.yes f.no in
    let is = f.is ∙ sym (view.rolls-If f.cond f.yes f.no) in
    let points = points_at x d is in
    let calls = ap length (calls_at x d is) in
    let inner = inner_sizes x d is zs c.args.stand.order c.requires.sizes in
    let e = if_extent_is f.cond f.yes f.no in
    let more = second_or (extent_of 0) (option_map statement_extent f.no) in
    let e_points = ap (λ (y : Extent). y.points) e in
    let split = sizes_both zs (c.args.stand.order + 1) (statement_extent f.yes).sizes more.sizes (subst (λ (y : Extent). Begins y.sizes (drop (c.args.stand.order + 1) zs)) e inner) in
    let found = size_of zs (c.args.stand.order + 1) (statement_extent f.yes) (statement_headed f.yes) split.0 in
    omega (arith, found.1, c.size.ensures, points, e_points, calls, c.requires.here, c.requires.stands.room, exit_fits s)

pub inner-statement-requires : goal.inner-statement-requires
inner-statement-requires t c =
    let s = c.args.self.now in
    let p = s.program.now in
    let x = c.args.s.now in
    let zs = s.numbering.now.sizes in
    let f = c.in-If in
    let d = Body-F.If f.cond f.yes f.no in
    let is = f.is ∙ sym (view.rolls-If f.cond f.yes f.no) in
    let points = points_at x d is in
    let calls = ap length (calls_at x d is) in
    let action = action_at x d is in
    let inner = inner_sizes x d is zs c.args.stand.order c.requires.sizes in
    let e = if_extent_is f.cond f.yes f.no in
    let more = second_or (extent_of 0) (option_map statement_extent f.no) in
    let e_points = ap (λ (y : Extent). y.points) e in
    let split = sizes_both zs (c.args.stand.order + 1) (statement_extent f.yes).sizes more.sizes (subst (λ (y : Extent). Begins y.sizes (drop (c.args.stand.order + 1) zs)) e inner) in
    let n = rule_at x d is (numbers_in p) c.requires.numbers in
    let ty = types_at x d is (tables p) c.requires.types in
    let sc = rule_at x d is (scope_in p s.routine) c.requires.scopes in (
      search (rules, the_lemmas),
      (
        rw c.get.ensures (if_first (numbers_in p) f.cond f.yes f.no n),
        (
          rw c.get.ensures (if_first_types (tables p) f.cond f.yes f.no ty),
          (
            rw c.get.ensures (if_first (scope_in p s.routine) f.cond f.yes f.no sc),
            (
              rw c.get.ensures (record { low = omega (arith, c.requires.here, c.requires.stands.low); room = omega (arith, points, e_points, calls, c.requires.here, c.requires.stands.room); next_low = c.requires.stands.next_low; next_high = c.requires.stands.next_high }),
              (
                rw c.get.ensures split.0,
                weaker_in s _ _ _ _ c.requires.graph (omega (arith, action)),
              ),
            ),
          ),
        ),
      ),
    )

pub inner-other-requires : goal.inner-other-requires
inner-other-requires t c =
    let s = c.args.self.now in
    let p = s.program.now in
    let x = c.args.s.now in
    let zs = s.numbering.now.sizes in
    let f = c.in-If in
    let d = Body-F.If f.cond f.yes f.no in
    let is = f.is ∙ sym (view.rolls-If f.cond f.yes f.no) in
    let points = points_at x d is in
    let calls = ap length (calls_at x d is) in
    let inner = inner_sizes x d is zs c.args.stand.order c.requires.sizes in
    let e = if_extent_is f.cond f.yes f.no in
    let more = second_or (extent_of 0) (option_map statement_extent f.no) in
    let e_points = ap (λ (y : Extent). y.points) e in
    let split = sizes_both zs (c.args.stand.order + 1) (statement_extent f.yes).sizes more.sizes (subst (λ (y : Extent). Begins y.sizes (drop (c.args.stand.order + 1) zs)) e inner) in
    let found = size_of zs (c.args.stand.order + 1) (statement_extent f.yes) (statement_headed f.yes) split.0 in
    let n = rule_at x d is (numbers_in p) c.requires.numbers in
    let ty = types_at x d is (tables p) c.requires.types in
    let sc = rule_at x d is (scope_in p s.routine) c.requires.scopes in
    let order_is = rw c.get.ensures at c.in_ok-order-in-If.ensures.order in (
      search (rules, the_lemmas),
      (
        if_second (numbers_in p) f.cond f.yes f.no n,
        (
          if_second_types (tables p) f.cond f.yes f.no ty,
          (
            if_second (scope_in p s.routine) f.cond f.yes f.no sc,
            (
              record { low = omega (arith, c.requires.here, c.requires.stands.low); room = omega (arith, found.1, c.size.ensures, points, e_points, calls, c.requires.here, c.requires.stands.room); next_low = c.requires.stands.next_low; next_high = c.requires.stands.next_high },
              (
                subst (λ k. Begins more.sizes (drop k zs)) (sym order_is) split.1,
                weaker_in s _ _ _ _ (rw c.get.ensures at c.in_ok-order-in-If.ensures.graph) (omega (arith, found.1, c.size.ensures)),
              ),
            ),
          ),
        ),
      ),
    )

pub inner-returns-in_ok-order-in-If-clause-graph : goal.inner-returns-in_ok-order-in-If-clause-graph
inner-returns-in_ok-order-in-If-clause-graph t c =
    let s = c.args.self.now in
    let x = c.args.s.now in
    let zs = s.numbering.now.sizes in
    let f = c.in-If in
    let d = Body-F.If f.cond f.yes f.no in
    let is = f.is ∙ sym (view.rolls-If f.cond f.yes f.no) in
    let points = points_at x d is in
    let calls = ap length (calls_at x d is) in
    let inner = inner_sizes x d is zs c.args.stand.order c.requires.sizes in
    let e = if_extent_is f.cond f.yes f.no in
    let more = second_or (extent_of 0) (option_map statement_extent f.no) in
    let e_points = ap (λ (y : Extent). y.points) e in
    let split = sizes_both zs (c.args.stand.order + 1) (statement_extent f.yes).sizes more.sizes (subst (λ (y : Extent). Begins y.sizes (drop (c.args.stand.order + 1) zs)) e inner) in
    let found = size_of zs (c.args.stand.order + 1) (statement_extent f.yes) (statement_headed f.yes) split.0 in
    then_ok c.other.result c.other.ensures.graph (λ h. weaker_in s _ _ _ _ h (omega (arith, found.1, c.size.ensures, points, e_points, calls, c.requires.here)))

pub other-statement-requires : goal.other-statement-requires
other-statement-requires t c =
    let s = c.args.self.now in
    let zs = s.numbering.now.sizes in
    let e : second_or (extent_of 0) (option_map statement_extent c.args.no.now) ≡ statement_extent c.in-Some.no = ap (λ o. second_or (extent_of 0) (option_map statement_extent o)) c.in-Some.is in
    let n = ap (λ o. true_if_some (option_map (each_statement (numbers_in s.program.now)) o)) (sym c.in-Some.is) ∙ c.requires.numbers in
    let ty = ap (λ o. true_if_some (option_map (statement_types_fit (tables s.program.now)) o)) (sym c.in-Some.is) ∙ c.requires.types in
    let sc = ap (λ o. true_if_some (option_map (each_statement (scope_in s.program.now s.routine)) o)) (sym c.in-Some.is) ∙ c.requires.scopes in (
      search (rules, the_lemmas),
      (
        rw c.get.ensures n,
        (
          rw c.get.ensures ty,
          (
            rw c.get.ensures sc,
            (
              rw c.get.ensures (record { low = c.requires.stands.low; room = omega (arith, ap (λ (y : Extent). y.points) e, c.requires.stands.room); next_low = c.requires.stands.next_low; next_high = c.requires.stands.next_high }),
              (
                rw c.get.ensures (subst (λ (y : Extent). Begins y.sizes (drop c.args.stand.order zs)) e c.requires.sizes),
                c.requires.graph,
              ),
            ),
          ),
        ),
      ),
    )

pub sequence-returns-clause-exact : goal.sequence-returns-clause-exact
sequence-returns-clause-exact t c =
    leads_last c.loop-k.invariant.exact (order_done (plan_in c.args.self.now) c.args.body.now c.loop-k.k c.loop-k.here c.args.stand.next c.loop-k-test.false)

pub arms-returns-clause-exact : goal.arms-returns-clause-exact
arms-returns-clause-exact t c =
    leads_last c.loop-arm.invariant.exact (arms_done (plan_in c.args.self.now) c.args.of.now c.args.from c.args.arms.now c.loop-arm.arm-index c.loop-arm.here c.args.inside.next c.loop-arm-test.false)

pub statement-returns-clause-exact : goal.statement-returns-clause-exact
statement-returns-clause-exact t c =
    let plan = plan_in c.args.self.now in
    let stand = c.args.stand in
    let laid = laid_body plan (out-Body c.args.s.now.body) in
    then_ok c.inner.result c.inner.ensures.exact
    (λ f. followed_along (statement_drawn plan c.args.s.now stand.here c.in_ok-here.here stand.next c.in_ok-here.ensures.here)
    (followed_again (judged stand.here (assert_checks plan.asserts c.args.s.now.asserts)) (pieces.calls plan (own_calls c.args.s.now.body) stand.here) (pieces.both (own_piece plan laid c.in_ok-here.here stand.next) (inner_piece plan laid c.in_ok-here.here stand.here stand.next)) (followed_by_both c.in_ok-here.ensures.exact (followed_by_both c.in_ok-act.ensures.exact f))))

pub inner-returns-in-Empty-clause-exact : goal.inner-returns-in-Empty-clause-exact
inner-returns-in-Empty-clause-exact t c =
    followed_along (inner_at (plan_in c.args.self.now) c.args.s.now (Body-F.Empty) (c.in-Empty.is ∙ sym (view.rolls-Empty)) c.args.here c.args.stand.here c.args.stand.next) (followed_by_nothing refl refl)

pub inner-returns-in-Assign-clause-exact : goal.inner-returns-in-Assign-clause-exact
inner-returns-in-Assign-clause-exact t c =
    followed_along (inner_at (plan_in c.args.self.now) c.args.s.now (Body-F.Assign c.in-Assign.to c.in-Assign.value) (c.in-Assign.is ∙ sym (view.rolls-Assign c.in-Assign.to c.in-Assign.value)) c.args.here c.args.stand.here c.args.stand.next) (followed_by_nothing refl refl)

pub inner-returns-in-Copy-clause-exact : goal.inner-returns-in-Copy-clause-exact
inner-returns-in-Copy-clause-exact t c =
    followed_along (inner_at (plan_in c.args.self.now) c.args.s.now (Body-F.Copy c.in-Copy.to c.in-Copy.from) (c.in-Copy.is ∙ sym (view.rolls-Copy c.in-Copy.to c.in-Copy.from)) c.args.here c.args.stand.here c.args.stand.next) (followed_by_nothing refl refl)

pub inner-returns-in-Call-clause-exact : goal.inner-returns-in-Call-clause-exact
inner-returns-in-Call-clause-exact t c =
    followed_along (inner_at (plan_in c.args.self.now) c.args.s.now (Body-F.Call c.in-Call.routine c.in-Call.actuals c.in-Call.at) (c.in-Call.is ∙ sym (view.rolls-Call c.in-Call.routine c.in-Call.actuals c.in-Call.at)) c.args.here c.args.stand.here c.args.stand.next) (followed_by_nothing refl refl)

pub inner-returns-in-Goto-clause-exact : goal.inner-returns-in-Goto-clause-exact
inner-returns-in-Goto-clause-exact t c =
    followed_along (inner_at (plan_in c.args.self.now) c.args.s.now (Body-F.Goto c.in-Goto.routine c.in-Goto.label) (c.in-Goto.is ∙ sym (view.rolls-Goto c.in-Goto.routine c.in-Goto.label)) c.args.here c.args.stand.here c.args.stand.next) (followed_by_nothing refl refl)

pub inner-returns-in-Read-clause-exact : goal.inner-returns-in-Read-clause-exact
inner-returns-in-Read-clause-exact t c =
    followed_along (inner_at (plan_in c.args.self.now) c.args.s.now (Body-F.Read c.in-Read.to c.in-Read.line) (c.in-Read.is ∙ sym (view.rolls-Read c.in-Read.to c.in-Read.line)) c.args.here c.args.stand.here c.args.stand.next) (followed_by_nothing refl refl)

pub inner-returns-in-Write-clause-exact : goal.inner-returns-in-Write-clause-exact
inner-returns-in-Write-clause-exact t c =
    followed_along (inner_at (plan_in c.args.self.now) c.args.s.now (Body-F.Write c.in-Write.items c.in-Write.line) (c.in-Write.is ∙ sym (view.rolls-Write c.in-Write.items c.in-Write.line)) c.args.here c.args.stand.here c.args.stand.next) (followed_by_nothing refl refl)

pub inner-returns-in-Begin-clause-exact : goal.inner-returns-in-Begin-clause-exact
inner-returns-in-Begin-clause-exact t c =
    then_ok c.sequence.result (rw c.as_slice.ensures at c.sequence.ensures.exact)
    (λ f. followed_along (inner_at (plan_in c.args.self.now) c.args.s.now (Body-F.Begin c.in-Begin.body c.in-Begin.end) (c.in-Begin.is ∙ sym (view.rolls-Begin c.in-Begin.body c.in-Begin.end)) c.args.here c.args.stand.here c.args.stand.next) f)

pub inner-returns-in-Case-clause-exact : goal.inner-returns-in-Case-clause-exact
inner-returns-in-Case-clause-exact t c =
    then_ok c.arms.result (rw c.as_slice-in-Case.ensures at c.arms.ensures.exact)
    (λ f. followed_along (inner_at (plan_in c.args.self.now) c.args.s.now (Body-F.Case c.in-Case.of c.in-Case.arms) (c.in-Case.is ∙ sym (view.rolls-Case c.in-Case.of c.in-Case.arms)) c.args.here c.args.stand.here c.args.stand.next) f)

pub inner-returns-in-While-clause-exact : goal.inner-returns-in-While-clause-exact
inner-returns-in-While-clause-exact t c =
    then_ok c.statement-in-While.result (rw c.get-in-While.ensures at c.statement-in-While.ensures.exact)
    (λ f. followed_along (inner_at (plan_in c.args.self.now) c.args.s.now (Body-F.While c.in-While.cond c.in-While.body) (c.in-While.is ∙ sym (view.rolls-While c.in-While.cond c.in-While.body)) c.args.here c.args.stand.here c.args.stand.next) f)

pub inner-returns-in-Repeat-clause-exact : goal.inner-returns-in-Repeat-clause-exact
inner-returns-in-Repeat-clause-exact t c =
    then_ok c.repeat.result (rw c.as_slice-in-Repeat.ensures at c.repeat.ensures.exact)
    (λ f. followed_along (inner_at (plan_in c.args.self.now) c.args.s.now (Body-F.Repeat c.in-Repeat.body c.in-Repeat.at c.in-Repeat.cond) (c.in-Repeat.is ∙ sym (view.rolls-Repeat c.in-Repeat.body c.in-Repeat.at c.in-Repeat.cond)) c.args.here c.args.stand.here c.args.stand.next) f)

pub inner-returns-in-For-clause-exact : goal.inner-returns-in-For-clause-exact
inner-returns-in-For-clause-exact t c =
    then_ok c.for_loop.result (rw c.get-in-For.ensures at c.for_loop.ensures.exact)
    (λ f. followed_along (inner_at (plan_in c.args.self.now) c.args.s.now (Body-F.For c.in-For.control c.in-For.bound c.in-For.first c.in-For.down c.in-For.last c.in-For.body) (c.in-For.is ∙ sym (view.rolls-For c.in-For.control c.in-For.bound c.in-For.first c.in-For.down c.in-For.last c.in-For.body)) c.args.here c.args.stand.here c.args.stand.next) f)

pub inner-returns-in_ok-order-in-If-clause-exact : goal.inner-returns-in_ok-order-in-If-clause-exact
inner-returns-in_ok-order-in-If-clause-exact t c =
    let s = c.args.self.now in
    let plan = plan_in s in
    let x = c.args.s.now in
    let stand = c.args.stand in
    let zs = s.numbering.now.sizes in
    let f = c.in-If in
    let d = Body-F.If f.cond f.yes f.no in
    let is = f.is ∙ sym (view.rolls-If f.cond f.yes f.no) in
    let inner = inner_sizes x d is zs stand.order c.requires.sizes in
    let e = if_extent_is f.cond f.yes f.no in
    let more = second_or (extent_of 0) (option_map statement_extent f.no) in
    let split = sizes_both zs (stand.order + 1) (statement_extent f.yes).sizes more.sizes (subst (λ (y : Extent). Begins y.sizes (drop (stand.order + 1) zs)) e inner) in
    let found = size_of zs (stand.order + 1) (statement_extent f.yes) (statement_headed f.yes) split.0 in
    let behind : c.args.here + 1 + c.size.result ≡ c.args.here + 1 + (statement_extent f.yes).points = omega (arith, found.1, c.size.ensures) in
    then_ok c.other.result c.other.ensures.exact
    (λ g. followed_along (if_inside plan f.cond f.yes f.no c.args.here stand.here _ stand.next behind ∙ inner_at plan x d is c.args.here stand.here stand.next)
    (followed_by_both (rw c.get.ensures at c.in_ok-order-in-If.ensures.exact) g))

pub other-returns-in-None-clause-exact : goal.other-returns-in-None-clause-exact
other-returns-in-None-clause-exact t c =
    let plan = plan_in c.args.self.now in
    followed_along (ap (λ o. second_piece plan (option_map (laid_statement plan) o) c.args.stand.here c.args.stand.next) (sym c.in-None.is)) (followed_by_nothing refl refl)

pub other-returns-in-Some-clause-exact : goal.other-returns-in-Some-clause-exact
other-returns-in-Some-clause-exact t c =
    let plan = plan_in c.args.self.now in
    then_ok c.statement.result (rw c.get.ensures at c.statement.ensures.exact)
    (λ f. followed_along (ap (λ o. second_piece plan (option_map (laid_statement plan) o) c.args.stand.here c.args.stand.next) (sym c.in-Some.is)) f)

pub repeat-returns-clause-exact : goal.repeat-returns-clause-exact
repeat-returns-clause-exact t c =
    let s = c.args.self.now in
    let plan = plan_in s in
    let zs = s.numbering.now.sizes in
    let body = c.args.body.now in
    let cond = c.args.cond.now in
    let here = c.args.stand.here in
    let next = c.args.stand.next in
    let laid = map (laid_statement plan) body in
    let found = size_of zs c.args.stand.order (repeat_extent body cond) ((both (statements_extent body) (extent_of (suc (length (expr_calls cond))))).sizes, refl) c.requires.sizes in
    let sites = c.calls_in_expr.new.sites in
    let same : sites_of sites.items ≡ expr_calls cond = c.in_ok-calls_in_expr.ensures ∙ ap (λ xs. sites_of xs ++ expr_calls cond) c.new-sites.ensures.items in
    let many : length sites.items ≡ length (expr_calls cond) = sym (length-map sites.items site_of) ∙ ap length same in
    let given = ap sites_of c.as_slice.ensures.value ∙ same in
    let until : here + c.size.result - 1 - c.len.result ≡ here + 1 + points_of laid = omega (arith, found.1, c.size.ensures, many, sites.ok.0, c.len.ensures, points_of_laid plan body) in
    let last : c.in_ok-last.last ≡ here + 1 + points_of laid + length (expr_calls cond) = omega (arith, c.in_ok-last.ensures.point, until, many, ap length c.as_slice.ensures.value) in
    followed_along (until_is plan laid cond here next _ until _ given _ last) (followed_by_both c.in_ok-order.ensures.exact (followed_by_both c.in_ok-last.ensures.exact c.in_ok-condition.ensures.exact))

pub for_loop-returns-clause-exact : goal.for_loop-returns-clause-exact
for_loop-returns-clause-exact t c =
    let s = c.args.self.now in
    let plan = plan_in s in
    let body = c.args.body.now in
    let t = c.args.turn in
    let found = size_of s.numbering.now.sizes (c.args.stand.order + 1) (statement_extent body) (statement_headed body) c.requires.sizes in
    followed_along (loop_is plan t.control t.bound t.down body c.args.here c.args.stand.next _ (omega (arith, found.1, c.size.ensures))) (followed_by_both c.in_ok-order.ensures.exact c.in_ok-turns.ensures.exact)
