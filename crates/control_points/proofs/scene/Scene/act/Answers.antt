use Rattle.std.proofs.Common.{true, false, ◌+◌, length, sym, ap, ◌∙◌, arith, refl}
use Rattle.std.proofs.lemmas.Bool.{and_parts, and_from}
use Rattle.pas_program.specs.Checked.{numbers_in, scope_in, tables}
use Rattle.pas_program.specs.Each.{each_expr}
use Rattle.pas_program.specs.Typed.{hosted, is_of_host}
use Rattle.pas_program.specs.declared.statement.Body.TheOpen.{Body-F}
use Rattle.pas_program.specs.declared.statement.Body.TheVariants as view
use Rattle.control_points.specs.Extents.{statement_extent}
use Rattle.control_points.proofs.Left.{then_ok}
use Rattle.control_points.proofs.Opened.{calls_at, for_fits, inner_sizes, points_at, rule_at, test_fits, types_at}
use Rattle.control_points.proofs.OwnCalls.{reads_fit, writes_fit}
use Rattle.control_points.proofs.Scened.{exit_fits, weaker_in}
use Rattle.control_points.proofs.Sized.{size_of, statement_headed}
use Rattle.control_points.proofs.Sizes.{sizes_both}
use Rattle.control_points.proofs.scene.Scene.act.Goals as goal
use Rattle.control_points.specs.Drawing.{plan_in}
use Rattle.control_points.proofs.Followed.{followed_along, followed_by_both}
use Rattle.control_points.proofs.Laying.{if_none, if_own, if_some, own_at, case_own}
use Rattle.control_points.proofs.scene.Scene.act.Goals.{in-None, in-Some}

pub size-requires : goal.size-requires
size-requires c =
    let s = c.args.self.now in
    let d = Body-F.If c.in-If.cond c.in-If.yes c.in-If.no in
    let is = c.in-If.is ∙ sym (view.rolls-If c.in-If.cond c.in-If.yes c.in-If.no) in
    let zs = s.numbering.now.sizes in
    let inner = inner_sizes c.args.s.now d is zs c.args.stand.order c.requires.sizes in
    let found = size_of zs (c.args.stand.order + 1) (statement_extent c.in-If.yes) (statement_headed c.in-If.yes) (sizes_both zs (c.args.stand.order + 1) (statement_extent c.in-If.yes).sizes _ inner).0 in
    found.0

pub overflow_add-stand : goal.overflow_add-stand
overflow_add-stand c =
    let s = c.args.self.now in
    let d = Body-F.If c.in-If.cond c.in-If.yes c.in-If.no in
    let is = c.in-If.is ∙ sym (view.rolls-If c.in-If.cond c.in-If.yes c.in-If.no) in
    let zs = s.numbering.now.sizes in
    let inner = inner_sizes c.args.s.now d is zs c.args.stand.order c.requires.sizes in
    let found = size_of zs (c.args.stand.order + 1) (statement_extent c.in-If.yes) (statement_headed c.in-If.yes) (sizes_both zs (c.args.stand.order + 1) (statement_extent c.in-If.yes).sizes _ inner).0 in
    omega (arith, found.0, s.numbering.now.sizes_few)

pub overflow_add-failed-in-Some : goal.overflow_add-failed-in-Some
overflow_add-failed-in-Some c =
    let s = c.args.self.now in
    let d = Body-F.If c.in-If.cond c.in-If.yes c.in-If.no in
    let is = c.in-If.is ∙ sym (view.rolls-If c.in-If.cond c.in-If.yes c.in-If.no) in
    let zs = s.numbering.now.sizes in
    let inner = inner_sizes c.args.s.now d is zs c.args.stand.order c.requires.sizes in
    let found = size_of zs (c.args.stand.order + 1) (statement_extent c.in-If.yes) (statement_headed c.in-If.yes) (sizes_both zs (c.args.stand.order + 1) (statement_extent c.in-If.yes).sizes _ inner).0 in
    let points = points_at c.args.s.now d is in
    let calls = ap length (calls_at c.args.s.now d is) in
    omega (arith, c.size.ensures, found.1, points, calls, c.requires.here, c.requires.stands.room, exit_fits s)

pub condition-requires-clause-failed_high : goal.condition-requires-clause-failed_high
condition-requires-clause-failed_high c =
    let s = c.args.self.now in
    let d = Body-F.If c.in-If.cond c.in-If.yes c.in-If.no in
    let is = c.in-If.is ∙ sym (view.rolls-If c.in-If.cond c.in-If.yes c.in-If.no) in
    let zs = s.numbering.now.sizes in
    let inner = inner_sizes c.args.s.now d is zs c.args.stand.order c.requires.sizes in
    let found = size_of zs (c.args.stand.order + 1) (statement_extent c.in-If.yes) (statement_headed c.in-If.yes) (sizes_both zs (c.args.stand.order + 1) (statement_extent c.in-If.yes).sizes _ inner).0 in
    let points = points_at c.args.s.now d is in
    let calls = ap length (calls_at c.args.s.now d is) in
    elim c.match-no.branch [ in-None w ↦ omega (arith, w.failed-is, c.requires.stands.next_high) | in-Some w ↦ omega (arith, w.failed-is, w.size.ensures, found.1, points, calls, c.requires.here, c.requires.stands.room) ]

pub condition-requires-clause-held_fits : goal.condition-requires-clause-held_fits
condition-requires-clause-held_fits c =
    let p = c.args.self.now.program.now in
    let r = c.args.self.now.routine in
    let s = c.args.s.now in
    let d = Body-F.If c.in-If.cond c.in-If.yes c.in-If.no in
    let is = c.in-If.is ∙ sym (view.rolls-If c.in-If.cond c.in-If.yes c.in-If.no) in
    test_fits p r c.in-If.cond true (and_parts (each_expr (numbers_in p) c.in-If.cond) _ (rule_at s d is (numbers_in p) c.requires.numbers)).0 (and_parts (is_of_host true (hosted (tables p) c.in-If.cond)) _ (types_at s d is (tables p) c.requires.types)).0 (and_parts (each_expr (scope_in p r) c.in-If.cond) _ (rule_at s d is (scope_in p r) c.requires.scopes)).0

pub condition-requires-clause-failed_fits : goal.condition-requires-clause-failed_fits
condition-requires-clause-failed_fits c =
    let p = c.args.self.now.program.now in
    let r = c.args.self.now.routine in
    let s = c.args.s.now in
    let d = Body-F.If c.in-If.cond c.in-If.yes c.in-If.no in
    let is = c.in-If.is ∙ sym (view.rolls-If c.in-If.cond c.in-If.yes c.in-If.no) in
    test_fits p r c.in-If.cond false (and_parts (each_expr (numbers_in p) c.in-If.cond) _ (rule_at s d is (numbers_in p) c.requires.numbers)).0 (and_parts (is_of_host true (hosted (tables p) c.in-If.cond)) _ (types_at s d is (tables p) c.requires.types)).0 (and_parts (each_expr (scope_in p r) c.in-If.cond) _ (rule_at s d is (scope_in p r) c.requires.scopes)).0

pub condition-requires-in-While-clause-held_fits : goal.condition-requires-in-While-clause-held_fits
condition-requires-in-While-clause-held_fits c =
    let p = c.args.self.now.program.now in
    let r = c.args.self.now.routine in
    let s = c.args.s.now in
    let d = Body-F.While c.in-While.cond c.in-While.body in
    let is = c.in-While.is ∙ sym (view.rolls-While c.in-While.cond c.in-While.body) in
    test_fits p r c.in-While.cond true (and_parts (each_expr (numbers_in p) c.in-While.cond) _ (rule_at s d is (numbers_in p) c.requires.numbers)).0 (and_parts (is_of_host true (hosted (tables p) c.in-While.cond)) _ (types_at s d is (tables p) c.requires.types)).0 (and_parts (each_expr (scope_in p r) c.in-While.cond) _ (rule_at s d is (scope_in p r) c.requires.scopes)).0

pub condition-requires-in-While-clause-failed_fits : goal.condition-requires-in-While-clause-failed_fits
condition-requires-in-While-clause-failed_fits c =
    let p = c.args.self.now.program.now in
    let r = c.args.self.now.routine in
    let s = c.args.s.now in
    let d = Body-F.While c.in-While.cond c.in-While.body in
    let is = c.in-While.is ∙ sym (view.rolls-While c.in-While.cond c.in-While.body) in
    test_fits p r c.in-While.cond false (and_parts (each_expr (numbers_in p) c.in-While.cond) _ (rule_at s d is (numbers_in p) c.requires.numbers)).0 (and_parts (is_of_host true (hosted (tables p) c.in-While.cond)) _ (types_at s d is (tables p) c.requires.types)).0 (and_parts (each_expr (scope_in p r) c.in-While.cond) _ (rule_at s d is (scope_in p r) c.requires.scopes)).0

pub bounds-requires-clause-enter : goal.bounds-requires-clause-enter
bounds-requires-clause-enter c =
    let f = c.in-For in
    (for_fits c.args.self.now.program.now c.args.self.now.routine c.args.s.now f.control f.bound f.first f.down f.last f.body f.is c.requires.numbers c.requires.types c.requires.scopes).enter

pub bounds-requires-clause-bypass : goal.bounds-requires-clause-bypass
bounds-requires-clause-bypass c =
    let f = c.in-For in
    (for_fits c.args.self.now.program.now c.args.self.now.routine c.args.s.now f.control f.bound f.first f.down f.last f.body f.is c.requires.numbers c.requires.types c.requires.scopes).bypass

pub reads-requires-clause-fits : goal.reads-requires-clause-fits
reads-requires-clause-fits c =
    let p = c.args.self.now.program.now in
    let r = c.args.self.now.routine in
    let s = c.args.s.now in
    let d = Body-F.Read c.in-Read.to c.in-Read.line in
    let is = c.in-Read.is ∙ sym (view.rolls-Read c.in-Read.to c.in-Read.line) in
    rw c.as_slice-in-Read.ensures (reads_fit p r c.in-Read.to (rule_at s d is (numbers_in p) c.requires.numbers) (types_at s d is (tables p) c.requires.types) (rule_at s d is (scope_in p r) c.requires.scopes))

pub writes-requires-clause-fits : goal.writes-requires-clause-fits
writes-requires-clause-fits c =
    let p = c.args.self.now.program.now in
    let r = c.args.self.now.routine in
    let s = c.args.s.now in
    let d = Body-F.Write c.in-Write.items c.in-Write.line in
    let is = c.in-Write.is ∙ sym (view.rolls-Write c.in-Write.items c.in-Write.line) in
    rw c.as_slice-in-Write.ensures (writes_fit p r c.in-Write.items (rule_at s d is (numbers_in p) c.requires.numbers) (types_at s d is (tables p) c.requires.types) (rule_at s d is (scope_in p r) c.requires.scopes))

pub returns-in-Copy-clause-graph : goal.returns-in-Copy-clause-graph
returns-in-Copy-clause-graph c = then_ok c.copying.result c.copying.ensures.graph (λ g. weaker_in c.args.self.now _ _ (c.args.here + 1) _ g (omega arith))

pub returns-after-no-clause-graph : goal.returns-after-no-clause-graph
returns-after-no-clause-graph c = then_ok c.condition.result c.condition.ensures.graph (λ g. weaker_in c.args.self.now _ _ (c.args.here + 1) _ g (omega arith))

pub returns-in-For-clause-graph : goal.returns-in-For-clause-graph
returns-in-For-clause-graph c = then_ok c.bounds.result c.bounds.ensures.graph (λ g. weaker_in c.args.self.now _ _ (c.args.here + 1) _ g (omega arith))

pub returns-in-Empty-clause-exact : goal.returns-in-Empty-clause-exact
returns-in-Empty-clause-exact c =
    let is = c.in-Empty.is ∙ sym (view.rolls-Empty) in
    then_ok c.skip.result c.skip.ensures.exact (λ f. followed_along (own_at (plan_in c.args.self.now) c.args.s.now (Body-F.Empty) is c.args.here c.args.stand.next) f)

pub returns-in-Assign-clause-exact : goal.returns-in-Assign-clause-exact
returns-in-Assign-clause-exact c =
    let is = c.in-Assign.is ∙ sym (view.rolls-Assign c.in-Assign.to c.in-Assign.value) in
    then_ok c.assignment.result c.assignment.ensures.exact (λ f. followed_along (own_at (plan_in c.args.self.now) c.args.s.now (Body-F.Assign c.in-Assign.to c.in-Assign.value) is c.args.here c.args.stand.next) f)

pub returns-in-Copy-clause-exact : goal.returns-in-Copy-clause-exact
returns-in-Copy-clause-exact c =
    let is = c.in-Copy.is ∙ sym (view.rolls-Copy c.in-Copy.to c.in-Copy.from) in
    then_ok c.copying.result c.copying.ensures.exact (λ f. followed_along (own_at (plan_in c.args.self.now) c.args.s.now (Body-F.Copy c.in-Copy.to c.in-Copy.from) is c.args.here c.args.stand.next) f)

pub returns-in-Goto-clause-exact : goal.returns-in-Goto-clause-exact
returns-in-Goto-clause-exact c =
    let is = c.in-Goto.is ∙ sym (view.rolls-Goto c.in-Goto.routine c.in-Goto.label) in
    then_ok c.goto.result c.goto.ensures.exact (λ f. followed_along (own_at (plan_in c.args.self.now) c.args.s.now (Body-F.Goto c.in-Goto.routine c.in-Goto.label) is c.args.here c.args.stand.next) f)

pub returns-in-Begin-clause-exact : goal.returns-in-Begin-clause-exact
returns-in-Begin-clause-exact c =
    let is = c.in-Begin.is ∙ sym (view.rolls-Begin c.in-Begin.body c.in-Begin.end) in
    then_ok c.skip-in-Begin.result c.skip-in-Begin.ensures.exact (λ f. followed_along (own_at (plan_in c.args.self.now) c.args.s.now (Body-F.Begin c.in-Begin.body c.in-Begin.end) is c.args.here c.args.stand.next) f)

pub returns-in-While-clause-exact : goal.returns-in-While-clause-exact
returns-in-While-clause-exact c =
    let is = c.in-While.is ∙ sym (view.rolls-While c.in-While.cond c.in-While.body) in
    then_ok c.condition-in-While.result c.condition-in-While.ensures.exact (λ f. followed_along (own_at (plan_in c.args.self.now) c.args.s.now (Body-F.While c.in-While.cond c.in-While.body) is c.args.here c.args.stand.next) f)

pub returns-in-Repeat-clause-exact : goal.returns-in-Repeat-clause-exact
returns-in-Repeat-clause-exact c =
    let is = c.in-Repeat.is ∙ sym (view.rolls-Repeat c.in-Repeat.body c.in-Repeat.at c.in-Repeat.cond) in
    then_ok c.skip-in-Repeat.result c.skip-in-Repeat.ensures.exact (λ f. followed_along (own_at (plan_in c.args.self.now) c.args.s.now (Body-F.Repeat c.in-Repeat.body c.in-Repeat.at c.in-Repeat.cond) is c.args.here c.args.stand.next) f)

pub returns-in-For-clause-exact : goal.returns-in-For-clause-exact
returns-in-For-clause-exact c =
    let is = c.in-For.is ∙ sym (view.rolls-For c.in-For.control c.in-For.bound c.in-For.first c.in-For.down c.in-For.last c.in-For.body) in
    then_ok c.bounds.result c.bounds.ensures.exact (λ f. followed_along (own_at (plan_in c.args.self.now) c.args.s.now (Body-F.For c.in-For.control c.in-For.bound c.in-For.first c.in-For.down c.in-For.last c.in-For.body) is c.args.here c.args.stand.next) f)

pub no_arms-requires-clause-fits : goal.no_arms-requires-clause-fits
no_arms-requires-clause-fits c =
    let p = c.args.self.now.program.now in
    let r = c.args.self.now.routine in
    let s = c.args.s.now in
    let f = c.in-Case in
    let d = Body-F.Case f.of f.arms in
    let is = f.is ∙ sym (view.rolls-Case f.of f.arms) in
    record {
      numbers = (and_parts (each_expr (numbers_in p) f.of) _ (rule_at s d is (numbers_in p) c.requires.numbers)).0;
      types = and_from (hosted (tables p) f.of).fits true (and_parts (hosted (tables p) f.of).fits _ (types_at s d is (tables p) c.requires.types)).0 refl;
      scopes = (and_parts (each_expr (scope_in p r) f.of) _ (rule_at s d is (scope_in p r) c.requires.scopes)).0;
    }

pub returns-in_ok-selector-in-Case-clause-graph : goal.returns-in_ok-selector-in-Case-clause-graph
returns-in_ok-selector-in-Case-clause-graph c = then_ok c.no_arms.result c.no_arms.ensures.graph (λ g. weaker_in c.args.self.now _ _ (c.args.here + 1) _ g (omega arith))

pub returns-in_ok-selector-in-Case-clause-exact : goal.returns-in_ok-selector-in-Case-clause-exact
returns-in_ok-selector-in-Case-clause-exact c =
    let plan = plan_in c.args.self.now in
    let is = c.in-Case.is ∙ sym (view.rolls-Case c.in-Case.of c.in-Case.arms) in
    then_ok c.no_arms.result (rw c.as_slice-in-Case.ensures at c.no_arms.ensures.exact)
    (λ f. followed_along (case_own plan c.in-Case.of c.in-Case.arms c.args.here c.args.stand.next ∙ own_at plan c.args.s.now (Body-F.Case c.in-Case.of c.in-Case.arms) is c.args.here c.args.stand.next) (followed_by_both c.in_ok-selector-in-Case.ensures.exact f))

pub returns-in-Call-clause-exact : goal.returns-in-Call-clause-exact
returns-in-Call-clause-exact c =
    let is = c.in-Call.is ∙ sym (view.rolls-Call c.in-Call.routine c.in-Call.actuals c.in-Call.at) in
    then_ok c.procedure.result (rw c.as_slice.ensures at c.procedure.ensures.exact) (λ f. followed_along (own_at (plan_in c.args.self.now) c.args.s.now (Body-F.Call c.in-Call.routine c.in-Call.actuals c.in-Call.at) is c.args.here c.args.stand.next) f)

pub returns-in-Read-clause-exact : goal.returns-in-Read-clause-exact
returns-in-Read-clause-exact c =
    let is = c.in-Read.is ∙ sym (view.rolls-Read c.in-Read.to c.in-Read.line) in
    then_ok c.reads.result (rw c.as_slice-in-Read.ensures at c.reads.ensures.exact) (λ f. followed_along (own_at (plan_in c.args.self.now) c.args.s.now (Body-F.Read c.in-Read.to c.in-Read.line) is c.args.here c.args.stand.next) f)

pub returns-in-Write-clause-exact : goal.returns-in-Write-clause-exact
returns-in-Write-clause-exact c =
    let is = c.in-Write.is ∙ sym (view.rolls-Write c.in-Write.items c.in-Write.line) in
    then_ok c.writes.result (rw c.as_slice-in-Write.ensures at c.writes.ensures.exact) (λ f. followed_along (own_at (plan_in c.args.self.now) c.args.s.now (Body-F.Write c.in-Write.items c.in-Write.line) is c.args.here c.args.stand.next) f)

pub returns-after-no-clause-exact : goal.returns-after-no-clause-exact
returns-after-no-clause-exact c =
    let s = c.args.self.now in
    let d = Body-F.If c.in-If.cond c.in-If.yes c.in-If.no in
    let is = c.in-If.is ∙ sym (view.rolls-If c.in-If.cond c.in-If.yes c.in-If.no) in
    let zs = s.numbering.now.sizes in
    let inner = inner_sizes c.args.s.now d is zs c.args.stand.order c.requires.sizes in
    let found = size_of zs (c.args.stand.order + 1) (statement_extent c.in-If.yes) (statement_headed c.in-If.yes) (sizes_both zs (c.args.stand.order + 1) (statement_extent c.in-If.yes).sizes _ inner).0 in
    then_ok c.condition.result c.condition.ensures.exact
    (λ f. followed_along (if_own (plan_in s) c.in-If.cond c.in-If.yes c.in-If.no c.args.here c.args.stand.next _ (elim c.match-no.branch [ in-None w ↦ if_none (plan_in s) c.in-If.no _ _ _ w.in-None.is w.failed-is | in-Some w ↦ if_some (plan_in s) c.in-If.no _ _ _ _ w.in-Some.is (w.failed-is ∙ omega (arith, w.size.ensures, found.1)) ]) ∙ own_at (plan_in s) c.args.s.now d is c.args.here c.args.stand.next) f)
