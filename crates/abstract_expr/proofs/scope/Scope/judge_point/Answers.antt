use Rattle.std.proofs.Common.{◌≡◌, ℕ, List, [], ◌++◌, sym, ap, ◌∙◌, Option}
use Rattle.std.specs.List.{slice_get}
use Rattle.std.specs.Option.{unwrap_or}
use Rattle.control_points.specs.Flows.{chart_of}
use Rattle.control_points.specs.Judgements.{assert_judgements, constants_at, own_judgements}
use Rattle.abstract_expr.specs.Judging.{after_point}
use Rattle.abstract_expr.specs.Scopes.{scope_of}
use Rattle.abstract_expr.specs.Standing.{class_in}
use Rattle.abstract_expr.specs.Tallies.{tallied}
use Rattle.abstract_expr.proofs.JudgedSteps.{then_judged}
use Rattle.abstract_expr.proofs.LeavingPoints.{asserted_seen, item_at, routine_is}
use Rattle.abstract_expr.proofs.scope.Scope.judge_point.Goals as goal

pub assertions-requires : goal.assertions-requires
assertions-requires c =
    let s = c.args.self.now in
    let f = s.flow.now in
    let t = s.names.classes.now in
    let q = item_at f.points c.args.point c.requires.point in
    asserted_seen f.program t.outline (class_in t s.names.class) s.of_program c.routine-routine.ensures.is_class q.one.routine c.asserts_at.result.now
    (routine_is _ q.one _ q.is c.requires.stands.routine) (c.assertions_are_of_their_routine.ensures f c.args.point q.one c.asserts_at.result.now q.is c.asserts_at.ensures)

pub returns : goal.returns
returns c =
    let s = c.args.self.now in
    let f = s.flow.now in
    let p = c.args.point in
    let env = c.args.env.now.env in
    let old = tallied c.args.tally.now c.args.marks.now in
    let listed : unwrap_or (slice_get f.asserts p) [] ≡ c.asserts_at.result.now = ap (λ (x : Option (List ℕ)). unwrap_or x []) c.asserts_at.ensures in
    record {
      verdicts =
          then_judged (scope_of s) (constants_at f.edges p) env (assert_judgements f.program.asserts c.asserts_at.result.now) (own_judgements (chart_of f) p) old
          (tallied c.assertions.new.tally c.assertions.new.marks) (tallied c.judge_leaving.new.tally c.judge_leaving.new.marks) c.assertions.ensures c.judge_leaving.ensures.verdicts
          ∙ ap (λ (ks : List ℕ). after_point s p env (assert_judgements f.program.asserts ks ++ own_judgements (chart_of f) p) old) (sym listed);
      below = c.judge_leaving.ensures.below;
      cells = c.judge_leaving.ensures.cells;
      room = c.judge_leaving.ensures.room;
    }
