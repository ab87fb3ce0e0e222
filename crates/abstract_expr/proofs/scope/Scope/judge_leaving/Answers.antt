use Rattle.std.proofs.Common.{◌≡◌, ℕ, List, true, false, get_or, sym, ap, subst, ◌∙◌, arith, Some}
use Rattle.std.specs.List.{slice_get}
use Rattle.std.proofs.lemmas.Option.{get_or_from_slice_get, slice_get_within}
use Rattle.pas_program.specs.Checked.{tables}
use Rattle.control_points.specs.declared.edge.Edge.{Edge}
use Rattle.control_points.specs.declared.point.Point.{Point}
use Rattle.control_points.specs.Chart.{place_of_point}
use Rattle.control_points.specs.Fits.{kind_at}
use Rattle.control_points.specs.Flows.{chart_of}
use Rattle.control_points.specs.Judgements.{Judgements, act_judgements, first_judgements, result_judgements, result_of}
use Rattle.control_points.specs.Leading.{is_exit, is_return}
use Rattle.abstract_expr.specs.Judging.{ActStands, after_point}
use Rattle.abstract_expr.specs.Standing.{class_in}
use Rattle.abstract_expr.specs.Tallies.{tallied}
use Rattle.abstract_expr.proofs.LeavingPoints.{act_seen_here, first_is, item_at, none_first, not_return, own_action, own_exit, result_seen, routine_is}
use Rattle.abstract_expr.proofs.Listed.{leaves_in}
use Rattle.abstract_expr.proofs.Shrinking.{less_itself}
use Rattle.abstract_expr.proofs.scope.Scope.judge_leaving.Goals as goal

pub result-requires : goal.result-requires
result-requires c =
    let s = c.args.self.now in
    let t = s.names.classes.now in
    result_seen s.flow.now.program t.outline (class_in t s.names.class) s.of_program c.requires.class c.args.routine c.requires.routine

pub bounds-edges-first : goal.bounds-edges-first
bounds-edges-first c =
    let f = c.args.self.now.flow.now in
    let k = get_or c.outgoing.result.now 0 0 in
    let l = leaves_in f.edges c.args.point 0 c.outgoing.result.now c.outgoing.ensures c.in-len1-up.len_at_least in
    slice_get_within c.edges.result.now k l.edge (ap (λ (xs : List Edge). slice_get xs k) c.edges.ensures ∙ l.found)

pub judge_action-requires : goal.judge_action-requires
judge_action-requires c =
    let s = c.args.self.now in
    let f = s.flow.now in
    let p = c.args.point in
    let t = s.names.classes.now in
    let k = get_or c.outgoing.result.now 0 0 in
    let l = leaves_in f.edges p 0 c.outgoing.result.now c.outgoing.ensures c.in-len1-up.len_at_least in
    let q = item_at f.points p c.requires.point in
    let at : slice_get c.points.result.now p ≡ Some q.one = ap (λ (xs : List Point). slice_get xs p) c.points.ensures ∙ q.is in
    let inside : is_exit q.one.kind ≡ false = ap (λ (x : Point). is_exit x.kind) (sym (get_or_from_slice_get c.points.result.now p q.one _ at)) ∙ sym c.is_exit.ensures ∙ c.if-is_exit.false in
    let edge : get_or c.edges.result.now k c.index-edges-first.result ≡ l.edge =
    get_or_from_slice_get c.edges.result.now k l.edge c.index-edges-first.result (ap (λ (xs : List Edge). slice_get xs k) c.edges.ensures ∙ l.found) in
    let stands : ActStands s l.edge.act = record {
      numbers = f.edges_fit.numbers k l.edge l.found;
      types = f.edges_fit.types k l.edge l.found;
      seen = act_seen_here f.program t.outline (class_in t s.names.class) s.of_program c.requires.class q.one.routine l.edge.act (routine_is _ q.one _ q.is c.requires.stands.routine)
          (f.edges_fit.scopes k l.edge q.one l.found (ap (slice_get f.points) l.source ∙ q.is));
    } in
    let stays : is_return l.edge.act ≡ false = not_return f.points p q.one (is_return l.edge.act) q.is inside (λ h. ap (kind_at f.points) (sym l.source) ∙ f.exits_return.back k l.edge l.found h) in
    record {
      point = c.requires.point;
      stands = subst (λ (e : Edge). ActStands s e.act) (sym edge) stands;
      stays = ap (λ (e : Edge). is_return e.act) edge ∙ stays;
      reached = c.requires.reached;
      cells = c.requires.cells;
    }

pub returns-then-is_exit-clause-verdicts : goal.returns-then-is_exit-clause-verdicts
returns-then-is_exit-clause-verdicts c =
    let s = c.args.self.now in
    let f = s.flow.now in
    let p = c.args.point in
    let env = c.args.env.now.env in
    let old = tallied c.args.tally.now c.args.marks.now in
    let q = item_at f.points p c.requires.point in
    let at : slice_get c.points.result.now p ≡ Some q.one = ap (λ (xs : List Point). slice_get xs p) c.points.ensures ∙ q.is in
    let exit : is_exit q.one.kind ≡ true = ap (λ (x : Point). is_exit x.kind) (sym (get_or_from_slice_get c.points.result.now p q.one _ at)) ∙ sym c.is_exit.ensures ∙ c.if-is_exit.true in
    let same : c.args.routine ≡ q.one.routine = c.requires.routine ∙ sym (routine_is _ q.one _ q.is c.requires.stands.routine) in
    c.result.ensures q.one.at
    ∙ ap (λ (r : ℕ). after_point s p env (result_judgements (result_of (tables f.program) r) q.one.at) old) same
    ∙ ap (λ (js : Judgements). after_point s p env js old) (sym (own_exit (chart_of f) p q.one q.is exit))

pub returns-then-is_exit-clause-below : goal.returns-then-is_exit-clause-below
returns-then-is_exit-clause-below c = (less_itself c.args.env.now.env).below

pub returns-in_default-clause-verdicts : goal.returns-in_default-clause-verdicts
returns-in_default-clause-verdicts c =
    let s = c.args.self.now in
    let f = s.flow.now in
    let p = c.args.point in
    let old = tallied c.args.tally.now c.args.marks.now in
    let q = item_at f.points p c.requires.point in
    let at : slice_get c.points.result.now p ≡ Some q.one = ap (λ (xs : List Point). slice_get xs p) c.points.ensures ∙ q.is in
    let inside : is_exit q.one.kind ≡ false = ap (λ (x : Point). is_exit x.kind) (sym (get_or_from_slice_get c.points.result.now p q.one _ at)) ∙ sym c.is_exit.ensures ∙ c.if-is_exit.false in
    ap (λ (js : Judgements). after_point s p c.args.env.now.env js old)
    (sym (own_action (chart_of f) p q.one q.is inside ∙ ap (first_judgements (chart_of f)) (sym c.outgoing.ensures) ∙ none_first (chart_of f) c.outgoing.result.now (omega arith)))

pub returns-in_default-clause-below : goal.returns-in_default-clause-below
returns-in_default-clause-below c = (less_itself c.args.env.now.env).below

pub returns-in-len1-up-clause-verdicts : goal.returns-in-len1-up-clause-verdicts
returns-in-len1-up-clause-verdicts c =
    let s = c.args.self.now in
    let f = s.flow.now in
    let p = c.args.point in
    let env = c.args.env.now.env in
    let old = tallied c.args.tally.now c.args.marks.now in
    let k = get_or c.outgoing.result.now 0 0 in
    let l = leaves_in f.edges p 0 c.outgoing.result.now c.outgoing.ensures c.in-len1-up.len_at_least in
    let q = item_at f.points p c.requires.point in
    let at : slice_get c.points.result.now p ≡ Some q.one = ap (λ (xs : List Point). slice_get xs p) c.points.ensures ∙ q.is in
    let inside : is_exit q.one.kind ≡ false = ap (λ (x : Point). is_exit x.kind) (sym (get_or_from_slice_get c.points.result.now p q.one _ at)) ∙ sym c.is_exit.ensures ∙ c.if-is_exit.false in
    let edge : get_or c.edges.result.now k c.index-edges-first.result ≡ l.edge =
    get_or_from_slice_get c.edges.result.now k l.edge c.index-edges-first.result (ap (λ (xs : List Edge). slice_get xs k) c.edges.ensures ∙ l.found) in
    let place = place_of_point f.points l.edge.from in
    c.judge_action.ensures.verdicts place
    ∙ ap (λ (e : Edge). after_point s p env (act_judgements (chart_of f) place e.act) old) edge
    ∙ ap (λ (js : Judgements). after_point s p env js old)
    (sym (own_action (chart_of f) p q.one q.is inside ∙ ap (first_judgements (chart_of f)) (sym c.outgoing.ensures) ∙ first_is (chart_of f) c.outgoing.result.now l.edge c.in-len1-up.len_at_least l.found))
