use Rattle.std.proofs.Common.{◌≡◌, ℕ, ◌-◌, ◌<◌, ◌≤◌, Bool, false, not, List, [], ◌∷◌, length, get_or, drop, sym, ap, subst, ◌∙◌, Some}
use Rattle.std.specs.List.{slice_get}
use Rattle.std.proofs.lemmas.Option.{get_or_from_slice_get}
use Rattle.px_base.specs.declared.kind.Kind.TheVariants.{Overflow}
use Rattle.control_points.specs.declared.check.Check.{Check}
use Rattle.control_points.specs.declared.flow.Flow.{Flow}
use Rattle.control_points.specs.Flows.{chart_of}
use Rattle.control_points.specs.Judgements.{Judgement, constants_at, first_check, judgement_by, point_judgements}
use Rattle.alias_class.specs.Tables.{Table}
use Rattle.abstract_expr.specs.Standing.{cells_in, scope_in}
use Rattle.abstract_expr.specs.Verdicts.{StandsAt, check_holds, holds_at, marks_with, verdict_of}
use Rattle.abstract_expr.proofs.LeavingPoints.{item_at}
use Rattle.abstract_expr.proofs.Marked.{not_twice, one_marked}
use Rattle.abstract_expr.proofs.judging.check_of.Goals as goal

abbrev default : Check
default = record { kind = Overflow; at = 0; point = 0 }

-- the check that is read
read : (checks read : List Check) (k : ℕ) (d : Check) → read ≡ checks → slice_get checks k ≡ Some d → get_or read k default ≡ d
read checks xs k d same found = get_or_from_slice_get xs k d default (ap (λ (ys : List Check). slice_get ys k) same ∙ found)

pub overflow_sub-before : goal.overflow_sub-before
overflow_sub-before c =
    let f = c.args.flow.now in
    let k = c.args.check in
    let d = item_at f.checks k c.requires.check in
    let start = c.checks_at.ensures.start ∙ ap (λ (x : Check). first_check f.checks x.point) (read f.checks c.checks.result.now k d.one c.checks.ensures d.is) in
    subst (λ (n : ℕ). n ≤ k) (sym start) (c.each_check_is_judged.ensures f k d.one d.is).behind

pub scope_of-scope-requires : goal.scope_of-scope-requires
scope_of-scope-requires c =
    let d = item_at c.args.flow.now.checks c.args.check c.requires.check in
    let s = c.requires.stands d.one d.is in
    record { class = s.in_range; outline = s.outline }

pub mark_from-requires : goal.mark_from-requires
mark_from-requires c =
    let f = c.args.flow.now in
    let t = c.args.classes.now in
    let k = c.args.check in
    let s = c.scope_of-scope.result in
    let e = c.scope_of-scope.ensures in
    let d = item_at f.checks k c.requires.check in
    let point = ap (λ (x : Check). x.point) (read f.checks c.checks.result.now k d.one c.checks.ensures d.is) in
    let p = (get_or c.checks.result.now k default).point in
    record {
      point = subst (λ (g : Flow). p < length g.points) (sym e.flow) (subst (λ (n : ℕ). n < length f.points) (sym point) (f.checks_fit.point k d.one d.is));
      stands = subst (λ (g : Flow). StandsAt g s.names.classes.now s.names.class p) (sym e.flow)
          (subst (λ (u : Table). StandsAt f u s.names.class p) (sym e.classes)
          (subst (λ (n : ℕ). StandsAt f t n p) (sym e.class)
          (subst (λ (n : ℕ). StandsAt f t c.args.class n) (sym point) (c.requires.stands d.one d.is))));
      cells = c.requires.cells ∙ ap (λ (u : Table). cells_in u c.args.class) (sym e.classes) ∙ ap (cells_in s.names.classes.now) (sym e.class);
    }

pub returns-clause-verdict : goal.returns-clause-verdict
returns-clause-verdict c = λ d j found known.
    let f = c.args.flow.now in
    let t = c.args.classes.now in
    let k = c.args.check in
    let env = c.args.env.now.env in
    let s = c.scope_of-scope.result in
    let e = c.scope_of-scope.ensures in
    let at = read f.checks c.checks.result.now k d c.checks.ensures found in
    let p = (get_or c.checks.result.now k default).point in
    let g : Judgement → Bool = check_holds (scope_in f t c.args.class) (constants_at f.edges d.point) env in
    let rank = k - first_check f.checks d.point in
    let start : c.checks_at.result.start ≡ first_check f.checks d.point = c.checks_at.ensures.start ∙ ap (λ (x : Check). first_check f.checks x.point) at in
    let marks : c.mark_from.new.marks ≡ not (g j) ∷ [] =
    c.mark_from.ensures.marks
    ∙ ap (λ (n : ℕ). marks_with (false ∷ []) (drop (k - n) (holds_at s.flow.now s.names.classes.now s.names.class p env))) start
    ∙ ap (λ (h : Flow). marks_with (false ∷ []) (drop rank (holds_at h s.names.classes.now s.names.class p env))) e.flow
    ∙ ap (λ (u : Table). marks_with (false ∷ []) (drop rank (holds_at f u s.names.class p env))) e.classes
    ∙ ap (λ (n : ℕ). marks_with (false ∷ []) (drop rank (holds_at f t n p env))) e.class
    ∙ ap (λ (x : Check). marks_with (false ∷ []) (drop rank (holds_at f t c.args.class x.point env))) at
    ∙ one_marked g (point_judgements (chart_of f) d.point) rank j (sym (ap (judgement_by (chart_of f) f.checks k) found) ∙ known) in
    c.verdict_of.ensures
    ∙ ap (λ (l : List Bool). verdict_of (not (get_or l 0 false))) marks
    ∙ ap verdict_of (not_twice (g j))
