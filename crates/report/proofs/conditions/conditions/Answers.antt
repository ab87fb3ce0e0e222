use Rattle.std.proofs.Common.{◌≡◌, All, subst, ◌∙◌, ◌++◌, ◌∷◌, [], Global, List, Vec, sym, ap}
use Rattle.std.proofs.lemmas.List.{append-nil}
use Rattle.std.specs.List.{flat_map, range_with_len}
use Rattle.control_points.specs.declared.flow.Flow.{Flow}
use Rattle.std.proofs.lemmas.List.Elements.{All-push}
use Rattle.report.specs.declared.condition.Condition.{Condition}
use Rattle.report.specs.Conditions.{IsOf, conditions_at}
use Rattle.transfer_fwd.specs.Systems.{environments}
use Rattle.report.proofs.Ranges.{pieces_more}
use Rattle.report.proofs.conditions.conditions.Goals as goal
use Rattle.report.proofs.conditions.conditions.Goals.{in-Some+in_ok-push, in_default}

all_along : (f : Flow) (xs ys : List Condition) → xs ≡ ys → All (IsOf f) ys → All (IsOf f) xs
all_along f xs ys e h = let P : List Condition → Type 0 = λ zs. All (IsOf f) zs in subst P (sym e) h

pub loop-point-preserved : goal.loop-point-preserved
loop-point-preserved c =
    let piece = conditions_at c.args.nodes.now.flow.now c.args.nodes.now.graph.now (environments c.args.plain.now) (environments c.args.way.now) in
    let point = c.loop-point.point in
    let more = pieces_more piece point in
    let before = flat_map piece (range_with_len 0 point) in
    record {
      each = elim c.match-condition_at.branch [
        | in-Some+in_ok-push w ↦
            all_along c.args.nodes.now.flow.now _ _ (ap (λ (v : Vec Condition Global). v.items) w.conditions-is ∙ w.in_ok-push.ensures.items) (All-push (IsOf c.args.nodes.now.flow.now) c.loop-point.conditions.items w.in-Some.condition c.loop-point.invariant.each w.in-Some.ensures.each)
        | in_default w ↦ all_along c.args.nodes.now.flow.now _ _ (ap (λ (v : Vec Condition Global). v.items) w.conditions-is) c.loop-point.invariant.each
      ];
      value = elim c.match-condition_at.branch [
        | in-Some+in_ok-push w ↦
            ap (λ (v : Vec Condition Global). v.items) w.conditions-is ∙ w.in_ok-push.ensures.items
            ∙ ap (λ (cs : List Condition). cs ++ w.in-Some.condition ∷ []) c.loop-point.invariant.value
            ∙ ap (λ (cs : List Condition). before ++ cs) w.in-Some.ensures.value ∙ sym more
        | in_default w ↦
            ap (λ (v : Vec Condition Global). v.items) w.conditions-is ∙ c.loop-point.invariant.value
            ∙ sym (append-nil before) ∙ ap (λ (cs : List Condition). before ++ cs) w.in_default.ensures.value ∙ sym more
      ];
    }
