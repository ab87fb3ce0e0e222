use Rattle.std.proofs.Common.{◌≡◌, ◌∙◌, ◌∷◌, [], ◌++◌, ℕ, Vec, Global, sym, ap, refl, arith}
use Rattle.std.specs.Vec.{with_item}
use Rattle.std.proofs.lemmas.List.{get_or_default}
use Rattle.activations.specs.declared.routines.RoutinePoints.{RoutinePoints}
use Rattle.activations.proofs.DiscoveredPoints.{few_points, few_there, one_more_there, within_lists}
use Rattle.activations.proofs.routines.RoutinePoints.add.Goals as goal

pub index-requires : goal.index-requires
index-requires c =
    let within = within_lists c.args.flow.now c.args.number c.args.number c.routine_of_point-routine.result c.args.self.now c.requires.lower c.routine_of_point-routine.ensures in
    omega (arith, within, c.args.self.now.lists.ok.0)

pub overflow_cast-len : goal.overflow_cast-len
overflow_cast-len c =
    let within = within_lists c.args.flow.now c.args.number c.args.number c.routine_of_point-routine.result c.args.self.now c.requires.lower c.routine_of_point-routine.ensures in
    let few = few_there c.args.flow.now c.args.number c.routine_of_point-routine.result c.args.self.now c.args.self.now c.index.result.now c.index.result.now c.requires.lower c.routine_of_point-routine.ensures within c.index.ensures in
    omega (arith, few, few_points c.args.flow.now, c.requires.known, c.len.ensures, c.index.result.now.ok.0)

pub index_mut-requires : goal.index_mut-requires
index_mut-requires c =
    let within = within_lists c.args.flow.now c.args.number c.args.number c.routine_of_point-routine.result c.args.self.now c.requires.lower c.routine_of_point-routine.ensures in
    omega (arith, within, c.args.self.now.lists.ok.0)

pub returns : goal.returns
returns c =
    let within = within_lists c.args.flow.now c.args.number c.args.number c.routine_of_point-routine.result c.args.self.now c.requires.lower c.routine_of_point-routine.ensures in
    let after : RoutinePoints = record { lists = with_item c.args.self.now.lists c.routine_of_point-routine.result c.push-2.new.self; ranks = c.push.new.self } in
    let same : c.index_mut.result.now ≡ c.index.result.now = c.index_mut.ensures.value ∙ get_or_default c.args.self.now.lists.items c.routine_of_point-routine.result c.index_mut.result.now c.index.result.now within ∙ sym c.index.ensures in
    one_more_there c.args.flow.now c.args.number c.routine_of_point-routine.result c.args.self.now after c.index.result.now c.push-2.new.self c.requires.lower c.routine_of_point-routine.ensures within c.index.ensures
    refl
    (c.in_ok-push-2.ensures.items ∙ ap (λ (v : Vec ℕ Global). v.items ++ c.args.number ∷ []) same)
    (c.in_ok-push.ensures.items ∙ ap (λ (n : ℕ). c.args.self.now.ranks.items ++ n ∷ []) (c.len.ensures ∙ c.index.result.now.ok.0))
