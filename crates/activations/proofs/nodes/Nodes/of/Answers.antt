use Rattle.std.proofs.Common.{◌≡◌, ℕ, ◌++◌, List, length, map, ap, refl, subst, ◌∙◌, arith}
use Rattle.alias_class.specs.Cells.{IsClass, routine_of}
use Rattle.alias_class.specs.Classes.{class_at}
use Rattle.alias_class.specs.declared.outline.Outline.{Outline}
use Rattle.activations.specs.declared.node.Node.{Node}
use Rattle.activations.specs.Calls.{points_of}
use Rattle.activations.specs.Unfolding.{unfolding_of}
use Rattle.activations.proofs.NodeNumbers.{AreSoFar, few_so_far, lists_long, more_nodes, nodes_are, points_at, routine_known}
use Rattle.activations.proofs.nodes.Nodes.of.Goals as goal

pub overflow_cast-len : goal.overflow_cast-len
overflow_cast-len c =
    let u = unfolding_of c.args.flow.now c.args.classes.now.classes in
    let few = few_so_far u c.loop-class.class (omega (arith, c.loop-class-test.true, c.count-class-end.ensures.value)) in
    omega (arith, few, c.requires.few, ap (λ (xs : List Node). length xs) c.loop-class.invariant.nodes, c.loop-class.list.ok.0, c.len.ensures)

pub of_routine-requires : goal.of_routine-requires
of_routine-requires c =
    let is_class = subst (λ (o : Outline). IsClass o (class_at c.args.classes.now.classes c.loop-class.class)) c.requires.outline c.routine.ensures.is_class in
    let value = c.routine.ensures.value ∙ ap (λ (o : Outline). routine_of o (class_at c.args.classes.now.classes c.loop-class.class)) c.requires.outline in
    let below = routine_known c.args.flow.now (class_at c.args.classes.now.classes c.loop-class.class) is_class in
    omega (arith, value, below, lists_long c.args.flow.now c.args.routines c.requires.points)

pub loop-class-preserved : goal.loop-class-preserved
loop-class-preserved c =
    let u = unfolding_of c.args.flow.now c.args.classes.now.classes in
    let value = c.routine.ensures.value ∙ ap (λ (o : Outline). routine_of o (class_at c.args.classes.now.classes c.loop-class.class)) c.requires.outline in
    let is_class = subst (λ (o : Outline). IsClass o (class_at c.args.classes.now.classes c.loop-class.class)) c.requires.outline c.routine.ensures.is_class in
    let below = routine_known c.args.flow.now (class_at c.args.classes.now.classes c.loop-class.class) is_class in
    let points = points_at c.args.flow.now c.args.routines c.requires.points c.routine.result c.of_routine.result.now (omega (arith, value, below)) c.of_routine.ensures in
    rw (c.in_ok-push.ensures.items, c.len.ensures, c.loop-class.list.ok.0)
    (more_nodes u c.loop-class.class c.loop-class.list.items c.add_nodes.new.list.items c.loop-class.firsts.items c.loop-class.invariant
    (c.in_ok-add_nodes.ensures ∙ ap (λ (ps : List ℕ). c.loop-class.list.items ++ map (λ p. record { class = c.loop-class.class; point = p }) ps) (points ∙ ap (points_of c.args.flow.now.points) value)))

pub returns : goal.returns
returns c =
    let all : c.loop-class.class ≡ length c.args.classes.now.classes = omega (arith, c.loop-class-test.false, c.count-class-end.ensures.value, c.loop-class.auto.class-end) in
    let so_far = subst (λ (n : ℕ). AreSoFar (unfolding_of c.args.flow.now c.args.classes.now.classes) n c.loop-class.list.items c.loop-class.firsts.items) all c.loop-class.invariant in
    nodes_are c.args.flow.now c.args.classes.now.classes c.args.routines c.requires.points (record { list = c.loop-class.list; firsts = c.loop-class.firsts; ranks = c.args.routines.ranks }) refl so_far c.requires.few
