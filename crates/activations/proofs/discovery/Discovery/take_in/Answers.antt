use Rattle.std.proofs.Common.{rules, ◌≡◌, ℕ, ◌≤◌, ◌+◌, ◌*◌, List, length, sym, ap, subst, arith}
use Rattle.std.specs.List.{flat_map}
use Rattle.alias_class.specs.Cells.{cell_count, routine_of}
use Rattle.alias_class.specs.Classes.{class_at}
use Rattle.activations.specs.declared.discovery.Discovery.{Discovery}
use Rattle.activations.specs.Calls.{points_of, sites_at}
use Rattle.activations.specs.Distinct.{AreApart}
use Rattle.activations.specs.Drawn.{IsCause}
use Rattle.activations.specs.Found.{HasEntered}
use Rattle.activations.specs.Unfolding.{most_cells}
use Rattle.activations.proofs.DiscoveredSteps.{found_more, grown, known_apart, too_many}
use Rattle.activations.proofs.DiscoveredTaking.{points_few, points_found, points_here, points_some, routine_listed, size_is}
use Rattle.activations.proofs.discovery.Discovery.take_in.Goals as goal

pub of_routine-points-requires : goal.of_routine-points-requires
of_routine-points-requires c =
    let t = c.args.self.now.classes in
    routine_listed c.args.flow.now t c.args.routines.now c.args.class c.routine.result c.requires.routines c.requires.found.outline c.routine.ensures.value c.routine.ensures.is_class

pub count-requires-clause-points : goal.count-requires-clause-points
count-requires-clause-points c =
    let t = c.args.self.now.classes in
    points_few c.args.flow.now t c.args.routines.now c.args.class c.routine.result c.requires.routines c.requires.found.outline c.routine.ensures.value c.routine.ensures.is_class c.of_routine-points.result.now c.of_routine-points.ensures

pub returns-in_err-count-clause-cause : goal.returns-in_err-count-clause-cause
returns-in_err-count-clause-cause c =
    let f = c.args.flow.now in
    let old = c.args.self.now in
    let t = old.classes in
    let ps = c.of_routine-points.result.now in
    let s : ℕ = old.size + length ps * (1 + cell_count t.outline (class_at t.classes c.args.class)) in
    let passed = c.in_err-count.ensures.cause in
    let size = size_is f t c.args.routines.now c.args.class c.routine.result c.requires.routines c.requires.found.outline c.routine.ensures.value c.routine.ensures.is_class ps c.of_routine-points.ensures old.size in
    let fact : IsCause f c.in_err-count.field-0.0 = subst (IsCause f) (sym passed.0) (t.classes, too_many f c.args.class s old c.requires.found c.requires.class size passed.1) in
    search rules

pub handle-requires-clause-points : goal.handle-requires-clause-points
handle-requires-clause-points c =
    let f = c.args.flow.now in
    let t = c.args.self.now.classes in
    let here = points_here f t c.args.routines.now c.args.class c.routine.result c.requires.routines c.requires.found.outline c.routine.ensures.value c.routine.ensures.is_class c.of_routine-points.result.now c.of_routine-points.ensures in
    subst (λ (d : Discovery). c.of_routine-points.result.now ≡ points_of f.points (routine_of d.classes.outline (class_at d.classes.classes c.args.class))) (sym c.in_ok-count.ensures.counted) here

pub handle-requires-clause-apart : goal.handle-requires-clause-apart
handle-requires-clause-apart c =
    let f = c.args.flow.now in
    let old = c.args.self.now in
    subst (λ (d : Discovery). AreApart d.classes.classes) (sym c.in_ok-count.ensures.counted) (known_apart f old.classes.classes c.args.class c.requires.found.known)

pub returns-clause-found : goal.returns-clause-found
returns-clause-found c =
    let f = c.args.flow.now in
    let old = c.args.self.now in
    let t = old.classes in
    let i = c.args.class in
    let ps = c.of_routine-points.result.now in
    let s : ℕ = old.size + length ps * (1 + cell_count t.outline (class_at t.classes i)) in
    let entered : HasEntered f i (flat_map (sites_at f.edges) ps) c.count.new.self c.handle.new.self = search rules in
    let size = size_is f t c.args.routines.now i c.routine.result c.requires.routines c.requires.found.outline c.routine.ensures.value c.routine.ensures.is_class ps c.of_routine-points.ensures old.size in
    let points = points_found f t c.args.routines.now i c.routine.result c.requires.routines c.requires.found.outline c.routine.ensures.value c.routine.ensures.is_class ps c.of_routine-points.ensures in
    let counted : Discovery = record old { size = s } in
    let here : HasEntered f i (flat_map (sites_at f.edges) ps) counted c.handle.new.self = subst (λ (d : Discovery). HasEntered f i (flat_map (sites_at f.edges) ps) d c.handle.new.self) c.in_ok-count.ensures.counted entered in
    let by_points = subst (λ (qs : List ℕ). HasEntered f i (flat_map (sites_at f.edges) qs) counted c.handle.new.self) points here in
    let within = subst (λ (d : Discovery). d.size ≤ most_cells) c.in_ok-count.ensures.counted c.in_ok-count.ensures.within in
    found_more f i s old c.requires.found c.requires.class size within (c.a_call_leaves_its_point_alone.ensures f) c.handle.new.self by_points

pub returns-clause-grown : goal.returns-clause-grown
returns-clause-grown c =
    let f = c.args.flow.now in
    let old = c.args.self.now in
    let t = old.classes in
    let i = c.args.class in
    let ps = c.of_routine-points.result.now in
    let s : ℕ = old.size + length ps * (1 + cell_count t.outline (class_at t.classes i)) in
    let entered : HasEntered f i (flat_map (sites_at f.edges) ps) c.count.new.self c.handle.new.self = search rules in
    let size = size_is f t c.args.routines.now i c.routine.result c.requires.routines c.requires.found.outline c.routine.ensures.value c.routine.ensures.is_class ps c.of_routine-points.ensures old.size in
    let some = points_some f t c.args.routines.now i c.routine.result c.requires.routines c.requires.found.outline c.routine.ensures.value c.routine.ensures.is_class ps c.of_routine-points.ensures in
    let more = grown f i s old c.requires.found c.requires.class size some in
    let counted = ap (λ (d : Discovery). d.size) c.in_ok-count.ensures.counted in
    omega (arith, more, counted, entered.size)
