use Rattle.std.proofs.Common.{◌≡◌, ℕ, List, take, get_or, Some, slice_get, sym, ap, subst, ◌∙◌, arith}
use Rattle.std.specs.List.{flat_map}
use Rattle.std.proofs.lemmas.Option.{slice_get-get_or}
use Rattle.alias_class.specs.declared.outline.Outline.{Outline}
use Rattle.alias_class.specs.Cells.{routine_of}
use Rattle.alias_class.specs.Classes.{Class, class_at}
use Rattle.activations.specs.Calls.{points_of, sites_at}
use Rattle.activations.specs.Found.{HasEntered}
use Rattle.activations.proofs.DiscoveredClasses.{class_stays, entered_apart, entered_extends, entered_few, entered_more, longer}
use Rattle.activations.proofs.DiscoveredSites.{few_before, point_in, sites_more}
use Rattle.activations.proofs.discovery.Discovery.handle.Goals as goal

pub enter_at-requires-clause-class : goal.enter_at-requires-clause-class
enter_at-requires-clause-class c =
    let f = c.args.flow.now in
    let old = c.args.self.now in
    let now = c.loop-point.self in
    let ks = flat_map (sites_at f.edges) (take c.loop-point.point-index c.args.points.now) in
    let grown = longer old.classes.classes now.classes.classes (entered_extends f c.args.class ks old now c.loop-point.invariant) in
    omega (arith, c.requires.class, grown)

pub enter_at-requires-clause-point : goal.enter_at-requires-clause-point
enter_at-requires-clause-point c =
    let f = c.args.flow.now in
    let old = c.args.self.now in
    let now = c.loop-point.self in
    let i = c.loop-point.point-index in
    let ps = c.args.points.now in
    let ks = flat_map (sites_at f.edges) (take i ps) in
    let r = routine_of old.classes.outline (class_at old.classes.classes c.args.class) in
    let extends = entered_extends f c.args.class ks old now c.loop-point.invariant in
    let same : class_at now.classes.classes c.args.class ≡ class_at old.classes.classes c.args.class = class_stays old.classes.classes now.classes.classes c.args.class extends c.requires.class in
    let routine : routine_of now.classes.outline (class_at now.classes.classes c.args.class) ≡ r =
    ap (λ (o : Outline). routine_of o (class_at now.classes.classes c.args.class)) c.loop-point.invariant.outline ∙ ap (λ (d : Class). routine_of old.classes.outline d) same in
    let at : slice_get (points_of f.points r) i ≡ Some (get_or ps i 0) = subst (λ (qs : List ℕ). slice_get qs i ≡ Some (get_or ps i 0)) c.requires.points (slice_get-get_or ps i 0 c.loop-point-test.true) in
    point_in f.points r i (get_or ps i 0) at ∙ ap (λ (n : ℕ). Some n) (sym routine)

pub enter_at-requires-clause-apart : goal.enter_at-requires-clause-apart
enter_at-requires-clause-apart c =
    let f = c.args.flow.now in
    entered_apart f c.args.class (flat_map (sites_at f.edges) (take c.loop-point.point-index c.args.points.now)) c.args.self.now c.loop-point.self c.loop-point.invariant c.requires.apart

pub enter_at-requires-clause-room : goal.enter_at-requires-clause-room
enter_at-requires-clause-room c =
    let f = c.args.flow.now in
    let i = c.loop-point.point-index in
    let few = entered_few f c.args.class (flat_map (sites_at f.edges) (take i c.args.points.now)) c.args.self.now c.loop-point.self c.loop-point.invariant in
    let sites = few_before f.edges (c.a_call_leaves_its_point_alone.ensures f) c.args.points.now i c.loop-point.auto.point-index-end in
    omega (arith, few, sites, c.requires.room, c.loop-point-test.true)

pub loop-point-preserved : goal.loop-point-preserved
loop-point-preserved c =
    let f = c.args.flow.now in
    let i = c.loop-point.point-index in
    let ps = c.args.points.now in
    let ks = flat_map (sites_at f.edges) (take i ps) in
    subst (λ (js : List ℕ). HasEntered f c.args.class js c.args.self.now c.enter_at.new.self) (sym (sites_more f.edges ps i c.loop-point-test.true))
    (entered_more f c.args.class ks (sites_at f.edges (get_or ps i 0)) c.args.self.now c.loop-point.self c.enter_at.new.self c.requires.class c.loop-point.invariant c.in_ok-enter_at.ensures)
