use Rattle.std.proofs.Common.{◌≡◌, Some, slice_get, refl, subst}
use Rattle.alias_class.specs.declared.outline.Outline.{Outline}
use Rattle.alias_class.specs.Calls.{callee}
use Rattle.alias_class.specs.Classes.{class_at, same_class}
use Rattle.alias_class.specs.Distinct.{with_member}
use Rattle.activations.proofs.DiscoveredClasses.{entered_one}
use Rattle.activations.proofs.discovery.Discovery.enter.Goals as goal

pub returns : goal.returns
returns c =
    let f = c.args.flow.now in
    let old = c.args.self.now in
    let from = λ (o : Outline). callee o f.edges (class_at old.classes.classes c.args.class) c.args.site in
    let outline = c.requires.flow in
    let added = subst (λ (o : Outline). c.enter.new.self ≡ record { outline = old.classes.outline; classes = with_member same_class old.classes.classes (from o) }) outline c.in_ok-callee.ensures.added in
    let entered = subst (λ (o : Outline). slice_get c.enter.new.self.classes c.in_ok-callee.callee ≡ Some (from o)) outline c.in_ok-callee.ensures.entered in
    entered_one f c.args.class c.args.site c.in_ok-callee.callee old (record { classes = c.enter.new.self; calls = c.push.new.self; size = old.size })
    c.requires.class c.requires.apart added entered c.in_ok-push.ensures.items refl
