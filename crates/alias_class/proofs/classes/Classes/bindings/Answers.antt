use Rattle.std.proofs.Common.{◌-◌, ◌<◌, List, length, ap, sym, subst, ◌∙◌}
use Rattle.alias_class.specs.declared.key.Key.{Key}
use Rattle.alias_class.specs.Classes.{bindings_of}
use Rattle.alias_class.proofs.Lists.{listed_at}
use Rattle.alias_class.proofs.Outside.{class_is, key_inside, outermost_is}
use Rattle.alias_class.proofs.classes.Classes.bindings.Goals as goal

pub returns-then-class-eq0 : goal.returns-then-class-eq0
returns-then-class-eq0 c = ap bindings_of (sym (outermost_is c.self.inside.outline c.self.inside.keys.keys c.self.inside.rows.items c.self.invariant c.args.self.now c.self.view_is c.args.class c.if-class-eq0.true))

pub bounds-keys-class : goal.bounds-keys-class
bounds-keys-class c =
    let below : c.args.class - 1 < length c.as_slice-keys.result.now = subst (λ (keys : List Key). c.args.class - 1 < length keys) (sym c.as_slice-keys.ensures.keys) (key_inside c.self.inside.outline c.self.inside.keys.keys c.self.inside.rows.items c.self.invariant c.args.self.now c.self.view_is c.args.class c.requires c.if-class-eq0.false) in
    below

pub returns : goal.returns
returns c =
    let below : c.args.class - 1 < length c.as_slice-keys.result.now = subst (λ (keys : List Key). c.args.class - 1 < length keys) (sym c.as_slice-keys.ensures.keys) (key_inside c.self.inside.outline c.self.inside.keys.keys c.self.inside.rows.items c.self.invariant c.args.self.now c.self.view_is c.args.class c.requires c.if-class-eq0.false) in
    let at = listed_at c.as_slice-keys.result.now c.self.inside.keys.keys (c.args.class - 1) c.index-keys-class.result c.as_slice-keys.ensures.keys below c.index-keys-class.is in
    c.as_slice.ensures.value
    ∙ ap (λ (key : Key). key.bindings.items) (sym c.index-keys-class.is)
    ∙ ap bindings_of (sym (class_is c.self.inside.outline c.self.inside.keys.keys c.self.inside.rows.items c.self.invariant c.args.self.now c.self.view_is c.args.class c.requires c.if-class-eq0.false c.index-keys-class.result at))
