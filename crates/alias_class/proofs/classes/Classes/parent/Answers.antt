use Rattle.std.proofs.Common.{◌-◌, ◌<◌, List, length, Some, ap, sym, subst, ◌∙◌}
use Rattle.alias_class.specs.declared.key.Key.{Key}
use Rattle.alias_class.specs.Classes.{class_at, parent_class}
use Rattle.alias_class.proofs.Lists.{listed_at}
use Rattle.alias_class.proofs.Outside.{class_is, key_inside, outermost_is, parent_before}
use Rattle.alias_class.proofs.classes.Classes.parent.Goals as goal

pub returns-then-class-eq0-clause-value : goal.returns-then-class-eq0-clause-value
returns-then-class-eq0-clause-value c = ap parent_class (sym (outermost_is c.self.inside.outline c.self.inside.keys.keys c.self.inside.rows.items c.self.invariant c.args.self.now c.self.view_is c.args.class c.if-class-eq0.true))

pub bounds-keys-class : goal.bounds-keys-class
bounds-keys-class c =
    let below : c.args.class - 1 < length c.as_slice-keys.result.now = subst (λ (keys : List Key). c.args.class - 1 < length keys) (sym c.as_slice-keys.ensures.keys) (key_inside c.self.inside.outline c.self.inside.keys.keys c.self.inside.rows.items c.self.invariant c.args.self.now c.self.view_is c.args.class c.requires c.if-class-eq0.false) in
    below

pub returns-clause-value : goal.returns-clause-value
returns-clause-value c =
    let below : c.args.class - 1 < length c.as_slice-keys.result.now = subst (λ (keys : List Key). c.args.class - 1 < length keys) (sym c.as_slice-keys.ensures.keys) (key_inside c.self.inside.outline c.self.inside.keys.keys c.self.inside.rows.items c.self.invariant c.args.self.now c.self.view_is c.args.class c.requires c.if-class-eq0.false) in
    let at = listed_at c.as_slice-keys.result.now c.self.inside.keys.keys (c.args.class - 1) c.index-keys-class.result c.as_slice-keys.ensures.keys below c.index-keys-class.is in
    ap (λ (key : Key). Some (class_at c.args.self.now.classes key.parent)) (sym c.index-keys-class.is)
    ∙ ap parent_class (sym (class_is c.self.inside.outline c.self.inside.keys.keys c.self.inside.rows.items c.self.invariant c.args.self.now c.self.view_is c.args.class c.requires c.if-class-eq0.false c.index-keys-class.result at))

pub returns-clause-before : goal.returns-clause-before
returns-clause-before c =
    let below : c.args.class - 1 < length c.as_slice-keys.result.now = subst (λ (keys : List Key). c.args.class - 1 < length keys) (sym c.as_slice-keys.ensures.keys) (key_inside c.self.inside.outline c.self.inside.keys.keys c.self.inside.rows.items c.self.invariant c.args.self.now c.self.view_is c.args.class c.requires c.if-class-eq0.false) in
    let at = listed_at c.as_slice-keys.result.now c.self.inside.keys.keys (c.args.class - 1) c.index-keys-class.result c.as_slice-keys.ensures.keys below c.index-keys-class.is in
    subst (λ (key : Key). key.parent < c.args.class) c.index-keys-class.is (parent_before c.self.inside.outline c.self.inside.keys.keys c.self.inside.rows.items c.self.invariant c.args.self.now c.self.view_is c.args.class c.if-class-eq0.false c.index-keys-class.result at)

pub bounds-keys-class-else-class-eq0 : goal.bounds-keys-class-else-class-eq0
bounds-keys-class-else-class-eq0 c =
    subst (λ (keys : List Key). c.args.class - 1 < length keys) (sym c.as_slice-keys.ensures.keys) (key_inside c.self.inside.outline c.self.inside.keys.keys c.self.inside.rows.items c.self.invariant c.args.self.now c.self.view_is c.args.class c.requires c.if-class-eq0.false)
