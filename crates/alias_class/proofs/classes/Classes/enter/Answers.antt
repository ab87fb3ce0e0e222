use Rattle.std.proofs.Common.{ℕ, List, [], Global, Option, Vec, sym, subst, ap, ◌∙◌}
use Rattle.std.specs.Option.{unwrap_or}
use Rattle.alias_class.specs.declared.bind.Bind.{Bind}
use Rattle.alias_class.specs.Cells.{IsClass, IsEntered}
use Rattle.alias_class.specs.Classes.{Class, class_at}
use Rattle.alias_class.proofs.Called.{parent_class_is}
use Rattle.alias_class.proofs.Entering.{entered_class, flow_calls}
use Rattle.alias_class.proofs.Opened.{fits_outline, open_class}
use Rattle.alias_class.proofs.classes.Classes.enter.Goals as goal

pub callee_parent-parent-requires-clause-declared : goal.callee_parent-parent-requires-clause-declared
callee_parent-parent-requires-clause-declared c =
    (flow_calls c.args.flow.now c.args.self.now.outline c.requires.flow (class_at c.args.self.now.classes c.args.class)
    (open_class c.self.inside.outline c.self.inside.keys.keys c.self.inside.rows.items c.self.invariant c.args.self.now c.self.view_is c.args.class c.requires.class)
    c.args.site c.requires.site c.call_at-routine.result.0 c.call_at-routine.result.1.now c.call_at-routine.ensures).declared

pub passing-requires-clause-call : goal.passing-requires-clause-call
passing-requires-clause-call c =
    flow_calls c.args.flow.now c.args.self.now.outline c.requires.flow (class_at c.args.self.now.classes c.args.class)
    (open_class c.self.inside.outline c.self.inside.keys.keys c.self.inside.rows.items c.self.invariant c.args.self.now c.self.view_is c.args.class c.requires.class)
    c.args.site c.requires.site c.call_at-routine.result.0 c.call_at-routine.result.1.now c.call_at-routine.ensures

pub add-requires-clause-class : goal.add-requires-clause-class
add-requires-clause-class c =
    let o = c.args.self.now.outline in
    let x = class_at c.args.self.now.classes c.args.class in
    let does = flow_calls c.args.flow.now c.args.self.now.outline c.requires.flow (class_at c.args.self.now.classes c.args.class) (open_class c.self.inside.outline c.self.inside.keys.keys c.self.inside.rows.items c.self.invariant c.args.self.now c.self.view_is c.args.class c.requires.class) c.args.site c.requires.site c.call_at-routine.result.0 c.call_at-routine.result.1.now c.call_at-routine.ensures in
    let bindings = ap (λ (q : Vec Bind Global × List ℕ). q.0.items) c.into_parts-bindings.ensures ∙ c.in_ok-passing.ensures.passed.bindings in
    subst (λ (d : Class). IsEntered o d (record { routine = c.call_at-routine.result.0; site = c.args.site; bindings = c.into_parts-bindings.result.0.items }) × IsClass o d)
    (ap (λ (d : Option Class). unwrap_or d []) (sym c.callee_parent-parent.ensures.value)) (
      entered_class o (fits_outline c.self.inside.outline c.self.inside.keys.keys c.self.inside.rows.items c.self.invariant c.args.self.now c.self.view_is) x (open_class c.self.inside.outline c.self.inside.keys.keys c.self.inside.rows.items c.self.invariant c.args.self.now c.self.view_is c.args.class c.requires.class) c.call_at-routine.result.0 c.call_at-routine.result.1.now does c.args.site c.into_parts-bindings.result.0.items bindings,
      parent_class_is o (fits_outline c.self.inside.outline c.self.inside.keys.keys c.self.inside.rows.items c.self.invariant c.args.self.now c.self.view_is) x (open_class c.self.inside.outline c.self.inside.keys.keys c.self.inside.rows.items c.self.invariant c.args.self.now c.self.view_is c.args.class c.requires.class) c.call_at-routine.result.0 does.declared,
    )
