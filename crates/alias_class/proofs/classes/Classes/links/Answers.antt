use Rattle.std.proofs.Common.{◌≡◌, List, sym, subst, ap, ◌∙◌}
use Rattle.std.specs.List.{filter_map, range_with_len}
use Rattle.std.specs.Result.{IfOk}
use Rattle.alias_class.specs.declared.bind.Link.{Link}
use Rattle.alias_class.specs.Calls.{Sharing, link_of}
use Rattle.alias_class.specs.Cells.{cell_count}
use Rattle.alias_class.specs.Classes.{class_at}
use Rattle.alias_class.proofs.Entering.{cells_are, flow_calls, flow_fits, foreign_fits, foreign_follow, links_are, sharing_is}
use Rattle.alias_class.proofs.classes.Classes.links.Goals as goal

pub passing-requires-clause-call : goal.passing-requires-clause-call
passing-requires-clause-call c =
    flow_calls c.args.flow.now c.args.self.now.outline c.requires.flow (class_at c.args.self.now.classes c.args.class) c.routine.ensures.is_class c.args.site c.requires.site c.call_at-routine.result.0 c.call_at-routine.result.1.now c.call_at-routine.ensures

pub links-requires-clause-fits : goal.links-requires-clause-fits
links-requires-clause-fits c =
    foreign_fits c.args.self.now.outline (flow_fits c.args.flow.now c.args.self.now.outline c.requires.flow) (class_at c.args.self.now.classes c.args.class) c.routine.ensures.is_class c.call_at-routine.result.0 c.call_at-routine.result.1.now
    (flow_calls c.args.flow.now c.args.self.now.outline c.requires.flow (class_at c.args.self.now.classes c.args.class) c.routine.ensures.is_class c.args.site c.requires.site c.call_at-routine.result.0 c.call_at-routine.result.1.now c.call_at-routine.ensures)
    c.in_ok-passing.field-0 c.in_ok-passing.ensures.passed

pub links-requires-clause-behind : goal.links-requires-clause-behind
links-requires-clause-behind c =
    foreign_follow c.args.self.now.outline (flow_fits c.args.flow.now c.args.self.now.outline c.requires.flow) (class_at c.args.self.now.classes c.args.class) c.routine.ensures.is_class c.call_at-routine.result.0 c.call_at-routine.result.1.now
    (flow_calls c.args.flow.now c.args.self.now.outline c.requires.flow (class_at c.args.self.now.classes c.args.class) c.routine.ensures.is_class c.args.site c.requires.site c.call_at-routine.result.0 c.call_at-routine.result.1.now c.call_at-routine.ensures)
    c.in_ok-passing.field-0 c.in_ok-passing.ensures.passed

pub returns : goal.returns
returns c =
    let o = c.args.self.now.outline in
    let x = class_at c.args.self.now.classes c.args.class in
    let p = c.in_ok-passing.field-0 in
    let count = cell_count o x in
    let does = flow_calls c.args.flow.now c.args.self.now.outline c.requires.flow (class_at c.args.self.now.classes c.args.class) c.routine.ensures.is_class c.args.site c.requires.site c.call_at-routine.result.0 c.call_at-routine.result.1.now c.call_at-routine.ensures in
    let cells = cells_are o (flow_fits c.args.flow.now c.args.self.now.outline c.requires.flow) x c.routine.ensures.is_class c.call_at-routine.result.0 c.call_at-routine.result.1.now does p c.in_ok-passing.ensures.passed in
    subst (λ (ls : List Link). IfOk c.links.result (λ links. links.items ≡ ls))
    (ap (λ (s : Sharing). filter_map (link_of s) (range_with_len 0 count)) (sharing_is o x c.call_at-routine.result.0 c.call_at-routine.result.1.now p c.in_ok-passing.ensures.passed)
    ∙ sym (links_are c.args.flow.now.edges o x c.args.site c.call_at-routine.result.0 c.call_at-routine.result.1.now c.call_at-routine.ensures))
    (c.links.ensures.links count cells)
