use Rattle.std.proofs.Common.{◌≡◌, ℕ, suc, ◌+◌, ◌++◌, List, [], ◌∷◌, None, length, get_or, Some, refl, sym, ap, subst, ◌∙◌, arith}
use Rattle.std.proofs.lemmas.Option.{slice_get_within}
use Rattle.control_points.specs.declared.edge.Edge.{Edge}
use Rattle.activations.specs.Arcs.{callee_number, call_number}
use Rattle.activations.specs.Unfolding.{node_at}
use Rattle.activations.specs.Walks.{drawn_of}
use Rattle.activations.proofs.DrawnCalls.{HasNode, drawable, entered, next_read, number_of_read, read_edge, two_listed}
use Rattle.activations.proofs.SameArcs.{arc_of, same_arc}
use Rattle.activations.proofs.drawing.Drawing.call.Goals as goal

pub bounds-edges-edge : goal.bounds-edges-edge
bounds-edges-edge c =
    let within = slice_get_within c.args.self.now.flow.now.edges c.args.edge c.requires.from.0 c.requires.from.1.known in
    omega (arith, within, ap (λ (es : List Edge). length es) c.edges-edges.ensures)

pub bounds-edges-edge-2 : goal.bounds-edges-edge-2
bounds-edges-edge-2 c =
    let w = drawable c.args.self.now c.args.class c.args.edge c.requires.set c.requires.from c.requires.call c.requires.next in
    let within = slice_get_within c.args.self.now.flow.now.edges (suc c.args.edge) w.back w.behind in
    omega (arith, within, ap (λ (es : List Edge). length es) c.edges-edges.ensures)

pub number-from-requires-clause-known : goal.number-from-requires-clause-known
number-from-requires-clause-known c =
    let d = c.args.self.now in
    let w = drawable d c.args.class c.args.edge c.requires.set c.requires.from c.requires.call c.requires.next in
    let is = read_edge d.flow.now.edges c.edges-edges.result.now c.args.edge c.index-edges-edge.result w.edge w.known c.edges-edges.ensures c.index-edges-edge.is in
    subst (λ (e : Edge). HasNode d c.args.class e.from) (sym is) w.from

pub number-exit-requires-clause-known : goal.number-exit-requires-clause-known
number-exit-requires-clause-known c =
    let d = c.args.self.now in
    let w = drawable d c.args.class c.args.edge c.requires.set c.requires.from c.requires.call c.requires.next in
    let is = read_edge d.flow.now.edges c.edges-edges.result.now (suc c.args.edge) c.index-edges-edge-2.result w.back w.behind c.edges-edges.ensures (next_read c.edges-edges.result.now c.args.edge c.index-edges-edge-2.result c.index-edges-edge-2.is) in
    let enters : (get_or d.calls.now d.drawn (record { caller = 0; site = 0; callee = 0 })).callee ≡ callee_number (drawn_of d) c.args.class c.args.edge = entered d.calls.now d.drawn _ _ _ w.enters in
    subst (λ (i : ℕ). HasNode d i c.index-edges-edge-2.result.from) (sym enters) (subst (λ (e : Edge). HasNode d (callee_number (drawn_of d) c.args.class c.args.edge) e.from) (sym is) w.exit)

pub number-entry-requires-clause-known : goal.number-entry-requires-clause-known
number-entry-requires-clause-known c =
    let d = c.args.self.now in
    let w = drawable d c.args.class c.args.edge c.requires.set c.requires.from c.requires.call c.requires.next in
    let is = read_edge d.flow.now.edges c.edges-edges.result.now c.args.edge c.index-edges-edge.result w.edge w.known c.edges-edges.ensures c.index-edges-edge.is in
    let enters : (get_or d.calls.now d.drawn (record { caller = 0; site = 0; callee = 0 })).callee ≡ callee_number (drawn_of d) c.args.class c.args.edge = entered d.calls.now d.drawn _ _ _ w.enters in
    subst (λ (i : ℕ). HasNode d i c.index-edges-edge.result.to) (sym enters) (subst (λ (e : Edge). HasNode d (callee_number (drawn_of d) c.args.class c.args.edge) e.to) (sym is) w.entry)

pub number-end-requires-clause-known : goal.number-end-requires-clause-known
number-end-requires-clause-known c =
    let d = c.args.self.now in
    let w = drawable d c.args.class c.args.edge c.requires.set c.requires.from c.requires.call c.requires.next in
    let is = read_edge d.flow.now.edges c.edges-edges.result.now (suc c.args.edge) c.index-edges-edge-2.result w.back w.behind c.edges-edges.ensures (next_read c.edges-edges.result.now c.args.edge c.index-edges-edge-2.result c.index-edges-edge-2.is) in
    subst (λ (e : Edge). HasNode d c.args.class e.to) (sym is) w.end

pub add-requires-clause-to : goal.add-requires-clause-to
add-requires-clause-to c = let within = slice_get_within c.args.self.now.nodes.now.list.items c.number-entry.result _ c.number-entry.ensures in omega (arith, within, c.requires.set.incoming)

pub add-requires-clause-leaves : goal.add-requires-clause-leaves
add-requires-clause-leaves c = let within = slice_get_within c.args.self.now.nodes.now.list.items c.number-from.result _ c.number-from.ensures in omega (arith, within, c.requires.set.outgoing)

pub overflow_add-edge : goal.overflow_add-edge
overflow_add-edge c =
    let w = drawable c.args.self.now c.args.class c.args.edge c.requires.set c.requires.from c.requires.call c.requires.next in
    let within = slice_get_within c.args.self.now.flow.now.edges (suc c.args.edge) w.back w.behind in
    omega (arith, within, c.args.self.now.flow.now.edges_few)

pub add-requires-2-clause-to : goal.add-requires-2-clause-to
add-requires-2-clause-to c =
    let within = slice_get_within c.args.self.now.nodes.now.list.items c.number-end.result _ c.number-end.ensures in
    omega (arith, within, c.requires.set.incoming, c.in_ok-add.ensures.incoming)

pub add-requires-2-clause-leaves : goal.add-requires-2-clause-leaves
add-requires-2-clause-leaves c =
    let within = slice_get_within c.args.self.now.nodes.now.list.items c.number-exit.result _ c.number-exit.ensures in
    omega (arith, within, c.requires.set.outgoing, c.in_ok-add.ensures.outgoing)

pub overflow_add-self : goal.overflow_add-self
overflow_add-self c = let within = slice_get_within _ c.args.self.now.drawn _ c.requires.next in omega (arith, within, c.requires.set.few)

pub returns-clause-arcs : goal.returns-clause-arcs
returns-clause-arcs c = λ nodes arcs before.
    let d = c.args.self.now in
    let u = drawn_of d in
    let w = drawable d c.args.class c.args.edge c.requires.set c.requires.from c.requires.call c.requires.next in
    let there = read_edge d.flow.now.edges c.edges-edges.result.now c.args.edge c.index-edges-edge.result w.edge w.known c.edges-edges.ensures c.index-edges-edge.is in
    let back = read_edge d.flow.now.edges c.edges-edges.result.now (suc c.args.edge) c.index-edges-edge-2.result w.back w.behind c.edges-edges.ensures
    (next_read c.edges-edges.result.now c.args.edge c.index-edges-edge-2.result c.index-edges-edge-2.is) in
    let j = callee_number u c.args.class c.args.edge in
    let enters : (get_or d.calls.now d.drawn (record { caller = 0; site = 0; callee = 0 })).callee ≡ j = entered d.calls.now d.drawn _ _ _ w.enters in
    let from = number_of_read u d.nodes.now c.requires.set.nodes c.args.class c.args.class c.index-edges-edge.result.from w.edge.from c.number-from.result refl (ap (λ (e : Edge). e.from) there) c.number-from.ensures in
    let entry = number_of_read u d.nodes.now c.requires.set.nodes _ j c.index-edges-edge.result.to w.edge.to c.number-entry.result enters (ap (λ (e : Edge). e.to) there) c.number-entry.ensures in
    let exit = number_of_read u d.nodes.now c.requires.set.nodes _ j c.index-edges-edge-2.result.from w.back.from c.number-exit.result enters (ap (λ (e : Edge). e.from) back) c.number-exit.ensures in
    let end = number_of_read u d.nodes.now c.requires.set.nodes c.args.class c.args.class c.index-edges-edge-2.result.to w.back.to c.number-end.result refl (ap (λ (e : Edge). e.to) back) c.number-end.ensures in
    let next : c.args.edge + 1 ≡ suc c.args.edge = omega arith in
    let call_arc = same_arc c.number-from.result (node_at u c.args.class w.edge.from) c.number-entry.result (node_at u j w.edge.to) c.args.edge None None d.drawn (call_number u c.args.class c.args.edge) from entry refl (sym w.number) in
    let back_arc = ap (λ (k : ℕ). arc_of c.number-from.result c.number-end.result k (Some c.number-exit.result) d.drawn) next
    ∙ same_arc c.number-from.result (node_at u c.args.class w.edge.from) c.number-end.result (node_at u c.args.class w.back.to) (suc c.args.edge) (Some c.number-exit.result) (Some (node_at u j w.back.from)) d.drawn (call_number u c.args.class c.args.edge)
    from end (ap (λ (n : ℕ). Some n) exit) (sym w.number) in
    two_listed nodes arcs c.add-2.new.self _ _ _ _ _ call_arc back_arc w.arcs
    (c.in_ok-add-2.ensures.listed nodes (arcs ++ arc_of c.number-from.result c.number-entry.result c.args.edge None d.drawn ∷ []) (c.in_ok-add.ensures.listed nodes arcs before))
