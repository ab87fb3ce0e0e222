use Rattle.std.proofs.Common.{◌≡◌, ◌++◌, List, [], ◌∷◌, None, get_or, refl, sym, ap, subst, ◌∙◌, arith}
use Rattle.std.specs.List.{Contains}
use Rattle.std.proofs.lemmas.Option.{slice_get_within}
use Rattle.std.proofs.lemmas.Result.{on_ok_weaker}
use Rattle.control_points.specs.declared.edge.Edge.{Edge}
use Rattle.activations.specs.declared.arc.Arc.{Arc}
use Rattle.activations.specs.Listed.{AreListed}
use Rattle.activations.specs.Unfolding.{node_at}
use Rattle.activations.specs.Walks.{drawn_of}
use Rattle.activations.proofs.FirstPlaces.{node_number}
use Rattle.activations.proofs.SameArcs.{same_arc}
use Rattle.activations.proofs.StandingNodes.{edge_is, node_stands}
use Rattle.activations.proofs.drawing.Drawing.local.Goals as goal

pub number-from-requires-clause-known : goal.number-from-requires-clause-known
number-from-requires-clause-known c =
    let d = c.args.self.now in
    let leaves = c.requires.from.1 in
    let is = edge_is d.flow.now.edges c.args.edge c.index-edges-edge.result c.requires.from.0 leaves.known (c.index-edges-edge.is ∙ ap (λ (es : List Edge). get_or es c.args.edge c.index-edges-edge.result) c.edges.ensures) in
    subst (λ (e : Edge). Contains d.nodes.now.list.items (record { class = c.args.class; point = e.from })) (sym is)
    (node_stands d.flow.now d.classes.now.classes d.nodes.now c.requires.set.nodes c.args.class c.requires.from.0.from leaves.class leaves.stands)

pub number-to-requires-clause-known : goal.number-to-requires-clause-known
number-to-requires-clause-known c =
    let d = c.args.self.now in
    let lands = c.requires.into.1 in
    let is = edge_is d.flow.now.edges c.args.edge c.index-edges-edge.result c.requires.into.0 lands.known (c.index-edges-edge.is ∙ ap (λ (es : List Edge). get_or es c.args.edge c.index-edges-edge.result) c.edges.ensures) in
    subst (λ (e : Edge). Contains d.nodes.now.list.items (record { class = c.args.into; point = e.to })) (sym is)
    (node_stands d.flow.now d.classes.now.classes d.nodes.now c.requires.set.nodes c.args.into c.requires.into.0.to lands.class lands.lands)

pub add-requires-clause-to : goal.add-requires-clause-to
add-requires-clause-to c =
    let within = slice_get_within c.args.self.now.nodes.now.list.items c.number-to.result _ c.number-to.ensures in
    omega (arith, within, c.requires.set.incoming)

pub add-requires-clause-leaves : goal.add-requires-clause-leaves
add-requires-clause-leaves c =
    let within = slice_get_within c.args.self.now.nodes.now.list.items c.number-from.result _ c.number-from.ensures in
    omega (arith, within, c.requires.set.outgoing)

pub returns-clause-same : goal.returns-clause-same
returns-clause-same c = on_ok_weaker c.add.result (λ _. record { flow = refl; nodes = refl; classes = refl; calls = refl; incoming = c.add.ensures.incoming; outgoing = c.add.ensures.outgoing }) c.add.ensures.listed

pub returns-clause-arcs : goal.returns-clause-arcs
returns-clause-arcs c = on_ok_weaker c.add.result (λ listed nodes arcs e known before.
    let d = c.args.self.now in
    let is = edge_is d.flow.now.edges c.args.edge c.index-edges-edge.result e known (c.index-edges-edge.is ∙ ap (λ (es : List Edge). get_or es c.args.edge c.index-edges-edge.result) c.edges.ensures) in
    let from : c.number-from.result ≡ node_at (drawn_of d) c.args.class e.from =
    sym (node_number (drawn_of d) d.nodes.now c.requires.set.nodes c.args.class c.index-edges-edge.result.from c.number-from.result c.number-from.ensures) ∙ ap (λ (x : Edge). node_at (drawn_of d) c.args.class x.from) is in
    let to : c.number-to.result ≡ node_at (drawn_of d) c.args.into e.to =
    sym (node_number (drawn_of d) d.nodes.now c.requires.set.nodes c.args.into c.index-edges-edge.result.to c.number-to.result c.number-to.ensures) ∙ ap (λ (x : Edge). node_at (drawn_of d) c.args.into x.to) is in
    let arc = same_arc c.number-from.result (node_at (drawn_of d) c.args.class e.from) c.number-to.result (node_at (drawn_of d) c.args.into e.to) c.args.edge None None 0 0 from to refl refl in
    subst (λ (a : Arc). AreListed nodes (arcs ++ a ∷ []) c.add.new.self) arc (listed nodes arcs before)) c.add.ensures.listed
