use Rattle.std.proofs.Common.{◌∷◌, [], ap, ◌∙◌, sym, Some}
use Rattle.std.specs.List.{slice_get}
use Rattle.std.specs.Option.{option_map}
use Rattle.control_points.specs.declared.edge.Edge.{Edge}
use Rattle.control_points.specs.Chart.{leaving}
use Rattle.interp.specs.Machines.{top_point}
use Rattle.interp.proofs.Choosing.{first_same}
use Rattle.interp.proofs.Edges.{leaves_at}
use Rattle.interp.proofs.WayBack.{way_back_first}
use Rattle.interp.proofs.machine.Machine.decide.Goals as goal

pub first-requires-in-None : goal.first-requires-in-None
first-requires-in-None c = λ i k e.
    let m = c.args.self.now in
    let w = leaves_at m.flow.now.edges (top_point m.frames.items) i k (sym (ap (λ ks. slice_get ks i) c.edges_onward.ensures) ∙ e) in
    ap (option_map (λ (e : Edge). e.from)) w.known ∙ ap Some w.source

pub returns-in-Some-clause-exact : goal.returns-in-Some-clause-exact
returns-in-Some-clause-exact c = λ s st.
    let m = c.args.self.now in
    let k = c.in-Some.number in
    first_same m s (leaving m.flow.now.edges (top_point m.frames.items)) (k ∷ []) c.first.result (way_back_first m s st k c.in-Some.ensures.leads) (c.first.ensures.exact s st)
