use Rattle.std.proofs.Common.{◌≡◌, ap, ◌∙◌, sym, suc, length, arith, add-one, Some}
use Rattle.std.specs.List.{slice_get}
use Rattle.std.specs.Option.{option_and_then, option_map, unwrap_or}
use Rattle.std.proofs.lemmas.Option.{slice_get_within, slice_get-get_or}
use Rattle.control_points.specs.declared.edge.Edge.{Edge}
use Rattle.interp.specs.declared.frame.Frame.{Frame}
use Rattle.interp.specs.Machines.{top_point}
use Rattle.interp.proofs.Lists.{same_some}
use Rattle.interp.proofs.Storage.{map_found}
use Rattle.interp.proofs.WayBack.{returns_here}
use Rattle.interp.proofs.machine.Machine.way_back.Goals as goal

pub returns-then-edge-top-clause-leads : goal.returns-then-edge-top-clause-leads
returns-then-edge-top-clause-leads c =
    let l = c.in_ok-edge.ensures.lookup in
    let number = c.in_ok-number.number in
    let known = slice_get-get_or c.edges.result.now number c.in_ok-edge.edge.now l.3.0 ∙ ap Some (sym l.1) in
    let point = ap (λ o. unwrap_or (option_map (λ (g : Frame). g.point) o) 0) c.top-top.ensures in
    record {
      call = c.in_ok-top.field-0;
      made = ap (option_and_then (λ (g : Frame). g.call)) c.top-top.ensures ∙ c.in_ok-top.was;
      after = c.in_ok-number.ensures.1 ∙ add-one c.in_ok-top.field-0;
      leaves = ap (λ es. option_map (λ (e : Edge). e.from) (slice_get es number)) (sym c.edges.ensures) ∙ ap (option_map (λ (e : Edge). e.from)) known ∙ ap Some (c.if-edge-top.true ∙ sym point);
    }

pub returns-in_err-edge-clause-found : goal.returns-in_err-edge-clause-found
returns-in_err-edge-clause-found c = λ call made few exit.
    let m = c.args.self.now in
    let top = ap (option_and_then (λ (g : Frame). g.call)) c.top-top.ensures ∙ c.in_ok-top.was in
    let same : c.in_ok-top.field-0 ≡ call = same_some c.in_ok-top.field-0 call (sym top ∙ made) in
    let f = map_found (λ (e : Edge). e.from) (slice_get m.flow.now.edges (suc call)) (top_point m.frames.items) (returns_here m.flow.now m.frames.items m.framed call made exit) in
    let within = slice_get_within m.flow.now.edges (suc call) f.0 f.1 in
    let beyond = c.in_err-edge.ensures.lookup.3 in
    let all = ap length c.edges.ensures in
    let number = c.in_ok-number.ensures.1 in
    absurd (omega arith)

pub returns-else-edge-top-clause-found : goal.returns-else-edge-top-clause-found
returns-else-edge-top-clause-found c = λ call made few exit.
    let m = c.args.self.now in
    let l = c.in_ok-edge.ensures.lookup in
    let number = c.in_ok-number.number in
    let top = ap (option_and_then (λ (g : Frame). g.call)) c.top-top.ensures ∙ c.in_ok-top.was in
    let same = same_some c.in_ok-top.field-0 call (sym top ∙ made) in
    let f = map_found (λ (e : Edge). e.from) (slice_get m.flow.now.edges (suc call)) (top_point m.frames.items) (returns_here m.flow.now m.frames.items m.framed call made exit) in
    let after = c.in_ok-number.ensures.1 ∙ add-one c.in_ok-top.field-0 ∙ ap suc same in
    let known = slice_get-get_or c.edges.result.now number c.in_ok-edge.edge.now l.3.0 ∙ ap Some (sym l.1) in
    let edge = same_some c.in_ok-edge.edge.now f.0 (sym known ∙ ap (λ es. slice_get es number) c.edges.ensures ∙ ap (slice_get m.flow.now.edges) after ∙ f.1) in
    let point = ap (λ o. unwrap_or (option_map (λ (g : Frame). g.point) o) 0) c.top-top.ensures in
    absurd (c.if-edge-top.false (ap (λ (e : Edge). e.from) edge ∙ f.2 ∙ point))
