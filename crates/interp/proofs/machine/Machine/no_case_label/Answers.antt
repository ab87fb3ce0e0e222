use Rattle.std.proofs.Common.{◌<◌, ap, ◌∙◌, sym, get_or, length}
use Rattle.std.specs.List.{slice_get}
use Rattle.std.proofs.lemmas.Option.{slice_get_within, slice_get-get_or}
use Rattle.px_base.specs.declared.kind.Kind.TheVariants as kind
use Rattle.control_points.specs.declared.fault.Fault.{Fault}
use Rattle.control_points.specs.Steps.{arm_place, selector_of}
use Rattle.interp.proofs.Edges.{leaves_at}
use Rattle.interp.specs.Machines.{top_point}
use Rattle.interp.proofs.ValuingSteps.{no_arm, selector_is}
use Rattle.interp.proofs.machine.Machine.no_case_label.Goals as goal

pub bounds-edges-edge : goal.bounds-edges-edge
bounds-edges-edge c =
    let m = c.args.self.now in
    let xs = c.edges_onward.result.now in
    let w = leaves_at m.flow.now.edges (top_point m.frames.items) 0 (get_or xs 0 0) (sym (ap (λ ys. slice_get ys 0) c.edges_onward.ensures) ∙ slice_get-get_or xs 0 0 c.in-len1-up.len_at_least) in
    rw c.edges.ensures (slice_get_within m.flow.now.edges (get_or xs 0 0) w.edge w.known)

pub returns-in-Arm : goal.returns-in-Arm
returns-in-Arm c = λ chart same.
    let m = c.args.self.now in
    let xs = c.edges_onward.result.now in
    let w = leaves_at m.flow.now.edges (top_point m.frames.items) 0 (get_or xs 0 0) (sym (ap (λ ys. slice_get ys 0) c.edges_onward.ensures) ∙ slice_get-get_or xs 0 0 c.in-len1-up.len_at_least) in
    let below : get_or xs 0 0 < length c.edges.result.now = rw c.edges.ensures (slice_get_within m.flow.now.edges (get_or xs 0 0) w.edge w.known) in
    let e = ap (selector_of chart) (sym c.edges_onward.ensures) ∙ selector_is chart c.edges.result.now xs c.index-edges-edge.result (same ∙ sym c.edges.ensures) c.in-len1-up.len_at_least below ∙ ap arm_place c.in-Arm.is in
    ap (λ n. let f : Fault = record { kind = kind.NoCaseLabel; at = n } in f) (sym e)

pub returns-in_default : goal.returns-in_default
returns-in_default c = λ chart same.
    let m = c.args.self.now in
    let xs = c.edges_onward.result.now in
    let w = leaves_at m.flow.now.edges (top_point m.frames.items) 0 (get_or xs 0 0) (sym (ap (λ ys. slice_get ys 0) c.edges_onward.ensures) ∙ slice_get-get_or xs 0 0 c.in-len1-up.len_at_least) in
    let below : get_or xs 0 0 < length c.edges.result.now = rw c.edges.ensures (slice_get_within m.flow.now.edges (get_or xs 0 0) w.edge w.known) in
    let e = ap (selector_of chart) (sym c.edges_onward.ensures) ∙ selector_is chart c.edges.result.now xs c.index-edges-edge.result (same ∙ sym c.edges.ensures) c.in-len1-up.len_at_least below ∙ no_arm _ c.in_default.not-Arm in
    ap (λ n. let f : Fault = record { kind = kind.NoCaseLabel; at = n } in f) (sym e)
