use Rattle.std.proofs.Common.{ap, arith, sym}
use Rattle.std.proofs.lemmas.Option.{slice_get_read}
use Rattle.pas_program.specs.declared.variable.VarKind.TheVariants as kind
use Rattle.pas_program.specs.Tables.{is_kind}
use Rattle.interp.proofs.Addresses.{found_frame, link_within, linked_room}
use Rattle.interp.proofs.Valuing.{sees_linked}
use Rattle.control_points.specs.Actions.{top_depth}
use Rattle.interp.proofs.machine.Machine.address_of.Goals as goal

pub overflow_add-index : goal.overflow_add-index
overflow_add-index c =
    let m = c.args.self.now in
    let def = c.var_def-def.result in
    let f = found_frame m.frames.items c.depth_of-depth.result def.routine c.index.result.now c.depth_of-depth.ensures.found c.index.ensures in
    let l = link_within m.flow.now m.frames.items m.links.items m.framed m.linked c.depth_of-depth.result c.args.var c.offset_of.result c.index.result.now def f.known c.var_def-def.ensures.value (sym f.routine) (ap (is_kind kind.Var) c.in-Var.is) (c.offset_of.ensures def c.var_def-def.ensures.value) in
    omega (arith, l, m.links.ok.0, m.links.ok.1, m.links.small)

pub index-requires-in-Var : goal.index-requires-in-Var
index-requires-in-Var c =
    let m = c.args.self.now in
    let def = c.var_def-def.result in
    let f = found_frame m.frames.items c.depth_of-depth.result def.routine c.index.result.now c.depth_of-depth.ensures.found c.index.ensures in
    let l = link_within m.flow.now m.frames.items m.links.items m.framed m.linked c.depth_of-depth.result c.args.var c.offset_of.result c.index.result.now def f.known c.var_def-def.ensures.value (sym f.routine) (ap (is_kind kind.Var) c.in-Var.is) (c.offset_of.ensures def c.var_def-def.ensures.value) in
    omega (arith, l, m.links.ok.0)

pub returns-in-Var : goal.returns-in-Var
returns-in-Var c =
    let m = c.args.self.now in
    let def = c.var_def-def.result in
    let f = found_frame m.frames.items c.depth_of-depth.result def.routine c.index.result.now c.depth_of-depth.ensures.found c.index.ensures in
    let l = link_within m.flow.now m.frames.items m.links.items m.framed m.linked c.depth_of-depth.result c.args.var c.offset_of.result c.index.result.now def f.known c.var_def-def.ensures.value (sym f.routine) (ap (is_kind kind.Var) c.in-Var.is) (c.offset_of.ensures def c.var_def-def.ensures.value) in
    record {
      room = linked_room m.flow.now m.frames.items m.links.items m.framed m.linked c.depth_of-depth.result c.args.var c.index-in-Var.result.now c.offset_of.result c.index.result.now def f.known c.var_def-def.ensures.value (sym f.routine) (ap (is_kind kind.Var) c.in-Var.is) (c.offset_of.ensures def c.var_def-def.ensures.value)
          (slice_get_read m.links.items _ _ c.index-in-Var.result.now m.links.ok.0 (omega (arith, l, m.links.ok.0)) c.index-in-Var.ensures);
      exact = λ s h. sees_linked m.flow.now.program m.frames.items m.links.items s.stack h.stack (top_depth s.stack) c.depth_of-depth.result c.args.var c.index-in-Var.result.now c.offset_of.result c.index.result.now def f.known c.var_def-def.ensures.value (sym f.routine) c.in-Var.is (c.offset_of.ensures def c.var_def-def.ensures.value)
          (slice_get_read m.links.items _ _ c.index-in-Var.result.now m.links.ok.0 (omega (arith, l, m.links.ok.0)) c.index-in-Var.ensures) (c.depth_of-depth.ensures.around s h);
    }
