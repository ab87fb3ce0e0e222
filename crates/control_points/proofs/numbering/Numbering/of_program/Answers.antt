use Rattle.std.proofs.Common.{◌≡◌, ◌+◌, ◌<◌, length, length-append, ap, ◌∙◌, sym, Some, arith}
use Rattle.std.proofs.lemmas.Option.{slice_get-get_or}
use Rattle.control_points.specs.Marks.{routine_marks}
use Rattle.control_points.proofs.Blocks.{marks_many}
use Rattle.control_points.proofs.Numbered.{marks_step, sizes_step, starts_step}
use Rattle.control_points.proofs.numbering.Numbering.of_program.Goals as goal

pub loop-r-preserved : goal.loop-r-preserved
loop-r-preserved c =
    let p = c.args.program.now in
    let d = c.routine-item.result in
    let k = c.loop-r.r in
    let within : k < length p.routines = omega (arith, ap length c.as_slice-routine-items.ensures) in
    let is = rw c.as_slice-routine-items.ensures at c.routine-item.is in
    let found = slice_get-get_or p.routines k d within ∙ ap Some (sym is) in
    let grown : length c.routine.new.self.marks ≡ length c.loop-r.numbering.marks + length (routine_marks k d) =
    ap length c.in_ok-routine.ensures.marks ∙ length-append c.start.new.self.marks (routine_marks k d) ∙ ap (λ xs. length xs + length (routine_marks k d)) c.in_ok-start.ensures.marks in
    record {
      marks = marks_step p.routines k d within is _ _ _ _ c.in_ok-start.ensures.marks c.in_ok-routine.ensures.marks c.loop-r.invariant.marks;
      sizes = sizes_step p.routines k d within is _ _ _ _ c.in_ok-start.ensures.sizes c.in_ok-routine.ensures.sizes c.loop-r.invariant.sizes;
      entries = starts_step p.routines k d within is _ _ _ _ _ grown (c.in_ok-routine.ensures.entries ∙ c.in_ok-start.ensures.entries) c.loop-r.invariant.entries;
      grown = omega (arith, grown, marks_many k d (p.in_scope.outermost k d found), c.loop-r.invariant.grown);
    }
