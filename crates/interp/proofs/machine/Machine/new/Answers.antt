use Rattle.std.proofs.Common.{◌≡◌, ℕ, suc, ◌-◌, ◌∷◌, ◌++◌, [], ap, arith, ◌∙◌, sym, subst, length, refl}
use Rattle.std.proofs.lemmas.List.{length-replicate}
use Rattle.std.proofs.lemmas.Option.{slice_get_within, get_or_from_slice_get}
use Rattle.pas_program.specs.declared.program.Program.{Program}
use Rattle.control_points.specs.Fits.{routine_at}
use Rattle.interp.specs.declared.frame.Extent.{Extent}
use Rattle.interp.specs.Layouts.{IsLayout, extent_of}
use Rattle.interp.specs.Machines.{AreFrames, AreLinks, AreScalars}
use Rattle.interp.proofs.Lists.{some_at}
use Rattle.interp.proofs.Starting.{first_frame, first_frames, first_links, first_scalars, input_items}
use Rattle.control_points.specs.Chart.{entry_of}
use Rattle.interp.specs.Standing.{StackIs}
use Rattle.interp.proofs.ValuingSteps.{all_none, first_activation, first_stack, first_store}
use Rattle.interp.proofs.machine.Machine.new.Goals as goal

pub index-extent-requires : goal.index-extent-requires
index-extent-requires c =
    let p = c.args.flow.now.program in
    let same = ap (λ (p : Program). length p.routines) c.program.ensures in
    let same2 = ap (λ (p : Program). length p.routines) c.program-2.ensures in
    let e = c.len-routine.ensures in
    let below = slice_get_within c.in_ok-layout.layout.extents.items (c.len-routine.result - 1) _ (c.in_ok-layout.ensures.extents (c.len-routine.result - 1) (omega (arith, e, same, same2, p.in_scope.last))) in
    omega (arith, below, c.in_ok-layout.layout.extents.ok.0)

pub invariant_of-result : goal.invariant_of-result
invariant_of-result c =
    let f = c.args.flow.now in
    let p = f.program in
    let r = c.len-routine.result - 1 in
    let laid = subst (λ p. IsLayout p c.in_ok-layout.layout) c.program.ensures c.in_ok-layout.ensures in
    let same2 = ap (λ (p : Program). length p.routines) c.program-2.ensures in
    let w = some_at p.routines r (omega (arith, c.len-routine.ensures, same2, p.in_scope.last)) in
    let n = slice_get_within p.routines r w.0 w.1 in
    let last : suc r ≡ length p.routines = omega (arith, c.len-routine.ensures, same2, p.in_scope.last) in
    let extent : c.index-extent.result.now ≡ extent_of p r = c.index-extent.ensures ∙ get_or_from_slice_get c.in_ok-layout.layout.extents.items r (extent_of p r) c.index-extent.result.now (laid.extents r n) in
    let frames : c.push.new.self.items ≡ first_frame r c.entry_of.result ∷ [] = c.in_ok-push.ensures.items ∙ ap (λ xs. xs ++ first_frame r c.entry_of.result ∷ []) c.new-frames.ensures.items in
    let links = c.in_ok-links.ensures.items_if_clones_equal (λ y h. h) in
    let long : length c.in_ok-links.links.items ≡ c.index-extent.result.now.links = ap length links ∙ length-replicate {A = ℕ} c.index-extent.result.now.links 0 in
    record {
      laid_out = laid;
      input = input_items c.args.items.now c.requires.input;
      framed = subst (AreFrames f) (sym frames) (first_frames f r c.entry_of.result w.0 last w.1 (ap (routine_at f.points) c.entry_of.ensures ∙ f.entries_fit.entry r n));
      linked = subst (λ xs. AreLinks p xs c.in_ok-links.links.items) (sym frames)
          (first_links f r c.entry_of.result w.0 last w.1 c.in_ok-links.links.items (omega (arith, long, ap (λ (x : Extent). x.links) extent)));
      stored = subst (λ xs. AreScalars p xs c.resize.new.self.items) (sym frames)
          (first_scalars p r c.entry_of.result c.new-scalars.result.items c.resize.new.self.items c.index-extent.result.now.scalars _ c.new-scalars.ensures.items c.new-scalars.ensures.len c.in_ok-resize.ensures.items (let x = ap (λ (x : Extent). x.scalars) extent in omega arith));
    }

pub returns-clause-started : goal.returns-clause-started
returns-clause-started c =
    let f = c.args.flow.now in
    let p = f.program in
    let r = c.len-routine.result - 1 in
    let same2 = ap (λ (p : Program). length p.routines) c.program-2.ensures in
    let w = some_at p.routines r (omega (arith, c.len-routine.ensures, same2, p.in_scope.last)) in
    let last : suc r ≡ length p.routines = omega (arith, c.len-routine.ensures, same2, p.in_scope.last) in
    let main : r ≡ length p.routines - 1 = omega (arith, c.len-routine.ensures, same2, p.in_scope.last) in
    let frames : c.push.new.self.items ≡ first_frame r c.entry_of.result ∷ [] = c.in_ok-push.ensures.items ∙ ap (λ xs. xs ++ first_frame r c.entry_of.result ∷ []) c.new-frames.ensures.items in
    let first = ap (λ k. first_activation k c.entry_of.result) main ∙ ap (first_activation (length p.routines - 1)) (c.entry_of.ensures ∙ ap (entry_of f.points) main) in
    record {
      stack = subst (λ xs. StackIs p xs c.in_ok-links.links.items (first_activation (length p.routines - 1) (entry_of f.points (length p.routines - 1)) ∷ [])) (sym frames)
          (subst (λ a. StackIs p (first_frame r c.entry_of.result ∷ []) c.in_ok-links.links.items (a ∷ [])) first (first_stack p r c.entry_of.result w.0 last w.1 c.in_ok-links.links.items));
      store = first_store p c.push.new.self.items c.resize.new.self.items c.index-extent.result.now.scalars
          (all_none c.new-scalars.result.items c.resize.new.self.items c.index-extent.result.now.scalars _ c.new-scalars.ensures.items c.new-scalars.ensures.len c.in_ok-resize.ensures.items);
      items = refl;
      output = sym c.new-2.ensures.items;
    }
