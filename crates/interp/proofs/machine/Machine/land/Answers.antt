use Rattle.std.proofs.Common.{List, suc, ◌++◌, ◌∷◌, [], ap, sym, ◌∙◌, subst, take, set, length}
use Rattle.control_points.specs.Actions.{Onward, at_depth}
use Rattle.control_points.specs.Steps.{change_all, kept_height, onward_stack}
use Rattle.control_points.specs.Storage.{keep_below}
use Rattle.interp.specs.declared.frame.Frame.{Frame}
use Rattle.interp.specs.Meant.{bytes_of}
use Rattle.interp.specs.Standing.{StackIs, StoreIs}
use Rattle.interp.specs.Machines.{AreFrames, AreLinks, AreScalars}
use Rattle.interp.proofs.Landed.{moved_to, landed_frames, landed_links, landed_scalars}
use Rattle.interp.proofs.Landing.{landed_items, landed_stack}
use Rattle.interp.proofs.LandingEffects.{store_landed}
use Rattle.interp.proofs.Lists.{some_at}
use Rattle.interp.proofs.Numbers.{numbers_changed, length_changed, AreNumbers}
use Rattle.interp.proofs.machine.Machine.land.Goals as goal

pub invariant_of-self-2 : goal.invariant_of-self-2
invariant_of-self-2 c =
    let m = c.args.self.now in
    let f = m.flow.now in
    let fs = m.frames.items in
    let n = c.args.effect.depth in
    let w = some_at fs n c.requires.effect.depth in
    let g = w.0 in
    let is = landed_items fs c.truncate.new.self.items n c.args.point g c.index_mut.result.now w.1 c.truncate.ensures.items c.index_mut.ensures.value in
    record {
      laid_out = m.laid_out;
      input = c.requires.effect.items;
      framed = subst (AreFrames f) (sym is) (landed_frames f fs m.framed n c.args.point g w.1 c.requires.point);
      linked = subst (λ xs. AreLinks f.program xs m.links.items) (sym is) (landed_links f fs m.framed n c.args.point g w.1 m.links.items m.linked);
      stored = subst (λ xs. AreScalars f.program xs c.change.new.scalars.items) (sym is)
          (landed_scalars f fs m.framed n c.args.point g w.1 m.scalars.items c.change.new.scalars.items m.stored
          (ap length c.change.ensures ∙ length_changed f.program fs m.scalars.items c.args.effect.change m.stored.room c.requires.effect.change)
          (subst AreNumbers (sym c.change.ensures) (numbers_changed f.program fs m.scalars.items c.args.effect.change c.requires.effect.change m.stored.numbers)));
    }

pub returns-clause-landed : goal.returns-clause-landed
returns-clause-landed c = λ s stands defined is.
    let m = c.args.self.now in
    let f = m.flow.now in
    let fs = m.frames.items in
    let n = c.args.effect.depth in
    let w = some_at fs n c.requires.effect.depth in
    let g = w.0 in
    let items = landed_items fs c.truncate.new.self.items n c.args.point g c.index_mut.result.now w.1 c.truncate.ensures.items c.index_mut.ensures.value in
    record {
      stack = subst (λ (o : Onward). StackIs f.program (set c.truncate.new.self.items n (moved_to c.index_mut.result.now c.args.point)) m.links.items (onward_stack s.stack c.args.point o)) (sym is.onward)
          (subst (λ (xs : List Frame). StackIs f.program xs m.links.items (onward_stack s.stack c.args.point (at_depth n))) (sym items) (landed_stack fs n c.args.point g w.1 f.program m.links.items s.stack stands.stack));
      store = subst (λ (o : Onward). StoreIs f.program (set c.truncate.new.self.items n (moved_to c.index_mut.result.now c.args.point)) c.change.new.scalars.items (change_all defined.changes (keep_below (kept_height s.stack o) s.store))) (sym is.onward)
          (subst (λ (xs : List Frame). StoreIs f.program xs c.change.new.scalars.items (change_all defined.changes (keep_below (suc n) s.store))) (sym items)
          (subst (λ ys. StoreIs f.program (take n fs ++ moved_to g c.args.point ∷ []) ys (change_all defined.changes (keep_below (suc n) s.store))) (sym c.change.ensures)
          (store_landed f fs m.framed n c.args.point g w.1 c.requires.point m.scalars.items s.store m.stored defined.changes c.args.effect.change is.change stands.store)));
      items = is.items;
      output = is.output ∙ ap (λ xs. xs ++ bytes_of c.args.effect.output) stands.output ∙ sym c.in_ok-write_any.ensures.written;
    }
