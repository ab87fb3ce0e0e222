use Rattle.std.proofs.Common.{refl, ◌+◌, ap, arith, ◌∙◌, subst, length}
use Rattle.std.proofs.Common.{length-take}
use Rattle.interp.specs.declared.frame.Extent.{Extent}
use Rattle.interp.specs.Machines.{AreLinks, end_of}
use Rattle.interp.proofs.LandingCalls.{always_ok, AreSameTo, cut_same, fresh_behind, resized_to, same_twice, stack_behind, store_behind}
use Rattle.interp.proofs.Lists.{one_of}
use Rattle.interp.proofs.Numbers.{scalars_cut, scalars_more, links_more}
use Rattle.interp.proofs.Storage.{extent_few}
use Rattle.interp.proofs.machine.Machine.make_room.Goals as goal

pub overflow_add-base : goal.overflow_add-base
overflow_add-base c =
    let m = c.args.self.now in
    let b = ap (λ (x : Extent). x.scalars) c.requires.base in
    let e = ap (λ (x : Extent). x.scalars) c.extent_of-extent.ensures in
    omega (arith, b, e, m.stored.room, m.scalars.ok.0, m.scalars.ok.1, m.scalars.small, (extent_few m.flow.now.program c.args.routine).scalars)

pub overflow_add-base-2 : goal.overflow_add-base-2
overflow_add-base-2 c =
    let m = c.args.self.now in
    let b = ap (λ (x : Extent). x.links) c.requires.base in
    let e = ap (λ (x : Extent). x.links) c.extent_of-extent.ensures in
    omega (arith, b, e, m.linked.room, m.links.ok.0, m.links.ok.1, m.links.small, (extent_few m.flow.now.program c.args.routine).links)

pub invariant_of-self : goal.invariant_of-self
invariant_of-self c =
    let m = c.args.self.now in
    record {
      laid_out = m.laid_out;
      input = m.input;
      framed = m.framed;
      linked = m.linked;
      stored = scalars_cut m.flow.now.program m.frames.items m.scalars.items _ c.args.base.scalars m.stored (ap (λ (x : Extent). x.scalars) c.requires.base) (c.in_err-resize.ensures.items ∙ c.truncate.ensures.items);
    }

pub invariant_of-self-2 : goal.invariant_of-self-2
invariant_of-self-2 c =
    let m = c.args.self.now in
    let b = ap (λ (x : Extent). x.scalars) c.requires.base in
    let l = ap (λ (x : Extent). x.links) c.requires.base in
    record {
      laid_out = m.laid_out;
      input = m.input;
      framed = m.framed;
      linked = one_of (AreLinks m.flow.now.program m.frames.items) _ _ _ _ c.resize-2.ensures.items (links_more m.flow.now m.frames.items m.links.items _ (c.args.base.links + c.extent_of-extent.result.links) _ m.framed m.linked (omega (arith, l)) refl) m.linked;
      stored = scalars_more m.flow.now.program m.frames.items _ _ _ _ (scalars_cut m.flow.now.program m.frames.items m.scalars.items _ c.args.base.scalars m.stored b c.truncate.ensures.items) (omega (arith, b)) c.in_ok-resize.ensures.items;
    }

pub returns-in_err-resize-clause-state : goal.returns-in_err-resize-clause-state
returns-in_err-resize-clause-state c = λ s t.
    let m = c.args.self.now in
    let b = ap (λ (x : Extent). x.scalars) c.requires.base in
    record {
      stack = t.stack;
      store = store_behind m.flow.now m.frames.items m.framed m.scalars.items _ s.store
          (subst (λ n. AreSameTo n m.scalars.items c.resize.new.self.items) b (cut_same c.args.base.scalars m.scalars.items _ (c.in_err-resize.ensures.items ∙ c.truncate.ensures.items))) t.store;
      items = t.items;
      output = t.output;
    }

pub returns-clause-state : goal.returns-clause-state
returns-clause-state c = λ s t.
    let m = c.args.self.now in
    let fs = m.frames.items in
    let b = ap (λ (x : Extent). x.scalars) c.requires.base in
    let l = ap (λ (x : Extent). x.links) c.requires.base in
    let r = m.stored.room in
    let k = m.linked.room in
    let cut = ap length c.truncate.ensures.items in
    let long = length-take c.args.base.scalars m.scalars.items in
    record {
      stack = stack_behind m.flow.now fs m.framed m.links.items _ s.stack
          (one_of (AreSameTo (end_of m.flow.now.program fs).links m.links.items) _ _ _ _ c.resize-2.ensures.items
          (resized_to (end_of m.flow.now.program fs).links (c.args.base.links + c.extent_of-extent.result.links) _ m.links.items _ 0 k (omega (arith, l)) refl) (λ i h. refl)) t.stack;
      store = store_behind m.flow.now fs m.framed m.scalars.items _ s.store
          (subst (λ n. AreSameTo n m.scalars.items c.resize.new.self.items) b
          (same_twice c.args.base.scalars m.scalars.items c.truncate.new.self.items _ (cut_same c.args.base.scalars m.scalars.items _ c.truncate.ensures.items)
          (resized_to c.args.base.scalars (c.args.base.scalars + c.extent_of-extent.result.scalars) _ c.truncate.new.self.items _ _ (omega arith) (omega arith) c.in_ok-resize.ensures.items))) t.store;
      items = t.items;
      output = t.output;
    }

pub returns-clause-fresh : goal.returns-clause-fresh
returns-clause-fresh c =
    always_ok c.resize-2.result _ (fresh_behind c.args.base.scalars (c.args.base.scalars + c.extent_of-extent.result.scalars) _ c.args.self.now.scalars.items c.truncate.new.self.items c.resize.new.self.items c.truncate.ensures.items c.in_ok-resize.ensures.items)
