use Rattle.std.proofs.Common.{length, ap, arith, ◌∙◌, subst}
use Rattle.interp.specs.declared.frame.Extent.{Extent}
use Rattle.interp.specs.Calls.{IsArgument}
use Rattle.interp.proofs.Casts.{number_cast}
use Rattle.interp.proofs.Giving.{giving, give_number, give_array, give_variable, scalars_set, scalars_copied, links_set}
use Rattle.interp.proofs.Numbers.{length_copy}
use Rattle.interp.proofs.machine.Machine.give.Goals as goal

pub overflow_add-to : goal.overflow_add-to
overflow_add-to c =
    let m = c.args.self.now in
    let g = giving m.flow.now.program m.frames.items c.args.formal c.args.base c.offset_of-offset.result m.links.items m.scalars.items c.requires.in_range c.requires.base c.requires.room c.offset_of-offset.ensures in
    omega (arith, g.low, m.scalars.ok.0, m.scalars.ok.1, m.scalars.small)

pub change-requires : goal.change-requires
change-requires c =
    let m = c.args.self.now in
    let g = giving m.flow.now.program m.frames.items c.args.formal c.args.base c.offset_of-offset.result m.links.items m.scalars.items c.requires.in_range c.requires.base c.requires.room c.offset_of-offset.ensures in
    give_number m.flow.now.program m.frames.items c.args.formal c.args.base c.offset_of-offset.result m.links.items m.scalars.items g c.in-Number.z (subst (IsArgument m.flow.now.program m.frames.items c.args.formal) c.in-Number.is c.requires.argument)

pub change-requires-in-Array : goal.change-requires-in-Array
change-requires-in-Array c =
    let m = c.args.self.now in
    let g = giving m.flow.now.program m.frames.items c.args.formal c.args.base c.offset_of-offset.result m.links.items m.scalars.items c.requires.in_range c.requires.base c.requires.room c.offset_of-offset.ensures in
    give_array m.flow.now.program m.frames.items c.args.formal c.args.base c.offset_of-offset.result m.links.items m.scalars.items g c.in-Array.from c.in-Array.count (subst (IsArgument m.flow.now.program m.frames.items c.args.formal) c.in-Array.is c.requires.argument) m.stored.room

pub overflow_add-base : goal.overflow_add-base
overflow_add-base c =
    let m = c.args.self.now in
    let g = giving m.flow.now.program m.frames.items c.args.formal c.args.base c.offset_of-offset.result m.links.items m.scalars.items c.requires.in_range c.requires.base c.requires.room c.offset_of-offset.ensures in
    omega (arith, g.low_links, m.links.ok.0, m.links.ok.1, m.links.small)

pub index_mut-requires : goal.index_mut-requires
index_mut-requires c =
    let m = c.args.self.now in
    let g = giving m.flow.now.program m.frames.items c.args.formal c.args.base c.offset_of-offset.result m.links.items m.scalars.items c.requires.in_range c.requires.base c.requires.room c.offset_of-offset.ensures in
    let l = give_variable m.flow.now.program m.frames.items c.args.formal c.args.base c.offset_of-offset.result m.links.items m.scalars.items g c.in-Variable.address (subst (IsArgument m.flow.now.program m.frames.items c.args.formal) c.in-Variable.is c.requires.argument) in
    omega (arith, l, m.links.ok.0)

pub invariant_of-self-in-Variable : goal.invariant_of-self-in-Variable
invariant_of-self-in-Variable c =
    let m = c.args.self.now in
    record {
      laid_out = m.laid_out;
      input = m.input;
      framed = m.framed;
      linked = links_set m.flow.now m.frames.items m.links.items _ c.in-Variable.address m.framed m.linked (omega (arith, ap (λ (x : Extent). x.links) c.requires.base));
      stored = m.stored;
    }

pub invariant_of-self : goal.invariant_of-self
invariant_of-self c =
    let m = c.args.self.now in
    let g = giving m.flow.now.program m.frames.items c.args.formal c.args.base c.offset_of-offset.result m.links.items m.scalars.items c.requires.in_range c.requires.base c.requires.room c.offset_of-offset.ensures in
    let a = subst (IsArgument m.flow.now.program m.frames.items c.args.formal) c.in-Number.is c.requires.argument in
    record {
      laid_out = m.laid_out;
      input = m.input;
      framed = m.framed;
      linked = m.linked;
      stored = scalars_set m.flow.now.program m.frames.items m.scalars.items _ _ _ m.stored (number_cast c.in-Number.z (a g.var g.known).2) c.change.ensures;
    }

pub invariant_of-self-in-Array : goal.invariant_of-self-in-Array
invariant_of-self-in-Array c =
    let m = c.args.self.now in
    let g = giving m.flow.now.program m.frames.items c.args.formal c.args.base c.offset_of-offset.result m.links.items m.scalars.items c.requires.in_range c.requires.base c.requires.room c.offset_of-offset.ensures in
    let b = give_array m.flow.now.program m.frames.items c.args.formal c.args.base c.offset_of-offset.result m.links.items m.scalars.items g c.in-Array.from c.in-Array.count (subst (IsArgument m.flow.now.program m.frames.items c.args.formal) c.in-Array.is c.requires.argument) m.stored.room in
    record {
      laid_out = m.laid_out;
      input = m.input;
      framed = m.framed;
      linked = m.linked;
      stored = scalars_copied m.flow.now.program m.frames.items m.scalars.items _ _ c.in-Array.from c.in-Array.count m.stored b.0 b.1 c.change-in-Array.ensures;
    }

pub returns-in-Array-clause-scalars : goal.returns-in-Array-clause-scalars
returns-in-Array-clause-scalars c =
    let m = c.args.self.now in
    let g = giving m.flow.now.program m.frames.items c.args.formal c.args.base c.offset_of-offset.result m.links.items m.scalars.items c.requires.in_range c.requires.base c.requires.room c.offset_of-offset.ensures in
    let b = give_array m.flow.now.program m.frames.items c.args.formal c.args.base c.offset_of-offset.result m.links.items m.scalars.items g c.in-Array.from c.in-Array.count (subst (IsArgument m.flow.now.program m.frames.items c.args.formal) c.in-Array.is c.requires.argument) m.stored.room in
    ap length c.change-in-Array.ensures ∙ length_copy m.scalars.items _ c.in-Array.from c.in-Array.count b.0 b.1
