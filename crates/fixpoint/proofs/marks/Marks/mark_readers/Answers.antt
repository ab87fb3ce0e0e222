use Rattle.std.proofs.Common.{refl, ◌∙◌, arith}
use Rattle.std.proofs.lemmas.List.{length-set, take_all}
use Rattle.fixpoint.proofs.Marking.{none_added, one_added}
use Rattle.fixpoint.proofs.Reversing.{list_read}
use Rattle.fixpoint.proofs.marks.Marks.mark_readers.Goals as goal

pub loop-reader-init : goal.loop-reader-init
loop-reader-init c = record { added = none_added c.args.self.now.stale.now; size = refl; name = refl; read_by = refl }

pub bounds-self-reader : goal.bounds-self-reader
bounds-self-reader c =
    let readers = list_read c.args.self.now.read_by.now c.args.node c.index-read_by-node.result c.deref-reader-items.result.now c.requires.node
    c.index-read_by-node.is c.deref-reader-items.ensures.value in
    let below = rw (← readers) at c.requires.readers in
    let here = below c.loop-reader.reader-index 0 c.loop-reader-test.true in
    omega (arith, here, c.loop-reader.invariant.size)

pub loop-reader-preserved : goal.loop-reader-preserved
loop-reader-preserved c = record {
  added = one_added c.deref-reader-items.result.now c.loop-reader.reader-index c.args.self.now.stale.now c.loop-reader.self.stale.now
      c.loop-reader-test.true c.loop-reader.invariant.added;
  size = length-set c.loop-reader.self.stale.now _ _ ∙ c.loop-reader.invariant.size;
  name = c.loop-reader.invariant.name;
  read_by = c.loop-reader.invariant.read_by;
}

pub returns-clause-added : goal.returns-clause-added
returns-clause-added c =
    let nodes = c.deref-reader-items.result.now in
    let readers = list_read c.args.self.now.read_by.now c.args.node c.index-read_by-node.result nodes c.requires.node
    c.index-read_by-node.is c.deref-reader-items.ensures.value in
    let all = take_all c.loop-reader.reader-index nodes c.loop-reader-test.false in
    rw (all, readers) at c.loop-reader.invariant.added
