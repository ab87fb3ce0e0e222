use Rattle.activations.specs.declared.arc.Arc.{Arc}
use Rattle.activations.specs.Arcs.{left_by}
use Rattle.activations.proofs.ListedArcs.{vec_more}
use Rattle.activations.proofs.arcs.Arcs.add.Goals as goal

pub returns-clause-listed : goal.returns-clause-listed
returns-clause-listed c = λ nodes arcs listed. record {
  incoming = vec_more (λ (a : Arc). a.to) arcs c.args.arc nodes c.args.self.now.incoming.items c.index_mut.result.now c.push.new.self listed.incoming c.requires.to c.index_mut.ensures.value (c.in_ok-push.ensures.items);
  outgoing = rw c.node_left.ensures (vec_more left_by arcs c.args.arc nodes c.args.self.now.outgoing.items c.index_mut-2.result.now c.push-2.new.self listed.outgoing c.requires.leaves (rw (← c.node_left.ensures) c.index_mut-2.ensures.value) (c.in_ok-push-2.ensures.items));
}
