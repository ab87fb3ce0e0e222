use Rattle.std.proofs.Common.{List, [], length, ap, subst, ◌∙◌, arith}
use Rattle.activations.specs.declared.node.Node.{Node}
use Rattle.activations.specs.Listed.{AreListed}
use Rattle.activations.proofs.ListedArcs.{incoming_long, outgoing_long}
use Rattle.activations.proofs.SitesFew.{few_sites}
use Rattle.activations.proofs.drawing.Drawing.over.Goals as goal

pub returns-clause-set : goal.returns-clause-set
returns-clause-set c =
    let few = few_sites c.args.flow.now (c.a_call_leaves_its_point_alone.ensures c.args.flow.now) c.args.found.now.classes.classes in
    record {
      outline = c.requires.found.outline;
      whole = c.requires.found.whole;
      nodes = c.requires.nodes;
      calls = c.deref.ensures.value ∙ c.requires.found.calls;
      few = omega (arith, few, c.requires.nodes.numbered.few, ap (λ (xs : List Node). length xs) c.requires.nodes.listed);
      valid = c.requires.found.valid;
      incoming = incoming_long (length c.args.nodes.now.list.items) [] c.in_ok-arcs.arcs (subst (λ n. AreListed n [] c.in_ok-arcs.arcs) (c.len.ensures ∙ c.args.nodes.now.list.ok.0) c.in_ok-arcs.ensures);
      outgoing = outgoing_long (length c.args.nodes.now.list.items) [] c.in_ok-arcs.arcs (subst (λ n. AreListed n [] c.in_ok-arcs.arcs) (c.len.ensures ∙ c.args.nodes.now.list.ok.0) c.in_ok-arcs.ensures);
    }
