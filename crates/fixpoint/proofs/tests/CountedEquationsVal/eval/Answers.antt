use Rattle.std.proofs.Common.{◌≡◌, ◌<◌, ℕ, List, Global, Vec, length, map, sym, ap, ◌∙◌, subst}
use Rattle.std.specs.List.{Contains}
use Rattle.std.proofs.lemmas.List.{map-id, length-map}
use Rattle.interval.specs.declared.val.Val.{Val}
use Rattle.fixpoint.specs.Reversal.{list_at}
use Rattle.fixpoint.specs.Worked.{Rule, value_of, rule_at}
use Rattle.fixpoint.proofs.Reversing.{list_read}
use Rattle.fixpoint.proofs.Worked.{rule_read}
use Rattle.fixpoint.proofs.tests.CountedEquationsVal.eval.Goals as goal

pub value-requires : goal.value-requires
value-requires g c = λ r at.
    let items = λ (v : Vec ℕ Global). v.items in
    let rules = c.args.self.now.equations.now in
    let vecs = c.args.self.now.reads.now in
    let inside : c.args.node < length vecs = subst (λ (n : ℕ). c.args.node < n) (sym c.args.self.now.as_many) c.requires.node in
    let read = list_read vecs c.args.node c.index-self-node-2.result c.deref.result.now inside c.index-self-node-2.is
    (c.deref.ensures.value ∙ ap items (sym c.index-self-node-2.is)) in
    let is_read : Contains (list_at (map items vecs) c.args.node) r = subst (λ (nodes : List ℕ). Contains nodes r) read at in
    let size : length c.args.table.now ≡ length rules = sym (length-map c.args.table.now (λ (v : Val). v)) ∙ c.requires.table.size in
    subst (λ (n : ℕ). r < n) (sym size) (c.args.self.now.in_range c.args.node r (subst (λ (n : ℕ). c.args.node < n) (sym (length-map vecs items)) inside) is_read)

pub returns-clause-value : goal.returns-clause-value
returns-clause-value g c =
    let items = λ (v : Vec ℕ Global). v.items in
    let rules = c.args.self.now.equations.now in
    let vecs = c.args.self.now.reads.now in
    let inside : c.args.node < length vecs = subst (λ (n : ℕ). c.args.node < n) (sym c.args.self.now.as_many) c.requires.node in
    let read = list_read vecs c.args.node c.index-self-node-2.result c.deref.result.now inside c.index-self-node-2.is
    (c.deref.ensures.value ∙ ap items (sym c.index-self-node-2.is)) in
    let rule = rule_read rules c.args.node c.index-self-node.result c.requires.node c.index-self-node.is in
    c.value.ensures ∙ ap (λ (r : Rule). value_of r c.deref.result.now c.args.table.now) (sym c.index-self-node.is ∙ rule)
    ∙ ap (λ (nodes : List ℕ). value_of (rule_at rules c.args.node) nodes c.args.table.now) read
    ∙ ap (λ (table : List Val). value_of (rule_at rules c.args.node) (list_at (map items vecs) c.args.node) table) (sym (map-id c.args.table.now))
