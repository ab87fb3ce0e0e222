use Rattle.std.proofs.Common.{◌≡◌, ◌+◌, ◌<◌, ℕ, length, take, sym, ap, ◌∙◌, subst, get_or, arith}
use Rattle.std.specs.List.{fold}
use Rattle.std.proofs.lemmas.List.Elements.{Contains-get_or}
use Rattle.interval.specs.declared.val.Val.{Val}
use Rattle.interval.specs.Values.{val_join}
use Rattle.fixpoint.specs.Worked.{Rule, joined}
use Rattle.fixpoint.proofs.Worked.{joined_more}
use Rattle.fixpoint.proofs.tests.Equation.value.Goals as goal

pub bounds-table-node : goal.bounds-table-node
bounds-table-node c =
    let i = c.loop-node.node-index in
    let inside : i < length c.args.reads.now = omega (arith, c.loop-node-test.true) in
    c.requires (get_or c.args.reads.now i 0) (Contains-get_or c.args.reads.now i 0 inside)

pub loop-node-preserved : goal.loop-node-preserved
loop-node-preserved c =
    let table = c.args.table.now in
    let reads = c.args.reads.now in
    let i = c.loop-node.node-index in
    let at : ℕ → Val → Rule → Type 0 = λ n all rule. all ≡ fold (joined rule table) rule.start (take n reads) in
    let rule : Rule = record { start = c.self.inside.start; part = c.self.inside.part; step = c.self.inside.step } in
    subst (at (i + 1) c.join_from.new.self) c.self.view_is
    (joined_more rule reads table i c.loop-node.all c.index-table-node.result c.join_from.new.self c.loop-node-test.true c.requires c.index-table-node.is
    (c.join_from.ensures.value ∙ ap (λ (v : Val). val_join c.loop-node.all v) c.flow.ensures)
    (subst (at i c.loop-node.all) (sym c.self.view_is) c.loop-node.invariant))
