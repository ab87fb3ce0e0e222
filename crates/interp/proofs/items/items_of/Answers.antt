use Rattle.std.proofs.Common.{sym, ◌∙◌, subst}
use Rattle.control_points.specs.Runs.{IsInput, IsInputItem}
use Rattle.control_points.specs.declared.item.Item.TheVariants.{LineEnd}
use Rattle.interp.proofs.InputLemmas.{told_feed, told_word, input_push, word_is_input}
use Rattle.interp.proofs.items.items_of.Goals as goal

pub loop-first-preserved-in_ok-push : goal.loop-first-preserved-in_ok-push
loop-first-preserved-in_ok-push c = record {
  told = told_feed c.loop-first.items.items c.push.new.self.items c.loop-first.rest.now c.in-Some.others.now c.args.bytes.now c.in-Some.first.now c.in-Some.ensures.cases.0 c.if-first-eq10.true c.in_ok-push.ensures.items c.loop-first.invariant.told;
  numbers = subst IsInput (sym c.in_ok-push.ensures.items) (input_push c.loop-first.items.items LineEnd c.loop-first.invariant.numbers tt);
}

pub loop-first-preserved : goal.loop-first-preserved
loop-first-preserved c = record {
  told = told_word c.loop-first.items.items c.push-else-is_between.new.self.items c.loop-first.rest.now c.in-Some.others.now c.args.bytes.now c.split_at.result.0.now c.split_at.result.1.now c.in-Some.first.now c.word_end.result c.item_of.result
      c.in-Some.ensures.cases.0 (sym c.is_between.ensures ∙ c.if-is_between.false) c.word_end.ensures.value c.split_at.ensures.front c.split_at.ensures.back c.item_of.ensures c.in_ok-push-2.ensures.items c.loop-first.invariant.told;
  numbers = subst IsInput (sym c.in_ok-push-2.ensures.items) (input_push c.loop-first.items.items c.item_of.result c.loop-first.invariant.numbers (subst IsInputItem (sym c.item_of.ensures) (word_is_input c.split_at.result.0.now)));
}
