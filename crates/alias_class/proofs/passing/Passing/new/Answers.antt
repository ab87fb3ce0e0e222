use Rattle.std.proofs.Common.{false, refl, arith}
use Rattle.alias_class.proofs.Beginning.{none_long}
use Rattle.alias_class.proofs.Binding.{bound_more, room_more}
use Rattle.alias_class.proofs.passing.Passing.new.Goals as goal

pub loop-rank-init : goal.loop-rank-init
loop-rank-init c = record {
  same_inherited = refl;
  same_first = refl;
  foreign = none_long c.new.result.keys c.new.ensures.len;
  bindings = c.in_ok-with_capacity.ensures.items;
  namers = c.new-2.ensures;
}

pub bind-requires : goal.bind-requires
bind-requires c =
    let room = room_more c.args.inherited c.args.first_foreign c.args.formals.now c.args.named.now c.loop-rank.rank c.loop-rank.passing c.loop-rank-test.true c.loop-rank.invariant in
    let few = c.requires.few in
    omega arith

pub loop-rank-preserved : goal.loop-rank-preserved
loop-rank-preserved c =
    bound_more c.args.inherited c.args.first_foreign c.requires.behind c.args.formals.now c.args.named.now c.loop-rank.rank (record { whole = false; cell = 0 }) c.loop-rank-test.true c.loop-rank.passing c.bind.new.self c.loop-rank.invariant
    (record {
      inherited = c.in_ok-bind.ensures.inherited;
      first_foreign = c.in_ok-bind.ensures.first_foreign;
      foreign = c.in_ok-bind.ensures.foreign;
      bindings = c.in_ok-bind.ensures.bindings;
      namers = c.in_ok-bind.ensures.namers;
    })
