use Rattle.std.proofs.Common.{arith}
use Rattle.alias_class.proofs.Owning.{key_within, some_key, walk_end, walk_less, walk_on}
use Rattle.alias_class.proofs.classes.Classes.owner.Goals as goal

pub overflow_sub-owner : goal.overflow_sub-owner
overflow_sub-owner c =
    let some = some_key c.self.inside.outline c.self.inside.keys.keys c.self.inside.rows.items c.self.invariant c.args.self.now c.self.view_is c.args.class c.args.cell c.loop-self.owner c.requires.class c.loop-self.invariant c.index.result.now c.index.ensures c.loop-self-test.true in
    omega arith

pub index-requires-in-loop-self : goal.index-requires-in-loop-self
index-requires-in-loop-self c =
    key_within c.self.inside.outline c.self.inside.keys.keys c.self.inside.rows.items c.self.invariant c.args.self.now c.self.view_is c.args.class c.args.cell c.loop-self.owner c.requires.class c.loop-self.invariant c.index.result.now c.index.ensures c.loop-self-test.true

pub loop-self-smaller : goal.loop-self-smaller
loop-self-smaller c =
    walk_less c.self.inside.outline c.self.inside.keys.keys c.self.inside.rows.items c.self.invariant c.args.self.now c.self.view_is c.args.class c.args.cell c.loop-self.owner c.requires.class c.loop-self.invariant c.index.result.now c.index.ensures c.loop-self-test.true c.index-in-loop-self.result.now c.index-in-loop-self.ensures

pub loop-self-preserved : goal.loop-self-preserved
loop-self-preserved c =
    walk_on c.self.inside.outline c.self.inside.keys.keys c.self.inside.rows.items c.self.invariant c.args.self.now c.self.view_is c.args.class c.args.cell c.loop-self.owner c.requires.class c.loop-self.invariant c.index.result.now c.index.ensures c.loop-self-test.true c.index-in-loop-self.result.now c.index-in-loop-self.ensures

pub returns-clause-owner : goal.returns-clause-owner
returns-clause-owner c =
    walk_end c.self.inside.outline c.self.inside.keys.keys c.self.inside.rows.items c.self.invariant c.args.self.now c.self.view_is c.args.class c.args.cell c.loop-self.owner c.requires.class c.loop-self.invariant c.index.result.now c.index.ensures c.loop-self-test.false
