use Rattle.std.proofs.Common.{◌≡◌, ◌+◌, [], ◌∷◌, ◌++◌, length, ap, ◌∙◌, arith, rules}
use Rattle.std.specs.Prelude.{slice_get}
use Rattle.alias_class.specs.Tables.{Table}
use Rattle.alias_class.proofs.Added.{cells_fit, class_entered, kept_after, number_fits, table_after}
use Rattle.alias_class.proofs.classes.Classes.add.Goals as goal
use Rattle.alias_class.proofs.classes.Classes.add.Goals.{then-is_new, else-is_new}

pub overflow_cast-cells : goal.overflow_cast-cells
overflow_cast-cells c =
    let fit = cells_fit c.self.inside.outline c.self.inside.keys.keys c.self.inside.rows.items c.self.invariant c.args.self.now c.self.view_is c.args.key c.requires.parent c.requires.class c.requires.room c.args.namers c.requires.namers c.reserve.new.self.items c.in_ok-reserve.ensures.items c.index.result.now c.index.ensures c.own-own.result.now c.own-own.ensures c.len.result c.len.ensures in
    omega arith

pub overflow_add-cells-2 : goal.overflow_add-cells-2
overflow_add-cells-2 c =
    let fit = cells_fit c.self.inside.outline c.self.inside.keys.keys c.self.inside.rows.items c.self.invariant c.args.self.now c.self.view_is c.args.key c.requires.parent c.requires.class c.requires.room c.args.namers c.requires.namers c.reserve.new.self.items c.in_ok-reserve.ensures.items c.index.result.now c.index.ensures c.own-own.result.now c.own-own.ensures c.len.result c.len.ensures in
    omega arith

pub invariant_of-self-then-is_new : goal.invariant_of-self-then-is_new
invariant_of-self-then-is_new c =
    let made : c.push.new.self.items ≡ c.reserve.new.self.items ++ record { routine = c.args.key.routine; inherited = c.index.result.now.cells; cells = c.index.result.now.cells + (length c.own-own.result.now + c.len.result); namers = c.args.namers } ∷ [] = search rules in
    kept_after c.self.inside.outline c.self.inside.keys.keys c.self.inside.rows.items c.self.invariant c.args.self.now c.self.view_is c.args.key c.requires.parent c.requires.class c.requires.room c.args.namers c.requires.namers c.reserve.new.self.items c.in_ok-reserve.ensures.items c.index.result.now c.index.ensures c.own-own.result.now c.own-own.ensures c.len.result c.len.ensures c.insert_full.new.self.keys c.in_ok-at.ensures.keys c.in_ok-at.is_new c.in_ok-at.ensures.added c.if-is_new.true c.push.new.self.items made

pub overflow_cast-result : goal.overflow_cast-result
overflow_cast-result c =
    let fit = number_fits c.self.inside.outline c.self.inside.keys.keys c.self.inside.rows.items c.self.invariant c.args.self.now c.self.view_is c.args.key c.requires.parent c.requires.class c.requires.room c.insert_full.new.self.keys c.in_ok-at.ensures.keys c.in_ok-at.at c.in_ok-at.ensures.stored.0 c.in_ok-at.ensures.stored.1 in
    omega arith

pub overflow_add-result : goal.overflow_add-result
overflow_add-result c =
    let fit = number_fits c.self.inside.outline c.self.inside.keys.keys c.self.inside.rows.items c.self.invariant c.args.self.now c.self.view_is c.args.key c.requires.parent c.requires.class c.requires.room c.insert_full.new.self.keys c.in_ok-at.ensures.keys c.in_ok-at.at c.in_ok-at.ensures.stored.0 c.in_ok-at.ensures.stored.1 in
    omega arith

pub returns-clause-entered : goal.returns-clause-entered
returns-clause-entered c =
    let there = class_entered c.self.inside.outline c.self.inside.keys.keys c.self.inside.rows.items c.self.invariant c.args.self.now c.self.view_is c.args.key c.requires.parent c.requires.class c.requires.room c.insert_full.new.self.keys c.in_ok-at.ensures.keys c.in_ok-at.at c.in_ok-at.ensures.stored.0 c.in_ok-at.ensures.stored.1 c.in_ok-at.ensures.stored.2 in
    elim c.if-is_new.branch [
      | then-is_new w ↦ ap (λ (x : Table). slice_get x.classes (c.in_ok-at.at + 1)) w.self-is ∙ there
      | else-is_new w ↦ ap (λ (x : Table). slice_get x.classes (c.in_ok-at.at + 1)) w.self-is ∙ there
    ]

pub returns-clause-added : goal.returns-clause-added
returns-clause-added c =
    let after = table_after c.self.inside.outline c.self.inside.keys.keys c.self.inside.rows.items c.self.invariant c.args.self.now c.self.view_is c.args.key c.requires.parent c.insert_full.new.self.keys c.in_ok-at.ensures.keys in
    elim c.if-is_new.branch [ then-is_new w ↦ w.self-is ∙ after | else-is_new w ↦ w.self-is ∙ after ]
