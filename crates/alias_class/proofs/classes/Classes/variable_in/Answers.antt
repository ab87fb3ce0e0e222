use Rattle.std.proofs.Common.{◌<◌, ◌≡◌, List, ℕ, length, sym, subst, ◌-◌}
use Rattle.std.specs.Prelude.{slice_index}
use Rattle.alias_class.specs.Cells.{range_of_cell}
use Rattle.alias_class.specs.Classes.{class_at}
use Rattle.alias_class.specs.Outlines.{range_of_variable}
use Rattle.alias_class.proofs.Variables.{namer_in_range, namer_range, own_variable}
use Rattle.alias_class.proofs.classes.Classes.variable_in.Goals as goal

pub returns-then-rank-own-clause-range : goal.returns-then-rank-own-clause-range
returns-then-rank-own-clause-range c =
    own_variable c.self.inside.outline c.self.inside.keys.keys c.self.inside.rows.items c.self.invariant c.args.self.now c.self.view_is c.args.class c.args.cell c.requires.class c.requires.owner c.index-row.result.now c.index-row.ensures c.own-own.result.now c.own-own.ensures c.if-rank-own.true

pub returns-else-rank-own-clause-in_range : goal.returns-else-rank-own-clause-in_range
returns-else-rank-own-clause-in_range c =
    subst (λ (names : List ℕ). slice_index names (c.args.cell - c.index-row.result.now.inherited - length c.own-own.result.now) < length c.args.self.now.outline.variables) (sym c.as_slice.ensures)
    (namer_in_range c.self.inside.outline c.self.inside.keys.keys c.self.inside.rows.items c.self.invariant c.args.self.now c.self.view_is c.args.class c.args.cell c.requires.class c.requires.owner c.index-row.result.now c.index-row.ensures c.own-own.result.now c.own-own.ensures c.if-rank-own.false)

pub returns-else-rank-own-clause-range : goal.returns-else-rank-own-clause-range
returns-else-rank-own-clause-range c =
    subst (λ (names : List ℕ). range_of_cell c.args.self.now.outline (class_at c.args.self.now.classes c.args.class) c.args.cell ≡ range_of_variable c.args.self.now.outline (slice_index names (c.args.cell - c.index-row.result.now.inherited - length c.own-own.result.now))) (sym c.as_slice.ensures)
    (namer_range c.self.inside.outline c.self.inside.keys.keys c.self.inside.rows.items c.self.invariant c.args.self.now c.self.view_is c.args.class c.args.cell c.requires.class c.requires.owner c.index-row.result.now c.index-row.ensures c.own-own.result.now c.own-own.ensures c.if-rank-own.false)
