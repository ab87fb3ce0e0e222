use Rattle.std.proofs.Common.{refl}
use Rattle.px_base.specs.declared.operator.BinOp.TheVariants.{Eq, Ne, Lt, Le, Gt, Ge}
use Rattle.interval_back.specs.declared.relation.Relation.TheVariants.{Equal, Different, Less, AtMost, Greater, AtLeast}
use Rattle.interval_back.proofs.Rows.{left_arm, left_of_sum, left_of_difference, left_of_remainder, left_of_conjunction, left_of_disjunction, left_of_relation}
use Rattle.interval_back.proofs.operands.left_operand.Goals as goal

pub returns-in-Add-clause-kept : goal.returns-in-Add-clause-kept
returns-in-Add-clause-kept c =
    left_arm c.args.w c.args.x c.args.y c.in-Add.is c.addends.ensures (left_of_sum c.args.w c.args.x c.args.y)

pub returns-in-Sub-clause-kept : goal.returns-in-Sub-clause-kept
returns-in-Sub-clause-kept c =
    left_arm c.args.w c.args.x c.args.y c.in-Sub.is c.minuends.ensures (left_of_difference c.args.w c.args.x c.args.y)

pub returns-in-Mod-clause-kept : goal.returns-in-Mod-clause-kept
returns-in-Mod-clause-kept c =
    left_arm c.args.w c.args.x c.args.y c.in-Mod.is c.reduced.ensures (left_of_remainder c.args.w c.args.x c.args.y)

pub returns-in-And-clause-kept : goal.returns-in-And-clause-kept
returns-in-And-clause-kept c =
    left_arm c.args.w c.args.x c.args.y c.in-And.is c.conjuncts.ensures (left_of_conjunction c.args.w c.args.x c.args.y)

pub returns-in-Or-clause-kept : goal.returns-in-Or-clause-kept
returns-in-Or-clause-kept c =
    left_arm c.args.w c.args.x c.args.y c.in-Or.is c.disjuncts.ensures (left_of_disjunction c.args.w c.args.x c.args.y)

pub returns-in-Eq-clause-kept : goal.returns-in-Eq-clause-kept
returns-in-Eq-clause-kept c =
    left_arm c.args.w c.args.x c.args.y c.in-Eq.is c.decided.ensures
    (left_of_relation c.args.w c.args.x c.args.y Eq Equal (λ _ _. refl))

pub returns-in-Ne-clause-kept : goal.returns-in-Ne-clause-kept
returns-in-Ne-clause-kept c =
    left_arm c.args.w c.args.x c.args.y c.in-Ne.is c.decided-in-Ne.ensures
    (left_of_relation c.args.w c.args.x c.args.y Ne Different (λ _ _. refl))

pub returns-in-Lt-clause-kept : goal.returns-in-Lt-clause-kept
returns-in-Lt-clause-kept c =
    left_arm c.args.w c.args.x c.args.y c.in-Lt.is c.decided-in-Lt.ensures
    (left_of_relation c.args.w c.args.x c.args.y Lt Less (λ _ _. refl))

pub returns-in-Le-clause-kept : goal.returns-in-Le-clause-kept
returns-in-Le-clause-kept c =
    left_arm c.args.w c.args.x c.args.y c.in-Le.is c.decided-in-Le.ensures
    (left_of_relation c.args.w c.args.x c.args.y Le AtMost (λ _ _. refl))

pub returns-in-Gt-clause-kept : goal.returns-in-Gt-clause-kept
returns-in-Gt-clause-kept c =
    left_arm c.args.w c.args.x c.args.y c.in-Gt.is c.decided-in-Gt.ensures
    (left_of_relation c.args.w c.args.x c.args.y Gt Greater (λ _ _. refl))

pub returns-in-Ge-clause-kept : goal.returns-in-Ge-clause-kept
returns-in-Ge-clause-kept c =
    left_arm c.args.w c.args.x c.args.y c.in-Ge.is c.decided-in-Ge.ensures
    (left_of_relation c.args.w c.args.x c.args.y Ge AtLeast (λ _ _. refl))
