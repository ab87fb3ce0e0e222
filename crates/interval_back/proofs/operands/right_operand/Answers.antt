use Rattle.std.proofs.Common.{refl}
use Rattle.px_base.specs.declared.operator.BinOp.TheVariants.{Eq, Ne, Lt, Le, Gt, Ge}
use Rattle.interval_back.specs.declared.relation.Relation.TheVariants.{Equal, Different, Less, AtMost, Greater, AtLeast}
use Rattle.interval_back.proofs.Rows.{right_arm, right_of_sum, right_of_difference, right_of_product, right_of_quotient, right_of_remainder, right_of_conjunction, right_of_disjunction, right_of_relation, equal_from_right, different_from_right}
use Rattle.interval_back.proofs.operands.right_operand.Goals as goal

pub returns-in-Add-clause-kept : goal.returns-in-Add-clause-kept
returns-in-Add-clause-kept c =
    right_arm c.args.w c.args.x c.args.y c.in-Add.is c.addends.ensures (right_of_sum c.args.w c.args.x c.args.y)

pub returns-in-Sub-clause-kept : goal.returns-in-Sub-clause-kept
returns-in-Sub-clause-kept c =
    right_arm c.args.w c.args.x c.args.y c.in-Sub.is c.subtrahends.ensures (right_of_difference c.args.w c.args.x c.args.y)

pub returns-in-Mul-clause-kept : goal.returns-in-Mul-clause-kept
returns-in-Mul-clause-kept c =
    right_arm c.args.w c.args.x c.args.y {r = c.factors.result} c.in-Mul.is refl
    (right_of_product c.args.w c.args.x c.args.y c.factors.result c.factors.ensures.kept)

pub returns-in-Div-clause-kept : goal.returns-in-Div-clause-kept
returns-in-Div-clause-kept c =
    right_arm c.args.w c.args.x c.args.y c.in-Div.is c.divisors.ensures (right_of_quotient c.args.w c.args.x c.args.y)

pub returns-in-Mod-clause-kept : goal.returns-in-Mod-clause-kept
returns-in-Mod-clause-kept c =
    right_arm c.args.w c.args.x c.args.y c.in-Mod.is c.moduli.ensures (right_of_remainder c.args.w c.args.x c.args.y)

pub returns-in-And-clause-kept : goal.returns-in-And-clause-kept
returns-in-And-clause-kept c =
    right_arm c.args.w c.args.x c.args.y c.in-And.is c.conjuncts.ensures (right_of_conjunction c.args.w c.args.x c.args.y)

pub returns-in-Or-clause-kept : goal.returns-in-Or-clause-kept
returns-in-Or-clause-kept c =
    right_arm c.args.w c.args.x c.args.y c.in-Or.is c.disjuncts.ensures (right_of_disjunction c.args.w c.args.x c.args.y)

pub returns-in-Eq-clause-kept : goal.returns-in-Eq-clause-kept
returns-in-Eq-clause-kept c =
    right_arm c.args.w c.args.x c.args.y c.in-Eq.is c.decided.ensures
    (right_of_relation c.args.w c.args.x c.args.y Eq Equal equal_from_right)

pub returns-in-Ne-clause-kept : goal.returns-in-Ne-clause-kept
returns-in-Ne-clause-kept c =
    right_arm c.args.w c.args.x c.args.y c.in-Ne.is c.decided-in-Ne.ensures
    (right_of_relation c.args.w c.args.x c.args.y Ne Different different_from_right)

pub returns-in-Lt-clause-kept : goal.returns-in-Lt-clause-kept
returns-in-Lt-clause-kept c =
    right_arm c.args.w c.args.x c.args.y c.in-Lt.is c.decided-in-Lt.ensures
    (right_of_relation c.args.w c.args.x c.args.y Lt Greater (λ _ _. refl))

pub returns-in-Le-clause-kept : goal.returns-in-Le-clause-kept
returns-in-Le-clause-kept c =
    right_arm c.args.w c.args.x c.args.y c.in-Le.is c.decided-in-Le.ensures
    (right_of_relation c.args.w c.args.x c.args.y Le AtLeast (λ _ _. refl))

pub returns-in-Gt-clause-kept : goal.returns-in-Gt-clause-kept
returns-in-Gt-clause-kept c =
    right_arm c.args.w c.args.x c.args.y c.in-Gt.is c.decided-in-Gt.ensures
    (right_of_relation c.args.w c.args.x c.args.y Gt Less (λ _ _. refl))

pub returns-in-Ge-clause-kept : goal.returns-in-Ge-clause-kept
returns-in-Ge-clause-kept c =
    right_arm c.args.w c.args.x c.args.y c.in-Ge.is c.decided-in-Ge.ensures
    (right_of_relation c.args.w c.args.x c.args.y Ge AtMost (λ _ _. refl))
