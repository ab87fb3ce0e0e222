use Rattle.std.proofs.Common.{◌≡◌, true, List, ℤ, ◌++◌, ◌∙◌, refl, ap, subst, map, rules}
use Rattle.std.proofs.lemmas.List.{drop_all}
use Rattle.pas_program.specs.Each.{arm_of, constants}
use Rattle.pas_program.specs.Typed.{arm_types}
use Rattle.pas_program.specs.Types.{in_host}
use Rattle.std.specs.List.{list_all}
use Rattle.pas_valid.specs.Passing.{known, placed, arm_size}
use Rattle.pas_valid.specs.Standing.{fresh}
use Rattle.pas_valid.proofs.Constants.{arms_next, fresh_differ, typed_constants}
use Rattle.pas_valid.proofs.Lists.{constants_next, firsts, walked_first, walked_next, walked_last}
use Rattle.pas_valid.proofs.ground.Ground.+statement.Goals as goal

pub arms-returns-clause-types : goal.arms-returns-clause-types
arms-returns-clause-types t c =
    firsts (arm_types (known c.args.self.now)) c.args.arms.now ∙ (walked_last _ _ arm_size c.args.arms.now c.loop-arm.arm-index _ _ c.loop-arm-test.false c.loop-arm.invariant.0).first

pub arms-returns-clause-scopes : goal.arms-returns-clause-scopes
arms-returns-clause-scopes t c =
    firsts (arm_of (placed c.args.self.now)) c.args.arms.now ∙ (walked_last _ _ arm_size c.args.arms.now c.loop-arm.arm-index _ _ c.loop-arm-test.false c.loop-arm.invariant.0).second

pub arms-loop-arm-init : goal.arms-loop-arm-init
arms-loop-arm-init t c = (walked_first _ _ _ _ _, refl, fresh_differ c.new-seen.result (constants (map (arm_of (placed c.args.self.now)) c.args.arms.now)))

pub arms-loop-arm-preserved : goal.arms-loop-arm-preserved
arms-loop-arm-preserved t c = (
  walked_next _ _ _ _ _ _ _ _ _ c.loop-arm-test.true c.arm-item.is c.in_ok-arm.ensures.types c.in_ok-arm.ensures.scopes c.in_ok-arm.ensures.size c.loop-arm.invariant.0,
  constants_next c.args.host (arm_types (known c.args.self.now)) c.args.arms.now c.loop-arm.arm-index c.arm-item.result c.loop-arm-test.true c.arm-item.is
      (ap (list_all (in_host c.args.host)) (typed_constants (known c.args.self.now) c.arm-item.result) ∙ search rules) c.loop-arm.invariant.1,
  arms_next (placed c.args.self.now) c.loop-arm.seen c.all_new.new.seen _ c.args.arms.now c.loop-arm.arm-index c.arm-item.result c.loop-arm-test.true c.arm-item.is
      (λ zs h. subst (λ (xs : List ℤ). fresh c.loop-arm.seen (xs ++ zs) ≡ true) c.as_slice-in-loop-arm.ensures (c.in_ok-all_new.ensures zs h)) c.loop-arm.invariant.2,
)

pub arms-returns-clause-differ : goal.arms-returns-clause-differ
arms-returns-clause-differ t c =
    c.loop-arm.invariant.2 (ap (λ xs. fresh c.loop-arm.seen (constants (map (arm_of (placed c.args.self.now)) xs))) (drop_all c.loop-arm.arm-index c.args.arms.now c.loop-arm-test.false))
