-- No operands that can give a wanted result are lost.
use Rattle.std.specs.Prelude.{◌≡◌, Ok, ℤ, ⊤}
use Rattle.px_base.specs.declared.operator.BinOp.{BinOp}
use Rattle.px_base.specs.declared.operator.BinOp.TheVariants.{And, Or}
use Rattle.px_base.specs.declared.operator.UnOp.{UnOp}
use Rattle.arithmetic.specs.Operators.{binary_result, unary_result}
use Rattle.interval.specs.declared.itv.Itv.{Itv}
use Rattle.interval.specs.Intervals.{IsIn}

-- each number of X that gives with one of Y a wanted result is one of the left answer
abbrev pub KeepsLeft : BinOp → Itv → Itv → Itv → Itv → Type 0
KeepsLeft op wanted x y left =
    (a b c : ℤ) → IsIn x a → IsIn y b → binary_result op a b ≡ Ok c → IsIn wanted c → IsIn left a

-- each number of Y with which one of X gives a wanted result is one of the right answer
abbrev pub KeepsRight : BinOp → Itv → Itv → Itv → Itv → Type 0
KeepsRight op wanted x y right =
    (a b c : ℤ) → IsIn x a → IsIn y b → binary_result op a b ≡ Ok c → IsIn wanted c → IsIn right b

-- each number of X that gives a wanted result is one of the answer
abbrev pub KeepsOperand : UnOp → Itv → Itv → Itv → Type 0
KeepsOperand op wanted x answer =
    (a c : ℤ) → IsIn x a → unary_result op a ≡ Ok c → IsIn wanted c → IsIn answer a

-- ---- for `and` and `or`, nothing else stays

abbrev pub IsLogical : BinOp → Type 0
IsLogical And = ⊤
IsLogical Or = ⊤
IsLogical _ = ⊥

-- each number of the left answer gives a wanted result with some number of Y
abbrev pub LeftIsPossible : BinOp → Itv → Itv → Itv → Type 0
LeftIsPossible op wanted y left =
    (a : ℤ) → IsIn left a → (b : ℤ) × (c : ℤ) × IsIn y b × (binary_result op a b ≡ Ok c) × IsIn wanted c

-- some number of X gives a wanted result with each number of the right answer
abbrev pub RightIsPossible : BinOp → Itv → Itv → Itv → Type 0
RightIsPossible op wanted x right =
    (b : ℤ) → IsIn right b → (a : ℤ) × (c : ℤ) × IsIn x a × (binary_result op a b ≡ Ok c) × IsIn wanted c
