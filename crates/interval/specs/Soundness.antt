-- What the answers of operators at intervals say of the operators at numbers.
use Rattle.std.specs.Prelude.{◌≡◌, IsTrue, IsOk, Ok, ℤ, ⊤}
use Rattle.px_base.specs.declared.operator.BinOp.{BinOp}
use Rattle.px_base.specs.declared.operator.UnOp.{UnOp}
use Rattle.px_base.specs.declared.operator.UnOp.TheVariants.{Not}
use Rattle.arithmetic.specs.Numbers.{is_boolean}
use Rattle.arithmetic.specs.Operators.{binary_result, unary_result}
use Rattle.interval.specs.declared.itv.Itv.{Itv}
use Rattle.interval.specs.Intervals.{IsIn}

-- each result at numbers of the operands is one of the value
abbrev pub HasBinaryResults : BinOp → Itv → Itv → Itv → Type 0
HasBinaryResults op x y value = (a b c : ℤ) → IsIn x a → IsIn y b → binary_result op a b ≡ Ok c → IsIn value c

abbrev pub HasUnaryResults : UnOp → Itv → Itv → Type 0
HasUnaryResults op x value = (a c : ℤ) → IsIn x a → unary_result op a ≡ Ok c → IsIn value c

-- no numbers of the operands make an error
abbrev pub BinaryNeverFails : BinOp → Itv → Itv → Type 0
BinaryNeverFails op x y = (a b : ℤ) → IsIn x a → IsIn y b → IsOk (binary_result op a b)

-- `not` is for Booleans alone
abbrev pub IsOperand : UnOp → ℤ → Type 0
IsOperand Not a = IsTrue (is_boolean a)
IsOperand _ a = ⊤

abbrev pub UnaryNeverFails : UnOp → Itv → Type 0
UnaryNeverFails op x = (a : ℤ) → IsIn x a → IsOperand op a → IsOk (unary_result op a)
