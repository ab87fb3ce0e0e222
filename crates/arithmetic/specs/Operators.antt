-- What the operators and required functions give at numbers (ISO 7185, 6.7.2 and 6.6.6): a number, or the kind of the error.
use Rattle.std.specs.Prelude.{Bool, not, ◌%◌, ◌==◌, Result, Ok, Err, ℤ, pos, neg_ℤ, ◌+ℤ◌, ◌-ℤ◌, ◌*ℤ◌, int_lt, int_le, int_div, unsigned_abs, if◌then◌else◌}
use Rattle.std.specs.Int.{int_min, int_max, int_rem_euclid}
use Rattle.std.specs.Ordering.{int_eq}
use Rattle.px_base.specs.declared.kind.Kind.{Kind}
use Rattle.px_base.specs.declared.kind.Kind.TheVariants.{Overflow, DivisionByZero, ModulusNotPositive, NoNeighbour, NoResult}
use Rattle.px_base.specs.declared.operator.BinOp.{BinOp}
use Rattle.px_base.specs.declared.operator.BinOp.TheVariants.{Add, Sub, Mul, Div, Mod, And, Or, Eq, Ne, Lt, Le, Gt, Ge}
use Rattle.px_base.specs.declared.operator.UnOp.{UnOp}
use Rattle.px_base.specs.declared.operator.UnOp.TheVariants.{Neg, Not, Abs, Sqr, Odd, SuccInt, PredInt, SuccBool, PredBool, OrdOf}
use Rattle.arithmetic.specs.Numbers.{is_number, is_boolean, truth}

-- z where it passes the test of its type, and else the error
abbrev pub checked : (ℤ → Bool) → Kind → ℤ → Result ℤ Kind
checked fits kind z = if fits z then Ok z else Err kind

-- `div` truncates towards zero
abbrev pub quotient : ℤ → ℤ → Result ℤ Kind
quotient x y = if int_eq y (pos 0) then Err DivisionByZero else Ok (int_div x y)

-- `mod` gives the x - k * y, for a whole k, that lies from 0 to y - 1
abbrev pub modulus : ℤ → ℤ → Result ℤ Kind
modulus x y = if int_lt (pos 0) y then Ok (int_rem_euclid x y) else Err ModulusNotPositive

-- `not` has a result for the numbers of Booleans alone
abbrev pub negation : ℤ → Result ℤ Kind
negation x = if is_boolean x then Ok (pos 1 -ℤ x) else Err NoResult

-- On the numbers of Booleans the lesser one is their conjunction, and the greater one their disjunction.
abbrev pub binary_result : BinOp → ℤ → ℤ → Result ℤ Kind
binary_result Add x y = checked is_number Overflow (x +ℤ y)
binary_result Sub x y = checked is_number Overflow (x -ℤ y)
binary_result Mul x y = checked is_number Overflow (x *ℤ y)
binary_result Div x y = quotient x y
binary_result Mod x y = modulus x y
binary_result And x y = Ok (int_min x y)
binary_result Or x y = Ok (int_max x y)
binary_result Eq x y = Ok (truth (int_eq x y))
binary_result Ne x y = Ok (truth (not (int_eq x y)))
binary_result Lt x y = Ok (truth (int_lt x y))
binary_result Le x y = Ok (truth (int_le x y))
binary_result Gt x y = Ok (truth (int_lt y x))
binary_result Ge x y = Ok (truth (int_le y x))

-- `succ` and `pred` give a number of their host type.
abbrev pub unary_result : UnOp → ℤ → Result ℤ Kind
unary_result Neg x = Ok (neg_ℤ x)
unary_result Not x = negation x
unary_result Abs x = Ok (pos (unsigned_abs x))
unary_result Sqr x = checked is_number Overflow (x *ℤ x)
unary_result Odd x = Ok (truth (unsigned_abs x % 2 == 1))
unary_result SuccInt x = checked is_number NoNeighbour (x +ℤ pos 1)
unary_result PredInt x = checked is_number NoNeighbour (x -ℤ pos 1)
unary_result SuccBool x = checked is_boolean NoNeighbour (x +ℤ pos 1)
unary_result PredBool x = checked is_boolean NoNeighbour (x -ℤ pos 1)
unary_result OrdOf x = Ok x
