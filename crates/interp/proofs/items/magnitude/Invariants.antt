use Rattle.std.proofs.Common.{◌≡◌, ◌≤◌, take, true}
use Rattle.std.specs.List.{list_all}
use Rattle.interp.specs.InputItems as spec
use Rattle.interp.proofs.items.magnitude.Given as goal

-- the value of the digits so far, which are digits
abbrev pub invariant-loop-digit : goal.invariant-loop-digit
invariant-loop-digit l = record {
  so_far : l.value ≡ spec.decimal_value (take l.digit-index l.digits);
  digits : list_all spec.is_digit (take l.digit-index l.digits) ≡ true;
  small : l.value ≤ 2147483649;
}
