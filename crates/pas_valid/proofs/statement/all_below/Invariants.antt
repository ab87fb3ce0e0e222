use Rattle.std.proofs.Common.{◌≡◌, drop, nat_lt}
use Rattle.std.specs.List.{list_all}
use Rattle.pas_valid.proofs.statement.all_below.Given as goal

abbrev pub invariant-loop-number : goal.invariant-loop-number
invariant-loop-number l = list_all (λ a. nat_lt a l.limit) l.numbers ≡ list_all (λ a. nat_lt a l.limit) (drop l.number-index l.numbers)
