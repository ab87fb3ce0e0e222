-- The first fault among tests: the failing one that is least by moment, then by place, then by code.
use Rattle.std.specs.Prelude.{◌≡◌, ℕ, Bool, true, ◌&&◌, ◌||◌, nat_eq, nat_lt, nat_le, List, Contains}
use Rattle.pas_check.specs.declared.fault.Rule.{Rule}
use Rattle.pas_check.specs.Rules.{code_of}

pub record Test : Type 0 where
  pub moment : ℕ
  pub at : ℕ
  pub rule : Rule
  pub fails : Bool

-- whether the test t comes no later than u
abbrev pub comes_first : Test → Test → Bool
comes_first t u =
    nat_lt t.moment u.moment || (nat_eq t.moment u.moment && (nat_lt t.at u.at || (nat_eq t.at u.at && nat_le (code_of t.rule) (code_of u.rule))))

pub record FirstFault (tests : List Test) (t : Test) : Type 0 where
  pub test : Contains tests t
  pub fails : t.fails ≡ true
  pub first : (u : Test) → Contains tests u → u.fails ≡ true → comes_first t u ≡ true
