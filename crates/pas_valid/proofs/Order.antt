-- A list in which each variable precedes the next is ordered.
use Rattle.std.proofs.Common.{◌≡◌, ℕ, zero, suc, ◌+◌, ◌-◌, true, List, sym, ap, ◌∙◌, arith, Some}
use Rattle.std.proofs.lemmas.Bool.Decides.{nat_tests}
use Rattle.std.proofs.lemmas.Option.{slice_get_within}
use Rattle.std.specs.List.{slice_get}
use Rattle.pas_program.specs.declared.routine.Routine.{Routine}
use Rattle.pas_program.specs.declared.variable.VarDef.{VarDef}
use Rattle.pas_program.specs.Order.{IsOrdered, precedes}
use Rattle.pas_program.specs.Tables.{holds_of}
use Rattle.pas_valid.specs.Whole.{Listed}
use Rattle.pas_valid.proofs.Ranks.{formal_at, holds_got, holds_some, slice_get_below}

precedes_trans : (x y z : VarDef) → precedes x y ≡ true → precedes y z ≡ true → precedes x z ≡ true
precedes_trans x y z h k = grind (arith, nat_tests)

module _ (vars : List VarDef) (ranks : List ℕ) (r : ℕ) (d : Routine) (l : Listed vars ranks r d) where
  -- the variable before one of the list precedes it
  before : (k v w : ℕ) (x y : VarDef) → slice_get d.vars k ≡ Some v → slice_get d.vars (suc k) ≡ Some w → slice_get vars v ≡ Some x → slice_get vars w ≡ Some y → precedes x y ≡ true
  before k v w x y e g p q = holds_some (precedes x) (slice_get vars w) y q (holds_some (λ (u : VarDef). holds_of (precedes u) (slice_get vars w)) (slice_get vars v) x p (l.neighbours k v w e g))

  -- and so do those before that one
  chain : (n i v w : ℕ) (x y : VarDef) → slice_get d.vars i ≡ Some v → slice_get d.vars (suc i + n) ≡ Some w → slice_get vars v ≡ Some x → slice_get vars w ≡ Some y → precedes x y ≡ true
  chain zero i v w x y e g p q = let next : suc i + 0 ≡ suc i = omega arith in before i v w x y e (sym (ap (slice_get d.vars) next) ∙ g) p q
  chain (suc n) i v w x y e g p q =
      let next : suc i + suc n ≡ suc (suc i + n) = omega arith in
      let here : slice_get d.vars (suc (suc i + n)) ≡ Some w = sym (ap (slice_get d.vars) next) ∙ g in
      let within = slice_get_within d.vars (suc (suc i + n)) w here in
      let u = slice_get_below d.vars (suc i + n) (omega (arith, within)) in
      let z = holds_got (λ (m : VarDef). holds_of (precedes m) (slice_get vars w)) (slice_get vars u.0) (l.neighbours (suc i + n) u.0 w u.1 here) in
      precedes_trans x z.0 y (chain n i v u.0 x z.0 e u.1 p z.1) (before (suc i + n) u.0 w z.0 y u.1 here z.1 q)

  pub list_ordered : IsOrdered vars d
  list_ordered = record {
    rises = λ i j v w x y h e g p q.
        let there : suc i + (j - suc i) ≡ j = omega arith in
        chain (j - suc i) i v w x y e (ap (slice_get d.vars) there ∙ g) p q;
    formals_first = formal_at vars ranks r d l;
  }
