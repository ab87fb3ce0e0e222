-- A tally knows whether all that was judged holds.
use Rattle.std.proofs.Common.{◌≡◌, Bool, true, false, cond, ◌&&◌, List, [], ◌∷◌, length, refl, ap, ◌∙◌}
use Rattle.std.proofs.Math.Bool.{and_assoc}
use Rattle.std.specs.Prelude.{nat_lt}
use Rattle.std.specs.List.{list_all}
use Rattle.abstract_expr.specs.Tallies.{Tallied, after_verdict, after_verdicts}

of_either : (b d all : Bool) (x y z : Tallied) → x.tally.all_hold ≡ all → y.tally.all_hold ≡ all → z.tally.all_hold ≡ all → (cond b x (cond d y z)).tally.all_hold ≡ all
of_either true d all x y z p q r = p
of_either false true all x y z p q r = q
of_either false false all x y z p q r = r

pub one_counts : (t : Tallied) (b : Bool) → (after_verdict t b).tally.all_hold ≡ (t.tally.all_hold && b)
one_counts t b = of_either (nat_lt 0 t.tally.before) (nat_lt t.tally.marked (length t.marks)) (t.tally.all_hold && b) _ _ _ refl refl refl

and_true : (b : Bool) → b ≡ (b && true)
and_true true = refl
and_true false = refl

pub all_count : (vs : List Bool) (t : Tallied) → (after_verdicts vs t).tally.all_hold ≡ (t.tally.all_hold && list_all (λ b. b) vs)
all_count [] t = and_true t.tally.all_hold
all_count (v ∷ vs) t =
    all_count vs (after_verdict t v)
    ∙ ap (λ b. b && list_all (λ b. b) vs) (one_counts t v)
    ∙ and_assoc t.tally.all_hold v (list_all (λ b. b) vs)

pub and_either : (a b : Bool) → (a && b) ≡ (b && a)
and_either true true = refl
and_either true false = refl
and_either false true = refl
and_either false false = refl
