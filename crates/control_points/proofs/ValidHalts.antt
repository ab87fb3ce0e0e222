-- A run halts at the exit of the program's block, when no other activation is there, and nowhere else.
use Rattle.std.proofs.Common.{◌≡◌, ℕ, suc, ◌-◌, ◌↔◌, true, false, [], ◌∷◌, length, refl, sym, ap, ◌∙◌, inl, inr, Ok, Err, Option, Some, None, slice_get, eqb-true, eq-eqb, arith}
use Rattle.std.proofs.lemmas.Bool.{cases_Bool, cond-true, cond-false}
use Rattle.std.proofs.lemmas.Option.{slice_get_within}
use Rattle.control_points.specs.declared.point.Point.{Point}
use Rattle.control_points.specs.declared.point.PointKind.TheVariants as kind
use Rattle.control_points.specs.Chart.{Chart, leaving}
use Rattle.control_points.specs.Evaluation.{Answer}
use Rattle.control_points.specs.Fits.{kind_at}
use Rattle.control_points.specs.Leading.{IsAtEnd}
use Rattle.control_points.specs.States.{Stack, State}
use Rattle.control_points.specs.Steps.{halts, point_of, is_halted, first_done, selector_of, progress, next}
use Rattle.control_points.specs.WellFormed.{IsWellFormed}
use Rattle.control_points.specs.ValidStates.{IsStack, IsValid}
use Rattle.control_points.proofs.ValidBasics.{map_found}
use Rattle.control_points.proofs.ValidChoices.{last_number}

one_less : (p n : ℕ) → suc p ≡ n → p ≡ n - 1
one_less p n h = omega arith

module _ (c : Chart) (w : IsWellFormed c) where
  end_from : (stack : Stack) → IsStack c stack → is_halted c stack ≡ true → IsAtEnd c.points (length stack) (point_of stack)
  end_from [] is h = absurd is
  end_from (a ∷ []) is h =
      let last = one_less a.point (length c.points) (eqb-true (suc a.point) (length c.points) h) in
      record { alone = refl; exit = ap (kind_at c.points) last ∙ w.pairs.last_exit }
  end_from (a ∷ b ∷ below) is h = absurd (two_run h)
    where
      two_run : false ≡ true → ⊥
      two_run e = cc

  end_to : (stack : Stack) → IsStack c stack → IsAtEnd c.points (length stack) (point_of stack) → is_halted c stack ≡ true
  end_to [] is x = absurd is
  end_to (a ∷ []) is x =
      let q = map_found (λ (y : Point). y.kind) (slice_get c.points a.point) kind.Exit x.exit in
      let within = slice_get_within c.points a.point q.0 q.1 in
      let last = w.pairs.exit_once a.point (length c.points - 1) c.main x.exit w.pairs.last_exit is.stands w.pairs.last_routine in
      eq-eqb (suc a.point) (length c.points) (last_number a.point (length c.points) last within)
  end_to (a ∷ b ∷ below) is x = absurd (two_are_not_one (length below) x.alone)
    where
      two_are_not_one : (n : ℕ) → suc (suc n) ≡ 1 → ⊥
      two_are_not_one n h = omega arith

progress_goes_on : (selector : ℕ) (o : Answer (Option State)) → progress selector o ≡ halts → ⊥
progress_goes_on selector (Ok (Some s)) h = cc
progress_goes_on selector (Ok None) h = cc
progress_goes_on selector (Err f) h = cc

pub halts_at_end : (c : Chart) → IsWellFormed c → (s : State) → IsValid c s → (next c s ≡ halts) ↔ IsAtEnd c.points (length s.stack) (point_of s.stack)
halts_at_end c w s v =
    let ks = leaving c.edges (point_of s.stack) in
    let goes = progress (selector_of c ks) (first_done c s ks) in (
      λ h. elim (cases_Bool (is_halted c s.stack)) [
        | inl e ↦ end_from c w s.stack v.stack e
        | inr e ↦ absurd (progress_goes_on (selector_of c ks) (first_done c s ks) (sym (cond-false (is_halted c s.stack) halts goes e) ∙ h))
      ],
      λ x. cond-true (is_halted c s.stack) halts goes (end_to c w s.stack v.stack x),
    )
