-- The activations after an effect: one that was there goes on at another point, and those above it have ended.
use Rattle.std.proofs.Common.{◌≡◌, ℕ, zero, suc, ◌+◌, ◌<◌, ◌≤◌, List, [], ◌∷◌, ◌++◌, length, take, set, refl, sym, ap, ◌∙◌, arith, ℤ, Option, Some, inl, inr}
use Rattle.std.specs.List.{slice_get}
use Rattle.std.proofs.lemmas.List.{length-take-le}
use Rattle.std.proofs.lemmas.List.Sums.{sum_by_push}
use Rattle.std.proofs.lemmas.Option.{slice_get_within}
use Rattle.control_points.specs.declared.flow.Flow.{Flow}
use Rattle.control_points.specs.Fits.{routine_at}
use Rattle.interp.specs.declared.frame.Extent.{Extent}
use Rattle.interp.specs.declared.frame.Frame.{Frame}
use Rattle.interp.specs.Layouts.{extent_of, extent_before}
use Rattle.interp.specs.Machines.{AreFrames, AreLinks, AreScalars, end_of, routine_of}
use Rattle.interp.proofs.Chains.{routine_is}
use Rattle.interp.proofs.Frames.{IsNext, all_below, some_below, in_prefix, parents_same, with_next}
use Rattle.interp.proofs.Lists.{slice_get-snoc, slice_get-take, sum_before}
use Rattle.interp.proofs.Numbers.{AreNumbers}

-- a write to the last element of a prefix
pub set_last : {A : Type 0} (xs : List A) (n : ℕ) (y : A) → n < length xs → set (take (n + 1) xs) n y ≡ take n xs ++ y ∷ []
set_last [] n y h = absurd (omega arith)
set_last (x ∷ xs) zero y h = refl
set_last (x ∷ xs) (suc n) y h =
    let e : suc n + 1 ≡ suc (n + 1) = omega arith in
    ap (λ k. set (take k (x ∷ xs)) (suc n) y) e ∙ ap (λ ys. x ∷ ys) (set_last xs n y (omega arith))

-- the activation at the depth n, at another point
abbrev pub moved_to : Frame → ℕ → Frame
moved_to g p = record g { point = p }

module _ (flow : Flow) (frames : List Frame) (h : AreFrames flow frames) (n p : ℕ) (g : Frame) (e : slice_get frames n ≡ Some g) where
  pub goes_on : routine_at flow.points p ≡ routine_of frames n → IsNext flow (take n frames) (moved_to g p)
  goes_on r =
      let l = slice_get_within frames n g e in
      let k : length (take n frames) ≡ n = length-take-le n frames (omega arith) in
      record {
        base = h.base n g e;
        stands = r ∙ routine_is frames n g e;
        parent = λ x f. parents_same frames (take n frames) g.parent (λ q c. slice_get-take frames n q (h.parent_below n q g e c)) ∙ h.parent n g x e f;
        parent_below = λ q c. let b = h.parent_below n q g e c in omega arith;
        first = λ z. h.first g (ap (slice_get frames) (let y : 0 ≡ n = omega arith in y) ∙ e);
        made = λ d x f s. h.made d x g (in_prefix frames n d x f).1 (ap (slice_get frames) (let y : suc d ≡ n = omega arith in y) ∙ e);
      }

  pub landed_frames : routine_at flow.points p ≡ routine_of frames n → AreFrames flow (take n frames ++ moved_to g p ∷ [])
  landed_frames r = with_next flow (take n frames) (moved_to g p) (some_below flow frames n (all_below flow frames h)) (goes_on r)

  -- each is one of those before, but for its point
  pub landed_one : (d : ℕ) (x : Frame) → slice_get (take n frames ++ moved_to g p ∷ []) d ≡ Some x → (y : Frame) × (slice_get frames d ≡ Some y) × (x.base ≡ y.base) × (x.routine ≡ y.routine) × (d ≤ n)
  landed_one d x f =
      let l = slice_get_within frames n g e in
      let k : length (take n frames) ≡ n = length-take-le n frames (omega arith) in
      elim (slice_get-snoc (take n frames) (moved_to g p) d x f) [
        | inl w ↦ let v = in_prefix frames n d x w.1 in (x, v.1, refl, refl, (let b = v.0 in omega arith))
        | inr w ↦ (g, ap (slice_get frames) (w.0 ∙ k) ∙ e, ap (λ (y : Frame). y.base) w.1, ap (λ (y : Frame). y.routine) w.1, (let b = w.0 in omega arith))
      ]

  pub landed_end : ((end_of flow.program (take n frames ++ moved_to g p ∷ [])).scalars ≤ (end_of flow.program frames).scalars) × ((end_of flow.program (take n frames ++ moved_to g p ∷ [])).links ≤ (end_of flow.program frames).links)
  landed_end = (
    omega (arith, sum_by_push (λ (g : Frame). (extent_of flow.program g.routine).scalars) (take n frames) (moved_to g p), sum_before (λ (g : Frame). (extent_of flow.program g.routine).scalars) frames n g e),
    omega (arith, sum_by_push (λ (g : Frame). (extent_of flow.program g.routine).links) (take n frames) (moved_to g p), sum_before (λ (g : Frame). (extent_of flow.program g.routine).links) frames n g e),
  )

  pub landed_links : (links : List ℕ) → AreLinks flow.program frames links → AreLinks flow.program (take n frames ++ moved_to g p ∷ []) links
  landed_links links l = record {
    room = let b = landed_end.1 in let r = l.room in omega arith;
    below = λ d v a x y f k o i m.
        let w = landed_one d x f in
        let q = l.below d v a w.0 y w.1 k (o ∙ w.3) i (ap (λ (b : Extent). slice_get links (b.links + (extent_before flow.program y.routine v).links)) (sym w.2) ∙ m) in
        omega (arith, q, ap (λ (b : Extent). b.scalars) w.2);
  }

  pub landed_scalars : (old new : List (Option ℤ)) → AreScalars flow.program frames old → length new ≡ length old → AreNumbers new → AreScalars flow.program (take n frames ++ moved_to g p ∷ []) new
  landed_scalars old new s l k = record { room = let b = landed_end.0 in let r = s.room in omega arith; numbers = k }
