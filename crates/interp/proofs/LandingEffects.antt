-- The state of a machine after an effect.
use Rattle.std.proofs.Common.{◌≡◌, ℕ, suc, ◌+◌, ◌<◌, ◌≤◌, true, List, [], ◌∷◌, ◌++◌, length, take, set, refl, subst, arith, ℤ, Option, Some}
use Rattle.std.specs.List.{slice_get}
use Rattle.std.proofs.Math.ListN.{length-set}
use Rattle.pas_program.specs.Types.{is_scalar}
use Rattle.control_points.specs.declared.flow.Flow.{Flow}
use Rattle.control_points.specs.Actions as meaning
use Rattle.control_points.specs.Actions.{sets, copies}
use Rattle.control_points.specs.Fits.{routine_at}
use Rattle.control_points.specs.Steps.{change_all}
use Rattle.control_points.specs.Storage.{Place, Store, keep_below, put}
use Rattle.interp.specs.declared.decide.Change.{Change}
use Rattle.interp.specs.declared.decide.Change.TheVariants as change
use Rattle.interp.specs.declared.frame.Frame.{Frame}
use Rattle.interp.specs.Deeds.{changed}
use Rattle.interp.specs.Layouts.{count_of}
use Rattle.interp.specs.Machines.{AreFrames, AreScalars, end_of, routine_of}
use Rattle.interp.specs.Meant.{IsChangeOf, IsScalarAt}
use Rattle.interp.specs.Places.{Lies}
use Rattle.interp.specs.Standing.{StoreIs}
use Rattle.interp.proofs.Landed.{moved_to, landed_frames}
use Rattle.interp.proofs.Landing.{AreSameBelow, landed_back, landed_height, landed_same, lies_moved}
use Rattle.interp.proofs.LandingStores.{store_copy, store_kept, store_set}
use Rattle.interp.proofs.Lying.{lies_in}
use Rattle.interp.proofs.Parts.{scalar_count}

-- what lies in these activations begins within the scalars
pub room_at : (flow : Flow) (frames : List Frame) → AreFrames flow frames → (scalars : List (Option ℤ)) → (end_of flow.program frames).scalars ≤ length scalars → (q : Place) (a t : ℕ) → Lies flow.program frames q a t → a + count_of flow.program t ≤ length scalars
room_at flow frames h scalars r q a t l = let w = (lies_in flow frames h q a t l).room in omega arith

pub scalar_room : (flow : Flow) (frames : List Frame) → AreFrames flow frames → (scalars : List (Option ℤ)) → (end_of flow.program frames).scalars ≤ length scalars → (q : Place) (a t : ℕ) → Lies flow.program frames q a t
    → is_scalar (slice_get flow.program.types t) ≡ true → a < length scalars
scalar_room flow frames h scalars r q a t l s = let w = room_at flow frames h scalars r q a t l in let one = scalar_count flow.program t s in omega arith

-- A change of the scalars is that of the store, among activations where the places lie as they did.
module _ (flow : Flow) (old new : List Frame) (d : ℕ) (before : AreFrames flow old) (after : AreFrames flow new) (same : AreSameBelow old new (suc d)) (scalars : List (Option ℤ)) (room : (end_of flow.program old).scalars ≤ length scalars) where
  one_set : (xs : List (Option ℤ)) (store : Store) (q : Place) (a : ℕ) (v w : Option ℤ) → v ≡ w → length xs ≡ length scalars → IsScalarAt flow.program old d q a → StoreIs flow.program new xs store
      → StoreIs flow.program new (set xs a w) (put store q v)
  one_set xs store q a v w e l i s =
      let r = scalar_room flow old before scalars room q a i.of_type i.lies i.scalar in
      let b = i.below in
      subst (λ w. StoreIs flow.program new (set xs a w) (put store q v)) e
      (store_set flow new after xs store q a i.of_type v (omega arith) (lies_moved flow.program old new (suc d) same q a i.of_type (omega arith) i.lies) i.scalar s)

  pub store_changed : (store : Store) (xs : List meaning.Change) (x : Change) → IsChangeOf flow.program old d xs x → StoreIs flow.program new scalars store → StoreIs flow.program new (changed scalars x) (change_all xs store)
  store_changed store [] change.Nothing c s = s
  store_changed store (sets q v ∷ []) (change.Set a w) c s = one_set scalars store q a v w c.0 refl c.1 s
  store_changed store (sets q v ∷ sets r w ∷ []) (change.Start a x b y) c s =
      one_set (set scalars a (Some x)) (put store q v) r b w (Some y) c.1.0 (length-set scalars a (Some x)) c.1.1 (one_set scalars store q a v (Some x) c.0.0 refl c.0.1 s)
  store_changed store (copies q r ∷ []) (change.Copy a b n) c s =
      let l = c.target_lies in
      let m = c.source_lies in
      let t = c.of_type in
      let u = room_at flow old before scalars room q a t l in
      let v = room_at flow old before scalars room r b t m in
      let count = c.count in
      let x = c.target_below in
      let y = c.source_below in
      store_copy flow new after scalars store q r a b t n (lies_moved flow.program old new (suc d) same q a t (omega arith) l) (lies_moved flow.program old new (suc d) same r b t (omega arith) m) count (omega arith) (omega arith) s
  store_changed store _ _ c s = absurd c

-- after an effect the activation at its depth goes on
pub store_landed : (flow : Flow) (frames : List Frame) (h : AreFrames flow frames) (n p : ℕ) (g : Frame) (e : slice_get frames n ≡ Some g) → routine_at flow.points p ≡ routine_of frames n
    → (scalars : List (Option ℤ)) (store : Store) → AreScalars flow.program frames scalars → (xs : List meaning.Change) (x : Change) → IsChangeOf flow.program frames n xs x → StoreIs flow.program frames scalars store
    → StoreIs flow.program (take n frames ++ moved_to g p ∷ []) (changed scalars x) (change_all xs (keep_below (suc n) store))
store_landed flow frames h n p g e r scalars store room xs x c s =
    let new = take n frames ++ moved_to g p ∷ [] in
    store_changed flow frames new n h (landed_frames flow frames h n p g e r) (landed_same frames n p g e) scalars room.room (keep_below (suc n) store) xs x c
    (store_kept flow.program frames new (suc n) (landed_same frames n p g e) (landed_back frames n p g e) (landed_height frames n p g e) scalars store s)
