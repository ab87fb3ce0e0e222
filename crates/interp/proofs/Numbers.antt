-- What is stored stays numbers, and what is linked stays below, through each change.
use Rattle.std.proofs.Common.{◌≡◌, ℕ, zero, suc, ◌+◌, ◌<◌, ◌≤◌, true, List, [], ◌∷◌, ◌++◌, length, take, drop, set, replicate, refl, sym, ap, ◌∙◌, subst, arith, ℤ, Option, Some, None, inl, inr, ◌⊎◌}
use Rattle.std.proofs.Common.{length-append, length-drop, length-take}
use Rattle.std.proofs.Math.ListN.{length-set}
use Rattle.std.specs.List.{slice_get}
use Rattle.std.proofs.lemmas.Option.{none-some}
use Rattle.arithmetic.specs.Numbers.{IsNumber}
use Rattle.pas_program.specs.declared.program.Program.{Program}
use Rattle.pas_program.specs.declared.variable.VarDef.{VarDef}
use Rattle.pas_program.specs.declared.variable.VarKind.TheVariants as kind
use Rattle.pas_program.specs.Tables.{is_kind}
use Rattle.control_points.specs.declared.flow.Flow.{Flow}
use Rattle.interp.specs.declared.decide.Change.{Change}
use Rattle.interp.specs.declared.decide.Change.TheVariants as change
use Rattle.interp.specs.declared.frame.Frame.{Frame}
use Rattle.interp.specs.Deeds.{IsContent, IsChange, changed}
use Rattle.interp.specs.Layouts.{extent_before, extent_of}
use Rattle.interp.specs.Machines.{AreFrames, AreLinks, AreScalars, end_of}
use Rattle.interp.proofs.Lists.{same_some, slice_get-front, slice_get-take}
use Rattle.interp.proofs.Storage.{frame_within, links_within}

-- only numbers are stored
abbrev pub AreNumbers : List (Option ℤ) → Type 0
AreNumbers scalars = (a : ℕ) (z : ℤ) → slice_get scalars a ≡ Some (Some z) → IsNumber z

pub content_is : (v : Option ℤ) (z : ℤ) → IsContent v → v ≡ Some z → IsNumber z
content_is None z h e = absurd (none-some z e)
content_is (Some y) z h e = subst IsNumber (same_some y z e) h

-- what stands in a list of parts stands in one of them
from_append : {A : Type 0} (xs ys : List A) (k : ℕ) (x : A) → slice_get (xs ++ ys) k ≡ Some x → ((j : ℕ) × (slice_get xs j ≡ Some x)) ⊎ ((j : ℕ) × (slice_get ys j ≡ Some x))
from_append [] ys k x e = inr (k, e)
from_append (y ∷ xs) ys zero x e = inl (0, e)
from_append (y ∷ xs) ys (suc k) x e = elim (from_append xs ys k x e) [ inl w ↦ inl (suc w.0, w.1) | inr w ↦ inr w ]

from_take : {A : Type 0} (xs : List A) (n k : ℕ) (x : A) → slice_get (take n xs) k ≡ Some x → (j : ℕ) × (slice_get xs j ≡ Some x)
from_take xs zero k x e = absurd (none-some x e)
from_take [] (suc n) k x e = absurd (none-some x e)
from_take (y ∷ xs) (suc n) zero x e = (0, e)
from_take (y ∷ xs) (suc n) (suc k) x e = let w = from_take xs n k x e in (suc w.0, w.1)

from_drop : {A : Type 0} (xs : List A) (n k : ℕ) (x : A) → slice_get (drop n xs) k ≡ Some x → (j : ℕ) × (slice_get xs j ≡ Some x)
from_drop xs zero k x e = (k, e)
from_drop [] (suc n) k x e = absurd (none-some x e)
from_drop (y ∷ xs) (suc n) k x e = let w = from_drop xs n k x e in (suc w.0, w.1)

from_set : {A : Type 0} (xs : List A) (i : ℕ) (y : A) (k : ℕ) (x : A) → slice_get (set xs i y) k ≡ Some x → (y ≡ x) ⊎ ((j : ℕ) × (slice_get xs j ≡ Some x))
from_set [] i y k x e = absurd (none-some x e)
from_set (z ∷ xs) zero y zero x e = inl (same_some y x e)
from_set (z ∷ xs) zero y (suc k) x e = inr (suc k, e)
from_set (z ∷ xs) (suc i) y zero x e = inr (0, e)
from_set (z ∷ xs) (suc i) y (suc k) x e = elim (from_set xs i y k x e) [ inl w ↦ inl w | inr w ↦ inr (suc w.0, w.1) ]

from_replicate : {A : Type 0} (n : ℕ) (y : A) (k : ℕ) (x : A) → slice_get (replicate n y) k ≡ Some x → y ≡ x
from_replicate zero y k x e = absurd (none-some x e)
from_replicate (suc n) y zero x e = same_some y x e
from_replicate (suc n) y (suc k) x e = from_replicate n y k x e

pub numbers_append : (xs ys : List (Option ℤ)) → AreNumbers xs → AreNumbers ys → AreNumbers (xs ++ ys)
numbers_append xs ys h k a z e = elim (from_append xs ys a (Some z) e) [ inl w ↦ h w.0 z w.1 | inr w ↦ k w.0 z w.1 ]

pub numbers_take : (xs : List (Option ℤ)) (n : ℕ) → AreNumbers xs → AreNumbers (take n xs)
numbers_take xs n h a z e = let w = from_take xs n a (Some z) e in h w.0 z w.1

pub numbers_drop : (xs : List (Option ℤ)) (n : ℕ) → AreNumbers xs → AreNumbers (drop n xs)
numbers_drop xs n h a z e = let w = from_drop xs n a (Some z) e in h w.0 z w.1

pub numbers_set : (xs : List (Option ℤ)) (i : ℕ) (v : Option ℤ) → AreNumbers xs → IsContent v → AreNumbers (set xs i v)
numbers_set xs i v h k a z e = elim (from_set xs i v a (Some z) e) [ inl w ↦ content_is v z k w | inr w ↦ h w.0 z w.1 ]

pub numbers_none : (n : ℕ) → AreNumbers (replicate n None)
numbers_none n a z e = absurd (none-some z (from_replicate n None a (Some z) e))

pub numbers_copy : (xs : List (Option ℤ)) (a b n : ℕ) → AreNumbers xs → AreNumbers (take a xs ++ (take n (drop b xs) ++ drop (a + n) xs))
numbers_copy xs a b n h = numbers_append (take a xs) _ (numbers_take xs a h) (numbers_append (take n (drop b xs)) _ (numbers_take (drop b xs) n (numbers_drop xs b h)) (numbers_drop xs (a + n) h))

pub numbers_changed : (p : Program) (frames : List Frame) (xs : List (Option ℤ)) (x : Change) → IsChange p frames x → AreNumbers xs → AreNumbers (changed xs x)
numbers_changed p frames xs change.Nothing h k = k
numbers_changed p frames xs (change.Set a v) h k = numbers_set xs a v k h.1
numbers_changed p frames xs (change.Start a x b y) h k = numbers_set (set xs a (Some x)) b (Some y) (numbers_set xs a (Some x) k h.2) h.3
numbers_changed p frames xs (change.Copy a b n) h k = numbers_copy xs a b n k

pub length_copy : (xs : List (Option ℤ)) (a b n : ℕ) → a + n ≤ length xs → b + n ≤ length xs → length (take a xs ++ (take n (drop b xs) ++ drop (a + n) xs)) ≡ length xs
length_copy xs a b n h k =
    length-append (take a xs) _ ∙ ap (λ m. length (take a xs) + m) (length-append (take n (drop b xs)) (drop (a + n) xs))
    ∙ (let e = length-take a xs in let f = length-take n (drop b xs) in let g = length-drop b xs in let i = length-drop (a + n) xs in omega arith)

pub length_changed : (p : Program) (frames : List Frame) (xs : List (Option ℤ)) (x : Change) → (end_of p frames).scalars ≤ length xs → IsChange p frames x → length (changed xs x) ≡ length xs
length_changed p frames xs change.Nothing r h = refl
length_changed p frames xs (change.Set a v) r h = length-set xs a v
length_changed p frames xs (change.Start a x b y) r h = length-set (set xs a (Some x)) b (Some y) ∙ length-set xs a (Some x)
length_changed p frames xs (change.Copy a b n) r h = let k = h.0 in let l = h.1 in length_copy xs a b n (omega arith) (omega arith)

-- ---- links

-- the link of a variable parameter lies before the end
pub link_place : (flow : Flow) (frames : List Frame) → AreFrames flow frames → (d v : ℕ) (g : Frame) (x : VarDef) → slice_get frames d ≡ Some g → slice_get flow.program.vars v ≡ Some x → x.routine ≡ g.routine → is_kind kind.Var x.kind ≡ true
    → g.base.links + (extent_before flow.program x.routine v).links < (end_of flow.program frames).links
link_place flow frames h d v g x e f o k =
    let w = frame_within flow frames h d g e in
    let l = links_within flow.program x.routine v x f refl k in
    let r = ap (λ r. (extent_of flow.program r).links) o in
    omega (arith, w.links, l, r)

pub links_kept : (flow : Flow) (frames : List Frame) (old new : List ℕ) → AreFrames flow frames → AreLinks flow.program frames old → (end_of flow.program frames).links ≤ length new
    → ((i : ℕ) → i < (end_of flow.program frames).links → slice_get new i ≡ slice_get old i) → AreLinks flow.program frames new
links_kept flow frames old new h l r same = record {
  room = r;
  below = λ d v a g x e f o k s. l.below d v a g x e f o k (sym (same _ (link_place flow frames h d v g x e f o k)) ∙ s);
}

pub resized_same : {A : Type 0} (xs : List A) (n k i : ℕ) (y : A) → i < n → i < length xs → slice_get (take n xs ++ replicate k y) i ≡ slice_get xs i
resized_same xs n k i y h l = slice_get-front (take n xs) (replicate k y) i (let e = length-take n xs in omega arith) ∙ slice_get-take xs n i h

-- ---- the storage of ended activations taken away, and room for a new one

pub scalars_cut : (p : Program) (frames : List Frame) (xs new : List (Option ℤ)) (n : ℕ) → AreScalars p frames xs → n ≡ (end_of p frames).scalars → new ≡ take n xs → AreScalars p frames new
scalars_cut p frames xs new n s e f = record {
  room = let l = ap length f in let t = length-take n xs in let r = s.room in omega arith;
  numbers = subst AreNumbers (sym f) (numbers_take xs n s.numbers);
}

pub scalars_more : (p : Program) (frames : List Frame) (xs new : List (Option ℤ)) (n k : ℕ) → AreScalars p frames xs → (end_of p frames).scalars ≤ n → new ≡ take n xs ++ replicate k None → AreScalars p frames new
scalars_more p frames xs new n k s e f = record {
  room = let l = ap length f in let a = length-append (take n xs) (replicate {A = Option ℤ} k None) in let t = length-take n xs in let r = s.room in omega arith;
  numbers = subst AreNumbers (sym f) (numbers_append (take n xs) (replicate k None) (numbers_take xs n s.numbers) (numbers_none k));
}

pub links_more : (flow : Flow) (frames : List Frame) (xs new : List ℕ) (n k : ℕ) → AreFrames flow frames → AreLinks flow.program frames xs → (end_of flow.program frames).links ≤ n → new ≡ take n xs ++ replicate k 0 → AreLinks flow.program frames new
links_more flow frames xs new n k h l e f =
    let r = l.room in
    links_kept flow frames xs new h l
    (let m = ap length f in let a = length-append (take n xs) (replicate k 0) in let t = length-take n xs in omega arith)
    (λ i b. ap (λ ys. slice_get ys i) f ∙ resized_same xs n k i 0 (omega arith) (omega arith))
