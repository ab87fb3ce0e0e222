-- The storage of an activation lies within that of all, and a variable's within that of its activation.
use Rattle.std.proofs.Common.{◌≡◌, ℕ, suc, ◌+◌, ◌*◌, ◌-◌, ◌<◌, ◌≤◌, Bool, true, false, cond, List, [], ◌∷◌, length, take, refl, sym, ap, ◌∙◌, subst, arith, Option, Some, None, nat_eq}
use Rattle.std.specs.List.{slice_get, sum_by}
use Rattle.std.specs.Option.{option_map}
use Rattle.std.proofs.lemmas.Bool.{eq-eqb}
use Rattle.std.proofs.lemmas.List.{take_all}
use Rattle.std.proofs.lemmas.List.Sums.{sum_by_more, sum_by-cons}
use Rattle.std.proofs.lemmas.Option.{none-some, slice_get_within, get_or_from_slice_get}
use Rattle.pas_program.specs.declared.program.Program.{Program}
use Rattle.pas_program.specs.declared.variable.VarDef.{VarDef}
use Rattle.pas_program.specs.declared.variable.VarKind.TheVariants as kind
use Rattle.pas_program.specs.Tables.{is_kind}
use Rattle.pas_program.proofs.Layouts.{layout_few}
use Rattle.control_points.specs.declared.flow.Flow.{Flow}
use Rattle.control_points.specs.declared.point.Point.{Point}
use Rattle.interp.specs.declared.frame.Extent.{Extent}
use Rattle.interp.specs.declared.frame.Frame.{Frame}
use Rattle.interp.specs.Layouts.{scalars_of, links_of, need_in, extent_of, extent_before, count_of}
use Rattle.interp.specs.Machines.{AreFrames, end_of}
use Rattle.interp.proofs.Lists.{sum_before}

pub need_own : (r : ℕ) (need : VarDef → ℕ) (d : VarDef) → d.routine ≡ r → need_in r need d ≡ need d
need_own r need d e = ap (λ b. cond b (need d) 0) (eq-eqb d.routine r e)

-- a variable with scalars lies before the end of its activation
pub scalars_within : (p : Program) (r v : ℕ) (d : VarDef) → slice_get p.vars v ≡ Some d → d.routine ≡ r → is_kind kind.Var d.kind ≡ false → (extent_before p r v).scalars + count_of p d.of_type ≤ (extent_of p r).scalars
scalars_within p r v d e o k =
    let s = sum_before (need_in r (scalars_of p.types)) p.vars v d e in
    omega (arith, s, need_own r (scalars_of p.types) d o, ap (λ b. cond b 0 (count_of p d.of_type)) k)

-- and so does a link
pub links_within : (p : Program) (r v : ℕ) (d : VarDef) → slice_get p.vars v ≡ Some d → d.routine ≡ r → is_kind kind.Var d.kind ≡ true → (extent_before p r v).links + 1 ≤ (extent_of p r).links
links_within p r v d e o k =
    let s = sum_before (need_in r links_of) p.vars v d e in
    omega (arith, s, need_own r links_of d o, ap {B = ℕ} (λ b. cond b 1 0) k)

-- an activation's storage lies before the end
pub record FrameWithin (p : Program) (frames : List Frame) (g : Frame) : Type 0 where
  pub scalars : g.base.scalars + (extent_of p g.routine).scalars ≤ (end_of p frames).scalars
  pub links : g.base.links + (extent_of p g.routine).links ≤ (end_of p frames).links

pub frame_within : (flow : Flow) (frames : List Frame) → AreFrames flow frames → (d : ℕ) (g : Frame) → slice_get frames d ≡ Some g → FrameWithin flow.program frames g
frame_within flow frames h d g e =
    let b = h.base d g e in
    record {
      scalars = omega (arith, sum_before (λ (g : Frame). (extent_of flow.program g.routine).scalars) frames d g e, ap (λ (x : Extent). x.scalars) b);
      links = omega (arith, sum_before (λ (g : Frame). (extent_of flow.program g.routine).links) frames d g e, ap (λ (x : Extent). x.links) b);
    }

-- the sum up to the last element, and that of it
sum_last : {A : Type 0} (f : A → ℕ) (xs : List A) (d : ℕ) (x : A) → slice_get xs d ≡ Some x → suc d ≡ length xs → sum_by f xs ≡ sum_by f (take d xs) + f x
sum_last f xs d x e h =
    let l : d + 1 ≡ length xs = omega arith in
    let k : length xs ≤ d + 1 = omega arith in
    sym (ap (sum_by f) (take_all (d + 1) xs k)) ∙ sum_by_more f xs d x (slice_get_within xs d x e) ∙ ap (λ y. sum_by f (take d xs) + f y) (get_or_from_slice_get xs d x x e)

-- the end is that of the latest activation
pub end_is : (flow : Flow) (frames : List Frame) → AreFrames flow frames → (g : Frame) → slice_get frames (length frames - 1) ≡ Some g
    → ◌≡◌ {A = Extent} (record { scalars = g.base.scalars + (extent_of flow.program g.routine).scalars; links = g.base.links + (extent_of flow.program g.routine).links }) (end_of flow.program frames)
end_is flow frames h g e =
    let b = h.base (length frames - 1) g e in
    let n : suc (length frames - 1) ≡ length frames = omega (arith, h.some) in
    let s = sum_last (λ (g : Frame). (extent_of flow.program g.routine).scalars) frames (length frames - 1) g e n in
    let l = sum_last (λ (g : Frame). (extent_of flow.program g.routine).links) frames (length frames - 1) g e n in
    let x : g.base.scalars + (extent_of flow.program g.routine).scalars ≡ (end_of flow.program frames).scalars = omega (arith, s, ap (λ (x : Extent). x.scalars) b) in
    let y : g.base.links + (extent_of flow.program g.routine).links ≡ (end_of flow.program frames).links = omega (arith, l, ap (λ (x : Extent). x.links) b) in
    ap (λ n. let q : Extent = record { scalars = n; links = g.base.links + (extent_of flow.program g.routine).links } in q) x
    ∙ ap (λ n. let q : Extent = record { scalars = (end_of flow.program frames).scalars; links = n } in q) y

-- ---- points

pub map_found : {A B : Type 0} (f : A → B) (o : Option A) (y : B) → option_map f o ≡ Some y → (x : A) × (o ≡ Some x) × (f x ≡ y)
map_found f None y h = absurd (none-some y h)
map_found f (Some x) y h = (x, refl, cc)

pub record Stands (flow : Flow) (g : Frame) : Type 0 where
  pub point : Point
  pub known : slice_get flow.points g.point ≡ Some point
  pub same : point.routine ≡ g.routine
  pub in_range : g.point < length flow.points
  pub routine_in_range : g.routine < length flow.program.routines

pub frame_stands : (flow : Flow) (frames : List Frame) → AreFrames flow frames → (d : ℕ) (g : Frame) → slice_get frames d ≡ Some g → Stands flow g
frame_stands flow frames h d g e =
    let w = map_found (λ (q : Point). q.routine) (slice_get flow.points g.point) g.routine (h.stands d g e) in
    record {
      point = w.0;
      known = w.1;
      same = w.2;
      in_range = slice_get_within flow.points g.point w.0 w.1;
      routine_in_range = subst (λ r. r < length flow.program.routines) w.2 (flow.points_fit.routine g.point w.0 w.1);
    }

-- ---- bounds

sum_few : {A : Type 0} (f : A → ℕ) (m : ℕ) → ((x : A) → f x ≤ m) → (xs : List A) → sum_by f xs ≤ length xs * m
sum_few f m h [] = omega arith
sum_few f m h (x ∷ xs) = omega (arith, sum_by-cons f x xs, h x, sum_few f m h xs)

cond_few : (b : Bool) (x m : ℕ) → x ≤ m → cond b x 0 ≤ m
cond_few true x m h = h
cond_few false x m h = omega arith

cond_few_else : (b : Bool) (x m : ℕ) → x ≤ m → cond b 0 x ≤ m
cond_few_else true x m h = omega arith
cond_few_else false x m h = h

pub scalars_few : (p : Program) (r : ℕ) (vars : List VarDef) → sum_by (need_in r (scalars_of p.types)) vars ≤ length vars * 1000000
scalars_few p r vars =
    sum_few (need_in r (scalars_of p.types)) 1000000
    (λ d. cond_few (nat_eq d.routine r) (scalars_of p.types d) 1000000 (cond_few_else (is_kind kind.Var d.kind) (count_of p d.of_type) 1000000 (layout_few p.types d.of_type p.types_fit)))
    vars

pub links_few : (r : ℕ) (vars : List VarDef) → sum_by (need_in r links_of) vars ≤ length vars * 1
links_few r vars = sum_few (need_in r links_of) 1 (λ d. cond_few (nat_eq d.routine r) (links_of d) 1 (cond_few (is_kind kind.Var d.kind) 1 1 (omega arith))) vars

-- the storage of an activation is small
pub record Few (p : Program) (r : ℕ) : Type 0 where
  pub scalars : (extent_of p r).scalars ≤ 8388608000000
  pub links : (extent_of p r).links ≤ 8388608

pub extent_few : (p : Program) (r : ℕ) → Few p r
extent_few p r = record {
  scalars = omega (arith, scalars_few p r p.vars, p.bounded.vars_few);
  links = omega (arith, links_few r p.vars, p.bounded.vars_few);
}
