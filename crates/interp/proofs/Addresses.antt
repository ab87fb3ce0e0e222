-- Where variables are found.
use Rattle.std.proofs.Common.{◌≡◌, ℕ, ◌+◌, ◌<◌, true, false, List, length, get_or, refl, sym, ap, ◌∙◌, arith, Option, Some, None}
use Rattle.std.specs.List.{slice_get}
use Rattle.std.specs.Option.{option_map, option_and_then, unwrap_or}
use Rattle.std.proofs.lemmas.Bool.{true≢false, and_parts, eqb-true}
use Rattle.std.proofs.lemmas.Option.{slice_get_within, get_or_from_slice_get}
use Rattle.pas_program.specs.declared.program.Program.{Program}
use Rattle.pas_program.specs.declared.variable.VarDef.{VarDef}
use Rattle.pas_program.specs.declared.variable.VarKind.{VarKind}
use Rattle.pas_program.specs.declared.variable.VarKind.TheVariants as kind
use Rattle.pas_program.specs.Checked.{tables}
use Rattle.pas_program.specs.Tables.{Tables, is_kind, is_own}
use Rattle.pas_program.specs.Typed.{type_of_var}
use Rattle.pas_program.specs.Types.{is_scalar}
use Rattle.control_points.specs.declared.flow.Flow.{Flow}
use Rattle.control_points.specs.Evaluation.{var_type}
use Rattle.interp.specs.declared.frame.Extent.{Extent}
use Rattle.interp.specs.declared.frame.Frame.{Frame}
use Rattle.interp.specs.Deeds.{HasRoom}
use Rattle.interp.specs.Layouts.{count_of, extent_before, extent_of}
use Rattle.interp.specs.Machines.{AreFrames, AreLinks, end_of, routine_of}
use Rattle.interp.proofs.Chains.{holds_some}
use Rattle.interp.proofs.Numbers.{link_place}
use Rattle.interp.proofs.Parts.{scalar_count}
use Rattle.interp.proofs.Storage.{map_found, frame_within, scalars_within}

-- an activation that was read
pub record Found (frames : List Frame) (d r : ℕ) (g : Frame) : Type 0 where
  pub known : slice_get frames d ≡ Some g
  pub routine : g.routine ≡ r

pub found_frame : (frames : List Frame) (d r : ℕ) (g : Frame) → routine_of frames d ≡ Some r → g ≡ get_or frames d g → Found frames d r g
found_frame frames d r g h e =
    let w = map_found (λ (g : Frame). g.routine) (slice_get frames d) r h in
    let s : g ≡ w.0 = e ∙ get_or_from_slice_get frames d w.0 g w.1 in
    record { known = w.1 ∙ ap Some (sym s); routine = ap (λ (g : Frame). g.routine) s ∙ w.2 }

pub within_frames : (frames : List Frame) (d r : ℕ) → routine_of frames d ≡ Some r → d < length frames
within_frames frames d r h = let w = map_found (λ (g : Frame). g.routine) (slice_get frames d) r h in slice_get_within frames d w.0 w.1

-- ---- types of variables

pub var_type_is : (p : Program) (v : ℕ) (x : VarDef) → slice_get p.vars v ≡ Some x → var_type (tables p) v ≡ x.of_type
var_type_is p v x e = ap (λ o. unwrap_or (option_map (λ (d : VarDef). d.of_type) o) 0) e

pub scalar_var : (p : Program) (v : ℕ) → is_scalar (type_of_var (tables p) v) ≡ true → count_of p (var_type (tables p) v) ≡ 1
scalar_var p v h = by_var (slice_get p.vars v) refl
  where
    by_var : (o : Option VarDef) → slice_get p.vars v ≡ o → count_of p (var_type (tables p) v) ≡ 1
    by_var None e = absurd (true≢false (sym h ∙ ap (λ o. is_scalar (option_and_then (λ (d : VarDef). slice_get p.types d.of_type) o)) e))
    by_var (Some x) e =
        ap (count_of p) (var_type_is p v x e)
        ∙ scalar_count p x.of_type (sym (ap (λ o. is_scalar (option_and_then (λ (d : VarDef). slice_get p.types d.of_type) o)) e) ∙ h)

pub scalar_room : (p : Program) (frames : List Frame) (v a : ℕ) → is_scalar (type_of_var (tables p) v) ≡ true → HasRoom p frames (var_type (tables p) v) a → a < (end_of p frames).scalars
scalar_room p frames v a s h = let e = scalar_var p v s in omega (arith, h, e)

-- ---- rooms

-- what a variable parameter stands for
pub linked_room : (flow : Flow) (frames : List Frame) (links : List ℕ) → AreFrames flow frames → AreLinks flow.program frames links → (d v a : ℕ) (off : Extent) (g : Frame) (x : VarDef)
    → slice_get frames d ≡ Some g → slice_get flow.program.vars v ≡ Some x → x.routine ≡ g.routine → is_kind kind.Var x.kind ≡ true → off ≡ extent_before flow.program x.routine v
    → slice_get links (g.base.links + off.links) ≡ Some a → HasRoom flow.program frames (var_type (tables flow.program) v) a
linked_room flow frames links f l d v a off g x e k o i s m =
    let w = frame_within flow frames f d g e in
    let n = l.below d v a g x e k o i (ap (λ (y : Extent). slice_get links (g.base.links + y.links)) (sym s) ∙ m) in
    let t = ap (count_of flow.program) (var_type_is flow.program v x k) in
    omega (arith, w.scalars, n, t)

pub link_within : (flow : Flow) (frames : List Frame) (links : List ℕ) → AreFrames flow frames → AreLinks flow.program frames links → (d v : ℕ) (off : Extent) (g : Frame) (x : VarDef)
    → slice_get frames d ≡ Some g → slice_get flow.program.vars v ≡ Some x → x.routine ≡ g.routine → is_kind kind.Var x.kind ≡ true → off ≡ extent_before flow.program x.routine v
    → g.base.links + off.links < length links
link_within flow frames links f l d v off g x e k o i s =
    let p = link_place flow frames f d v g x e k o i in
    let r = l.room in
    omega (arith, p, r, ap (λ (y : Extent). y.links) s)

-- a variable of its own
pub own_room : (flow : Flow) (frames : List Frame) → AreFrames flow frames → (d v : ℕ) (off : Extent) (g : Frame) (x : VarDef)
    → slice_get frames d ≡ Some g → slice_get flow.program.vars v ≡ Some x → x.routine ≡ g.routine → is_kind kind.Var x.kind ≡ false → off ≡ extent_before flow.program x.routine v
    → HasRoom flow.program frames (var_type (tables flow.program) v) (g.base.scalars + off.scalars)
own_room flow frames f d v off g x e k o i s =
    let w = frame_within flow frames f d g e in
    let n = scalars_within flow.program x.routine v x k refl i in
    let r = ap (λ r. (extent_of flow.program r).scalars) o in
    let t = ap (count_of flow.program) (var_type_is flow.program v x k) in
    let y = ap (λ (y : Extent). y.scalars) s in
    omega (arith, w.scalars, n, r, t, y)

-- ---- kinds

pub not_var : (k : VarKind) → (k ≡ kind.Var → ⊥) → is_kind kind.Var k ≡ false
not_var kind.Local h = refl
not_var kind.Value h = refl
not_var kind.Var h = absurd (h refl)
not_var kind.Result h = refl
not_var kind.Slot h = refl
not_var kind.Bound h = refl

pub slot_not_var : (k : VarKind) → is_kind kind.Slot k ≡ true → is_kind kind.Var k ≡ false
slot_not_var kind.Local h = refl
slot_not_var kind.Value h = refl
slot_not_var kind.Var h = absurd (true≢false (sym h))
slot_not_var kind.Result h = refl
slot_not_var kind.Slot h = refl
slot_not_var kind.Bound h = refl

pub result_not_var : (k : VarKind) → is_kind kind.Result k ≡ true → is_kind kind.Var k ≡ false
result_not_var kind.Local h = refl
result_not_var kind.Value h = refl
result_not_var kind.Var h = absurd (true≢false (sym h))
result_not_var kind.Result h = refl
result_not_var kind.Slot h = refl
result_not_var kind.Bound h = refl

-- ---- scopes

pub record Owned (t : Tables) (r v : ℕ) (k : VarKind) : Type 0 where
  pub var : VarDef
  pub known : t.var_at v ≡ Some var
  pub own : var.routine ≡ r
  pub of_kind : is_kind k var.kind ≡ true

pub owned : (t : Tables) (r v : ℕ) (k : VarKind) → is_own t r k v ≡ true → Owned t r v k
owned t r v k h =
    let w = holds_some _ (t.var_at v) h in
    let p = and_parts _ _ w.2 in
    record { var = w.0; known = w.1; own = eqb-true w.0.routine r p.0; of_kind = p.1 }
