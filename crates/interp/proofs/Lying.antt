-- Where places lie: parts lie within their variable, and what lies within a variable is a part of it.
use Rattle.std.proofs.Common.{◌≡◌, ℕ, ◌+◌, ◌<◌, ◌≤◌, true, false, cond, List, length, refl, sym, ap, ◌∙◌, arith, ℤ, Some}
use Rattle.std.specs.List.{slice_get}
use Rattle.std.proofs.lemmas.Bool.{ltb-true, and_parts}
use Rattle.pas_program.specs.declared.program.Program.{Program}
use Rattle.pas_program.specs.declared.variable.VarDef.{VarDef}
use Rattle.pas_program.specs.declared.variable.VarKind.TheVariants as kind
use Rattle.pas_program.specs.Tables.{is_kind}
use Rattle.pas_program.specs.Types.{is_scalar}
use Rattle.control_points.specs.declared.flow.Flow.{Flow}
use Rattle.control_points.specs.Storage.{Place, whole, part}
use Rattle.interp.specs.declared.frame.Extent.{Extent}
use Rattle.interp.specs.declared.frame.Frame.{Frame}
use Rattle.interp.specs.Layouts.{scalars_of, need_in, extent_of, extent_before, count_of}
use Rattle.interp.specs.Machines.{AreFrames, end_of}
use Rattle.interp.specs.Places.{Part, Lies, part_of}
use Rattle.interp.proofs.Lists.{sum_between, same_some}
use Rattle.interp.proofs.Parts.{beyond, part_of-append, part_inside, scalar_count}
use Rattle.interp.proofs.Storage.{frame_within, scalars_within, need_own}

-- a variable itself
pub lies_whole : (p : Program) (frames : List Frame) (d v : ℕ) (g : Frame) (x : VarDef) → slice_get frames d ≡ Some g → slice_get p.vars v ≡ Some x → x.routine ≡ g.routine → is_kind kind.Var x.kind ≡ false
    → Lies p frames (whole d v) (g.base.scalars + (extent_before p x.routine v).scalars) x.of_type
lies_whole p frames d v g x e f o k = record {
  frame = g;
  var = x;
  offset = 0;
  activation = e;
  known = f;
  own = o;
  no_link = k;
  part = refl;
  address = omega arith;
}

-- a part of what lies somewhere
pub lies_part : (p : Program) (frames : List Frame) (q : Place) (a n : ℕ) (zs : List ℤ) (w : Part) → Lies p frames q a n → part_of p n zs ≡ Some w → Lies p frames (part q zs) (a + w.offset) w.of_type
lies_part p frames q a n zs w l e = record {
  frame = l.frame;
  var = l.var;
  offset = l.offset + w.offset;
  activation = l.activation;
  known = l.known;
  own = l.own;
  no_link = l.no_link;
  part = part_of-append p l.var.of_type q.subscripts zs _ w l.part e;
  address = let h = l.address in omega arith;
}

pub type_in_range : (p : Program) (v : ℕ) (x : VarDef) → slice_get p.vars v ≡ Some x → x.of_type < length p.types
type_in_range p v x e = ltb-true _ _ (and_parts _ _ (p.in_range.var v x e)).1

-- what lies somewhere has its room there
pub record Room (p : Program) (frames : List Frame) (a t : ℕ) : Type 0 where
  pub room : a + count_of p t ≤ (end_of p frames).scalars
  pub in_range : t < length p.types

pub lies_in : (flow : Flow) (frames : List Frame) → AreFrames flow frames → (q : Place) (a t : ℕ) → Lies flow.program frames q a t → Room flow.program frames a t
lies_in flow frames h q a t l =
    let i = part_inside flow.program l.var.of_type q.subscripts _ (type_in_range flow.program q.var l.var l.known) l.part in
    let s = scalars_within flow.program l.var.routine q.var l.var l.known refl l.no_link in
    let w = (frame_within flow frames h q.depth l.frame l.activation).scalars in
    let o = ap (λ r. (extent_of flow.program r).scalars) l.own in
    record { room = omega (arith, i.room, s, w, o, l.address); in_range = i.in_range }

-- ---- what lies within it

-- activations
apart_frames : (flow : Flow) (frames : List Frame) → AreFrames flow frames → (i j : ℕ) (g h : Frame) → slice_get frames i ≡ Some g → slice_get frames j ≡ Some h → i < j → g.base.scalars + (extent_of flow.program g.routine).scalars ≤ h.base.scalars
apart_frames flow frames f i j g h e k l =
    omega (arith, sum_between (λ (g : Frame). (extent_of flow.program g.routine).scalars) frames i j g l e, ap (λ (x : Extent). x.scalars) (f.base i g e), ap (λ (x : Extent). x.scalars) (f.base j h k))

-- variables of one activation
apart_vars : (p : Program) (r i j : ℕ) (x : VarDef) → slice_get p.vars i ≡ Some x → x.routine ≡ r → is_kind kind.Var x.kind ≡ false → i < j → (extent_before p r i).scalars + count_of p x.of_type ≤ (extent_before p r j).scalars
apart_vars p r i j x e o k l =
    omega (arith, sum_between (need_in r (scalars_of p.types)) p.vars i j x l e, need_own r (scalars_of p.types) x o, ap (λ b. cond b 0 (count_of p x.of_type)) k)

pub equal_by : (m n : ℕ) → (m < n → ⊥) → (n < m → ⊥) → m ≡ n
equal_by m n h k = omega (arith, h, k)

-- where a scalar lies within what lies at q, it is a part of that
pub record Within (p : Program) (q r : Place) (a t b k : ℕ) : Type 0 where
  pub subscripts : List ℤ
  pub offset : ℕ
  pub is : r ≡ part q subscripts
  pub part : part_of p t subscripts ≡ Some (record { offset = offset; of_type = k })
  pub address : b ≡ a + offset

-- where each of the two begins in its activation, and that there it ends
record Bounds (p : Program) (frames : List Frame) (q : Place) (a t : ℕ) (l : Lies p frames q a t) : Type 0 where
  low : (extent_before p l.var.routine q.var).scalars + l.frame.base.scalars ≤ a
  high : a + count_of p t ≤ l.frame.base.scalars + (extent_before p l.var.routine q.var).scalars + count_of p l.var.of_type
  last : a + count_of p t ≤ l.frame.base.scalars + (extent_of p l.frame.routine).scalars
  inside : l.offset + count_of p t ≤ count_of p l.var.of_type

bounds : (p : Program) (frames : List Frame) (q : Place) (a t : ℕ) (l : Lies p frames q a t) → Bounds p frames q a t l
bounds p frames q a t l =
    let i = part_inside p l.var.of_type q.subscripts _ (type_in_range p q.var l.var l.known) l.part in
    let s = scalars_within p l.var.routine q.var l.var l.known refl l.no_link in
    let o = ap (λ r. (extent_of p r).scalars) l.own in
    let e = l.address in
    record { low = omega arith; high = omega (arith, i.room); last = omega (arith, i.room, s, o); inside = i.room }

same_depth : (flow : Flow) (frames : List Frame) → AreFrames flow frames → (q r : Place) (a t b k : ℕ) (l : Lies flow.program frames q a t) (m : Lies flow.program frames r b k)
    → count_of flow.program k ≡ 1 → a ≤ b → b < a + count_of flow.program t → q.depth ≡ r.depth
same_depth flow frames f q r a t b k l m one h g =
    let x = bounds flow.program frames q a t l in
    let y = bounds flow.program frames r b k m in
    equal_by q.depth r.depth
    (λ c. let z = apart_frames flow frames f q.depth r.depth l.frame m.frame l.activation m.activation c in omega (arith, x.last, y.low))
    (λ c. let z = apart_frames flow frames f r.depth q.depth m.frame l.frame m.activation l.activation c in omega (arith, y.last, x.low))

same_var : (p : Program) (frames : List Frame) (q r : Place) (a t b k : ℕ) (l : Lies p frames q a t) (m : Lies p frames r b k)
    → l.frame ≡ m.frame → count_of p k ≡ 1 → a ≤ b → b < a + count_of p t → q.var ≡ r.var
same_var p frames q r a t b k l m s one h g =
    let x = bounds p frames q a t l in
    let y = bounds p frames r b k m in
    let o : m.var.routine ≡ l.var.routine = m.own ∙ ap (λ (g : Frame). g.routine) (sym s) ∙ sym l.own in
    let bs : l.frame.base.scalars ≡ m.frame.base.scalars = ap (λ (g : Frame). g.base.scalars) s in
    let rm : (extent_before p m.var.routine r.var).scalars ≡ (extent_before p l.var.routine r.var).scalars = ap (λ n. (extent_before p n r.var).scalars) o in
    equal_by q.var r.var
    (λ c. let z = apart_vars p l.var.routine q.var r.var l.var l.known refl l.no_link c in omega (arith, x.high, y.low, bs, rm))
    (λ c. let z = apart_vars p l.var.routine r.var q.var m.var m.known o m.no_link c in omega (arith, y.high, x.low, bs, rm))

pub lies_within : (flow : Flow) (frames : List Frame) → AreFrames flow frames → (q r : Place) (a t b k : ℕ) → Lies flow.program frames q a t → Lies flow.program frames r b k
    → is_scalar (slice_get flow.program.types k) ≡ true → a ≤ b → b < a + count_of flow.program t → Within flow.program q r a t b k
lies_within flow frames f q r a t b k l m s h g =
    let p = flow.program in
    let one = scalar_count p k s in
    let d = same_depth flow frames f q r a t b k l m one h g in
    let fs : l.frame ≡ m.frame = same_some l.frame m.frame (sym l.activation ∙ ap (slice_get frames) d ∙ m.activation) in
    let v = same_var p frames q r a t b k l m fs one h g in
    let xs : l.var ≡ m.var = same_some l.var m.var (sym l.known ∙ ap (slice_get p.vars) v ∙ m.known) in
    let bs : l.frame.base.scalars ≡ m.frame.base.scalars = ap (λ (g : Frame). g.base.scalars) fs in
    let rs : (extent_before p l.var.routine q.var).scalars ≡ (extent_before p m.var.routine r.var).scalars =
    ap (λ (x : VarDef). (extent_before p x.routine q.var).scalars) xs ∙ ap (λ v. (extent_before p m.var.routine v).scalars) v in
    let la = l.address in
    let ma = m.address in
    let low : l.offset ≤ m.offset = omega arith in
    let high : m.offset < l.offset + count_of p t = omega arith in
    let w = beyond p l.var.of_type q.subscripts r.subscripts l.offset t m.offset k (type_in_range p q.var l.var l.known) l.part (ap (λ (x : VarDef). part_of p x.of_type r.subscripts) xs ∙ m.part) s low high in
    record {
      subscripts = w.subscripts;
      offset = w.offset;
      is = ap (λ n. let x : Place = record { depth = n; var = r.var; subscripts = r.subscripts } in x) (sym d)
          ∙ ap (λ n. let x : Place = record { depth = q.depth; var = n; subscripts = r.subscripts } in x) (sym v)
          ∙ ap (λ n. let x : Place = record { depth = q.depth; var = q.var; subscripts = n } in x) w.is;
      part = w.part;
      address = let e = w.lies in omega arith;
    }
