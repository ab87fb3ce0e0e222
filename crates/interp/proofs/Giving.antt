-- The storage that a formal has in a new activation.
use Rattle.std.proofs.Common.{◌≡◌, ℕ, ◌+◌, ◌<◌, ◌≤◌, true, false, List, length, set, refl, sym, ap, subst, arith, ℤ, Option, Some}
use Rattle.std.proofs.Math.ListN.{length-set}
use Rattle.std.specs.List.{slice_get}
use Rattle.std.proofs.lemmas.List.Sums.{sum_by-take-le}
use Rattle.arithmetic.specs.Numbers.{IsNumber}
use Rattle.pas_program.specs.declared.program.Program.{Program}
use Rattle.pas_program.specs.declared.variable.VarDef.{VarDef}
use Rattle.pas_program.specs.declared.variable.VarKind.TheVariants as kind
use Rattle.pas_program.specs.Tables.{is_kind}
use Rattle.control_points.specs.declared.flow.Flow.{Flow}
use Rattle.interp.specs.declared.call.Argument.TheVariants as argument
use Rattle.interp.specs.declared.decide.Change.TheVariants as change
use Rattle.interp.specs.declared.frame.Extent.{Extent}
use Rattle.interp.specs.declared.frame.Frame.{Frame}
use Rattle.interp.specs.Calls.{HasNew, HasNewFor, IsArgument}
use Rattle.interp.specs.Deeds.{changed}
use Rattle.interp.specs.Layouts.{count_of, extent_before, links_of, need_in, scalars_of}
use Rattle.interp.specs.Machines.{AreFrames, AreLinks, AreScalars, end_of}
use Rattle.interp.proofs.Laying.{slice_get-set_other}
use Rattle.interp.proofs.Lists.{some_at}
use Rattle.interp.proofs.Numbers.{AreNumbers, links_kept, length_copy, numbers_copy, numbers_set}
use Rattle.interp.proofs.Storage.{links_within, scalars_within}

pub record Giving (p : Program) (frames : List Frame) (formal : ℕ) (base off : Extent) (links : List ℕ) (scalars : List (Option ℤ)) : Type 0 where
  pub var : VarDef
  pub known : slice_get p.vars formal ≡ Some var
  pub there : base ≡ end_of p frames
  pub before : off ≡ extent_before p var.routine formal
  pub room : HasNew p frames var.routine links scalars
  pub low : base.scalars + off.scalars ≤ length scalars
  pub low_links : base.links + off.links ≤ length links

pub giving : (p : Program) (frames : List Frame) (formal : ℕ) (base off : Extent) (links : List ℕ) (scalars : List (Option ℤ)) → formal < length p.vars → base ≡ end_of p frames → HasNewFor p frames formal links scalars
    → ((d : VarDef) → slice_get p.vars formal ≡ Some d → off ≡ extent_before p d.routine formal) → Giving p frames formal base off links scalars
giving p frames formal base off links scalars h b r o =
    let w = some_at p.vars formal h in
    let x = w.0 in
    let n = r x w.1 in
    let f = o x w.1 in
    let s = sum_by-take-le (need_in x.routine (scalars_of p.types)) p.vars formal in
    let l = sum_by-take-le (need_in x.routine links_of) p.vars formal in
    record {
      var = x;
      known = w.1;
      there = b;
      before = f;
      room = n;
      low = omega (arith, s, n.scalars_room, ap (λ (y : Extent). y.scalars) b, ap (λ (y : Extent). y.scalars) f);
      low_links = omega (arith, l, n.links_room, ap (λ (y : Extent). y.links) b, ap (λ (y : Extent). y.links) f);
    }

module _ (p : Program) (frames : List Frame) (formal : ℕ) (base off : Extent) (links : List ℕ) (scalars : List (Option ℤ)) (g : Giving p frames formal base off links scalars) where
  pub give_scalars : is_kind kind.Var g.var.kind ≡ false → base.scalars + off.scalars + count_of p g.var.of_type ≤ length scalars
  give_scalars k =
      omega (arith, scalars_within p g.var.routine formal g.var g.known refl k, g.room.scalars_room, ap (λ (y : Extent). y.scalars) g.there, ap (λ (y : Extent). y.scalars) g.before)

  pub give_link : is_kind kind.Var g.var.kind ≡ true → base.links + off.links < length links
  give_link k =
      omega (arith, links_within p g.var.routine formal g.var g.known refl k, g.room.links_room, ap (λ (y : Extent). y.links) g.there, ap (λ (y : Extent). y.links) g.before)

  pub give_number : (z : ℤ) → IsArgument p frames formal (argument.Number z) → base.scalars + off.scalars < length scalars
  give_number z a = let q = a g.var g.known in let r = give_scalars q.0 in let one = q.1 in omega arith

  pub give_array : (a n : ℕ) → IsArgument p frames formal (argument.Array a n) → (end_of p frames).scalars ≤ length scalars → (base.scalars + off.scalars + n ≤ length scalars) × (a + n ≤ length scalars)
  give_array a n h e = let q = h g.var g.known in let r = give_scalars q.0 in let m = q.1 in let l = q.2 in (omega arith, omega arith)

  pub give_variable : (a : ℕ) → IsArgument p frames formal (argument.Variable a) → base.links + off.links < length links
  give_variable a h = give_link (h g.var g.known).0

pub scalars_set : (p : Program) (frames : List Frame) (scalars new : List (Option ℤ)) (a : ℕ) (z : ℤ) → AreScalars p frames scalars → IsNumber z → new ≡ set scalars a (Some z) → AreScalars p frames new
scalars_set p frames scalars new a z s n e = record {
  room = let l = ap length e in let k = length-set scalars a (Some z) in let r = s.room in omega arith;
  numbers = subst AreNumbers (sym e) (numbers_set scalars a (Some z) s.numbers n);
}

pub scalars_copied : (p : Program) (frames : List Frame) (scalars new : List (Option ℤ)) (a b n : ℕ) → AreScalars p frames scalars → a + n ≤ length scalars → b + n ≤ length scalars → new ≡ changed scalars (change.Copy a b n) → AreScalars p frames new
scalars_copied p frames scalars new a b n s h k e = record {
  room = let l = ap length e in let m = length_copy scalars a b n h k in let r = s.room in omega arith;
  numbers = subst AreNumbers (sym e) (numbers_copy scalars a b n s.numbers);
}

pub links_set : (flow : Flow) (frames : List Frame) (links : List ℕ) (i a : ℕ) → AreFrames flow frames → AreLinks flow.program frames links → (end_of flow.program frames).links ≤ i → AreLinks flow.program frames (set links i a)
links_set flow frames links i a f l h = links_kept flow frames links (set links i a) f l (let e = length-set links i a in let r = l.room in omega arith) (λ j k. slice_get-set_other links i j a (λ e. omega (arith, h, k, e)))
