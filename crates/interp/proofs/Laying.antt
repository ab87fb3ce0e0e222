-- The tables of a program's storage, as they are filled.
use Rattle.std.proofs.Common.{◌≡◌, ℕ, zero, suc, ◌+◌, ◌<◌, ◌≤◌, cond, List, [], ◌∷◌, ◌++◌, length, take, set, get_or, refl, sym, ap, ◌∙◌, subst, arith, Some, inl, inr, nat_eq, true, false}
use Rattle.std.proofs.Common.{length-append}
use Rattle.std.proofs.Math.ListN.{length-set}
use Rattle.std.specs.List.{slice_get, sum_by}
use Rattle.std.proofs.lemmas.List.{take_all}
use Rattle.std.proofs.lemmas.List.Sums.{sum_by_more}
use Rattle.std.proofs.lemmas.Bool.{eq-eqb, ne_eqb}
use Rattle.std.proofs.lemmas.Bool.Decides.{eqb_tells}
use Rattle.std.proofs.lemmas.Option.{slice_get_within, slice_get-get_or, get_or_from_slice_get}
use Rattle.pas_program.specs.declared.program.Program.{Program}
use Rattle.pas_program.specs.declared.type_def.TypeDef.{TypeDef}
use Rattle.pas_program.specs.declared.variable.VarDef.{VarDef}
use Rattle.pas_program.specs.Types.{layout}
use Rattle.interp.specs.declared.frame.Extent.{Extent}
use Rattle.interp.specs.Layouts.{AreCounts, extent_before, extent_of, need_in, scalars_of, links_of, storage}
use Rattle.interp.proofs.Lists.{same_some, slice_get-front, slice_get-last, sum_before}
use Rattle.interp.proofs.Storage.{need_own}

-- one more element at the end
pub push_get : {A : Type 0} (xs ys : List A) (x : A) (n k : ℕ) → ys ≡ xs ++ x ∷ [] → length xs ≡ n → k < n → slice_get ys k ≡ slice_get xs k
push_get xs ys x n k e l h = ap (λ zs. slice_get zs k) e ∙ slice_get-front xs (x ∷ []) k (omega arith)

pub push_last : {A : Type 0} (xs ys : List A) (x : A) (n : ℕ) → ys ≡ xs ++ x ∷ [] → length xs ≡ n → slice_get ys n ≡ Some x
push_last xs ys x n e l = ap (λ zs. slice_get zs n) e ∙ ap (slice_get (xs ++ x ∷ [])) (sym l) ∙ slice_get-last xs x

pub push_length : {A : Type 0} (xs ys : List A) (x : A) (n : ℕ) → ys ≡ xs ++ x ∷ [] → length xs ≡ n → length ys ≡ n + 1
push_length xs ys x n e l = let f = ap length e in let g = length-append xs (x ∷ []) in omega arith

-- what holds below n, and at n, holds below n + 1
upto : (n k : ℕ) (P : ℕ → Type 0) → k < n + 1 → (k < n → P k) → P n → P k
upto n k P h below here =
    elim (eqb_tells k n) [
      | inl w ↦ subst P (sym w.1) here
      | inr w ↦ below (let e = w.1 in omega arith)
    ]

pub counts_more : (types : List TypeDef) (old new : List ℕ) (n x : ℕ) → AreCounts types old n → new ≡ old ++ x ∷ [] → x ≡ (layout types n).count → AreCounts types new (n + 1)
counts_more types old new n x h e f = record {
  long = push_length old new x n e h.long;
  each = λ t l. upto n t (λ t. slice_get new t ≡ Some (layout types t).count) l (λ k. push_get old new x n t e h.long k ∙ h.each t k) (push_last old new x n e h.long ∙ ap Some f);
}

pub slice_get-set_same : {A : Type 0} (xs : List A) (i : ℕ) (y : A) → i < length xs → slice_get (set xs i y) i ≡ Some y
slice_get-set_same [] i y h = absurd (omega arith)
slice_get-set_same (x ∷ xs) zero y h = refl
slice_get-set_same (x ∷ xs) (suc i) y h = slice_get-set_same xs i y (omega arith)

pub slice_get-set_other : {A : Type 0} (xs : List A) (i k : ℕ) (y : A) → (k ≡ i → ⊥) → slice_get (set xs i y) k ≡ slice_get xs k
slice_get-set_other [] i k y h = refl
slice_get-set_other (x ∷ xs) zero zero y h = absurd (h refl)
slice_get-set_other (x ∷ xs) zero (suc k) y h = refl
slice_get-set_other (x ∷ xs) (suc i) zero y h = refl
slice_get-set_other (x ∷ xs) (suc i) (suc k) y h = slice_get-set_other xs i k y (λ e. h (ap suc e))

-- the tables so far, of the first n variables
pub record LaidSoFar (p : Program) (offsets extents : List Extent) (n : ℕ) : Type 0 where
  pub offsets_long : length offsets ≡ n
  pub placed : (v : ℕ) (d : VarDef) → v < n → slice_get p.vars v ≡ Some d → slice_get offsets v ≡ Some (extent_before p d.routine v)
  pub extents_long : length extents ≡ length p.routines
  pub needed : (r : ℕ) → r < length p.routines → slice_get extents r ≡ Some (storage p.types r (take n p.vars))

same_extent : (a b c d : ℕ) → a ≡ c → b ≡ d → ◌≡◌ {A = Extent} (record { scalars = a; links = b }) (record { scalars = c; links = d })
same_extent a b c d e f =
    ap (λ n. let x : Extent = record { scalars = n; links = b } in x) e ∙ ap (λ n. let x : Extent = record { scalars = c; links = n } in x) f

-- one more variable for its own routine, and for another
storage_own : (p : Program) (n : ℕ) (d : VarDef) → slice_get p.vars n ≡ Some d
    → ◌≡◌ {A = Extent} (record { scalars = (storage p.types d.routine (take n p.vars)).scalars + scalars_of p.types d; links = (storage p.types d.routine (take n p.vars)).links + links_of d }) (storage p.types d.routine (take (n + 1) p.vars))
storage_own p n d e =
    let w = slice_get_within p.vars n d e in
    let g = get_or_from_slice_get p.vars n d d e in
    let o : nat_eq d.routine d.routine ≡ true = eq-eqb d.routine d.routine refl in
    same_extent _ _ _ _
    (sym (sum_by_more (need_in d.routine (scalars_of p.types)) p.vars n d w ∙ ap (λ x. sum_by (need_in d.routine (scalars_of p.types)) (take n p.vars) + need_in d.routine (scalars_of p.types) x) g
    ∙ ap (λ b. sum_by (need_in d.routine (scalars_of p.types)) (take n p.vars) + cond b (scalars_of p.types d) 0) o))
    (sym (sum_by_more (need_in d.routine links_of) p.vars n d w ∙ ap (λ x. sum_by (need_in d.routine links_of) (take n p.vars) + need_in d.routine links_of x) g
    ∙ ap (λ b. sum_by (need_in d.routine links_of) (take n p.vars) + cond b (links_of d) 0) o))

storage_other : (p : Program) (n r : ℕ) (d : VarDef) → slice_get p.vars n ≡ Some d → (r ≡ d.routine → ⊥) → storage p.types r (take n p.vars) ≡ storage p.types r (take (n + 1) p.vars)
storage_other p n r d e h =
    let w = slice_get_within p.vars n d e in
    let g = get_or_from_slice_get p.vars n d d e in
    let o : nat_eq d.routine r ≡ false = ne_eqb d.routine r (λ k. h (sym k)) in
    let s = sum_by_more (need_in r (scalars_of p.types)) p.vars n d w ∙ ap (λ x. sum_by (need_in r (scalars_of p.types)) (take n p.vars) + need_in r (scalars_of p.types) x) g
    ∙ ap (λ b. sum_by (need_in r (scalars_of p.types)) (take n p.vars) + cond b (scalars_of p.types d) 0) o in
    let l = sum_by_more (need_in r links_of) p.vars n d w ∙ ap (λ x. sum_by (need_in r links_of) (take n p.vars) + need_in r links_of x) g
    ∙ ap (λ b. sum_by (need_in r links_of) (take n p.vars) + cond b (links_of d) 0) o in
    same_extent _ _ _ _ (omega (arith, s)) (omega (arith, l))

abbrev pub added : Extent → Extent → Extent
added x y = record { scalars = x.scalars + y.scalars; links = x.links + y.links }

pub laid_more : (p : Program) (offsets offsets' extents : List Extent) (n : ℕ) (d : VarDef) (off need : Extent) → LaidSoFar p offsets extents n → slice_get p.vars n ≡ Some d → d.routine < length p.routines
    → slice_get extents d.routine ≡ Some off → offsets' ≡ offsets ++ off ∷ [] → need.scalars ≡ scalars_of p.types d → need.links ≡ links_of d
    → LaidSoFar p offsets' (set extents d.routine (added off need)) (n + 1)
laid_more p offsets offsets' extents n d off need h e r o f s l =
    let is : off ≡ storage p.types d.routine (take n p.vars) = same_some _ _ (sym o ∙ h.needed d.routine r) in
    record {
      offsets_long = push_length offsets offsets' off n f h.offsets_long;
      placed = λ v x k g. upto n v (λ v. (x : VarDef) → slice_get p.vars v ≡ Some x → slice_get offsets' v ≡ Some (extent_before p x.routine v)) k
          (λ k x g. push_get offsets offsets' off n v f h.offsets_long k ∙ h.placed v x k g)
          (λ x g. push_last offsets offsets' off n f h.offsets_long ∙ ap Some (is ∙ ap (λ (y : VarDef). storage p.types y.routine (take n p.vars)) (same_some d x (sym e ∙ g)))) x g;
      extents_long = length-set extents d.routine (added off need) ∙ h.extents_long;
      needed = λ q k. elim (eqb_tells q d.routine) [
        | inl w ↦ subst (λ q. slice_get (set extents d.routine (added off need)) q ≡ Some (storage p.types q (take (n + 1) p.vars))) (sym w.1)
            (slice_get-set_same extents d.routine (added off need) (slice_get_within extents d.routine off o)
            ∙ ap Some (same_extent _ _ _ _ (let x = ap (λ (y : Extent). y.scalars) is in omega arith) (let x = ap (λ (y : Extent). y.links) is in omega arith) ∙ storage_own p n d e))
        | inr w ↦ slice_get-set_other extents d.routine q (added off need) w.1 ∙ h.needed q k ∙ ap Some (storage_other p n q d e w.1)
      ];
    }

-- the extent so far of the next variable's routine
pub offset_is : (p : Program) (offsets extents : List Extent) (n : ℕ) (d : VarDef) (off : Extent) → LaidSoFar p offsets extents n → d.routine < length p.routines → off ≡ get_or extents d.routine off → slice_get extents d.routine ≡ Some off
offset_is p offsets extents n d off h r e = slice_get-get_or extents d.routine off (let l = h.extents_long in omega arith) ∙ ap Some (sym e)

-- with what that variable needs it stays in the routine's
pub offset_fits : (p : Program) (offsets extents : List Extent) (n : ℕ) (d : VarDef) (off need : Extent) → LaidSoFar p offsets extents n → slice_get p.vars n ≡ Some d → d.routine < length p.routines → slice_get extents d.routine ≡ Some off
    → need.scalars ≡ scalars_of p.types d → need.links ≡ links_of d → (off.scalars + need.scalars ≤ (extent_of p d.routine).scalars) × (off.links + need.links ≤ (extent_of p d.routine).links)
offset_fits p offsets extents n d off need h e r o s l =
    let is : off ≡ storage p.types d.routine (take n p.vars) = same_some _ _ (sym o ∙ h.needed d.routine r) in (
      omega (arith, sum_before (need_in d.routine (scalars_of p.types)) p.vars n d e, need_own d.routine (scalars_of p.types) d refl, s, ap (λ (x : Extent). x.scalars) is),
      omega (arith, sum_before (need_in d.routine links_of) p.vars n d e, need_own d.routine links_of d refl, l, ap (λ (x : Extent). x.links) is),
    )

-- all variables are laid
pub laid_all : (p : Program) (counts : List ℕ) (offsets extents : List Extent) (n : ℕ) → AreCounts p.types counts (length p.types) → LaidSoFar p offsets extents n → length p.vars ≤ n
    → ((v : ℕ) (d : VarDef) → slice_get p.vars v ≡ Some d → slice_get offsets v ≡ Some (extent_before p d.routine v)) × ((r : ℕ) → r < length p.routines → slice_get extents r ≡ Some (extent_of p r))
laid_all p counts offsets extents n c h l = (
  λ v d e. h.placed v d (let w = slice_get_within p.vars v d e in omega arith) e,
  λ r k. h.needed r k ∙ ap (λ vars. Some (storage p.types r vars)) (take_all n p.vars l),
)
