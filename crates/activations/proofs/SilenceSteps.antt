-- The routines that have a `goto` to a label of another one, as they are found edge by edge, and the classes of them.
use Rattle.std.proofs.Common.{◌≡◌, ℕ, zero, suc, ◌+◌, ◌<◌, Bool, true, false, List, [], ◌∷◌, ◌++◌, length, get_or, replicate, set, Some, slice_get, refl, sym, ap, subst, ◌∙◌, inl, inr, arith, length-append}
use Rattle.std.specs.Prelude.{◌⊎◌}
use Rattle.std.proofs.lemmas.Bool.{cases_eq, cases_lt}
use Rattle.std.proofs.lemmas.List.{length-set}
use Rattle.std.proofs.lemmas.Option.{slice_get-get_or}
use Rattle.control_points.specs.declared.edge.Edge.{Edge}
use Rattle.control_points.specs.declared.flow.Flow.{Flow}
use Rattle.control_points.specs.Fits.{routine_at}
use Rattle.alias_class.specs.declared.outline.Outline.{Outline}
use Rattle.alias_class.specs.Cells.{IsClass, routine_of}
use Rattle.alias_class.specs.Classes.{Class, class_at}
use Rattle.alias_class.specs.Tables.{Table}
use Rattle.activations.specs.Outside.{AreLeaving, AreOfRoutines, AreOthers, HasGoto, IsOther, LeadsOut}
use Rattle.activations.proofs.Blocks.{append_at_left, append_at_right}
use Rattle.activations.proofs.DiscoveredPoints.{point_at}
use Rattle.activations.proofs.SilenceMarks.{kept_other, put_here, put_other}

-- ---- edge by edge

none_marked : (n r : ℕ) → slice_get (replicate n false) r ≡ Some true → ⊥
none_marked zero r h = absurd (grind (arith, h))
none_marked (suc n) zero h = absurd (grind (arith, h))
none_marked (suc n) (suc r) h = none_marked n r h

long_none : (n : ℕ) → length (replicate n false) ≡ n
long_none zero = refl
long_none (suc n) = ap suc (long_none n)

pub leaving_none : (f : Flow) (marks : List Bool) → marks ≡ replicate (length f.program.routines) false → AreLeaving f 0 marks
leaving_none f marks is = record {
  long = ap (λ (l : List Bool). length l) is ∙ long_none (length f.program.routines);
  marked = λ r h. absurd (none_marked (length f.program.routines) r (subst (λ (l : List Bool). slice_get l r ≡ Some true) is h));
  all = λ r h. absurd (omega (arith, h.before));
}

module _ (f : Flow) (n s : ℕ) (e : Edge) (known : slice_get f.edges n ≡ Some e) (stands : routine_at f.points e.from ≡ Some s) where
  wider : (r : ℕ) → HasGoto f n r → HasGoto f (n + 1) r
  wider r h = record { number = h.number; edge = h.edge; before = omega (arith, h.before); known = h.known; stands = h.stands; out = h.out }

  here_goto : LeadsOut e.act s → HasGoto f (n + 1) s
  here_goto out = record { number = n; edge = e; before = omega arith; known = known; stands = stands; out = out }

  -- one of these edges, or the one before
  last_goto : (r : ℕ) → HasGoto f (n + 1) r → HasGoto f n r ⊎ ((s ≡ r) × LeadsOut e.act s)
  last_goto r h = elim (cases_eq h.number n) [
    | inl same ↦
        let is : h.edge ≡ e = grind (arith, sym h.known ∙ ap (λ (k : ℕ). slice_get f.edges k) same ∙ known) in
        let there : Some s ≡ Some r = sym stands ∙ ap (λ (d : Edge). routine_at f.points d.from) (sym is) ∙ h.stands in
        let routine : s ≡ r = grind (arith, there) in
        inr (routine, subst (λ (t : ℕ). LeadsOut e.act t) (sym routine) (subst (λ (d : Edge). LeadsOut d.act r) is h.out))
    | inr other ↦ inl (record { number = h.number; edge = h.edge; before = omega (arith, h.before, other); known = h.known; stands = h.stands; out = h.out })
  ]

  pub routine_within : (marks : List Bool) → AreLeaving f n marks → s < length marks
  routine_within marks leaving =
      let q = point_at f.points e.from s stands in
      let below = f.points_fit.routine e.from q.0 q.1 in
      omega (arith, below, q.2, leaving.long)

  pub leaving_more : (marks : List Bool) → AreLeaving f n marks → LeadsOut e.act s → AreLeaving f (n + 1) (set marks s true)
  leaving_more marks leaving out = record {
    long = length-set marks s true ∙ leaving.long;
    marked = λ r h. elim (cases_eq r s) [
      | inl same ↦ subst (λ (t : ℕ). HasGoto f (n + 1) t) (sym same) (here_goto out)
      | inr other ↦ wider r (leaving.marked r (put_other marks s r true true other h))
    ];
    all = λ r h. elim (cases_eq r s) [
      | inl same ↦ subst (λ (t : ℕ). slice_get (set marks s true) t ≡ Some true) (sym same) (put_here marks s true (routine_within marks leaving))
      | inr other ↦ elim (last_goto r h) [
        | inl before ↦ kept_other marks s r true true other (leaving.all r before)
        | inr last ↦ absurd (other (sym last.0))
      ]
    ];
  }

  pub leaving_same : (marks : List Bool) → AreLeaving f n marks → (LeadsOut e.act s → ⊥) → AreLeaving f (n + 1) marks
  leaving_same marks leaving stays = record {
    long = leaving.long;
    marked = λ r h. wider r (leaving.marked r h);
    all = λ r h. elim (last_goto r h) [
      | inl before ↦ leaving.all r before
      | inr last ↦ absurd (stays last.1)
    ];
  }

-- ---- the classes of routines

pub routine_below : (o : Outline) (c : Class) (n : ℕ) → IsClass o c → o.main < n → n ≡ length o.routines → routine_of o c < n
routine_below o [] n is_class main all = main
routine_below o (e ∷ parent) n is_class main all = omega (arith, is_class.0.known, all)

pub of_routines_none : (t : Table) (routines : List Bool) → AreOfRoutines t routines 0 []
of_routines_none t routines = record { long = refl; each = λ i below. absurd (omega (arith, below)) }

pub of_routines_more : (t : Table) (routines marks : List Bool) (n : ℕ) (b : Bool) → AreOfRoutines t routines n marks → slice_get routines (routine_of t.outline (class_at t.classes n)) ≡ Some b → AreOfRoutines t routines (n + 1) (marks ++ b ∷ [])
of_routines_more t routines marks n b so_far at = record {
  long = length-append marks (b ∷ []) ∙ omega (arith, so_far.long);
  each = λ i below. elim (cases_lt i n) [
    | inl before ↦ front i before
    | inr last ↦ back i (omega (arith, below, last, so_far.long))
  ];
}
  where
    front : (i : ℕ) → i < n → slice_get (marks ++ b ∷ []) i ≡ slice_get routines (routine_of t.outline (class_at t.classes i))
    front i before =
        let there = slice_get-get_or marks i true (omega (arith, before, so_far.long)) in
        append_at_left marks (b ∷ []) i (get_or marks i true) there ∙ sym there ∙ so_far.each i before

    back : (i : ℕ) → length marks + 0 ≡ i → slice_get (marks ++ b ∷ []) i ≡ slice_get routines (routine_of t.outline (class_at t.classes i))
    back i is =
        let same : n ≡ i = omega (arith, is, so_far.long) in
        subst (λ (k : ℕ). slice_get (marks ++ b ∷ []) k ≡ Some b) is (append_at_right marks (b ∷ []) 0 b refl)
        ∙ sym at ∙ ap (λ (k : ℕ). slice_get routines (routine_of t.outline (class_at t.classes k))) same

-- ---- those that are neither left nor of a routine

pub others_more : (t : Table) (left marks : List Bool) (stands n : ℕ) (b : Bool) → AreOthers t left stands n marks → n < length t.classes → IsOther left stands n (routine_of t.outline (class_at t.classes n)) b
    → AreOthers t left stands (n + 1) (set marks n b)
others_more t left marks stands n b so_far within here = record {
  long = length-set marks n b ∙ so_far.long;
  each = λ i x below at. elim (cases_eq i n) [
    | inl same ↦
        let put = put_here marks n b (omega (arith, within, so_far.long)) in
        let is : Some b ≡ Some x = sym put ∙ ap (λ (k : ℕ). slice_get (set marks n b) k) (sym same) ∙ at in
        let value : b ≡ x = grind (arith, is) in
        subst (λ (k : ℕ). IsOther left stands k (routine_of t.outline (class_at t.classes k)) x) (sym same)
        (subst (λ (y : Bool). IsOther left stands n (routine_of t.outline (class_at t.classes n)) y) value here)
    | inr other ↦ so_far.each i x (omega (arith, below, other)) (put_other marks n i b x other at)
  ];
}

pub others_none : (t : Table) (left marks : List Bool) (stands : ℕ) → length marks ≡ length t.classes → AreOthers t left stands 0 marks
others_none t left marks stands long = record { long = long; each = λ i b below at. absurd (omega (arith, below)) }
