-- What a flow keeps, of the points, edges and checks as the walks leave them.
use Rattle.std.proofs.Common.{◌≡◌, inl, inr, ℕ, zero, suc, ◌+◌, ◌-◌, ◌^◌, ◌<◌, ◌≤◌, true, List, [], ◌∷◌, ◌++◌, map, length, get_or, take, drop, nat_lt, refl, sym, ap, subst, ◌∙◌, Option, Some, None, arith}
use Rattle.std.proofs.lemmas.Bool.{cases_lt}
use Rattle.std.proofs.lemmas.List.{at_drop_more, length-map}
use Rattle.std.proofs.lemmas.Option.{none-some, slice_get_within}
use Rattle.std.specs.List.{list_all, slice_get, slice_index, slice_range}
use Rattle.std.specs.Option.{option_map}
use Rattle.pas_program.specs.declared.program.Program.{Program}
use Rattle.pas_program.specs.declared.routine.Routine.{Routine}
use Rattle.pas_program.specs.Checked.{numbers_in}
use Rattle.pas_program.specs.Scopes.{is_outermost}
use Rattle.control_points.specs.declared.edge.Edge.{Edge}
use Rattle.control_points.specs.declared.labels.Labels.{Labels}
use Rattle.control_points.specs.declared.numbering.Mark.{Mark}
use Rattle.control_points.specs.declared.point.Point.{Point}
use Rattle.control_points.specs.Extents.{routine_points, routine_sizes, routines_sizes}
use Rattle.control_points.specs.Fits.{AssertsFit, EdgesFit, PointsFit, routine_at}
use Rattle.control_points.specs.Leading.{EdgesLead, EntriesFit, ExitsReturn}
use Rattle.control_points.specs.Marks.{Marks, routines_marks, starts}
use Rattle.control_points.specs.Scenes.{LabelsLead}
use Rattle.control_points.specs.Wired.{AreBlocks, Begins, IsBlock, IsWired, points_of}
use Rattle.control_points.proofs.Asserted.{asserts_at, routines_pass}
use Rattle.control_points.proofs.Blocks.{block_size, blocks_of, get_mapped, marks_below, starts_grow}
use Rattle.control_points.proofs.Drawn.{point_within}
use Rattle.control_points.proofs.Labelling.{HasLabels, label_within}
use Rattle.control_points.proofs.Listed.{same_some}
use Rattle.control_points.proofs.Sizes.{sizes_both}
use Rattle.control_points.proofs.ValidEntries.{entry_from}

-- an element of what is made of a list
found_from : {A B : Type 0} (f : A → B) (o : Option A) (y : B) → option_map f o ≡ Some y → (x : A) × (o ≡ Some x) × (f x ≡ y)
found_from f None y h = absurd (none-some y h)
found_from f (Some x) y h = (x, refl, same_some h)

pub mapped_found : {A B : Type 0} (f : A → B) (xs : List A) (k : ℕ) (y : B) → slice_get (map f xs) k ≡ Some y → (x : A) × (slice_get xs k ≡ Some x) × (f x ≡ y)
mapped_found f xs k y h = found_from f (slice_get xs k) y (sym (get_mapped f xs k) ∙ h)

abbrev AllOutermost : List Routine → Type 0
AllOutermost routines = (k : ℕ) (d : Routine) → slice_get routines k ≡ Some d → is_outermost d.body ≡ true

take_few : {A : Type 0} (k : ℕ) (xs : List A) → length (take k xs) ≤ k
take_few zero xs = omega arith
take_few (suc k) [] = omega arith
take_few (suc k) (x ∷ xs) = omega (arith, take_few k xs)

-- the sizes of one routine, and those of the routines behind it
pub routine_next : (routines : List Routine) (zs : List ℕ) (k : ℕ) (d : Routine) (order : ℕ) → k < length routines → d ≡ get_or routines k d → Begins (routines_sizes (drop k routines)) (drop order zs)
    → Begins (routine_sizes d) (drop order zs) × Begins (routines_sizes (drop (k + 1) routines)) (drop (order + length (routine_sizes d)) zs)
routine_next routines zs k d order within is b =
    let left : routines_sizes (drop k routines) ≡ routine_sizes d ++ routines_sizes (drop (k + 1) routines) = at_drop_more routines_sizes routines k d within ∙ ap (λ x. routine_sizes x ++ routines_sizes (drop (k + 1) routines)) (sym is) in
    sizes_both zs order (routine_sizes d) (routines_sizes (drop (k + 1) routines)) (subst (λ xs. Begins xs (drop order zs)) left b)

-- from the entry to the exit
pub owned : (points : List Point) (r entry exit : ℕ) → IsBlock points r entry exit → (p : ℕ) → entry ≤ p → p ≤ exit → routine_at points p ≡ Some r
owned points r entry exit b p low high =
    elim (cases_lt entry p) [
      | inl after ↦ elim (cases_lt p exit) [ inl before ↦ b.own p after before | inr last ↦ subst (λ n. routine_at points n ≡ Some r) (omega arith) b.exit_own ]
      | inr first ↦ subst (λ n. routine_at points n ≡ Some r) (omega arith) b.entry_own
    ]

module _ (program : Program) (marks : Marks) (is : marks ≡ routines_marks 0 program.routines) where
  outermost : AllOutermost program.routines
  outermost = program.in_scope.outermost

  pub points_fit : PointsFit program (points_of marks)
  points_fit = record {
    routine = λ p q h.
        let m = mapped_found (λ (x : Mark). x.point) marks p q h in
        let low : m.0.point.routine < length program.routines = omega (arith, marks_below 0 program.routines outermost p m.0 (ap (λ xs. slice_get xs p) (sym is) ∙ m.1)) in
        subst (λ n. n < length program.routines) (ap (λ (x : Point). x.routine) m.2) low;
  }

  pub asserts_fit : AssertsFit program (points_of marks) (map (λ (m : Mark). m.asserts) marks)
  asserts_fit = record {
    lists = length-map marks (λ (m : Mark). m.asserts) ∙ sym (length-map marks (λ (m : Mark). m.point));
    numbers = λ p listed h.
        let m = mapped_found (λ (x : Mark). x.asserts) marks p listed h in
        ap (list_all (λ a. nat_lt a (length program.asserts))) (sym m.2)
        ∙ asserts_at (numbers_in program) (routines_marks 0 program.routines) p m.0 (ap (λ xs. slice_get xs p) (sym is) ∙ m.1) (routines_pass (numbers_in program) 0 program.routines program.in_range.body);
  }

  pub blocks : AreBlocks (points_of marks) (length program.routines) (starts 0 0 program.routines)
  blocks = subst (λ ms. AreBlocks (points_of ms) (length program.routines) (starts 0 0 program.routines)) (sym is) (blocks_of program.routines outermost)

  pub entries_fit : EntriesFit program (points_of marks)
  entries_fit = record { entry = λ r h. let b = blocks.block r h in entry_from (points_of marks) r (slice_index (starts 0 0 program.routines) r) b.entry_kind b.entry_own }

  -- ---- by the list of the entries

  module _ (entries : List ℕ) (starts_are : entries ≡ starts 0 0 program.routines) where
    pub blocks_in : AreBlocks (points_of marks) (length program.routines) entries
    blocks_in = subst (AreBlocks (points_of marks) (length program.routines)) (sym starts_are) blocks

    pub starts_rise : (r : ℕ) → r < length program.routines → slice_index entries r ≤ slice_index entries (suc r)
    starts_rise r h = omega (arith, (blocks_in.block r h).order)

    pub starts_within : (r : ℕ) → r < length program.routines → slice_index entries (suc r) ≤ length marks
    starts_within r h =
        let b = blocks_in.block r h in
        omega (arith, b.order, point_within (points_of marks) (slice_index entries (suc r) - 1) r b.exit_own, length-map marks (λ (m : Mark). m.point))

    pub number_few : length marks < 2 ^ 32 → (r : ℕ) → r < length program.routines → r < 2 ^ 32
    number_few few r h =
        let grown : 0 + r ≤ slice_index entries r = subst (λ es. 0 + r ≤ slice_index es r) (sym starts_are) (starts_grow 0 0 program.routines outermost r h) in
        omega (arith, few, grown, (blocks_in.block r h).order, starts_within r h)

    pub size_at : (r : ℕ) (d : Routine) → slice_get program.routines r ≡ Some d → slice_index entries r + routine_points d + 1 ≡ slice_index entries (suc r) - 1
    size_at r d h = subst (λ es. slice_index es r + routine_points d + 1 ≡ slice_index es (suc r) - 1) (sym starts_are) (block_size program.routines outermost r d (slice_get_within program.routines r d h) h)

    pub labels_lead : (labels : List Labels) → length labels ≡ length program.routines → ((r : ℕ) (t : Labels) → slice_get labels r ≡ Some t → HasLabels entries marks r t) → LabelsLead (points_of marks) labels
    labels_lead labels many each = record {
      leads = λ s t n p has found.
          let first = slice_index entries s in
          let next = slice_index entries (suc s) in
          let b = blocks_in.block s (omega (arith, slice_get_within labels s t has, many)) in
          let w = label_within first (slice_range marks first next) n p (sym (each s t has n) ∙ found) in
          owned (points_of marks) s first (next - 1) b p w.0 (omega (arith, w.1, take_few (next - first) (drop first marks), b.order));
    }

module _ (program : Program) (points : List Point) (edges : List Edge) (wired : IsWired program points edges) where
  pub edges_fit : EdgesFit program points edges
  edges_fit = record {
    source = λ k e h. (wired.each k e h).source;
    target = λ k e h. (wired.each k e h).target;
    numbers = λ k e h. (wired.each k e h).numbers;
    types = λ k e h. (wired.each k e h).types;
    scopes = λ k e q h. (wired.each k e h).scopes q;
  }

  pub edges_lead : EdgesLead points edges
  edges_lead = record {
    inside = λ k e h. (wired.each k e h).inside;
    outside = λ k r e h. (wired.each k e h).outside r;
  }

  pub exits_return : ExitsReturn points edges
  exits_return = record { only = λ k e h. (wired.each k e h).returns; back = λ k e h. (wired.each k e h).returned }
