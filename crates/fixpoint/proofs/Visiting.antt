-- A visit of a node: its mark is taken, and where its element changes, its readers get one.
use Rattle.std.proofs.Common.{◌≡◌, ℕ, ◌+◌, ◌<◌, Bool, true, false, List, length, get_or, set, refl, sym, ap, subst, ◌∙◌, inl, inr, arith, get_or-set_same, get_or-set_other}
use Rattle.std.specs.Prelude.{IsTrue, ◌≢◌, sum_by}
use Rattle.std.specs.List.{All}
use Rattle.std.proofs.lemmas.Bool.{both_ways, cases_eq}
use Rattle.std.proofs.lemmas.List.{get_or_default, length-set}
use Rattle.lattice.specs.Lattice.{Ops, IsLattice}
use Rattle.fixpoint.specs.Marks.{AddsMarks, Visits, has_mark}
use Rattle.fixpoint.specs.Reversal.{IsReversal, list_at}
use Rattle.fixpoint.specs.System.{System, change, element, readers, IsTable}
use Rattle.fixpoint.proofs.Counting.{marked_added, marked_taken, marked_untaken}
use Rattle.fixpoint.proofs.Sameness.{is_same_differs, is_same_same}

-- the other marks are as they were where one is taken
pub taken_others : (marks : List Bool) (k m : ℕ) → k < length marks → IsTrue (has_mark (set marks k false) m) → (m ≢ k) × IsTrue (has_mark marks m)
taken_others marks k m inside holds = elim (cases_eq m k) [
  | inl same ↦ absurd (both_ways (has_mark (set marks k false) k) (get_or-set_same marks k false true inside)
      (subst (λ (i : ℕ). IsTrue (has_mark (set marks k false) i)) same holds))
  | inr differs ↦ (differs, rw (get_or-set_other marks k m false true differs) at holds)
]

pub taken_kept : (marks : List Bool) (k m : ℕ) → m ≢ k → IsTrue (has_mark marks m) → IsTrue (has_mark (set marks k false) m)
taken_kept marks k m differs holds = rw (get_or-set_other marks k m false true differs) holds

module _ {V P : Type 0} {has : V → P → Type 0} (o : Ops V) (laws : IsLattice o has) (s : System V) where
  -- the sum over the changes that an update makes
  pub no_change : (t u : List V) (k : ℕ) → element o t k ≡ element o u k → sum_by (readers s) (change o t u k) ≡ 0
  no_change t u k same = rw (is_same_same o laws (element o t k) (element o u k) same) refl

  one_change : (t u : List V) (k : ℕ) → o.shape (element o t k) ≡ o.shape (element o u k) → element o t k ≢ element o u k
      → sum_by (readers s) (change o t u k) ≡ readers s k
  one_change t u k alike differ = rw (is_same_differs o laws (element o t k) (element o u k) alike differ) (omega arith)

  -- a node without a mark
  pub visit_skipped : (k : ℕ) (t u : List V) (marks : List Bool) (c : ℕ) → k < length marks → has_mark marks k ≡ false → u ≡ t
      → Visits o s k t u marks (set marks k false) c c
  visit_skipped k t u marks c inside had same = record {
    size = length-set marks k false;
    kept = taken_kept marks k;
    added = λ m below reads differs. absurd (differs (ap (λ (w : List V). element o w k) same));
    only = λ m holds. inl (taken_others marks k m inside holds);
    once = omega arith;
    paid = omega (arith, marked_untaken marks k inside had);
  }

  -- a node whose element stays
  pub visit_kept : (k : ℕ) (t u : List V) (marks : List Bool) (c d : ℕ) → k < length marks → has_mark marks k ≡ true → u ≡ t → d ≡ c + 1
      → Visits o s k t u marks (set marks k false) c d
  visit_kept k t u marks c d inside had same counted = record {
    size = length-set marks k false;
    kept = taken_kept marks k;
    added = λ m below reads differs. absurd (differs (ap (λ (w : List V). element o w k) same));
    only = λ m holds. inl (taken_others marks k m inside holds);
    once = omega (arith, counted);
    paid = omega (arith, counted, marked_taken marks k inside had);
  }

  -- and one whose element changes
  pub visit_changed : (read_by : List (List ℕ)) (k : ℕ) (t u : List V) (marks after : List Bool) (c d : ℕ) → IsReversal s.nodes s.reads read_by
      → k < s.nodes → length marks ≡ s.nodes → length after ≡ length marks → has_mark marks k ≡ true
      → AddsMarks (list_at read_by k) (set marks k false) after → IsTable o s t → IsTable o s u → element o u k ≢ element o t k → d ≡ c + 1
      → Visits o s k t u marks after c d
  visit_changed read_by k t u marks after c d reversal below all long had adds fits_t fits_u differs counted =
      let inside : k < length marks = omega (arith, below, all) in
      let size = length-set marks k false in
      let taken = marked_taken marks k inside had in
      let more = marked_added s k (set marks k false) after (size ∙ all) (long ∙ sym size) (λ m in_range holds. elim (adds.only m holds) [
        | inl before ↦ inl before
        | inr reader ↦ inr ((reversal.members m k below).0 reader).1
      ]) in
      let paid = one_change t u k (fits_t.shapes k below ∙ sym (fits_u.shapes k below)) (λ e. differs (sym e)) in
      record {
        size = long;
        kept = λ m other holds. adds.kept m (taken_kept marks k m other holds);
        added = λ m in_range reads _. adds.added m ((reversal.members m k below).1 (in_range, reads));
        only = λ m holds. elim (adds.only m holds) [
          | inl before ↦ inl (taken_others marks k m inside before)
          | inr reader ↦ inr (((reversal.members m k below).0 reader).1, differs)
        ];
        once = omega (arith, counted);
        paid = omega (arith, counted, taken, more, paid);
      }

  -- the readers of a node are nodes
  pub readers_below : (read_by : List (List ℕ)) (k : ℕ) (marks : List Bool) → IsReversal s.nodes s.reads read_by → k < s.nodes → length marks ≡ s.nodes
      → All (λ m. m < length marks) (list_at read_by k)
  readers_below read_by k marks reversal below all i d inside =
      let member = (reversal.members (get_or (list_at read_by k) i d) k below).0 (i, inside, get_or_default (list_at read_by k) i _ d inside) in
      omega (arith, member.0, all)
