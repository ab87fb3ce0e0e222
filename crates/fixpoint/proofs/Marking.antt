-- Marks of nodes: a list of them one by one, and how many there are.
use Rattle.std.proofs.Common.{◌≡◌, ℕ, ◌+◌, ◌<◌, Bool, true, List, [], length, get_or, replicate, set, take, refl, inl, inr, get_or-set_same, get_or-set_other}
use Rattle.std.specs.Prelude.{IsTrue, ◌⊎◌}
use Rattle.std.proofs.lemmas.Bool.{cases_eq, cases_lt}
use Rattle.std.proofs.lemmas.List.{get_or_past, get_or-replicate, length-replicate, set_past, take_more}
use Rattle.fixpoint.specs.Marks.{AddsMarks, has_mark}
use Rattle.fixpoint.proofs.Reversing.{no_member, push_cases, pushed}

pub none_added : (marks : List Bool) → AddsMarks [] marks marks
none_added marks = record { kept = λ k holds. holds; added = λ k at. absurd (no_member k at); only = λ k holds. inl holds }

-- a mark stays where another is set, and comes where it is
pub has_mark-set_true : (marks : List Bool) (n k : ℕ) → IsTrue (has_mark marks k) ⊎ (k ≡ n) → IsTrue (has_mark (set marks n true) k)
has_mark-set_true marks n k either = elim (cases_eq k n) [
  | inl same ↦ elim (cases_lt n (length marks)) [
    | inl inside ↦ rw (same, get_or-set_same marks n true true inside) refl
    | inr past ↦ rw (same, set_past marks n true past) (get_or_past marks n true past)
  ]
  | inr differs ↦ rw (get_or-set_other marks n k true true differs) (elim either [ inl before ↦ before | inr same ↦ absurd (differs same) ])
]

set_true_cases : (marks : List Bool) (n k : ℕ) → IsTrue (has_mark (set marks n true) k) → IsTrue (has_mark marks k) ⊎ (k ≡ n)
set_true_cases marks n k holds = elim (cases_eq k n) [
  | inl same ↦ inr same
  | inr differs ↦ inl (rw (get_or-set_other marks n k true true differs) at holds)
]

-- one more node of the list
pub one_added : (nodes : List ℕ) (i : ℕ) (marks after : List Bool) → i < length nodes → AddsMarks (take i nodes) marks after
    → AddsMarks (take (i + 1) nodes) marks (set after (get_or nodes i 0) true)
one_added nodes i marks after inside way =
    let n = get_or nodes i 0 in
    let members = take_more nodes i 0 inside in
    record {
      kept = λ k holds. has_mark-set_true after n k (inl (way.kept k holds));
      added = λ k at. has_mark-set_true after n k (elim (push_cases (take i nodes) n k (rw members at at)) [
        | inl before ↦ inl (way.added k before)
        | inr here ↦ inr here
      ]);
      only = λ k holds. elim (set_true_cases after n k holds) [
        | inl before ↦ elim (way.only k before) [
          | inl old ↦ inl old
          | inr listed ↦ inr (rw members (pushed (take i nodes) n k (inl listed)))
        ]
        | inr here ↦ inr (rw members (pushed (take i nodes) n k (inr here)))
      ];
    }

-- all nodes got one
pub all_marked : (marks : List Bool) (n k : ℕ) → marks ≡ replicate n true → IsTrue (has_mark marks k)
all_marked marks n k is = elim (cases_lt k n) [
  | inl inside ↦ rw is (get_or-replicate n k true true inside)
  | inr past ↦ rw is (get_or_past (replicate n true) k true (rw length-replicate past))
]
