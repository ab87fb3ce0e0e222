-- The labels of a block by their values.
use Rattle.std.proofs.Common.{◌≡◌, ◌∙◌, ℕ, List, [], ◌∷◌, arith, length, hash_map_len, nat_eq, Ok, Err, ap, refl, subst, sym, true}
use Rattle.std.specs.Map.{keys_of, lookup}
use Rattle.indexmap.specs.IndexMap.{IsEmpty, get, keys}
use Rattle.pas_tree.specs.declared.block.Block.{Block}
use Rattle.pas_tree.specs.declared.block.Label.{Label}
use Rattle.pas_tree.specs.declared.block.RoutineBody.TheViews.{out-Block}
use Rattle.pas_check.specs.declared.fault.Fault.{Fault}
use Rattle.pas_check.specs.declared.label.LabelDecl.{LabelDecl}
use Rattle.pas_check.specs.Labels.{Kept, Labels, declaration_of, kept_in, labels_declared}
use Rattle.pas_check.specs.Outcome.{Outcome, ◌>>=◌}
use Rattle.pas_check.specs.Placing.{Mark, Notes, labels_read, marked, noted, sequence_marks}

no_entries : (es : List (ℕ × LabelDecl)) (n : ℕ) (ms : List Mark) → length es ≡ 0 → lookup (nat_eq n) es ≡ noted n ms (lookup (nat_eq n) es)
no_entries [] n ms h = refl
no_entries (e ∷ es) n ms h = absurd (omega (arith, h))

-- without labels no statement has one of them
pub none_noted : (labels : Labels) (ms : List Mark) → hash_map_len labels ≡ 0 → Notes labels ms labels
none_noted labels ms h = λ n. no_entries labels.entries n ms h

module _ (b : Block) (part : List Label) (same : part ≡ (out-Block b).labels) (none : Labels) (empty : IsEmpty none) where
  declared_by : (o : Outcome (List ℕ)) → labels_declared (keys none) part ≡ o → labels_declared [] (out-Block b).labels ≡ o
  declared_by o e = subst (λ ls. labels_declared [] ls ≡ o) same (subst (λ (es : List (ℕ × LabelDecl)). labels_declared (keys_of es) part ≡ o) empty e)

  read_by : (o : Outcome (List ℕ)) → labels_declared (keys none) part ≡ o → labels_read b ≡ (o >>= (λ values. Ok (marked b)))
  unfolding labels_read
  read_by o e = ap (λ (p : Outcome (List ℕ)). p >>= (λ values. Ok (marked b))) (declared_by o e)

  pub part_fails : (f : Fault) → labels_declared (keys none) part ≡ Err f → labels_read b ≡ Err f
  part_fails f e = read_by (Err f) e

  pub labels_are : (declared labels : Labels) → labels_declared (keys none) part ≡ Ok (keys declared) → ((n : ℕ) → get nat_eq declared n ≡ declaration_of n part (get nat_eq none n)) → Notes declared (sequence_marks (out-Block b).body true) labels
      → labels_read b ≡ Ok (kept_in labels)
  labels_are declared labels e added notes =
      let each : (n : ℕ) → kept_in labels n ≡ marked b n =
      λ n. notes n ∙ ap (noted n (sequence_marks (out-Block b).body true)) (added n ∙ ap (λ ls. declaration_of n ls (get nat_eq none n)) same ∙ ap (λ (es : List (ℕ × LabelDecl)). declaration_of n (out-Block b).labels (lookup (nat_eq n) es)) empty) in
      let all : marked b ≡ kept_in labels = λ i n. sym (each n) i in
      read_by (Ok (keys declared)) e ∙ ap (λ (kept : Kept). Ok kept) all
