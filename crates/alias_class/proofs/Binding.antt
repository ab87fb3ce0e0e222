-- A call passes one name after another.
use Rattle.std.proofs.Common.{◌≡◌, ℕ, ◌+◌, ◌<◌, ◌≤◌, List, [], ◌∷◌, ◌++◌, length, get_or, take, sym, ap, ◌∙◌, subst, arith}
use Rattle.std.specs.Prelude.{slice_index}
use Rattle.std.proofs.lemmas.Grind.{common_steps}
use Rattle.std.proofs.lemmas.List.{take_more}
use Rattle.alias_class.specs.declared.bind.Bind.{Bind}
use Rattle.alias_class.specs.declared.passing.Passing.{Passing}
use Rattle.alias_class.specs.Calls.{Sharing, shared_bind}
use Rattle.alias_class.specs.Cells.{foreign_cells}
use Rattle.alias_class.specs.Passings.{IsPassing, bindings_by, foreign_after, namers_after, sharing_of}
use Rattle.alias_class.proofs.Numbered.{namers-push}
use Rattle.alias_class.proofs.Outlining.{length-foreign_cells}
use Rattle.alias_class.proofs.Passed.{bindings-push, foreign-push, sharing_by}

-- what one more name changes
pub record Binds (p q : Passing) (b : Bind) (formal : ℕ) : Type 0 where
  pub inherited : q.inherited ≡ p.inherited
  pub first_foreign : q.first_foreign ≡ p.first_foreign
  pub foreign : q.foreign.keys ≡ foreign_after p.inherited p.foreign.keys b
  pub bindings : q.bindings.items ≡ p.bindings.items ++ shared_bind (sharing_of q) b ∷ []
  pub namers : q.namers ≡ namers_after p.inherited p.foreign.keys p.namers b formal

one_bound : (inherited first : ℕ) → inherited ≤ first → (formals : List ℕ) (names : List Bind) (b : Bind) (p q : Passing) → IsPassing p inherited first formals names → Binds p q b (slice_index formals (length names)) → IsPassing q inherited first formals (names ++ b ∷ [])
one_bound inherited first behind formals names b p q is more =
    record {
      same_inherited = more.inherited ∙ is.same_inherited;
      same_first = more.first_foreign ∙ is.same_first;
      foreign = foreign;
      bindings =
          more.bindings
          ∙ ap (λ (xs : List Bind). xs ++ shared_bind (sharing_of q) b ∷ []) is.bindings
          ∙ ap (λ (s : Sharing). bindings_by inherited first names ++ shared_bind s b ∷ []) sharing
          ∙ sym (bindings-push inherited first names b);
      namers =
          more.namers
          ∙ ap (λ (i : ℕ). namers_after i p.foreign.keys p.namers b (slice_index formals (length names))) is.same_inherited
          ∙ ap (λ (xs : List ℕ). namers_after inherited xs p.namers b (slice_index formals (length names))) is.foreign
          ∙ ap (λ (xs : List ℕ). namers_after inherited (foreign_cells inherited names) xs b (slice_index formals (length names))) is.namers
          ∙ sym (namers-push inherited first behind formals names b);
    }
  where
    foreign : q.foreign.keys ≡ foreign_cells inherited (names ++ b ∷ [])
    foreign =
        more.foreign
        ∙ ap (λ (i : ℕ). foreign_after i p.foreign.keys b) is.same_inherited
        ∙ ap (λ (xs : List ℕ). foreign_after inherited xs b) is.foreign
        ∙ sym (foreign-push inherited names b)

    sharing : sharing_of q ≡ sharing_by inherited first (names ++ b ∷ [])
    sharing =
        ap (λ (i : ℕ). record { inherited = i; first_foreign = q.first_foreign; foreign = q.foreign.keys }) (more.inherited ∙ is.same_inherited)
        ∙ ap (λ (i : ℕ). record { inherited = inherited; first_foreign = i; foreign = q.foreign.keys }) (more.first_foreign ∙ is.same_first)
        ∙ ap (λ (xs : List ℕ). record { inherited = inherited; first_foreign = first; foreign = xs }) foreign

pub bound_more : (inherited first : ℕ) → inherited ≤ first → (formals : List ℕ) (names : List Bind) (n : ℕ) (d : Bind) → n < length names → (p q : Passing) → IsPassing p inherited first formals (take n names) → Binds p q (get_or names n d) (slice_index formals n)
    → IsPassing q inherited first formals (take (n + 1) names)
bound_more inherited first behind formals names n d h p q is more =
    let long : n ≡ length (take n names) = grind (arith, common_steps) in
    subst (IsPassing q inherited first formals) (sym (take_more names n d h))
    (one_bound inherited first behind formals (take n names) (get_or names n d) p q is (subst (λ (k : ℕ). Binds p q (get_or names n d) (slice_index formals k)) long more))

-- there is room for one more
pub room_more : (inherited first : ℕ) (formals : List ℕ) (names : List Bind) (n : ℕ) (p : Passing) → n < length names → IsPassing p inherited first formals (take n names) → p.first_foreign + length p.foreign.keys + 1 ≤ first + length names
room_more inherited first formals names n p h is =
    let few = length-foreign_cells inherited (take n names) in
    let long : length (take n names) ≡ n = grind (arith, common_steps) in
    let foreign = ap length is.foreign in
    let same = is.same_first in
    omega arith
