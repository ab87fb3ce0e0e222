-- Marks of the checks of a point, over some of its nodes.
use Rattle.std.proofs.Common.{◌≡◌, ℕ, ◌+◌, ◌<◌, Bool, false, not, List, [], ◌∷◌, length, map, take, drop, ◌++◌, replicate, get_or, refl, sym, ap, ◌∙◌}
use Rattle.std.specs.Prelude.{◌||◌}
use Rattle.std.specs.List.{list_any}
use Rattle.std.proofs.lemmas.List.{length-map, take_at}
use Rattle.std.proofs.lemmas.List.Folds.{list_any_more}
use Rattle.control_points.specs.Flows.{chart_of}
use Rattle.control_points.specs.declared.flow.Flow.{Flow}
use Rattle.control_points.specs.Judgements.{Judgement, constants_at, point_judgements}
use Rattle.activations.specs.Drawn.{Drawn}
use Rattle.activations.specs.Fitting.{class_number, point_number}
use Rattle.abstract_expr.specs.Standing.{scope_in}
use Rattle.abstract_expr.specs.Verdicts.{check_holds, holds_at, marks_with}
use Rattle.report.specs.Conditions.{fails_at}
use Rattle.environment.specs.Environments.{env_ops}
use Rattle.fixpoint.specs.System.{element}
use Rattle.transfer_fwd.specs.Forward.{Table}

marked : (a h : Judgement → Bool) (js : List Judgement) → marks_with (map a js) (map h js) ≡ map (λ j. a j || not (h j)) js
marked a h [] = refl
marked a h (j ∷ js) = ap (λ (bs : List Bool). (a j || not (h j)) ∷ bs) (marked a h js)

same_map : (a b : Judgement → Bool) → ((j : Judgement) → a j ≡ b j) → (js : List Judgement) → map a js ≡ map b js
same_map a b same [] = refl
same_map a b same (j ∷ js) = ap (λ x. x ∷ map a js) (same j) ∙ ap (λ (bs : List Bool). b j ∷ bs) (same_map a b same js)

module _ (f : Flow) (g : Drawn) (t : Table) (p : ℕ) where
  -- the marks of some nodes
  abbrev pub marks_of : List ℕ → List Bool
  marks_of nodes = map (λ j. list_any (fails_at f g t p j) nodes) (point_judgements (chart_of f) p)

  pub none_marked : replicate (length (point_judgements (chart_of f) p)) false ≡ marks_of []
  none_marked = none (point_judgements (chart_of f) p)
    where
      none : (js : List Judgement) → replicate (length js) false ≡ map (λ j. list_any (fails_at f g t p j) []) js
      none [] = refl
      none (j ∷ js) = ap (λ (bs : List Bool). false ∷ bs) (none js)

  abbrev js : List Judgement
  js = point_judgements (chart_of f) p

  pub one_more_marked : (listed : List ℕ) (i : ℕ) → i < length listed → point_number g (get_or listed i 0) ≡ p
      → marks_with (marks_of (take i listed)) (holds_at f g.table (class_number g (get_or listed i 0)) (point_number g (get_or listed i 0)) (element env_ops t (get_or listed i 0))) ≡ marks_of (take (i + 1) listed)
  one_more_marked listed i inside at =
      let node = get_or listed i 0 in
      let before : Judgement → Bool = λ j. list_any (fails_at f g t p j) (take i listed) in
      let holds : Judgement → Bool = check_holds (scope_in f g.table (class_number g node)) (constants_at f.edges p) (element env_ops t node) in
      ap (λ q. marks_with (marks_of (take i listed)) (holds_at f g.table (class_number g node) q (element env_ops t node))) at
      ∙ marked before holds js
      ∙ same_map (λ j. before j || not (holds j)) (λ j. list_any (fails_at f g t p j) (take (i + 1) listed)) (λ j. sym (list_any_more (fails_at f g t p j) listed i 0 inside)) js

  pub marks_length : (nodes : List ℕ) → length (marks_of nodes) ≡ length (point_judgements (chart_of f) p)
  marks_length nodes = length-map (point_judgements (chart_of f) p) (λ j. list_any (fails_at f g t p j) nodes)

-- what is written over a whole list is the list
pub written_back : (n : ℕ) (new old : List Bool) → n ≡ length new → take n (new ++ drop (length new) old) ≡ new
written_back n new old is = take_at new (drop (length new) old) n (sym is)
