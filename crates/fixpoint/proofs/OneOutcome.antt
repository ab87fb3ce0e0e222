-- An ascent and a descent have one outcome, and change one list of nodes.
use Rattle.std.proofs.Common.{◌≡◌, ℕ, ℤ, List, ◌++◌, refl, sym, ap, subst, ◌∙◌, Bool, true, false}
use Rattle.std.proofs.lemmas.Bool.{false≢true}
use Rattle.lattice.specs.Lattice.{Ops}
use Rattle.weak_order.specs.Order.{Elements}
use Rattle.weak_order.specs.Order.Elements.{none, node, component}
use Rattle.fixpoint.specs.Ascent.{evaluated, widened, Ascends, Turns, changes, turns_changes}
use Rattle.fixpoint.specs.Ascent.Turns.{done, turn}
use Rattle.fixpoint.specs.Descent.{pass, pass_changes, descent_changes, IsDescent}
use Rattle.fixpoint.specs.Descent.IsDescent.{last, next}
use Rattle.fixpoint.specs.System.{System, change}

module _ {V : Type 0} (o : Ops V) (s : System V) (limits : List V) where
  module _ (steps : List ℤ) where
    one_turns : (head : ℕ) (Rest : List V → List V → Type 0) → ((t u v : List V) → Rest t u → Rest t v → u ≡ v)
        → (turned : Bool) (t u v : List V) → Turns o s limits steps head Rest turned t u → Turns o s limits steps head Rest turned t v → u ≡ v
    one_turns head Rest one turned t u v (done a p) (done b q) = p ∙ sym q
    one_turns head Rest one turned t u v (done a p) (turn b r rest) = absurd (false≢true (sym b ∙ a))
    one_turns head Rest one turned t u v (turn a r rest) (done b q) = absurd (false≢true (sym a ∙ b))
    one_turns head Rest one turned t u v (turn {middle = m} a r rest) (turn {middle = n} b q others) =
        let same = one _ m n r q in
        one_turns head Rest one true m u v rest (subst (λ (x : List V). Turns o s limits steps head Rest true x v) (sym same) others)

    pub one_ascent : (xs : Elements) (t u v : List V) → Ascends o s limits steps xs t u → Ascends o s limits steps xs t v → u ≡ v
    one_ascent none t u v a b = a ∙ sym b
    one_ascent (node k rest) t u v a b = one_ascent rest (evaluated o s limits t k) u v a b
    one_ascent (component head body rest) t u v a b =
        let same = one_turns head (Ascends o s limits steps body) (one_ascent body) false t a.0 b.0 a.1 b.1 in
        one_ascent rest a.0 u v a.2 (subst (λ (x : List V). Ascends o s limits steps rest x v) (sym same) b.2)

    -- the changes
    one_turns_changes : (head : ℕ) (Rest : List V → List V → Type 0) (of_rest : (t u : List V) → Rest t u → List ℕ)
        → ((t u v : List V) → Rest t u → Rest t v → u ≡ v) → ((t u v : List V) (a : Rest t u) (b : Rest t v) → of_rest t u a ≡ of_rest t v b)
        → (turned : Bool) (t u v : List V) (a : Turns o s limits steps head Rest turned t u) (b : Turns o s limits steps head Rest turned t v)
        → turns_changes o s limits steps head Rest of_rest turned t u a ≡ turns_changes o s limits steps head Rest of_rest turned t v b
    one_turns_changes head Rest of_rest one same turned t u v (done a p) (done b q) = refl
    one_turns_changes head Rest of_rest one same turned t u v (done a p) (turn b r rest) = absurd (false≢true (sym b ∙ a))
    one_turns_changes head Rest of_rest one same turned t u v (turn a r rest) (done b q) = absurd (false≢true (sym a ∙ b))
    one_turns_changes head Rest of_rest one same turned t u v (turn {middle = m} a r rest) (turn {middle = n} b q others) =
        let wide = widened o s limits steps t head in
        let here = same wide m n r q in
        let Later : List V → Type 0 = λ x. (c : Turns o s limits steps head Rest true x v)
        → turns_changes o s limits steps head Rest of_rest true m u rest ≡ turns_changes o s limits steps head Rest of_rest true x v c in
        let later : Later n = subst Later (one wide m n r q) (λ c. one_turns_changes head Rest of_rest one same true m u v rest c) in
        ap (λ (ns : List ℕ). change o t wide head ++ ns ++ turns_changes o s limits steps head Rest of_rest true m u rest) here
        ∙ ap (λ (ns : List ℕ). change o t wide head ++ of_rest wide n q ++ ns) (later others)

    pub one_changes : (xs : Elements) (t u v : List V) (a : Ascends o s limits steps xs t u) (b : Ascends o s limits steps xs t v)
        → changes o s limits steps xs t u a ≡ changes o s limits steps xs t v b
    one_changes none t u v a b = refl
    one_changes (node k rest) t u v a b =
        ap (λ (ns : List ℕ). change o t (evaluated o s limits t k) k ++ ns) (one_changes rest (evaluated o s limits t k) u v a b)
    one_changes (component head body rest) t u v a b =
        let Body = Ascends o s limits steps body in
        let of_body = changes o s limits steps body in
        let same = one_turns head Body (one_ascent body) false t a.0 b.0 a.1 b.1 in
        let turns = one_turns_changes head Body of_body (one_ascent body) (one_changes body) false t a.0 b.0 a.1 b.1 in
        let Later : List V → Type 0 = λ x. (c : Ascends o s limits steps rest x v) → changes o s limits steps rest a.0 u a.2 ≡ changes o s limits steps rest x v c in
        let later : Later b.0 = subst Later same (λ c. one_changes rest a.0 u v a.2 c) in
        ap (λ (ns : List ℕ). ns ++ changes o s limits steps rest a.0 u a.2) turns
        ∙ ap (λ (ns : List ℕ). turns_changes o s limits steps head Body of_body false t b.0 b.1 ++ ns) (later b.2)

  pub one_descent : (xs : Elements) (t u v : List V) → IsDescent o s limits xs t u → IsDescent o s limits xs t v → u ≡ v
  one_descent xs t u v (last a p) (last b q) = p ∙ sym q
  one_descent xs t u v (last a p) (next b rest) = absurd (b a)
  one_descent xs t u v (next a rest) (last b q) = absurd (a b)
  one_descent xs t u v (next a rest) (next b others) = one_descent xs (pass o s limits xs t) u v rest others

  pub one_descent_changes : (xs : Elements) (t u v : List V) (a : IsDescent o s limits xs t u) (b : IsDescent o s limits xs t v)
      → descent_changes o s limits xs t u a ≡ descent_changes o s limits xs t v b
  one_descent_changes xs t u v (last a p) (last b q) = refl
  one_descent_changes xs t u v (last a p) (next b rest) = absurd (b a)
  one_descent_changes xs t u v (next a rest) (last b q) = absurd (a b)
  one_descent_changes xs t u v (next a rest) (next b others) =
      ap (λ (ns : List ℕ). pass_changes o s limits xs t ++ ns) (one_descent_changes xs (pass o s limits xs t) u v rest others)
