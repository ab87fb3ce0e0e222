-- Tables of a system after a write at one node, and what an equation gives at tables that agree where it reads.
use Rattle.std.proofs.Common.{◌≡◌, ℕ, ◌<◌, List, length, sym, ap, ◌∙◌, set, inl, inr, get_or-set_same, get_or-set_other, get_or, map, take, drop, ◌+◌, ◌++◌}
use Rattle.std.specs.Prelude.{IsTrue, ◌≢◌}
use Rattle.std.specs.List.{Contains}
use Rattle.std.proofs.lemmas.Bool.{cases_eq}
use Rattle.std.proofs.lemmas.List.{get_or-map, length-map, length-set, map-set, set-get_or}
use Rattle.std.proofs.lemmas.List.Edits.{map_over_more}
use Rattle.lattice.specs.Lattice.{Ops}
use Rattle.fixpoint.specs.Ascent.{bottoms, met, IsWithin}
use Rattle.fixpoint.specs.System.{System, element, IsTable, IsSystem}

module _ {V : Type 0} (o : Ops V) where
  -- a property of the element at j after a write at k
  pub written : (P : ℕ → V → Type 0) (t : List V) (k : ℕ) (v : V) (j : ℕ) → k < length t
      → P k v → (j ≢ k → P j (element o t j)) → P j (element o (set t k v) j)
  written P t k v j inside here there = elim (cases_eq j k) [
    | inl e ↦ rw (e, get_or-set_same t k v (o.bottom 0) inside) here
    | inr differs ↦ rw (get_or-set_other t k j v (o.bottom 0) differs) (there differs)
  ]

  pub element-set_same : (t : List V) (k : ℕ) (v : V) → k < length t → element o (set t k v) k ≡ v
  element-set_same t k v inside = get_or-set_same t k v (o.bottom 0) inside

  pub element-set_other : (t : List V) (k j : ℕ) (v : V) → j ≢ k → element o (set t k v) j ≡ element o t j
  element-set_other t k j v differs = get_or-set_other t k j v (o.bottom 0) differs

  module _ (s : System V) where
    pub table_written : (t : List V) (k : ℕ) (v : V) → IsTable o s t → k < s.nodes → o.shape v ≡ s.shape k → IsTable o s (set t k v)
    table_written t k v fits below shaped = record {
      size = length-set t k v ∙ fits.size;
      shapes = λ j h. written (λ i w. o.shape w ≡ s.shape i) t k v j (rw fits.size below) shaped (λ _. fits.shapes j h);
    }

    pub within_written : (limits t : List V) (k : ℕ) (v : V) → IsTable o s t → k < s.nodes → IsWithin o s limits t
        → IsTrue (o.below v (element o limits k)) → IsWithin o s limits (set t k v)
    within_written limits t k v fits below within lies j h =
        written (λ i w. IsTrue (o.below w (element o limits i))) t k v j (rw fits.size below) lies (λ _. within j h)

    -- tables that agree where an equation reads give it one value
    pub met_same : (limits t u : List V) (k : ℕ) → IsSystem o s → k < s.nodes → IsTable o s t → IsTable o s u
        → ((r : ℕ) → Contains (s.reads k) r → element o t r ≡ element o u r) → met o s limits t k ≡ met o s limits u k
    met_same limits t u k system below fits_t fits_u agree =
        ap (λ (v : V). o.meet v (element o limits k)) (system.local k t u below fits_t fits_u agree)

-- what a read of the table gives, as an element of the table of values
pub value_read : {X V : Type 0} (o : Ops V) (f : X → V) (xs : List X) (k : ℕ) (x : X) → k < length xs → x ≡ get_or xs k x
    → f x ≡ element o (map f xs) k
value_read o f xs k x inside is = ap f is ∙ sym (get_or-map f xs k x (o.bottom 0) inside)

-- one more element of the table became the bottom of its shape
pub cleared_more : {X V : Type 0} (o : Ops V) (f : X → V) (start now : List X) (i : ℕ) (x y : X) → i < length now → length now ≡ length start
    → x ≡ get_or now i x → map f now ≡ bottoms o (take i (map f start)) ++ drop i (map f start) → f y ≡ o.bottom (o.shape (f (get_or now i x)))
    → map f (set now i y) ≡ bottoms o (take (i + 1) (map f start)) ++ drop (i + 1) (map f start)
cleared_more {X} {V} o f start now i x y inside same read before cleared =
    let bottom_of = λ (v : V). o.bottom (o.shape v) in
    let read_value : f x ≡ get_or (map f now) i (f x) = ap f read ∙ sym (get_or-map f now i x (f x) inside) in
    map-set f now i y ∙ ap (λ (v : V). set (map f now) i v) (cleared ∙ ap (λ (z : X). o.bottom (o.shape (f z))) (sym read))
    ∙ map_over_more bottom_of (map f start) (map f now) i (f x) (rw length-map (rw (← same) inside)) before read_value

-- an element of the table, and one that was written, by their values
pub value_at : {X V : Type 0} (o : Ops V) (f : X → V) (xs : List X) (k : ℕ) (x : X) → k < length xs → f (get_or xs k x) ≡ element o (map f xs) k
value_at o f xs k x inside = sym (get_or-map f xs k x (o.bottom 0) inside)

pub value_written : {X V : Type 0} (o : Ops V) (f : X → V) (xs : List X) (k : ℕ) (y : X) → k < length xs → element o (map f (set xs k y)) k ≡ f y
value_written o f xs k y inside =
    ap (λ (vs : List _). element o vs k) (map-set f xs k y) ∙ get_or-set_same (map f xs) k (f y) (o.bottom 0) (rw length-map inside)

-- a write of the value that is there
pub unchanged : {X V : Type 0} (f : X → V) (xs : List X) (k : ℕ) (d y : X) → k < length xs → f y ≡ f (get_or xs k d) → map f (set xs k y) ≡ map f xs
unchanged f xs k d y inside same =
    map-set f xs k y ∙ ap (λ (v : _). set (map f xs) k v) (same ∙ sym (get_or-map f xs k d (f d) inside)) ∙ set-get_or (map f xs) k (f d)
