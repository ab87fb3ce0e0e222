-- What stands before, as the keys of a map.
use Rattle.std.proofs.Common.{◌≡◌, Bool, true, false, cond, List, [], ◌∷◌, ◌++◌, refl, ap}
use Rattle.std.specs.Prelude.{is_some, ◌||◌, if◌then◌else◌, Some}
use Rattle.std.specs.List.{list_any}
use Rattle.std.specs.Map.{lookup, keys_of}
use Rattle.indexmap.specs.IndexMap.{insert_entry}

module _ {K X : Type 0} where
  some_cond : (b : Bool) (x : X) (test : K → Bool) (es : List (K × X)) → is_some (lookup test es) ≡ list_any test (keys_of es) → is_some (cond b (Some x) (lookup test es)) ≡ (b || list_any test (keys_of es))
  some_cond true x test es e = refl
  some_cond false x test es e = e

  -- a key is found where some key passes the test
  pub some_key : (test : K → Bool) (es : List (K × X)) → is_some (lookup test es) ≡ list_any test (keys_of es)
  some_key test [] = refl
  some_key test (e ∷ es) = some_cond (test e.0) e.1 test es (some_key test es)

  module _ (eq : K → K → Bool) where
    put_cond : (b : Bool) (e : K × X) (es : List (K × X)) (k : K) (v : X) → (list_any (eq k) (keys_of es) ≡ false → keys_of (insert_entry eq es k v) ≡ keys_of es ++ k ∷ []) → (b || list_any (eq k) (keys_of es)) ≡ false
        → keys_of (if b then (e.0, v) ∷ es else e ∷ insert_entry eq es k v) ≡ e.0 ∷ (keys_of es ++ k ∷ [])
    put_cond true e es k v rest h = absurd (cc)
    put_cond false e es k v rest h = ap (λ ks. e.0 ∷ ks) (rest h)

    -- a key that is new goes last
    pub put_last : (es : List (K × X)) (k : K) (v : X) → list_any (eq k) (keys_of es) ≡ false → keys_of (insert_entry eq es k v) ≡ keys_of es ++ k ∷ []
    put_last [] k v h = refl
    put_last (e ∷ es) k v h = put_cond (eq k e.0) e es k v (put_last es k v) h
