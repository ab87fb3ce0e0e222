-- Storage (ISO 7185, 6.5): what each variable of each activation holds.
use Rattle.std.specs.Prelude.{ℕ, Bool, true, false, ◌&&◌, List, [], ◌∷◌, ◌++◌, ℤ, nat_eq, nat_lt, Option, Some, None, if◌then◌else◌}
use Rattle.std.specs.Ordering.{int_eq}

-- A variable of the activation at a depth of the stack, or a part of it: the one that subscripts lead to (6.5.3.2).
pub record Place : Type 0 where
  pub depth : ℕ
  pub var : ℕ
  pub subscripts : List ℤ

abbrev pub whole : ℕ → ℕ → Place
whole depth var = record { depth = depth; var = var; subscripts = [] }

-- the part of a place that further subscripts lead to
abbrev pub part : Place → List ℤ → Place
part p zs = record p { subscripts = p.subscripts ++ zs }

abbrev pub same_subscripts : List ℤ → List ℤ → Bool
same_subscripts [] [] = true
same_subscripts (x ∷ xs) (y ∷ ys) = int_eq x y && same_subscripts xs ys
same_subscripts _ _ = false

abbrev pub same_variable : Place → Place → Bool
same_variable p q = nat_eq p.depth q.depth && nat_eq p.var q.var

abbrev pub same_place : Place → Place → Bool
same_place p q = same_variable p q && same_subscripts p.subscripts q.subscripts

-- The number that each place holds. A place without one is undefined (6.5.1), and so is what is no place of a scalar.
abbrev pub Store : Type 0
Store = Place → Option ℤ

abbrev pub empty_store : Store
empty_store q = None

-- the store in which p holds this number, or is undefined
abbrev pub put : Store → Place → Option ℤ → Store
put store p v q = if same_place p q then v else store q

-- the subscripts that follow the first ones
abbrev pub subscripts_after : List ℤ → List ℤ → Option (List ℤ)
subscripts_after [] zs = Some zs
subscripts_after (x ∷ xs) [] = None
subscripts_after (x ∷ xs) (z ∷ zs) = if int_eq x z then subscripts_after xs zs else None

-- the subscripts by which p leads to q
abbrev pub within : Place → Place → Option (List ℤ)
within p q = if same_variable p q then subscripts_after p.subscripts q.subscripts else None

-- what a place holds that lies by these subscripts within the target of a copy, or else outside of it
abbrev pub copied : Store → Place → Place → Option (List ℤ) → Option ℤ
copied store source q None = store q
copied store source q (Some zs) = store (part source zs)

-- the store in which each part of p holds what that part of the source held
abbrev pub put_copy : Store → Place → Place → Store
put_copy store p source q = copied store source q (within p q)

-- the store without the variables of the activations at the depth n and above it (6.2.3.2)
abbrev pub keep_below : ℕ → Store → Store
keep_below n store q = if nat_lt q.depth n then store q else None
