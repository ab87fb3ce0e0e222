-- Where the starts of a tree rise, so do the places of what is built of it: how this is kept from one part to the next.
use Rattle.std.proofs.Common.{◌≡◌, ℕ, suc, ◌+◌, ◌≤◌, Bool, true, List, [], ◌∷◌, ◌++◌, length, nat_le, if◌then◌else◌, Option, Some, None, arith, refl, sym, ap, subst, append_assoc, append-nil, ◌∙◌}
use Rattle.std.proofs.lemmas.Bool.{le-leb}
use Rattle.std.specs.List.{AllByRecursion, slice_get}
use Rattle.std.specs.Option.{option_and_then}
use Rattle.std.specs.Prelude.{is_some}
use Rattle.pas_program.specs.declared.routine.Assert.{Assert}
use Rattle.pas_program.specs.Rising.{Part, before, rises, token}
use Rattle.pas_tree.specs.Order.{IsRising, Starts}
use Rattle.pas_check.specs.declared.built.Built.{Built}
use Rattle.pas_check.specs.Built.{Builds, ◌>>=◌, in_order}
use Rattle.pas_check.proofs.PlacesKept.{If, next}

-- ---- starts that rise

-- they rise from the least one that is allowed, and each is below the bound
abbrev pub Between : ℕ → Starts → ℕ → Type 0
Between least [] bound = least ≤ bound
Between least (n ∷ ns) bound = (least ≤ n) × Between (n + 1) ns bound

pub from_earlier : (early late : ℕ) (ns : Starts) (bound : ℕ) → early ≤ late → Between late ns bound → Between early ns bound
from_earlier early late [] bound le h = omega (arith, le, h)
from_earlier early late (n ∷ ns) bound le h = (omega (arith, le, h.0), h.1)

pub least_in_bound : (least : ℕ) (ns : Starts) (bound : ℕ) → Between least ns bound → least ≤ bound
least_in_bound least [] bound h = h
least_in_bound least (n ∷ ns) bound h = omega (arith, h.0, least_in_bound (n + 1) ns bound h.1)

-- the starts of two parts, one behind the other
pub two_parts : (least : ℕ) (xs ys : Starts) (bound : ℕ) → Between least (xs ++ ys) bound → (middle : ℕ) × Between least xs middle × Between middle ys bound
two_parts least [] ys bound h = let e : least ≤ least = omega arith in (least, e, h)
two_parts least (x ∷ xs) ys bound h = let p = two_parts (x + 1) xs ys bound h.1 in (p.0, (h.0, p.1), p.2)

pub record Rising (ns : Starts) : Type 0 where
  pub least : ℕ
  pub bound : ℕ
  pub is : Between least ns bound

pub first_part : (xs ys : Starts) → Rising (xs ++ ys) → Rising xs
first_part xs ys h = let p = two_parts h.least xs ys h.bound h.is in record { least = h.least; bound = p.0; is = p.1 }

pub second_part : (xs ys : Starts) → Rising (xs ++ ys) → Rising ys
second_part xs ys h = let p = two_parts h.least xs ys h.bound h.is in record { least = p.0; bound = h.bound; is = p.2 }

pub behind_one : (n : ℕ) (ns : Starts) → Rising (n ∷ ns) → Rising ns
behind_one n ns h = record { least = n + 1; bound = h.bound; is = h.is.1 }

some_bound : (least : ℕ) (ns : Starts) → IsRising least ns → (bound : ℕ) × Between least ns bound
some_bound least [] h = let e : least ≤ least = omega arith in (least, e)
some_bound least (n ∷ ns) h = let p = some_bound (n + 1) ns h.1 in (p.0, (h.0, p.1))

pub is_rising : (least : ℕ) (ns : Starts) → IsRising least ns → Rising ns
is_rising least ns h = let p = some_bound least ns h in record { least = least; bound = p.0; is = p.1 }

-- ---- parts

abbrev pub Ends : Option ℕ → ℕ → Type 0
Ends None bound = ⊥
Ends (Some n) bound = n ≤ bound

-- where the starts rise, so do the places of the part
pub record Fits (ns : Starts) (part : Part) : Type 0 where
  pub ends : (least bound : ℕ) → Between least ns bound → Ends (part least) bound

and_then_ends : (o : Option ℕ) (part : Part) (middle bound : ℕ) → Ends o middle → ((n : ℕ) → n ≤ middle → Ends (part n) bound) → Ends (option_and_then part o) bound
and_then_ends None part middle bound h k = absurd h
and_then_ends (Some n) part middle bound h k = k n h

pub both_fit : (xs ys : Starts) (p q : Part) → Fits xs p → Fits ys q → Fits (xs ++ ys) (before p q)
both_fit xs ys p q h k = record {
  ends = λ least bound r.
      let m = two_parts least xs ys bound r in
      and_then_ends (p least) q m.0 bound (h.ends least m.0 m.1) (λ n le. k.ends n bound (from_earlier n m.0 ys bound le m.2));
}

pub ends_if : (c : Bool) (o : Option ℕ) (bound : ℕ) → c ≡ true → Ends o bound → Ends (if c then o else None) bound
ends_if c o bound e h = subst (λ (b : Bool). Ends (if b then o else None) bound) (sym e) h

pub token_fits : (n : ℕ) (ns : Starts) → Fits (n ∷ ns) (token n)
token_fits n ns = record {
  ends = λ least bound r. ends_if (nat_le least n) (Some (suc n)) bound (le-leb least n r.0) (let e : suc n ≤ bound = omega (arith, least_in_bound (n + 1) ns bound r.1) in e);
}

pub nothing_fits : Fits [] (λ least. Some least)
nothing_fits = record { ends = λ least bound r. r }

-- starts before those of the part, or behind them
pub fits_behind : (n : ℕ) (ns : Starts) (part : Part) → Fits ns part → Fits (n ∷ ns) part
fits_behind n ns part h = record { ends = λ least bound r. h.ends least bound (from_earlier least (n + 1) ns bound (omega (arith, r.0)) r.1) }

ends_later : (o : Option ℕ) (middle bound : ℕ) → middle ≤ bound → Ends o middle → Ends o bound
ends_later None middle bound le h = h
ends_later (Some n) middle bound le h = omega (arith, le, h)

pub fits_before : (xs ys : Starts) (part : Part) → Fits xs part → Fits (xs ++ ys) part
fits_before xs ys part h = record {
  ends = λ least bound r.
      let m = two_parts least xs ys bound r in
      ends_later (part least) m.0 bound (least_in_bound m.0 ys bound m.2) (h.ends least m.0 m.1);
}

pub fits_same : (xs ys : Starts) (part : Part) → xs ≡ ys → Fits ys part → Fits xs part
fits_same xs ys part e h = subst (λ ns. Fits ns part) (sym e) h

there_is : (o : Option ℕ) (bound : ℕ) → Ends o bound → is_some o ≡ true
there_is None bound h = absurd h
there_is (Some n) bound h = refl

pub part_rises : (ns : Starts) (part : Part) → Rising ns → Fits ns part → rises part ≡ true
part_rises ns part r h = there_is (part 0) r.bound (h.ends 0 r.bound (from_earlier 0 r.least ns r.bound (omega arith) r.is))

-- ---- what is built

-- the assertions so far are the first ones
abbrev pub Begins : List Assert → List Assert → Type 0
Begins all asserts = (rest : List Assert) × (all ≡ asserts ++ rest)

pub begins_itself : (asserts : List Assert) → Begins asserts asserts
begins_itself asserts = ([], sym (append-nil asserts))

-- a list that begins with one that begins with a third
pub begins_shorter : (all some few : List Assert) → Begins all some → Begins some few → Begins all few
begins_shorter all some few p q = (q.0 ++ p.0, p.1 ∙ ap (λ xs. xs ++ p.0) q.1 ∙ append_assoc few q.0 p.0)

pub record Grows (b c : Built) : Type 0 where
  pub asserts : Begins c.asserts b.asserts
  pub routines : c.routines ≡ b.routines

pub grows_not : (b : Built) → Grows b b
grows_not b = record { asserts = begins_itself b.asserts; routines = refl }

pub grows_more : (b c d : Built) → Grows b c → Grows c d → Grows b d
grows_more b c d p q = record { asserts = begins_shorter d.asserts c.asserts b.asserts q.asserts p.asserts; routines = q.routines ∙ p.routines }

pub get_at_end : (asserts : List Assert) (a : Assert) (rest : List Assert) → slice_get ((asserts ++ a ∷ []) ++ rest) (length asserts) ≡ Some a
get_at_end [] a rest = refl
get_at_end (x ∷ asserts) a rest = get_at_end asserts a rest

-- what a part of the program is, built by and by on what was there
abbrev pub Safe : {A : Type 0} → Built → (A → Type 0) → Builds A → Type 0
Safe base P form = (b : Built) → Grows base b → If (form b) (λ r. P r.0 × Grows base r.1)

module _ (base : Built) where
  pub in_order_rises : {A B : Type 0} (P : B → Type 0) (R : A → Type 0) (form : A → Builds B) → ((a : A) → R a → Safe base P (form a)) → (xs : List A) → AllByRecursion R xs → Safe base (AllByRecursion P) (in_order form xs)
  in_order_rises P R form k [] r b l = (tt, l)
  in_order_rises P R form k (x ∷ xs) r b l =
      next (form x b) (λ y. in_order form xs y.1 >>= (λ ys. Some (y.0 ∷ ys.0, ys.1))) (λ y. P y.0 × Grows base y.1) (λ ys. AllByRecursion P ys.0 × Grows base ys.1) (k x r.0 b l)
      (λ y p. next (in_order form xs y.1) (λ ys. Some (y.0 ∷ ys.0, ys.1)) (λ ys. AllByRecursion P ys.0 × Grows base ys.1) (λ ys. AllByRecursion P ys.0 × Grows base ys.1) (in_order_rises P R form k xs r.1 y.1 p.1)
      (λ ys q. ((p.0, q.0), q.1)))

pub if_weaker : {A : Type 0} (o : Option A) (P Q : A → Type 0) → If o P → ((a : A) → P a → Q a) → If o Q
if_weaker None P Q h k = tt
if_weaker (Some a) P Q h k = k a h

-- ---- trees

-- a part of a tree, with what is known of it
abbrev pub With : {A : Type 0} → (A → Type 0) → Type 0
With {A} P = (x : A) × P x
