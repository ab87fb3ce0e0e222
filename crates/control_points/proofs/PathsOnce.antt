-- How often a point may stand in a piece, by its path: which parts of a statement it may be in.
use Rattle.std.proofs.Common.{◌≡◌, ℕ, suc, ◌+◌, ◌≤◌, Bool, true, false, ◌&&◌, cond, List, [], ◌∷◌, ◌++◌, refl, ap, ◌∙◌, Option, Some, None, nat_eq, nat_le, arith}
use Rattle.std.proofs.lemmas.Bool.Decides.{nat_tests}
use Rattle.control_points.specs.declared.edge.Act.{Act}
use Rattle.control_points.specs.declared.point.PointKind.{PointKind}
use Rattle.control_points.specs.declared.point.PointKind.TheVariants as kind
use Rattle.control_points.specs.Calls.{CallSite}
use Rattle.control_points.specs.Checking.{Faults}
use Rattle.control_points.specs.Sites.{Link, Path, Piece, Placed, Site, both, call_links, is_call_from, judged, nothing, point_of, same_kind, same_path, same_site, way}
use Rattle.control_points.proofs.PathsLists.{bit, times, times_both}

-- ---- paths

-- the path behind another one
abbrev pub rest_of : Path → Path → Option Path
rest_of [] q = Some q
rest_of (m ∷ p) [] = None
rest_of (m ∷ p) (n ∷ q) = cond (nat_eq m n) (rest_of p q) None

-- the path behind the n-th part
abbrev pub behind : ℕ → Option Path → Option Path
behind n None = None
behind n (Some []) = None
behind n (Some (m ∷ q)) = cond (nat_eq n m) (Some q) None

abbrev pub is_own : Option Path → Bool
is_own None = false
is_own (Some []) = true
is_own (Some (m ∷ q)) = false

behind_tested : (n : ℕ) (b : Bool) (o : Option Path) → cond b (behind n o) None ≡ behind n (cond b o None)
behind_tested n true o = refl
behind_tested n false o = refl

pub rest_inner : (p q : Path) (n : ℕ) → rest_of (p ++ n ∷ []) q ≡ behind n (rest_of p q)
rest_inner [] [] n = refl
rest_inner [] (m ∷ q) n = refl
rest_inner (m ∷ p) [] n = refl
rest_inner (m ∷ p) (k ∷ q) n = ap (λ o. cond (nat_eq m k) o None) (rest_inner p q n) ∙ behind_tested n (nat_eq m k) (rest_of p q)

own_tested : (b : Bool) (o : Option Path) → (b && is_own o) ≡ is_own (cond b o None)
own_tested true o = refl
own_tested false o = refl

same_path_is : (p q : Path) → same_path p q ≡ is_own (rest_of p q)
same_path_is [] [] = refl
same_path_is [] (n ∷ q) = refl
same_path_is (m ∷ p) [] = refl
same_path_is (m ∷ p) (n ∷ q) = ap (λ b. nat_eq m n && b) (same_path_is p q) ∙ own_tested (nat_eq m n) (rest_of p q)

-- ---- weights: how often a point may stand there

abbrev pub within : Option Path → ℕ
within None = 0
within (Some q) = 1

-- in the n-th part or one behind it
abbrev pub from_part : ℕ → Option Path → ℕ
from_part n None = 0
from_part n (Some []) = 0
from_part n (Some (m ∷ q)) = bit (nat_le n m)

pub bit_small : (b : Bool) → bit b ≤ 1
bit_small true = omega arith
bit_small false = omega arith

pub next_test : (n m : ℕ) → bit (nat_eq n m) + bit (nat_le (suc n) m) ≤ bit (nat_le n m)
next_test n m = grind (arith, nat_tests)

pub within_tested : (b : Bool) (q : Path) → within (cond b (Some q) None) ≡ bit b
within_tested true q = refl
within_tested false q = refl

pub part_split : (n : ℕ) (o : Option Path) → within (behind n o) + from_part (suc n) o ≤ from_part n o
part_split n None = omega arith
part_split n (Some []) = omega arith
part_split n (Some (m ∷ q)) = let w = within_tested (nat_eq n m) q in let t = next_test n m in omega (arith, w, t)

-- a point of a kind with the number n or a greater one
abbrev pub own_tests : Option Path → PointKind → PointKind → Bool → Bool
own_tests o k l b = is_own o && (same_kind k l && b)

split_tests : (b c : Bool) (n m : ℕ) → bit (b && (c && nat_eq n m)) + bit (b && (c && nat_le (suc n) m)) ≤ bit (b && (c && nat_le n m))
split_tests true true n m = next_test n m
split_tests true false n m = omega arith
split_tests false c n m = omega arith

abbrev pub budget : Option Path → PointKind → ℕ → ℕ
budget o l m =
    bit (own_tests o kind.AfterCall l (nat_le 0 m)) + bit (own_tests o kind.AfterRead l (nat_le 0 m)) + bit (own_tests o kind.AfterWrite l (nat_le 0 m))
    + bit (own_tests o kind.Until l (nat_le 0 m)) + bit (own_tests o kind.Step l (nat_le 0 m)) + from_part 0 o

budget_fits : (o : Option Path) (l : PointKind) (m : ℕ) → bit (own_tests o kind.Before l (nat_eq 0 m)) + budget o l m ≤ within o
budget_fits None l m = omega arith
budget_fits (Some (n ∷ q)) l m = let s = bit_small (nat_le 0 n) in omega (arith, s)
budget_fits (Some []) kind.Entry m = omega arith
budget_fits (Some []) kind.Before m = let s = bit_small (nat_eq 0 m) in omega (arith, s)
budget_fits (Some []) kind.AfterCall m = let s = bit_small (nat_le 0 m) in omega (arith, s)
budget_fits (Some []) kind.AfterRead m = let s = bit_small (nat_le 0 m) in omega (arith, s)
budget_fits (Some []) kind.AfterWrite m = let s = bit_small (nat_le 0 m) in omega (arith, s)
budget_fits (Some []) kind.Until m = let s = bit_small (nat_le 0 m) in omega (arith, s)
budget_fits (Some []) kind.Step m = let s = bit_small (nat_le 0 m) in omega (arith, s)
budget_fits (Some []) kind.Exit m = omega arith

block_fits : (o : Option Path) (l : PointKind) (m : ℕ) → bit (own_tests o kind.Entry l (nat_eq 0 m)) + from_part 0 o + bit (own_tests o kind.Exit l (nat_eq 0 m)) ≤ within o
block_fits None l m = omega arith
block_fits (Some (n ∷ q)) l m = let s = bit_small (nat_le 0 n) in omega (arith, s)
block_fits (Some []) kind.Entry m = let s = bit_small (nat_eq 0 m) in omega (arith, s)
block_fits (Some []) kind.Before m = omega arith
block_fits (Some []) kind.AfterCall m = omega arith
block_fits (Some []) kind.AfterRead m = omega arith
block_fits (Some []) kind.AfterWrite m = omega arith
block_fits (Some []) kind.Until m = omega arith
block_fits (Some []) kind.Step m = omega arith
block_fits (Some []) kind.Exit m = let s = bit_small (nat_eq 0 m) in omega (arith, s)

-- ---- a point x, and a place in a routine

module _ (x : Site) (r : ℕ) where
  abbrev pub at_place : Path → Option Path
  at_place path = rest_of (r ∷ path) (x.routine ∷ x.path)

  abbrev pub one_of : PointKind → ℕ → Path → ℕ
  one_of k n path = bit (same_site (record { routine = r; path = path; kind = k; number = n }) x)

  abbrev pub from_number : PointKind → ℕ → Path → ℕ
  from_number k n path = bit (own_tests (at_place path) k x.kind (nat_le n x.number))

  one_is : (k : PointKind) (n : ℕ) (path : Path) → one_of k n path ≡ bit (own_tests (at_place path) k x.kind (nat_eq n x.number))
  one_is k n path = ap (λ b. bit (b && (same_kind k x.kind && nat_eq n x.number))) (same_path_is (r ∷ path) (x.routine ∷ x.path))

  pub number_split : (k : PointKind) (n : ℕ) (path : Path) → one_of k n path + from_number k (suc n) path ≤ from_number k n path
  number_split k n path =
      let s = split_tests (is_own (at_place path)) (same_kind k x.kind) n x.number in
      omega (arith, s, one_is k n path)

  -- the first of a kind
  pub first_fits : (k : PointKind) (path : Path) → one_of k 0 path ≤ from_number k 0 path
  first_fits k path = let s = number_split k 0 path in omega (arith, s)

  abbrev pub room : Path → ℕ
  room path = budget (at_place path) x.kind x.number

  pub statement_fits : (path : Path) → one_of kind.Before 0 path + room path ≤ within (at_place path)
  statement_fits path =
      let f = budget_fits (at_place path) x.kind x.number in
      omega (arith, f, one_is kind.Before 0 path)

  pub routine_fits : one_of kind.Entry 0 [] + from_part 0 (at_place []) + one_of kind.Exit 0 [] ≤ within (at_place [])
  routine_fits =
      let f = block_fits (at_place []) x.kind x.number in
      omega (arith, f, one_is kind.Entry 0 [], one_is kind.Exit 0 [])

  pub inner_place : (path : Path) (n : ℕ) → at_place (path ++ n ∷ []) ≡ behind n (at_place path)
  inner_place path n = rest_inner (r ∷ path) (x.routine ∷ x.path) n

-- ---- pieces

module _ (x : Site) where
  abbrev pub in_points : List Placed → ℕ
  in_points xs = times (λ (p : Placed). same_site p.site x) xs

  abbrev pub in_calls : List Link → ℕ
  in_calls ls = times (is_call_from x) ls

  -- the point stands at most so often in the piece, and calls leave it no more often, but for calls that leave a point before the piece
  pub record IsOnce (p : Piece) (source most : ℕ) : Type 0 where
    pub points : in_points p.points ≤ most
    pub calls : in_calls p.links ≤ source + in_points p.points

  pub once_both : (p q : Piece) (a b m n : ℕ) → IsOnce p a m → IsOnce q b n → IsOnce (both p q) (a + b) (m + n)
  once_both p q a b m n f g = record {
    points = omega (arith, f.points, g.points, times_both (λ (y : Placed). same_site y.site x) p.points q.points);
    calls = omega (arith, f.calls, g.calls, times_both (λ (y : Placed). same_site y.site x) p.points q.points, times_both (is_call_from x) p.links q.links);
  }

  pub once_within : (p : Piece) (a b m n : ℕ) → a ≤ b → m ≤ n → IsOnce p a m → IsOnce p b n
  once_within p a b m n h k f = record { points = omega (arith, f.points, k); calls = omega (arith, f.calls, h) }

  pub once_nothing : IsOnce nothing 0 0
  once_nothing = record { points = omega arith; calls = omega arith }

  pub once_judged : (s : Site) (faults : Faults) → IsOnce (judged s faults) 0 0
  once_judged s faults = record { points = omega arith; calls = omega arith }

  pub once_way : (s u : Site) (a : Act) → IsOnce (way s a u) 0 0
  once_way s u a = record { points = omega arith; calls = omega arith }

  pub once_point : (s : Site) (at : ℕ) → IsOnce (point_of s at) 0 (bit (same_site s x))
  once_point s at = record { points = omega arith; calls = omega arith }

  pub once_call : (c : CallSite) (s u : Site) → IsOnce (call_links c s u) (bit (same_site s x)) 0
  once_call c s u = record { points = omega arith; calls = omega arith }
