-- A step writes behind what was written before it.
use Rattle.std.proofs.Common.{◌≡◌, ℕ, Bool, true, false, cond, List, [], ◌∷◌, ◌++◌, length, take, refl, sym, ap, ◌∙◌, subst, ℤ, Option, Some, None, Ok, Err, append-nil}
use Rattle.std.specs.List.{slice_get}
use Rattle.pas_program.specs.declared.expr.Expr.{Expr}
use Rattle.control_points.specs.declared.edge.Act.{Act}
use Rattle.control_points.specs.declared.edge.Act.TheVariants as act
use Rattle.control_points.specs.declared.edge.Edge.{Edge}
use Rattle.control_points.specs.Actions as meaning
use Rattle.control_points.specs.Actions.{Effect, Outcome, effect_of}
use Rattle.control_points.specs.Chart.{Chart, leaving, place_of_point}
use Rattle.control_points.specs.Evaluation.{Answer, Spot, then_with}
use Rattle.control_points.specs.Input.{Taken}
use Rattle.control_points.specs.Output.{Written, line_feed}
use Rattle.control_points.specs.States.{State}
use Rattle.control_points.specs.Steps.{edge_effect, first_done, halts, is_halted, moves, next, or_else, point_of, progress, selector_of}

-- the output begins with what was written
abbrev pub Begins : List ℕ → List ℕ → Type 0
Begins before output = (bytes : List ℕ) × (output ≡ before ++ bytes)

pub begins_same : (xs : List ℕ) → Begins xs xs
begins_same xs = ([], sym (append-nil xs))

pub take_front : (xs ys : List ℕ) → take (length xs) (xs ++ ys) ≡ xs
take_front [] ys = refl
take_front (x ∷ xs) ys = ap (λ zs. x ∷ zs) (take_front xs ys)

-- what was written is the front of the output
pub front_is : (before output : List ℕ) → Begins before output → take (length before) output ≡ before
front_is before output w = ap (take (length before)) w.1 ∙ take_front before w.0

-- the same of what comes of an action
abbrev Grows : List ℕ → Outcome → Type 0
Grows before (Ok (Some e)) = Begins before e.output
Grows before _ = Unit {0}

then_grows : {A : Type 0} (before : List ℕ) (x : Answer A) (f : A → Outcome) → ((a : A) → Grows before (f a)) → Grows before (then_with x f)
then_grows before (Ok a) f h = h a
then_grows before (Err e) f h = tt

cond_grows : (before : List ℕ) (b : Bool) (x y : Outcome) → Grows before x → Grows before y → Grows before (cond b x y)
cond_grows before true x y h k = h
cond_grows before false x y h k = k

module _ (c : Chart) (s : State) where
  none : Begins s.output s.output
  none = begins_same s.output

  abbrev adds : Outcome → Type 0
  adds = Grows s.output

  give_grows : (at : ℕ) (slot : Option ℕ) → adds (meaning.give_back c s at slot)
  give_grows at None = none
  give_grows at (Some slot) = search (then_grows, none)

  range_grows : (first last : Expr) (f : ℤ → ℤ → Outcome) → ((x y : ℤ) → adds (f x y)) → adds (meaning.range_of c s first last f)
  range_grows first last f h = search (then_grows, h)

  turn_grows : (control bound at : ℕ) (f : ℤ → ℤ → Outcome) → ((x y : ℤ) → adds (f x y)) → adds (meaning.turn_of c s control bound at f)
  turn_grows control bound at f h = search (then_grows, h)

  taken_grows : (n : ℕ) (p : Spot) (o : Option Taken) → adds (meaning.with_taken c s n p o)
  taken_grows n p None = tt
  taken_grows n p (Some taken) = search (then_grows, none)

  puts_grows : (bytes : List ℕ) → adds (meaning.puts_out c s bytes)
  puts_grows bytes = (bytes, refl)

  write_grows : (width : Option Expr) (w : Written) → adds (meaning.write_in c s width w)
  write_grows None w = puts_grows w.bytes
  write_grows (Some width) w = search (then_grows, puts_grows)

  effect_grows : (k at : ℕ) (a : Act) → adds (effect_of c s k at a)
  effect_grows k at act.Skip = none
  effect_grows k at (act.Assign target e) = search (then_grows, none)
  effect_grows k at (act.Copy target source) = search (then_grows, none)
  effect_grows k at (act.Call routine actuals slot name) = search (then_grows, none)
  effect_grows k at (act.Return j) = search (cond_grows, give_grows)
  effect_grows k at (act.Goto routine) = none
  effect_grows k at (act.Test e wanted) = search (then_grows, cond_grows, none)
  effect_grows k at (act.Arm selector constants) = search (then_grows, cond_grows, none)
  effect_grows k at (act.Enter control bound first down last) = search (range_grows, then_grows, cond_grows, none) depth 7
  effect_grows k at (act.Bypass control bound first down last) = search (then_grows, cond_grows, none)
  effect_grows k at (act.Next control bound down) = search (then_grows, cond_grows, none)
  effect_grows k at (act.Finish control bound down) = search (then_grows, cond_grows, none)
  effect_grows k at (act.Read target) = search (then_grows, taken_grows)
  effect_grows k at act.DropLine = none
  effect_grows k at (act.Write item) = search (then_grows, write_grows)
  effect_grows k at act.EndLine = puts_grows (line_feed ∷ [])

  edge_grows : (k : ℕ) (o : Option Edge) → Grows s.output (edge_effect c s k o)
  edge_grows k None = tt
  edge_grows k (Some e) = effect_grows k (place_of_point c.points e.from) e.act

  -- the same of the state after an edge
  abbrev GrowsTo : Answer (Option State) → Type 0
  GrowsTo (Ok (Some t)) = Begins s.output t.output
  GrowsTo _ = Unit {0}

  or_grows : (k : ℕ) (x : Outcome) (others : Answer (Option State)) → Grows s.output x → GrowsTo others → GrowsTo (or_else c s k x others)
  or_grows k (Ok (Some e)) others h g = h
  or_grows k (Ok None) others h g = g
  or_grows k (Err f) others h g = tt

  first_grows : (ks : List ℕ) → GrowsTo (first_done c s ks)
  first_grows [] = tt
  first_grows (k ∷ ks) = or_grows k (edge_effect c s k (slice_get c.edges k)) (first_done c s ks) (edge_grows k (slice_get c.edges k)) (first_grows ks)

  next_by : (b : Bool) (sel : ℕ) (x : Answer (Option State)) (t : State) → GrowsTo x → cond b halts (progress sel x) ≡ moves t → Begins s.output t.output
  next_by true sel x t h e = absurd (cc)
  next_by false sel (Ok (Some u)) t h e = let same : u ≡ t = cc in subst (λ (v : State). Begins s.output v.output) same h
  next_by false sel (Ok None) t h e = absurd (cc)
  next_by false sel (Err f) t h e = absurd (cc)

  pub next_grows : (t : State) → next c s ≡ moves t → Begins s.output t.output
  next_grows t e = next_by (is_halted c s.stack) (selector_of c (leaving c.edges (point_of s.stack))) (first_done c s (leaving c.edges (point_of s.stack))) t (first_grows (leaving c.edges (point_of s.stack))) e
