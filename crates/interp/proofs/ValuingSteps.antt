-- The first state of a machine, and what comes of its steps.
use Rattle.std.proofs.Common.{◌≡◌, ℕ, zero, suc, ◌-◌, ◌<◌, ◌≤◌, true, false, cond, List, [], ◌∷◌, ◌++◌, length, get_or, take, replicate, refl, sym, ap, ◌∙◌, subst, arith, ℤ, Option, Some, None, Result, Ok, Err}
use Rattle.std.specs.List.{slice_get}
use Rattle.std.proofs.lemmas.Option.{none-some, slice_get-get_or}
use Rattle.pas_program.specs.declared.expr.Expr.{Expr}
use Rattle.pas_program.specs.declared.program.Program.{Program}
use Rattle.pas_program.specs.declared.routine.Routine.{Routine}
use Rattle.control_points.specs.declared.edge.Act.{Act}
use Rattle.control_points.specs.declared.edge.Act.TheVariants as act
use Rattle.control_points.specs.declared.edge.Edge.{Edge}
use Rattle.control_points.specs.declared.fault.Fault.{Fault}
use Rattle.control_points.specs.Chart.{Chart, leaving}
use Rattle.control_points.specs.Evaluation.{Answer}
use Rattle.control_points.specs.States.{Activation, Stack, State}
use Rattle.control_points.specs.Steps as steps
use Rattle.control_points.specs.Steps.{arm_place, first_done, is_halted, next, point_of, selector_of, selector_place}
use Rattle.control_points.specs.Storage.{empty_store}
use Rattle.interp.specs.declared.frame.Frame.{Frame}
use Rattle.interp.specs.declared.machine.Machine.{Machine}
use Rattle.interp.specs.declared.machine.Progress.{Progress}
use Rattle.interp.specs.declared.machine.Progress.TheVariants as progress
use Rattle.interp.specs.Machines.{top_of, top_point}
use Rattle.interp.specs.Meant.{IsAfter, IsStep}
use Rattle.interp.specs.Standing.{IsKept, StackIs, StandsFor, StoreIs, activation_at, content}
use Rattle.interp.proofs.Around.{activation_latest}
use Rattle.interp.proofs.Lists.{same_some, some_at}
use Rattle.interp.proofs.Starting.{first_frame, no_links}
use Rattle.interp.proofs.Targets.{top_point_is}

-- ---- the start

-- nothing is stored in new scalars
pub content_none : (n a : ℕ) → content (replicate n None) a ≡ None
content_none zero a = refl
content_none (suc n) zero = refl
content_none (suc n) (suc a) = content_none n a

take_none : {A : Type 0} (n : ℕ) → ◌≡◌ {A = List A} (take n []) []
take_none zero = refl
take_none (suc n) = refl

pub all_none : (xs scalars : List (Option ℤ)) (n l : ℕ) → xs ≡ [] → l ≡ 0 → scalars ≡ take n xs ++ replicate (n - l) None → scalars ≡ replicate n None
all_none xs scalars n l s z e =
    let long : n - l ≡ n = omega (arith, z) in
    e ∙ ap (λ ys. take n ys ++ replicate (n - l) None) s ∙ ap (λ ys. ys ++ replicate (n - l) None) (take_none n) ∙ ap (λ k. replicate k None) long

pub first_store : (p : Program) (frames : List Frame) (scalars : List (Option ℤ)) (n : ℕ) → scalars ≡ replicate n None → StoreIs p frames scalars empty_store
first_store p frames scalars n e = record {
  held = λ q a t l s. sym (ap (λ xs. content xs a) e ∙ content_none n a);
  nothing_else = λ q z h. absurd (none-some z h);
}

abbrev pub first_activation : ℕ → ℕ → Activation
first_activation r n = record { frame = record { routine = r; call = None; parent = None; bindings = [] }; point = n }

kept_at : (p : Program) (r n : ℕ) (d : Routine) → suc r ≡ length p.routines → slice_get p.routines r ≡ Some d → (links : List ℕ) (k : ℕ) (g : Frame) → slice_get (first_frame r n ∷ []) k ≡ Some g
    → (a : Activation) × (activation_at (first_activation r n ∷ []) k ≡ Some a) × IsKept p (first_frame r n ∷ []) links k g a
kept_at p r n d e f links zero g h =
    let s = same_some (first_frame r n) g h in (
      first_activation r n,
      refl,
      record {
        known = ap (λ (x : Frame). x.routine) s;
        call = ap (λ (x : Frame). x.call) s;
        parent = ap (λ (x : Frame). x.parent) s;
        point = ap (λ (x : Frame). x.point) s;
        bound = λ v x k o i. absurd (no_links p r v d x e f k (o ∙ ap (λ (x : Frame). x.routine) (sym s)) i);
      },
    )
kept_at p r n d e f links (suc k) g h = absurd (none-some g h)

pub first_stack : (p : Program) (r n : ℕ) (d : Routine) → suc r ≡ length p.routines → slice_get p.routines r ≡ Some d → (links : List ℕ) → StackIs p (first_frame r n ∷ []) links (first_activation r n ∷ [])
first_stack p r n d e f links = record { height = refl; each = kept_at p r n d e f links }

-- ---- the point

-- the latest activation stands at the point that the stack tells
pub point_same : (p : Program) (frames : List Frame) (links : List ℕ) (stack : Stack) → StackIs p frames links stack → 0 < length frames → point_of stack ≡ top_point frames
point_same p frames links [] h l = absurd (let e = h.height in omega arith)
point_same p frames links (b ∷ below) h l =
    let t = some_at frames (top_of frames) (omega arith) in
    let e = h.height in
    let d : top_of frames ≡ length below = omega arith in
    let w = h.each (top_of frames) t.0 t.1 in
    let s = same_some b w.0 (sym (activation_latest b below (top_of frames) d) ∙ w.1) in
    ap (λ (x : Activation). x.point) s ∙ w.2.point ∙ sym (top_point_is frames t.0 t.1)

-- ---- the selector of a `case`

pub selector_is : (c : Chart) (edges : List Edge) (ks : List ℕ) (e : Edge) → c.edges ≡ edges → 1 ≤ length ks → get_or ks 0 0 < length edges → selector_of c ks ≡ arm_place (get_or edges (get_or ks 0 0) e).act
selector_is c edges [] e s l b = absurd (omega arith)
selector_is c edges (k ∷ ks) e s l b = ap (λ es. selector_place (slice_get es k)) s ∙ ap selector_place (slice_get-get_or edges k e b)

pub no_arm : (a : Act) → ((x : Expr) (xs : List ℤ) → a ≡ act.Arm x xs → ⊥) → arm_place a ≡ 0
no_arm (act.Arm selector constants) h = absurd (h selector constants refl)
no_arm (act.Call routine actuals slot at) h = refl
no_arm (act.Return j) h = refl
no_arm (act.Goto r) h = refl
no_arm act.Skip h = refl
no_arm (act.Assign target value) h = refl
no_arm (act.Copy target source) h = refl
no_arm (act.Test cond wanted) h = refl
no_arm (act.Enter control bound first down last) h = refl
no_arm (act.Bypass control bound first down last) h = refl
no_arm (act.Next control bound down) h = refl
no_arm (act.Finish control bound down) h = refl
no_arm (act.Read target) h = refl
no_arm act.DropLine h = refl
no_arm (act.Write item) h = refl
no_arm act.EndLine h = refl

-- ---- the step

-- after an edge, the machine has made the step
pub step_after : {E : Type 0} (sel : ℕ) (x : Answer (Option State)) (s : State) (new : Machine) (r : Result Progress E) → IsAfter x s new r → IsStep (steps.progress sel x) s new r
step_after sel (Ok (Some t)) s new (Ok progress.Moved) h = (t, refl, h)
step_after sel (Ok None) s new (Ok progress.Moved) h = absurd h
step_after sel (Err f) s new (Ok progress.Moved) h = absurd h
step_after sel x s new (Ok progress.Halted) h = absurd h
step_after sel x s new (Ok (progress.Error kind at)) h = (ap (steps.progress sel) h.0, h.1)
step_after sel x s new (Err e) h = h

-- the next step, by the point where the machine stands
pub next_halts : (c : Chart) (s : State) → is_halted c s.stack ≡ true → next c s ≡ steps.halts
next_halts c s h = ap (λ b. cond b steps.halts (steps.progress (selector_of c (leaving c.edges (point_of s.stack))) (first_done c s (leaving c.edges (point_of s.stack))))) h

pub next_goes_on : (c : Chart) (s : State) (p : ℕ) → is_halted c s.stack ≡ false → point_of s.stack ≡ p → next c s ≡ steps.progress (selector_of c (leaving c.edges p)) (first_done c s (leaving c.edges p))
next_goes_on c s p h e =
    ap (λ b. cond b steps.halts (steps.progress (selector_of c (leaving c.edges (point_of s.stack))) (first_done c s (leaving c.edges (point_of s.stack))))) h
    ∙ ap (λ p. steps.progress (selector_of c (leaving c.edges p)) (first_done c s (leaving c.edges p))) e

-- an error is told, and the machine is as it was
pub step_fails : (E : Type 0) (x : steps.Progress) (f : Fault) (s : State) (m : Machine) (r : Progress) → r ≡ progress.Error f.kind f.at → x ≡ steps.fails f → StandsFor m s → IsStep {E = E} x s m (Ok r)
step_fails E x f s m r e h k = subst (λ (r : Progress). IsStep {E = E} x s m (Ok r)) (sym e) (h, k)
