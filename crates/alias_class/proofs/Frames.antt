-- The frames of a stack, and what is below a depth.
use Rattle.std.proofs.Common.{◌≡◌, ℕ, suc, ◌<◌, Bool, true, false, [], ◌∷◌, length, Some, nat_eq, refl, ap, ◌∙◌, arith}
use Rattle.std.specs.Prelude.{if◌then◌else◌}
use Rattle.std.proofs.lemmas.Bool.Decides.{nat_tests}
use Rattle.control_points.specs.Finding.{frame_at}
use Rattle.control_points.specs.Matching.{below_depth}
use Rattle.control_points.specs.States.{Activation, Frame, Stack}
use Rattle.alias_class.proofs.Chains.{IsDepth, depth_of, lower_depth, same_depth}
use Rattle.alias_class.proofs.Chains.IsDepth.{latest, lower}

pub frame_lower : (a : Activation) (below : Stack) (n : ℕ) → n < length below → frame_at (a ∷ below) n ≡ frame_at below n
frame_lower a below n h = ap (λ (b : Bool). if b then Some a.frame else frame_at below n) (lower_depth n (length below) h)

pub frame_latest : (a : Activation) (below : Stack) → frame_at (a ∷ below) (length below) ≡ Some a.frame
frame_latest a below = ap (λ (b : Bool). if b then Some a.frame else frame_at below (length below)) (same_depth (length below))

pub below_lower : (a : Activation) (below : Stack) (n : ℕ) → n < length below → below_depth (a ∷ below) n ≡ below_depth below n
below_lower a below n h = ap (λ (b : Bool). if b then below else below_depth below n) (lower_depth n (length below) h)

pub below_latest : (a : Activation) (below : Stack) → below_depth (a ∷ below) (length below) ≡ below
below_latest a below = ap (λ (b : Bool). if b then below else below_depth below (length below)) (same_depth (length below))

pub frame_there : (stack : Stack) (n : ℕ) → n < length stack → (g : Frame) × (frame_at stack n ≡ Some g)
frame_there [] n h = absurd (omega arith)
frame_there (a ∷ below) n h = by (depth_of (length below) n h) (frame_there below n)
  where
    by : IsDepth (length below) n → (n < length below → (g : Frame) × (frame_at below n ≡ Some g)) → (g : Frame) × (frame_at (a ∷ below) n ≡ Some g)
    by (latest e) rest = (a.frame, ap (frame_at (a ∷ below)) e ∙ frame_latest a below)
    by (lower less) rest = let g = rest less in (g.0, frame_lower a below n less ∙ g.1)

pub frame_within : (stack : Stack) (n : ℕ) (g : Frame) → frame_at stack n ≡ Some g → n < length stack
frame_within [] n g e = absurd (grind arith)
frame_within (a ∷ below) n g e = by (nat_eq n (length below)) refl e (frame_within below n g)
  where
    by : (b : Bool) → nat_eq n (length below) ≡ b → (if b then Some a.frame else frame_at below n) ≡ Some g → (frame_at below n ≡ Some g → n < length below) → n < suc (length below)
    by true same is rest = let equal : n ≡ length below = grind (arith, nat_tests) in omega arith
    by false other is rest = let less = rest is in omega arith
