-- What a statement is by paths, one level at a time.
use Rattle.std.proofs.Common.{◌≡◌, ℕ, ℤ, List, ◌++◌, ap}
use Rattle.pas_program.specs.declared.routine.Assert.{Assert}
use Rattle.pas_program.specs.declared.statement.Arm.{Arm}
use Rattle.pas_program.specs.declared.statement.Body.{Body}
use Rattle.pas_program.specs.declared.statement.Body.TheOpen.{Arm-F, Body-F, Statement-F}
use Rattle.pas_program.specs.declared.statement.Body.TheFolds.{fold-Arm, fold-Body, fold-roll-Arm, fold-roll-Body, fold-roll-Statement, map-Body}
use Rattle.pas_program.specs.declared.statement.Body.TheViews.{roll-Arm, roll-Body, roll-Statement}
use Rattle.pas_program.specs.declared.statement.Statement.{Statement}
use Rattle.pas_program.specs.Tables.{Tables}
use Rattle.control_points.specs.Checking.{assert_checks}
use Rattle.control_points.specs.Sites.{Labels, Path, Placing, Site, asserted_point, before, body_labels, body_step, both, judged, own_label, statement_labels, statement_piece, statement_step}

module _ (t : Tables) (asserts : List Assert) (r : ℕ) (label : ℕ → ℕ → Site) where
  abbrev pub placed_body : Body → ℕ → Placing
  placed_body = fold-Body (ℕ → Placing) (List ℤ × Placing) Placing (body_step t asserts r label) (λ a. (a.consts, a.body)) (statement_step t asserts r label)

  abbrev pub placed_arm : Arm → List ℤ × Placing
  placed_arm = fold-Arm (ℕ → Placing) (List ℤ × Placing) Placing (body_step t asserts r label) (λ a. (a.consts, a.body)) (statement_step t asserts r label)

  abbrev pub placed : Statement → Placing
  placed = statement_piece t asserts r label

  abbrev pub placed_in : Body-F Body Arm Statement → Body-F (ℕ → Placing) (List ℤ × Placing) Placing
  placed_in = map-Body Body Arm Statement (ℕ → Placing) (List ℤ × Placing) Placing placed_body placed_arm placed

  pub body_opened : (d : Body-F Body Arm Statement) (at : ℕ) (path : Path) (next : Site) → placed_body (roll-Body d) at path next ≡ body_step t asserts r label (placed_in d) at path next
  body_opened d at path next = ap (λ (f : ℕ → Placing). f at path next) (fold-roll-Body (ℕ → Placing) (List ℤ × Placing) Placing (body_step t asserts r label) (λ a. (a.consts, a.body)) (statement_step t asserts r label) d)

  pub arm_opened : (d : Arm-F Body Arm Statement) → placed_arm (roll-Arm d) ≡ (d.consts, placed d.body)
  arm_opened d = fold-roll-Arm (ℕ → Placing) (List ℤ × Placing) Placing (body_step t asserts r label) (λ a. (a.consts, a.body)) (statement_step t asserts r label) d

  pub statement_opened : (d : Statement-F Body Arm Statement) (path : Path) (next : Site)
      → placed (roll-Statement d) path next ≡ both (asserted_point (before t asserts r path) d.at d.asserts) (both (judged (before t asserts r path) (assert_checks asserts d.asserts)) (placed_body d.body d.at path next))
  statement_opened d path next = ap (λ (f : Placing). f path next) (fold-roll-Statement (ℕ → Placing) (List ℤ × Placing) Placing (body_step t asserts r label) (λ a. (a.consts, a.body)) (statement_step t asserts r label) d)

-- ---- labels

abbrev pub labels_inside : Body → Path → Labels
labels_inside = fold-Body (Path → Labels) (Path → Labels) (Path → Labels) body_labels (λ a. a.body) (λ s path. own_label s.label path ++ s.body path)

abbrev pub arm_labels : Arm → Path → Labels
arm_labels = fold-Arm (Path → Labels) (Path → Labels) (Path → Labels) body_labels (λ a. a.body) (λ s path. own_label s.label path ++ s.body path)

pub body_labels_opened : (d : Body-F Body Arm Statement) (path : Path) → labels_inside (roll-Body d) path ≡ body_labels (map-Body Body Arm Statement (Path → Labels) (Path → Labels) (Path → Labels) labels_inside arm_labels statement_labels d) path
body_labels_opened d path = ap (λ (f : Path → Labels). f path) (fold-roll-Body (Path → Labels) (Path → Labels) (Path → Labels) body_labels (λ a. a.body) (λ s path. own_label s.label path ++ s.body path) d)

pub arm_labels_opened : (d : Arm-F Body Arm Statement) (path : Path) → arm_labels (roll-Arm d) path ≡ statement_labels d.body path
arm_labels_opened d path = ap (λ (f : Path → Labels). f path) (fold-roll-Arm (Path → Labels) (Path → Labels) (Path → Labels) body_labels (λ a. a.body) (λ s path. own_label s.label path ++ s.body path) d)

pub statement_labels_opened : (d : Statement-F Body Arm Statement) (path : Path) → statement_labels (roll-Statement d) path ≡ own_label d.label path ++ labels_inside d.body path
statement_labels_opened d path = ap (λ (f : Path → Labels). f path) (fold-roll-Statement (Path → Labels) (Path → Labels) (Path → Labels) body_labels (λ a. a.body) (λ s path. own_label s.label path ++ s.body path) d)
