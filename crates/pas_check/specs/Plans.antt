-- What is kept of the routines of a block before their walk, from the last to the first.
use Rattle.std.specs.Prelude.{◌≡◌, ℕ, ◌+◌, Bool, List, [], ◌∷◌, map, reverse, Option, Some, None, if◌then◌else◌}
use Rattle.std.specs.Map.{lookup}
use Rattle.std.specs.Option.{option_map}
use Rattle.std.specs.Str.{bytes_eq}
use Rattle.std.specs.declared.alloc.Global.{Global}
use Rattle.std.specs.declared.vec.Vec.{Vec}
use Rattle.pas_tree.specs.declared.block.Block.{Block}
use Rattle.pas_tree.specs.declared.block.Routine.{Routine}
use Rattle.pas_check.specs.declared.plan.Bodies.{Bodies}
use Rattle.pas_check.specs.declared.plan.Body.{Body}
use Rattle.pas_check.specs.declared.plan.Plans.{Plans}
use Rattle.pas_check.specs.Block.{ends_inside, ends_of}
use Rattle.pas_check.specs.Blocks.{Numbered, block_of, bodies_given, lacking_by, later_block, plan_of, planned, planned_of}
use Rattle.pas_check.specs.Names.{Name}

abbrev pub block_by : Body → Numbered
block_by b = (b.number, b.block.now)

-- the block with a name
abbrev pub block_at : Name → List (Vec ℕ Global × Body) → Option Numbered
block_at name es = option_map block_by (lookup (λ (k : Vec ℕ Global). bytes_eq name k.items) es)

-- the block with a name and a word
abbrev pub block_given : Bodies → Name → Bool → Option Numbered
block_given b name function = if function then block_at name b.functions.entries else block_at name b.procedures.entries

-- the plan of a heading that waits for a block, if there is one
abbrev pub waiting_plan : ℕ → Option Numbered → ℕ × Option Block
waiting_plan number None = (number, None)
waiting_plan number (Some p) = (p.0, Some p.1)

-- what is kept is that of these routines, the last ones of a block, before which so many have ended
pub record ArePlanned (text : List ℕ) (bodies : Bodies) (plans : Plans) (before : ℕ) (routines : List Routine) : Type 0 where
  pub given : (name : Name) (function : Bool) → block_given bodies name function ≡ later_block text name function before routines
  pub headings : reverse (map plan_of plans.list.items) ≡ map planned_of (planned text before routines)
  pub lacking : lacking_by plans.lacking ≡ bodies_given text routines

-- the numbers of headings with blocks, where so many routines have ended before; a heading without a block has any
abbrev pub own_number : ℕ → Option Block → ℕ
own_number before None = before
own_number before (Some b) = before + ends_inside b

abbrev pub numbers_from : ℕ → List Routine → List ℕ
numbers_from before [] = []
numbers_from before (r ∷ rest) = own_number before (block_of r) ∷ numbers_from (before + ends_of r) rest
