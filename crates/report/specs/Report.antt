-- The report of an analysis, as text.
use Rattle.std.specs.Prelude.{ℕ, Bool, List, [], length, ◌++◌, codes, decimal, slice_get, unwrap_or, option_map, ℤ, if◌then◌else◌, map, ◌+◌}
use Rattle.std.specs.List.{flat_map, range_with_len, zip}
use Rattle.px_base.specs.Place.{place_at}
use Rattle.px_base.specs.declared.place.Pos.{Pos}
use Rattle.interval.specs.declared.itv.Itv.{Itv}
use Rattle.interval.specs.declared.val.Val.{Val}
use Rattle.interval.specs.Intervals.{is_empty}
use Rattle.activations.specs.Drawn.{Drawn}
use Rattle.control_points.specs.declared.check.Check.{Check}
use Rattle.control_points.specs.declared.flow.Flow.{Flow}
use Rattle.control_points.specs.declared.point.Point.{Point}
use Rattle.control_points.specs.declared.point.PointKind.{PointKind}
use Rattle.control_points.specs.declared.point.PointKind.TheVariants as kind
use Rattle.control_points.specs.Chart.{place_of_point}
use Rattle.control_points.specs.Evaluation.{var_type}
use Rattle.control_points.specs.Output.{text_of}
use Rattle.interp.specs.RunText.{kind_text}
use Rattle.pas_program.specs.Checked.{tables}
use Rattle.report.specs.declared.condition.Condition.{Condition}
use Rattle.report.specs.declared.condition.Demand.{Demand}
use Rattle.report.specs.declared.condition.Demand.TheVariants.{Holds, OffTheWay}
use Rattle.report.specs.declared.counts.Counts.{Counts}
use Rattle.report.specs.Conditions.{conditions, counts, is_possible, open_checks}
use Rattle.report.specs.Hosts.{has_booleans}
use Rattle.transfer_fwd.specs.Forward.{Table}
use Rattle.report.specs.Nodes.{is_reached, joined}
use Rattle.report.specs.Visible.{Text, name_of, visible}

-- the places of the bytes of a text and of its end, at their offsets
abbrev pub byte_places : Text → List Pos
byte_places text = map (place_at text) (range_with_len 0 (1 + length text))

-- ---- parts of lines

abbrev pub place_text : Pos → Text
place_text p = decimal p.line ++ codes ":" ++ decimal p.col

abbrev pub bound_text : Bool → ℤ → Text
bound_text boolean z = (text_of boolean z).bytes

-- `in LO..HI`
abbrev pub range_text : Bool → Itv → Text
range_text boolean x = codes "in " ++ bound_text boolean x.lo ++ codes ".." ++ bound_text boolean x.hi

-- `in LO..HI`, `undefined`, or both
abbrev pub value_text : Bool → Val → Text
value_text boolean v =
    if is_empty v.itv then codes "undefined"
    else range_text boolean v.itv ++ (if v.undef then codes " or undefined" else [])

abbrev pub point_word : PointKind → Text
point_word kind.Entry = codes "entry"
point_word kind.Before = codes "before"
point_word kind.AfterCall = codes "after call"
point_word kind.AfterRead = codes "after read"
point_word kind.AfterWrite = codes "after write"
point_word kind.Until = codes "until"
point_word kind.Step = codes "step"
point_word kind.Exit = codes "exit"

abbrev pub origin_text : Bool → Text
origin_text possible = if possible then codes "\norigin possible\n" else codes "\norigin no good run\n"

-- the lines `file` and `origin`
abbrev pub head_text : Text → Bool → Text
head_text name possible = codes "file " ++ name ++ origin_text possible

-- what stands behind the name of a variable, of which a part may be meant
abbrev pub part_word : Bool → Text
part_word of_part = if of_part then codes "[] " else codes " "

abbrev pub count_text : ℕ → Text → Text
count_text n word = decimal n ++ word

-- `total N conditions, N needless, N open`
abbrev pub total_line : Counts → Text
total_line n =
    codes "total " ++ count_text n.conditions (codes " conditions, ") ++ count_text n.needless (codes " needless, ") ++ count_text n.open_checks (codes " open\n")

-- ---- lines

module _ (text : Text) (f : Flow) where
  abbrev pub placed : ℕ → Text
  placed at = place_text (place_at text at)

  -- whether the numbers of a variable, or of its elements, are truths
  abbrev pub is_boolean : ℕ → Bool
  is_boolean v = has_booleans f.program.types (var_type (tables f.program) v)

  abbrev pub demand_text : ℕ → Demand → Text
  demand_text v (Holds value) = value_text (is_boolean v) value
  demand_text v OffTheWay = codes "not on the way"

  -- `condition LINE:COL NAME in LO..HI`
  abbrev pub condition_line : Condition → Text
  condition_line c =
      codes "condition " ++ placed (place_of_point f.points c.point) ++ codes " " ++ name_of text f.program c.var
      ++ part_word c.of_part ++ demand_text c.var c.demand ++ codes "\n"

  -- `check LINE:COL KIND open`
  abbrev pub check_line : Check × Bool → Text
  check_line c = codes "check " ++ placed c.0.at ++ codes " " ++ kind_text c.0.kind ++ (if c.1 then codes " open\n" else codes " needless\n")

  -- `point LINE:COL WORD`
  abbrev pub point_label : Point → Text
  point_label q = codes "point " ++ placed q.at ++ codes " " ++ point_word q.kind

  module _ (g : Drawn) (way : Table) where
    -- `  NAME in LO..HI`
    abbrev pub variable_line : ℕ → ℕ → Text
    variable_line p v = codes "  " ++ name_of text f.program v ++ codes " " ++ value_text (is_boolean v) (joined g way p v) ++ codes "\n"

    -- a line for each variable that is seen at a point, where that is on the way
    abbrev pub reached_lines : ℕ → List ℕ → Text
    reached_lines p vars = if is_reached g way p then codes "\n" ++ flat_map (variable_line p) vars else codes " not on the way\n"

    abbrev pub point_lines_of : ℕ → Point → Text
    point_lines_of p q = point_label q ++ reached_lines p (visible text f.program q.routine)

    abbrev pub point_lines : ℕ → Text
    point_lines p = unwrap_or (option_map (point_lines_of p) (slice_get f.points p)) []

-- ---- the whole

module _ (text : Text) (f : Flow) (g : Drawn) (plain way : Table) where
  abbrev pub report_text : Text → Bool → Text
  report_text name all_points =
      head_text name (is_possible way)
      ++ flat_map (condition_line text f) (conditions f g plain way)
      ++ flat_map (check_line text f) (zip f.checks (open_checks f g plain))
      ++ (if all_points then flat_map (point_lines text f g way) (range_with_len 0 (length f.points)) else [])
      ++ total_line (counts f g plain way)
