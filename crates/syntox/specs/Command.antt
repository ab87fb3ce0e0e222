-- What the words of the command line ask for. A word is its bytes.
use Rattle.std.specs.Prelude.{ℕ, ◌+◌, ◌-◌, ◌*◌, nat_le, List, [], ◌∷◌, Bool, true, false, not, ◌&&◌, ◌==◌, if◌then◌else◌, Option, Some, None, option_map, Vec, String, map, string_bytes, codes}
use Rattle.std.specs.Char.{is_ascii_digit}
use Rattle.std.specs.List.{list_all}
use Rattle.std.specs.Str.{byte, bytes_eq}
use Rattle.std.specs.declared.alloc.Global.{Global}
use Rattle.syntox.specs.declared.command.Command.{Command}
use Rattle.syntox.specs.declared.command.Command.TheVariants as command

-- what is asked for: the analysis of the program in a file, with or without what is known at each point, or a run of it, of at most so
-- many steps
pub data Asked : Type 0 where
  analysis_of : List ℕ → Bool → Asked
  run_of : List ℕ → ℕ → Asked

-- no option: it doesn't begin with `-`, or is `-` alone
abbrev pub is_operand : List ℕ → Bool
is_operand [] = true
is_operand (first ∷ []) = true
is_operand (first ∷ second ∷ rest) = not (first == byte "-")

-- ---- numbers of steps

abbrev pub default_steps : ℕ
default_steps = 1000000

abbrev pub max_steps : ℕ
max_steps = 1000000000

-- the number that digits write after others whose value is given
abbrev pub number_after : ℕ → List ℕ → ℕ
number_after value [] = value
number_after value (digit ∷ digits) = number_after (value * 10 + (digit - byte "0")) digits

abbrev pub within_steps : ℕ → Option ℕ
within_steps steps = if nat_le 1 steps && nat_le steps max_steps then Some steps else None

-- one or more digits, with a value from 1 to the most
abbrev pub steps_of : List ℕ → Option ℕ
steps_of digits = if list_all is_ascii_digit digits then within_steps (number_after 0 digits) else None

-- ---- commands

-- `analyse FILE` or `run FILE`
abbrev pub plain : List ℕ → List ℕ → Option Asked
plain command file =
    if bytes_eq command (codes "analyse") then Some (analysis_of file false)
    else (if bytes_eq command (codes "run") then Some (run_of file default_steps) else None)

-- `analyse FILE --points`
abbrev pub with_points : List ℕ → List ℕ → List ℕ → Option Asked
with_points command file option =
    if bytes_eq command (codes "analyse") && bytes_eq option (codes "--points") then Some (analysis_of file true) else None

-- `run FILE --steps N`
abbrev pub with_steps : List ℕ → List ℕ → List ℕ → List ℕ → Option Asked
with_steps command file option number =
    if bytes_eq command (codes "run") && bytes_eq option (codes "--steps")
    then option_map (λ steps. run_of file steps) (steps_of number)
    else None

-- one of these, of a file that is no option
abbrev pub asked_of : List (List ℕ) → Option Asked
asked_of (command ∷ file ∷ []) = if is_operand file then plain command file else None
asked_of (command ∷ file ∷ option ∷ []) = if is_operand file then with_points command file option else None
asked_of (command ∷ file ∷ option ∷ number ∷ []) = if is_operand file then with_steps command file option number else None
asked_of _ = None

-- the same of the words as they are given
abbrev pub asked : Vec (String Global) Global → Option Asked
asked words = asked_of (map string_bytes words.items)

-- the file that is asked for
abbrev pub file_of : Asked → List ℕ
file_of (analysis_of file points) = file
file_of (run_of file steps) = file

-- what a command that was read asks for
abbrev pub told : Command → Asked
told (command.Analyse file points) = analysis_of file.now points
told (command.Run file steps) = run_of file.now steps
