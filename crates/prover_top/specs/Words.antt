-- Which words a command line may have: `prove`, then pairs of an option and its value.
use Rattle.std.specs.Prelude.{ℕ, Bool, true, false, not, ◌&&◌, ◌==◌, nat_le, if◌then◌else◌, List, [], ◌∷◌, length, codes, Option, Some, None, option_and_then, option_map, unwrap_or, is_none}
use Rattle.std.specs.List.{list_all}
use Rattle.std.specs.Str.{bytes_eq}
use Rattle.std.specs.Str.Parse.{digits_value}
use Rattle.std.specs.Char.{is_digit}
use Rattle.case_journal.specs.declared.event.Limits.{Limits}
use Rattle.prover_top.specs.declared.words.Given.{Given}

abbrev pub is_short : ℕ → Bool
is_short count = nat_le 1 count && nat_le count 7

-- one to seven ASCII digits
abbrev pub is_numeral : List ℕ → Bool
is_numeral word = is_short (length word) && list_all (λ byte. is_digit byte 10) word

-- the value of a word of one to seven ASCII digits
abbrev pub number_of : List ℕ → Option ℕ
number_of word = if is_numeral word then Some (digits_value 10 word) else None

abbrev pub none_given : Given
none_given = record { rounds = None; steps = None; splits = None; workers = false }

-- 0 to 1,000,000 rounds, where they are not given yet
abbrev pub with_rounds : Given → ℕ → Option Given
with_rounds given number =
    if is_none given.rounds && nat_le number 1000000 then Some (record { rounds = Some number; steps = given.steps; splits = given.splits; workers = given.workers }) else None

-- 1 to 1,000,000 steps, where they are not given yet
abbrev pub with_steps : Given → ℕ → Option Given
with_steps given number =
    if is_none given.steps && (nat_le 1 number && nat_le number 1000000) then Some (record { rounds = given.rounds; steps = Some number; splits = given.splits; workers = given.workers }) else None

-- 0 to 10,000 splits, where they are not given yet
abbrev pub with_splits : Given → ℕ → Option Given
with_splits given number =
    if is_none given.splits && nat_le number 10000 then Some (record { rounds = given.rounds; steps = given.steps; splits = Some number; workers = given.workers }) else None

-- one worker, where the number of workers is not given yet
abbrev pub with_workers : Given → ℕ → Option Given
with_workers given number =
    if not given.workers && (number == 1) then Some (record { rounds = given.rounds; steps = given.steps; splits = given.splits; workers = true }) else None

-- `--rounds`, `--steps`, `--splits` or `--workers`, with this number
abbrev pub with_number : Given → List ℕ → ℕ → Option Given
with_number given option number =
    if bytes_eq option (codes "--rounds") then with_rounds given number
    else (if bytes_eq option (codes "--steps") then with_steps given number
    else (if bytes_eq option (codes "--splits") then with_splits given number
    else (if bytes_eq option (codes "--workers") then with_workers given number else None)))

abbrev pub with_option : Given → List ℕ → List ℕ → Option Given
with_option given option value = option_and_then (with_number given option) (number_of value)

-- the options after those given, in pairs
abbrev pub options_of : Given → List (List ℕ) → Option Given
options_of given [] = Some given
options_of given (option ∷ []) = None
options_of given (option ∷ value ∷ more) = option_and_then (λ next. options_of next more) (with_option given option value)

-- 10,000 rounds, 100,000 steps and 1,000 splits where none are given
abbrev pub limits_given : Given → Limits
limits_given given = record { rounds = unwrap_or given.rounds 10000; steps = unwrap_or given.steps 100000; splits = unwrap_or given.splits 1000 }

-- the limits, where the words fit
abbrev pub limits_of : List (List ℕ) → Option Limits
limits_of [] = None
limits_of (command ∷ options) = if bytes_eq command (codes "prove") then option_map limits_given (options_of none_given options) else None
