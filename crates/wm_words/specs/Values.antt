-- The commands that the values of options make.
use Rattle.std.specs.Prelude.{ℕ, ◌+◌, ◌-◌, ◌*◌, ◌^◌, ◌≤◌, ◌<◌, Bool, ◌&&◌, nat_le, nat_lt, if◌then◌else◌, List, [], ◌∷◌, length, Option, None, Some, option_map, option_and_then, Result, Ok, Err}
use Rattle.std.specs.List.{list_all}
use Rattle.std.specs.Char.{is_ascii_digit}
use Rattle.wm_base.specs.declared.instant.TheConstants.{END}
use Rattle.wm_instants.specs.Instants.{instant_of}
use Rattle.wm_instants.specs.declared.refusal.InstantRefusal.{InstantRefusal}
use Rattle.wm_words.specs.declared.command.Command.{Command}
use Rattle.wm_words.specs.declared.command.Command.TheVariants.{Init, Run, Check, Load}

-- the number that these digits write behind a number
abbrev pub number_behind : ℕ → List ℕ → ℕ
number_behind number [] = number
number_behind number (digit ∷ digits) = number_behind (10 * number + (digit - 48)) digits

-- 1 to 20 decimal digits
abbrev pub are_digits : List ℕ → Bool
are_digits text = nat_le 1 (length text) && (nat_le (length text) 20 && list_all is_ascii_digit text)

-- the number from `least` to `greatest` that these digits write
abbrev pub number_within : ℕ → ℕ → List ℕ → Option ℕ
number_within least greatest text =
    if are_digits text && (nat_le least (number_behind 0 text) && nat_le (number_behind 0 text) greatest) then Some (number_behind 0 text) else None

-- a limit that a store can have, a moment at which a run can begin, or a number and a count of lines from which a script can be drawn
abbrev pub IsInBounds : Command → Type 0
IsInBounds (Init limit) = (1 ≤ limit) × (limit ≤ 1048576)
IsInBounds (Run moment) = moment < END
IsInBounds Check = Unit {0}
IsInBounds (Load seed lines) = (seed < 2 ^ 64) × (lines ≤ 1000000)

-- the command `init` of this limit
abbrev pub init_of : List ℕ → Option Command
init_of text = option_map Init (number_within 1 1048576 text)

-- the command `run` that begins at the instant, which is to be a moment
abbrev pub run_at : Result ℕ InstantRefusal → Option Command
run_at (Ok moment) = if nat_lt moment END then Some (Run moment) else None
run_at (Err refusal) = None

-- the command `run` of the moment that this text means
abbrev pub run_of : List ℕ → Option Command
run_of text = run_at (instant_of text)

-- the command `load` of this number and this count of lines
abbrev pub load_of : List ℕ → List ℕ → Option Command
load_of seed lines = option_and_then (λ number. option_map (Load number) (number_within 0 1000000 lines)) (number_within 0 18446744073709551615 seed)
