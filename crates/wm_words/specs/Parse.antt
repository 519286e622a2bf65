-- The grammar as clap sees it, and how what it found is read.
use Rattle.std.specs.Prelude.{◌&&◌, Bool, not, true, List, Option, Some, codes, length, nat_eq, nat_lt, option_and_then}
use Rattle.std.specs.List.{starts_with}
use Rattle.clap.specs.Words.{App, Row, Rule, first_of, new_app, new_rule, with_rule, with_subcommand}
use Rattle.clap.specs.declared.builder.action.ArgAction.TheVariants.{Set}
use Rattle.wm_words.specs.Words.{Text, command_with}
use Rattle.wm_words.specs.declared.command.Command.{Command}

-- the word begins with a hyphen and is no option
abbrev pub is_barred : Text → Bool
is_barred word = starts_with nat_eq word (codes "-") && not (starts_with nat_eq word (codes "--") && nat_lt 2 (length word))

-- an option that is wanted and has one value
abbrev pub option_rule : Text → Rule
option_rule name = record (new_rule name) { long = Some name; required = true; action = Some Set }

abbrev pub init_app : App
init_app = with_rule (new_app (codes "init")) (option_rule (codes "limit"))

abbrev pub run_app : App
run_app = with_rule (new_app (codes "run")) (option_rule (codes "now"))

abbrev pub check_app : App
check_app = new_app (codes "check")

abbrev pub load_app : App
load_app = with_rule (with_rule (new_app (codes "load")) (option_rule (codes "seed"))) (option_rule (codes "lines"))

abbrev pub settings_of : App → App
settings_of a = record a { top = record a.top { no_binary_name = true; subcommand_required = true; disable_help_flag = true; disable_help_subcommand = true } }

-- the command line of the program
abbrev pub wm_app : App
wm_app = with_subcommand (with_subcommand (with_subcommand (with_subcommand (settings_of (new_app (codes "wm"))) init_app.top) run_app.top) check_app.top) load_app.top

-- the command that the rows of a parse give
abbrev pub command_by : Option (Text × List Row) → Option Command
command_by = option_and_then (λ p. command_with p.0 (λ id. first_of id p.1))
