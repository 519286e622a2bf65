-- The grammar of the words: a command, and then each of its options exactly once, in any order, as
-- two words `--name value` or as one `--name=value`.
use Rattle.std.specs.Prelude.{ℕ, ◌==◌, ◌&&◌, Bool, false, not, if◌then◌else◌, List, [], ◌∷◌, ◌++◌, Option, Some, None, codes, option_map, option_and_then, find}
use Rattle.std.specs.List.{list_all, list_any}
use Rattle.std.specs.Str.{bytes_eq}
use Rattle.clap.specs.Lexer.{long_of}
use Rattle.wm_words.specs.Values.{init_of, load_of, run_of}
use Rattle.wm_words.specs.declared.command.Command.{Command}
use Rattle.wm_words.specs.declared.command.Command.TheVariants.{Check}

abbrev pub Text : Type 0
Text = List ℕ

-- a name that was given, with its value
abbrev pub Given : Type 0
Given = Text × Text

abbrev pub is_given : List Given → Text → Bool
is_given given name = list_any (λ p. bytes_eq p.0 name) given

abbrev pub has_name : List Text → Text → Bool
has_name names name = list_any (λ n. bytes_eq n name) names

-- the word begins with a hyphen
abbrev pub is_dashed : Text → Bool
is_dashed [] = false
is_dashed (c ∷ cs) = c == 45

-- an option that was named, with the value that is joined to it: `next` reads the words behind it
abbrev pub valued : List Given → Text → Option Text → (Option Text → List Given → Option (List Given)) → Option (List Given)
valued given name None next = next (Some name) given
valued given name (Some value) next = next None (given ++ (name, value) ∷ [])

-- the option is one of the names, and was not given before
abbrev pub named : List Text → List Given → Option (Text × Option Text) → (Option Text → List Given → Option (List Given)) → Option (List Given)
named names given None next = None
named names given (Some p) next = if has_name names p.0 && not (is_given given p.0) then valued given p.0 p.1 next else None

-- the options in these words with their values, behind those that were given: each of the names
-- once, and nothing else. `waiting` names the option whose value is the next word
abbrev pub options : List Text → List Text → Option Text → List Given → Option (List Given)
options names [] None given = if list_all (is_given given) names then Some given else None
options names [] (Some name) given = None
options names (word ∷ words) None given = named names given (long_of word) (options names words)
options names (word ∷ words) (Some name) given = if is_dashed word then None else options names words None (given ++ (name, word) ∷ [])

-- the value of a name
abbrev pub value_in : Text → List Given → Option Text
value_in name given = option_map (λ p. p.1) (find (λ p. bytes_eq p.0 name) given)

-- the names of the options of a command, by its own name
abbrev pub names_of : Text → Option (List Text)
names_of name =
    if bytes_eq (codes "init") name then Some (codes "limit" ∷ []) else
    (if bytes_eq (codes "run") name then Some (codes "now" ∷ []) else
    (if bytes_eq (codes "check") name then Some [] else
    (if bytes_eq (codes "load") name then Some (codes "seed" ∷ codes "lines" ∷ []) else None)))

-- a command by its name and the values of its options
abbrev pub command_with : Text → (Text → Option Text) → Option Command
command_with name value =
    if bytes_eq (codes "init") name then option_and_then init_of (value (codes "limit")) else
    (if bytes_eq (codes "run") name then option_and_then run_of (value (codes "now")) else
    (if bytes_eq (codes "check") name then Some Check else
    (if bytes_eq (codes "load") name then option_and_then (λ seed. option_and_then (load_of seed) (value (codes "lines"))) (value (codes "seed")) else None)))

-- the command that the words give
abbrev pub command_of : List Text → Option Command
command_of [] = None
command_of (name ∷ words) = option_and_then (λ names. option_and_then (λ given. command_with name (λ id. value_in id given)) (options names words None [])) (names_of name)
