-- clap's parse of the words of the program gives the command that the grammar gives.
use Rattle.std.proofs.Common.{◌≡◌, inl, inr, is_some, Bool, true, false, cond, List, [], ◌∷◌, map, Option, Some, None, option_map, option_and_then, find, fold, refl, ap, ap₂, sym, ◌∙◌, bytes_eq, codes, subst}
use Rattle.std.specs.Option.{option_map_or}
use Rattle.std.specs.List.{list_any}
use Rattle.std.specs.Prelude.{slice_get}
use Rattle.std.proofs.lemmas.Slice.Eq.{bytes_eq-Decides}
use Rattle.clap.specs.Values.{kind_of}
use Rattle.clap.specs.declared.error.Error.{Error}
use Rattle.clap.specs.declared.error.kind.ErrorKind.TheVariants.{OutOfMemory}
use Rattle.clap.specs.Walk.{Names, Row, Walk, answers_to, finished, first_of, nothing_held, rows_after, settled, walk, walk_from, walked}
use Rattle.clap.specs.Simple.{App, Shape, built, entered, is_simple, label_of, names_of as labels_of, rows_at, subcommand_of}
use Rattle.clap.specs.Kinds.{HasKind, Kinds, or_else}
use Rattle.clap.specs.Faults.{check_fault, defaults_fault, entered_fault, fault_of, is_simple_and_free, level_fault, settle_fault, turn_fault, walk_fault}
use Rattle.clap.proofs.OnLiterals.{clap_on_literals}
use Rattle.clap.proofs.WalkLemmas.{walk_stopped}
use Rattle.clap.proofs.FaultLemmas.{stopped_fault}
use Rattle.wm_words.specs.Parse.{command_by, is_barred, wm_app}
use Rattle.wm_words.specs.Words.{Given, Text, command_of, command_with, options, value_in}
use Rattle.wm_words.specs.declared.command.Command.{Command}
use Rattle.wm_words.proofs.Looks.{Clean, Look, clean_of, long, plain, look}
use Rattle.wm_words.proofs.Leaf.{first_bad, is_nil, leaf, leaf_is, none_pass, passes_with, row, ruled}

-- the rows of what was given hold its values
first_given : (given : List Given) (name : Text) → first_of name (map row given) ≡ value_in name given
first_given [] name = refl
first_given (p ∷ ps) name = go (bytes_eq p.0 name) (first_given ps name) where
  go : (b : Bool) → first_of name (map row ps) ≡ value_in name ps
      → option_and_then (λ (r : Row). slice_get r.values 0) (cond b (Some (row p)) (find (λ (r : Row). bytes_eq r.id name) (map row ps))) ≡ option_map (λ (q : Given). q.1) (cond b (Some p) (find (λ (q : Given). bytes_eq q.0 name) ps))
  go true rest = refl
  go false rest = rest

-- what the parse gives: the command, or none where something is at fault
abbrev pub judged : List Text → Option Command
judged words = option_and_then command_by (passes_with (fault_of wm_app words) (subcommand_of wm_app words))

-- ---- the words behind the name of a command

-- the parse of the options, read by the command's name
abbrev judged_leaf : Text → List Text → List Text → Option Command
judged_leaf name names words =
    option_and_then command_by (option_map (λ (rows : List Row). Some (name, rows)) (passes_with (level_fault (leaf name names) [] nothing_held words false []) (rows_after (map ruled names) [] words)))

leaf_asks : (name : Text) (names words : List Text) → Clean words
    → judged_leaf name names words ≡ option_and_then (λ (given : List Given). command_with name (λ id. value_in id given)) (options names words None [])
leaf_asks name names words clean =
    ap (λ (o : Option (List Row)). option_and_then command_by (option_map (λ (rows : List Row). Some (name, rows)) o)) (leaf_is name names words clean) ∙ go (options names words None []) where
      valued : (given : List Given) → command_with name (λ id. first_of id (map row given)) ≡ command_with name (λ id. value_in id given)
      valued given = λ i. command_with name (λ id. first_given given id i)

      go : (o : Option (List Given))
          → option_and_then command_by (option_map (λ (rows : List Row). Some (name, rows)) (option_map (map row) o)) ≡ option_and_then (λ (given : List Given). command_with name (λ id. value_in id given)) o
      go None = refl
      go (Some given) = valued given

-- ---- the name of a command

abbrev top : Shape
top = (built wm_app).top

abbrev labels : Names
labels = labels_of (built wm_app)

begun : Walk
begun = walk_from nothing_held

-- a word at which the walk stops to leave the rest to a command
record Stops (name : Text) : Type 0 where
  stops : walked top.rules labels begun name ≡ record begun { stopped = Some (name, []) }
  fine : turn_fault top labels begun name ≡ []

walk_is : (name : Text) (words : List Text) → Stops name → walk top.rules labels nothing_held (name ∷ words) ≡ record begun { stopped = Some (name, words) }
unfolding begun
walk_is name words s = ap (λ (w : Walk). fold (walked top.rules labels) w words) s.stops ∙ sym (walk_stopped top.rules labels begun name [] words)

walk_fine : (name : Text) (words : List Text) → Stops name → walk_fault top labels begun (name ∷ words) ≡ []
unfolding walk_fault
walk_fine name words s =
    ap (λ (ks : Kinds). or_else ks (walk_fault top labels (walked top.rules labels begun name) words)) s.fine
    ∙ ap (λ (w : Walk). walk_fault top labels w words) s.stops ∙ stopped_fault top labels begun (name, []) words

-- what the walk and its faults come to
abbrev judged_by : Walk → Kinds → Option Command
judged_by w faults =
    option_and_then command_by
    (passes_with
    (or_else faults (or_else (entered_fault (built wm_app) w.stopped) (or_else (settle_fault top.rules top.args_override_self w.held)
    (or_else (defaults_fault (settled top.rules w.held).rows top.rules) (check_fault top (finished top.rules w.held) (is_some (entered (built wm_app) w.stopped)))))))
    (entered (built wm_app) w.stopped))

-- the same by the command that is found for a name
abbrev judged_at : List Text → Option Shape → Option Command
judged_at words o =
    option_and_then command_by
    (passes_with (or_else (option_map_or (λ (s : Shape). level_fault s [] nothing_held words false []) o []) (check_fault top [] (is_some (option_map (λ (s : Shape). rows_at s words) o))))
    (option_map (λ (s : Shape). rows_at s words) o))

-- the fault and the rows are those of the command
past_name : (below : Kinds) (name : Text) (rows : List Row)
    → option_and_then command_by (passes_with (or_else below []) (Some (name, rows))) ≡ option_and_then command_by (option_map (λ (r : List Row). Some (name, r)) (passes_with below rows))
past_name [] name rows = refl
past_name (k ∷ ks) name rows = refl

judged_found : (name : Text) (words : List Text) → judged_by (record begun { stopped = Some (name, words) }) [] ≡ judged_at words (find (λ (s : Shape). answers_to name (label_of s)) (built wm_app).subs)
unfolding defaults_fault begun
judged_found name words = refl

judged_is : (words : List Text) → judged words ≡ judged_by (walk top.rules labels nothing_held words) (walk_fault top labels begun words)
unfolding begun
judged_is words = refl

case_of : (name : Text) (names words : List Text) → Stops name → find (λ (s : Shape). answers_to name (label_of s)) (built wm_app).subs ≡ Some (leaf name names) → judged (name ∷ words) ≡ judged_leaf name names words
case_of name names words s finds =
    judged_is (name ∷ words)
    ∙ ap₂ judged_by (walk_is name words s) (walk_fine name words s)
    ∙ judged_found name words
    ∙ ap (judged_at words) finds
    ∙ past_name (level_fault (leaf name names) [] nothing_held words false []) name (rows_after (map ruled names) [] words)

init_stops : Stops (codes "init")
unfolding clap_on_literals begun
init_stops = record { stops = refl; fine = refl }

run_stops : Stops (codes "run")
unfolding clap_on_literals begun
run_stops = record { stops = refl; fine = refl }

check_stops : Stops (codes "check")
unfolding clap_on_literals begun
check_stops = record { stops = refl; fine = refl }

load_stops : Stops (codes "load")
unfolding clap_on_literals begun
load_stops = record { stops = refl; fine = refl }

no_words : judged [] ≡ None
unfolding clap_on_literals
no_words = refl

-- a word that names no command
unknown_turn : (name : Text) → Look name → bytes_eq (codes "init") name ≡ false → bytes_eq (codes "run") name ≡ false → bytes_eq (codes "check") name ≡ false → bytes_eq (codes "load") name ≡ false → is_nil (turn_fault top labels begun name) ≡ false
unfolding begun
unknown_turn name (long p is dashed apart) a b c d = rw (a, b, c, d, apart, is) refl
unknown_turn name (plain none short dashed apart) a b c d = rw (a, b, c, d, apart, none, short) refl

unknown : (name : Text) (words : List Text) → Look name → bytes_eq (codes "init") name ≡ false → bytes_eq (codes "run") name ≡ false → bytes_eq (codes "check") name ≡ false → bytes_eq (codes "load") name ≡ false → judged (name ∷ words) ≡ None
unfolding begun walk_fault
unknown name words seen a b c d =
    ap (option_and_then command_by) (none_pass _ (subcommand_of wm_app (name ∷ words)) (first_bad (or_else (turn_fault top labels begun name) _) _ (first_bad (turn_fault top labels begun name) _ (unknown_turn name seen a b c d))))

pub judged_asks : (words : List Text) → Clean words → judged words ≡ command_of words
judged_asks [] clean = no_words
judged_asks (name ∷ words) clean =
    by_name (bytes_eq (codes "init") name) (bytes_eq (codes "run") name) (bytes_eq (codes "check") name) (bytes_eq (codes "load") name) refl refl refl refl where
      named : (word : Text) → bytes_eq word name ≡ true → judged (word ∷ words) ≡ command_of (word ∷ words) → judged (name ∷ words) ≡ command_of (name ∷ words)
      named word e asks = subst (λ (n : Text). judged (n ∷ words) ≡ command_of (n ∷ words)) ((bytes_eq-Decides word name).0 e) asks

      by_name : (a b c d : Bool) → bytes_eq (codes "init") name ≡ a → bytes_eq (codes "run") name ≡ b → bytes_eq (codes "check") name ≡ c → bytes_eq (codes "load") name ≡ d
          → judged (name ∷ words) ≡ command_of (name ∷ words)
      by_name true b c d e f g h = named (codes "init") e (case_of (codes "init") (codes "limit" ∷ []) words init_stops refl ∙ leaf_asks (codes "init") (codes "limit" ∷ []) words clean.1)
      by_name false true c d e f g h = named (codes "run") f (case_of (codes "run") (codes "now" ∷ []) words run_stops refl ∙ leaf_asks (codes "run") (codes "now" ∷ []) words clean.1)
      by_name false false true d e f g h = named (codes "check") g (case_of (codes "check") [] words check_stops refl ∙ leaf_asks (codes "check") [] words clean.1)
      by_name false false false true e f g h =
          named (codes "load") h
          (case_of (codes "load") (codes "seed" ∷ codes "lines" ∷ []) words load_stops refl ∙ leaf_asks (codes "load") (codes "seed" ∷ codes "lines" ∷ []) words clean.1)
      by_name false false false false e f g h = unknown name words (look name clean.0) e f g h ∙ sym (rw (e, f, g, h) refl)

-- ---- how the parse ended

pub simple : is_simple wm_app ≡ true
simple = refl

pub is_free : is_simple_and_free wm_app ≡ true
is_free = refl

pub accepted : (a : App) (words : List Text) (found : Option (Text × List Row)) → a ≡ wm_app → list_any is_barred words ≡ false → fault_of a words ≡ [] → found ≡ subcommand_of a words → command_by found ≡ command_of words
accepted a words found is clear none rows =
    let fine : fault_of wm_app words ≡ [] = ap (λ (b : App). fault_of b words) (sym is) ∙ none in
    ap command_by (rows ∙ ap (λ (b : App). subcommand_of b words) is)
    ∙ ap (λ (ks : Kinds). option_and_then command_by (passes_with ks (subcommand_of wm_app words))) (sym fine)
    ∙ judged_asks words (clean_of words clear)

pub refused : (a : App) (words : List Text) (e : Error) → a ≡ wm_app → list_any is_barred words ≡ false → HasKind (fault_of a words) e → (kind_of e ≡ OutOfMemory → ⊥) → command_of words ≡ None
refused a words e is clear has memory =
    sym (judged_asks words (clean_of words clear))
    ∙ ap (λ (b : App). option_and_then command_by (passes_with (fault_of b words) (subcommand_of wm_app words))) (sym is)
    ∙ ap (option_and_then command_by) (none_pass (fault_of a words) (subcommand_of wm_app words) (some_kind (fault_of a words) has)) where
      some_kind : (kinds : Kinds) → HasKind kinds e → is_nil kinds ≡ false
      some_kind [] (inl m) = absurd (memory m)
      some_kind [] (inr no_kind) = absurd no_kind
      some_kind (k ∷ ks) any = refl
