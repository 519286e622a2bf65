-- clap's walk over the words of a command of named options, for any list of names: it finds what the grammar finds.
use Rattle.std.proofs.Common.{◌≡◌, ◌==◌, ◌&&◌, ◌||◌, Bool, true, false, not, cond, ℕ, List, [], ◌∷◌, ◌++◌, length, map, Option, Some, None, option_map, fold, refl, ap, sym, ◌∙◌, true≢false, bytes_eq, arith, nat_lt}
use Rattle.std.specs.List.{list_any, list_all}
use Rattle.std.proofs.lemmas.Slice.Eq.{bytes_eq-Decides}
use Rattle.std.proofs.lemmas.Bool.Decides.{nat_tests}
use Rattle.std.proofs.lemmas.List.{map-append}
use Rattle.clap.specs.Lexer.{long_of, short_of}
use Rattle.clap.specs.Walk.{Held, Row, Rule, Step, Waiting, Walk, after_step, arg_by_id, arg_by_long, arg_by_index, finished, has_row, idle, long_or_other, nothing_held, option, pending_count, positional, rows_after, settled, settled_rows, used, walked, with_default, with_values, without}
use Rattle.clap.specs.Simple.{Shape, new_rule, new_shape}
use Rattle.clap.specs.Takes.{is_given as is_found}
use Rattle.clap.specs.Kinds.{Kinds, or_else}
use Rattle.clap.specs.Faults.{check_fault, defaults_fault, flag_word_fault, level_fault, long_fault, settle_fault, step_fault, turn_fault, use_fault, walk_fault}
use Rattle.clap.specs.Values.{reading_of}
use Rattle.clap.specs.declared.builder.action.ArgAction.TheVariants.{Set}
use Rattle.clap.specs.declared.builder.value_parser.ValueParser.TheVariants as vp
use Rattle.clap.specs.declared.error.kind.ErrorKind.TheVariants as kind
use Rattle.clap.specs.declared.parser.matches.ValueSource.TheVariants.{CommandLine}
use Rattle.clap.proofs.WalkLemmas.{list_any-map}
use Rattle.wm_words.specs.Words.{Text, Given, is_given, has_name, named, options}
use Rattle.wm_words.proofs.Looks.{Clean, Look, long, plain, look}

-- ---- faults, and what is found where there is none

abbrev pub is_nil : Kinds → Bool
is_nil [] = true
is_nil (k ∷ ks) = false

abbrev pub passes_with : {X : Type 0} → Kinds → X → Option X
passes_with [] x = Some x
passes_with (k ∷ ks) x = None

pub none_pass : {X : Type 0} (ks : Kinds) (x : X) → is_nil ks ≡ false → passes_with ks x ≡ None
none_pass [] x bad = absurd (true≢false bad)
none_pass (k ∷ ks) x bad = refl

pub first_bad : (a b : Kinds) → is_nil a ≡ false → is_nil (or_else a b) ≡ false
first_bad [] b bad = absurd (true≢false bad)
first_bad (k ∷ ks) b bad = refl

-- ---- a command of named options

-- an option as building leaves it
abbrev pub ruled : Text → Rule
ruled name = record (new_rule name) {
  long = Some name;
  required = true;
  action = Some Set;
  range = Some (record { start_inclusive = 1; end_inclusive = 1 });
  parser = Some vp.String;
}

abbrev pub leaf : Text → List Text → Shape
leaf label names = record (new_shape label) {
  rules = map ruled names;
  no_binary_name = true;
  disable_help_flag = true;
  disable_help_subcommand = true;
  is_built = true;
}

abbrev pub row : Given → Row
row p = record { id = p.0; values = p.1 ∷ []; count = None; source = Some CommandLine; reading = reading_of vp.String }

same_text : (a b : Text) → bytes_eq a b ≡ true → a ≡ b
same_text a b = (bytes_eq-Decides a b).0

text_is : (a : Text) → bytes_eq a a ≡ true
text_is a = (bytes_eq-Decides a a).1 refl

-- ---- look-ups of a name

by_long : (names : List Text) (name : Text) → arg_by_long (map ruled names) name ≡ cond (has_name names name) (Some (ruled name)) None
by_long [] name = refl
by_long (n ∷ ns) name = go (bytes_eq n name) refl (by_long ns name) where
  go : (b : Bool) → bytes_eq n name ≡ b → arg_by_long (map ruled ns) name ≡ cond (has_name ns name) (Some (ruled name)) None
      → arg_by_long (map ruled (n ∷ ns)) name ≡ cond (has_name (n ∷ ns) name) (Some (ruled name)) None
  go true is rest = rw is (ap (λ (m : Text). Some (ruled m)) (same_text n name is))
  go false is rest = rw is rest

by_id : (names : List Text) (name : Text) → arg_by_id (map ruled names) name ≡ cond (has_name names name) (Some (ruled name)) None
by_id [] name = refl
by_id (n ∷ ns) name = go (bytes_eq n name) refl (by_id ns name) where
  go : (b : Bool) → bytes_eq n name ≡ b → arg_by_id (map ruled ns) name ≡ cond (has_name ns name) (Some (ruled name)) None
      → arg_by_id (map ruled (n ∷ ns)) name ≡ cond (has_name (n ∷ ns) name) (Some (ruled name)) None
  go true is rest = rw is (ap (λ (m : Text). Some (ruled m)) (same_text n name is))
  go false is rest = rw is rest

by_index : (names : List Text) (i : ℕ) → arg_by_index (map ruled names) i ≡ None
by_index [] i = refl
by_index (n ∷ ns) i = by_index ns i

-- ---- rows of what was given

row_given : (given : List Given) (name : Text) → has_row name (map row given) ≡ is_given given name
row_given given name = sym (list_any-map (λ (r : Row). bytes_eq r.id name) row given)

found_given : (given : List Given) (name : Text) → is_found name (map row given) ≡ is_given given name
found_given [] name = refl
found_given (p ∷ ps) name = go (bytes_eq p.0 name) refl (found_given ps name) where
  go : (b : Bool) → bytes_eq p.0 name ≡ b → is_found name (map row ps) ≡ is_given ps name → is_found name (map row (p ∷ ps)) ≡ is_given (p ∷ ps) name
  go true is rest = rw is refl
  go false is rest = rw is rest

-- a first use puts its row behind the others
no_row_left : (name : Text) (rows : List Row) → has_row name rows ≡ false → without name rows ≡ rows
no_row_left name [] none = refl
no_row_left name (r ∷ rs) none = go (bytes_eq r.id name) refl none (no_row_left name rs) where
  go : (b : Bool) → bytes_eq r.id name ≡ b → (b || has_row name rs) ≡ false → (has_row name rs ≡ false → without name rs ≡ rs) → without name (r ∷ rs) ≡ r ∷ rs
  go true is e rest = absurd (true≢false e)
  go false is e rest = rw is (ap (λ (l : List Row). r ∷ l) (rest e))

row_added : (name v : Text) (rows : List Row) → has_row name rows ≡ false → with_values name (reading_of vp.String) CommandLine (v ∷ []) rows ≡ rows ++ row (name, v) ∷ []
row_added name v [] none = refl
row_added name v (r ∷ rs) none = go (bytes_eq r.id name) refl none (row_added name v rs) where
  go : (b : Bool) → bytes_eq r.id name ≡ b → (b || has_row name rs) ≡ false
      → (has_row name rs ≡ false → with_values name (reading_of vp.String) CommandLine (v ∷ []) rs ≡ rs ++ row (name, v) ∷ [])
      → with_values name (reading_of vp.String) CommandLine (v ∷ []) (r ∷ rs) ≡ r ∷ rs ++ row (name, v) ∷ []
  go true is e rest = absurd (true≢false e)
  go false is e rest = rw is (ap (λ (l : List Row). r ∷ l) (rest e))

used_once : (name v : Text) (given : List Given) → is_given given name ≡ false → used (ruled name) (v ∷ []) (map row given) ≡ map row (given ++ (name, v) ∷ [])
used_once name v given new =
    let none : has_row name (map row given) ≡ false = row_given given name ∙ new in
    ap (λ (rows : List Row). with_values name (reading_of vp.String) CommandLine (v ∷ []) rows) (no_row_left name (map row given) none)
    ∙ row_added name v (map row given) none
    ∙ sym (map-append row given ((name, v) ∷ []))

use_fine : (name v : Text) (given : List Given) → is_given given name ≡ false → use_fault false (ruled name) (v ∷ []) (map row given) ≡ []
use_fine name v given new =
    let none : has_row name (map row given) ≡ false = row_given given name ∙ new in
    rw none refl

-- a use of a name that has a row fails with any values, and one with no value wherever it stands
use_bare : (name : Text) (rows : List Row) → is_nil (use_fault false (ruled name) [] rows) ≡ false
use_bare name rows = refl

use_again : (name : Text) (values : List Text) (rows : List Row) → has_row name rows ≡ true → is_nil (use_fault false (ruled name) values rows) ≡ false
use_again name [] rows some = refl
use_again name (v ∷ []) rows some = rw some refl
use_again name (v ∷ w ∷ vs) rows some =
    let many : (1 == length (v ∷ w ∷ vs)) ≡ false = grind (arith, nat_tests) in
    let nonzero : (length (v ∷ w ∷ vs) == 0) ≡ false = grind (arith, nat_tests) in
    rw (many, nonzero) refl

-- ---- the end of the words

defaults_none : (rows : List Row) (names : List Text) → defaults_fault rows (map ruled names) ≡ []
unfolding defaults_fault
defaults_none rows [] = refl
defaults_none rows (n ∷ ns) = go (has_row n rows) refl (defaults_none rows ns) where
  go : (b : Bool) → has_row n rows ≡ b → defaults_fault rows (map ruled ns) ≡ [] → defaults_fault rows (map ruled (n ∷ ns)) ≡ []
  go true is rest = rw is rest
  go false is rest = rw is rest

default_kept : (rows : List Row) (name : Text) → with_default rows (ruled name) ≡ rows
default_kept rows name = go (has_row name rows) refl where
  go : (b : Bool) → has_row name rows ≡ b → with_default rows (ruled name) ≡ rows
  go true is = rw is refl
  go false is = rw is refl

defaults_kept : (rows : List Row) (names : List Text) → fold with_default rows (map ruled names) ≡ rows
defaults_kept rows [] = refl
defaults_kept rows (n ∷ ns) = ap (λ (r : List Row). fold with_default r (map ruled ns)) (default_kept rows n) ∙ defaults_kept rows ns

left_out : (given : List Given) (names : List Text) → list_any (λ (a : Rule). a.required && not (is_found a.id (map row given))) (map ruled names) ≡ not (list_all (is_given given) names)
left_out given [] = refl
left_out given (n ∷ ns) = go (is_given given n) refl (left_out given ns) where
  go : (b : Bool) → is_given given n ≡ b
      → list_any (λ (a : Rule). a.required && not (is_found a.id (map row given))) (map ruled ns) ≡ not (list_all (is_given given) ns)
      → list_any (λ (a : Rule). a.required && not (is_found a.id (map row given))) (map ruled (n ∷ ns)) ≡ not (list_all (is_given given) (n ∷ ns))
  go true is rest = rw (found_given given n, is) rest
  go false is rest = rw (found_given given n, is) refl

-- ---- the walk

abbrev hold : List Row → Option (Text × List Text) → Held
hold rows pending = record { rows = rows; pending = pending; skip = 0 }

abbrev stand : Held → Waiting → Walk
stand h waiting = record { held = h; waiting = waiting; position = 1; is_trailing = false; stopped = None }

module _ (label : Text) (names : List Text) where
  abbrev rules : List Rule
  rules = map ruled names

  abbrev shape : Shape
  shape = leaf label names

  abbrev end_fault : Held → Kinds
  end_fault h = or_else (settle_fault rules false h) (or_else (defaults_fault (settled rules h).rows rules) (check_fault shape (finished rules h) false))

  -- what the parse gives from here on: the rows, or none where something is at fault
  abbrev verdict : Walk → List Text → Option (List Row)
  verdict w words = passes_with (or_else (walk_fault shape [] w words) (end_fault (fold (walked rules []) w words).held)) (finished rules (fold (walked rules []) w words).held)

  step_ok : (w w' : Walk) (word : Text) (words : List Text) → turn_fault shape [] w word ≡ [] → walked rules [] w word ≡ w' → verdict w (word ∷ words) ≡ verdict w' words
  unfolding walk_fault
  step_ok w w' word words none is =
      ap (λ (ks : Kinds). passes_with (or_else (or_else ks (walk_fault shape [] (walked rules [] w word) words)) (end_fault (fold (walked rules []) (walked rules [] w word) words).held)) (finished rules (fold (walked rules []) (walked rules [] w word) words).held)) none
      ∙ ap (λ (v : Walk). verdict v words) is

  step_bad : (w : Walk) (word : Text) (words : List Text) → is_nil (turn_fault shape [] w word) ≡ false → verdict w (word ∷ words) ≡ None
  unfolding walk_fault
  step_bad w word words bad = none_pass _ _ (first_bad (or_else (turn_fault shape [] w word) _) _ (first_bad (turn_fault shape [] w word) _ bad))

  end_bad : (h : Held) (waiting : Waiting) → is_nil (settle_fault rules false h) ≡ false → verdict (stand h waiting) [] ≡ None
  unfolding walk_fault
  end_bad h waiting bad = none_pass _ _ (first_bad (settle_fault rules false h) _ bad)

  -- ---- a turn, by what the word looks like

  abbrev met_by : Waiting → Text → Held → Option (Text × Option Text) → Held × Step
  met_by waiting word h o = long_or_other rules waiting word o h

  abbrev turn_by : Waiting → Text → Held → Option (Text × Option Text) → Kinds
  turn_by waiting word h o = or_else (flag_word_fault rules false o word h) (step_fault shape 1 (met_by waiting word h o).0 (met_by waiting word h o).1)

  turn_is : (h : Held) (waiting : Waiting) (word : Text) → bytes_eq word (45 ∷ 45 ∷ []) ≡ false → turn_fault shape [] (stand h waiting) word ≡ turn_by waiting word h (long_of word)
  turn_is h idle word apart = rw apart refl
  turn_is h (option n) word apart = rw apart refl
  turn_is h positional word apart = rw apart refl

  walked_to : (h : Held) (waiting : Waiting) (word : Text) → bytes_eq word (45 ∷ 45 ∷ []) ≡ false
      → walked rules [] (stand h waiting) word ≡ after_step rules word (stand h waiting) (met_by waiting word h (long_of word)).0 (met_by waiting word h (long_of word)).1
  unfolding walked
  walked_to h idle word apart = rw apart refl
  walked_to h (option n) word apart = rw apart refl
  walked_to h positional word apart = rw apart refl

  turn_of : (h : Held) (waiting : Waiting) (word : Text) (o : Option (Text × Option Text)) → bytes_eq word (45 ∷ 45 ∷ []) ≡ false → long_of word ≡ o → turn_fault shape [] (stand h waiting) word ≡ turn_by waiting word h o
  turn_of h waiting word o apart is = turn_is h waiting word apart ∙ ap (turn_by waiting word h) is

  walked_of : (h : Held) (waiting : Waiting) (word : Text) (o : Option (Text × Option Text)) → bytes_eq word (45 ∷ 45 ∷ []) ≡ false → long_of word ≡ o
      → walked rules [] (stand h waiting) word ≡ after_step rules word (stand h waiting) (met_by waiting word h o).0 (met_by waiting word h o).1
  walked_of h waiting word o apart is = walked_to h waiting word apart ∙ ap (λ (x : Option (Text × Option Text)). after_step rules word (stand h waiting) (met_by waiting word h x).0 (met_by waiting word h x).1) is

  -- a word that ends the parse where something is pending that does not settle
  unsettled : (h : Held) (waiting : Waiting) (word : Text) (p : Text × Option Text) → is_nil (settle_fault rules false h) ≡ false → is_nil (turn_by waiting word h (Some p)) ≡ false
  unsettled h waiting word (name, value) bad = first_bad (flag_word_fault rules false (Some (name, value)) word h) _ (rw (by_long names name) (go (has_name names name) value)) where
    go : (b : Bool) (value : Option Text) → is_nil (long_fault rules false (cond b (Some (ruled name)) None) value h) ≡ false
    go false value = refl
    go true None = bad
    go true (Some v) = first_bad (settle_fault rules false h) _ bad

  stray : (h : Held) (word : Text) → short_of word ≡ None → is_nil (turn_by idle word h None) ≡ false
  stray h word short = rw (short, by_index names 1) refl

  -- what is pending where it has no value, or where its name has a row
  bare_pending : (m : Text) (rows : List Row) → has_name names m ≡ true → is_nil (settle_fault rules false (hold rows (Some (m, [])))) ≡ false
  bare_pending m rows known = rw (by_id names m, known) refl

  pending_again : (m : Text) (values : List Text) (rows : List Row) → has_name names m ≡ true → has_row m rows ≡ true → is_nil (settle_fault rules false (hold rows (Some (m, values)))) ≡ false
  pending_again m values rows known some = rw (by_id names m, known) (use_again m values rows some)

  -- ---- a value of an option that waits for it

  abbrev after_value : Text → List Text → Waiting
  after_value m values = cond (nat_lt (pending_count (ruled m) (Some (m, values))) 1) (option m) idle

  value_fine : (h : Held) (m word : Text) → short_of word ≡ None → turn_by (option m) word h None ≡ []
  value_fine h m word short = rw short refl

  value_pushed : (rows : List Row) (m word : Text) (values : List Text) → has_name names m ≡ true → long_of word ≡ None → short_of word ≡ None → bytes_eq word (45 ∷ 45 ∷ []) ≡ false
      → walked rules [] (stand (hold rows (Some (m, values))) (option m)) word ≡ stand (hold rows (Some (m, values ++ word ∷ []))) (after_value m (values ++ word ∷ []))
  value_pushed rows m word values known none short apart =
      walked_of (hold rows (Some (m, values))) (option m) word None apart none ∙ rw (short, by_id names m, known) refl

  -- ---- an option that has a row already is pending: nothing that follows mends it

  abbrev Dooms : List Text → Type 0
  Dooms words = (rows : List Row) (m : Text) (values : List Text) (waits : Bool) → has_name names m ≡ true → has_row m rows ≡ true
      → verdict (stand (hold rows (Some (m, values))) (cond waits (option m) idle)) words ≡ None

  doomed_word : (word : Text) (words : List Text) → Look word → Dooms words → Dooms (word ∷ words)
  doomed_word word words (long p is dashed apart) next rows m values waits known some =
      let h : Held = hold rows (Some (m, values)) in
      step_bad (stand h (cond waits (option m) idle)) word words
      (ap is_nil (turn_of h (cond waits (option m) idle) word (Some p) apart is) ∙ unsettled h (cond waits (option m) idle) word p (pending_again m values rows known some))
  doomed_word word words (plain none short dashed apart) next rows m values false known some =
      let h : Held = hold rows (Some (m, values)) in
      step_bad (stand h idle) word words (ap is_nil (turn_of h idle word None apart none) ∙ stray h word short)
  doomed_word word words (plain none short dashed apart) next rows m values true known some =
      let h : Held = hold rows (Some (m, values)) in
      step_ok (stand h (option m)) (stand (hold rows (Some (m, values ++ word ∷ []))) (after_value m (values ++ word ∷ []))) word words
      (turn_of h (option m) word None apart none ∙ value_fine h m word short) (value_pushed rows m word values known none short apart)
      ∙ next rows m (values ++ word ∷ []) (nat_lt (pending_count (ruled m) (Some (m, values ++ word ∷ []))) 1) known some

  doomed : (words : List Text) → Clean words → Dooms words
  doomed [] clean = λ rows m values waits known some. end_bad (hold rows (Some (m, values))) (cond waits (option m) idle) (pending_again m values rows known some)
  doomed (word ∷ words) clean = doomed_word word words (look word clean.0) (doomed words clean.1)

  -- ---- what is pending settles, and then these were given

  record Settles (rows : List Row) (pending : Option (Text × List Text)) (given : List Given) : Type 0 where
    fault : settle_fault rules false (hold rows pending) ≡ []
    same : settled_rows rules pending rows ≡ map row given

  settles_none : (given : List Given) → Settles (map row given) None given
  settles_none given = record { fault = refl; same = refl }

  settles_one : (m v : Text) (given : List Given) → has_name names m ≡ true → is_given given m ≡ false → Settles (map row given) (Some (m, v ∷ [])) (given ++ (m, v) ∷ [])
  settles_one m v given known new = record {
    fault = rw (by_id names m, known) (use_fine m v given new);
    same = rw (by_id names m, known) (used_once m v given new);
  }

  abbrev Idles : List Text → Type 0
  Idles words = (rows : List Row) (pending : Option (Text × List Text)) (given : List Given) → Settles rows pending given
      → verdict (stand (hold rows pending) idle) words ≡ option_map (map row) (options names words None given)

  abbrev Waits : List Text → Type 0
  Waits words = (m : Text) (given : List Given) → has_name names m ≡ true → is_given given m ≡ false
      → verdict (stand (hold (map row given) (Some (m, []))) (option m)) words ≡ option_map (map row) (options names words (Some m) given)

  idle_end : Idles []
  unfolding walk_fault
  idle_end rows pending given s =
      rw (s.fault, s.same, defaults_none (map row given) names, defaults_kept (map row given) names, left_out given names) (go (list_all (is_given given) names)) where
        go : (b : Bool) → passes_with (cond (not b) (kind.MissingRequiredArgument ∷ []) []) (map row given) ≡ option_map (map row) (cond b (Some given) None)
        go true = refl
        go false = refl

  wait_end : Waits []
  wait_end m given known new = end_bad (hold (map row given) (Some (m, []))) (option m) (bare_pending m (map row given) known)

  idle_long : (word : Text) (words : List Text) (name : Text) (value : Option Text) → long_of word ≡ Some (name, value) → bytes_eq word (45 ∷ 45 ∷ []) ≡ false → Dooms words → Idles words → Waits words
      → (rows : List Row) (pending : Option (Text × List Text)) (given : List Given) → Settles rows pending given
      → verdict (stand (hold rows pending) idle) (word ∷ words) ≡ option_map (map row) (named names given (Some (name, value)) (options names words))
  idle_long word words name value is apart dooms idles waits rows pending given s = go (has_name names name) (is_given given name) refl refl value is where
    h : Held
    h = hold rows pending

    turn : (value : Option Text) → long_of word ≡ Some (name, value) → turn_fault shape [] (stand h idle) word ≡ turn_by idle word h (Some (name, value))
    turn value is = turn_of h idle word (Some (name, value)) apart is

    moved : (value : Option Text) → long_of word ≡ Some (name, value)
        → walked rules [] (stand h idle) word ≡ after_step rules word (stand h idle) (met_by idle word h (Some (name, value))).0 (met_by idle word h (Some (name, value))).1
    moved value is = walked_of h idle word (Some (name, value)) apart is

    go : (known given_before : Bool) → has_name names name ≡ known → is_given given name ≡ given_before → (value : Option Text) → long_of word ≡ Some (name, value)
        → verdict (stand h idle) (word ∷ words) ≡ option_map (map row) (named names given (Some (name, value)) (options names words))
    go false before k b value is =
        step_bad (stand h idle) word words (ap is_nil (turn value is) ∙ rw (by_long names name, k) refl) ∙ sym (rw k refl)
    go true true k b None is =
        step_ok (stand h idle) (stand (hold (map row given) (Some (name, []))) (option name)) word words
        (turn None is ∙ rw (by_long names name, k, s.fault) refl) (moved None is ∙ rw (by_long names name, k, s.same) refl)
        ∙ dooms (map row given) name [] true k (row_given given name ∙ b) ∙ sym (rw (k, b) refl)
    go true true k b (Some v) is =
        step_bad (stand h idle) word words
        (ap is_nil (turn (Some v) is) ∙ rw (by_long names name, k, s.fault, s.same) (first_bad (use_fault false (ruled name) (v ∷ []) (map row given)) [] (use_again name (v ∷ []) (map row given) (row_given given name ∙ b))))
        ∙ sym (rw (k, b) refl)
    go true false k b None is =
        step_ok (stand h idle) (stand (hold (map row given) (Some (name, []))) (option name)) word words
        (turn None is ∙ rw (by_long names name, k, s.fault) refl) (moved None is ∙ rw (by_long names name, k, s.same) refl)
        ∙ waits name given k b ∙ sym (rw (k, b) refl)
    go true false k b (Some v) is =
        step_ok (stand h idle) (stand (hold (map row (given ++ (name, v) ∷ [])) None) idle) word words
        (turn (Some v) is ∙ rw (by_long names name, k, s.fault, s.same) (rw (use_fine name v given b) refl))
        (moved (Some v) is ∙ rw (by_long names name, k, s.same) (ap (λ (r : List Row). stand (hold r None) idle) (used_once name v given b)))
        ∙ idles (map row (given ++ (name, v) ∷ [])) None (given ++ (name, v) ∷ []) (settles_none (given ++ (name, v) ∷ [])) ∙ sym (rw (k, b) refl)

  idle_word : (word : Text) (words : List Text) → Look word → Dooms words → Idles words → Waits words → Idles (word ∷ words)
  idle_word word words (long (name, value) is dashed apart) dooms idles waits rows pending given s =
      idle_long word words name value is apart dooms idles waits rows pending given s
      ∙ ap (λ (o : Option (Text × Option Text)). option_map (map row) (named names given o (options names words))) (sym is)
  idle_word word words (plain none short dashed apart) dooms idles waits rows pending given s =
      let h : Held = hold rows pending in
      step_bad (stand h idle) word words (ap is_nil (turn_of h idle word None apart none) ∙ stray h word short)
      ∙ ap (λ (o : Option (Text × Option Text)). option_map (map row) (named names given o (options names words))) (sym none)

  wait_word : (word : Text) (words : List Text) → Look word → Idles words → Waits (word ∷ words)
  wait_word word words (long p is dashed apart) idles m given known new =
      let h : Held = hold (map row given) (Some (m, [])) in
      step_bad (stand h (option m)) word words (ap is_nil (turn_of h (option m) word (Some p) apart is) ∙ unsettled h (option m) word p (bare_pending m (map row given) known))
      ∙ sym (rw dashed refl)
  wait_word word words (plain none short dashed apart) idles m given known new =
      let h : Held = hold (map row given) (Some (m, [])) in
      step_ok (stand h (option m)) (stand (hold (map row given) (Some (m, word ∷ []))) idle) word words
      (turn_of h (option m) word None apart none ∙ value_fine h m word short)
      (value_pushed (map row given) m word [] known none short apart ∙ rw (text_is m) refl)
      ∙ idles (map row given) (Some (m, word ∷ [])) (given ++ (m, word) ∷ []) (settles_one m word given known new) ∙ sym (rw dashed refl)

  both_states : (words : List Text) → Clean words → Idles words × Waits words
  both_states [] clean = (idle_end, wait_end)
  both_states (word ∷ words) clean =
      let behind : Idles words × Waits words = both_states words clean.1 in
      (idle_word word words (look word clean.0) (doomed words clean.1) behind.0 behind.1, wait_word word words (look word clean.0) behind.0)

  pub leaf_is : (words : List Text) → Clean words
      → passes_with (level_fault (leaf label names) [] nothing_held words false []) (rows_after (map ruled names) [] words) ≡ option_map (map row) (options names words None [])
  leaf_is words clean = (both_states words clean).0 [] None [] (settles_none [])
