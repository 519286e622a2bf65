-- What a word looks like, and that no command has a word that begins with a hyphen and is no option.
use Rattle.std.proofs.Common.{◌≡◌, ◌==◌, ◌&&◌, ◌||◌, Bool, true, false, not, cond, ℕ, List, [], ◌∷◌, ◌++◌, length, Option, Some, None, option_and_then, refl, ap, sym, ◌∙◌, true≢false, bytes_eq, nat_lt, arith, lt-ltb, subst}
use Rattle.std.proofs.lemmas.Bool.Decides.{nat_tests}
use Rattle.std.specs.List.{list_any}
use Rattle.clap.specs.Lexer.{long_of, short_of, name_and_value}
use Rattle.wm_words.specs.Words.{Text, Given, is_given, has_name, is_dashed, valued, named, options, names_of, command_of, command_with, value_in}
use Rattle.wm_words.specs.Parse.{is_barred}

-- no word is one that begins with a hyphen and is no option
abbrev pub Clean : List Text → Type 0
Clean [] = Unit {0}
Clean (word ∷ words) = (is_barred word ≡ false) × Clean words

pub clean_of : (words : List Text) → list_any is_barred words ≡ false → Clean words
clean_of [] none = tt
clean_of (word ∷ words) none = go (is_barred word) refl none (clean_of words) where
  go : (b : Bool) → is_barred word ≡ b → (b || list_any is_barred words) ≡ false → (list_any is_barred words ≡ false → Clean words) → Clean (word ∷ words)
  go true is e rest = absurd (true≢false e)
  go false is e rest = (is, rest e)

-- an option, or a word that does not begin with a hyphen
pub data Look (word : Text) : Type 0 where
  long : (p : Text × Option Text) → long_of word ≡ Some p → is_dashed word ≡ true → bytes_eq word (45 ∷ 45 ∷ []) ≡ false → Look word
  plain : long_of word ≡ None → short_of word ≡ None → is_dashed word ≡ false → bytes_eq word (45 ∷ 45 ∷ []) ≡ false → Look word

-- the byte is a hyphen, or the test of the code says that it is none
minus_is : (c : ℕ) → (c == 45) ≡ true → c ≡ 45
minus_is c is = grind (arith, nat_tests)

minus_not : (c : ℕ) → (c == 45) ≡ false → (45 == c) ≡ false
minus_not c is = grind (arith, nat_tests)

pub look : (word : Text) → is_barred word ≡ false → Look word
look [] clear = plain refl refl refl refl
look (c ∷ cs) clear = by_first (c == 45) refl where
  twice : (ds : Text) → is_barred (45 ∷ 45 ∷ ds) ≡ false → Look (45 ∷ 45 ∷ ds)
  twice [] clear = absurd (true≢false clear)
  twice (x ∷ xs) clear = long (name_and_value (x ∷ xs)) refl refl refl

  once : (cs : Text) → is_barred (45 ∷ cs) ≡ false → Look (45 ∷ cs)
  once [] clear = absurd (true≢false clear)
  once (d ∷ ds) clear = by_second (d == 45) refl where
    by_second : (e : Bool) → (d == 45) ≡ e → Look (45 ∷ d ∷ ds)
    by_second false second = let bad : true ≡ false = sym (rw (minus_not d second) refl) ∙ clear in absurd (true≢false bad)
    by_second true second =
        let same : d ≡ 45 = minus_is d second in
        subst (λ (n : ℕ). is_barred (45 ∷ n ∷ ds) ≡ false → Look (45 ∷ n ∷ ds)) (sym same) (twice ds) clear

  by_first : (e : Bool) → (c == 45) ≡ e → Look (c ∷ cs)
  by_first false first = plain (rw first refl) (rw first refl) first (rw first refl)
  by_first true first =
      let same : c ≡ 45 = minus_is c first in
      subst (λ (n : ℕ). is_barred (n ∷ cs) ≡ false → Look (n ∷ cs)) (sym same) (once cs) clear

-- ---- a word that is barred stands in no command

barred_is : (word : Text) → is_barred word ≡ true → (long_of word ≡ None) × (is_dashed word ≡ true)
barred_is [] barred = absurd (true≢false (sym barred))
barred_is (c ∷ cs) barred = by_first (c == 45) refl where
  twice : (ds : Text) → is_barred (45 ∷ 45 ∷ ds) ≡ true → (long_of (45 ∷ 45 ∷ ds) ≡ None) × (is_dashed (45 ∷ 45 ∷ ds) ≡ true)
  twice [] barred = (refl, refl)
  twice (x ∷ xs) barred =
      let three : nat_lt 2 (length (45 ∷ 45 ∷ x ∷ xs)) ≡ true = lt-ltb 2 (length (45 ∷ 45 ∷ x ∷ xs)) (omega arith) in
      absurd (true≢false (sym barred ∙ ap not three))

  once : (cs : Text) → is_barred (45 ∷ cs) ≡ true → (long_of (45 ∷ cs) ≡ None) × (is_dashed (45 ∷ cs) ≡ true)
  once [] barred = (refl, refl)
  once (d ∷ ds) barred = by_second (d == 45) refl where
    by_second : (e : Bool) → (d == 45) ≡ e → (long_of (45 ∷ d ∷ ds) ≡ None) × (is_dashed (45 ∷ d ∷ ds) ≡ true)
    by_second false second = (rw second refl, refl)
    by_second true second =
        let same : d ≡ 45 = minus_is d second in
        subst (λ (n : ℕ). is_barred (45 ∷ n ∷ ds) ≡ true → (long_of (45 ∷ n ∷ ds) ≡ None) × (is_dashed (45 ∷ n ∷ ds) ≡ true)) (sym same) (twice ds) barred

  by_first : (e : Bool) → (c == 45) ≡ e → (long_of (c ∷ cs) ≡ None) × (is_dashed (c ∷ cs) ≡ true)
  by_first false first = let bad : false ≡ true = sym (rw (minus_not c first) refl) ∙ barred in absurd (true≢false (sym bad))
  by_first true first =
      let same : c ≡ 45 = minus_is c first in
      subst (λ (n : ℕ). is_barred (n ∷ cs) ≡ true → (long_of (n ∷ cs) ≡ None) × (is_dashed (n ∷ cs) ≡ true)) (sym same) (once cs) barred

abbrev Fails : List Text → List Text → Type 0
Fails names words = (waiting : Option Text) (given : List Given) → options names words waiting given ≡ None

-- what follows fails whatever stands before it
next_fails : (names words : List Text) → Fails names words → (given : List Given) (o : Option (Text × Option Text)) → named names given o (options names words) ≡ None
next_fails names words fails given None = refl
next_fails names words fails given (Some (name, value)) = go (has_name names name && not (is_given given name)) value where
  go : (b : Bool) (value : Option Text) → cond b (valued given name value (options names words)) None ≡ None
  go false value = refl
  go true None = fails (Some name) given
  go true (Some v) = fails None (given ++ (name, v) ∷ [])

either_fails : (b : Bool) (x : Option (List Given)) → x ≡ None → cond b None x ≡ None
either_fails true x none = refl
either_fails false x none = none

barred_options : (names words : List Text) → list_any is_barred words ≡ true → Fails names words
barred_options names [] barred waiting given = absurd (true≢false (sym barred))
barred_options names (word ∷ words) barred waiting given = go (is_barred word) refl barred (barred_options names words) waiting where
  go : (b : Bool) → is_barred word ≡ b → (b || list_any is_barred words) ≡ true → (list_any is_barred words ≡ true → Fails names words) → (waiting : Option Text) → options names (word ∷ words) waiting given ≡ None
  go true is e rest None = rw (barred_is word is).0 refl
  go true is e rest (Some name) = rw (barred_is word is).1 refl
  go false is e rest None = next_fails names words (rest e) given (long_of word)
  go false is e rest (Some name) = either_fails (is_dashed word) _ (rest e None (given ++ (name, word) ∷ []))

-- the name of no command begins with a hyphen
dashed_name : (word : Text) → is_dashed word ≡ true → names_of word ≡ None
dashed_name [] dashed = absurd (true≢false (sym dashed))
dashed_name (c ∷ cs) dashed =
    let same : c ≡ 45 = minus_is c dashed in
    subst (λ (d : ℕ). names_of (d ∷ cs) ≡ None) (sym same) refl

pub barred_none : (words : List Text) → list_any is_barred words ≡ true → command_of words ≡ None
barred_none [] barred = refl
barred_none (word ∷ words) barred = go (is_barred word) refl barred where
  by_names : (o : Option (List Text)) → list_any is_barred words ≡ true
      → option_and_then (λ names. option_and_then (λ given. command_with word (λ id. value_in id given)) (options names words None [])) o ≡ None
  by_names None e = refl
  by_names (Some names) e = rw (barred_options names words e None []) refl

  go : (b : Bool) → is_barred word ≡ b → (b || list_any is_barred words) ≡ true → command_of (word ∷ words) ≡ None
  go true is e = rw (dashed_name word (barred_is word is).1) refl
  go false is e = by_names (names_of word) e
