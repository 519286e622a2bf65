-- Conditions over key columns: the columns key by key, and no WM_VALID is lacking.
use Rattle.std.proofs.Common.{◌≡◌, ℕ, ◌+◌, ◌<◌, Bool, true, false, ◌&&◌, ◌||◌, List, [], ◌∷◌, ◌++◌, map, length, take, slice_get, get_or, Option, None, Some, option_map, refl, sym, ap, ◌∙◌}
use Rattle.std.proofs.lemmas.List.{get_or_default, length-map, map-append}
use Rattle.std.proofs.lemmas.List.Elements.{filter_map-append}
use Rattle.std.proofs.lemmas.Option.{slice_get-map}
use Rattle.std.proofs.Math.Seq.{take-append_seam}
use Rattle.std.proofs.lemmas.Bool.{or_from}
use Rattle.std.specs.List.{filter_map, list_any}
use Rattle.std.specs.Option.{option_or}
use Rattle.std.specs.Str.{bytes_eq}
use Rattle.wm_syntax.specs.Trees.{Cond, Or, And, Not, Compare, IsNull, OneOf, Between}
use Rattle.wm_listing.specs.declared.columns.Column.{Column}
use Rattle.wm_syntax.specs.declared.operand.Operand.{Operand}
use Rattle.wm_syntax.specs.declared.operand.Operand.TheVariants as operands
use Rattle.wm_syntax.specs.declared.operand.Per.{Per}
use Rattle.wm_syntax.specs.declared.operand.Per.TheVariants as periods
use Rattle.wm_spec.specs.Operands.{is_named, is_of_source, wm_valid}
use Rattle.wm_spec.specs.declared.record.column.TableColumn.{TableColumn}
use Rattle.wm_spec.specs.declared.record.table.Table.{Table}
use Rattle.wm_typing.proofs.Typed.{filter_typed}
use Rattle.wm_typing.specs.Columns.{declared_column, valid_column}
use Rattle.wm_typing.specs.Lacking.{lacking_in_cond, lacking_in_filter, lacking_in_operand, lacking_name, lacking_period}
use Rattle.wm_typing.specs.Names.{lacks_period, unknown_in_filter}
use Rattle.wm_typing.specs.Types.{is_filter_typed, mistyped_in_filter}
use Rattle.wm_decided.proofs.Pushed.{pushed}
use Rattle.wm_decided.specs.Keys.{columns_of_keys, key_columns}

-- ---- the columns

-- the declared column at a place, of all that a table has
pub declared_at : (act : TableColumn → Column) (columns : List TableColumn) (more : List Column) (count place : ℕ) → count ≡ length columns
    → slice_get (take count (map act columns ++ more)) place ≡ option_map act (slice_get columns place)
declared_at act columns more count place e =
    ap (λ (cs : List Column). slice_get cs place) (ap (λ n. take n (map act columns ++ more)) (e ∙ sym (length-map columns act)) ∙ take-append_seam (map act columns) more)
    ∙ slice_get-map act columns place

-- ---- WM_VALID is there

module _ (name : List ℕ) where
  abbrev valid : Column
  valid = valid_column name

  abbrev all : List TableColumn → List Column
  all ks = map (declared_column name) ks ++ valid ∷ valid ∷ []

  of_source : (source : Option (List ℕ)) (x : TableColumn) → is_of_source source (declared_column name x) ≡ is_of_source source valid
  of_source None x = refl
  of_source (Some s) x = refl

  none_of : (source : Option (List ℕ)) (ks : List TableColumn) → is_of_source source valid ≡ false → list_any (is_of_source source) (all ks) ≡ false
  none_of source [] e = rw e refl
  none_of source (k ∷ ks) e = or_from (is_of_source source (declared_column name k)) (list_any (is_of_source source) (all ks)) (of_source source k ∙ e) (none_of source ks e)

  some_named : (test : Column → Bool) (ks : List TableColumn) → test valid ≡ true → list_any test (all ks) ≡ true
  some_named test [] e = rw e refl
  some_named test (k ∷ ks) e = rw (some_named test ks e) (by_test (test (declared_column name k)))
    where
      by_test : (b : Bool) → (b || true) ≡ true
      by_test true = refl
      by_test false = refl

  -- where a source is there, so is its WM_VALID
  lacks_none : (source : Option (List ℕ)) (word : List ℕ) (ks : List TableColumn) → lacks_period source word (all ks) ≡ false
  lacks_none source word ks = by_source (is_of_source source valid) refl
    where
      fails : (a b : Bool) → (a && (b && false)) ≡ false
      fails true true = refl
      fails true false = refl
      fails false b = refl

      by_word : (b : Bool) → bytes_eq word wm_valid ≡ b → is_of_source source valid ≡ true → lacks_period source word (all ks) ≡ false
      by_word false f e = rw f (fails (list_any (is_of_source source) (all ks)) false)
      by_word true f e = rw (some_named (is_named source word) ks (rw (e, f) refl)) (fails (list_any (is_of_source source) (all ks)) (bytes_eq word wm_valid))

      by_source : (b : Bool) → is_of_source source valid ≡ b → lacks_period source word (all ks) ≡ false
      by_source false e = rw (none_of source ks e) refl
      by_source true e = by_word (bytes_eq word wm_valid) refl e

module _ (columns : List Column) (there : (source : Option (List ℕ)) (word : List ℕ) → lacks_period source word columns ≡ false) where
  name_there : (source : Option (List ℕ)) (word : List ℕ) → lacking_name columns source word ≡ None
  name_there source word = rw (there source word) refl

  period_there : (p : Per) → lacking_period columns p ≡ None
  period_there (periods.Valid source) = name_there source wm_valid
  period_there (periods.Span from till) = refl

  neither : {A : Type 0} (a b : Option A) → a ≡ None → b ≡ None → option_or a b ≡ None
  neither a b e f = rw (e, f) refl

  operand_there : (o : Operand) → lacking_in_operand columns o ≡ None
  operand_there (operands.Col col) = name_there col.source col.name
  operand_there (operands.Const constant) = refl
  operand_there (operands.Test operator left right) = neither (lacking_period columns left) (lacking_period columns right) (period_there left) (period_there right)

  cond_there : (c : Cond) → lacking_in_cond columns c ≡ None
  cond_there (Or c d) = neither (lacking_in_cond columns c) (lacking_in_cond columns d) (cond_there c) (cond_there d)
  cond_there (And c d) = neither (lacking_in_cond columns c) (lacking_in_cond columns d) (cond_there c) (cond_there d)
  cond_there (Not c) = cond_there c
  cond_there (Compare left cmp right) = neither (lacking_in_operand columns left) (lacking_in_operand columns right) (operand_there left) (operand_there right)
  cond_there (IsNull what negated) = operand_there what
  cond_there (OneOf what negated list) = operand_there what
  cond_there (Between what negated low high) =
      neither (lacking_in_operand columns what) (option_or (lacking_in_operand columns low) (lacking_in_operand columns high)) (operand_there what)
      (neither (lacking_in_operand columns low) (lacking_in_operand columns high) (operand_there low) (operand_there high))

  filter_there : (filter : Option Cond) → lacking_in_filter columns filter ≡ None
  filter_there None = refl
  filter_there (Some c) = cond_there c

-- a condition that names key columns alone, and in which nothing is of a wrong type, is typed
pub keys_typed : (t : Table) (filter : Option Cond) → unknown_in_filter (columns_of_keys t) filter ≡ None → mistyped_in_filter (columns_of_keys t) filter ≡ None → is_filter_typed (columns_of_keys t) filter ≡ true
keys_typed t filter unknown mistyped =
    filter_typed (columns_of_keys t) filter unknown mistyped (filter_there (columns_of_keys t) (λ source word. lacks_none t.name source word (key_columns t)) filter)

-- ---- key columns in a loop

abbrev one_of : List TableColumn → (TableColumn → Column) → ℕ → List Column
one_of columns act place = map act (filter_map (slice_get columns) (place ∷ []))

pub key_some : (columns : List TableColumn) (act : TableColumn → Column) (place : ℕ) (x : Column) → option_map act (slice_get columns place) ≡ Some x → one_of columns act place ≡ x ∷ []
key_some columns act place x e = by_column (slice_get columns place) refl e
  where
    by_column : (o : Option TableColumn) → slice_get columns place ≡ o → option_map act o ≡ Some x → one_of columns act place ≡ x ∷ []
    by_column None is e = absurd (cc)
    by_column (Some c) is e = let one : act c ≡ x = cc in rw (is, one) refl

pub key_none : (columns : List TableColumn) (act : TableColumn → Column) (place : ℕ) → option_map act (slice_get columns place) ≡ None → one_of columns act place ≡ []
key_none columns act place e = by_column (slice_get columns place) refl e
  where
    by_column : (o : Option TableColumn) → slice_get columns place ≡ o → option_map act o ≡ None → one_of columns act place ≡ []
    by_column None is e = rw is refl
    by_column (Some c) is e = absurd (cc)

-- a key column more
pub keys_more : (columns : List TableColumn) (act : TableColumn → Column) (places : List ℕ) (i : ℕ) (now new : List Column) → i < length places → new ≡ now ++ one_of columns act (get_or places i 0)
    → now ≡ map act (filter_map (slice_get columns) (take i places)) → new ≡ map act (filter_map (slice_get columns) (take (i + 1) places))
keys_more columns act places i now new within puts so =
    pushed (λ (xs : List ℕ). map act (filter_map (slice_get columns) xs)) places i (get_or places i 0) [] now new (one_of columns act (get_or places i 0)) within
    (get_or_default places i 0 (get_or places i 0) within)
    (λ xs. ap (map act) (filter_map-append (slice_get columns) xs (get_or places i 0 ∷ [])) ∙ map-append act (filter_map (slice_get columns) xs) (filter_map (slice_get columns) (get_or places i 0 ∷ [])))
    puts so
