-- The plans of CREATE TABLE and EnableVersioning: their faults stand in the order of their rows, and they fit the records.
use Rattle.std.proofs.Common.{◌≡◌, ℕ, ◌+◌, nat_le, nat_lt, max, Bool, true, false, not, ◌&&◌, if◌then◌else◌, List, [], ◌∷◌, length, Option, Some, None, is_some, refl, sym, ◌∙◌, arith, codes}
use Rattle.std.proofs.lemmas.Bool.{and_from, or_parts}
use Rattle.std.proofs.lemmas.Slice.Eq.{bytes_eq-Decides}
use Rattle.std.specs.List.{list_all, list_any}
use Rattle.std.specs.Option.{option_map, option_or}
use Rattle.std.specs.Str.{bytes_eq}
use Rattle.wm_base.specs.declared.instant.TheConstants.{END}
use Rattle.wm_base.specs.declared.refusal.FormRefusal.TheVariants.{Wm016}
use Rattle.wm_base.specs.declared.refusal.Refusal.{Refusal}
use Rattle.wm_base.specs.declared.refusal.Refusal.TheVariants as refusals
use Rattle.wm_calls.specs.Arguments.{text_given}
use Rattle.wm_calls.specs.Faults.{argument_fault}
use Rattle.wm_grammar.specs.declared.procedure.Parameter.TheVariants as parameters
use Rattle.wm_grammar.specs.declared.procedure.Procedure.TheVariants.{EnableVersioning}
use Rattle.wm_graph.specs.Parts.{parts_of}
use Rattle.wm_graph.specs.Rules.{has_key, is_short, keep_rules}
use Rattle.wm_making.proofs.Shapes.{table_in_order}
use Rattle.wm_making.specs.Creating.{asked, bad_columns, declares_short, names_fault, no_column, reserved, reserved_name, shape_fault, table_of, too_many}
use Rattle.wm_model.specs.Planning.{tables_in}
use Rattle.wm_model.specs.Step.{Plan, also, at_its_end, create_plan, enable_plan, enabling, first_fault, for_table, is_full, is_spent, long_name, mistyped, most_tables, no_key, no_table, outcome, refused_if, refused_or, table_there, versioning}
use Rattle.wm_outcome.proofs.Faults.{Ranked, at_for, at_if, least_first, least_none}
use Rattle.wm_outcome.proofs.Fitting.{fits_also, fits_doing, fits_table, fits_text}
use Rattle.wm_outcome.proofs.Named.{InOrder}
use Rattle.wm_outcome.proofs.Ordered.{AtPlaces, also_is, at_once, from_ranked, from_table, spread_first}
use Rattle.wm_outcome.proofs.Plans.{drafts_one}
use Rattle.wm_outcome.specs.Fitting.{Fits}
use Rattle.wm_outline.specs.Outline.{Outline, outline_of}
use Rattle.wm_print.specs.Texts.{Refused}
use Rattle.wm_reader.specs.Reading.{folded}
use Rattle.wm_spec.specs.declared.record.stored.Stored.{Stored}
use Rattle.wm_spec.specs.declared.record.table.Table.{Table}
use Rattle.wm_state.proofs.Mapped.{any-if, none-found}
use Rattle.wm_state.proofs.Tables.{by_number-all, by_number-any, by_number-length}
use Rattle.wm_state.proofs.Tests.{all_if}
use Rattle.wm_state.specs.Drafts.{CanCreate}
use Rattle.wm_state.specs.State.{Session, next_table, table_named}
use Rattle.wm_syntax.specs.declared.statement.Arg.{Arg}
use Rattle.wm_syntax.specs.declared.statement.CreateItem.{CreateItem}

-- where it is not refused, the test fails
pub fails : (b : Bool) (r : Refusal) → refused_if b (Refused r) ≡ None → b ≡ false
fails true r h = absurd (cc)
fails false r h = refl

-- ---- CREATE TABLE

at_names : (name : List ℕ) (items : List CreateItem) → AtPlaces 7 8 (names_fault name items)
unfolding names_fault
at_names name items = by_test (is_short name && list_all declares_short items) (reserved_name name items)
  where
    by_test : (b : Bool) (o : Option (List ℕ)) → AtPlaces 7 8 (if b then option_map reserved o else Some (refusals.Form (Wm016 30)))
    by_test true None = tt
    by_test true (Some x) = (refl, refl)
    by_test false o = (refl, refl)

at_shape : (items : List CreateItem) → AtPlaces 12 13 (shape_fault items)
unfolding shape_fault
at_shape items = by_parts (bad_columns items [] items) (too_many 0 0 items)
  where
    by_parts : (o : Option (List ℕ)) (n : Option ℕ) → AtPlaces 12 13 (option_or (option_map no_column o) (option_map asked n))
    by_parts (Some x) n = (refl, refl)
    by_parts None (Some n) = (refl, refl)
    by_parts None None = tt

pub create_order : (name : List ℕ) (items : List CreateItem) (o : Outline) → InOrder (create_plan name items o).faults
create_order name items o =
    spread_first ((7, 8) ∷ (10, 10) ∷ (12, 13) ∷ (46, 46) ∷ (49, 49) ∷ []) (create_plan name items o).faults (
      at_names name items,
      (
        at_once 10 _ (at_if 10 (is_some (table_named name o.tables)) (table_there name) refl),
        (
          at_shape items,
          (at_once 46 _ (at_if 46 (is_full o.tables) most_tables refl), (at_once 49 _ (at_if 49 (is_spent o) (at_its_end (codes "WORK")) refl), tt)),
        ),
      ),
    )
    refl

-- all tables have smaller numbers than the next
numbers_under : (ts : List Table) → list_all (λ (t : Table). nat_lt t.number (next_table ts)) ts ≡ true
numbers_under [] = refl
numbers_under (t ∷ ts) =
    and_from (nat_lt t.number (max (t.number + 1) (next_table ts))) _ (first t.number (next_table ts))
    (all_if (λ (u : Table). nat_lt u.number (next_table ts)) (λ (u : Table). nat_lt u.number (max (t.number + 1) (next_table ts))) (λ u lt. others u.number (next_table ts) (t.number + 1) lt) ts (numbers_under ts))
  where
    first : (a b : ℕ) → nat_lt a (max (a + 1) b) ≡ true
    first a b = grind arith

    others : (a b c : ℕ) → nat_lt a b ≡ true → nat_lt a (max c b) ≡ true
    others a b c lt = grind (arith, lt)

-- no table has a name that none is found by
unnamed : (ts : List Table) (name : List ℕ) → is_some (table_named name ts) ≡ false → list_any (λ (u : Table). bytes_eq u.name name) ts ≡ false
unnamed ts name new =
    any-if (λ (u : Table). bytes_eq name u.name) (λ (u : Table). bytes_eq u.name name) (λ u same. (bytes_eq-Decides name u.name).1 (sym ((bytes_eq-Decides u.name name).0 same))) ts
    (none-found (λ (u : Table). bytes_eq name u.name) ts (no_table_there (table_named name ts) new))
  where
    no_table_there : (o : Option Table) → is_some o ≡ false → o ≡ None
    no_table_there None h = refl
    no_table_there (Some t) h = absurd (cc)

-- such a table may be made
can_create : (rs : List Stored) (name : List ℕ) (items : List CreateItem) → names_fault name items ≡ None → is_some (table_named name (tables_in rs)) ≡ false → shape_fault items ≡ None → is_full (tables_in rs) ≡ false
    → CanCreate (parts_of rs) (table_of (next_table (tables_in rs)) name items)
unfolding table_of
can_create rs name items good new shaped room = record {
  is = table_in_order (next_table (tables_in rs)) name items good shaped;
  room = few (length (tables_in rs)) (length (parts_of rs).tables) (by_number-length (parts_of rs).tables) (or_parts (nat_le 256 (length (tables_in rs))) (nat_lt 65535 (next_table (tables_in rs))) room).0;
  number = sym (by_number-all (λ (u : Table). nat_lt u.number (next_table (tables_in rs))) (parts_of rs).tables) ∙ numbers_under (tables_in rs);
  name = sym (by_number-any (λ (u : Table). bytes_eq u.name name) (parts_of rs).tables) ∙ unnamed (tables_in rs) name new;
}
  where
    few : (a b : ℕ) → a ≡ b → nat_le 256 a ≡ false → nat_lt b 256 ≡ true
    few a b same room = grind (arith, same, room)

pub create_fits : (rs : List Stored) (xs : List Session) (m : ℕ) → keep_rules (parts_of rs) ≡ true → nat_lt m END ≡ true → (name : List ℕ) (items : List CreateItem) → Fits rs m (create_plan name items (outline_of (parts_of rs) xs m))
create_fits rs xs m rules early name items =
    fits_doing rs m (create_plan name items (outline_of (parts_of rs) xs m)).faults (create_plan name items (outline_of (parts_of rs) xs m)).edits
    (λ clear.
    let names = least_none _ _ clear in
    let there = least_none _ _ names.1 in
    let shape = least_none _ _ there.1 in
    let room = least_none _ _ shape.1 in
    let work = least_none _ _ room.1 in
    drafts_one rs xs m _ rules early refl (fails _ _ work.0) (can_create rs name items names.0 (fails _ _ there.0) shape.0 (fails _ _ room.0)))

-- ---- EnableVersioning

enabling_ranked : (name : List ℕ) (args : List Arg) (o : Outline) (t : Table) → Ranked (11 ∷ 14 ∷ 15 ∷ 49 ∷ []) (enabling name args o t).faults
enabling_ranked name args o t = (
  at_if 11 t.versioned (versioning name true) refl,
  (
    at_for 14 mistyped (λ y. refl) (argument_fault EnableVersioning args),
    (at_if 15 (not (has_key t)) (no_key name) refl, (at_if 49 (is_spent o) (at_its_end (codes "WORK")) refl, tt)),
  ),
)

pub enable_order : (name : List ℕ) (args : List Arg) (o : Outline) (t : Table) → InOrder (enabling name args o t).faults
enable_order name args o t = least_first (11 ∷ 14 ∷ 15 ∷ 49 ∷ []) (enabling name args o t).faults (enabling_ranked name args o t) refl

-- the table of a name, where its views can be named
abbrev pub enabling_named : List ℕ → List Arg → Outline → Plan
enabling_named name args o = for_table (no_table name) (enabling name args o) (table_named name o.tables)

-- what comes of it
pub enabling_is : (name : List ℕ) (args : List Arg) (o : Outline)
    → outcome (also (refused_if (nat_lt 25 (length name)) long_name ∷ []) (enabling_named name args o)) ≡ refused_or (refused_if (nat_lt 25 (length name)) long_name) (outcome (enabling_named name args o))
enabling_is name args o =
    also_is (7 ∷ []) 9 (refused_if (nat_lt 25 (length name)) long_name ∷ []) (enabling_named name args o) (at_if 7 (nat_lt 25 (length name)) long_name refl, tt) refl refl
    (from_table 9 (no_table name) (enabling name args o) (table_named name o.tables) refl (λ t. from_ranked 9 (11 ∷ 14 ∷ 15 ∷ 49 ∷ []) (enabling name args o t).faults (enabling_ranked name args o t) refl))
    ∙ alone (nat_lt 25 (length name))
  where
    alone : (b : Bool) → refused_or (first_fault (refused_if b long_name ∷ [])) (outcome (enabling_named name args o)) ≡ refused_or (refused_if b long_name) (outcome (enabling_named name args o))
    alone true = refl
    alone false = refl

pub enable_fits : (rs : List Stored) (xs : List Session) (m : ℕ) → keep_rules (parts_of rs) ≡ true → nat_lt m END ≡ true → (args : List Arg) → Fits rs m (enable_plan args (outline_of (parts_of rs) xs m))
enable_fits rs xs m rules early args = fits_text rs m (text_given EnableVersioning args parameters.TableName) (argument_fault EnableVersioning args) _ (λ text. by_name (folded text))
  where
    keyed : (b : Bool) → not b ≡ false → b ≡ true
    keyed true h = refl
    keyed false h = absurd (cc)

    by_name : (name : List ℕ) → Fits rs m (also (refused_if (nat_lt 25 (length name)) long_name ∷ []) (enabling_named name args (outline_of (parts_of rs) xs m)))
    by_name name =
        fits_also rs m (refused_if (nat_lt 25 (length name)) long_name ∷ []) (enabling_named name args (outline_of (parts_of rs) xs m))
        (fits_table rs m (no_table name) (enabling name args (outline_of (parts_of rs) xs m)) (table_named name (tables_in rs))
        (λ t found.
        fits_doing rs m (enabling name args (outline_of (parts_of rs) xs m) t).faults (enabling name args (outline_of (parts_of rs) xs m) t).edits
        (λ clear.
        let off = least_none _ _ clear in
        let fits = least_none _ _ off.1 in
        let key = least_none _ _ fits.1 in
        let work = least_none _ _ key.1 in
        drafts_one rs xs m _ rules early refl (fails _ _ work.0) (record { table = t; named = found; off = fails _ _ off.0; key = keyed (has_key t) (fails _ _ key.0) }))))
