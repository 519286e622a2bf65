-- Where a condition fixes the key, what it chooses of all rows is what it chooses of those of the key.
use Rattle.std.proofs.Common.{◌≡◌, ℕ, ◌||◌, Bool, true, false, cond, List, [], ◌∷◌, ◌++◌, map, Option, Some, None, Result, Ok, Err, IfOk, refl, sym, ap, subst, ◌∙◌}
use Rattle.std.specs.Prelude.{IfSome}
use Rattle.std.proofs.lemmas.List.{append-nil}
use Rattle.std.proofs.lemmas.List.Elements.{filter-append, filter_map-append}
use Rattle.std.proofs.lemmas.Bool.{and_parts, or_parts, true≢false}
use Rattle.std.specs.List.{filter, filter_map, list_all}
use Rattle.std.specs.Ordering.{is_eq}
use Rattle.wm_base.specs.Key.{key_order}
use Rattle.wm_base.specs.Orders.{key_order-itself}
use Rattle.wm_base.specs.Period.{Span}
use Rattle.wm_syntax.specs.Trees.{Cond}
use Rattle.wm_base.specs.declared.memory.Memory.{Memory}
use Rattle.wm_base.specs.declared.row.Row.{Row}
use Rattle.wm_base.specs.declared.value.Value.{Value}
use Rattle.wm_dml.specs.Changing.{chosen, meets, own_columns}
use Rattle.wm_graph.specs.Parts.{Parts, parts_of, table_of}
use Rattle.wm_graph.specs.Rules.{keep_rules, is_key, key_of}
use Rattle.wm_version_rows.specs.Listing.{IsKeyShowing}
use Rattle.wm_spec.specs.Conditions.{fits}
use Rattle.wm_spec.proofs.Keys.{key_in-has}
use Rattle.wm_spec.specs.Stretches.{Stretch, ComesBefore, KeysAscend, is_key_in}
use Rattle.wm_spec.specs.declared.record.stored.Stored.{Stored}
use Rattle.wm_spec.specs.declared.record.table.Table.{Table}
use Rattle.wm_state.specs.Listing.{row_shown_with, joined}
use Rattle.wm_state.proofs.Laying.{key_same}
use Rattle.wm_state.proofs.Listing.{one_rows, before-out}
use Rattle.wm_chosen.proofs.Listable.{stretches_of, are_stretches, keys_on, keys_with, ascend-with, groups_of, rows_with, is_showing}
use Rattle.wm_chosen.proofs.Seen.{shown_fits, shown_under}
use Rattle.wm_chosen.proofs.Stood.{key_showing_all}
use Rattle.wm_chosen.specs.Chosen.{AreChosen}
use Rattle.wm_chosen.specs.Keyed.{FixesKey}

-- ---- over plain lists: of keys that ascend, where one alone has anything, all have what that one has

abbrev gathered : (List Value → List Row) → List (List Value) → List Row
gathered part [] = []
gathered part (k ∷ ks) = part k ++ gathered part ks

nothing_gathered : (part : List Value → List Row) (key : List Value) → ((k : List Value) → is_eq (key_order k key) ≡ false → part k ≡ []) → (ks : List (List Value)) → is_key_in key ks ≡ false
    → gathered part ks ≡ []
nothing_gathered part key others [] out = refl
nothing_gathered part key others (k ∷ ks) out =
    let h = or_parts (is_eq (key_order k key)) (is_key_in key ks) out in
    ap (λ rows. rows ++ gathered part ks) (others k h.0) ∙ nothing_gathered part key others ks h.1

one_gathered : (part : List Value → List Row) (key : List Value) → ((k : List Value) → is_eq (key_order k key) ≡ false → part k ≡ []) → (ks : List (List Value)) → KeysAscend ks → is_key_in key ks ≡ true
    → gathered part ks ≡ part key
one_gathered part key others [] up there = absurd (true≢false (sym there))
one_gathered part key others (k ∷ ks) up there = by_test (is_eq (key_order k key)) refl there (one_gathered part key others ks up.1)
  where
    by_test : (b : Bool) → is_eq (key_order k key) ≡ b → (b || is_key_in key ks) ≡ true → (is_key_in key ks ≡ true → gathered part ks ≡ part key) → (part k ++ gathered part ks) ≡ part key
    by_test true e there rest =
        let same : k ≡ key = key_same k key e in
        ap (λ rows. part k ++ rows) (nothing_gathered part key others ks (before-out key ks (subst (λ j. ComesBefore j ks) same up.0))) ∙ append-nil (part k) ∙ ap part same
    by_test false e there rest = ap (λ rows. rows ++ gathered part ks) (others k e) ∙ rest there

-- nothing is kept of what all fails
filter_none : (keep fails : Row → Bool) → ((row : Row) → fails row ≡ true → keep row ≡ false) → (rows : List Row) → list_all fails rows ≡ true → filter keep rows ≡ []
filter_none keep fails apart [] all = refl
filter_none keep fails apart (row ∷ rows) all =
    let h = and_parts (fails row) (list_all fails rows) all in
    ap (λ b. cond b (row ∷ filter keep rows) (filter keep rows)) (apart row h.0) ∙ filter_none keep fails apart rows h.1

-- ---- key by key

-- the rows that are shown of a key on which the condition is true
abbrev part : Parts → ℕ → ℕ → Bool → Span → (Row → Bool) → List Value → List Row
part p version table valid within keep key = filter keep (filter_map (row_shown_with p valid within) (map (λ s. (key, s)) (stretches_of p version table key)))

by_key : (p : Parts) (version table : ℕ) (valid : Bool) (within : Span) (keep : Row → Bool) (ks : List (List Value))
    → filter keep (filter_map (row_shown_with p valid within) (joined (groups_of p version table ks))) ≡ gathered (part p version table valid within keep) ks
by_key p version table valid within keep [] = refl
by_key p version table valid within keep (k ∷ ks) =
    let shown = row_shown_with p valid within in
    let here : List Row = filter_map shown (map (λ s. (k, s)) (stretches_of p version table k)) in
    let rest : List Row = filter_map shown (joined (groups_of p version table ks)) in
    ap (filter keep) (filter_map-append shown (map (λ s. (k, s)) (stretches_of p version table k)) (joined (groups_of p version table ks)))
    ∙ filter-append keep here rest
    ∙ ap (λ rows. filter keep here ++ rows) (by_key p version table valid within keep ks)

-- no row under another key is chosen
other_key : (t : Table) (condition : Option Cond) (key k : List Value) → FixesKey t condition key → is_eq (key_order k key) ≡ false → (row : Row) → is_key k (key_of t row.values) ≡ true
    → meets condition (own_columns t) row ≡ false
other_key t condition key k fixed apart row under = by_test (meets condition (own_columns t) row) refl
  where
    not_here : is_key k (Some key) ≡ true → ⊥
    not_here e =
        let same : key ≡ k = key_same key k e in
        true≢false (sym (ap is_eq (key_order-itself k)) ∙ ap (λ j. is_eq (key_order k j)) (sym same) ∙ apart)

    by_test : (b : Bool) → meets condition (own_columns t) row ≡ b → b ≡ false
    by_test true e = absurd (not_here (ap (is_key k) (sym (fixed.under row e)) ∙ under))
    by_test false e = refl

-- of all rows a test that is true on none under another key keeps those that it keeps of the rows of the key
pub kept_under_key : (p : Parts) (version : ℕ) (t : Table) (within : Span) (keep : Row → Bool) (key : List Value) (rows : List Row) → keep_rules p ≡ true → table_of p.tables t.number ≡ Some t
    → ((k : List Value) → is_eq (key_order k key) ≡ false → (row : Row) → is_key k (key_of t row.values) ≡ true → keep row ≡ false) → IsKeyShowing p version t.number t.valid within key rows
    → filter keep rows ≡ filter keep (rows_with p version t.number t.valid within key)
kept_under_key p version t within keep key rows rules there apart is =
    ap (filter keep) (is.shown ∙ ap (λ (ss : List Stretch). filter_map (row_shown_with p t.valid within) (map (λ s. (key, s)) ss)) same)
    ∙ sym (by_key p version t.number t.valid within keep (keys_with p key) ∙ one_gathered (part p version t.number t.valid within keep) key others (keys_with p key) (ascend-with p key) key_there)
  where
    same : is.stretches ≡ stretches_of p version t.number key
    same = one_rows is.stretches (stretches_of p version t.number key) 0 is.are.maximal (are_stretches p version t.number key).maximal
        (λ u le. is.are.held u ∙ sym ((are_stretches p version t.number key).held u))

    others : (k : List Value) → is_eq (key_order k key) ≡ false → part p version t.number t.valid within keep k ≡ []
    others k other =
        filter_none keep (λ (r : Row). is_key k (key_of t r.values)) (apart k other)
        (filter_map (row_shown_with p t.valid within) (map (λ s. (k, s)) (stretches_of p version t.number k)))
        (key_showing_all (λ (r : Row). is_key k (key_of t r.values)) p version t within k (stretches_of p version t.number k) rules there (are_stretches p version t.number k) (λ row is. shown_under t within k row is))

    key_there : is_key_in key (keys_with p key) ≡ true
    key_there = key_in-has key key (keys_on p.pieces) ∙ ap (λ o. is_eq o || is_key_in key (keys_on p.pieces)) (key_order-itself key)

-- so the rows that are shown for the key are all that the condition chooses
pub chosen_under_key : (p : Parts) (version : ℕ) (t : Table) (within : Span) (condition : Option Cond) (key : List Value) (rows : List Row) → keep_rules p ≡ true → table_of p.tables t.number ≡ Some t
    → FixesKey t condition key → IsKeyShowing p version t.number t.valid within key rows → chosen t condition rows ≡ chosen t condition (rows_with p version t.number t.valid within key)
chosen_under_key p version t within condition key rows rules there fixed is =
    kept_under_key p version t within (meets condition (own_columns t)) key rows rules there (λ k apart. other_key t condition key k fixed apart) is

-- and of the key's own rows none is missing
pub rows_under_key : (p : Parts) (version : ℕ) (t : Table) (within : Span) (key : List Value) (rows : List Row) → keep_rules p ≡ true → table_of p.tables t.number ≡ Some t
    → IsKeyShowing p version t.number t.valid within key rows → filter (λ (r : Row). is_key key (key_of t r.values)) rows ≡ filter (λ (r : Row). is_key key (key_of t r.values)) (rows_with p version t.number t.valid within key)
rows_under_key p version t within key rows rules there is =
    kept_under_key p version t within (λ (r : Row). is_key key (key_of t r.values)) key rows rules there (λ k apart row under. not_both k (key_of t row.values) apart under) is
  where
    not_both : (k : List Value) (o : Option (List Value)) → is_eq (key_order k key) ≡ false → is_key k o ≡ true → is_key key o ≡ false
    not_both k None apart under = refl
    not_both k (Some j) apart under = ap (λ i. is_eq (key_order i key)) (key_same j k under) ∙ apart

-- ---- as the code has them

-- the rows of the key fit the columns of the table
pub key_fit : (r : Result (List Row) Memory) (rs : List Stored) (version : ℕ) (t : Table) (within : Span) (key : List Value) → keep_rules (parts_of rs) ≡ true → table_of (parts_of rs).tables t.number ≡ Some t
    → IfOk r (λ rows. IsKeyShowing (parts_of rs) version t.number t.valid within key rows) → IfOk r (λ rows. list_all (fits (own_columns t)) rows ≡ true)
key_fit (Ok rows) rs version t within key rules there is =
    ap (list_all (fits (own_columns t))) is.shown ∙ key_showing_all (fits (own_columns t)) (parts_of rs) version t within key is.stretches rules there is.are (λ row is. shown_fits t.name t within key row is)
key_fit (Err e) rs version t within key rules there is = tt

key_fixed : (t : Table) (condition : Option Cond) (asked : Option (List Value)) (key : List Value) → asked ≡ Some key → IfSome asked (FixesKey t condition) → FixesKey t condition key
key_fixed t condition None key is fixed = absurd (cc)
key_fixed t condition (Some other) key is fixed = let same : other ≡ key = cc in subst (FixesKey t condition) same fixed

-- those that are chosen of them are those that are chosen of all
pub key_are : (r : Result (List Row) Memory) (rs : List Stored) (version : ℕ) (t : Table) (within : Span) (asked : Option (List Value)) (key : List Value) → asked ≡ Some key
    → keep_rules (parts_of rs) ≡ true → table_of (parts_of rs).tables t.number ≡ Some t → IfOk r (λ rows. IsKeyShowing (parts_of rs) version t.number t.valid within key rows)
    → IfOk r (λ rows. (condition : Option Cond) → IfSome asked (FixesKey t condition) → AreChosen rs version t within condition (chosen t condition rows))
key_are (Ok rows) rs version t within asked key some rules there is = λ condition fixed. record {
  all = rows_with (parts_of rs) version t.number t.valid within key;
  listed = is_showing (parts_of rs) version t.number t.valid within key;
  are = chosen_under_key (parts_of rs) version t within condition key rows rules there (key_fixed t condition asked key some fixed) is;
}
key_are (Err e) rs version t within asked key some rules there is = tt
