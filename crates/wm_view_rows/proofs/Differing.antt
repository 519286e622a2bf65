-- The rows of differences fit their columns.
use Rattle.std.proofs.Common.{◌≡◌, ℕ, ◌⊎◌, inl, inr, ◌&&◌, not, true, List, [], ◌∷◌, Option, Some, None, is_some, refl, sym, ap, ◌∙◌, subst, codes}
use Rattle.std.proofs.lemmas.Bool.{and_from, true≢false}
use Rattle.std.specs.List.{list_all}
use Rattle.std.specs.Option.{option_and_then}
use Rattle.wm_base.specs.Period.{Span}
use Rattle.wm_base.specs.declared.row.Row.{Row}
use Rattle.wm_base.specs.declared.value.Value.{Value}
use Rattle.wm_base.specs.declared.value.Value.TheVariants as values
use Rattle.wm_graph.specs.Parts.{Parts, table_of}
use Rattle.wm_graph.specs.Rules.{is_key_of, keep_rules}
use Rattle.wm_net.specs.Conflicts.{Stamps, in_table, same_stamp, same_stamps}
use Rattle.wm_net.specs.Groups.{Group, cell}
use Rattle.wm_net.specs.Listed.{Stretch}
use Rattle.wm_net.proofs.Tabled.{Begins, all_begin, each_if, given_in}
use Rattle.wm_period.specs.Pieces.{Held}
use Rattle.wm_spec.specs.Conditions.{fits}
use Rattle.wm_spec.specs.Lists.{Cell}
use Rattle.wm_spec.specs.declared.record.table.Table.{Table}
use Rattle.wm_state.specs.Listing.{standing}
use Rattle.wm_state.specs.Standing.{newest_first, seen}
use Rattle.wm_typing.specs.Columns.{columns_of_table}
use Rattle.wm_view_rows.proofs.Fits.{AreSuited, Asks, FitsTable, Suits, all_flat, fits_more, given_parts, seen_suits, shown_fits, standing_fits}
use Rattle.wm_view_rows.specs.Columns.{columns_of_view, text_column}
use Rattle.wm_view_rows.specs.Conflicts.{rows_with}
use Rattle.wm_view_rows.specs.Differences.{IsDifferenceView, Versions, difference_held, differs, stamps_held, version_rows}
use Rattle.wm_view_rows.specs.Rows.{SideRows, change_word, difference_row, difference_rows, shown_values}
use Rattle.wm_view_rows.specs.declared.view.View.TheVariants.{Differences}

-- where one of the points differs a row stands at one of the three
one_stands : (x : Stamps) → differs x ≡ true → (is_some x.base ≡ true) ⊎ ((is_some x.parent ≡ true) ⊎ (is_some x.child ≡ true))
one_stands x e = by_base x.base x.parent x.child e
  where
    by_base : (a b c : Option ℕ) → not (same_stamp a b && same_stamp a c) ≡ true → (is_some a ≡ true) ⊎ ((is_some b ≡ true) ⊎ (is_some c ≡ true))
    by_base (Some s) b c e = inl refl
    by_base None (Some s) c e = inr (inl refl)
    by_base None None (Some s) e = inr (inr refl)
    by_base None None None e = absurd (true≢false (sym e))

module _ (p : Parts) (v : Versions) (t : Table) (asks : Asks p t) where
  seen_fits : (version : ℕ) (c : Cell) → c.table ≡ t.number → Suits p t c (seen p version c)
  seen_fits version c of = seen_suits p t (newest_first p.versions) version c asks of

  -- a row of the table has one of its keys
  standing_key : (c : Cell) (o : Option Held) → Suits p t c o → is_some (option_and_then standing o) ≡ true → is_key_of c.key t ≡ true
  standing_key c None suits some = absurd (true≢false (sym some))
  standing_key c (Some h) suits some = suits.0

  difference_key : (c : Cell) → c.table ≡ t.number → differs (stamps_held p v c) ≡ true → is_key_of c.key t ≡ true
  difference_key c of e = by_stamp (one_stands (stamps_held p v c) e)
    where
      by_stamp : (is_some (stamps_held p v c).base ≡ true) ⊎ ((is_some (stamps_held p v c).parent ≡ true) ⊎ (is_some (stamps_held p v c).child ≡ true)) → is_key_of c.key t ≡ true
      by_stamp (inl some) = standing_key c (seen p v.base c) (seen_fits v.base c of) some
      by_stamp (inr (inl some)) = standing_key c (seen p v.first c) (seen_fits v.first c of) some
      by_stamp (inr (inr some)) = standing_key c (seen p v.second c) (seen_fits v.second c of) some

  difference_suits : (c : Cell) (x : Stamps) → c.table ≡ t.number → difference_held p v c ≡ Some x → AreSuited t c.key (rows_with p x)
  difference_suits c x of held =
      let given = given_parts (differs (stamps_held p v c)) (stamps_held p v c) x held in
      subst (λ (s : Stamps). AreSuited t c.key (rows_with p s)) given.1 (record {
        keyed = difference_key c of given.0;
        base = standing_fits p t c (seen p v.base c) (seen_fits v.base c of);
        parent = standing_fits p t c (seen p v.first c) (seen_fits v.first c of);
        child = standing_fits p t c (seen p v.second c) (seen_fits v.second c of);
      })

difference_row_fits : (source : List ℕ) (t : Table) (key : List Value) (period : Span) (name word : List ℕ) (row : Option (List Value)) → is_key_of key t ≡ true → FitsTable t row
    → fits (columns_of_view Differences source t) (difference_row t key period name word row) ≡ true
unfolding fits
difference_row_fits source t key period name word row keyed fit =
    fits_more (columns_of_table source t) (text_column source (codes "WM_DIFFVER") ∷ text_column source (codes "WM_CODE") ∷ []) (shown_values t key period row) (values.Text name ∷ values.Text word ∷ [])
    (shown_fits source t key period row keyed fit) refl

difference_rows_fit : (source : List ℕ) (t : Table) (key : List Value) (period : Span) (first second : List ℕ) (x : Stamps) (rows : SideRows) → AreSuited t key rows
    → list_all (fits (columns_of_view Differences source t)) (difference_rows t key period first second x rows) ≡ true
difference_rows_fit source t key period first second x rows are =
    and_from _ _ (difference_row_fits source t key period (codes "DiffBase") (change_word x.base x.base) rows.base are.keyed are.base)
    (and_from _ _ (difference_row_fits source t key period first (change_word x.base x.parent) rows.parent are.keyed are.parent)
    (and_from _ true (difference_row_fits source t key period second (change_word x.base x.child) rows.child are.keyed are.child) refl))

version_rows_fit : (p : Parts) (v : Versions) (first second : List ℕ) (t : Table) (source : List ℕ) (x : Group × Stretch Stamps) → Asks p t → Begins (in_table t.number (difference_held p v)) x
    → list_all (fits (columns_of_view Differences source t)) (version_rows p first second t x) ≡ true
version_rows_fit p v first second t source x asks begins =
    let given = given_in t.number (difference_held p v) x.0 x.1.from x.1.value begins in
    difference_rows_fit source t x.0.key (record { from = x.1.from; till = x.1.till }) first second x.1.value (rows_with p x.1.value)
    (difference_suits p v t asks (cell x.0 x.1.from) x.1.value given.0 given.1)

pub differences_fit : (p : Parts) (v : Versions) (first second : List ℕ) (t : Table) (source : List ℕ) (rows : List Row) → keep_rules p ≡ true → table_of p.tables t.number ≡ Some t
    → IsDifferenceView p v first second t rows → list_all (fits (columns_of_view Differences source t)) rows ≡ true
differences_fit p v first second t source rows rules there view =
    ap (list_all (fits (columns_of_view Differences source t))) view.are
    ∙ all_flat (fits (columns_of_view Differences source t)) (version_rows p first second t) view.found
    (each_if (Begins (in_table t.number (difference_held p v))) (λ (x : Group × Stretch Stamps). list_all (fits (columns_of_view Differences source t)) (version_rows p first second t x) ≡ true) view.found
    (λ x begins. version_rows_fit p v first second t source x (record { rules = rules; there = there }) begins)
    (all_begin same_stamps (in_table t.number (difference_held p v)) view.found view.listed))
