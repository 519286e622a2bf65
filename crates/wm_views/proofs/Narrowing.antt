-- A query whose conditions fix keys answers over the rows of these keys what it answers over all rows.
use Rattle.std.proofs.Common.{◌≡◌, ℕ, ◌+◌, ◌<◌, ◌≤◌, Bool, true, false, if◌then◌else◌, List, [], ◌∷◌, ◌++◌, length, map, drop, get_or, Option, Some, None, is_none, Result, Ok, Err, IfOk, IfSome, append-nil, append_assoc, length-append, arith, refl, sym, ap, subst, ◌∙◌}
use Rattle.std.proofs.lemmas.Bool.{true≢false}
use Rattle.std.proofs.lemmas.List.{drop_all, length-map}
use Rattle.std.specs.List.{list_all}
use Rattle.std.specs.Option.{option_map_or}
use Rattle.wm_syntax.specs.Trees.{Query, Src}
use Rattle.wm_listing.specs.declared.columns.Column.{Column}
use Rattle.wm_listing.specs.declared.listing.Listing.{Listing as Source}
use Rattle.wm_base.specs.Period.{Span}
use Rattle.wm_base.specs.declared.row.Row.{Row}
use Rattle.wm_syntax.specs.declared.query.Src.{Src as SrcNode}
use Rattle.wm_base.specs.declared.value.Value.{Value}
use Rattle.wm_syntax.specs.Views.{src_view, srcs_view}
use Rattle.wm_graph.specs.Parts.{Parts, parts_of, table_of}
use Rattle.wm_graph.specs.Rules.{is_key, is_table, keep_rules, key_of}
use Rattle.wm_model.proofs.Named.{named_is}
use Rattle.wm_model.specs.Planning.{tables_in}
use Rattle.wm_model.specs.Sources.{AreConflicts, AreDifferent, AreListed, IsListed, IsRead, IsSeen, Look, Reading, Version, Day, recorded_name}
use Rattle.wm_model.specs.Step.{answer_rows, columns_in, lost_source, source_name, table_asked}
use Rattle.wm_select.proofs.NarrowLemmas.{answer_narrowed}
use Rattle.wm_joining.proofs.NarrowLemmas.{narrowed_columns}
use Rattle.wm_joining.specs.Narrowing.{IsNarrowed, AreNarrowed}
use Rattle.wm_select.specs.Query.{answer_of}
use Rattle.wm_joining.specs.Kept.{columns_of, is_kept, rows_fit}
use Rattle.wm_spec.specs.Conditions.{fits}
use Rattle.wm_spec.specs.declared.record.stored.Stored.{Stored}
use Rattle.wm_spec.specs.declared.record.table.Table.{Table}
use Rattle.wm_state.proofs.Laying.{key_itself}
use Rattle.wm_state.specs.Listing.{IsShowing}
use Rattle.wm_version_rows.specs.Listing.{IsKeyShowing}
use Rattle.wm_dated.specs.Dated.{IsDatedShowing}
use Rattle.wm_typing.specs.Columns.{columns_of_table, declared_column, valid_column}
use Rattle.wm_view_rows.specs.Columns.{columns_of_view}
use Rattle.wm_view_rows.specs.Views.{table_sought, view_named}
use Rattle.wm_view_rows.specs.declared.view.View.{View}
use Rattle.wm_view_rows.specs.declared.view.View.TheVariants.{Rows, Conflicts, Differences, History, Locks}
use Rattle.wm_views.proofs.Fits.{rows_listed, seen_fits}
use Rattle.wm_chosen.proofs.KeyRows.{rows_under_key}
use Rattle.wm_chosen.proofs.Listable.{is_showing, rows_with}
use Rattle.wm_views.proofs.Sourcing.{columns_listed, from_place, none_lost}
use Rattle.wm_chosen.proofs.Seen.{shown_fits}
use Rattle.wm_chosen.proofs.Stood.{key_showing_all}
use Rattle.wm_chosen.specs.Keyed.{FixesKeyAt}
use Rattle.wm_view_rows.specs.History.{IsHistoryView}
use Rattle.wm_view_rows.specs.Locks.{lock_view}
use Rattle.wm_plan.specs.Views.{answer_view}
use Rattle.wm_plan.specs.declared.answer.Answer.{Answer as AnswerNode}
use Rattle.wm_base.specs.declared.memory.Memory.{Memory}
use Rattle.wm_views.specs.Looking.{IsAnswered}
use Rattle.wm_views.specs.Narrowed.{IsListedFor, AreHeld, AreListedFor, AreShown, IsKeyRead, may_narrow}

-- ---- one source

-- the declared columns of a table are among its columns
table_wide : (name : List ℕ) (t : Table) → length t.columns ≤ length (columns_of_table name t)
table_wide name t =
    let all : length (columns_of_table name t) ≡ length (map (declared_column name) t.columns) + length (if t.valid then valid_column name ∷ [] else []) =
    length-append (map (declared_column name) t.columns) (if t.valid then valid_column name ∷ [] else []) in
    let same : length (map (declared_column name) t.columns) ≡ length t.columns = length-map t.columns (declared_column name) in
    omega (arith, all, same)

-- where its rows are shown, there is room for them
pub room_of_rows : (view : View) (name : List ℕ) (t : Table) (before total : ℕ) → Rows ≡ view → before + length (columns_of_view view name t) ≤ total → before + length t.columns ≤ total
room_of_rows view name t before total is room =
    let wide = table_wide name t in
    let own : length (columns_of_view view name t) ≡ length (columns_of_table name t) = ap (λ (v : View). length (columns_of_view v name t)) (sym is) in
    omega (arith, wide, own, room)

-- the whole of what a source shows, of which that is listed which the query may keep
record HasWhole (rs : List Stored) (look : Look) (keeps : Row → Bool) (before : ℕ) (x : Src) (l : Source) : Type 0 where
  pub all : Source
  pub listed : IsListed (parts_of rs) look (tables_in rs) x all
  pub narrowed : IsNarrowed keeps before l all

-- so of what is seen of a table
record HasSeen (rs : List Stored) (look : Look) (view : View) (t : Table) (keeps : Row → Bool) (before : ℕ) (l : Source) : Type 0 where
  pub all : Source
  pub columns : all.columns ≡ l.columns
  pub rows : IsSeen (parts_of rs) look view t all.rows
  pub narrowed : IsNarrowed keeps before l all

-- that is the whole of it
seen_whole : (rs : List Stored) (look : Look) (view : View) (t : Table) (keeps : Row → Bool) (before : ℕ) (l : Source) → IsSeen (parts_of rs) look view t l.rows → HasSeen rs look view t keeps before l
seen_whole rs look view t keeps before l rows = record {
  all = l;
  columns = refl;
  rows = rows;
  narrowed = record { passes = λ row. true; columns = refl; same = refl; sound = λ one row other behind e kept. refl };
}

has_seen : (rs : List Stored) (look : Look) (view : View) (name : List ℕ) (t : Table) (keeps : Row → Bool) (before : ℕ) (l : Source) (key : Option (List Value)) → keep_rules (parts_of rs) ≡ true → table_of (parts_of rs).tables t.number ≡ Some t
    → l.columns ≡ columns_of_view view name t → IfSome key (FixesKeyAt t keeps before) → AreShown (parts_of rs) look view t key l.rows → HasSeen rs look view t keeps before l
has_seen rs look Rows name t keeps before l None rules there are fixed rows = seen_whole rs look Rows t keeps before l rows
has_seen rs look Rows name t keeps before l (Some key) rules there are fixed rows = by_reading (look.reading t) refl rows
  where
    by_reading : (x : Reading) → look.reading t ≡ x → IsKeyRead (parts_of rs) x t (look.period t) key l.rows → HasSeen rs look Rows t keeps before l
    by_reading (Day date) at is = absurd is
    by_reading (Version version) at is = record {
      all = record { columns = l.columns; rows = rows_with (parts_of rs) version t.number t.valid (look.period t) key };
      columns = refl;
      rows =
          subst (λ (x : Reading). IsRead (parts_of rs) look.home x t (look.period t) (rows_with (parts_of rs) version t.number t.valid (look.period t) key)) (sym at)
          (is_showing (parts_of rs) version t.number t.valid (look.period t) key);
      narrowed = record {
        passes = λ row. is_key key (key_of t row.values);
        columns = refl;
        same = rows_under_key (parts_of rs) version t (look.period t) key l.rows rules there is;
        sound = λ one row other behind e kept. ap (is_key key) (fixed.under one row other behind (subst (λ n. length t.columns ≤ n) (ap (λ (cs : List Column). length cs) (sym are) ∙ sym e) (table_wide name t)) kept) ∙ key_itself key;
      };
    }
has_seen rs look Conflicts name t keeps before l None rules there are fixed rows = seen_whole rs look Conflicts t keeps before l rows
has_seen rs look Conflicts name t keeps before l (Some key) rules there are fixed rows = absurd rows
has_seen rs look Differences name t keeps before l None rules there are fixed rows = seen_whole rs look Differences t keeps before l rows
has_seen rs look Differences name t keeps before l (Some key) rules there are fixed rows = absurd rows
has_seen rs look History name t keeps before l None rules there are fixed rows = seen_whole rs look History t keeps before l rows
has_seen rs look History name t keeps before l (Some key) rules there are fixed rows = absurd rows
has_seen rs look Locks name t keeps before l None rules there are fixed rows = seen_whole rs look Locks t keeps before l rows
has_seen rs look Locks name t keeps before l (Some key) rules there are fixed rows = absurd rows

has_whole : (rs : List Stored) (look : Look) (keeps : Row → Bool) (before : ℕ) (x : Src) (l : Source) → keep_rules (parts_of rs) ≡ true → IsListedFor (parts_of rs) look (tables_in rs) keeps before x l
    → HasWhole rs look keeps before x l
has_whole rs look keeps before x l rules is =
    let h = has_seen rs look (view_named x.table) (source_name x) is.table keeps before l is.key rules (named_is rs (table_sought x.table) is.table rules is.named).there is.columns is.fixed is.rows in
    record { all = h.all; listed = record { table = is.table; named = is.named; columns = h.columns ∙ is.columns; rows = h.rows }; narrowed = h.narrowed }

-- its rows fit its columns
shown_fit : (rs : List Stored) (look : Look) (view : View) (t : Table) (source : List ℕ) (key : Option (List Value)) (rows : List Row) → keep_rules (parts_of rs) ≡ true → table_of (parts_of rs).tables t.number ≡ Some t
    → AreShown (parts_of rs) look view t key rows → list_all (fits (columns_of_view view source t)) rows ≡ true
shown_fit rs look Rows t source None rows rules there are = seen_fits rs look Rows t source rows rules there are
shown_fit rs look Rows t source (Some key) rows rules there are = by_reading (look.reading t) are
  where
    by_reading : (x : Reading) → IsKeyRead (parts_of rs) x t (look.period t) key rows → list_all (fits (columns_of_table source t)) rows ≡ true
    by_reading (Day date) is = absurd is
    by_reading (Version version) is =
        ap (list_all (fits (columns_of_table source t))) is.shown
        ∙ key_showing_all (fits (columns_of_table source t)) (parts_of rs) version t (look.period t) key is.stretches rules there is.are (λ row shown. shown_fits source t (look.period t) key row shown)
shown_fit rs look Conflicts t source None rows rules there are = seen_fits rs look Conflicts t source rows rules there are
shown_fit rs look Conflicts t source (Some key) rows rules there are = absurd are
shown_fit rs look Differences t source None rows rules there are = seen_fits rs look Differences t source rows rules there are
shown_fit rs look Differences t source (Some key) rows rules there are = absurd are
shown_fit rs look History t source None rows rules there are = seen_fits rs look History t source rows rules there are
shown_fit rs look History t source (Some key) rows rules there are = absurd are
shown_fit rs look Locks t source None rows rules there are = seen_fits rs look Locks t source rows rules there are
shown_fit rs look Locks t source (Some key) rows rules there are = absurd are

one_fits : (rs : List Stored) (look : Look) (keeps : Row → Bool) (before : ℕ) (x : Src) (l : Source) → keep_rules (parts_of rs) ≡ true → IsListedFor (parts_of rs) look (tables_in rs) keeps before x l
    → list_all (λ row. fits l.columns row) l.rows ≡ true
one_fits rs look keeps before x l rules is =
    ap (λ (cs : List Column). list_all (λ row. fits cs row) l.rows) is.columns
    ∙ shown_fit rs look (view_named x.table) is.table (source_name x) is.key l.rows rules (named_is rs (table_sought x.table) is.table rules is.named).there is.rows

-- ---- all sources

pub rows_listed_for : (rs : List Stored) (look : Look) (keeps : Row → Bool) (before : ℕ) (sources : List Src) (ls : List Source) → keep_rules (parts_of rs) ≡ true
    → AreListedFor (parts_of rs) look (tables_in rs) keeps before sources ls → rows_fit ls ≡ true
rows_listed_for rs look keeps before [] ls rules are = ap rows_fit are
rows_listed_for rs look keeps before (x ∷ xs) [] rules are = absurd are
rows_listed_for rs look keeps before (x ∷ xs) (l ∷ ls) rules are =
    rw (one_fits rs look keeps before x l rules are.0) (rows_listed_for rs look keeps (before + length l.columns) xs ls rules are.1)

record HaveWhole (rs : List Stored) (look : Look) (keeps : Row → Bool) (before : ℕ) (sources : List Src) (ls : List Source) : Type 0 where
  pub alls : List Source
  pub listed : AreListed (parts_of rs) look (tables_in rs) sources alls
  pub narrowed : AreNarrowed keeps before ls alls

have_whole : (rs : List Stored) (look : Look) (keeps : Row → Bool) (before : ℕ) (sources : List Src) (ls : List Source) → keep_rules (parts_of rs) ≡ true
    → AreListedFor (parts_of rs) look (tables_in rs) keeps before sources ls → HaveWhole rs look keeps before sources ls
have_whole rs look keeps before [] ls rules are = record { alls = []; listed = refl; narrowed = subst (λ (fs : List Source). AreNarrowed keeps before fs []) (sym are) tt }
have_whole rs look keeps before (x ∷ xs) [] rules are = absurd are
have_whole rs look keeps before (x ∷ xs) (l ∷ ls) rules are =
    let one = has_whole rs look keeps before x l rules are.0 in
    let rest = have_whole rs look keeps (before + length l.columns) xs ls rules are.1 in
    record { alls = one.all ∷ rest.alls; listed = (one.listed, rest.listed); narrowed = (one.narrowed, rest.narrowed) }

-- the columns of the sources are those of what is listed of them
pub columns_listed_for : (rs : List Stored) (look : Look) (keeps : Row → Bool) (sources : List Src) (ls : List Source) → keep_rules (parts_of rs) ≡ true
    → AreListedFor (parts_of rs) look (tables_in rs) keeps 0 sources ls → columns_in (tables_in rs) sources ≡ columns_of ls
columns_listed_for rs look keeps sources ls rules are =
    let whole = have_whole rs look keeps 0 sources ls rules are in
    columns_listed (parts_of rs) look (tables_in rs) sources whole.alls whole.listed ∙ sym (narrowed_columns keeps 0 ls whole.alls whole.narrowed)

-- what a query answers over what is listed it answers over all rows of its sources
pub record AnswersWhole (rs : List Stored) (look : Look) (query : Query) (ls : List Source) : Type 0 where
  pub alls : List Source
  pub listed : AreListed (parts_of rs) look (tables_in rs) query.sources alls
  pub same : answer_of query ls ≡ answer_of query alls

pub answers_whole : (rs : List Stored) (look : Look) (query : Query) (columns : List Column) (ls : List Source) → keep_rules (parts_of rs) ≡ true → columns ≡ columns_in (tables_in rs) query.sources
    → AreListedFor (parts_of rs) look (tables_in rs) (is_kept query columns) 0 query.sources ls → AnswersWhole rs look query ls
answers_whole rs look query columns ls rules own are =
    let whole = have_whole rs look (is_kept query columns) 0 query.sources ls rules are in
    let theirs : columns ≡ columns_of ls = own ∙ columns_listed_for rs look (is_kept query columns) query.sources ls rules are in
    record {
      alls = whole.alls;
      listed = whole.listed;
      same = answer_narrowed query ls whole.alls (subst (λ (cs : List Column). AreNarrowed (is_kept query cs) 0 ls whole.alls) theirs whole.narrowed)
          (rows_listed_for rs look (is_kept query columns) 0 query.sources ls rules are) (rows_listed rs look query.sources whole.alls rules whole.listed);
    }

-- so what is answered over it is an answer over all rows
pub answer_listed : (r : Result AnswerNode Memory) (rs : List Stored) (look : Look) (query : Query) (columns : List Column) (ls : List Source) → keep_rules (parts_of rs) ≡ true → columns ≡ columns_in (tables_in rs) query.sources
    → AreListedFor (parts_of rs) look (tables_in rs) (is_kept query columns) 0 query.sources ls → IfOk r (λ a. answer_view a ≡ answer_rows (answer_of query ls))
    → IfOk r (λ a. IsAnswered (parts_of rs) look (tables_in rs) query (answer_view a))
answer_listed (Ok a) rs look query columns ls rules own are is =
    let whole = answers_whole rs look query columns ls rules own are in
    record { listings = whole.alls; listed = whole.listed; is = is ∙ ap answer_rows whole.same }
answer_listed (Err memory) rs look query columns ls rules own are is = tt

-- ---- what is read

module _ (p : Parts) (look : Look) (t : Table) where
  -- what a version shows is shown, where it is read
  pub version_seen : (key : Option (List Value)) (version : ℕ) (period : Span) (r : Result (List Row) Memory) → Version version ≡ look.reading t → period ≡ look.period t → IfOk r (λ rows. AreHeld p version t period key rows)
      → IfOk r (λ rows. AreShown p look Rows t key rows)
  version_seen None version period r at within held =
      subst (λ (x : Reading). IfOk r (λ (rows : List Row). IsRead p look.home x t (look.period t) rows)) at (subst (λ (s : Span). IfOk r (λ (rows : List Row). IsShowing p version t.number t.valid s rows)) within held)
  version_seen (Some key) version period r at within held =
      subst (λ (x : Reading). IfOk r (λ (rows : List Row). IsKeyRead p x t (look.period t) key rows)) at (subst (λ (s : Span). IfOk r (λ (rows : List Row). IsKeyShowing p version t.number t.valid s key rows)) within held)

  -- and so is what stood on a date, which is listed whole
  pub day_seen : (key : Option (List Value)) (date : ℕ) (period : Span) (r : Result (List Row) Memory) → Day date ≡ look.reading t → period ≡ look.period t → may_narrow Rows (look.reading t) key ≡ true
      → IfOk r (λ rows. IsDatedShowing p look.home date t period rows) → IfOk r (λ rows. AreShown p look Rows t key rows)
  day_seen None date period r at within whole stood =
      subst (λ (x : Reading). IfOk r (λ (rows : List Row). IsRead p look.home x t (look.period t) rows)) at (subst (λ (s : Span). IfOk r (λ (rows : List Row). IsDatedShowing p look.home date t s rows)) within stood)
  day_seen (Some key) date period r at within whole stood = absurd (true≢false (sym whole ∙ ap (λ (x : Reading). may_narrow Rows x (Some key)) (sym at)))

-- ---- a view is listed whole

module _ (p : Parts) (look : Look) (t : Table) (key : Option (List Value)) (r : Result (List Row) Memory) where
  pub whole_conflicts : may_narrow Conflicts (look.reading t) key ≡ true → IfOk r (λ rows. AreConflicts p look.family t rows) → IfOk r (λ rows. AreShown p look Conflicts t key rows)
  whole_conflicts = by_key key
    where
      by_key : (o : Option (List Value)) → is_none o ≡ true → IfOk r (λ rows. AreConflicts p look.family t rows) → IfOk r (λ rows. AreShown p look Conflicts t o rows)
      by_key None whole are = are
      by_key (Some k) whole are = absurd (cc)

  pub whole_differences : may_narrow Differences (look.reading t) key ≡ true → IfOk r (λ rows. AreDifferent p look.difference t rows) → IfOk r (λ rows. AreShown p look Differences t key rows)
  whole_differences = by_key key
    where
      by_key : (o : Option (List Value)) → is_none o ≡ true → IfOk r (λ rows. AreDifferent p look.difference t rows) → IfOk r (λ rows. AreShown p look Differences t o rows)
      by_key None whole are = are
      by_key (Some k) whole are = absurd (cc)

  pub whole_history : may_narrow History (look.reading t) key ≡ true → IfOk r (λ rows. IsHistoryView p look.home t rows) → IfOk r (λ rows. AreShown p look History t key rows)
  whole_history = by_key key
    where
      by_key : (o : Option (List Value)) → is_none o ≡ true → IfOk r (λ rows. IsHistoryView p look.home t rows) → IfOk r (λ rows. AreShown p look History t o rows)
      by_key None whole are = are
      by_key (Some k) whole are = absurd (cc)

  pub whole_locks : may_narrow Locks (look.reading t) key ≡ true → IfOk r (λ rows. rows ≡ lock_view (recorded_name p) t p.locks) → IfOk r (λ rows. AreShown p look Locks t key rows)
  whole_locks = by_key key
    where
      by_key : (o : Option (List Value)) → is_none o ≡ true → IfOk r (λ rows. rows ≡ lock_view (recorded_name p) t p.locks) → IfOk r (λ rows. AreShown p look Locks t o rows)
      by_key None whole are = are
      by_key (Some k) whole are = absurd (cc)

-- the rows of a table may be listed by any key, where a version is read
pub rows_narrow : (view : View) (reading : Reading) (version : ℕ) (r : Result (Option (List Value)) Memory) → Rows ≡ view → Version version ≡ reading → IfOk r (λ key. may_narrow view reading key ≡ true)
rows_narrow view reading version (Ok key) is at = subst (λ (v : View). may_narrow v reading key ≡ true) is (subst (λ (x : Reading). may_narrow Rows x key ≡ true) at refl)
rows_narrow view reading version (Err memory) is at = tt

-- ---- one source after another

-- the columns of the first source stand before those of the others
pub next_room : (tables : List Table) (x : SrcNode) (xs : List SrcNode) (t : Table) (before total : ℕ) → total ≡ before + length (columns_in tables (srcs_view (x ∷ xs))) → Some t ≡ table_asked tables (src_view x)
    → total ≡ before + length (columns_of_view (view_named x.table) (source_name (src_view x)) t) + length (columns_in tables (srcs_view xs))
next_room tables x xs t before total room named =
    let own : length (columns_in tables (srcs_view (x ∷ xs))) ≡ length (columns_of_view (view_named x.table) (source_name (src_view x)) t) + length (columns_in tables (srcs_view xs)) =
    ap (λ (o : Option Table). length (option_map_or (columns_of_view (view_named x.table) (source_name (src_view x))) o [] ++ columns_in tables (srcs_view xs))) (sym named)
    ∙ length-append (columns_of_view (view_named x.table) (source_name (src_view x)) t) (columns_in tables (srcs_view xs)) in
    omega (arith, room, own)

-- none of the sources from a place on is lost, their columns stand behind so many others, and what is listed of them goes behind what is listed of
-- those before
pub record GoesFor (p : Parts) (look : Look) (tables : List Table) (keeps : Row → Bool) (total : ℕ) (sources : List SrcNode) (i before : ℕ) (items : List Source) : Type 0 where
  pub there : lost_source tables (srcs_view (drop i sources)) ≡ None
  pub room : total ≡ before + length (columns_in tables (srcs_view (drop i sources)))
  pub listed : (more : List Source) → AreListedFor p look tables keeps before (srcs_view (drop i sources)) more → AreListedFor p look tables keeps 0 (srcs_view sources) (items ++ more)

-- all are listed once the last of them is
pub listed_all_for : (p : Parts) (look : Look) (tables : List Table) (keeps : Row → Bool) (total : ℕ) (sources : List SrcNode) (i before : ℕ) (items ls : List Source) → length sources ≤ i → ls ≡ items
    → GoesFor p look tables keeps total sources i before items → AreListedFor p look tables keeps 0 (srcs_view sources) ls
listed_all_for p look tables keeps total sources i before items ls end are goes =
    subst (AreListedFor p look tables keeps 0 (srcs_view sources)) (append-nil items ∙ sym are)
    (goes.listed [] (subst (λ ss. AreListedFor p look tables keeps before (srcs_view ss) []) (sym (drop_all i sources end)) refl))

-- the room that the next one has
pub room_for : (p : Parts) (look : Look) (tables : List Table) (keeps : Row → Bool) (total : ℕ) (sources : List SrcNode) (i before : ℕ) (x : SrcNode) (t : Table) (items : List Source)
    → i < length sources → x ≡ get_or sources i x → GoesFor p look tables keeps total sources i before items → Some t ≡ table_asked tables (src_view x)
    → total ≡ before + length (columns_of_view (view_named x.table) (source_name (src_view x)) t) + length (columns_in tables (srcs_view (drop (i + 1) sources)))
room_for p look tables keeps total sources i before x t items within at goes named =
    next_room tables x (drop (i + 1) sources) t before total (goes.room ∙ ap (λ ss. before + length (columns_in tables (srcs_view ss))) (from_place sources i x within at)) named

pub room_behind : (p : Parts) (look : Look) (tables : List Table) (keeps : Row → Bool) (total : ℕ) (sources : List SrcNode) (i before : ℕ) (x : SrcNode) (t : Table) (items : List Source)
    → i < length sources → x ≡ get_or sources i x → GoesFor p look tables keeps total sources i before items → Some t ≡ table_asked tables (src_view x) → before + length (columns_of_view (view_named x.table) (source_name (src_view x)) t) ≤ total
room_behind p look tables keeps total sources i before x t items within at goes named =
    let room = room_for p look tables keeps total sources i before x t items within at goes named in
    omega (arith, room)

-- the table of the next one is in order
pub next_well : (rs : List Stored) (x : SrcNode) (t : Table) → keep_rules (parts_of rs) ≡ true → Some t ≡ table_asked (tables_in rs) (src_view x) → is_table t ≡ true
next_well rs x t rules named = (named_is rs (table_sought x.table) t rules (sym named)).well

-- the next one is listed
pub lists_more_for : (p : Parts) (look : Look) (tables : List Table) (keeps : Row → Bool) (total : ℕ) (sources : List SrcNode) (i before after : ℕ) (x : SrcNode) (l : Source) (items new : List Source)
    → i < length sources → x ≡ get_or sources i x → GoesFor p look tables keeps total sources i before items → IsListedFor p look tables keeps before (src_view x) l
    → after ≡ before + length l.columns → new ≡ items ++ l ∷ [] → GoesFor p look tables keeps total sources (i + 1) after new
lists_more_for p look tables keeps total sources i before after x l items new within at goes is behind pushed = record {
  there = (none_lost tables x (drop (i + 1) sources) (sym (ap (λ ss. lost_source tables (srcs_view ss)) (from_place sources i x within at)) ∙ goes.there)).1;
  room =
      room_for p look tables keeps total sources i before x is.table items within at goes (sym is.named)
      ∙ ap (λ n. n + length (columns_in tables (srcs_view (drop (i + 1) sources)))) (ap (λ (cs : List Column). before + length cs) (sym is.columns) ∙ sym behind);
  listed = λ more are.
      subst (AreListedFor p look tables keeps 0 (srcs_view sources)) (sym (append_assoc items (l ∷ []) more) ∙ ap (λ ls. ls ++ more) (sym pushed))
      (goes.listed (l ∷ more) (subst (λ ss. AreListedFor p look tables keeps before (srcs_view ss) (l ∷ more)) (sym (from_place sources i x within at))
      (is, subst (λ n. AreListedFor p look tables keeps n (srcs_view (drop (i + 1) sources)) more) behind are)));
}
