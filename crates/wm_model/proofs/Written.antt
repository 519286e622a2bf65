-- What a line that changes rows does to each state that the records stand for.
use Rattle.std.proofs.Common.{◌≡◌, ℕ, suc, ◌+◌, ◌&&◌, nat_lt, nat_le, cond, true, false, List, [], ◌∷◌, append-nil, length, map, Option, Some, None, option_map, refl, sym, ap, ◌∙◌, arith}
use Rattle.std.proofs.lemmas.Bool.{and_from, and_parts, eq-eqb}
use Rattle.std.specs.List.{list_all}
use Rattle.std.specs.Option.{option_map_or}
use Rattle.wm_base.specs.declared.refusal.Refusal.{Refusal}
use Rattle.wm_base.specs.declared.row.Row.{Row}
use Rattle.wm_base.specs.declared.value.Value.{Value}
use Rattle.wm_dml.specs.Standing.{change_keys, change_lasts, is_change}
use Rattle.wm_dml.specs.declared.change.RowChange.{RowChange}
use Rattle.wm_graph.specs.Parts.{Parts, parts_of, table_of}
use Rattle.wm_graph.specs.Rules.{are_cells, is_key, is_key_of, is_row_of, is_short, keep_rules, key_of}
use Rattle.wm_outline.specs.Outline.{Outline, outline_of}
use Rattle.wm_outline.proofs.Outlines.{outline_is}
use Rattle.wm_print.specs.Texts.{Answer, Done, Refused}
use Rattle.wm_spec.specs.Lists.{Entry}
use Rattle.wm_spec.specs.declared.record.batch.Change.{Change}
use Rattle.wm_spec.specs.declared.record.cell_range.CellRange.{CellRange}
use Rattle.wm_spec.specs.declared.record.counters.Counters.{Counters}
use Rattle.wm_spec.specs.declared.record.lock.Lock.{Lock}
use Rattle.wm_spec.specs.declared.record.lock.LockMode.{LockMode}
use Rattle.wm_spec.specs.declared.record.space.Space.{Space}
use Rattle.wm_spec.specs.declared.record.stored.Stored.{Stored}
use Rattle.wm_spec.specs.declared.record.table.Table.{Table}
use Rattle.wm_state.specs.ById.{applied}
use Rattle.wm_state.specs.Drafts.{CanAppend, CanDraft, CanLock, CanWork, DraftsBy, can_keep, can_keep_entry, cells_locked}
use Rattle.wm_state.specs.Drawing.{are_sorted}
use Rattle.wm_state.specs.Editing.{all_edited, drafted, drafted_by, entry_of, locked_in, locks_in}
use Rattle.wm_state.specs.Entries.{AreStamped, entry_keys, is_well, fits_table}
use Rattle.wm_state.specs.Standing.{FieldsStand}
use Rattle.wm_state.specs.State.{Durable, State, Session, with_entries, workspace_of}
use Rattle.wm_state.specs.declared.edit.Edit.TheVariants as edits
use Rattle.wm_state.specs.declared.edit.NewEntry.{NewEntry}
use Rattle.wm_state.specs.declared.edit.NewLock.{NewLock}
use Rattle.wm_state.proofs.Changing.{workspace_of-changed}
use Rattle.wm_state.proofs.FieldsThere.{fields_there}
use Rattle.wm_state.proofs.Keeping.{KeepTables, are_cells-kept}
use Rattle.wm_state.proofs.Ready.{tables_found}
use Rattle.wm_state.proofs.Spaces.{RecordIs, SpaceIs, record_there, space_there}
use Rattle.wm_state.proofs.Tests.{all_if}
use Rattle.wm_model.specs.Changes.{MayWrite, write_edits, write_some, written_with}
use Rattle.wm_model.specs.Entered.{change_entry, entries_from, entries_of}
use Rattle.wm_model.specs.Planning.{StandsAt, Does, Stay}
use Rattle.wm_model.specs.Step.{Holder, cells_of, claim_of, counter_limit, line_work, lock_edits, lock_fault, lock_parts, locked_by, parts_locked, unless, written_all}
use Rattle.wm_model.proofs.Doing.{counts_as, does_nothing, not_spent_at_by}
use Rattle.wm_model.proofs.Parting.{parts_fit, parts_kept}

-- ---- entries of changes

pub length_entries : (stamp moment : ℕ) (user : List ℕ) (t : Table) (changes : List RowChange) → length (entries_from stamp moment user t changes) ≡ length changes
length_entries stamp moment user t [] = refl
length_entries stamp moment user t (x ∷ xs) = rw (length_entries (stamp + 1) moment user t xs) refl

pub keys_are : (stamp moment : ℕ) (user : List ℕ) (t : Table) (changes : List RowChange) → entry_keys (entries_from stamp moment user t changes) ≡ change_keys changes
keys_are stamp moment user t [] = refl
keys_are stamp moment user t (x ∷ xs) = ap (λ keys. x.key ∷ keys) (keys_are (stamp + 1) moment user t xs)

pub stamped_are : (stamp moment : ℕ) (user : List ℕ) (t : Table) (changes : List RowChange) → list_all change_lasts changes ≡ true → AreStamped t.number stamp (entries_from stamp moment user t changes)
stamped_are stamp moment user t [] last = tt
stamped_are stamp moment user t (x ∷ xs) last =
    let h = and_parts (change_lasts x) (list_all change_lasts xs) last in (record { table = refl; period = h.0; stamp = refl }, stamped_are (stamp + 1) moment user t xs h.1)

pub well_are : (rs : List Stored) (stamp moment : ℕ) (user : List ℕ) (t : Table) (changes : List RowChange) → table_of (parts_of rs).tables t.number ≡ Some t → list_all (is_change t) changes ≡ true
    → list_all (is_well (table_of (parts_of rs).tables)) (entries_from stamp moment user t changes) ≡ true
well_are rs stamp moment user t [] there fit = refl
well_are rs stamp moment user t (x ∷ xs) there fit =
    let h = and_parts (is_change t x) (list_all (is_change t) xs) fit in
    and_from (is_well (table_of (parts_of rs).tables) (change_entry stamp moment user t x)) _
    (ap (λ o. option_map_or (fits_table x.key (change_entry stamp moment user t x).row) o false) there ∙ by_row x.row refl ∙ h.0)
    (well_are rs (stamp + 1) moment user t xs there h.1)
  where
    by_row : (o : Option (List Value)) → x.row ≡ o → fits_table x.key (change_entry stamp moment user t x).row t ≡ is_change t x
    by_row None is = rw is refl
    by_row (Some row) is = rw is refl

pub users_are : (stamp moment : ℕ) (user : List ℕ) (t : Table) (changes : List RowChange) → is_short user ≡ true → list_all (λ (e : Entry). is_short e.user) (entries_from stamp moment user t changes) ≡ true
users_are stamp moment user t [] short = refl
users_are stamp moment user t (x ∷ xs) short = and_from (is_short user) _ short (users_are (stamp + 1) moment user t xs short)

-- ---- their cells

-- they are cells of the table
pub cells_fit : (tables : List Table) (stamp moment : ℕ) (user : List ℕ) (t : Table) (changes : List RowChange) → table_of tables t.number ≡ Some t → list_all (is_change t) changes ≡ true → list_all change_lasts changes ≡ true
    → list_all (are_cells (table_of tables)) (map cells_of (entries_from stamp moment user t changes)) ≡ true
cells_fit tables stamp moment user t [] there fit last = refl
cells_fit tables stamp moment user t (x ∷ xs) there fit last =
    let f = and_parts (is_change t x) (list_all (is_change t) xs) fit in
    let h = and_parts (change_lasts x) (list_all change_lasts xs) last in
    and_from (are_cells (table_of tables) (cells_of (change_entry stamp moment user t x))) _
    (and_from (change_lasts x) (option_map_or (is_key_of x.key) (table_of tables t.number) false) h.0
    (ap (λ o. option_map_or (is_key_of x.key) o false) there ∙ (and_parts (is_key_of x.key t) (option_map_or (λ row. is_row_of row t && is_key x.key (key_of t row)) x.row true) f.0).0))
    (cells_fit tables (stamp + 1) moment user t xs there f.1 h.1)

-- whose keys can be kept
pub cells_kept : (es : List Entry) → list_all can_keep_entry es ≡ true → list_all (λ (c : CellRange). list_all can_keep c.key) (map cells_of es) ≡ true
cells_kept [] kept = refl
cells_kept (e ∷ es) kept =
    let h = and_parts (can_keep_entry e) (list_all can_keep_entry es) kept in
    and_from (list_all can_keep e.key) _ (and_parts (list_all can_keep e.key) (option_map_or (λ (row : Row). list_all can_keep row.values) e.row true) h.0).0 (cells_kept es h.1)

-- ---- what is asked of the edits

-- what is asked of an edit that writes them
can_append : (rs : List Stored) (n m locks : ℕ) (user : List ℕ) (t : Table) (a : Space) (c : Counters) (changes : List RowChange) → MayWrite rs n m user t a c locks changes
    → CanAppend (parts_of rs) n (entries_from c.next_stamp m user t changes)
can_append rs n m locks user t a c changes may = record {
  space = a;
  there = may.space;
  counters = c;
  one = may.one;
  table = t;
  tabled = may.there;
  on = may.on;
  some = ap (nat_lt 0) many ∙ may.some;
  stamped = stamped_are c.next_stamp m user t changes may.last;
  well = well_are rs c.next_stamp m user t changes may.there may.fit;
  users = users_are c.next_stamp m user t changes may.user_short;
  kept = may.kept;
  sorted = ap are_sorted (keys_are c.next_stamp m user t changes) ∙ may.keys;
  left = ap (λ k. nat_le (c.next_stamp + k) (c.limit + 1)) many ∙ may.left;
  short = ap (λ k. nat_lt counter_limit (a.log_length + k)) many ∙ may.short;
}
  where
    many : length (entries_from c.next_stamp m user t changes) ≡ length changes
    many = length_entries c.next_stamp m user t changes

-- and of one that locks cells behind it, whatever records that leaves
pub can_lock_next : (rs : List Stored) (m work n : ℕ) (user : List ℕ) (ys : List NewLock) (entries : List NewEntry) (cs : List Change) → keep_rules (parts_of rs) ≡ true → CanLock (parts_of rs) n user ys
    → DraftsBy work rs m (edits.Append n entries ∷ []) cs → CanLock (parts_of (applied cs rs)) n user ys
can_lock_next rs m work n user ys entries cs rules can drafts = by_state (fields_there (parts_of rs) rules)
  where
    q : Parts
    q = parts_of (applied cs rs)

    by_state : ((s : Durable) × FieldsStand (parts_of rs) s) → CanLock q n user ys
    by_state (s, st) = by_space (space_there (parts_of rs) s n can.space st.spaces can.there)
      where
        after : FieldsStand q (drafted_by work m (edits.Append n entries ∷ []) s)
        after = drafts.fields s st

        tables : KeepTables (parts_of rs) q
        tables k t found = record {
          new = t;
          is = sym (tables_found q (drafted_by work m (edits.Append n entries ∷ []) s) after.tables k) ∙ tables_found (parts_of rs) s st.tables k ∙ found;
          columns = refl;
          key_columns = refl;
        }

        by_space : SpaceIs (parts_of rs) s n can.space → CanLock q n user ys
        by_space h = record {
          space = v.recorded;
          there = v.is.recorded;
          some = can.some;
          short = can.short;
          cells = all_if (λ (x : NewLock). are_cells (table_of (parts_of rs).tables) (cells_locked x)) (λ (x : NewLock). are_cells (table_of q.tables) (cells_locked x))
              (λ x fit. are_cells-kept (parts_of rs) q tables (cells_locked x) fit) ys can.cells;
          kept = can.kept;
        }
          where
            es : List Entry
            es = map entry_of entries

            v : RecordIs q (drafted_by work m (edits.Append n entries ∷ []) s) n (with_entries es h.workspace)
            v = record_there q (drafted_by work m (edits.Append n entries ∷ []) s) n (with_entries es h.workspace) after.spaces
                (workspace_of-changed n (with_entries es) (λ w. refl) s.spaces n
                ∙ ap (λ b. cond b (option_map (with_entries es) (workspace_of s.spaces n)) (workspace_of s.spaces n)) (eq-eqb n n refl)
                ∙ ap (option_map (with_entries es)) h.is.found)

-- ---- the edits

-- as many locks are made as there are parts, none where the session does not lock
write_locks : (n : ℕ) (session : Session) (entries : List NewEntry) (parts : List NewLock) (o : Option LockMode) → (o ≡ None → parts ≡ [])
    → locks_in (edits.Append n entries ∷ option_map_or (λ mode. lock_edits n mode session.user parts) o []) ≡ length parts
write_locks n session entries parts None unlocked = ap length (sym (unlocked refl))
write_locks n session entries [] (Some mode) unlocked = refl
write_locks n session entries (x ∷ xs) (Some mode) unlocked = same (length (x ∷ xs))
  where
    same : (k : ℕ) → 0 + (k + 0) ≡ k
    same k = omega arith

-- what they make of a state
write_edited : (m n : ℕ) (session : Session) (entries : List NewEntry) (parts : List NewLock) (d : Durable) → all_edited m (write_edits n session entries parts) d ≡ locked_by session n parts (written_all n (map entry_of entries) d)
write_edited m n session entries parts d = by_locking session.locking parts
  where
    e : Durable
    e = written_all n (map entry_of entries) d

    by_locking : (o : Option LockMode) (xs : List NewLock) → all_edited m (edits.Append n entries ∷ option_map_or (λ mode. lock_edits n mode session.user xs) o []) d ≡ option_map_or (λ mode. locked_in n mode session.user xs e) o e
    by_locking None xs = refl
    by_locking (Some mode) [] = ap (λ (ls : List Lock). record e { locks = ls }) (sym (append-nil e.locks))
    by_locking (Some mode) (x ∷ xs) = refl

-- a line may make them
can_write : (rs : List Stored) (m n : ℕ) (session : Session) (t : Table) (a : Space) (c : Counters) (changes : List RowChange) (entries : List NewEntry) (parts : List NewLock) → keep_rules (parts_of rs) ≡ true
    → MayWrite rs n m session.user t a c (length parts) changes → map entry_of entries ≡ entries_from c.next_stamp m session.user t changes
    → list_all (λ (x : NewLock). are_cells (table_of (parts_of rs).tables) (cells_locked x)) parts ≡ true → list_all (λ (x : NewLock). list_all can_keep x.key) parts ≡ true
    → (session.locking ≡ None → parts ≡ []) → CanDraft rs m (write_edits n session entries parts)
can_write rs m n session t a c changes entries parts rules may are fit kept unlocked = by_locking session.locking parts (write_locks n session entries parts session.locking unlocked) fit kept
  where
    appends : CanAppend (parts_of rs) n (map entry_of entries)
    appends = rw are (can_append rs n m (length parts) session.user t a c changes may)

    works : (work : ℕ) → work ≡ length parts → CanWork (parts_of rs) m (work + line_work)
    works work is = record {
      counters = c;
      one = may.one;
      some = positive work;
      room = ap (λ k. nat_lt counter_limit (c.work + (k + line_work))) is ∙ may.room;
      early = may.early;
    }
      where
        positive : (k : ℕ) → nat_lt 0 (k + line_work) ≡ true
        positive k = grind arith

    by_locking : (o : Option LockMode) (xs : List NewLock) → locks_in (edits.Append n entries ∷ option_map_or (λ mode. lock_edits n mode session.user xs) o []) ≡ length parts
        → list_all (λ (x : NewLock). are_cells (table_of (parts_of rs).tables) (cells_locked x)) xs ≡ true → list_all (λ (x : NewLock). list_all can_keep x.key) xs ≡ true
        → CanDraft rs m (edits.Append n entries ∷ option_map_or (λ mode. lock_edits n mode session.user xs) o [])
    by_locking None xs many cells keys = (works (locks_in (edits.Append n entries ∷ [])) many, omega arith, (appends, λ work cs drafts. tt))
    by_locking (Some mode) [] many cells keys = (works (locks_in (edits.Append n entries ∷ [])) many, omega arith, (appends, λ work cs drafts. tt))
    by_locking (Some mode) (x ∷ xs) many cells keys = (
      works (locks_in (edits.Append n entries ∷ edits.Lock n mode session.user (x ∷ xs) ∷ [])) many,
      omega arith,
      (appends, λ work cs drafts. (can_lock_next rs m work n session.user (x ∷ xs) entries cs rules locks drafts, λ more ds next. tt)),
    )
      where
        first : (k : ℕ) → nat_lt 0 (suc k) ≡ true
        first k = grind arith

        locks : CanLock (parts_of rs) n session.user (x ∷ xs)
        locks = record { space = a; there = may.space; some = first (length xs); short = may.user_short; cells = cells; kept = keys }

-- ---- in each state

-- the entries of the state are those of the records
pub entries_told : (rs : List Stored) (xs : List Session) (m : ℕ) (t : Table) (changes : List RowChange) (session : Session) (c : Counters) → (parts_of rs).counters ≡ c ∷ [] → (s : State) → StandsAt rs xs m s
    → entries_of s session.user t changes ≡ entries_from c.next_stamp m session.user t changes
entries_told rs xs m t changes session c one s st =
    ap (λ k. entries_from k s.moment session.user t changes) (sym (counts_as rs xs m s c st one).next_stamp) ∙ ap (λ k. entries_from c.next_stamp k session.user t changes) (sym st.moment_is)

module _ (rs : List Stored) (xs : List Session) (m n : ℕ) (session : Session) (t : Table) (count log : ℕ) (changes : List RowChange) (c : Counters) (one : (parts_of rs).counters ≡ c ∷ []) where
  -- what is told of the state is told of the records
  some_told : (s : State) → StandsAt rs xs m s
      → write_some session t count changes n log s
      ≡ unless (lock_fault (outline_of (parts_of rs) xs m) (claim_of session n) (map cells_of (entries_from c.next_stamp m session.user t changes))) s
      (written_with session n (log + length changes) count (entries_from c.next_stamp m session.user t changes)
      (parts_locked (outline_of (parts_of rs) xs m) session n (map cells_of (entries_from c.next_stamp m session.user t changes))) s)
  some_told s st =
      ap (λ (o : Outline). told o (entries_of s session.user t changes)) (sym (outline_is (parts_of rs) xs m s st.stands st.sessions_are st.moment_is))
      ∙ ap (told (outline_of (parts_of rs) xs m)) (entries_told rs xs m t changes session c one s st)
    where
      told : Outline → List Entry → State × Answer
      told o es = unless (lock_fault o (claim_of session n) (map cells_of es)) s (written_with session n (log + length changes) count es (parts_locked o session n (map cells_of es)) s)

  -- a lock bars them
  pub some_barred : (refusal : Refusal) (s : State) → lock_fault (outline_of (parts_of rs) xs m) (claim_of session n) (map cells_of (entries_from c.next_stamp m session.user t changes)) ≡ Some refusal → StandsAt rs xs m s
      → write_some session t count changes n log s ≡ (s, Refused refusal)
  some_barred refusal s bars st =
      some_told s st
      ∙ ap (λ (f : Option Refusal). unless f s (written_with session n (log + length changes) count (entries_from c.next_stamp m session.user t changes)
      (parts_locked (outline_of (parts_of rs) xs m) session n (map cells_of (entries_from c.next_stamp m session.user t changes))) s)) bars

  -- none does
  pub some_written : (s : State) → lock_fault (outline_of (parts_of rs) xs m) (claim_of session n) (map cells_of (entries_from c.next_stamp m session.user t changes)) ≡ None → StandsAt rs xs m s
      → write_some session t count changes n log s
      ≡ written_with session n (log + length changes) count (entries_from c.next_stamp m session.user t changes)
      (parts_locked (outline_of (parts_of rs) xs m) session n (map cells_of (entries_from c.next_stamp m session.user t changes))) s
  some_written s unbarred st =
      some_told s st
      ∙ ap (λ (f : Option Refusal). unless f s (written_with session n (log + length changes) count (entries_from c.next_stamp m session.user t changes)
      (parts_locked (outline_of (parts_of rs) xs m) session n (map cells_of (entries_from c.next_stamp m session.user t changes))) s)) unbarred

-- ---- what they do

-- what is locked of cells are cells, whose keys can be kept
parts_well : (tables : List Table) (o : Outline) (session : Session) (n : ℕ) (cells : List CellRange) → list_all (are_cells (table_of tables)) cells ≡ true → list_all (λ (c : CellRange). list_all can_keep c.key) cells ≡ true
    → (list_all (λ (x : NewLock). are_cells (table_of tables) (cells_locked x)) (parts_locked o session n cells) ≡ true) × (list_all (λ (x : NewLock). list_all can_keep x.key) (parts_locked o session n cells) ≡ true)
parts_well tables o session n cells fit kept = by_locking session.locking
  where
    by_locking : (l : Option LockMode)
        → (list_all (λ (x : NewLock). are_cells (table_of tables) (cells_locked x)) (option_map_or (λ mode. lock_parts o (record { space = n; mode = mode; user = session.user }) cells) l []) ≡ true)
        × (list_all (λ (x : NewLock). list_all can_keep x.key) (option_map_or (λ mode. lock_parts o (record { space = n; mode = mode; user = session.user }) cells) l []) ≡ true)
    by_locking None = (refl, refl)
    by_locking (Some mode) = let h : Holder = record { space = n; mode = mode; user = session.user } in (parts_fit tables o h cells fit, parts_kept o h cells kept)

pub does_write : (rs : List Stored) (xs : List Session) (m n : ℕ) (session : Session) (t : Table) (count : ℕ) (changes : List RowChange) (a : Space) (c : Counters) (entries : List NewEntry) (parts : List NewLock) (act : State → State × Answer)
    → keep_rules (parts_of rs) ≡ true → MayWrite rs n m session.user t a c (length parts) changes → map entry_of entries ≡ entries_from c.next_stamp m session.user t changes
    → parts ≡ parts_locked (outline_of (parts_of rs) xs m) session n (map cells_of (entries_from c.next_stamp m session.user t changes))
    → lock_fault (outline_of (parts_of rs) xs m) (claim_of session n) (map cells_of (entries_from c.next_stamp m session.user t changes)) ≡ None
    → ((s : State) → StandsAt rs xs m s → act s ≡ write_some session t count changes n a.log_length s) → Does rs xs m (write_edits n session entries parts) Stay (Done count) act
does_write rs xs m n session t count changes a c entries parts act rules may are parted unbarred same = record {
  can = can_write rs m n session t a c changes entries parts rules may are (ap (list_all (λ (x : NewLock). are_cells (table_of (parts_of rs).tables) (cells_locked x))) parted ∙ well.0)
      (ap (list_all (λ (x : NewLock). list_all can_keep x.key)) parted ∙ well.1) unlocked;
  seats = tt;
  does = λ s st.
      same s st ∙ some_written rs xs m n session t count a.log_length changes c may.one s unbarred st
      ∙ ap (λ (ys : List NewLock). written_with session n (a.log_length + length changes) count es ys s) (sym parted)
      ∙ not_spent_at_by (length parts + line_work) rs xs m s (a.log_length + length changes) c (record s { durable = locked_by session n parts (written_all n es s.durable) }, Done count) st may.one may.short may.room
      ∙ ap (λ (fs : List Entry). (record s { durable = record (locked_by session n parts (written_all n fs s.durable)) { last_moment = m; work = s.durable.work + (length parts + line_work) } }, Done count)) (sym are)
      ∙ ap (λ (d : Durable). (record s { durable = record d { last_moment = m; work = s.durable.work + (length parts + line_work) } }, Done count)) (sym (write_edited m n session entries parts s.durable))
      ∙ ap (λ k. (record s { durable = record (all_edited m (write_edits n session entries parts) s.durable) { last_moment = m; work = s.durable.work + (k + line_work) } }, Done count))
      (sym (write_locks n session entries parts session.locking unlocked))
      ∙ ap (λ k. (record s { durable = drafted m (write_edits n session entries parts) s.durable; moment = k }, Done count)) (sym st.moment_is);
}
  where
    es : List Entry
    es = entries_from c.next_stamp m session.user t changes

    o : Outline
    o = outline_of (parts_of rs) xs m

    well : (list_all (λ (x : NewLock). are_cells (table_of (parts_of rs).tables) (cells_locked x)) (parts_locked o session n (map cells_of es)) ≡ true) × (list_all (λ (x : NewLock). list_all can_keep x.key) (parts_locked o session n (map cells_of es)) ≡ true)
    well = parts_well (parts_of rs).tables o session n (map cells_of es) (cells_fit (parts_of rs).tables c.next_stamp m session.user t changes may.there may.fit may.last) (cells_kept es may.kept)

    unlocked : session.locking ≡ None → parts ≡ []
    unlocked off = parted ∙ ap (λ (l : Option LockMode). option_map_or (λ mode. lock_parts o (record { space = n; mode = mode; user = session.user }) (map cells_of es)) l []) off

-- a lock bars them
pub does_barred : (rs : List Stored) (xs : List Session) (m n : ℕ) (session : Session) (t : Table) (count log : ℕ) (changes : List RowChange) (c : Counters) (refusal : Refusal) (act : State → State × Answer) → (parts_of rs).counters ≡ c ∷ []
    → lock_fault (outline_of (parts_of rs) xs m) (claim_of session n) (map cells_of (entries_from c.next_stamp m session.user t changes)) ≡ Some refusal
    → ((s : State) → StandsAt rs xs m s → act s ≡ write_some session t count changes n log s) → Does rs xs m [] Stay (Refused refusal) act
does_barred rs xs m n session t count log changes c refusal act one bars same =
    does_nothing rs xs m (Refused refusal) act (λ s st. same s st ∙ some_barred rs xs m n session t count log changes c one refusal s bars st)
