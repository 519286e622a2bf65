-- What sessions have staged can be committed still once a line was run.
use Rattle.std.proofs.Common.{◌≡◌, ℕ, ◌≤◌, ◌==◌, nat_le, Bool, true, false, cond, if◌then◌else◌, List, [], ◌∷◌, ◌++◌, Option, Some, None, unwrap_or, refl, sym, ap, subst, ◌∙◌, arith}
use Rattle.std.proofs.lemmas.List.Elements.{All-append, All-filter, All-map, All-nil, All-push, All-weaker}
use Rattle.std.proofs.lemmas.Bool.{le-leb, true≢false}
use Rattle.std.specs.Option.{option_and_then, option_map, option_map_or}
use Rattle.std.specs.Str.{bytes_eq}
use Rattle.wm_base.specs.declared.row.Row.{Row}
use Rattle.wm_base.specs.declared.value.Value.{Value}
use Rattle.wm_decided.specs.Staged.{AreStaged, IsRestorable, IsStaged, IsStagedResolve, cells_of, copy_of}
use Rattle.wm_gained.proofs.RowsBehind.{rows_found_next}
use Rattle.wm_graph.specs.Parts.{Parts, parts_of, table_of}
use Rattle.wm_model.specs.Planning.{Seating, SeatsStaged, SetsStaged, Stay, Open, Close, Set, Thaw, seated, thawed}
use Rattle.wm_model.specs.Step.{Setting, with_decisions, with_setting}
use Rattle.wm_model.specs.Step.Sessions as settings
use Rattle.wm_net.specs.Listed.{Stretch}
use Rattle.wm_spec.specs.Lists.{Entry, Told}
use Rattle.wm_spec.specs.Records.{record_at}
use Rattle.wm_spec.specs.declared.record.counters.Counters.{Counters}
use Rattle.wm_spec.specs.declared.record.stored.Stored.{Stored}
use Rattle.wm_spec.specs.declared.record.table.Table.{Table}
use Rattle.wm_state.specs.Batches.{ready}
use Rattle.wm_state.specs.ById.{Ascend}
use Rattle.wm_state.specs.Editing.{all_edited, bear_in, born, drafted, edited, enable_named, implicit_name, keep_in, parent_of, rebased_in, restored_in, save_in, saved_at, stand_of}
use Rattle.wm_state.specs.Entries.{fits_table}
use Rattle.wm_state.specs.Standing.{Stands, is_ready}
use Rattle.wm_state.specs.State.{Decision, Durable, Readiness, Resolve, Savepoint, Session, enabled, savepoint_made, savepoints_of, table_named, workspace_of}
use Rattle.wm_state.specs.declared.edit.Edit.{Edit}
use Rattle.wm_state.specs.declared.edit.Edit.TheVariants as edits
use Rattle.wm_state.proofs.Counting.{counts_in}
use Rattle.wm_state.proofs.Frames.{KeepRows}
use Rattle.wm_state.proofs.Keeping.{KeepTables, are_cells-kept, asked, lt_le}
use Rattle.wm_state.proofs.Ready.{tables_found}
use Rattle.wm_state.proofs.Tests.{find_push}
use Rattle.wm_engine.specs.Keeping.{AreDrafted}

-- ---- what edits leave of a state

-- a table of this number is there, of the same columns and key, and ready for rows if that one was
record TableKept (now : List Table) (n : ℕ) (t : Table) : Type 0 where
  new : Table
  is : table_of now n ≡ Some new
  columns : new.columns ≡ t.columns
  key_columns : new.key_columns ≡ t.key_columns
  on : t.versioned ≡ true → new.versioned ≡ true

-- so is each table, and no stamp is given back
record Kept (s t : Durable) : Type 0 where
  stamps : s.next_stamp ≤ t.next_stamp
  tables : (n : ℕ) (u : Table) → table_of s.tables n ≡ Some u → TableKept t.tables n u

same_table : (now : List Table) (n : ℕ) (t : Table) → table_of now n ≡ Some t → TableKept now n t
same_table now n t found = record { new = t; is = found; columns = refl; key_columns = refl; on = λ on. on }

kept_itself : (s : Durable) → Kept s s
kept_itself s = record { stamps = omega arith; tables = same_table s.tables }

kept_then : (s t u : Durable) → Kept s t → Kept t u → Kept s u
kept_then s t u one two = record { stamps = omega (arith, one.stamps, two.stamps); tables = λ n x found. behind n x (one.tables n x found) }
  where
    behind : (n : ℕ) (x : Table) → TableKept t.tables n x → TableKept u.tables n x
    behind n x a =
        let b = two.tables n a.new a.is in
        record { new = b.new; is = b.is; columns = b.columns ∙ a.columns; key_columns = b.key_columns ∙ a.key_columns; on = λ on. b.on (a.on on) }

-- where what is looked for is there, and where it is not
kept_some : {A : Type 0} (s : Durable) (make : A → Durable) (o : Option A) → ((a : A) → Kept s (make a)) → Kept s (unwrap_or (option_map make o) s)
kept_some s make None each = kept_itself s
kept_some s make (Some a) each = each a

kept_where : {A : Type 0} (s : Durable) (make : A → Option Durable) (o : Option A) → ((a : A) → Kept s (unwrap_or (make a) s)) → Kept s (unwrap_or (option_and_then make o) s)
kept_where s make None each = kept_itself s
kept_where s make (Some a) each = each a

-- a table becomes ready
enabled_kept : (number : ℕ) (how : Readiness) (ts : List Table) (n : ℕ) (u : Table) → table_of ts n ≡ Some u → TableKept (enabled number how ts) n u
enabled_kept number how [] n u found = absurd (cc)
enabled_kept number how (t ∷ ts) n u found = by_test (t.number == number) (t.number == n) refl found (enabled_kept number how ts n u)
  where
    one_table : Some t ≡ Some u → t ≡ u
    one_table e = cc

    by_test : (b c : Bool) → (t.number == n) ≡ c → cond c (Some t) (table_of ts n) ≡ Some u → (table_of ts n ≡ Some u → TableKept (enabled number how ts) n u) → TableKept (cond b (ready how t ∷ ts) (t ∷ enabled number how ts)) n u
    by_test true true e h rest = record {
      new = ready how t;
      is = rw e refl;
      columns = ap (λ (x : Table). x.columns) (one_table h);
      key_columns = ap (λ (x : Table). x.key_columns) (one_table h);
      on = λ on. refl;
    }
    by_test true false e h rest = same_table (ready how t ∷ ts) n u (rw e h)
    by_test false true e h rest = same_table (t ∷ enabled number how ts) n u (rw e h)
    by_test false false e h rest = let r = rest h in record { new = r.new; is = rw e r.is; columns = r.columns; key_columns = r.key_columns; on = r.on }

edited_kept : (m : ℕ) (e : Edit) (s : Durable) → Kept s (edited m e s)
edited_kept m (edits.Create t) s = record { stamps = omega arith; tables = λ n u found. same_table (s.tables ++ t ∷ []) n u (find_push (λ (x : Table). x.number == n) s.tables t u found) }
edited_kept m (edits.Enable name valid history) s =
    kept_some s (enable_named (record { valid = valid; history = history }) s) (table_named name s.tables)
    (λ t. record { stamps = omega arith; tables = enabled_kept t.number (record { valid = valid; history = history }) s.tables })
edited_kept m (edits.Append n entries) s = record { stamps = omega arith; tables = same_table s.tables }
edited_kept m (edits.Save n name) s = kept_where s (save_in m name s) (workspace_of s.spaces n) (λ w. record { stamps = omega arith; tables = same_table s.tables })
edited_kept m (edits.Bear n at name) s = kept_where s (bear_in m (stand_of at) name s) (workspace_of s.spaces n) (λ w.
    kept_some s (λ (k : Savepoint). born m w (stand_of at) name k s) (saved_at m s.spaces w (stand_of at) (implicit_name w) true) (λ k. record { stamps = omega arith; tables = same_table s.tables }))
edited_kept m (edits.Restore n making) s = kept_some s (restored_in n s) (savepoint_made making (savepoints_of s.spaces n)) (λ k. record { stamps = omega arith; tables = same_table s.tables })
edited_kept m (edits.Remove n) s = record { stamps = omega arith; tables = same_table s.tables }
edited_kept m (edits.Keep n) s = kept_where s (keep_in m s) (workspace_of s.spaces n) (λ w. record { stamps = omega arith; tables = same_table s.tables })
edited_kept m (edits.Replay n entries) s = record { stamps = omega arith; tables = same_table s.tables }
edited_kept m (edits.Gain n entries) s = record { stamps = omega arith; tables = same_table s.tables }
edited_kept m (edits.Settle n marks) s = record { stamps = omega arith; tables = same_table s.tables }
edited_kept m (edits.Lock n mode user cells) s = record { stamps = omega arith; tables = same_table s.tables }
edited_kept m (edits.Unlock makings) s = record { stamps = omega arith; tables = same_table s.tables }
edited_kept m (edits.Freeze n mode writer) s = record { stamps = omega arith; tables = same_table s.tables }
edited_kept m (edits.Rebase n emptied) s = kept_some s (rebased_in n emptied s) (parent_of s.spaces n) (λ p. record { stamps = omega arith; tables = same_table s.tables })

all_kept : (m : ℕ) (es : List Edit) (s : Durable) → Kept s (all_edited m es s)
all_kept m [] s = kept_itself s
all_kept m (e ∷ es) s = kept_then s (edited m e s) (all_edited m es (edited m e s)) (edited_kept m e s) (all_kept m es (edited m e s))

drafted_kept : (m : ℕ) (es : List Edit) (s : Durable) → Kept s (drafted m es s)
drafted_kept m [] s = kept_itself s
drafted_kept m (e ∷ es) s = let k = all_kept m (e ∷ es) s in record { stamps = k.stamps; tables = k.tables }

-- ---- what changes leave of records

-- tables of the same columns and key, ready for rows if they were, and each row; no stamp is given back
record PartsKept (p q : Parts) : Type 0 where
  before : Counters
  one : p.counters ≡ before ∷ []
  stamps : (c : Counters) → q.counters ≡ c ∷ [] → nat_le before.next_stamp c.next_stamp ≡ true
  tables : KeepTables p q
  on : (n : ℕ) → is_ready p.tables n ≡ true → is_ready q.tables n ≡ true
  rows : KeepRows p q

parts_kept : (rs new : List Stored) (m : ℕ) (es : List Edit) (s : Durable) → Ascend rs → Stands (parts_of rs) s → AreDrafted rs m es new → PartsKept (parts_of rs) (parts_of new)
parts_kept rs new m es s sorted st made = record {
  before = st.counters.counters;
  one = st.counters.one;
  stamps = λ c one. le-leb _ _ (no_fewer c (counts_in (parts_of new) (drafted m es s) c stands.counters one).next_stamp);
  tables = λ n t found. let x = table n t found in record { new = x.new; is = x.is; columns = x.columns; key_columns = x.key_columns };
  on = λ n is. by_table n (table_of (parts_of rs).tables n) refl is;
  rows = rows_found_next rs new sorted stands.rules (λ id r found. ap (λ ss. record_at ss id) made.is ∙ made.drafts.rows id r found);
}
  where
    stands : Stands (parts_of new) (drafted m es s)
    stands = subst (λ ss. Stands (parts_of ss) (drafted m es s)) (sym made.is) (made.drafts.stands s st)

    kept : Kept s (drafted m es s)
    kept = drafted_kept m es s

    no_fewer : (c : Counters) → c.next_stamp ≡ (drafted m es s).next_stamp → st.counters.counters.next_stamp ≤ c.next_stamp
    no_fewer c same = omega (arith, same, kept.stamps, st.counters.next_stamp)

    table : (n : ℕ) (t : Table) → table_of (parts_of rs).tables n ≡ Some t → TableKept (parts_of new).tables n t
    table n t found =
        let x = kept.tables n t (tables_found (parts_of rs) s st.tables n ∙ found) in
        record { new = x.new; is = sym (tables_found (parts_of new) (drafted m es s) stands.tables n) ∙ x.is; columns = x.columns; key_columns = x.key_columns; on = x.on }

    by_table : (n : ℕ) (o : Option Table) → table_of (parts_of rs).tables n ≡ o → option_map_or (λ (t : Table). t.versioned) o false ≡ true → is_ready (parts_of new).tables n ≡ true
    by_table n None found is = absurd (true≢false (sym is))
    by_table n (Some t) found is = let x = table n t found in rw x.is (x.on is)

-- ---- what was staged of them

fits_same : (key : List Value) (o : Option Row) (t u : Table) → u.columns ≡ t.columns → u.key_columns ≡ t.key_columns → fits_table key o u ≡ fits_table key o t
fits_same key None t u columns key_columns = rw (columns, key_columns) refl
fits_same key (Some row) t u columns key_columns = rw (columns, key_columns) refl

module _ (p q : Parts) (kept : PartsKept p q) where
  restorable_kept : (e : Entry) → IsRestorable p e → IsRestorable q e
  restorable_kept e is = record {
    given = λ c one. lt_le e.stamp kept.before.next_stamp c.next_stamp (kept.stamps c one) (is.given kept.before kept.one);
    ready = kept.on e.table is.ready;
    well = asked (fits_table e.key e.row) (fits_table e.key e.row) (table_of p.tables e.table) (table_of q.tables e.table)
        (λ t found fits. let x = kept.tables e.table t found in rw x.is (fits_same e.key e.row t x.new x.columns x.key_columns ∙ fits)) is.well;
    kept = is.kept;
    copied = λ row some. kept.rows e.stamp _ (is.copied row some);
  }

  staged_kept : (d : Decision) → IsStaged p d → IsStaged q d
  staged_kept d is = record {
    cells = are_cells-kept p q kept.tables (cells_of d) is.cells;
    kept = is.kept;
    copies = All-weaker (λ (x : Stretch Told). IsRestorable p (copy_of d x)) (λ (x : Stretch Told). IsRestorable q (copy_of d x)) (λ x. restorable_kept (copy_of d x)) d.copied is.copies;
  }

  resolve_kept : (o : Option Resolve) → IsStagedResolve p o → IsStagedResolve q o
  resolve_kept None is = tt
  resolve_kept (Some r) is = All-weaker (IsStaged p) (IsStaged q) staged_kept r.decisions is

  sessions_kept : (xs : List Session) → AreStaged p xs → AreStaged q xs
  sessions_kept xs is = All-weaker (λ (x : Session). IsStagedResolve p x.resolve) (λ (x : Session). IsStagedResolve q x.resolve) (λ x. resolve_kept x.resolve) xs is

-- ---- what becomes of the sessions

set_staged : (p : Parts) (setting : Setting) (x : Session) → SetsStaged p setting → IsStagedResolve p x.resolve → IsStagedResolve p (with_setting setting x).resolve
set_staged p (settings.Stand space stand) x new is = is
set_staged p (settings.Period period) x new is = is
set_staged p (settings.Conflict workspace) x new is = is
set_staged p (settings.Begin space) x new is = All-nil (IsStaged p)
set_staged p settings.End x new is = tt
set_staged p (settings.Freeze space) x new is = is
set_staged p (settings.Lock mode) x new is = is
set_staged p (settings.Compare difference) x new is = is
set_staged p (settings.Decide ds) x new is = by_resolve x.resolve is
  where
    by_resolve : (o : Option Resolve) → IsStagedResolve p o → IsStagedResolve p (option_map (with_decisions ds) o)
    by_resolve None is = tt
    by_resolve (Some r) is = All-append (IsStaged p) r.decisions ds is new

seated_staged : (p : Parts) (xs : List Session) (seating : Seating) → AreStaged p xs → SeatsStaged p seating → AreStaged p (seated xs seating)
seated_staged p xs Stay staged new = staged
seated_staged p xs (Open x) staged new = All-push (λ (x : Session). IsStagedResolve p x.resolve) xs x staged new
seated_staged p xs (Close name) staged new = All-filter _ (λ (x : Session). IsStagedResolve p x.resolve) xs staged
seated_staged p xs (Thaw space) staged new = All-map (λ (x : Session). IsStagedResolve p x.resolve) (thawed space) xs staged
seated_staged p xs (Set name setting) staged new =
    All-map (λ (x : Session). IsStagedResolve p x.resolve) (λ (x : Session). if bytes_eq name x.name then with_setting setting x else x) xs
    (All-weaker (λ (x : Session). IsStagedResolve p x.resolve) (λ (x : Session). IsStagedResolve p (if bytes_eq name x.name then with_setting setting x else x).resolve) (λ x is. by_name x (bytes_eq name x.name) is) xs staged)
  where
    by_name : (x : Session) (b : Bool) → IsStagedResolve p x.resolve → IsStagedResolve p (if b then with_setting setting x else x).resolve
    by_name x true is = set_staged p setting x new is
    by_name x false is = is

-- ---- the law

-- what sessions have staged of records can be committed of those that a plan makes of them, and so can what the plan stages
pub staged_behind : (rs new : List Stored) (xs : List Session) (m : ℕ) (es : List Edit) (seating : Seating) (s : Durable) → Ascend rs → Stands (parts_of rs) s → AreDrafted rs m es new → SeatsStaged (parts_of rs) seating
    → AreStaged (parts_of rs) xs → AreStaged (parts_of new) (seated xs seating)
staged_behind rs new xs m es seating s sorted st made new_ones staged =
    sessions_kept (parts_of rs) (parts_of new) (parts_kept rs new m es s sorted st made) (seated xs seating) (seated_staged (parts_of rs) xs seating staged new_ones)
