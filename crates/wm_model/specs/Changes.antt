-- What is asked before changes of rows of a table are written, and what is done with them.
use Rattle.std.specs.Prelude.{◌≡◌, ◌+◌, ℕ, true, false, nat_le, nat_lt, List, [], ◌∷◌, length, map, Some}
use Rattle.std.specs.List.{list_all}
use Rattle.std.specs.Option.{option_map_or}
use Rattle.wm_base.specs.declared.instant.TheConstants.{END}
use Rattle.wm_dml.specs.Standing.{change_keys, change_lasts, is_change}
use Rattle.wm_dml.specs.declared.change.RowChange.{RowChange}
use Rattle.wm_graph.specs.Parts.{parts_of, space_of, table_of}
use Rattle.wm_graph.specs.Rules.{is_short}
use Rattle.wm_model.specs.Entered.{entries_from, entries_of}
use Rattle.wm_model.specs.Step.{cells_of, claim_of, counter_limit, durably_by, line_work, lock_edits, lock_fault, locked_by, parts_locked, unless, written_all}
use Rattle.wm_outline.specs.Outline.{outline}
use Rattle.wm_print.specs.Texts.{Answer, Done}
use Rattle.wm_spec.specs.Lists.{Entry}
use Rattle.wm_spec.specs.declared.record.counters.Counters.{Counters}
use Rattle.wm_spec.specs.declared.record.space.Space.{Space}
use Rattle.wm_spec.specs.declared.record.stored.Stored.{Stored}
use Rattle.wm_spec.specs.declared.record.table.Table.{Table}
use Rattle.wm_state.specs.Drafts.{can_keep_entry}
use Rattle.wm_state.specs.Drawing.{are_sorted}
use Rattle.wm_state.specs.State.{Session, State}
use Rattle.wm_state.specs.declared.edit.Edit.{Edit}
use Rattle.wm_state.specs.declared.edit.Edit.TheVariants as edits
use Rattle.wm_state.specs.declared.edit.NewEntry.{NewEntry}
use Rattle.wm_state.specs.declared.edit.NewLock.{NewLock}

-- there are changes; the table is ready for rows and the workspace is there, the changes fit the table and stand by key, stamps are
-- left for them, and no counter is at its end, with so many locks
pub record MayWrite (rs : List Stored) (n m : ℕ) (user : List ℕ) (t : Table) (a : Space) (c : Counters) (locks : ℕ) (changes : List RowChange) : Type 0 where
  pub some : nat_lt 0 (length changes) ≡ true
  pub there : table_of (parts_of rs).tables t.number ≡ Some t
  pub on : t.versioned ≡ true
  pub fit : list_all (is_change t) changes ≡ true
  pub last : list_all change_lasts changes ≡ true
  pub keys : are_sorted (change_keys changes) ≡ true
  pub kept : list_all can_keep_entry (entries_from c.next_stamp m user t changes) ≡ true
  pub user_short : is_short user ≡ true
  pub space : space_of (parts_of rs).spaces n ≡ Some a
  pub one : (parts_of rs).counters ≡ c ∷ []
  pub left : nat_le (c.next_stamp + length changes) (c.limit + 1) ≡ true
  pub short : nat_lt counter_limit (a.log_length + length changes) ≡ false
  pub room : nat_lt counter_limit (c.work + (locks + line_work)) ≡ false
  pub early : nat_lt m END ≡ true

-- they are written, and what the session locks by them is locked
abbrev pub write_edits : ℕ → Session → List NewEntry → List NewLock → List Edit
write_edits n session entries parts = edits.Append n entries ∷ option_map_or (λ mode. lock_edits n mode session.user parts) session.locking []

-- ---- in a state

-- entries are written in the workspace of a number, where that makes its log so long, and what the session locks by them is locked
abbrev pub written_with : Session → ℕ → ℕ → ℕ → List Entry → List NewLock → State → State × Answer
written_with session n log count es parts s = durably_by (length parts + line_work) s log (record s { durable = locked_by session n parts (written_all n es s.durable) }, Done count)

-- what is done with changes, of which there are some and for which stamps are left, in the workspace of a number with so long a log
abbrev pub write_some : Session → Table → ℕ → List RowChange → ℕ → ℕ → State → State × Answer
write_some session t count changes n log s =
    let es = entries_of s session.user t changes in
    unless (lock_fault (outline s) (claim_of session n) (map cells_of es)) s
    (written_with session n (log + length changes) count es (parts_locked (outline s) session n (map cells_of es)) s)
