-- What a plan that writes changes of rows does.
use Rattle.std.proofs.Common.{◌≡◌, ℕ, zero, suc, ◌+◌, ◌^◌, ◌<◌, ◌&&◌, not, if◌then◌else◌, nat_le, nat_lt, Bool, true, false, List, [], ◌∷◌, ◌++◌, length, vec_len, map, Option, Some, None, Result, Ok, Err, IfOk, refl, sym, ap, ◌∙◌, arith, codes}
use Rattle.std.proofs.lemmas.List.{length-map, map-append}
use Rattle.std.proofs.lemmas.Bool.{and_from, and_parts, leb-true}
use Rattle.std.specs.List.{list_all}
use Rattle.std.specs.Option.{option_map, option_map_or}
use Rattle.std.specs.declared.alloc.Global.{Global}
use Rattle.std.specs.declared.vec.Vec.{Vec}
use Rattle.wm_base.specs.declared.memory.Memory.{Memory}
use Rattle.wm_base.specs.declared.refusal.Refusal.{Refusal}
use Rattle.wm_base.specs.declared.row.Row.{Row}
use Rattle.wm_base.specs.declared.value.Value.{Value}
use Rattle.wm_dml.specs.declared.change.RowChange.{RowChange}
use Rattle.wm_graph.specs.Parts.{parts_of}
use Rattle.wm_graph.specs.Rules.{keep_rules}
use Rattle.wm_making.specs.Rows.{is_filled}
use Rattle.wm_model.proofs.Doing.{counts_as, spent_at_by, spent_log_by}
use Rattle.wm_model.proofs.Unready.{can_keep-filled}
use Rattle.wm_model.proofs.Written.{does_write, entries_told, length_entries, some_written}
use Rattle.wm_model.specs.Changes.{MayWrite, write_edits, write_some, written_with}
use Rattle.wm_model.specs.Entered.{change_entry, entries_from, entries_of}
use Rattle.wm_model.specs.Planning.{StandsAt, Stay}
use Rattle.wm_model.specs.Step.{at_its_end, cells_of, change_limit, claim_of, counter_limit, line_work, lock_fault, lock_parts, locked_by, parts_locked, unless, write_all, written_all}
use Rattle.wm_outline.specs.Outline.{Outline, outline, outline_of}
use Rattle.wm_outline.proofs.Outlines.{outline_is}
use Rattle.wm_print.specs.Texts.{Answer, Done, Refused}
use Rattle.wm_spec.specs.Lists.{Entry}
use Rattle.wm_spec.specs.declared.record.cell_range.CellRange.{CellRange}
use Rattle.wm_spec.specs.declared.record.counters.Counters.{Counters}
use Rattle.wm_spec.specs.declared.record.lock.LockMode.{LockMode}
use Rattle.wm_spec.specs.declared.record.space.Space.{Space}
use Rattle.wm_spec.specs.declared.record.stored.Stored.{Stored}
use Rattle.wm_spec.specs.declared.record.table.Table.{Table}
use Rattle.wm_state.proofs.Counting.{CountsAs, counted_well}
use Rattle.wm_state.specs.Drafts.{can_keep, can_keep_entry}
use Rattle.wm_state.specs.Editing.{entry_of, row_value}
use Rattle.wm_state.specs.State.{Session, State, Workspace}
use Rattle.wm_state.specs.declared.edit.NewEntry.{NewEntry}
use Rattle.wm_state.specs.declared.edit.NewLock.{NewLock}
use Rattle.wm_plan.proofs.Planning.{told}
use Rattle.wm_plan.specs.Views.{answer_view, seating_view}
use Rattle.wm_plan.specs.declared.planned.Planned.{Planned}
use Rattle.wm_change.specs.Acting.{DoesAs, IsHome}
use Rattle.wm_change.specs.Changing.{is_filled_change}
use Rattle.wm_change.proofs.Acting.{does_answer}

-- ---- the entries, one by one

-- the stamp behind those of one change more
pub one_more : (start next : ℕ) (xs : List RowChange) (x : RowChange) → next ≡ start + length xs → next + 1 ≡ start + length (xs ++ x ∷ [])
one_more start next xs x is = let h = longer xs in omega (arith, is, h)
  where
    longer : (ys : List RowChange) → length (ys ++ x ∷ []) ≡ length ys + 1
    longer [] = refl
    longer (y ∷ ys) = let h = longer ys in omega (arith, h)

entries-push : (stamp m : ℕ) (user : List ℕ) (t : Table) (xs : List RowChange) (x : RowChange) → entries_from stamp m user t (xs ++ x ∷ []) ≡ entries_from stamp m user t xs ++ change_entry (stamp + length xs) m user t x ∷ []
entries-push stamp m user t [] x = ap (λ k. change_entry k m user t x ∷ []) (same stamp)
  where
    same : (k : ℕ) → k ≡ k + 0
    same k = omega arith
entries-push stamp m user t (y ∷ ys) x =
    ap (λ es. change_entry stamp m user t y ∷ es)
    (entries-push (stamp + 1) m user t ys x ∙ ap (λ k. entries_from (stamp + 1) m user t ys ++ change_entry k m user t x ∷ []) (next stamp (length ys)))
  where
    next : (a b : ℕ) → a + 1 + b ≡ a + suc b
    next a b = omega arith

-- the entry of one change more is behind those of the others
pub entries_more : (stamp next m : ℕ) (user : List ℕ) (t : Table) (xs : List RowChange) (x : RowChange) (before after : List NewEntry) (e : NewEntry) → map entry_of before ≡ entries_from stamp m user t xs → next ≡ stamp + length xs
    → entry_of e ≡ change_entry next m user t x → after ≡ before ++ e ∷ [] → map entry_of after ≡ entries_from stamp m user t (xs ++ x ∷ [])
entries_more stamp next m user t xs x before after e are place made pushed =
    ap (map entry_of) pushed ∙ map-append entry_of before (e ∷ []) ∙ ap (λ es. es ++ entry_of e ∷ []) are
    ∙ ap (λ one. entries_from stamp m user t xs ++ one ∷ []) (made ∙ ap (λ k. change_entry k m user t x) place)
    ∙ sym (entries-push stamp m user t xs x)

-- ---- no text in them is empty

same_tests : (vs : List Value) → list_all can_keep vs ≡ list_all is_filled vs
same_tests [] = refl
same_tests (v ∷ vs) = rw (can_keep-filled v, same_tests vs) refl

-- nor in the entries of changes in which none is
pub kept_entries : (stamp m : ℕ) (user : List ℕ) (t : Table) (xs : List RowChange) → list_all is_filled_change xs ≡ true → list_all can_keep_entry (entries_from stamp m user t xs) ≡ true
kept_entries stamp m user t [] filled = refl
kept_entries stamp m user t (x ∷ xs) filled =
    let h = and_parts (is_filled_change x) (list_all is_filled_change xs) filled in
    and_from (can_keep_entry (change_entry stamp m user t x)) _ (ap (λ b. b && row_kept (option_map row_value x.row)) (same_tests x.key) ∙ ap (λ b. list_all is_filled x.key && b) (by_row x.row) ∙ h.0) (kept_entries (stamp + 1) m user t xs h.1)
  where
    row_kept : Option Row → Bool
    row_kept o = option_map_or (λ (row : Row). list_all can_keep row.values) o true

    by_row : (o : Option (List Value)) → row_kept (option_map row_value o) ≡ option_map_or (list_all is_filled) o true
    by_row None = refl
    by_row (Some row) = same_tests row

-- ---- what is done with them in a state

-- by what a lock bars them for, and whether stamps are left
guarded : Session → Table → ℕ → List RowChange → State → Workspace → Option Refusal → Bool → State × Answer
guarded session t count changes s w fault left =
    unless fault s
    (if not left then (s, change_limit s.durable.limit) else
    written_with session w.number (length w.lists.log + length changes) count (entries_of s session.user t changes) (parts_locked (outline s) session w.number (map cells_of (entries_of s session.user t changes))) s)

-- where there are some
some_guarded : (session : Session) (t : Table) (count : ℕ) (changes : List RowChange) (s : State) (w : Workspace) → (changes ≡ [] → ⊥)
    → write_all session t count changes s w
    ≡ guarded session t count changes s w (lock_fault (outline s) (claim_of session w.number) (map cells_of (entries_of s session.user t changes))) (nat_le (s.durable.next_stamp + length changes) (s.durable.limit + 1))
unfolding guarded
some_guarded session t count [] s w some = absurd (some refl)
some_guarded session t count (x ∷ xs) s w some = refl

left_is : (c : Counters) (s : State) (k : ℕ) → CountsAs c s.durable → nat_le (s.durable.next_stamp + k) (s.durable.limit + 1) ≡ nat_le (c.next_stamp + k) (c.limit + 1)
left_is c s k counts = ap (λ n. nat_le (n + k) (s.durable.limit + 1)) (sym counts.next_stamp) ∙ ap (λ n. nat_le (c.next_stamp + k) (n + 1)) (sym counts.limit)

-- ---- what it does

-- entries that were made of changes, of which there are some
pub record AreMade (rs : List Stored) (m : ℕ) (session : Session) (t : Table) (a : Space) (c : Counters) (changes : List RowChange) (es : List Entry) : Type 0 where
  pub rules : keep_rules (parts_of rs) ≡ true
  pub one : (parts_of rs).counters ≡ c ∷ []
  pub some : changes ≡ [] → ⊥
  pub are : es ≡ entries_from c.next_stamp m session.user t changes

-- this is what a lock bars them for
abbrev pub IsFault : List Stored → Session → List Entry → Option Refusal → Type 0
IsFault rs session es fault = (xs : List Session) (m : ℕ) → fault ≡ lock_fault (outline_of (parts_of rs) xs m) (claim_of session session.space) (map cells_of es)

-- and these are what is locked by them
abbrev pub AreParts : List Stored → Session → List Entry → List NewLock → Type 0
AreParts rs session es parts = (xs : List Session) (m : ℕ) → parts ≡ parts_locked (outline_of (parts_of rs) xs m) session session.space (map cells_of es)

-- so it is where they were made for a user of whom it is known that he is the session's
pub made_by : (rs : List Stored) (m : ℕ) (session : Session) (t : Table) (a : Space) (c : Counters) (changes : List RowChange) (entries : List NewEntry) (user : List ℕ) → keep_rules (parts_of rs) ≡ true → (parts_of rs).counters ≡ c ∷ []
    → nat_lt 0 (length changes) ≡ true → map entry_of entries ≡ entries_from c.next_stamp m user t changes → user ≡ session.user → AreMade rs m session t a c changes (map entry_of entries)
made_by rs m session t a c changes entries user rules one some are is =
    record { rules = rules; one = one; some = λ none. apart (sym (ap (λ (xs : List RowChange). nat_lt 0 (length xs)) none) ∙ some); are = are ∙ ap (λ u. entries_from c.next_stamp m u t changes) is }
  where
    apart : nat_lt 0 0 ≡ true → ⊥
    apart e = cc

pub fault_by : (rs : List Stored) (session : Session) (found fault : Option Refusal) (given entries : List NewEntry) → IsFault rs session (map entry_of given) found → found ≡ fault → given ≡ entries → IsFault rs session (map entry_of entries) fault
fault_by rs session found fault given entries are is same =
    λ xs m. sym is ∙ are xs m ∙ ap (λ (ns : List NewEntry). lock_fault (outline_of (parts_of rs) xs m) (claim_of session session.space) (map cells_of (map entry_of ns))) same

pub parts_by : (rs : List Stored) (session : Session) (parts : List NewLock) (given entries : List NewEntry) → AreParts rs session (map entry_of given) parts → given ≡ entries → AreParts rs session (map entry_of entries) parts
parts_by rs session parts given entries are same = λ xs m. are xs m ∙ ap (λ (ns : List NewEntry). parts_locked (outline_of (parts_of rs) xs m) session session.space (map cells_of (map entry_of ns))) same

-- what is locked in the session's mode, by one who has its workspace and its user
pub parts_moded : (rs : List Stored) (session : Session) (r : Result (Vec NewLock Global) Memory) (n : ℕ) (user : List ℕ) (mode : LockMode) (cells : List CellRange) → session.locking ≡ Some mode → n ≡ session.space → user ≡ session.user
    → IfOk r (λ parts. (xs : List Session) (m : ℕ) → parts.items ≡ lock_parts (outline_of (parts_of rs) xs m) (record { space = n; mode = mode; user = user }) cells)
    → IfOk r (λ parts. (xs : List Session) (m : ℕ) → parts.items ≡ parts_locked (outline_of (parts_of rs) xs m) session session.space cells)
parts_moded rs session (Ok parts) n user mode cells on here is are = λ xs m.
    are xs m ∙ ap (λ k. lock_parts (outline_of (parts_of rs) xs m) (record { space = k; mode = mode; user = user }) cells) here
    ∙ ap (λ u. lock_parts (outline_of (parts_of rs) xs m) (record { space = session.space; mode = mode; user = u }) cells) is
    ∙ ap (λ (l : Option LockMode). option_map_or (λ k. lock_parts (outline_of (parts_of rs) xs m) (record { space = session.space; mode = k; user = session.user }) cells) l []) (sym on)
parts_moded rs session (Err e) n user mode cells on here is are = tt

-- there are as many entries as changes
pub entries_counted : (stamp m : ℕ) (user : List ℕ) (t : Table) (changes : List RowChange) (entries : List NewEntry) → map entry_of entries ≡ entries_from stamp m user t changes → length entries ≡ length changes
entries_counted stamp m user t changes entries are = sym (length-map entries entry_of) ∙ ap length are ∙ length_entries stamp m user t changes

module _ (rs : List Stored) (m : ℕ) (session : Session) (t : Table) (a : Space) (c : Counters) (count : ℕ) (changes : List RowChange) (es : List Entry) (made : AreMade rs m session t a c changes es) where
  -- the fault is that of the state
  fault_here : (fault : Option Refusal) → IsFault rs session es fault → (xs : List Session) (s : State) (w : Workspace) → StandsAt rs xs m s → IsHome s session a w
      → lock_fault (outline s) (claim_of session w.number) (map cells_of (entries_of s session.user t changes)) ≡ fault
  fault_here fault is xs s w st home =
      ap (λ (o : Outline). lock_fault o (claim_of session w.number) (map cells_of (entries_of s session.user t changes))) (sym (outline_is (parts_of rs) xs m s st.stands st.sessions_are st.moment_is))
      ∙ ap (λ n. lock_fault (outline_of (parts_of rs) xs m) (claim_of session n) (map cells_of (entries_of s session.user t changes))) home.number
      ∙ ap (λ (fs : List Entry). lock_fault (outline_of (parts_of rs) xs m) (claim_of session session.space) (map cells_of fs)) (entries_told rs xs m t changes session c made.one s st ∙ sym made.are)
      ∙ sym (is xs m)

  left_here : (xs : List Session) (s : State) → StandsAt rs xs m s → nat_le (s.durable.next_stamp + length changes) (s.durable.limit + 1) ≡ nat_le (c.next_stamp + length changes) (c.limit + 1)
  left_here xs s st = left_is c s (length changes) (counts_as rs xs m s c st made.one)

  -- a lock bars them
  pub writes_barred : (p : Planned) (refusal : Refusal) → IsFault rs session es (Some refusal) → p.edits.items ≡ [] → seating_view p.seating ≡ Stay → answer_view p.answer ≡ Refused refusal
      → DoesAs rs m session a (write_all session t count changes) p
  unfolding guarded
  writes_barred p refusal is none seats says =
      does_answer rs m p session a (write_all session t count changes) (Refused refusal) made.rules
      (λ xs s w st home.
      some_guarded session t count changes s w made.some
      ∙ ap (λ (f : Option Refusal). guarded session t count changes s w f (nat_le (s.durable.next_stamp + length changes) (s.durable.limit + 1))) (fault_here (Some refusal) is xs s w st home)) none seats says

  -- no stamps are left for them
  pub writes_full : (p : Planned) → IsFault rs session es None → nat_le (c.next_stamp + length changes) (c.limit + 1) ≡ false → p.edits.items ≡ [] → seating_view p.seating ≡ Stay → answer_view p.answer ≡ change_limit c.limit
      → DoesAs rs m session a (write_all session t count changes) p
  unfolding guarded
  writes_full p is full none seats says =
      does_answer rs m p session a (write_all session t count changes) (change_limit c.limit) made.rules
      (λ xs s w st home.
      some_guarded session t count changes s w made.some
      ∙ ap (λ (f : Option Refusal). guarded session t count changes s w f (nat_le (s.durable.next_stamp + length changes) (s.durable.limit + 1))) (fault_here None is xs s w st home)
      ∙ ap (guarded session t count changes s w None) (left_here xs s st ∙ full)
      ∙ ap (λ limit. let answered : State × Answer = (s, change_limit limit) in answered) (sym (counts_as rs xs m s c st made.one).limit)) none seats says

  -- else they are written
  writes_some : (xs : List Session) (s : State) (w : Workspace) → nat_le (c.next_stamp + length changes) (c.limit + 1) ≡ true → StandsAt rs xs m s → IsHome s session a w
      → write_all session t count changes s w ≡ write_some session t count changes session.space a.log_length s
  unfolding guarded
  writes_some xs s w left st home =
      some_guarded session t count changes s w made.some
      ∙ ap (guarded session t count changes s w (lock_fault (outline s) (claim_of session w.number) (map cells_of (entries_of s session.user t changes)))) (left_here xs s st ∙ left)
      ∙ ap (λ n. write_some session t count changes n (length w.lists.log) s) home.number ∙ ap (λ n. write_some session t count changes session.space n s) (sym home.log)

  -- with what is locked by them
  writes_parts : (parts : List NewLock) (xs : List Session) (s : State) (w : Workspace) → IsFault rs session es None → AreParts rs session es parts → nat_le (c.next_stamp + length changes) (c.limit + 1) ≡ true → StandsAt rs xs m s
      → IsHome s session a w → write_all session t count changes s w ≡ written_with session session.space (a.log_length + length changes) count es parts s
  writes_parts parts xs s w is locked left st home =
      writes_some xs s w left st home ∙ some_written rs xs m session.space session t count a.log_length changes c made.one s unbarred st
      ∙ ap (λ (fs : List Entry). written_with session session.space (a.log_length + length changes) count fs (parts_locked (outline_of (parts_of rs) xs m) session session.space (map cells_of fs)) s) (sym made.are)
      ∙ ap (λ (ps : List NewLock). written_with session session.space (a.log_length + length changes) count es ps s) (sym (locked xs m))
    where
      unbarred : lock_fault (outline_of (parts_of rs) xs m) (claim_of session session.space) (map cells_of (entries_from c.next_stamp m session.user t changes)) ≡ None
      unbarred = ap (λ (fs : List Entry). lock_fault (outline_of (parts_of rs) xs m) (claim_of session session.space) (map cells_of fs)) (sym made.are) ∙ sym (is xs m)

  -- the log is at its end
  pub writes_long : (p : Planned) → IsFault rs session es None → nat_le (c.next_stamp + length changes) (c.limit + 1) ≡ true → nat_lt counter_limit (a.log_length + length changes) ≡ true → p.edits.items ≡ [] → seating_view p.seating ≡ Stay
      → answer_view p.answer ≡ at_its_end (codes "LOG") → DoesAs rs m session a (write_all session t count changes) p
  writes_long p is left long none seats says =
      does_answer rs m p session a (write_all session t count changes) (at_its_end (codes "LOG")) made.rules
      (λ xs s w st home.
      let parts = parts_locked (outline s) session session.space (map cells_of (entries_of s session.user t changes)) in
      writes_some xs s w left st home
      ∙ ap (λ (f : Option Refusal). unless f s (written_with session session.space (a.log_length + length changes) count (entries_of s session.user t changes) parts s))
      (ap (λ n. lock_fault (outline s) (claim_of session n) (map cells_of (entries_of s session.user t changes))) (sym home.number) ∙ fault_here None is xs s w st home)
      ∙ spent_log_by (length parts + line_work) s (a.log_length + length changes) (record s { durable = locked_by session session.space parts (written_all session.space (entries_of s session.user t changes) s.durable) }, Done count) long) none seats says

  -- the work is
  pub writes_spent : (p : Planned) (parts : List NewLock) → IsFault rs session es None → AreParts rs session es parts → nat_le (c.next_stamp + length changes) (c.limit + 1) ≡ true → nat_lt counter_limit (a.log_length + length changes) ≡ false
      → nat_lt counter_limit (c.work + (length parts + line_work)) ≡ true → p.edits.items ≡ [] → seating_view p.seating ≡ Stay → answer_view p.answer ≡ at_its_end (codes "WORK") → DoesAs rs m session a (write_all session t count changes) p
  writes_spent p parts is locked left short much none seats says =
      does_answer rs m p session a (write_all session t count changes) (at_its_end (codes "WORK")) made.rules
      (λ xs s w st home.
      writes_parts parts xs s w is locked left st home
      ∙ spent_at_by (length parts + line_work) rs xs m s (a.log_length + length changes) c (record s { durable = locked_by session session.space parts (written_all session.space es s.durable) }, Done count) st made.one short much) none seats says

  -- they are
  pub writes_made : (p : Planned) (entries : List NewEntry) (parts : List NewLock) → map entry_of entries ≡ es → IsFault rs session es None → AreParts rs session es parts → MayWrite rs session.space m session.user t a c (length parts) changes
      → p.edits.items ≡ write_edits session.space session entries parts → seating_view p.seating ≡ Stay → answer_view p.answer ≡ Done count → DoesAs rs m session a (write_all session t count changes) p
  writes_made p entries parts entries_are is locked may edits_are seats says = λ xs act acts.
      told rs xs m p (write_edits session.space session entries parts) Stay (Done count) act edits_are seats says
      (does_write rs xs m session.space session t count changes a c entries parts act made.rules may (entries_are ∙ made.are)
      (locked xs m ∙ ap (λ (fs : List Entry). parts_locked (outline_of (parts_of rs) xs m) session session.space (map cells_of fs)) made.are)
      (ap (λ (fs : List Entry). lock_fault (outline_of (parts_of rs) xs m) (claim_of session session.space) (map cells_of fs)) (sym made.are) ∙ sym (is xs m))
      (λ s st. let h = acts s st in h.2 ∙ writes_some xs s h.0 may.left st h.1))

-- ---- how many they are

-- where their number is not 0 there are some
pub some_changes : (v : Vec RowChange Global) (k : ℕ) → k ≡ vec_len v → (k ≡ 0 → ⊥) → nat_lt 0 (length v.items) ≡ true
some_changes v k is some = positive (length v.items) (λ none. some (omega (arith, is, none)))
  where
    positive : (n : ℕ) → (n ≡ 0 → ⊥) → nat_lt 0 n ≡ true
    positive zero some = absurd (some refl)
    positive (suc n) some = grind arith

-- their stamps fit their bytes
pub stamps_fit : (rs : List Stored) (c : Counters) (v : Vec RowChange Global) → keep_rules (parts_of rs) ≡ true → (parts_of rs).counters ≡ c ∷ [] → c.next_stamp + length v.items < 2 ^ 64
stamps_fit rs c v rules one = fits c.next_stamp c.limit (length v.items) well.1 well.0 (omega (arith, v.ok.0, v.ok.1, v.small))
  where
    well : (nat_le c.limit 1048576 ≡ true) × (nat_le c.next_stamp (c.limit + 1) ≡ true)
    well =
        let h = and_parts ((nat_le 1 c.limit && nat_le c.limit 1048576) && (nat_le 1 c.next_stamp && nat_le c.next_stamp (c.limit + 1))) _ (counted_well (parts_of rs) c rules one) in
        let f = and_parts (nat_le 1 c.limit && nat_le c.limit 1048576) (nat_le 1 c.next_stamp && nat_le c.next_stamp (c.limit + 1)) h.0 in
        ((and_parts (nat_le 1 c.limit) (nat_le c.limit 1048576) f.0).1, (and_parts (nat_le 1 c.next_stamp) (nat_le c.next_stamp (c.limit + 1)) f.1).1)

    fits : (n limit k : ℕ) → nat_le n (limit + 1) ≡ true → nat_le limit 1048576 ≡ true → k < 2 ^ 63 → n + k < 2 ^ 64
    fits n limit k e few below = omega (arith, leb-true n (limit + 1) e, leb-true limit 1048576 few, below)
