-- Records in which each workspace is there still, with the log that it had or, where it went back, the log of the savepoint: the rules on
-- versions, locks and turns, and those on savepoints, touches, marks and entries that stay.
use Rattle.std.proofs.Common.{◌≡◌, ◌≢◌, ℕ, ◌+◌, ◌==◌, nat_lt, nat_le, Bool, true, false, not, ◌&&◌, ◌||◌, cond, if◌then◌else◌, List, [], ◌∷◌, Option, Some, None, is_some, refl, sym, ap, ◌∙◌, ◌⊎◌, inl, inr}
use Rattle.std.proofs.lemmas.Bool.{eq-eqb, and_from, and_parts, true≢false}
use Rattle.std.specs.List.{filter, list_all}
use Rattle.std.specs.Option.{option_map_or}
use Rattle.wm_base.proofs.Plain.{either_if, else_if}
use Rattle.wm_graph.specs.Parts.{Parts, row_of, space_of, table_of, version_of}
use Rattle.wm_graph.specs.Rules.{are_cells, are_hists, are_locks, are_marks, are_savepoints, are_touches, are_turns, asked_turns, differ, has_few, has_turns, is_asked, is_base_of, is_given, is_hist, is_lock, is_row_at, is_saved_in, is_savepoint, is_short, is_touch, is_trace, is_version, is_version_of, meet, same_position, same_savepoint, same_turn, stands_under}
use Rattle.wm_spec.specs.declared.record.hist.Hist.{Hist}
use Rattle.wm_spec.specs.declared.record.lock.Lock.{Lock}
use Rattle.wm_spec.specs.declared.record.savepoint.Savepoint.{Savepoint as Record}
use Rattle.wm_spec.specs.declared.record.space.Space.{Space}
use Rattle.wm_spec.specs.declared.record.trace.Trace.{Trace}
use Rattle.wm_spec.specs.declared.record.turn.Turn.{Turn}
use Rattle.wm_spec.specs.declared.record.version.Version.{Version}
use Rattle.wm_state.proofs.Keeping.{KeepTables, KeepVersions, are_cells-kept, asked, is_version_of-kept, le_more, lt_le}
use Rattle.wm_state.proofs.KeepingTurns.{RuledTurns, ruled_turns}
use Rattle.wm_state.proofs.Making.{same_making}
use Rattle.wm_state.proofs.Named.{ruled_savepoints}
use Rattle.wm_state.proofs.Tests.{all_if, differ_filter}
use Rattle.wm_undone.proofs.RestoringLists.{all_left, fewer}
use Rattle.wm_undone.specs.Restoring.{stays_held, stays_logged, stays_marked, stays_saved, stays_touched}

-- ---- what is there still

-- a workspace with the same parent, places and rebases; its log is that of the savepoint where it is the savepoint's workspace
pub record SpaceBack (q : Parts) (x : Record) (m : ℕ) (s : Space) : Type 0 where
  pub new : Space
  pub is : space_of q.spaces m ≡ Some new
  pub number : new.number ≡ s.number
  pub parent : new.parent ≡ s.parent
  pub place : new.next_place ≡ s.next_place
  pub rebases : new.rebases ≡ s.rebases
  pub log : ((m ≡ x.space) × (new.log_length ≡ x.log_length)) ⊎ ((m ≢ x.space) × (new.log_length ≡ s.log_length))

abbrev pub KeepBack : Parts → Parts → Record → Type 0
KeepBack p q x = (m : ℕ) (s : Space) → space_of p.spaces m ≡ Some s → SpaceBack q x m s

module _ (p q : Parts) (x : Record) (back : KeepBack p q x) where
  -- ---- places

  given_back : (m place : ℕ) → is_given (space_of p.spaces) m place ≡ true → is_given (space_of q.spaces) m place ≡ true
  given_back m place = asked (λ (s : Space). nat_lt place s.next_place) (λ (s : Space). nat_lt place s.next_place) (space_of p.spaces m) (space_of q.spaces m)
      (λ s found lt. let y = back m s found in rw y.is (ap (nat_lt place) y.place ∙ lt))

  trace_back : KeepTables p q → (z : Trace) → is_trace (table_of p.tables) (space_of p.spaces) z ≡ true → is_trace (table_of q.tables) (space_of q.spaces) z ≡ true
  trace_back tables z e =
      let h = and_parts (are_cells (table_of p.tables) z.cells) (is_given (space_of p.spaces) z.space z.place) e in
      and_from (are_cells (table_of q.tables) z.cells) (is_given (space_of q.spaces) z.space z.place) (are_cells-kept p q tables z.cells h.0) (given_back z.space z.place h.1)

  lock_back : (work more : ℕ) → nat_le work more ≡ true → KeepTables p q → (z : Lock) → is_lock (table_of p.tables) (space_of p.spaces) work z ≡ true → is_lock (table_of q.tables) (space_of q.spaces) more z ≡ true
  lock_back work more le tables z e =
      let h = and_parts (is_short z.user && nat_le z.making (work + 2)) _ e in
      let g = and_parts (is_short z.user) (nat_le z.making (work + 2)) h.0 in
      let k = and_parts (are_cells (table_of p.tables) z.cells) (is_given (space_of p.spaces) z.space z.place) h.1 in
      and_from (is_short z.user && nat_le z.making (more + 2)) _ (and_from (is_short z.user) _ g.0 (le_more z.making work more le g.1))
      (and_from (are_cells (table_of q.tables) z.cells) (is_given (space_of q.spaces) z.space z.place) (are_cells-kept p q tables z.cells k.0) (given_back z.space z.place k.1))

  pub locks_back : (work more : ℕ) → nat_le work more ≡ true → KeepTables p q → q.locks ≡ filter (stays_held x.space x.place) p.locks → are_locks p work ≡ true → are_locks q more ≡ true
  locks_back work more le tables locks e =
      let h = and_parts (differ (λ (y z : Lock). y.making == z.making) p.locks) (list_all (is_lock (table_of p.tables) (space_of p.spaces) work) p.locks) e in
      rw locks
      (and_from (differ (λ (y z : Lock). y.making == z.making) (filter (stays_held x.space x.place) p.locks)) (list_all (is_lock (table_of q.tables) (space_of q.spaces) more) (filter (stays_held x.space x.place) p.locks))
      (differ_filter (λ (y z : Lock). y.making == z.making) (stays_held x.space x.place) p.locks h.0)
      (all_left (stays_held x.space x.place) (is_lock (table_of p.tables) (space_of p.spaces) work) (is_lock (table_of q.tables) (space_of q.spaces) more) (λ z stays. lock_back work more le tables z) p.locks h.1))

  -- ---- turns

  there_back : (m : ℕ) → is_some (space_of p.spaces m) ≡ true → is_some (space_of q.spaces m) ≡ true
  there_back m e = by_space (space_of p.spaces m) refl e
    where
      by_space : (o : Option Space) → space_of p.spaces m ≡ o → is_some o ≡ true → is_some (space_of q.spaces m) ≡ true
      by_space None found is = absurd (true≢false (sym is))
      by_space (Some s) found is = ap is_some (back m s found).is

  asked_one : (z : Turn) → is_some (space_of p.spaces z.space) ≡ true → is_asked (space_of q.spaces) z ≡ is_asked (space_of p.spaces) z
  asked_one z there = by_space (space_of p.spaces z.space) refl there
    where
      by_space : (o : Option Space) → space_of p.spaces z.space ≡ o → is_some o ≡ true → is_asked (space_of q.spaces) z ≡ is_asked (space_of p.spaces) z
      by_space None found is = absurd (true≢false (sym is))
      by_space (Some s) found is = let y = back z.space s found in rw (y.is, found, y.rebases) refl

  asked_all : (zs : List Turn) → list_all (λ (z : Turn). is_some (space_of p.spaces z.space)) zs ≡ true → filter (is_asked (space_of q.spaces)) zs ≡ filter (is_asked (space_of p.spaces)) zs
  asked_all [] there = refl
  asked_all (z ∷ zs) there =
      let h = and_parts (is_some (space_of p.spaces z.space)) (list_all (λ (y : Turn). is_some (space_of p.spaces y.space)) zs) there in
      rw (asked_one z h.0) (ap (λ ys. cond (is_asked (space_of p.spaces) z) (z ∷ ys) ys) (asked_all zs h.1))

  pub turns_back : q.turns ≡ p.turns → list_all (has_turns (asked_turns p)) q.spaces ≡ true → are_turns p ≡ true → are_turns q ≡ true
  turns_back turns each e =
      and_from (list_all (λ (z : Turn). is_some (space_of q.spaces z.space)) q.turns) _
      (ap (list_all (λ (z : Turn). is_some (space_of q.spaces z.space))) turns
      ∙ all_if (λ (z : Turn). is_some (space_of p.spaces z.space)) (λ (z : Turn). is_some (space_of q.spaces z.space)) (λ z. there_back z.space) p.turns r.there)
      (and_from (differ same_turn (asked_turns q)) (list_all (has_turns (asked_turns q)) q.spaces)
      (ap (differ same_turn) same ∙ r.numbers)
      (ap (λ ts. list_all (has_turns ts) q.spaces) same ∙ each))
    where
      r : RuledTurns p
      r = ruled_turns p e

      same : asked_turns q ≡ asked_turns p
      same = ap (filter (is_asked (space_of q.spaces))) turns ∙ asked_all p.turns r.there

  -- ---- versions

  under_back : KeepVersions p q → (v : Version) (s t : Space) → t.parent ≡ s.parent → stands_under (version_of p.versions) v s ≡ true → stands_under (version_of q.versions) v t ≡ true
  under_back versions v s t parent e =
      let h = and_parts (nat_lt v.parent v.number) _ e in
      and_from (nat_lt v.parent v.number) _ h.0
      (ap (λ k. is_version_of (version_of q.versions) v.parent v.space || is_version_of (version_of q.versions) v.parent k) parent
      ∙ either_if (is_version_of (version_of p.versions) v.parent v.space) (is_version_of (version_of p.versions) v.parent s.parent)
      (is_version_of (version_of q.versions) v.parent v.space) (is_version_of (version_of q.versions) v.parent s.parent)
      (is_version_of-kept p q versions v.parent v.space) (is_version_of-kept p q versions v.parent s.parent) h.1)

  pub version_back : (next more : ℕ) → nat_le next more ≡ true → KeepVersions p q → (v : Version) → is_version (space_of p.spaces) (version_of p.versions) next v ≡ true → is_version (space_of q.spaces) (version_of q.versions) more v ≡ true
  version_back next more le versions v e =
      let h = and_parts (nat_lt v.number next) _ e in
      and_from (nat_lt v.number more) _ (lt_le v.number next more le h.0)
      (asked (λ (s : Space). if v.parent == 0 then v.number == 1 else stands_under (version_of p.versions) v s) (λ (s : Space). if v.parent == 0 then v.number == 1 else stands_under (version_of q.versions) v s)
      (space_of p.spaces v.space) (space_of q.spaces v.space)
      (λ s found is. let y = back v.space s found in rw y.is (else_if (v.parent == 0) (v.number == 1) (stands_under (version_of p.versions) v s) (stands_under (version_of q.versions) v y.new) (under_back versions v s y.new y.parent) is)) h.1)

  -- ---- positions of a log

  -- a position that stays is one that the log has
  log_back : (m position : ℕ) → (not (m == x.space) || nat_lt position x.log_length) ≡ true → option_map_or (λ (s : Space). nat_lt position s.log_length) (space_of p.spaces m) false ≡ true
      → option_map_or (λ (s : Space). nat_lt position s.log_length) (space_of q.spaces m) false ≡ true
  log_back m position stays = asked (λ (s : Space). nat_lt position s.log_length) (λ (s : Space). nat_lt position s.log_length) (space_of p.spaces m) (space_of q.spaces m)
      (λ s found lt. let y = back m s found in rw y.is (by_log s y lt y.log))
    where
      by_log : (s : Space) (y : SpaceBack q x m s) → nat_lt position s.log_length ≡ true → ((m ≡ x.space) × (y.new.log_length ≡ x.log_length)) ⊎ ((m ≢ x.space) × (y.new.log_length ≡ s.log_length)) → nat_lt position y.new.log_length ≡ true
      by_log s y lt (inl h) = ap (nat_lt position) h.1 ∙ sym (ap (λ b. not b || nat_lt position x.log_length) (eq-eqb _ _ h.0)) ∙ stays
      by_log s y lt (inr h) = ap (nat_lt position) h.1 ∙ lt

  -- ---- touches that stay

  touch_back : KeepTables p q → (z : Trace) → stays_touched x.space x.place x.log_length z ≡ true → is_touch (table_of p.tables) (space_of p.spaces) z ≡ true → is_touch (table_of q.tables) (space_of q.spaces) z ≡ true
  touch_back tables z stays e =
      let h = and_parts (is_trace (table_of p.tables) (space_of p.spaces) z) _ e in
      and_from (is_trace (table_of q.tables) (space_of q.spaces) z) _ (trace_back tables z h.0) (log_back z.space z.position (weaker (z.space == x.space) (nat_lt z.place x.place) (nat_lt z.position x.log_length) stays) h.1)
    where
      weaker : (a b c : Bool) → (not a || (b && c)) ≡ true → (not a || c) ≡ true
      weaker true b c is = (and_parts b c is).1
      weaker false b c is = refl

  pub touches_back : KeepTables p q → q.touches ≡ filter (stays_touched x.space x.place x.log_length) p.touches → are_touches p ≡ true → are_touches q ≡ true
  touches_back tables touches e =
      let h = and_parts (differ meet p.touches) (list_all (is_touch (table_of p.tables) (space_of p.spaces)) p.touches) e in
      rw touches
      (and_from (differ meet (filter (stays_touched x.space x.place x.log_length) p.touches)) (list_all (is_touch (table_of q.tables) (space_of q.spaces)) (filter (stays_touched x.space x.place x.log_length) p.touches))
      (differ_filter meet (stays_touched x.space x.place x.log_length) p.touches h.0)
      (all_left (stays_touched x.space x.place x.log_length) (is_touch (table_of p.tables) (space_of p.spaces)) (is_touch (table_of q.tables) (space_of q.spaces)) (touch_back tables) p.touches h.1))

  -- ---- marks that stay

  pub marks_back : KeepTables p q → q.marks ≡ filter (stays_marked x.space x.place) p.marks → are_marks p ≡ true → are_marks q ≡ true
  marks_back tables marks e =
      let h = and_parts (differ meet p.marks) (list_all (is_trace (table_of p.tables) (space_of p.spaces)) p.marks) e in
      rw marks
      (and_from (differ meet (filter (stays_marked x.space x.place) p.marks)) (list_all (is_trace (table_of q.tables) (space_of q.spaces)) (filter (stays_marked x.space x.place) p.marks))
      (differ_filter meet (stays_marked x.space x.place) p.marks h.0)
      (all_left (stays_marked x.space x.place) (is_trace (table_of p.tables) (space_of p.spaces)) (is_trace (table_of q.tables) (space_of q.spaces)) (λ z stays. trace_back tables z) p.marks h.1))

  -- ---- entries that stay

  hist_back : (next : ℕ) → q.tables ≡ p.tables → q.rows ≡ p.rows → (z : Hist) → stays_logged x.space x.log_length z ≡ true → is_hist (table_of p.tables) (space_of p.spaces) (row_of p.rows) next z ≡ true
      → is_hist (table_of q.tables) (space_of q.spaces) (row_of q.rows) next z ≡ true
  hist_back next tables rows z stays e =
      let h = and_parts (is_short z.user && option_map_or (λ (s : Space). nat_lt z.position s.log_length) (space_of p.spaces z.space) false) _ e in
      let g = and_parts (is_short z.user) (option_map_or (λ (s : Space). nat_lt z.position s.log_length) (space_of p.spaces z.space) false) h.0 in
      and_from (is_short z.user && option_map_or (λ (s : Space). nat_lt z.position s.log_length) (space_of q.spaces z.space) false) _
      (and_from (is_short z.user) _ g.0 (log_back z.space z.position stays g.1))
      (ap (λ ts. are_cells (table_of ts) z.cells && (nat_lt z.stamp next && (z.gone || option_map_or (is_row_at (table_of ts) z.cells) (row_of q.rows z.stamp) false))) tables
      ∙ ap (λ rs. are_cells (table_of p.tables) z.cells && (nat_lt z.stamp next && (z.gone || option_map_or (is_row_at (table_of p.tables) z.cells) (row_of rs z.stamp) false))) rows
      ∙ h.1)

  pub hists_back : (next : ℕ) → q.tables ≡ p.tables → q.rows ≡ p.rows → q.hists ≡ filter (stays_logged x.space x.log_length) p.hists → are_hists p next ≡ true → are_hists q next ≡ true
  hists_back next tables rows hists e =
      let h = and_parts (differ same_position p.hists) (list_all (is_hist (table_of p.tables) (space_of p.spaces) (row_of p.rows) next) p.hists) e in
      rw hists
      (and_from (differ same_position (filter (stays_logged x.space x.log_length) p.hists)) (list_all (is_hist (table_of q.tables) (space_of q.spaces) (row_of q.rows) next) (filter (stays_logged x.space x.log_length) p.hists))
      (differ_filter same_position (stays_logged x.space x.log_length) p.hists h.0)
      (all_left (stays_logged x.space x.log_length) (is_hist (table_of p.tables) (space_of p.spaces) (row_of p.rows) next) (is_hist (table_of q.tables) (space_of q.spaces) (row_of q.rows) next) (hist_back next tables rows) p.hists h.1))

  -- ---- savepoints that stay

  -- what a workspace may see under its own
  pub base_back : KeepVersions p q → (base : ℕ) (s t : Space) → t.number ≡ s.number → t.parent ≡ s.parent → is_base_of (version_of p.versions) base s ≡ true → is_base_of (version_of q.versions) base t ≡ true
  base_back versions base s t number parent e = rw (number, parent) (by_live (s.number == 0) e)
    where
      by_live : (b : Bool) → (if b then base == 0 else is_version_of (version_of p.versions) base s.parent) ≡ true → (if b then base == 0 else is_version_of (version_of q.versions) base s.parent) ≡ true
      by_live true h = h
      by_live false h = is_version_of-kept p q versions base s.parent h

  saved_back : (work more : ℕ) → nat_le work more ≡ true → KeepVersions p q → (z : Record) → stays_saved x z ≡ true → is_savepoint (space_of p.spaces) (version_of p.versions) work z ≡ true
      → is_savepoint (space_of q.spaces) (version_of q.versions) more z ≡ true
  saved_back work more le versions z stays e =
      let h = and_parts (is_short z.name && nat_le z.making (work + 2)) _ e in
      let g = and_parts (is_short z.name) (nat_le z.making (work + 2)) h.0 in
      and_from (is_short z.name && nat_le z.making (more + 2)) _ (and_from (is_short z.name) _ g.0 (le_more z.making work more le g.1))
      (asked (is_saved_in (version_of p.versions) z) (is_saved_in (version_of q.versions) z) (space_of p.spaces z.space) (space_of q.spaces z.space)
      (λ s found is. let y = back z.space s found in rw y.is (in_space s y is)) h.1)
    where
      in_space : (s : Space) (y : SpaceBack q x z.space s) → is_saved_in (version_of p.versions) z s ≡ true → is_saved_in (version_of q.versions) z y.new ≡ true
      in_space s y is =
          let h = and_parts (is_version_of (version_of p.versions) z.version s.number && is_base_of (version_of p.versions) z.base_version s) _ is in
          let g = and_parts (is_version_of (version_of p.versions) z.version s.number) (is_base_of (version_of p.versions) z.base_version s) h.0 in
          let k = and_parts (nat_lt z.place s.next_place) (nat_le z.log_length s.log_length) h.1 in
          and_from (is_version_of (version_of q.versions) z.version y.new.number && is_base_of (version_of q.versions) z.base_version y.new) _
          (and_from (is_version_of (version_of q.versions) z.version y.new.number) (is_base_of (version_of q.versions) z.base_version y.new)
          (ap (is_version_of (version_of q.versions) z.version) y.number ∙ is_version_of-kept p q versions z.version s.number g.0)
          (base_back versions z.base_version s y.new y.number y.parent g.1))
          (and_from (nat_lt z.place y.new.next_place) (nat_le z.log_length y.new.log_length) (ap (nat_lt z.place) y.place ∙ k.0) (by_log y.log k.1))
        where
          by_log : ((z.space ≡ x.space) × (y.new.log_length ≡ x.log_length)) ⊎ ((z.space ≢ x.space) × (y.new.log_length ≡ s.log_length)) → nat_le z.log_length s.log_length ≡ true → nat_le z.log_length y.new.log_length ≡ true
          by_log (inl h) le = ap (nat_le z.log_length) h.1
              ∙ (and_parts (nat_le z.place x.place) (nat_le z.log_length x.log_length) (sym (ap (λ b. not b || (nat_le z.place x.place && nat_le z.log_length x.log_length)) (eq-eqb _ _ h.0)) ∙ stays)).1
          by_log (inr h) le = ap (nat_le z.log_length) h.1 ∙ le

  pub saves_back : (work more : ℕ) → nat_le work more ≡ true → KeepVersions p q → q.savepoints ≡ filter (stays_saved x) p.savepoints → list_all (has_few p.savepoints) q.spaces ≡ true → are_savepoints p work ≡ true → are_savepoints q more ≡ true
  saves_back work more le versions savepoints few e =
      let r = ruled_savepoints p work e in
      rw savepoints
      (and_from (differ same_making (filter (stays_saved x) p.savepoints)) _ (differ_filter same_making (stays_saved x) p.savepoints r.makings)
      (and_from (differ same_savepoint (filter (stays_saved x) p.savepoints)) _ (differ_filter same_savepoint (stays_saved x) p.savepoints r.names)
      (and_from (list_all (has_few (filter (stays_saved x) p.savepoints)) q.spaces) (list_all (is_savepoint (space_of q.spaces) (version_of q.versions) more) (filter (stays_saved x) p.savepoints))
      (all_if (has_few p.savepoints) (has_few (filter (stays_saved x) p.savepoints)) (λ s. fewer (stays_saved x) (λ (z : Record). z.space == s.number) 4096 p.savepoints) q.spaces few)
      (all_left (stays_saved x) (is_savepoint (space_of p.spaces) (version_of p.versions) work) (is_savepoint (space_of q.spaces) (version_of q.versions) more) (saved_back work more le versions) p.savepoints r.each))))
