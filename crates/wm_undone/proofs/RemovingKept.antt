-- The records without a workspace that is the parent of none keep every rule.
use Rattle.std.proofs.Common.{◌≡◌, ◌≢◌, ℕ, suc, ◌+◌, ◌<◌, ◌≤◌, ◌^◌, ◌==◌, nat_lt, nat_le, Bool, true, false, not, ◌&&◌, ◌||◌, cond, if◌then◌else◌, List, [], ◌∷◌, length, Option, Some, None, is_some, refl, sym, ap, ◌∙◌, arith}
use Rattle.std.proofs.lemmas.Bool.{eq-eqb, eqb-true, and_from, and_parts, le-leb, true≢false}
use Rattle.std.proofs.lemmas.List.Sums.{length-filter}
use Rattle.std.specs.List.{count_by, filter, list_all, list_any}
use Rattle.std.specs.Option.{option_map_or}
use Rattle.std.specs.Str.{bytes_eq}
use Rattle.wm_base.proofs.Plain.{either_if, else_if}
use Rattle.wm_graph.specs.Parts.{Parts, has_version, row_of, space_of, table_of, version_of}
use Rattle.wm_graph.specs.Rules.{are_cells, are_counters, are_hists, are_locks, are_marks, are_pieces, are_rows, are_savepoints, are_spaces, are_touches, are_turns, are_versions, asked_turns, collide, differ, has_few, has_turns, has_versions, is_asked, is_base_of, is_hist, is_lock, is_piece, is_row_at, is_saved_in, is_savepoint, is_short, is_space, is_touch, is_trace, is_version, is_version_of, keep_rules, live, meet, same_position, same_savepoint, same_turn, stands_under}
use Rattle.wm_spec.specs.declared.record.counters.Counters.{Counters}
use Rattle.wm_spec.specs.declared.record.hist.Hist.{Hist}
use Rattle.wm_spec.specs.declared.record.lock.Lock.{Lock}
use Rattle.wm_spec.specs.declared.record.piece.PieceRecord.{PieceRecord}
use Rattle.wm_spec.specs.declared.record.savepoint.Savepoint.{Savepoint as Record}
use Rattle.wm_spec.specs.declared.record.space.Space.{Space}
use Rattle.wm_spec.specs.declared.record.trace.Trace.{Trace}
use Rattle.wm_spec.specs.declared.record.turn.Turn.{Turn}
use Rattle.wm_spec.specs.declared.record.version.Version.{Version}
use Rattle.wm_state.proofs.Apart.{Ruled, keeps_all, ruled, ruled_versions}
use Rattle.wm_state.proofs.Growing.{same_counters}
use Rattle.wm_state.proofs.Keeping.{asked, le_more}
use Rattle.wm_state.proofs.KeepingTurns.{RuledTurns, ruled_turns}
use Rattle.wm_state.proofs.Making.{same_making}
use Rattle.wm_state.proofs.Mapped.{find-else, find-filter, find-passes}
use Rattle.wm_state.proofs.Named.{ruled_savepoints, space_number}
use Rattle.wm_state.proofs.Tests.{differ_filter}
use Rattle.wm_undone.specs.Removing.{CanRemove, is_other, is_others}
use Rattle.wm_undone.proofs.RemovingRecords.{filter_other, not_other, one_less, other_of, parent_other, space_away, thinned}
use Rattle.wm_undone.proofs.RestoringLists.{all_left, fewer}

-- ---- tests of those that stay

all_both : {A : Type 0} (P Q : A → Bool) (xs : List A) → list_all P xs ≡ true → list_all Q xs ≡ true → list_all (λ x. P x && Q x) xs ≡ true
all_both P Q [] e f = refl
all_both P Q (x ∷ xs) e f =
    let h = and_parts (P x) (list_all P xs) e in
    let g = and_parts (Q x) (list_all Q xs) f in
    and_from (P x && Q x) (list_all (λ y. P y && Q y) xs) (and_from (P x) (Q x) h.0 g.0) (all_both P Q xs h.1 g.1)

any_left : {A : Type 0} (k P : A → Bool) → ((x : A) → P x ≡ true → k x ≡ true) → (xs : List A) → list_any P xs ≡ true → list_any P (filter k xs) ≡ true
any_left k P keep [] some = some
any_left k P keep (x ∷ xs) some = by_test (P x) refl (k x) refl some (any_left k P keep xs)
  where
    by_test : (a : Bool) → P x ≡ a → (b : Bool) → k x ≡ b → (a || list_any P xs) ≡ true → (list_any P xs ≡ true → list_any P (filter k xs) ≡ true) → list_any P (cond b (x ∷ filter k xs) (filter k xs)) ≡ true
    by_test true e true f is rest = rw e refl
    by_test true e false f is rest = absurd (true≢false (sym (keep x e) ∙ f))
    by_test false e true f is rest = rw e (rest is)
    by_test false e false f is rest = rest is

-- those that stay and pass are those that pass and stay, by a test that says the same of each that stays
filter_swap : {A : Type 0} (k P Q : A → Bool) → ((x : A) → k x ≡ true → Q x ≡ P x) → (xs : List A) → filter Q (filter k xs) ≡ filter k (filter P xs)
filter_swap k P Q same [] = refl
filter_swap k P Q same (x ∷ xs) = by_test (k x) refl (P x) refl (filter_swap k P Q same xs)
  where
    by_test : (a : Bool) → k x ≡ a → (b : Bool) → P x ≡ b → filter Q (filter k xs) ≡ filter k (filter P xs) → filter Q (cond a (x ∷ filter k xs) (filter k xs)) ≡ filter k (cond b (x ∷ filter P xs) (filter P xs))
    by_test true e true f rest = rw (same x e ∙ f, e) (ap (λ ys. x ∷ ys) rest)
    by_test true e false f rest = rw (same x e ∙ f) rest
    by_test false e true f rest = rw e rest
    by_test false e false f rest = rest

-- ---- the rules

module _ (p : Parts) (n : ℕ) (may : CanRemove p n) (rules : keep_rules p ≡ true) (counters : List Counters) where
  r : Ruled p
  r = ruled p rules

  -- the workspace of a record that stays is there still
  away : (m : ℕ) → is_other n m ≡ true → space_of (thinned p n counters).spaces m ≡ space_of p.spaces m
  away m stays = space_away p n counters m (not_other n m stays)

  numbers : differ (λ (v w : Version). v.number == w.number) p.versions ≡ true
  numbers = (ruled_versions p r.counters.next_version r.versions).numbers

  version_left : (k : ℕ) (w : Version) → version_of p.versions k ≡ Some w → w.space ≢ n → version_of (thinned p n counters).versions k ≡ Some w
  version_left k w found other =
      find-filter (λ (v : Version). is_other n v.space) (λ (v : Version). v.number == k) p.versions
      ∙ find-else (λ (v : Version). is_other n v.space && (v.number == k)) (λ (v : Version). v.number == k) (λ (v u : Version). v.number == u.number) as_one p.versions w numbers found
      (and_from (is_other n w.space) (w.number == k) (other_of n w.space other) (find-passes (λ (v : Version). v.number == k) p.versions w found))
    where
      as_one : (v u : Version) → (is_other n v.space && (v.number == k)) ≡ true → (is_other n u.space && (u.number == k)) ≡ true → (v.number == u.number) ≡ true
      as_one v u e f =
          eq-eqb v.number u.number (eqb-true v.number k (and_parts (is_other n v.space) (v.number == k) e).1 ∙ sym (eqb-true u.number k (and_parts (is_other n u.space) (u.number == k) f).1))

  of_left : (k m : ℕ) → m ≢ n → is_version_of (version_of p.versions) k m ≡ true → is_version_of (version_of (thinned p n counters).versions) k m ≡ true
  of_left k m other = asked (λ (v : Version). v.space == m) (λ (v : Version). v.space == m) (version_of p.versions k) (version_of (thinned p n counters).versions k)
      (λ v found is. ap (λ o. option_map_or (λ (w : Version). w.space == m) o false) (version_left k v found (λ same. other (sym (eqb-true v.space m is) ∙ same))) ∙ is)

  -- each workspace that stays has its parent still
  spaces_left : {Q : Space → Bool} (P : Space → Bool) → ((s : Space) → s.number ≢ n → s.parent ≢ n → P s ≡ true → Q s ≡ true) → list_all P p.spaces ≡ true → list_all Q (thinned p n counters).spaces ≡ true
  spaces_left {Q = Q} P to all =
      all_left (λ (s : Space). is_other n s.number) (λ (s : Space). P s && is_other n s.parent) Q
      (λ s stays e. let h = and_parts (P s) (is_other n s.parent) e in to s (not_other n s.number stays) (not_other n s.parent h.1) h.0) p.spaces
      (all_both P (λ (s : Space). is_other n s.parent) p.spaces all may.childless)

  spaces_keep : are_spaces p.spaces ≡ true → are_spaces (thinned p n counters).spaces ≡ true
  spaces_keep e =
      let first = and_parts (nat_le (length p.spaces) 1024 && is_some (space_of p.spaces 0)) _ e in
      let sized = and_parts (nat_le (length p.spaces) 1024) (is_some (space_of p.spaces 0)) first.0 in
      let apart = and_parts (differ (λ (s t : Space). s.number == t.number) p.spaces) _ first.1 in
      let names = and_parts (differ (λ (s t : Space). bytes_eq s.name t.name) p.spaces) (list_all (is_space (space_of p.spaces)) p.spaces) apart.1 in
      let q = thinned p n counters in
      and_from (nat_le (length q.spaces) 1024 && is_some (space_of q.spaces 0)) _
      (and_from (nat_le (length q.spaces) 1024) (is_some (space_of q.spaces 0))
      (fewer_than (length q.spaces) (length p.spaces) (one_less (λ (s : Space). s.number) n p.spaces apart.0 may.there) sized.0)
      (ap is_some (space_away p n counters 0 (not_live n may.some)) ∙ sized.1))
      (and_from (differ (λ (s t : Space). s.number == t.number) q.spaces) _ (differ_filter (λ (s t : Space). s.number == t.number) (λ (s : Space). is_other n s.number) p.spaces apart.0)
      (and_from (differ (λ (s t : Space). bytes_eq s.name t.name) q.spaces) (list_all (is_space (space_of q.spaces)) q.spaces)
      (differ_filter (λ (s t : Space). bytes_eq s.name t.name) (λ (s : Space). is_other n s.number) p.spaces names.0)
      (spaces_left (is_space (space_of p.spaces)) still names.1)))
    where
      fewer_than : (i j : ℕ) → suc i ≡ j → nat_le j 1024 ≡ true → nat_le i 1024 ≡ true
      fewer_than i j e f = grind (arith, e, f)

      not_live : (m : ℕ) → 0 < m → 0 ≢ m
      not_live m lt same = omega (arith, lt, same)

      still : (s : Space) → s.number ≢ n → s.parent ≢ n → is_space (space_of p.spaces) s ≡ true → is_space (space_of (thinned p n counters).spaces) s ≡ true
      still s other child is =
          ap (λ o. ((if s.number == 0 then bytes_eq s.name live else nat_lt s.parent s.number && is_some o) && (is_short s.name && is_short s.writer)) && (nat_le 1 s.next_place && (nat_le 1 s.next_implicit && nat_le s.log_length (2 ^ 62))))
          (space_away p n counters s.parent child)
          ∙ is

  -- ---- versions

  version_keep : (next : ℕ) (v : Version) → is_other n v.space ≡ true → is_version (space_of p.spaces) (version_of p.versions) next v ≡ true
      → is_version (space_of (thinned p n counters).spaces) (version_of (thinned p n counters).versions) next v ≡ true
  version_keep next v stays e =
      let h = and_parts (nat_lt v.number next) _ e in
      and_from (nat_lt v.number next) _ h.0
      (ap (λ o. option_map_or stands o false) (away v.space stays)
      ∙ asked (λ (s : Space). if v.parent == 0 then v.number == 1 else stands_under (version_of p.versions) v s) stands (space_of p.spaces v.space) (space_of p.spaces v.space)
      (λ s found is. ap (λ o. option_map_or stands o false) found ∙ else_if (v.parent == 0) (v.number == 1) (stands_under (version_of p.versions) v s) (stands_under (version_of (thinned p n counters).versions) v s) (under s (parent_other p n may.childless rules v.space s found)) is) h.1)
    where
      stands : Space → Bool
      stands s = if v.parent == 0 then v.number == 1 else stands_under (version_of (thinned p n counters).versions) v s

      under : (s : Space) → s.parent ≢ n → stands_under (version_of p.versions) v s ≡ true → stands_under (version_of (thinned p n counters).versions) v s ≡ true
      under s child is =
          let h = and_parts (nat_lt v.parent v.number) _ is in
          and_from (nat_lt v.parent v.number) _ h.0
          (either_if (is_version_of (version_of p.versions) v.parent v.space) (is_version_of (version_of p.versions) v.parent s.parent)
          (is_version_of (version_of (thinned p n counters).versions) v.parent v.space) (is_version_of (version_of (thinned p n counters).versions) v.parent s.parent)
          (of_left v.parent v.space (not_other n v.space stays)) (of_left v.parent s.parent child) h.1)

  versions_keep : (next : ℕ) → are_versions p next ≡ true → are_versions (thinned p n counters) next ≡ true
  versions_keep next e =
      let h = ruled_versions p next e in
      let q = thinned p n counters in
      and_from (differ (λ (v w : Version). v.number == w.number) q.versions) _ (differ_filter (λ (v w : Version). v.number == w.number) (λ (v : Version). is_other n v.space) p.versions h.numbers)
      (and_from (list_all (is_version (space_of q.spaces) (version_of q.versions) next) q.versions) (list_all (has_versions (has_version q.versions) (version_of q.versions)) q.spaces)
      (all_left (λ (v : Version). is_other n v.space) (is_version (space_of p.spaces) (version_of p.versions) next) (is_version (space_of q.spaces) (version_of q.versions) next) (version_keep next) p.versions h.each)
      (spaces_left (has_versions (has_version p.versions) (version_of p.versions)) still h.spaces))
    where
      still : (s : Space) → s.number ≢ n → s.parent ≢ n → has_versions (has_version p.versions) (version_of p.versions) s ≡ true
          → has_versions (has_version (thinned p n counters).versions) (version_of (thinned p n counters).versions) s ≡ true
      still s other child is =
          let h = and_parts (has_version p.versions s.number) _ is in
          and_from (has_version (thinned p n counters).versions s.number) _
          (any_left (λ (v : Version). is_other n v.space) (λ (v : Version). v.space == s.number) (λ v e. other_of n v.space (λ same. other (sym (eqb-true v.space s.number e) ∙ same))) p.versions h.0)
          (else_if (s.number == 0) ((s.birth_version == 1) && (s.base_version == 0)) _ _ parents h.1)
        where
          parents : (is_version_of (version_of p.versions) s.birth_version s.parent && is_version_of (version_of p.versions) s.base_version s.parent) ≡ true
              → (is_version_of (version_of (thinned p n counters).versions) s.birth_version s.parent && is_version_of (version_of (thinned p n counters).versions) s.base_version s.parent) ≡ true
          parents e =
              let g = and_parts (is_version_of (version_of p.versions) s.birth_version s.parent) (is_version_of (version_of p.versions) s.base_version s.parent) e in
              and_from (is_version_of (version_of (thinned p n counters).versions) s.birth_version s.parent) _ (of_left s.birth_version s.parent child g.0) (of_left s.base_version s.parent child g.1)

  -- ---- savepoints

  saved_keep : (work more : ℕ) → nat_le work more ≡ true → (x : Record) → is_other n x.space ≡ true → is_savepoint (space_of p.spaces) (version_of p.versions) work x ≡ true
      → is_savepoint (space_of (thinned p n counters).spaces) (version_of (thinned p n counters).versions) more x ≡ true
  saved_keep work more le x stays e =
      let h = and_parts (is_short x.name && nat_le x.making (work + 2)) _ e in
      let g = and_parts (is_short x.name) (nat_le x.making (work + 2)) h.0 in
      and_from (is_short x.name && nat_le x.making (more + 2)) _ (and_from (is_short x.name) _ g.0 (le_more x.making work more le g.1))
      (asked (is_saved_in (version_of p.versions) x) (is_saved_in (version_of (thinned p n counters).versions) x) (space_of p.spaces x.space) (space_of (thinned p n counters).spaces x.space)
      (λ s found is. ap (λ o. option_map_or (is_saved_in (version_of (thinned p n counters).versions) x) o false) (away x.space stays ∙ found) ∙ in_space s found is) h.1)
    where
      in_space : (s : Space) → space_of p.spaces x.space ≡ Some s → is_saved_in (version_of p.versions) x s ≡ true → is_saved_in (version_of (thinned p n counters).versions) x s ≡ true
      in_space s found is =
          let h = and_parts (is_version_of (version_of p.versions) x.version s.number && is_base_of (version_of p.versions) x.base_version s) _ is in
          let g = and_parts (is_version_of (version_of p.versions) x.version s.number) (is_base_of (version_of p.versions) x.base_version s) h.0 in
          and_from (is_version_of (version_of (thinned p n counters).versions) x.version s.number && is_base_of (version_of (thinned p n counters).versions) x.base_version s) _
          (and_from (is_version_of (version_of (thinned p n counters).versions) x.version s.number) (is_base_of (version_of (thinned p n counters).versions) x.base_version s)
          (of_left x.version s.number (λ same. not_other n x.space stays (sym (space_number p x.space s found) ∙ same)) g.0)
          (else_if (s.number == 0) (x.base_version == 0) (is_version_of (version_of p.versions) x.base_version s.parent) (is_version_of (version_of (thinned p n counters).versions) x.base_version s.parent)
          (of_left x.base_version s.parent (parent_other p n may.childless rules x.space s found)) g.1))
          h.1

  saves_keep : (work more : ℕ) → nat_le work more ≡ true → are_savepoints p work ≡ true → are_savepoints (thinned p n counters) more ≡ true
  saves_keep work more le e =
      let h = ruled_savepoints p work e in
      let q = thinned p n counters in
      and_from (differ same_making q.savepoints) _ (differ_filter same_making (λ (x : Record). is_other n x.space) p.savepoints h.makings)
      (and_from (differ same_savepoint q.savepoints) _ (differ_filter same_savepoint (λ (x : Record). is_other n x.space) p.savepoints h.names)
      (and_from (list_all (has_few q.savepoints) q.spaces) (list_all (is_savepoint (space_of q.spaces) (version_of q.versions) more) q.savepoints)
      (spaces_left (has_few p.savepoints) (λ s other child. fewer (λ (x : Record). is_other n x.space) (λ (x : Record). x.space == s.number) 4096 p.savepoints) h.few)
      (all_left (λ (x : Record). is_other n x.space) (is_savepoint (space_of p.spaces) (version_of p.versions) work) (is_savepoint (space_of q.spaces) (version_of q.versions) more) (saved_keep work more le) p.savepoints h.each)))

  -- ---- pieces

  piece_keep : (next : ℕ) (x : PieceRecord) → is_others p.versions n x ≡ true → is_piece (table_of p.tables) (version_of p.versions) (row_of p.rows) next x ≡ true
      → is_piece (table_of p.tables) (version_of (thinned p n counters).versions) (row_of p.rows) next x ≡ true
  piece_keep next x stays e =
      let h = and_parts (is_some (version_of p.versions x.version)) _ e in
      and_from (is_some (version_of (thinned p n counters).versions x.version)) _ (by_version (version_of p.versions x.version) refl h.0) h.1
    where
      by_version : (o : Option Version) → version_of p.versions x.version ≡ o → is_some o ≡ true → is_some (version_of (thinned p n counters).versions x.version) ≡ true
      by_version None found is = absurd (true≢false (sym is))
      by_version (Some v) found is = ap is_some (version_left x.version v found (not_other n v.space (sym (ap (λ o. not (option_map_or (λ (w : Version). w.space == n) o false)) found) ∙ stays)))

  pieces_keep : (next : ℕ) → are_pieces p next ≡ true → are_pieces (thinned p n counters) next ≡ true
  pieces_keep next e =
      let h = and_parts (differ collide p.pieces) (list_all (is_piece (table_of p.tables) (version_of p.versions) (row_of p.rows) next) p.pieces) e in
      let q = thinned p n counters in
      and_from (differ collide q.pieces) (list_all (is_piece (table_of p.tables) (version_of q.versions) (row_of p.rows) next) q.pieces)
      (differ_filter collide (is_others p.versions n) p.pieces h.0)
      (all_left (is_others p.versions n) (is_piece (table_of p.tables) (version_of p.versions) (row_of p.rows) next) (is_piece (table_of p.tables) (version_of q.versions) (row_of p.rows) next) (piece_keep next) p.pieces h.1)

  -- ---- entries, touched and settled cells, locks

  hists_keep : (next : ℕ) → are_hists p next ≡ true → are_hists (thinned p n counters) next ≡ true
  hists_keep next e =
      let h = and_parts (differ same_position p.hists) (list_all (is_hist (table_of p.tables) (space_of p.spaces) (row_of p.rows) next) p.hists) e in
      let q = thinned p n counters in
      and_from (differ same_position q.hists) (list_all (is_hist (table_of p.tables) (space_of q.spaces) (row_of p.rows) next) q.hists)
      (differ_filter same_position (λ (x : Hist). is_other n x.space) p.hists h.0)
      (all_left (λ (x : Hist). is_other n x.space) (is_hist (table_of p.tables) (space_of p.spaces) (row_of p.rows) next) (is_hist (table_of p.tables) (space_of q.spaces) (row_of p.rows) next) still p.hists h.1)
    where
      still : (x : Hist) → is_other n x.space ≡ true → is_hist (table_of p.tables) (space_of p.spaces) (row_of p.rows) next x ≡ true
          → is_hist (table_of p.tables) (space_of (thinned p n counters).spaces) (row_of p.rows) next x ≡ true
      still x stays is =
          ap (λ o. (is_short x.user && option_map_or (λ (s : Space). nat_lt x.position s.log_length) o false)
          && (are_cells (table_of p.tables) x.cells && (nat_lt x.stamp next && (x.gone || option_map_or (is_row_at (table_of p.tables) x.cells) (row_of p.rows x.stamp) false))))
          (away x.space stays)
          ∙ is

  trace_keep : (x : Trace) → is_other n x.space ≡ true → is_trace (table_of p.tables) (space_of (thinned p n counters).spaces) x ≡ is_trace (table_of p.tables) (space_of p.spaces) x
  trace_keep x stays = ap (λ o. are_cells (table_of p.tables) x.cells && option_map_or (λ (s : Space). nat_lt x.place s.next_place) o false) (away x.space stays)

  touches_keep : are_touches p ≡ true → are_touches (thinned p n counters) ≡ true
  touches_keep e =
      let h = and_parts (differ meet p.touches) (list_all (is_touch (table_of p.tables) (space_of p.spaces)) p.touches) e in
      let q = thinned p n counters in
      and_from (differ meet q.touches) (list_all (is_touch (table_of p.tables) (space_of q.spaces)) q.touches) (differ_filter meet (λ (x : Trace). is_other n x.space) p.touches h.0)
      (all_left (λ (x : Trace). is_other n x.space) (is_touch (table_of p.tables) (space_of p.spaces)) (is_touch (table_of p.tables) (space_of q.spaces)) still p.touches h.1)
    where
      still : (x : Trace) → is_other n x.space ≡ true → is_touch (table_of p.tables) (space_of p.spaces) x ≡ true → is_touch (table_of p.tables) (space_of (thinned p n counters).spaces) x ≡ true
      still x stays is =
          ap (λ b. b && option_map_or (λ (s : Space). nat_lt x.position s.log_length) (space_of (thinned p n counters).spaces x.space) false) (trace_keep x stays)
          ∙ ap (λ o. is_trace (table_of p.tables) (space_of p.spaces) x && option_map_or (λ (s : Space). nat_lt x.position s.log_length) o false) (away x.space stays)
          ∙ is

  marks_keep : are_marks p ≡ true → are_marks (thinned p n counters) ≡ true
  marks_keep e =
      let h = and_parts (differ meet p.marks) (list_all (is_trace (table_of p.tables) (space_of p.spaces)) p.marks) e in
      let q = thinned p n counters in
      and_from (differ meet q.marks) (list_all (is_trace (table_of p.tables) (space_of q.spaces)) q.marks) (differ_filter meet (λ (x : Trace). is_other n x.space) p.marks h.0)
      (all_left (λ (x : Trace). is_other n x.space) (is_trace (table_of p.tables) (space_of p.spaces)) (is_trace (table_of p.tables) (space_of q.spaces)) (λ x stays is. trace_keep x stays ∙ is) p.marks h.1)

  locks_keep : (work more : ℕ) → nat_le work more ≡ true → are_locks p work ≡ true → are_locks (thinned p n counters) more ≡ true
  locks_keep work more le e =
      let h = and_parts (differ (λ (x y : Lock). x.making == y.making) p.locks) (list_all (is_lock (table_of p.tables) (space_of p.spaces) work) p.locks) e in
      let q = thinned p n counters in
      and_from (differ (λ (x y : Lock). x.making == y.making) q.locks) (list_all (is_lock (table_of p.tables) (space_of q.spaces) more) q.locks)
      (differ_filter (λ (x y : Lock). x.making == y.making) (λ (x : Lock). is_other n x.space) p.locks h.0)
      (all_left (λ (x : Lock). is_other n x.space) (is_lock (table_of p.tables) (space_of p.spaces) work) (is_lock (table_of p.tables) (space_of q.spaces) more) still p.locks h.1)
    where
      still : (x : Lock) → is_other n x.space ≡ true → is_lock (table_of p.tables) (space_of p.spaces) work x ≡ true → is_lock (table_of p.tables) (space_of (thinned p n counters).spaces) more x ≡ true
      still x stays is =
          let h = and_parts (is_short x.user && nat_le x.making (work + 2)) _ is in
          let g = and_parts (is_short x.user) (nat_le x.making (work + 2)) h.0 in
          and_from (is_short x.user && nat_le x.making (more + 2)) _ (and_from (is_short x.user) _ g.0 (le_more x.making work more le g.1))
          (ap (λ o. are_cells (table_of p.tables) x.cells && option_map_or (λ (s : Space). nat_lt x.place s.next_place) o false) (away x.space stays) ∙ h.1)

  -- ---- turns

  turns_keep : are_turns p ≡ true → are_turns (thinned p n counters) ≡ true
  turns_keep e =
      and_from (list_all (λ (x : Turn). is_some (space_of (thinned p n counters).spaces x.space)) (thinned p n counters).turns) _
      (all_left (λ (x : Turn). is_other n x.space) (λ (x : Turn). is_some (space_of p.spaces x.space)) (λ (x : Turn). is_some (space_of (thinned p n counters).spaces x.space)) (λ x stays is. ap is_some (away x.space stays) ∙ is) p.turns h.there)
      (and_from (differ same_turn (asked_turns (thinned p n counters))) (list_all (has_turns (asked_turns (thinned p n counters))) (thinned p n counters).spaces)
      (ap (differ same_turn) same ∙ differ_filter same_turn (λ (x : Turn). is_other n x.space) (asked_turns p) h.numbers)
      (spaces_left (has_turns (asked_turns p)) still h.each))
    where
      h : RuledTurns p
      h = ruled_turns p e

      same : asked_turns (thinned p n counters) ≡ filter (λ (x : Turn). is_other n x.space) (asked_turns p)
      same = filter_swap (λ (x : Turn). is_other n x.space) (is_asked (space_of p.spaces)) (is_asked (space_of (thinned p n counters).spaces))
          (λ x stays. ap (λ o. not (x.space == 0) && option_map_or (λ (s : Space). nat_le x.rebase s.rebases) o false) (away x.space stays)) p.turns

      as_many : (m : ℕ) → m ≢ n → count_by (λ (x : Turn). x.space == m) (asked_turns (thinned p n counters)) ≡ count_by (λ (x : Turn). x.space == m) (asked_turns p)
      as_many m other =
          sym (length-filter (λ (x : Turn). x.space == m) (asked_turns (thinned p n counters)))
          ∙ ap (λ xs. length (filter (λ (x : Turn). x.space == m) xs)) same
          ∙ ap length (filter_other (λ (x : Turn). x.space) n m (λ (x : Turn). x.space == m) (λ x is. eqb-true x.space m is) other (asked_turns p))
          ∙ length-filter (λ (x : Turn). x.space == m) (asked_turns p)

      still : (s : Space) → s.number ≢ n → s.parent ≢ n → has_turns (asked_turns p) s ≡ true → has_turns (asked_turns (thinned p n counters)) s ≡ true
      still s other child is = ap (λ k. (s.number == 0) || (k == s.rebases + 1)) (as_many s.number other) ∙ is

-- ---- all rules

-- counters that count no less work, and give the same stamps and versions
pub record CountsOn (p : Parts) (old new : Counters) : Type 0 where
  pub one : p.counters ≡ old ∷ []
  pub counters : are_counters new ≡ true
  pub stamps : new.next_stamp ≡ old.next_stamp
  pub versions : new.next_version ≡ old.next_version
  pub work : old.work ≤ new.work

pub keep-thinned : (p : Parts) (n : ℕ) (old new : Counters) → CanRemove p n → CountsOn p old new → keep_rules p ≡ true → keep_rules (thinned p n (new ∷ [])) ≡ true
keep-thinned p n old new may on rules =
    keeps_all q new refl on.counters r.tables (spaces_keep p n may rules (new ∷ []) r.spaces)
    (ap (are_versions q) on.versions ∙ versions_keep p n may rules (new ∷ []) old.next_version (ap (λ (c : Counters). are_versions p c.next_version) (sym same) ∙ r.versions))
    (saves_keep p n may rules (new ∷ []) old.work new.work more (ap (λ (c : Counters). are_savepoints p c.work) (sym same) ∙ r.savepoints))
    (ap (are_rows p) on.stamps ∙ ap (λ (c : Counters). are_rows p c.next_stamp) (sym same) ∙ r.rows)
    (ap (are_pieces q) on.stamps ∙ pieces_keep p n may rules (new ∷ []) old.next_stamp (ap (λ (c : Counters). are_pieces p c.next_stamp) (sym same) ∙ r.pieces))
    (ap (are_hists q) on.stamps ∙ hists_keep p n may rules (new ∷ []) old.next_stamp (ap (λ (c : Counters). are_hists p c.next_stamp) (sym same) ∙ r.hists))
    (touches_keep p n may rules (new ∷ []) r.touches)
    (locks_keep p n may rules (new ∷ []) old.work new.work more (ap (λ (c : Counters). are_locks p c.work) (sym same) ∙ r.locks))
    (marks_keep p n may rules (new ∷ []) r.marks)
    (turns_keep p n may rules (new ∷ []) r.turns)
  where
    q : Parts
    q = thinned p n (new ∷ [])

    r : Ruled p
    r = ruled p rules

    same : r.counters ≡ old
    same = same_counters p old r.counters on.one r.one

    more : nat_le old.work new.work ≡ true
    more = le-leb old.work new.work on.work
