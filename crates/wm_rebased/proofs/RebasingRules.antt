-- Records in which the record of a workspace counts other rebases: every rule but that on turns asks of it what it asked. With one rebase
-- more and its turn the rule on turns holds too.
use Rattle.std.proofs.Common.{◌≡◌, ◌≢◌, ℕ, ◌+◌, ◌<◌, ◌==◌, nat_le, nat_lt, Bool, true, false, not, ◌&&◌, ◌||◌, cond, List, [], ◌∷◌, ◌++◌, length, Option, Some, is_some, refl, sym, ap, ◌∙◌, ◌⊎◌, inl, inr, arith}
use Rattle.std.proofs.lemmas.Bool.{cases_eq, eq-eqb, eqb-true, ne_eqb, and_from, and_parts, or_parts}
use Rattle.std.proofs.lemmas.List.Elements.{filter-append}
use Rattle.std.proofs.lemmas.Option.{same_Some}
use Rattle.std.specs.List.{count_by, filter, list_all, list_any}
use Rattle.std.specs.Option.{option_map_or}
use Rattle.std.specs.Str.{bytes_eq}
use Rattle.wm_base.proofs.Plain.{nat_le-itself, nonzero}
use Rattle.wm_graph.specs.Parts.{Parts, row_of, space_of, table_of, version_of}
use Rattle.wm_graph.specs.Rules.{are_cells, are_hists, are_locks, are_marks, are_savepoints, are_spaces, are_touches, are_turns, asked_turns, differ, has_few, has_turns, is_asked, is_given, is_hist, is_lock, is_saved_in, is_savepoint, is_short, is_space, is_touch, is_trace, meet, same_position, same_savepoint, same_turn}
use Rattle.wm_spec.specs.declared.record.hist.Hist.{Hist}
use Rattle.wm_spec.specs.declared.record.lock.Lock.{Lock}
use Rattle.wm_spec.specs.declared.record.piece.PieceRecord.{PieceRecord}
use Rattle.wm_spec.specs.declared.record.savepoint.Savepoint.{Savepoint}
use Rattle.wm_spec.specs.declared.record.space.Space.{Space}
use Rattle.wm_spec.specs.declared.record.trace.Trace.{Trace}
use Rattle.wm_spec.specs.declared.record.turn.Turn.{Turn}
use Rattle.wm_state.specs.Drafts.{is_turn}
use Rattle.wm_state.proofs.Apart.{found-passes}
use Rattle.wm_state.proofs.Keeping.{asked}
use Rattle.wm_state.proofs.KeepingTurns.{RuledTurns, ruled_turns}
use Rattle.wm_state.proofs.Making.{same_making}
use Rattle.wm_state.proofs.Mapped.{all-found, any-if}
use Rattle.wm_state.proofs.Named.{ruled_savepoints, space_number}
use Rattle.wm_state.proofs.Respaced.{space_elsewhere, space_here}
use Rattle.wm_state.proofs.Tests.{all_filter, all_if, all_middle, all_push, all_swap, any_filter, differ_filter, differ_push, find_swapped, some_swap}
use Rattle.wm_forked.proofs.KeepSaved.{count_push}

-- ---- another count of rebases

module _ (p : Parts) (front back : List Space) (a : Space) (rebases : ℕ) (pieces : List PieceRecord) (turns : List Turn) (old : p.spaces ≡ front ++ a ∷ back) where
  abbrev b : Space
  b = record a { rebases = rebases }

  abbrev q : Parts
  q = record p { spaces = front ++ b ∷ back; pieces = pieces; turns = turns }

  -- what is asked of a workspace and does not read its rebases
  alike : (f : Space → Bool) → f b ≡ f a → (m : ℕ) → option_map_or f (space_of p.spaces m) false ≡ true → option_map_or f (space_of q.spaces m) false ≡ true
  alike f same m = asked f f (space_of p.spaces m) (space_of q.spaces m)
      (λ s found is. by_found s is (find_swapped (λ (y : Space). y.number == m) a b refl front back s (ap (λ ss. space_of ss m) (sym old) ∙ found)))
    where
      by_found : (s : Space) → f s ≡ true → (space_of (front ++ b ∷ back) m ≡ Some s) ⊎ ((s ≡ a) × (space_of (front ++ b ∷ back) m ≡ Some b)) → option_map_or f (space_of (front ++ b ∷ back) m) false ≡ true
      by_found s is (inl h) = ap (λ o. option_map_or f o false) h ∙ is
      by_found s is (inr h) = ap (λ o. option_map_or f o false) h.1 ∙ same ∙ ap f (sym h.0) ∙ is

  saved : (work : ℕ) (x : Savepoint) → is_savepoint (space_of p.spaces) (version_of p.versions) work x ≡ true → is_savepoint (space_of q.spaces) (version_of p.versions) work x ≡ true
  saved work x is =
      let h = and_parts (is_short x.name && nat_le x.making (work + 2)) _ is in
      and_from (is_short x.name && nat_le x.making (work + 2)) _ h.0 (alike (is_saved_in (version_of p.versions) x) refl x.space h.1)

  pub saves_counted : (work : ℕ) → are_savepoints p work ≡ true → are_savepoints q work ≡ true
  saves_counted work e =
      let r = ruled_savepoints p work e in
      let all : list_all (has_few p.savepoints) (front ++ a ∷ back) ≡ true = ap (list_all (has_few p.savepoints)) (sym old) ∙ r.few in
      and_from (differ same_making p.savepoints) _ r.makings
      (and_from (differ same_savepoint p.savepoints) _ r.names
      (and_from (list_all (has_few p.savepoints) q.spaces) (list_all (is_savepoint (space_of q.spaces) (version_of p.versions) work) p.savepoints)
      (all_swap (has_few p.savepoints) (has_few p.savepoints) a b front back (λ s h. h) (all_middle (has_few p.savepoints) a front back all) all)
      (all_if (is_savepoint (space_of p.spaces) (version_of p.versions) work) (is_savepoint (space_of q.spaces) (version_of p.versions) work) (saved work) p.savepoints r.each)))

  hist : (next : ℕ) (x : Hist) → is_hist (table_of p.tables) (space_of p.spaces) (row_of p.rows) next x ≡ true → is_hist (table_of p.tables) (space_of q.spaces) (row_of p.rows) next x ≡ true
  hist next x is =
      let h = and_parts (is_short x.user && option_map_or (λ (s : Space). nat_lt x.position s.log_length) (space_of p.spaces x.space) false) _ is in
      let g = and_parts (is_short x.user) (option_map_or (λ (s : Space). nat_lt x.position s.log_length) (space_of p.spaces x.space) false) h.0 in
      and_from (is_short x.user && option_map_or (λ (s : Space). nat_lt x.position s.log_length) (space_of q.spaces x.space) false) _
      (and_from (is_short x.user) _ g.0 (alike (λ (s : Space). nat_lt x.position s.log_length) refl x.space g.1)) h.1

  pub hists_counted : (next : ℕ) → are_hists p next ≡ true → are_hists q next ≡ true
  hists_counted next e =
      let h = and_parts (differ same_position p.hists) (list_all (is_hist (table_of p.tables) (space_of p.spaces) (row_of p.rows) next) p.hists) e in
      and_from (differ same_position p.hists) (list_all (is_hist (table_of p.tables) (space_of q.spaces) (row_of p.rows) next) p.hists) h.0
      (all_if (is_hist (table_of p.tables) (space_of p.spaces) (row_of p.rows) next) (is_hist (table_of p.tables) (space_of q.spaces) (row_of p.rows) next) (hist next) p.hists h.1)

  given : (m place : ℕ) → is_given (space_of p.spaces) m place ≡ true → is_given (space_of q.spaces) m place ≡ true
  given m place = alike (λ (s : Space). nat_lt place s.next_place) refl m

  trace : (x : Trace) → is_trace (table_of p.tables) (space_of p.spaces) x ≡ true → is_trace (table_of p.tables) (space_of q.spaces) x ≡ true
  trace x is =
      let h = and_parts (are_cells (table_of p.tables) x.cells) (is_given (space_of p.spaces) x.space x.place) is in
      and_from (are_cells (table_of p.tables) x.cells) (is_given (space_of q.spaces) x.space x.place) h.0 (given x.space x.place h.1)

  touch : (x : Trace) → is_touch (table_of p.tables) (space_of p.spaces) x ≡ true → is_touch (table_of p.tables) (space_of q.spaces) x ≡ true
  touch x is =
      let h = and_parts (is_trace (table_of p.tables) (space_of p.spaces) x) _ is in
      and_from (is_trace (table_of p.tables) (space_of q.spaces) x) _ (trace x h.0) (alike (λ (s : Space). nat_lt x.position s.log_length) refl x.space h.1)

  pub touches_counted : are_touches p ≡ true → are_touches q ≡ true
  touches_counted e =
      let h = and_parts (differ meet p.touches) (list_all (is_touch (table_of p.tables) (space_of p.spaces)) p.touches) e in
      and_from (differ meet p.touches) (list_all (is_touch (table_of p.tables) (space_of q.spaces)) p.touches) h.0
      (all_if (is_touch (table_of p.tables) (space_of p.spaces)) (is_touch (table_of p.tables) (space_of q.spaces)) touch p.touches h.1)

  -- the marks that a test keeps are in order too
  pub marks_counted : (k : Trace → Bool) → are_marks p ≡ true → are_marks (record q { marks = filter k p.marks }) ≡ true
  marks_counted k e =
      let h = and_parts (differ meet p.marks) (list_all (is_trace (table_of p.tables) (space_of p.spaces)) p.marks) e in
      and_from (differ meet (filter k p.marks)) (list_all (is_trace (table_of p.tables) (space_of q.spaces)) (filter k p.marks)) (differ_filter meet k p.marks h.0)
      (all_filter (is_trace (table_of p.tables) (space_of q.spaces)) k p.marks
      (all_if (is_trace (table_of p.tables) (space_of p.spaces)) (is_trace (table_of p.tables) (space_of q.spaces)) trace p.marks h.1))

  lock : (work : ℕ) (x : Lock) → is_lock (table_of p.tables) (space_of p.spaces) work x ≡ true → is_lock (table_of p.tables) (space_of q.spaces) work x ≡ true
  lock work x is =
      let h = and_parts (is_short x.user && nat_le x.making (work + 2)) _ is in
      let g = and_parts (are_cells (table_of p.tables) x.cells) (is_given (space_of p.spaces) x.space x.place) h.1 in
      and_from (is_short x.user && nat_le x.making (work + 2)) _ h.0
      (and_from (are_cells (table_of p.tables) x.cells) (is_given (space_of q.spaces) x.space x.place) g.0 (given x.space x.place g.1))

  pub locks_counted : (work : ℕ) → are_locks p work ≡ true → are_locks q work ≡ true
  locks_counted work e =
      let h = and_parts (differ (λ (x y : Lock). x.making == y.making) p.locks) (list_all (is_lock (table_of p.tables) (space_of p.spaces) work) p.locks) e in
      and_from (differ (λ (x y : Lock). x.making == y.making) p.locks) (list_all (is_lock (table_of p.tables) (space_of q.spaces) work) p.locks) h.0
      (all_if (is_lock (table_of p.tables) (space_of p.spaces) work) (is_lock (table_of p.tables) (space_of q.spaces) work) (lock work) p.locks h.1)

-- ---- one rebase more, and its turn

module _ (p : Parts) (front back : List Space) (a : Space) (pieces : List PieceRecord) (u : Turn) (old : p.spaces ≡ front ++ a ∷ back) (child : 0 < a.number) (before : are_spaces p.spaces ≡ true)
    (after : are_spaces (front ++ record a { rebases = a.rebases + 1 } ∷ back) ≡ true) (its : u.space ≡ a.number) (number : u.rebase ≡ a.rebases + 1) (unturned : list_any (is_turn a.number (a.rebases + 1)) p.turns ≡ false) where
  abbrev c : Space
  c = record a { rebases = a.rebases + 1 }

  abbrev z : Parts
  z = record p { spaces = front ++ c ∷ back; pieces = pieces; turns = p.turns ++ u ∷ [] }

  found : space_of p.spaces a.number ≡ Some a
  found = ap (λ ss. space_of ss a.number) old ∙ space_here front back a a.number (ap are_spaces (sym old) ∙ before) refl

  found_now : space_of z.spaces a.number ≡ Some c
  found_now = space_here front back c a.number after refl

  away : (m : ℕ) → m ≢ a.number → space_of z.spaces m ≡ space_of p.spaces m
  away m other = space_elsewhere front back a c m (λ same. other (sym same)) (λ same. other (sym same)) ∙ ap (λ ss. space_of ss m) (sym old)

  -- turns that were asked for are, and no others
  asked_one : (x : Turn) → is_turn a.number (a.rebases + 1) x ≡ false → is_asked (space_of z.spaces) x ≡ is_asked (space_of p.spaces) x
  asked_one x other = by_number (cases_eq x.space a.number)
    where
      asks : Option Space → Bool
      asks o = not (x.space == 0) && option_map_or (λ (s : Space). nat_le x.rebase s.rebases) o false

      no_more : (i k : ℕ) → (i == k + 1) ≡ false → nat_le i (k + 1) ≡ nat_le i k
      no_more i k e = grind (arith, e)

      by_number : (x.space ≡ a.number) ⊎ (x.space ≢ a.number) → asks (space_of z.spaces x.space) ≡ asks (space_of p.spaces x.space)
      by_number (inl here) =
          ap asks (ap (space_of z.spaces) here ∙ found_now)
          ∙ ap (λ t. not (x.space == 0) && t) (no_more x.rebase a.rebases (sym (ap (λ t. t && (x.rebase == a.rebases + 1)) (eq-eqb _ _ here)) ∙ other))
          ∙ sym (ap asks (ap (space_of p.spaces) here ∙ found))
      by_number (inr apart) = ap asks (away x.space apart)

  asked_old : (xs : List Turn) → list_any (is_turn a.number (a.rebases + 1)) xs ≡ false → filter (is_asked (space_of z.spaces)) xs ≡ filter (is_asked (space_of p.spaces)) xs
  asked_old [] none = refl
  asked_old (x ∷ xs) none =
      let h = or_parts (is_turn a.number (a.rebases + 1) x) (list_any (is_turn a.number (a.rebases + 1)) xs) none in
      rw (asked_one x h.0) (ap (λ ys. cond (is_asked (space_of p.spaces) x) (x ∷ ys) ys) (asked_old xs h.1))

  asked_new : is_asked (space_of z.spaces) u ≡ true
  asked_new = and_from (not (u.space == 0)) _
      (ap (λ k. not (k == 0)) its ∙ ap not (nonzero a.number child))
      (ap (λ o. option_map_or (λ (s : Space). nat_le u.rebase s.rebases) o false) (ap (space_of z.spaces) its ∙ found_now) ∙ ap (λ k. nat_le k (a.rebases + 1)) number ∙ nat_le-itself (a.rebases + 1))

  asked_now : asked_turns z ≡ asked_turns p ++ u ∷ []
  asked_now =
      filter-append (is_asked (space_of z.spaces)) p.turns (u ∷ [])
      ∙ ap (λ xs. xs ++ filter (is_asked (space_of z.spaces)) (u ∷ [])) (asked_old p.turns unturned)
      ∙ ap (λ t. asked_turns p ++ cond t (u ∷ []) []) asked_new

  -- the workspace has one more, and every other as many as it had
  counted : (k : ℕ) → count_by (λ (x : Turn). x.space == k) (asked_turns p ++ u ∷ []) ≡ count_by (λ (x : Turn). x.space == k) (asked_turns p) + cond (a.number == k) 1 0
  counted k = count_push (λ (x : Turn). x.space == k) (asked_turns p) u ∙ ap (λ j. count_by (λ (x : Turn). x.space == k) (asked_turns p) + cond (j == k) 1 0) its

  has_one_more : has_turns (asked_turns p) a ≡ true → has_turns (asked_turns p ++ u ∷ []) c ≡ true
  has_one_more has =
      ap (λ t. t || (count_by (λ (x : Turn). x.space == a.number) (asked_turns p ++ u ∷ []) == a.rebases + 1 + 1)) (nonzero a.number child)
      ∙ eq-eqb _ _
      (counted a.number
      ∙ ap (λ t. count_by (λ (x : Turn). x.space == a.number) (asked_turns p) + cond t 1 0) (eq-eqb a.number a.number refl)
      ∙ ap (λ k. k + 1) (eqb-true _ _ (sym (ap (λ t. t || (count_by (λ (x : Turn). x.space == a.number) (asked_turns p) == a.rebases + 1)) (nonzero a.number child)) ∙ has)))

  has_still : (s : Space) → s.number ≢ a.number → has_turns (asked_turns p) s ≡ true → has_turns (asked_turns p ++ u ∷ []) s ≡ true
  has_still s other has =
      ap (λ k. (s.number == 0) || (k == s.rebases + 1))
      (counted s.number
      ∙ ap (λ t. count_by (λ (x : Turn). x.space == s.number) (asked_turns p) + cond t 1 0) (ne_eqb a.number s.number (λ same. other (sym same)))
      ∙ no_more (count_by (λ (x : Turn). x.space == s.number) (asked_turns p)))
      ∙ has
    where
      no_more : (k : ℕ) → k + 0 ≡ k
      no_more k = omega arith

  each_now : list_all (has_turns (asked_turns p)) p.spaces ≡ true → list_all (has_turns (asked_turns p ++ u ∷ [])) z.spaces ≡ true
  each_now has = all-found (λ (s : Space). s.number) (has_turns (asked_turns p ++ u ∷ [])) z.spaces numbers (λ m s is. by_number m s is (cases_eq m a.number))
    where
      numbers : differ (λ (s t : Space). s.number == t.number) z.spaces ≡ true
      numbers =
          let h = and_parts (nat_le (length z.spaces) 1024 && is_some (space_of z.spaces 0)) _ after in
          (and_parts (differ (λ (s t : Space). s.number == t.number) z.spaces) (differ (λ (s t : Space). bytes_eq s.name t.name) z.spaces && list_all (is_space (space_of z.spaces)) z.spaces) h.1).0

      by_number : (m : ℕ) (s : Space) → space_of z.spaces m ≡ Some s → (m ≡ a.number) ⊎ (m ≢ a.number) → has_turns (asked_turns p ++ u ∷ []) s ≡ true
      by_number m s is (inl here) =
          ap (has_turns (asked_turns p ++ u ∷ [])) (same_Some s c (sym is ∙ ap (space_of z.spaces) here ∙ found_now))
          ∙ has_one_more (found-passes (λ (x : Space). x.number == a.number) (has_turns (asked_turns p)) p.spaces a found has).1
      by_number m s is (inr other) =
          let there : space_of p.spaces m ≡ Some s = sym (away m other) ∙ is in
          has_still s (λ same. other (sym (space_number p m s there) ∙ same)) (found-passes (λ (x : Space). x.number == m) (has_turns (asked_turns p)) p.spaces s there has).1

  pub turns_rebased : are_turns p ≡ true → are_turns z ≡ true
  turns_rebased e =
      and_from (list_all (λ (x : Turn). is_some (space_of z.spaces x.space)) z.turns) _
      (all_push (λ (x : Turn). is_some (space_of z.spaces x.space)) p.turns u
      (all_if (λ (x : Turn). is_some (space_of p.spaces x.space)) (λ (x : Turn). is_some (space_of z.spaces x.space))
      (λ x is. some_swap (λ (s : Space). s.number == x.space) a c refl front back ∙ ap (λ ss. is_some (space_of ss x.space)) (sym old) ∙ is) p.turns rule.there)
      (ap is_some (ap (space_of z.spaces) its ∙ found_now)))
      (and_from (differ same_turn (asked_turns z)) (list_all (has_turns (asked_turns z)) z.spaces)
      (ap (differ same_turn) asked_now
      ∙ differ_push same_turn (asked_turns p) u rule.numbers
      (any-if (is_turn a.number (a.rebases + 1)) (λ x. same_turn x u)
      (λ x same. ap (λ k. (x.space == k) && (x.rebase == a.rebases + 1)) (sym its) ∙ ap (λ k. (x.space == u.space) && (x.rebase == k)) (sym number) ∙ same)
      (asked_turns p) (any_filter (is_turn a.number (a.rebases + 1)) (is_asked (space_of p.spaces)) p.turns unturned)))
      (ap (λ ts. list_all (has_turns ts) z.spaces) asked_now ∙ each_now rule.each))
    where
      rule : RuledTurns p
      rule = ruled_turns p e
