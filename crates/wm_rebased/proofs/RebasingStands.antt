-- The records of a workspace that was rebased stand for the state in which it was.
use Rattle.std.proofs.Common.{◌≡◌, ◌≢◌, ℕ, ◌+◌, ◌<◌, ◌==◌, Bool, true, false, ◌&&◌, not, cond, List, [], ◌∷◌, ◌++◌, length, length-append, max, Option, Some, None, refl, sym, ap, subst, ◌∙◌, ◌⊎◌, inl, inr, arith}
use Rattle.std.proofs.lemmas.Bool.{cases_eq, eq-eqb, eqb-true, ne_eqb}
use Rattle.std.proofs.lemmas.List.Elements.{All-nil}
use Rattle.std.proofs.lemmas.Option.{same_Some}
use Rattle.std.specs.List.{All, filter, list_any, slice_get}
use Rattle.std.specs.Option.{option_map, option_or}
use Rattle.wm_graph.specs.Parts.{Parts}
use Rattle.wm_graph.specs.Rules.{keep_rules}
use Rattle.wm_spec.specs.Lists.{Cell, Entry}
use Rattle.wm_spec.specs.declared.record.piece.PieceRecord.{PieceRecord}
use Rattle.wm_spec.specs.declared.record.space.Space.{Space}
use Rattle.wm_spec.specs.declared.record.trace.Trace.{Trace}
use Rattle.wm_spec.specs.declared.record.turn.Turn.{Turn as TurnRecord}
use Rattle.wm_state.specs.State.{Durable, Turn, Workspace, content, log_of, turn_of, turns_of, with_space, workspace_of}
use Rattle.wm_state.specs.Standing.{CountersStand, EntriesStand, FieldsStand, HasRows, IsReal, IsRealMark, MarksStand, NamedStand, Newest, RowsStand, SpaceFields, SpacesStand, Stands, TouchesStand, TouchesTell, TurnFields, TurnsStand, marked_at, settled_from, turn_at, turned, turned_in}
use Rattle.wm_state.proofs.Frames.{HasRows-kept, KeepRows, fields_stand}
use Rattle.wm_state.proofs.Keeping.{KeepRows-same}
use Rattle.wm_state.proofs.Logging.{HistsStand-frame, log_of-changed, logs-kept}
use Rattle.wm_state.proofs.Mapped.{find-skip}
use Rattle.wm_state.proofs.Marking.{AreMarked, unmarked}
use Rattle.wm_state.proofs.Ready.{KeepReady, KeepReady-same, all_real-kept}
use Rattle.wm_state.proofs.Staying.{AreReal, EntriesStand-kept, LocksStand-same, TouchesStand-kept, entries_real, turns_in, turns_of-alike, turns_of-found}
use Rattle.wm_forked.proofs.Birth.{find_more}
use Rattle.wm_rebased.specs.Rebasing.{IsRebase, RebasedTo, is_elsewhere, turn_record}
use Rattle.wm_rebased.proofs.RebasingFields.{FieldsStand-rebased, WasRebased, before, found_away, found_here, new_here, recorded_here, recorded_parent, slice_get-push, turns_many}
use Rattle.wm_rebased.proofs.RebasingNamed.{NamedStand-rebased, OwnsStand-rebased, own_left}
use Rattle.wm_state.specs.Editing.{rebased, turn_on}

map-more : {A B : Type 0} (f : A → B) (o : Option A) (c : Bool) (x : A) → option_map f (option_or o (cond c (Some x) None)) ≡ option_or (option_map f o) (cond c (Some (f x)) None)
map-more f None true x = refl
map-more f None false x = refl
map-more f (Some y) c x = refl

-- where the marks of a workspace went, none is of it
none_left : (n m : ℕ) → m ≡ n → (xs : List Trace) → list_any (λ (x : Trace). x.space == m) (filter (is_elsewhere n) xs) ≡ false
none_left n m same [] = refl
none_left n m same (x ∷ xs) = by_test (x.space == n) refl (none_left n m same xs)
  where
    tail : List Trace
    tail = filter (is_elsewhere n) xs

    by_test : (b : Bool) → (x.space == n) ≡ b → list_any (λ (y : Trace). y.space == m) tail ≡ false → list_any (λ (y : Trace). y.space == m) (cond (not b) (x ∷ tail) tail) ≡ false
    by_test true here rest = rest
    by_test false away rest = rw (ap (λ k. x.space == k) same ∙ away) rest

-- and every other has those that it had
marked_still : (n m place : ℕ) (c : Cell) → m ≢ n → (xs : List Trace) → marked_at (filter (is_elsewhere n) xs) m place c ≡ marked_at xs m place c
marked_still n m place c other [] = refl
marked_still n m place c other (x ∷ xs) = by_test (x.space == n) refl (marked_still n m place c other xs)
  where
    tail : List Trace
    tail = filter (is_elsewhere n) xs

    none_more : (k : ℕ) → k ≡ max 0 k
    none_more k = omega arith

    by_test : (b : Bool) → (x.space == n) ≡ b → marked_at tail m place c ≡ marked_at xs m place c → marked_at (cond (not b) (x ∷ tail) tail) m place c ≡ marked_at (x ∷ xs) m place c
    by_test true here rest = rest ∙ rw (ne_eqb x.space m (λ same. other (sym same ∙ eqb-true x.space n here))) (none_more (marked_at xs m place c))
    by_test false away rest = rw rest refl

module _ (p q : Parts) (s t : Durable) (n number : ℕ) (emptied : Bool) (a b : Space) (news : List PieceRecord) (w pw : Workspace) (v : RebasedTo p q n number emptied a b news) (g : IsRebase s n w pw) (there : SpacesStand p s)
    (spaces : t.spaces ≡ with_space n (rebased emptied pw) s.spaces) where
  was : (m : ℕ) (new : Workspace) → workspace_of t.spaces m ≡ Some new → WasRebased n emptied pw s.spaces m new
  was m new is = before p q s t n number emptied a b news w pw v g there spaces m new is

  now : (m : ℕ) (new : Workspace) → workspace_of t.spaces m ≡ Some new → m ≡ n → new ≡ rebased emptied pw w
  now m new is here = new_here p q s t n number emptied a b news w pw v g there spaces m new is here

  it_found : workspace_of t.spaces n ≡ Some (rebased emptied pw w)
  it_found = found_here p q s t n number emptied a b news w pw v g there spaces

  -- ---- turns

  TurnsStand-rebased : TurnsStand p s → TurnsStand q t
  TurnsStand-rebased turns = record { counted = counted; same = λ m i. by_number m i (cases_eq m n) }
    where
      many : length w.turns ≡ w.rebases + 1
      many = turns_many p q s t n number emptied a b news w pw v g there spaces turns

      counted : (m : ℕ) (new : Workspace) → 0 < m → workspace_of t.spaces m ≡ Some new → length new.turns ≡ new.rebases + 1
      counted m new some is = by_how (was m new is)
        where
          by_how : WasRebased n emptied pw s.spaces m new → length new.turns ≡ new.rebases + 1
          by_how y = by_case y.how
            where
              by_case : ((m ≡ n) × (new ≡ rebased emptied pw y.old)) ⊎ ((m ≢ n) × (new ≡ y.old)) → length new.turns ≡ new.rebases + 1
              by_case (inl h) =
                  let same = now m new is h.0 in
                  ap (λ (o : Workspace). length o.turns) same ∙ length-append w.turns (turn_on pw ∷ []) ∙ ap (λ k. k + 1) many ∙ ap (λ (o : Workspace). o.rebases + 1) (sym same)
              by_case (inr h) = ap (λ (o : Workspace). length o.turns) h.1 ∙ turns.counted m y.old some y.is ∙ ap (λ (o : Workspace). o.rebases + 1) (sym h.1)

      swap : (i k : ℕ) → (i == k) ≡ (k == i)
      swap i k = grind arith

      -- the number of the new one is that behind the others
      last : (i : ℕ) → ((n == n) && (a.rebases + 1 == i)) ≡ (i == length w.turns)
      last i =
          ap (λ c. c && (a.rebases + 1 == i)) (eq-eqb n n refl)
          ∙ ap (λ k. k == i) (ap (λ (f : SpaceFields). f.rebases + 1) (recorded_here p q s t n number emptied a b news w pw v g there spaces) ∙ sym many)
          ∙ swap (length w.turns) i

      fields : turned (turn_record n a b) ≡ turned_in (turn_on pw)
      fields = ap (λ (f : SpaceFields). let x : TurnFields = record { log_length = f.log_length; rebases = f.rebases } in x) (recorded_parent p q s t n number emptied a b news w pw v g there spaces)

      recorded : (i : ℕ) → option_map turned (turn_at q.turns n i) ≡ option_map turned_in (slice_get (w.turns ++ turn_on pw ∷ []) i)
      recorded i =
          ap (λ xs. option_map turned (turn_at xs n i)) v.turns
          ∙ ap (option_map turned) (find_more (λ (y : TurnRecord). (y.space == n) && (y.rebase == i)) p.turns (turn_record n a b))
          ∙ map-more turned (turn_at p.turns n i) ((n == n) && (a.rebases + 1 == i)) (turn_record n a b)
          ∙ ap (λ o. option_or o (cond ((n == n) && (a.rebases + 1 == i)) (Some (turned (turn_record n a b))) None)) (turns.same n i ∙ ap (λ ts. option_map turned_in (slice_get ts i)) (turns_of-found s.spaces n w g.found))
          ∙ ap (λ c. option_or (option_map turned_in (slice_get w.turns i)) (cond c (Some (turned (turn_record n a b))) None)) (last i)
          ∙ ap (λ f. option_or (option_map turned_in (slice_get w.turns i)) (cond (i == length w.turns) (Some f) None)) fields
          ∙ sym (map-more turned_in (slice_get w.turns i) (i == length w.turns) (turn_on pw))
          ∙ ap (option_map turned_in) (sym (slice_get-push w.turns (turn_on pw) i))

      by_number : (m i : ℕ) → (m ≡ n) ⊎ (m ≢ n) → option_map turned (turn_at q.turns m i) ≡ option_map turned_in (slice_get (turns_of t.spaces m) i)
      by_number m i (inl here) =
          ap (λ k. option_map turned (turn_at q.turns k i)) here
          ∙ recorded i
          ∙ ap (λ ts. option_map turned_in (slice_get ts i)) (sym (turns_of-found t.spaces m (rebased emptied pw w) (ap (workspace_of t.spaces) here ∙ it_found)))
      by_number m i (inr away) =
          ap (λ xs. option_map turned (turn_at xs m i)) v.turns
          ∙ ap (option_map turned) (find-skip (λ (y : TurnRecord). (y.space == m) && (y.rebase == i)) p.turns (turn_record n a b) (ap (λ c. c && (a.rebases + 1 == i)) (ne_eqb n m (λ same. away (sym same)))))
          ∙ turns.same m i
          ∙ ap (λ ts. option_map turned_in (slice_get ts i)) (sym (turns_of-alike s.spaces t.spaces m (ap (option_map turns_in) (found_away p q s t n number emptied a b news w pw v g there spaces m away))))

  -- ---- marks

  MarksStand-rebased : MarksStand p s → MarksStand q t
  MarksStand-rebased stand = record {
    same = λ m new place c is. (marked m new is).same place c;
    real = λ m new is. (marked m new is).real;
  }
    where
      as_marked : (m : ℕ) (new : Workspace) → AreMarked (filter (is_elsewhere n) p.marks) m new → AreMarked q.marks m new
      as_marked m new = subst (λ xs. AreMarked xs m new) (sym v.marks)

      marked : (m : ℕ) (new : Workspace) → workspace_of t.spaces m ≡ Some new → AreMarked q.marks m new
      marked m new is = by_how (was m new is)
        where
          by_how : WasRebased n emptied pw s.spaces m new → AreMarked q.marks m new
          by_how y = by_case y.how
            where
              by_case : ((m ≡ n) × (new ≡ rebased emptied pw y.old)) ⊎ ((m ≢ n) × (new ≡ y.old)) → AreMarked q.marks m new
              by_case (inl h) = as_marked m new (unmarked (filter (is_elsewhere n) p.marks) m new (ap (λ (o : Workspace). o.settled) h.1) (none_left n m h.0 p.marks))
              by_case (inr h) = as_marked m new (record {
                same = λ place c. marked_still n m place c h.0 p.marks ∙ stand.same m y.old place c y.is ∙ ap (λ (o : Workspace). settled_from o.settled place c) (sym h.1);
                real = subst (λ (o : Workspace). All IsRealMark o.settled) (sym h.1) (stand.real m y.old y.is);
              })

  -- ---- touches, logs and entries

  TouchesStand-rebased : TouchesStand p s → TouchesStand q t
  TouchesStand-rebased = TouchesStand-kept p q s t
      (λ m new is. let y = was m new is in
      inl (record { old = y.old; is = y.is; log = y.log; place = y.place; savepoints = y.savepoints }, λ below log tell. subst (λ xs. TouchesTell xs m below log) (sym (ap (λ (z : Parts). z.touches) v.rest)) tell))

  logs_rebased : (m : ℕ) → log_of t.spaces m ≡ log_of s.spaces m
  logs_rebased m = ap (λ ws. log_of ws m) spaces ∙ log_of-changed n (rebased emptied pw) (λ o. refl) (λ o. refl) s.spaces m

  EntriesStand-rebased : KeepReady s.tables t.tables → EntriesStand s → EntriesStand t
  EntriesStand-rebased ready entries = EntriesStand-kept t (λ m new is. each m new (was m new is))
    where
      real : (now_es es : List Entry) → now_es ≡ es → All (IsReal s.tables) es → All (IsReal t.tables) now_es
      real now_es es same all = subst (λ xs. All (IsReal t.tables) xs) (sym same) (all_real-kept s.tables t.tables ready es all)

      each : (m : ℕ) (new : Workspace) → WasRebased n emptied pw s.spaces m new → AreReal t.tables new
      each m new y = record {
        log = real new.lists.log y.old.lists.log y.log old.log;
        own = by_case y.how;
        kept = λ at j made. real j.own j.own refl (old.kept at j (rw (sym y.savepoints) made));
      }
        where
          old : AreReal s.tables y.old
          old = entries_real s entries m y.old y.is

          left : (d : Bool) → All (IsReal t.tables) (own_left d y.old)
          left true = All-nil (IsReal t.tables)
          left false = real y.old.lists.own y.old.lists.own refl old.own

          by_case : ((m ≡ n) × (new ≡ rebased emptied pw y.old)) ⊎ ((m ≢ n) × (new ≡ y.old)) → All (IsReal t.tables) new.lists.own
          by_case (inl h) = subst (λ xs. All (IsReal t.tables) xs) (sym (ap (λ (o : Workspace). o.lists.own) h.1)) (left emptied)
          by_case (inr h) = real new.lists.own y.old.lists.own (ap (λ (o : Workspace). o.lists.own) h.1) old.own

  keep_rows : KeepRows p q
  keep_rows = KeepRows-same p q (ap (λ (z : Parts). z.rows) v.rest)

  RowsStand-rebased : KeepReady s.tables t.tables → NamedStand p s → EntriesStand s → RowsStand p s → RowsStand q t
  RowsStand-rebased ready named entries stand = record { logs = logs-kept p q s t keep_rows ready logs_rebased entries stand.logs; turns = taken }
    where
      -- what it took of its parent has its rows there
      by_last : (c : Bool) (x : Turn) → cond c (Some (turn_on pw)) None ≡ Some x → HasRows q x.content
      by_last true x is = subst (λ (o : Turn). HasRows q o.content) (same_Some (turn_on pw) x is) (HasRows-kept p q keep_rows (content pw) (named.tells _ _ _ _ (Newest pw g.parent)).rows)
      by_last false x is = cc

      by_old : (i : ℕ) (x : Turn) (o : Option Turn) → slice_get w.turns i ≡ o → option_or o (cond (i == length w.turns) (Some (turn_on pw)) None) ≡ Some x → HasRows q x.content
      by_old i x None none is = by_last (i == length w.turns) x is
      by_old i x (Some y) some is = HasRows-kept p q keep_rows x.content (stand.turns n i w x g.found (some ∙ is))

      taken : (m i : ℕ) (new : Workspace) (x : Turn) → workspace_of t.spaces m ≡ Some new → turn_of new i ≡ Some x → HasRows q x.content
      taken m i new x is turn = by_how (was m new is)
        where
          by_how : WasRebased n emptied pw s.spaces m new → HasRows q x.content
          by_how y = by_case y.how
            where
              by_case : ((m ≡ n) × (new ≡ rebased emptied pw y.old)) ⊎ ((m ≢ n) × (new ≡ y.old)) → HasRows q x.content
              by_case (inl h) = by_old i x (slice_get w.turns i) refl (sym (slice_get-push w.turns (turn_on pw) i) ∙ ap (λ (o : Workspace). turn_of o i) (sym (now m new is h.0)) ∙ turn)
              by_case (inr h) = HasRows-kept p q keep_rows x.content (stand.turns m i y.old x y.is (ap (λ (o : Workspace). turn_of o i) (sym h.1) ∙ turn))

-- ---- the records stand for the state with the workspace rebased

pub Stands-rebased : (p q : Parts) (s t : Durable) (n number : ℕ) (emptied : Bool) (a b : Space) (news : List PieceRecord) (w pw : Workspace) → RebasedTo p q n number emptied a b news → Stands p s → IsRebase s n w pw
    → t.spaces ≡ with_space n (rebased emptied pw) s.spaces → t.tables ≡ s.tables → t.locks ≡ s.locks → CountersStand q t → keep_rules q ≡ true → Stands q t
Stands-rebased p q s t n number emptied a b news w pw v st g spaces tables locks counters rules = record {
  rules = rules;
  counters = counters;
  tables = fields.tables;
  spaces = fields.spaces;
  once = fields.once;
  savepoints = fields.savepoints;
  named = NamedStand-rebased p q s t n number emptied a b news w pw v g st.rules st.spaces st.named st.owns st.turns spaces;
  owns = OwnsStand-rebased p q s t n number emptied a b news w pw v g st.rules st.spaces st.named st.owns st.turns spaces;
  turns = TurnsStand-rebased p q s t n number emptied a b news w pw v g st.spaces spaces st.turns;
  touches = TouchesStand-rebased p q s t n number emptied a b news w pw v g st.spaces spaces st.touches;
  marks = MarksStand-rebased p q s t n number emptied a b news w pw v g st.spaces spaces st.marks;
  locks = LocksStand-same p q s t (ap (λ (z : Parts). z.locks) v.rest) locks st.locks;
  hists = HistsStand-frame p q s t (ap (λ (z : Parts). z.hists) v.rest) (logs_rebased p q s t n number emptied a b news w pw v g st.spaces spaces) ready st.entries st.hists;
  entries = EntriesStand-rebased p q s t n number emptied a b news w pw v g st.spaces spaces ready st.entries;
  rows = RowsStand-rebased p q s t n number emptied a b news w pw v g st.spaces spaces ready st.named st.entries st.rows;
}
  where
    fields : FieldsStand q t
    fields = FieldsStand-rebased p q s t n number emptied a b news w pw v g (fields_stand p s st) spaces tables counters

    ready : KeepReady s.tables t.tables
    ready = KeepReady-same s.tables t.tables tables
