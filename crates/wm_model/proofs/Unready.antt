-- What a lawful state merges or gains can be written again, what is own can be copied, and the next turn of a workspace is not there.
use Rattle.std.proofs.Common.{arith, ◌≡◌, ℕ, ◌+◌, ◌<◌, ◌≤◌, ◌==◌, ◌&&◌, ◌||◌, length, nat_le, nat_lt, Bool, true, false, List, [], ◌∷◌, drop, slice_get, Option, Some, None, refl, sym, ap, subst, ◌∙◌}
use Rattle.std.proofs.lemmas.List.Elements.{All-cons, All-drop, All-head, All-nil, All-tail}
use Rattle.std.proofs.lemmas.Option.{slice_get_past}
use Rattle.std.proofs.lemmas.Bool.{and_from, and_parts, or_right}
use Rattle.std.specs.Bool.{then_some}
use Rattle.std.specs.List.{All, list_all, list_any}
use Rattle.std.specs.Option.{option_map, option_map_or, option_or}
use Rattle.wm_base.specs.Period.{covers as in_period}
use Rattle.wm_base.specs.declared.instant.TheConstants.{END}
use Rattle.wm_base.specs.declared.row.Row.{Row}
use Rattle.wm_base.specs.declared.value.Value.{Value}
use Rattle.wm_base.specs.declared.value.Value.TheVariants.{Null, Num, Text, Time, Span}
use Rattle.wm_graph.specs.Parts.{parts_of}
use Rattle.wm_making.specs.Rows.{is_filled}
use Rattle.wm_net.specs.Nets.{net}
use Rattle.wm_period.specs.Pieces.{Between, Held, held, held_at}
use Rattle.wm_period.specs.declared.piece.Piece.{Piece}
use Rattle.wm_spec.specs.Lists.{Cell, Entry, Told, covers, told, told_of}
use Rattle.wm_spec.specs.declared.record.space.Space.{Space}
use Rattle.wm_spec.specs.declared.record.stored.Stored.{Stored}
use Rattle.wm_spec.specs.declared.record.table.Table.{Table}
use Rattle.wm_spec.specs.declared.record.turn.Turn.{Turn as TurnRecord}
use Rattle.wm_state.specs.Copied.{HoldsKey, KeyPieces, key_cell}
use Rattle.wm_state.specs.Drafts.{can_keep, is_turn}
use Rattle.wm_state.specs.Standing.{IsReal, SpaceFields, held_of, is_ready, turn_at, turned, turned_in}
use Rattle.wm_state.specs.State.{Session, State, Turn}
use Rattle.wm_state.proofs.Laying.{key_same}
use Rattle.wm_state.proofs.Logging.{log_of-found}
use Rattle.wm_state.proofs.Mapped.{none-found}
use Rattle.wm_state.proofs.Ready.{tables_found}
use Rattle.wm_state.proofs.Staying.{turns_of-found}
use Rattle.wm_telling.specs.Telling.{own_held}
use Rattle.wm_telling.proofs.Beside.{own_is_held}
use Rattle.wm_telling.proofs.Everywhere.{EntryHas, gained_all, net_all}
use Rattle.wm_model.specs.Lawful.{Each, IsSound, is_full_row}
use Rattle.wm_model.specs.Merged.{are_keys_kept, is_ready_entry}
use Rattle.wm_model.specs.Planning.{StandsAt}
use Rattle.wm_model.specs.Step.{gained_of}
use Rattle.wm_model.proofs.Families.{Family}

-- ---- texts

-- what is filled can be kept, and nothing else
pub can_keep-filled : (v : Value) → can_keep v ≡ is_filled v
can_keep-filled Null = refl
can_keep-filled (Num n) = refl
can_keep-filled (Text t) = refl
can_keep-filled (Time i) = refl
can_keep-filled (Span p) = refl

pub filled_kept : (vs : List Value) → list_all is_filled vs ≡ true → list_all can_keep vs ≡ true
filled_kept [] all = refl
filled_kept (v ∷ vs) all =
    let h = and_parts (is_filled v) (list_all is_filled vs) all in and_from (can_keep v) (list_all can_keep vs) (can_keep-filled v ∙ h.0) (filled_kept vs h.1)

pub row_kept : (o : Option Row) → option_map_or is_full_row o true ≡ true → option_map_or (λ (row : Row). list_all can_keep row.values) o true ≡ true
row_kept None full = refl
row_kept (Some row) full = filled_kept row.values full

-- ---- entries

-- an entry of this table, key and row can be written again
abbrev Ready : List Table → ℕ → List Value → Option Row → Type 0
Ready tables table key row = (is_ready tables table && (list_all can_keep key && option_map_or (λ (r : Row). list_all can_keep r.values) row true)) ≡ true

ready_each : (tables : List Table) (tells : ℕ → Told) (next : ℕ) (es : List Entry) → All (IsReal tables) es → Each (IsSound tells next) es → All (EntryHas (Ready tables)) es
ready_each tables tells next [] real sound = All-nil (EntryHas (Ready tables))
ready_each tables tells next (e ∷ es) real sound =
    All-cons (EntryHas (Ready tables)) e es
    (and_from (is_ready tables e.table) _ (All-head (IsReal tables) e es real).on
    (and_from (list_all can_keep e.key) _ (filled_kept e.key sound.0.keyed) (row_kept e.row sound.0.filled)))
    (ready_each tables tells next es (All-tail (IsReal tables) e es real) sound.1)

ready_all : (was now : List Table) → ((n : ℕ) → is_ready was n ≡ is_ready now n) → (es : List Entry) → All (EntryHas (Ready was)) es
    → list_all (λ (e : Entry). is_ready now e.table && (list_all can_keep e.key && option_map_or (λ (r : Row). list_all can_keep r.values) e.row true)) es ≡ true
ready_all was now same [] all = refl
ready_all was now same (e ∷ es) all =
    and_from (is_ready now e.table && kept) _
    (ap (λ b. b && kept) (sym (same e.table)) ∙ All-head (EntryHas (Ready was)) e es all)
    (ready_all was now same es (All-tail (EntryHas (Ready was)) e es all))
  where
    kept : Bool
    kept = list_all can_keep e.key && option_map_or (λ (r : Row). list_all can_keep r.values) e.row true

-- ---- keys

-- a cell at which filled entries tell something has a key that can be kept
told_keyed : (tells : ℕ → Told) (next : ℕ) (es : List Entry) (c : Cell) (t : Told) → Each (IsSound tells next) es → told es c ≡ Some t → list_all can_keep c.key ≡ true
told_keyed tells next [] c t sound e = absurd (cc)
told_keyed tells next (x ∷ xs) c t sound e = by_told (told xs c) (covers x c) refl refl e (told_keyed tells next xs c t sound.1)
  where
    by_told : (o : Option Told) (b : Bool) → told xs c ≡ o → covers x c ≡ b → option_or o (then_some b (told_of x)) ≡ Some t → (told xs c ≡ Some t → list_all can_keep c.key ≡ true) → list_all can_keep c.key ≡ true
    by_told (Some u) b at is h rest = rest (at ∙ h)
    by_told None true at is h rest = subst (λ (k : List Value). list_all can_keep k ≡ true) (key_same x.key c.key (and_parts _ _ (and_parts _ _ is).0).1) (filled_kept x.key sound.0.keyed)
    by_told None false at is h rest = absurd (cc)

-- pieces hold something, where there are some
record Holding (ps : List Piece) : Type 0 where
  time : ℕ
  value : Held
  is : held_at ps time ≡ Some value

holding : (low high : ℕ) (p : Piece) (ps : List Piece) → Between low (p ∷ ps) high → Holding (p ∷ ps)
holding low high p ps lie = record { time = p.period.from; value = held p; is = ap (λ b. option_or (then_some b (held p)) (held_at ps p.period.from)) (begins p.period.from p.period.till lie.1) }
  where
    begins : (from till : ℕ) → from < till → in_period (record { from = from; till = till }) from ≡ true
    begins from till lt = and_from (nat_le from from) (nat_lt from till) (grind arith) (grind (arith, lt))

module _ (rs : List Stored) (workspace : List ℕ) (a b : Space) (xs : List Session) (m : ℕ) (s : State) (st : StandsAt rs xs m s) (f : Family rs workspace a b s) where
  -- a key with pieces of what is own can be kept
  key_kept : (k : KeyPieces) (ps : List Piece) → k.pieces ≡ ps → HoldsKey (own_held (parts_of rs) a) k → ((length ps == 0) || list_all can_keep k.key) ≡ true
  key_kept k [] is holds = refl
  key_kept k (p ∷ ps) is holds =
      or_right (length (p ∷ ps) == 0) (list_all can_keep k.key)
      (by_told (told f.w.lists.own c) refl
      (sym (own_is_held (parts_of rs) s.durable a.number f.w a st.stands f.is.found f.is.recorded c) ∙ sym (holds.holds some.time) ∙ ap (λ (qs : List Piece). held_at qs some.time) is ∙ some.is))
    where
      some : Holding (p ∷ ps)
      some = holding 0 END p ps (subst (λ (qs : List Piece). Between 0 qs END) is holds.lie)

      c : Cell
      c = key_cell k some.time

      by_told : (o : Option Told) → told f.w.lists.own c ≡ o → option_map held_of o ≡ Some some.value → list_all can_keep k.key ≡ true
      by_told None is h = absurd (cc)
      by_told (Some t) is h = told_keyed st.lawful.durable.entries.tells s.durable.next_stamp f.w.lists.own c t (st.lawful.durable.entries.each a.number f.w f.is.found).own is

  pub keys_kept : (ks : List KeyPieces) → All (HoldsKey (own_held (parts_of rs) a)) ks → are_keys_kept ks ≡ true
  keys_kept [] each = refl
  keys_kept (k ∷ ks) each =
      and_from ((length k.pieces == 0) || list_all can_keep k.key) _ (key_kept k k.pieces refl (All-head (HoldsKey (own_held (parts_of rs) a)) k ks each))
      (keys_kept ks (All-tail (HoldsKey (own_held (parts_of rs) a)) k ks each))

  -- ---- what is written again

  ready_same : (n : ℕ) → is_ready s.durable.tables n ≡ is_ready (parts_of rs).tables n
  ready_same n = ap (λ o. option_map_or (λ (t : Table). t.versioned) o false) (tables_found (parts_of rs) s.durable st.stands.tables n)

  -- what is merged
  pub net_ready : (k : ℕ) (user : List ℕ) → list_all (is_ready_entry (parts_of rs)) (net k user f.w.lists.own) ≡ true
  net_ready k user =
      ready_all s.durable.tables (parts_of rs).tables ready_same (net k user f.w.lists.own)
      (net_all (Ready s.durable.tables) k user f.w.lists.own
      (ready_each s.durable.tables st.lawful.durable.entries.tells s.durable.next_stamp f.w.lists.own (st.stands.entries.own a.number f.w f.is.found) (st.lawful.durable.entries.each a.number f.w f.is.found).own))

  -- and what is gained
  pub gained_ready : (k : ℕ) (user : List ℕ) → list_all (is_ready_entry (parts_of rs)) (gained_of k user f.q f.w) ≡ true
  gained_ready k user =
      ready_all s.durable.tables (parts_of rs).tables ready_same (gained_of k user f.q f.w)
      (gained_all (Ready s.durable.tables) k user f.w.lists.own (drop f.w.from f.q.lists.log)
      (All-drop (EntryHas (Ready s.durable.tables)) f.w.from f.q.lists.log
      (ready_each s.durable.tables st.lawful.durable.entries.tells s.durable.next_stamp f.q.lists.log log (st.lawful.durable.entries.each b.number f.q f.above.found).log)))
    where
      log : All (IsReal s.durable.tables) f.q.lists.log
      log = subst (All (IsReal s.durable.tables)) (log_of-found s.durable.spaces b.number f.q f.above.found) (st.stands.entries.logs b.number)

  -- ---- the next turn

  pub unturned : list_any (is_turn a.number (a.rebases + 1)) (parts_of rs).turns ≡ false
  unturned = none-found (is_turn a.number (a.rebases + 1)) (parts_of rs).turns (unmapped (turn_at (parts_of rs).turns a.number (a.rebases + 1)) none)
    where
      unmapped : (o : Option TurnRecord) → option_map turned o ≡ None → o ≡ None
      unmapped None e = refl
      unmapped (Some t) e = absurd (cc)

      past : length f.w.turns ≤ a.rebases + 1
      past =
          let count = st.stands.turns.counted a.number f.w f.child f.is.found in
          let rebases : a.rebases ≡ f.w.rebases = ap (λ (x : SpaceFields). x.rebases) f.is.fields in
          omega (arith, count, rebases)

      none : option_map turned (turn_at (parts_of rs).turns a.number (a.rebases + 1)) ≡ None
      none =
          st.stands.turns.same a.number (a.rebases + 1)
          ∙ ap (λ (ts : List Turn). option_map turned_in (slice_get ts (a.rebases + 1))) (turns_of-found s.durable.spaces a.number f.w f.is.found)
          ∙ ap (option_map turned_in) (slice_get_past f.w.turns (a.rebases + 1) past)
