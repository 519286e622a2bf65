-- The records stand for the state that a change of tables or counters makes.
use Rattle.std.proofs.Common.{◌≡◌, ℕ, true, List, is_some, refl, sym, ap, ◌∙◌, ◌⊎◌, inl, ⊎_elim}
use Rattle.wm_graph.specs.Parts.{Parts}
use Rattle.wm_graph.specs.Rules.{keep_rules}
use Rattle.wm_spec.specs.Lists.{Entry}
use Rattle.wm_state.specs.State.{Durable, workspace_of, savepoints_of, log_of}
use Rattle.wm_state.specs.Standing.{latest, seen, seen_above, have_ends, Names, Newest, NamedStand, Owns, Own, Covers, OwnsStand, CountersStand, LocksStand, TablesStand, FieldsStand, Stands}
use Rattle.wm_state.proofs.Frames.{KeepRows, fields_stand, OnceStand-same, SavepointsStand-same}
use Rattle.wm_state.proofs.Keeping.{KeepRows-same}
use Rattle.wm_state.proofs.Logging.{HistsStand-frame}
use Rattle.wm_state.proofs.Marking.{MarksStand-same}
use Rattle.wm_state.proofs.Naming.{Framed, IsKeptOwn, IsMarked, IsNewest, IsNewestOwn, NamedStand-kept, Named-as, Owned-as, OwnsStand-kept, carries-same, framed_same, named_framed, owns_framed, past_framed, stays-same}
use Rattle.wm_state.proofs.Ready.{KeepReady}
use Rattle.wm_state.proofs.Staying.{EntriesStand-same, RowsStand-alike, SameTurns, SameTurns-same, TouchesStand-same, TurnsStand-alike}

-- but for tables, locks and counters all is as it was
pub record Retabled (p q : Parts) : Type 0 where
  pub rest : record q { counters = p.counters; tables = p.tables; locks = p.locks } ≡ p

module _ (p q : Parts) (s t : Durable) (r : Retabled p q) (spaces : t.spaces ≡ s.spaces) where
  -- the records agree with the state that they agreed with
  pub FieldsStand-retabled : FieldsStand p s → TablesStand q t → CountersStand q t → FieldsStand q t
  FieldsStand-retabled st tables counters = record {
    counters = counters;
    tables = tables;
    spaces = record { same = λ n. rw (ap (λ (z : Parts). z.spaces) r.rest, spaces) (st.spaces.same n) };
    once = OnceStand-same p q s t (ap (λ (z : Parts). z.spaces) r.rest) spaces st.once;
    savepoints = SavepointsStand-same p q s t (ap (λ (z : Parts). z.savepoints) r.rest) (λ n. ap (λ ws. savepoints_of ws n) spaces) st.savepoints;
  }

  framed : Framed p q s t
  framed = framed_same p q s t (ap (λ (z : Parts). z.savepoints) r.rest) (ap (λ (z : Parts). z.spaces) r.rest) spaces

  rows : KeepRows p q
  rows = KeepRows-same p q (ap (λ (z : Parts). z.rows) r.rest)

  logs : (n : ℕ) → log_of t.spaces n ≡ log_of s.spaces n
  logs n = ap (λ ws. log_of ws n) spaces

  NamedStand-retabled : keep_rules p ≡ true → FieldsStand p s → NamedStand p s → NamedStand q t
  NamedStand-retabled rules st named =
      NamedStand-kept p q s t rules st.spaces named (carries-same p q s.spaces t.spaces (ap (λ (z : Parts). z.versions) r.rest) (ap (λ (z : Parts). z.pieces) r.rest) (stays-same s.spaces t.spaces spaces) rows)
      (λ v n u es x. inl (record { named = was v n u es (named_framed p q s t framed v n u es x); sees = λ c. ap (λ (z : Parts). seen z v c) r.rest }))
    where
      was : (v n u : ℕ) (es : List Entry) → IsMarked p s v n u es ⊎ IsNewest q t v n u es → Names p s v n u es
      was v n u es = ⊎_elim (λ (h : IsMarked p s v n u es). h.named)
          (λ (h : IsNewest q t v n u es). Named-as p s v n u es _ _ _ _ (h.version ∙ ap (λ (z : Parts). latest z n) r.rest) refl h.rebases h.content (Newest h.now (ap (λ ws. workspace_of ws n) (sym spaces) ∙ h.is)))

  OwnsStand-retabled : OwnsStand p s → OwnsStand q t
  OwnsStand-retabled owns = OwnsStand-kept p q s t owns (λ base version es x. inl (was base version es (owns_framed p q s t framed base version es x), still base version es)) (past_framed p q s t framed owns)
    where
      still : (base version : ℕ) (es : List Entry) → Covers p base version es → Covers q base version es
      still base version es h = record { cells = λ c. ap (λ (z : Parts). is_some (seen_above z base version c)) r.rest ∙ h.cells c; ends = ap (λ (z : Parts). have_ends z base version es) r.rest ∙ h.ends }

      was : (base version : ℕ) (es : List Entry) → IsKeptOwn p s base version es ⊎ IsNewestOwn p q t base version es → Owns p s base version es
      was base version es = ⊎_elim (λ (h : IsKeptOwn p s base version es). h.owned)
          (λ (h : IsNewestOwn p q t base version es).
          Owned-as p s base version es _ _ _ h.under (h.over ∙ ap (λ (z : Parts). latest z h.number) r.rest) h.own (Own h.number h.now h.old (ap (λ ws. workspace_of ws h.number) (sym spaces) ∙ h.is) h.recorded))

  -- and stand for the state that they stood for, where the tables that were ready are so still
  pub Stands-retabled : Stands p s → TablesStand q t → LocksStand q t → CountersStand q t → keep_rules q ≡ true → KeepReady s.tables t.tables → Stands q t
  Stands-retabled st tables locks counters rules ready = record {
    rules = rules;
    counters = counters;
    tables = tables;
    spaces = fields.spaces;
    once = fields.once;
    savepoints = fields.savepoints;
    named = NamedStand-retabled st.rules (fields_stand p s st) st.named;
    owns = OwnsStand-retabled st.owns;
    turns = TurnsStand-alike p q s t (ap (λ (z : Parts). z.turns) r.rest) alike st.turns;
    touches = TouchesStand-same p q s t (ap (λ (z : Parts). z.touches) r.rest) spaces st.touches;
    marks = MarksStand-same p q s t (ap (λ (z : Parts). z.marks) r.rest) spaces st.marks;
    locks = locks;
    hists = HistsStand-frame p q s t (ap (λ (z : Parts). z.hists) r.rest) logs ready st.entries st.hists;
    entries = EntriesStand-same s t ready spaces st.entries;
    rows = RowsStand-alike p q s t rows ready logs alike st.entries st.rows;
  }
    where
      fields : FieldsStand q t
      fields = FieldsStand-retabled (fields_stand p s st) tables counters

      alike : SameTurns s.spaces t.spaces
      alike = SameTurns-same s.spaces t.spaces spaces
