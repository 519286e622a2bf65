-- The records stand for the state in which a workspace has other fields, of which records name none: its freeze, and who may write then.
use Rattle.std.proofs.Common.{◌≡◌, ◌≢◌, ℕ, ◌==◌, Bool, true, false, cond, List, ◌++◌, map, length, Option, Some, None, is_some, refl, sym, ap, subst, ◌∙◌, ◌⊎◌, inl, inr, ⊎_elim}
use Rattle.std.proofs.lemmas.Bool.{eqb-true}
use Rattle.std.proofs.lemmas.Option.{same_Some}
use Rattle.std.specs.List.{All}
use Rattle.std.specs.Option.{option_map}
use Rattle.wm_graph.specs.Parts.{Parts, space_of}
use Rattle.wm_graph.specs.Rules.{keep_rules}
use Rattle.wm_spec.specs.Lists.{Cell, Entry}
use Rattle.wm_spec.specs.declared.record.space.Space.{Space}
use Rattle.wm_state.specs.State.{Contents, Durable, Workspace, content, log_of, savepoints_of, with_space, workspace_of}
use Rattle.wm_state.specs.Standing.{Covers, CountersStand, FieldsStand, NamedStand, Newest, Own, Owns, OwnsStand, SpaceFields, SpacesStand, Stands, TouchesTell, by_number, fields_in, fields_of, have_ends, latest, seen, seen_above}
use Rattle.wm_state.proofs.Changing.{WasChanged, told_still, was_changed, workspace_of-changed}
use Rattle.wm_state.proofs.Frames.{KeepRows, OnceStand-changed, SavepointsStand-same, fields_stand, savepoints_of-changed}
use Rattle.wm_state.proofs.Keeping.{KeepRows-same}
use Rattle.wm_state.proofs.Logging.{HistsStand-frame, log_of-changed}
use Rattle.wm_state.proofs.Marking.{MarksStand-alike, marks_in}
use Rattle.wm_state.proofs.Naming.{Carries, Framed, IsKeptOwn, IsMarked, IsNewest, IsNewestOwn, Named-as, NamedStand-kept, Owned-as, OwnsStand-kept, Still, StillNames, WasNamed, carries-same, named_framed, owns_framed, past_framed, stays-changed}
use Rattle.wm_state.proofs.Ready.{KeepReady, KeepReady-same}
use Rattle.wm_state.proofs.Staying.{AreReal, AreReal-same, EntriesStand-kept, LocksStand-same, RowsStand-alike, SameTurns, TouchesStand-kept, TurnsIn, TurnsStand-alike, WasTouched, entries_real, part-changed, turns_in}
use Rattle.wm_locked.specs.Freezing.{Leaves, Renewed}

module _ (p q : Parts) (s t : Durable) (n : ℕ) (act : Workspace → Workspace) (a b : Space) (k : Leaves act) (g : Renewed p q n a b) (spaces : t.spaces ≡ with_space n act s.spaces)
    (fits : (w : Workspace) → fields_of a ≡ fields_in w → fields_of b ≡ fields_in (act w)) where
  -- ---- workspaces

  now : (m : ℕ) → workspace_of t.spaces m ≡ cond (m == n) (option_map act (workspace_of s.spaces m)) (workspace_of s.spaces m)
  now m = ap (λ us. workspace_of us m) spaces ∙ workspace_of-changed n act k.number s.spaces m

  before : (m : ℕ) (new : Workspace) → workspace_of t.spaces m ≡ Some new → WasChanged n act s.spaces m new
  before m new is = was_changed n act k.number s.spaces m new (ap (λ us. workspace_of us m) (sym spaces) ∙ is)

  part : {A : Type 0} (m : ℕ) (new : Workspace) (f : Workspace → A) → ((w : Workspace) → f (act w) ≡ f w) → (y : WasChanged n act s.spaces m new) → f new ≡ f y.old
  part m new f same y = told_still n act s.spaces m new f same y

  told_lists : {A : Type 0} (f : Contents → A) (w : Workspace) → f (act w).lists ≡ f w.lists
  told_lists f w = ap f (k.lists w)

  fields_same : SpacesStand p s → (m : ℕ) → option_map fields_of (space_of q.spaces m) ≡ option_map fields_in (workspace_of t.spaces m)
  fields_same st m = by_number (m == n) refl
    where
      none_fields : (f : SpaceFields) → Some f ≡ (let nothing : Option SpaceFields = None in nothing) → ⊥
      none_fields f e = cc

      here : (o : Option Workspace) → workspace_of s.spaces m ≡ o → Some (fields_of a) ≡ option_map fields_in o → Some (fields_of b) ≡ option_map fields_in (option_map act o)
      here None none e = absurd (none_fields (fields_of a) e)
      here (Some w) found e = ap Some (fits w (same_Some (fields_of a) (fields_in w) e))

      by_number : (c : Bool) → (m == n) ≡ c → option_map fields_of (space_of q.spaces m) ≡ option_map fields_in (workspace_of t.spaces m)
      by_number true is =
          ap (λ i. option_map fields_of (space_of q.spaces i)) (eqb-true m n is)
          ∙ ap (option_map fields_of) g.here
          ∙ here (workspace_of s.spaces m) refl (sym (ap (λ i. option_map fields_of (space_of p.spaces i)) (eqb-true m n is) ∙ ap (option_map fields_of) g.old) ∙ st.same m)
          ∙ ap (option_map fields_in) (sym (now m ∙ ap (λ c. cond c (option_map act (workspace_of s.spaces m)) (workspace_of s.spaces m)) is))
      by_number false is =
          ap (option_map fields_of) (g.elsewhere m is)
          ∙ st.same m
          ∙ ap (option_map fields_in) (sym (now m ∙ ap (λ c. cond c (option_map act (workspace_of s.spaces m)) (workspace_of s.spaces m)) is))

  points_same : (m : ℕ) → savepoints_of t.spaces m ≡ savepoints_of s.spaces m
  points_same m = ap (λ us. savepoints_of us m) spaces ∙ savepoints_of-changed n act k.number k.savepoints s.spaces m

  logs : (m : ℕ) → log_of t.spaces m ≡ log_of s.spaces m
  logs m = ap (λ us. log_of us m) spaces ∙ log_of-changed n act k.number (told_lists (λ (c : Contents). c.log)) s.spaces m

  turned : (w : Workspace) → turns_in (act w) ≡ turns_in w
  turned w = rw (k.turns w, k.rebases w) refl

  alike : SameTurns s.spaces t.spaces
  alike = part-changed turns_in n act k.number turned s.spaces t.spaces spaces

  rows : KeepRows p q
  rows = KeepRows-same p q (ap (λ (z : Parts). z.rows) g.rest)

  -- ---- what the records have of them

  pub FieldsStand-renewed : FieldsStand p s → t.tables ≡ s.tables → CountersStand q t → FieldsStand q t
  FieldsStand-renewed st tables counters = record {
    counters = counters;
    tables = record { same = ap (λ (z : Parts). by_number z.tables) g.rest ∙ st.tables.same ∙ sym tables };
    spaces = record { same = fields_same st.spaces };
    once = OnceStand-changed p q s t n act k.number spaces g.count st.once;
    savepoints = SavepointsStand-same p q s t (ap (λ (z : Parts). z.savepoints) g.rest) points_same st.savepoints;
  }

  -- ---- versions that are named, and what is own

  framed : Framed p q s t
  framed = record {
    savepoints = ap (λ (z : Parts). z.savepoints) g.rest;
    still = λ m new is. still m new (before m new is);
    names = λ m r recorded. by_number m r recorded (m == n) refl;
  }
    where
      still : (m : ℕ) (new : Workspace) → WasChanged n act s.spaces m new → Still s m new
      still m new y = record {
        old = y.old;
        is = y.is;
        parent = part m new (λ (w : Workspace). w.parent) k.parent y;
        savepoints = part m new (λ (w : Workspace). w.savepoints) k.savepoints y;
        rebases = part m new (λ (w : Workspace). w.rebases) k.rebases y;
        turns = part m new (λ (w : Workspace). w.turns) k.turns y;
        base = part m new (λ (w : Workspace). w.lists.base) (told_lists (λ (c : Contents). c.base)) y;
      }

      by_number : (m : ℕ) (r : Space) → space_of q.spaces m ≡ Some r → (c : Bool) → (m == n) ≡ c → StillNames p m r
      by_number m r recorded true is =
          let same : b ≡ r = same_Some b r (sym (ap (space_of q.spaces) (eqb-true m n is) ∙ g.here) ∙ recorded) in
          record {
            old = a;
            is = ap (space_of p.spaces) (eqb-true m n is) ∙ g.old;
            birth = ap (λ (x : Space). x.birth_version) (sym same) ∙ g.birth;
            base = ap (λ (x : Space). x.base_version) (sym same) ∙ g.base;
          }
      by_number m r recorded false is = record { old = r; is = sym (g.elsewhere m is) ∙ recorded; birth = refl; base = refl }

  carries : Carries p q s.spaces t.spaces
  carries = carries-same p q s.spaces t.spaces (ap (λ (z : Parts). z.versions) g.rest) (ap (λ (z : Parts). z.pieces) g.rest) (stays-changed s.spaces t.spaces n act k.number k.parent k.turns spaces) rows

  NamedStand-renewed : keep_rules p ≡ true → SpacesStand p s → NamedStand p s → NamedStand q t
  NamedStand-renewed rules there named =
      NamedStand-kept p q s t rules there named carries
      (λ v m r fs x. inl (⊎_elim (λ (i : IsMarked p s v m r fs). was v m r fs i) (newest v m r fs) (named_framed p q s t framed v m r fs x)))
    where
      sees : (v : ℕ) (c : Cell) → seen q v c ≡ seen p v c
      sees v c = ap (λ (z : Parts). seen z v c) g.rest

      was : (v m r : ℕ) (fs : List Entry) → IsMarked p s v m r fs → WasNamed p q s v m r fs
      was v m r fs i = record { named = i.named; sees = sees v }

      newest : (v m r : ℕ) (fs : List Entry) → IsNewest q t v m r fs → WasNamed p q s v m r fs
      newest v m r fs i =
          let y = before m i.now i.is in
          record {
            named = Named-as p s _ _ _ _ _ _ _ _ (i.version ∙ ap (λ (z : Parts). latest z m) g.rest) refl (i.rebases ∙ part m i.now (λ (w : Workspace). w.rebases) k.rebases y)
                (i.content ∙ part m i.now content (told_lists (λ (c : Contents). content_of c)) y) (Newest y.old y.is);
            sees = sees v;
          }
        where
          content_of : Contents → List Entry
          content_of c = c.base ++ c.own

  OwnsStand-renewed : OwnsStand p s → OwnsStand q t
  OwnsStand-renewed owns =
      OwnsStand-kept p q s t owns
      (λ base v fs x. inl (⊎_elim (λ (i : IsKeptOwn p s base v fs). i.owned) (newest base v fs) (owns_framed p q s t framed base v fs x), still base v fs))
      (past_framed p q s t framed owns)
    where
      still : (base v : ℕ) (fs : List Entry) → Covers p base v fs → Covers q base v fs
      still base v fs i = record { cells = λ c. ap (λ (z : Parts). is_some (seen_above z base v c)) g.rest ∙ i.cells c; ends = ap (λ (z : Parts). have_ends z base v fs) g.rest ∙ i.ends }

      newest : (base v : ℕ) (fs : List Entry) → IsNewestOwn p q t base v fs → Owns p s base v fs
      newest base v fs i =
          let y = before i.number i.now i.is in
          Owned-as p s _ _ _ _ _ _ i.under (i.over ∙ ap (λ (z : Parts). latest z i.number) g.rest) (i.own ∙ part i.number i.now (λ (w : Workspace). w.lists.own) (told_lists (λ (c : Contents). c.own)) y)
          (Own i.number y.old i.old y.is i.recorded)

  -- ---- all clauses

  pub Stands-renewed : Stands p s → t.tables ≡ s.tables → t.locks ≡ s.locks → CountersStand q t → keep_rules q ≡ true → Stands q t
  Stands-renewed st tables locks counters rules = record {
    rules = rules;
    counters = counters;
    tables = fields.tables;
    spaces = fields.spaces;
    once = fields.once;
    savepoints = fields.savepoints;
    named = NamedStand-renewed st.rules st.spaces st.named;
    owns = OwnsStand-renewed st.owns;
    turns = TurnsStand-alike p q s t (ap (λ (z : Parts). z.turns) g.rest) alike st.turns;
    touches = TouchesStand-kept p q s t (λ m new is. inl (touched m new (before m new is), λ below log tell. subst (λ xs. TouchesTell xs m below log) (sym touches) tell)) st.touches;
    marks = MarksStand-alike p q s t (ap (λ (z : Parts). z.marks) g.rest) (part-changed marks_in n act k.number k.settled s.spaces t.spaces spaces) st.marks;
    locks = LocksStand-same p q s t (ap (λ (z : Parts). z.locks) g.rest) locks st.locks;
    hists = HistsStand-frame p q s t (ap (λ (z : Parts). z.hists) g.rest) logs ready st.entries st.hists;
    entries = EntriesStand-kept t (λ m new is. real m new (before m new is));
    rows = RowsStand-alike p q s t rows ready logs alike st.entries st.rows;
  }
    where
      fields : FieldsStand q t
      fields = FieldsStand-renewed (fields_stand p s st) tables counters

      ready : KeepReady s.tables t.tables
      ready = KeepReady-same s.tables t.tables tables

      touches : q.touches ≡ p.touches
      touches = ap (λ (z : Parts). z.touches) g.rest

      touched : (m : ℕ) (new : Workspace) → WasChanged n act s.spaces m new → WasTouched s m new
      touched m new y = record {
        old = y.old;
        is = y.is;
        log = part m new (λ (w : Workspace). w.lists.log) (told_lists (λ (c : Contents). c.log)) y;
        place = part m new (λ (w : Workspace). w.next_place) k.place y;
        savepoints = part m new (λ (w : Workspace). w.savepoints) k.savepoints y;
      }

      real : (m : ℕ) (new : Workspace) → WasChanged n act s.spaces m new → AreReal t.tables new
      real m new y =
          AreReal-same s.tables t.tables y.old new ready (part m new (λ (w : Workspace). w.lists.log) (told_lists (λ (c : Contents). c.log)) y) (part m new (λ (w : Workspace). w.lists.own) (told_lists (λ (c : Contents). c.own)) y)
          (part m new (λ (w : Workspace). w.savepoints) k.savepoints y) (entries_real s st.entries m y.old y.is)
