-- The records stand for the state in which cells of a workspace were settled: all is as it was but for its marks.
use Rattle.std.proofs.Common.{◌≡◌, ◌≢◌, ℕ, ◌+◌, ◌-◌, ◌==◌, max, Bool, true, false, if◌then◌else◌, List, map, length, Some, is_some, refl, sym, ap, subst, ◌∙◌, ◌⊎◌, inl, inr, ⊎_elim, arith}
use Rattle.std.proofs.lemmas.Bool.{ne_eqb, and_left, and_right}
use Rattle.std.proofs.lemmas.List.Elements.{All-append}
use Rattle.std.proofs.lemmas.Option.{same_Some}
use Rattle.std.specs.List.{All}
use Rattle.std.specs.Option.{option_map}
use Rattle.wm_graph.specs.Parts.{Parts, space_of}
use Rattle.wm_graph.specs.Rules.{keep_rules}
use Rattle.wm_spec.specs.Lists.{Cell, Entry}
use Rattle.wm_state.specs.Editing.{settled_by, with_marks}
use Rattle.wm_state.specs.State.{content, log_of, savepoints_of, with_space, workspace_of, Durable, Workspace}
use Rattle.wm_state.specs.Standing.{Covers, CountersStand, FieldsStand, IsRealMark, MarksStand, NamedStand, Newest, Own, Owns, OwnsStand, SpaceFields, SpacesStand, Stands, TouchesTell, by_number, fields_in, fields_of, have_ends, latest, marked_at, seen, seen_above, settled_from}
use Rattle.wm_state.specs.declared.edit.NewMark.{NewMark}
use Rattle.wm_state.proofs.Changing.{WasChanged, told_still, was_changed}
use Rattle.wm_state.proofs.Frames.{KeepRows, OnceStand-changed, SavepointsStand-same, fields_stand, savepoints_of-changed}
use Rattle.wm_state.proofs.Keeping.{KeepRows-same}
use Rattle.wm_state.proofs.Logging.{HistsStand-frame, log_of-changed}
use Rattle.wm_state.proofs.Marking.{AreMarked, MarksStand-kept, SayMarked, marks_in}
use Rattle.wm_state.proofs.Naming.{Carries, Framed, IsKeptOwn, IsMarked, IsNewest, IsNewestOwn, Named-as, NamedStand-kept, Owned-as, OwnsStand-kept, Still, WasNamed, carries-same, named_framed, owns_framed, past_framed, stays-changed}
use Rattle.wm_state.proofs.Ready.{KeepReady, KeepReady-same}
use Rattle.wm_state.proofs.Staying.{AreReal, AreReal-same, EntriesStand-kept, LocksStand-same, RowsStand-alike, SameTurns, TouchesStand-kept, TurnsStand-alike, WasTold, WasTouched, entries_real, part-changed, turns_in}
use Rattle.wm_settled.specs.Settling.{SettledIn, said}
use Rattle.wm_settled.proofs.Saying.{settled-append, settled-made}

module _ (p q : Parts) (s t : Durable) (n : ℕ) (ms : List NewMark) (g : SettledIn p q n ms) (spaces : t.spaces ≡ with_space n (with_marks ms) s.spaces) where
  -- ---- workspaces

  -- a workspace of after is one of before, with the marks more where it is the one
  before : (m : ℕ) (new : Workspace) → workspace_of t.spaces m ≡ Some new → WasChanged n (with_marks ms) s.spaces m new
  before m new is = was_changed n (with_marks ms) (λ w. refl) s.spaces m new (ap (λ us. workspace_of us m) (sym spaces) ∙ is)

  -- what is told of it but for its marks is what was told
  part : {A : Type 0} (m : ℕ) (new : Workspace) (f : Workspace → A) → ((w : Workspace) → f (with_marks ms w) ≡ f w) → (y : WasChanged n (with_marks ms) s.spaces m new) → f new ≡ f y.old
  part m new f same y = told_still n (with_marks ms) s.spaces m new f same y

  fields_same : (m : ℕ) → option_map fields_in (workspace_of t.spaces m) ≡ option_map fields_in (workspace_of s.spaces m)
  fields_same = part-changed fields_in n (with_marks ms) (λ w. refl) (λ w. refl) s.spaces t.spaces spaces

  points_same : (m : ℕ) → savepoints_of t.spaces m ≡ savepoints_of s.spaces m
  points_same m = ap (λ us. savepoints_of us m) spaces ∙ savepoints_of-changed n (with_marks ms) (λ w. refl) (λ w. refl) s.spaces m

  logs : (m : ℕ) → log_of t.spaces m ≡ log_of s.spaces m
  logs m = ap (λ us. log_of us m) spaces ∙ log_of-changed n (with_marks ms) (λ w. refl) (λ w. refl) s.spaces m

  alike : SameTurns s.spaces t.spaces
  alike = part-changed turns_in n (with_marks ms) (λ w. refl) (λ w. refl) s.spaces t.spaces spaces

  rows : KeepRows p q
  rows = KeepRows-same p q (ap (λ (z : Parts). z.rows) g.rest)

  -- ---- what the records have of them

  pub FieldsStand-settled : FieldsStand p s → t.tables ≡ s.tables → CountersStand q t → FieldsStand q t
  FieldsStand-settled st tables counters = record {
    counters = counters;
    tables = record { same = ap (λ (z : Parts). by_number z.tables) g.rest ∙ st.tables.same ∙ sym tables };
    spaces = record { same = λ m. ap (λ (z : Parts). option_map fields_of (space_of z.spaces m)) g.rest ∙ st.spaces.same m ∙ sym (fields_same m) };
    once = OnceStand-changed p q s t n (with_marks ms) (λ w. refl) spaces (ap (λ (z : Parts). length z.spaces) g.rest) st.once;
    savepoints = SavepointsStand-same p q s t (ap (λ (z : Parts). z.savepoints) g.rest) points_same st.savepoints;
  }

  -- ---- versions that are named, and what is own

  framed : Framed p q s t
  framed = record {
    savepoints = ap (λ (z : Parts). z.savepoints) g.rest;
    still = λ m new is. still m new (before m new is);
    names = λ m r recorded. record { old = r; is = ap (λ (z : Parts). space_of z.spaces m) (sym g.rest) ∙ recorded; birth = refl; base = refl };
  }
    where
      still : (m : ℕ) (new : Workspace) → WasChanged n (with_marks ms) s.spaces m new → Still s m new
      still m new y = record {
        old = y.old;
        is = y.is;
        parent = part m new (λ (w : Workspace). w.parent) (λ w. refl) y;
        savepoints = part m new (λ (w : Workspace). w.savepoints) (λ w. refl) y;
        rebases = part m new (λ (w : Workspace). w.rebases) (λ w. refl) y;
        turns = part m new (λ (w : Workspace). w.turns) (λ w. refl) y;
        base = part m new (λ (w : Workspace). w.lists.base) (λ w. refl) y;
      }

  carries : Carries p q s.spaces t.spaces
  carries = carries-same p q s.spaces t.spaces (ap (λ (z : Parts). z.versions) g.rest) (ap (λ (z : Parts). z.pieces) g.rest) (stays-changed s.spaces t.spaces n (with_marks ms) (λ v. refl) (λ v. refl) (λ v. refl) spaces) rows

  NamedStand-settled : keep_rules p ≡ true → SpacesStand p s → NamedStand p s → NamedStand q t
  NamedStand-settled rules there named =
      NamedStand-kept p q s t rules there named carries
      (λ v m r fs x. inl (⊎_elim (λ (k : IsMarked p s v m r fs). was v m r fs k) (newest v m r fs) (named_framed p q s t framed v m r fs x)))
    where
      sees : (v : ℕ) (c : Cell) → seen q v c ≡ seen p v c
      sees v c = ap (λ (z : Parts). seen z v c) g.rest

      was : (v m r : ℕ) (fs : List Entry) → IsMarked p s v m r fs → WasNamed p q s v m r fs
      was v m r fs k = record { named = k.named; sees = sees v }

      newest : (v m r : ℕ) (fs : List Entry) → IsNewest q t v m r fs → WasNamed p q s v m r fs
      newest v m r fs k =
          let y = before m k.now k.is in
          record {
            named = Named-as p s _ _ _ _ _ _ _ _ (k.version ∙ ap (λ (z : Parts). latest z m) g.rest) refl (k.rebases ∙ part m k.now (λ (w : Workspace). w.rebases) (λ w. refl) y) (k.content ∙ part m k.now content (λ w. refl) y) (Newest y.old y.is);
            sees = sees v;
          }

  OwnsStand-settled : OwnsStand p s → OwnsStand q t
  OwnsStand-settled owns =
      OwnsStand-kept p q s t owns
      (λ base v fs x. inl (⊎_elim (λ (k : IsKeptOwn p s base v fs). k.owned) (newest base v fs) (owns_framed p q s t framed base v fs x), still base v fs))
      (past_framed p q s t framed owns)
    where
      still : (base v : ℕ) (fs : List Entry) → Covers p base v fs → Covers q base v fs
      still base v fs k = record { cells = λ c. ap (λ (z : Parts). is_some (seen_above z base v c)) g.rest ∙ k.cells c; ends = ap (λ (z : Parts). have_ends z base v fs) g.rest ∙ k.ends }

      newest : (base v : ℕ) (fs : List Entry) → IsNewestOwn p q t base v fs → Owns p s base v fs
      newest base v fs k =
          let y = before k.number k.now k.is in
          Owned-as p s _ _ _ _ _ _ k.under (k.over ∙ ap (λ (z : Parts). latest z k.number) g.rest) (k.own ∙ part k.number k.now (λ (w : Workspace). w.lists.own) (λ w. refl) y) (Own k.number y.old k.old y.is k.recorded)

  -- ---- marks

  -- the last place that was given in the workspace
  last_place : (o : Workspace) → SpacesStand p s → workspace_of s.spaces n ≡ Some o → o.next_place - 1 ≡ g.place
  last_place o st is = behind o.next_place g.place (sym (ap (λ (f : SpaceFields). f.next_place) (same_Some (fields_of g.old) (fields_in o) (sym (ap (option_map fields_of) g.old_is) ∙ st.same n ∙ ap (option_map fields_in) is))) ∙ g.last)
    where
      behind : (next place : ℕ) → next ≡ place + 1 → next - 1 ≡ place
      behind next place e = omega (arith, e)

  MarksStand-settled : SpacesStand p s → MarksStand p s → MarksStand q t
  MarksStand-settled st stand = MarksStand-kept p q s t (λ m new is. by_how m new (before m new is)) stand
    where
      turned : (a b : ℕ) → (a == b) ≡ (b == a)
      turned a b = grind arith

      same_place : (k : ℕ) → (k == g.place) ≡ true → k ≡ g.place
      same_place k e = grind (arith, e)

      at_least : (k : ℕ) → k ≡ max k 0
      at_least k = omega arith

      by_place : (w : ℕ) (c : Cell) (b : Bool) → (w == g.place) ≡ b → marked_at q.marks n w c ≡ max (marked_at p.marks n w c) (if b then said ms c else 0)
      by_place w c true is = subst (λ k. marked_at q.marks n k c ≡ max (marked_at p.marks n k c) (said ms c)) (sym (same_place w is)) (g.here c)
      by_place w c false is = g.elsewhere n w c (and_right (n == n) (w == g.place) is) ∙ at_least (marked_at p.marks n w c)

      -- the marks that come are at the place that was given last
      marked : (o : Workspace) → workspace_of s.spaces n ≡ Some o → AreMarked q.marks n (with_marks ms o)
      marked o is = record {
        same = λ w c.
            by_place w c (w == g.place) refl
            ∙ ap (λ k. max k (if w == g.place then said ms c else 0)) (stand.same n o w c is)
            ∙ ap (λ b. max (settled_from o.settled w c) (if b then said ms c else 0)) (turned w g.place)
            ∙ ap (max (settled_from o.settled w c)) (sym (settled-made g.place ms w c) ∙ ap (λ xs. settled_from xs w c) (sym made))
            ∙ sym (settled-append o.settled (map (settled_by (o.next_place - 1)) ms) w c);
        real = All-append IsRealMark o.settled (map (settled_by (o.next_place - 1)) ms) (stand.real n o is) (subst (λ xs. All IsRealMark xs) (sym made) g.real);
      }
        where
          made : map (settled_by (o.next_place - 1)) ms ≡ map (settled_by g.place) ms
          made = ap (λ k. map (settled_by k) ms) (last_place o st is)

      by_how : (m : ℕ) (new : Workspace) → WasChanged n (with_marks ms) s.spaces m new → (WasTold marks_in s.spaces m new × SayMarked p.marks q.marks m) ⊎ AreMarked q.marks m new
      by_how m new y = ⊎_elim
          (λ (h : (m ≡ n) × (new ≡ with_marks ms y.old)).
          inr (subst (λ (v : Workspace). AreMarked q.marks m v) (sym h.1) (subst (λ k. AreMarked q.marks k (with_marks ms y.old)) (sym h.0) (marked y.old (ap (workspace_of s.spaces) (sym h.0) ∙ y.is)))))
          (λ (h : (m ≢ n) × (new ≡ y.old)).
          inl (record { old = y.old; is = y.is; same = ap marks_in h.1 }, λ w c. g.elsewhere m w c (and_left (m == n) (w == g.place) (ne_eqb m n h.0))))
          y.how

  -- ---- all clauses

  pub Stands-settled : Stands p s → t.tables ≡ s.tables → t.locks ≡ s.locks → CountersStand q t → keep_rules q ≡ true → Stands q t
  Stands-settled st tables locks counters rules = record {
    rules = rules;
    counters = counters;
    tables = fields.tables;
    spaces = fields.spaces;
    once = fields.once;
    savepoints = fields.savepoints;
    named = NamedStand-settled st.rules st.spaces st.named;
    owns = OwnsStand-settled st.owns;
    turns = TurnsStand-alike p q s t (ap (λ (z : Parts). z.turns) g.rest) alike st.turns;
    touches = TouchesStand-kept p q s t (λ m new is. inl (touched m new (before m new is), λ below log tell. subst (λ xs. TouchesTell xs m below log) (sym touches) tell)) st.touches;
    marks = MarksStand-settled st.spaces st.marks;
    locks = LocksStand-same p q s t (ap (λ (z : Parts). z.locks) g.rest) locks st.locks;
    hists = HistsStand-frame p q s t (ap (λ (z : Parts). z.hists) g.rest) logs ready st.entries st.hists;
    entries = EntriesStand-kept t (λ m new is. real m new (before m new is));
    rows = RowsStand-alike p q s t rows ready logs alike st.entries st.rows;
  }
    where
      fields : FieldsStand q t
      fields = FieldsStand-settled (fields_stand p s st) tables counters

      ready : KeepReady s.tables t.tables
      ready = KeepReady-same s.tables t.tables tables

      touches : q.touches ≡ p.touches
      touches = ap (λ (z : Parts). z.touches) g.rest

      touched : (m : ℕ) (new : Workspace) → WasChanged n (with_marks ms) s.spaces m new → WasTouched s m new
      touched m new y = record {
        old = y.old;
        is = y.is;
        log = part m new (λ (w : Workspace). w.lists.log) (λ w. refl) y;
        place = part m new (λ (w : Workspace). w.next_place) (λ w. refl) y;
        savepoints = part m new (λ (w : Workspace). w.savepoints) (λ w. refl) y;
      }

      real : (m : ℕ) (new : Workspace) → WasChanged n (with_marks ms) s.spaces m new → AreReal t.tables new
      real m new y =
          AreReal-same s.tables t.tables y.old new ready (part m new (λ (w : Workspace). w.lists.log) (λ w. refl) y) (part m new (λ (w : Workspace). w.lists.own) (λ w. refl) y) (part m new (λ (w : Workspace). w.savepoints) (λ w. refl) y)
          (entries_real s st.entries m y.old y.is)
