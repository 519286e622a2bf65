-- The log of a workspace is longer by entries: the workspace, its record and what is told by these, whatever else the entries are written to.
use Rattle.std.proofs.Common.{◌≡◌, ◌≢◌, ℕ, ◌+◌, ◌==◌, cond, true, false, List, ◌++◌, Option, Some, None, length, length-append, refl, sym, ap, ◌∙◌, ◌⊎◌, inl, inr}
use Rattle.std.proofs.lemmas.Bool.{cases_eq, eq-eqb, ne_eqb}
use Rattle.std.proofs.lemmas.Option.{same_Some}
use Rattle.std.specs.List.{All}
use Rattle.std.specs.Option.{option_map}
use Rattle.wm_graph.specs.Parts.{Parts, space_of}
use Rattle.wm_spec.specs.Lists.{Entry}
use Rattle.wm_spec.specs.declared.record.space.Space.{Space}
use Rattle.wm_state.specs.Entries.{hists_kept}
use Rattle.wm_state.specs.Standing.{CountersStand, FieldsStand, HasRow, IsReal, SpaceFields, SpacesStand, by_number, fields_in, fields_of, has_history}
use Rattle.wm_state.specs.State.{Durable, Workspace, savepoints_of, with_space, workspace_of}
use Rattle.wm_state.specs.Touching.{Touched}
use Rattle.wm_state.specs.Writes.{longer_by}
use Rattle.wm_state.proofs.Changing.{WasChanged, told_still, was_changed, workspace_of-changed}
use Rattle.wm_state.proofs.Frames.{KeepRows, OnceStand-changed, SavepointsStand-same, savepoints_of-changed}
use Rattle.wm_state.proofs.Naming.{Framed, Still, StillNames}

-- a workspace with entries more in its log, and with what a function makes of its own ones
abbrev pub grown : List Entry → (List Entry → List Entry) → Workspace → Workspace
grown es own w = record w { lists = record w.lists { own = own w.lists.own; log = w.lists.log ++ es } }

-- the log of a workspace is longer by entries, all of them real, and of a table with history with their rows; their cells were touched at
-- the last place that was given, and those of tables with history have records behind the others; rows are kept, and but for counters, rows
-- and pieces all else is as it was
pub record IsLonger (p q : Parts) (n : ℕ) (es : List Entry) : Type 0 where
  pub count : length q.spaces ≡ length p.spaces
  pub old : Space
  pub old_is : space_of p.spaces n ≡ Some old
  pub here : space_of q.spaces n ≡ Some (longer_by (length es) old)
  pub elsewhere : (m : ℕ) → (m == n) ≡ false → space_of q.spaces m ≡ space_of p.spaces m
  pub rows_kept : KeepRows p q
  pub rows : All (λ (e : Entry). has_history p.tables e.table ≡ true → HasRow q e) es
  pub real : All (IsReal p.tables) es
  pub place : ℕ
  pub last : old.next_place ≡ place + 1
  pub touches : Touched n place old.log_length es p.touches q.touches
  pub hists : q.hists ≡ p.hists ++ hists_kept p.tables n old.log_length es
  pub rest : record q { counters = p.counters; spaces = p.spaces; rows = p.rows; pieces = p.pieces; touches = p.touches; hists = p.hists } ≡ p

-- the fields with a log that is longer by so many
abbrev lengthened : ℕ → SpaceFields → SpaceFields
lengthened k f = record f { log_length = f.log_length + k }

module _ (p q : Parts) (s t : Durable) (n : ℕ) (es : List Entry) (own : List Entry → List Entry) (l : IsLonger p q n es) (spaces : t.spaces ≡ with_space n (grown es own) s.spaces) where
  pub before : (m : ℕ) (new : Workspace) → workspace_of t.spaces m ≡ Some new → WasChanged n (grown es own) s.spaces m new
  before m new is = was_changed n (grown es own) (λ w. refl) s.spaces m new (ap (λ ws. workspace_of ws m) (sym spaces) ∙ is)

  pub after : (m : ℕ) → workspace_of t.spaces m ≡ cond (m == n) (option_map (grown es own) (workspace_of s.spaces m)) (workspace_of s.spaces m)
  after m = ap (λ ws. workspace_of ws m) spaces ∙ workspace_of-changed n (grown es own) (λ w. refl) s.spaces m

  -- no savepoint and no workspace is new
  pub framed_longer : Framed p q s t
  framed_longer = record { savepoints = ap (λ (z : Parts). z.savepoints) l.rest; still = λ m new is. still m new (before m new is); names = λ m r recorded. names m r (cases_eq m n) recorded }
    where
      still : (m : ℕ) (new : Workspace) → WasChanged n (grown es own) s.spaces m new → Still s m new
      still m new y = record {
        old = y.old;
        is = y.is;
        parent = told_still n (grown es own) s.spaces m new (λ (w : Workspace). w.parent) (λ w. refl) y;
        savepoints = told_still n (grown es own) s.spaces m new (λ (w : Workspace). w.savepoints) (λ w. refl) y;
        rebases = told_still n (grown es own) s.spaces m new (λ (w : Workspace). w.rebases) (λ w. refl) y;
        turns = told_still n (grown es own) s.spaces m new (λ (w : Workspace). w.turns) (λ w. refl) y;
        base = told_still n (grown es own) s.spaces m new (λ (w : Workspace). w.lists.base) (λ w. refl) y;
      }

      names : (m : ℕ) (new : Space) → (m ≡ n) ⊎ (m ≢ n) → space_of q.spaces m ≡ Some new → StillNames p m new
      names m new (inl here) is =
          let same : new ≡ longer_by (length es) l.old = same_Some new (longer_by (length es) l.old) (sym is ∙ ap (space_of q.spaces) here ∙ l.here) in
          record { old = l.old; is = ap (space_of p.spaces) here ∙ l.old_is; birth = ap (λ (k : Space). k.birth_version) same; base = ap (λ (k : Space). k.base_version) same }
      names m new (inr other) is = record { old = new; is = sym (l.elsewhere m (ne_eqb _ _ other)) ∙ is; birth = refl; base = refl }

  SpacesStand-longer : SpacesStand p s → SpacesStand q t
  SpacesStand-longer stand = record {
    same = λ m. by_case m (cases_eq m n) ∙ sym (ap (option_map fields_in) (after m));
  }
    where
      mapped : (o : Option Workspace) → option_map fields_in (option_map (grown es own) o) ≡ option_map (lengthened (length es)) (option_map fields_in o)
      mapped None = refl
      mapped (Some w) = ap (λ (k : ℕ). Some (record (fields_in w) { log_length = k })) (length-append w.lists.log es)

      by_case : (m : ℕ) → (m ≡ n) ⊎ (m ≢ n) → option_map fields_of (space_of q.spaces m) ≡ option_map fields_in (cond (m == n) (option_map (grown es own) (workspace_of s.spaces m)) (workspace_of s.spaces m))
      by_case m (inl here) =
          ap (λ k. option_map fields_of (space_of q.spaces k)) here
          ∙ ap (option_map fields_of) l.here
          ∙ sym (ap (λ o. option_map (lengthened (length es)) (option_map fields_of o)) l.old_is)
          ∙ ap (option_map (lengthened (length es))) (stand.same n)
          ∙ sym (mapped (workspace_of s.spaces n))
          ∙ ap (λ k. option_map fields_in (option_map (grown es own) (workspace_of s.spaces k))) (sym here)
          ∙ ap (λ b. option_map fields_in (cond b (option_map (grown es own) (workspace_of s.spaces m)) (workspace_of s.spaces m))) (sym (eq-eqb _ _ here))
      by_case m (inr other) =
          ap (option_map fields_of) (l.elsewhere m (ne_eqb _ _ other))
          ∙ stand.same m
          ∙ ap (λ b. option_map fields_in (cond b (option_map (grown es own) (workspace_of s.spaces m)) (workspace_of s.spaces m))) (sym (ne_eqb _ _ other))

  -- the records agree with the state
  pub FieldsStand-longer : FieldsStand p s → t.tables ≡ s.tables → CountersStand q t → FieldsStand q t
  FieldsStand-longer st tables counters = record {
    counters = counters;
    tables = record { same = ap (λ (z : Parts). by_number z.tables) l.rest ∙ st.tables.same ∙ sym tables };
    spaces = SpacesStand-longer st.spaces;
    once = OnceStand-changed p q s t n (grown es own) (λ w. refl) spaces l.count st.once;
    savepoints = SavepointsStand-same p q s t (ap (λ (z : Parts). z.savepoints) l.rest) (λ m. ap (λ ws. savepoints_of ws m) spaces ∙ savepoints_of-changed n (grown es own) (λ w. refl) (λ w. refl) s.spaces m) st.savepoints;
  }
