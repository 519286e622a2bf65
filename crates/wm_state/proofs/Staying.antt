-- What is kept of turns, touches, entries and rows where each thing that is looked up is as it was before. A law a clause: TurnsStand-alike and
-- RowsStand-alike, where each workspace has the turns and rebases that it had (by part-changed where one was changed); TouchesStand-kept and
-- EntriesStand-kept, a workspace at a time; and for all of them one where the workspaces are those of before. Of records of entries Logging has the law.
use Rattle.std.proofs.Common.{◌≡◌, ◌==◌, ℕ, ◌+◌, Bool, true, false, cond, List, [], length, take, Option, Some, None, refl, sym, ap, subst, ◌∙◌, ◌⊎◌, inl, ⊎_elim}
use Rattle.std.proofs.lemmas.List.Elements.{All-nil}
use Rattle.std.proofs.lemmas.Option.{same_Some, none-some}
use Rattle.std.specs.List.{All, slice_get}
use Rattle.std.specs.Option.{option_map}
use Rattle.wm_graph.specs.Parts.{Parts}
use Rattle.wm_spec.specs.Lists.{Entry}
use Rattle.wm_spec.specs.declared.record.table.Table.{Table}
use Rattle.wm_spec.specs.declared.record.trace.Trace.{Trace}
use Rattle.wm_state.specs.State.{Durable, Workspace, Savepoint, Turn, workspace_of, with_space, savepoint_made, turn_of, turns_of, log_of}
use Rattle.wm_state.specs.Standing.{EntriesStand, HasRows, IsReal, LocksStand, RowsStand, TouchesStand, TouchesTell, TurnsStand, locks_by_making, turn_at, turned, turned_in}
use Rattle.wm_state.proofs.Changing.{workspace_of-changed}
use Rattle.wm_state.proofs.Frames.{KeepRows, HasRows-kept}
use Rattle.wm_state.proofs.Logging.{log_of-found, log_of-none, logs-kept}
use Rattle.wm_state.proofs.Ready.{KeepReady, all_real-kept}

-- ---- what is told of workspaces

-- a workspace was there before, and this was told of it too
pub record WasTold {A : Type 0} (f : Workspace → A) (was : List Workspace) (n : ℕ) (w : Workspace) : Type 0 where
  pub old : Workspace
  pub is : workspace_of was n ≡ Some old
  pub same : f w ≡ f old

pub was_told : {A : Type 0} (f : Workspace → A) (was now : List Workspace) (n : ℕ) (w : Workspace) → option_map f (workspace_of now n) ≡ option_map f (workspace_of was n) → workspace_of now n ≡ Some w → WasTold f was n w
was_told {A = A} f was now n w alike is = by_old (workspace_of was n) refl (ap (option_map f) (sym is) ∙ alike)
  where
    by_old : (o : Option Workspace) → workspace_of was n ≡ o → Some (f w) ≡ option_map f o → WasTold f was n w
    by_old None found e = absurd (none-some (f w) (sym e))
    by_old (Some old) found e = record { old = old; is = found; same = same_Some (f w) (f old) e }

-- of each workspace is told what was told, where one was changed but for that
pub part-changed : {A : Type 0} (f : Workspace → A) (n : ℕ) (act : Workspace → Workspace) → ((w : Workspace) → (act w).number ≡ w.number) → ((w : Workspace) → f (act w) ≡ f w) → (was now : List Workspace)
    → now ≡ with_space n act was → (m : ℕ) → option_map f (workspace_of now m) ≡ option_map f (workspace_of was m)
part-changed f n act number same was now changed m = ap (λ ws. option_map f (workspace_of ws m)) changed ∙ ap (option_map f) (workspace_of-changed n act number was m) ∙ by_test (m == n) (workspace_of was m)
  where
    by_test : (b : Bool) (o : Option Workspace) → option_map f (cond b (option_map act o) o) ≡ option_map f o
    by_test true None = refl
    by_test true (Some w) = ap Some (same w)
    by_test false o = refl

-- ---- turns

-- the turns and the rebases of a workspace
pub record TurnsIn : Type 0 where
  pub turns : List Turn
  pub rebases : ℕ

abbrev pub turns_in : Workspace → TurnsIn
turns_in w = record { turns = w.turns; rebases = w.rebases }

-- each workspace has those that it had
abbrev pub SameTurns : List Workspace → List Workspace → Type 0
SameTurns was now = (n : ℕ) → option_map turns_in (workspace_of now n) ≡ option_map turns_in (workspace_of was n)

pub turns_of-found : (ws : List Workspace) (n : ℕ) (w : Workspace) → workspace_of ws n ≡ Some w → turns_of ws n ≡ w.turns
turns_of-found ws n w found = rw found refl

pub turns_of-none : (ws : List Workspace) (n : ℕ) → workspace_of ws n ≡ None → turns_of ws n ≡ []
turns_of-none ws n none = rw none refl

pub turns_of-alike : (was now : List Workspace) (n : ℕ) → option_map turns_in (workspace_of now n) ≡ option_map turns_in (workspace_of was n) → turns_of now n ≡ turns_of was n
turns_of-alike was now n alike = by_new (workspace_of now n) refl
  where
    none_some : (o : Option Workspace) (w : Workspace) → option_map turns_in o ≡ None → o ≡ Some w → ⊥
    none_some (Some v) w e f = cc
    none_some None w e f = cc

    by_old : workspace_of now n ≡ None → (o : Option Workspace) → workspace_of was n ≡ o → turns_of now n ≡ turns_of was n
    by_old none None found = turns_of-none now n none ∙ sym (turns_of-none was n found)
    by_old none (Some w) found = absurd (none_some (workspace_of was n) w (sym alike ∙ ap (option_map turns_in) none) found)

    by_new : (o : Option Workspace) → workspace_of now n ≡ o → turns_of now n ≡ turns_of was n
    by_new None none = by_old none (workspace_of was n) refl
    by_new (Some w) found = let y = was_told turns_in was now n w alike found in turns_of-found now n w found ∙ ap (λ (t : TurnsIn). t.turns) y.same ∙ sym (turns_of-found was n y.old y.is)

pub SameTurns-same : (was now : List Workspace) → now ≡ was → SameTurns was now
SameTurns-same was now same n = ap (λ ws. option_map turns_in (workspace_of ws n)) same

pub TurnsStand-alike : (p q : Parts) (s t : Durable) → q.turns ≡ p.turns → SameTurns s.spaces t.spaces → TurnsStand p s → TurnsStand q t
TurnsStand-alike p q s t turns alike stand = record {
  counted = λ n w some is.
      let y = was_told turns_in s.spaces t.spaces n w (alike n) is in
      ap (λ (x : TurnsIn). length x.turns) y.same ∙ stand.counted n y.old some y.is ∙ ap (λ (x : TurnsIn). x.rebases + 1) (sym y.same);
  same = λ n number.
      ap (λ xs. option_map turned (turn_at xs n number)) turns ∙ stand.same n number ∙ ap (λ ts. option_map turned_in (slice_get ts number)) (sym (turns_of-alike s.spaces t.spaces n (alike n)));
}

-- ---- rows

-- the rows of what turns took stand still
pub turn_rows-kept : (p q : Parts) (s t : Durable) → KeepRows p q → SameTurns s.spaces t.spaces → RowsStand p s → (n number : ℕ) (w : Workspace) (x : Turn) → workspace_of t.spaces n ≡ Some w → turn_of w number ≡ Some x
    → HasRows q x.content
turn_rows-kept p q s t keep alike stand n number w x is turn =
    let y = was_told turns_in s.spaces t.spaces n w (alike n) is in
    HasRows-kept p q keep x.content (stand.turns n number y.old x y.is (ap (λ (z : TurnsIn). slice_get z.turns number) (sym y.same) ∙ turn))

pub RowsStand-alike : (p q : Parts) (s t : Durable) → KeepRows p q → KeepReady s.tables t.tables → ((n : ℕ) → log_of t.spaces n ≡ log_of s.spaces n) → SameTurns s.spaces t.spaces → EntriesStand s → RowsStand p s → RowsStand q t
RowsStand-alike p q s t keep ready logs alike entries stand = record { logs = logs-kept p q s t keep ready logs entries stand.logs; turns = turn_rows-kept p q s t keep alike stand }

-- ---- touches

-- the touches of a workspace tell its log, and at each of its savepoints what that was there
pub record AreTold (touches : List Trace) (n : ℕ) (w : Workspace) : Type 0 where
  pub latest : TouchesTell touches n w.next_place w.lists.log
  pub kept : (making : ℕ) (k : Savepoint) → savepoint_made making w.savepoints ≡ Some k → TouchesTell touches n k.place (take k.log_length w.lists.log)

pub touches_told : (p : Parts) (s : Durable) → TouchesStand p s → (n : ℕ) (w : Workspace) → workspace_of s.spaces n ≡ Some w → AreTold p.touches n w
touches_told p s stand n w is = record { latest = stand.latest n w is; kept = λ making k. stand.kept n making w k is }

-- a workspace has the log, the next place and the savepoints that it had
pub record WasTouched (s : Durable) (n : ℕ) (w : Workspace) : Type 0 where
  pub old : Workspace
  pub is : workspace_of s.spaces n ≡ Some old
  pub log : w.lists.log ≡ old.lists.log
  pub place : w.next_place ≡ old.next_place
  pub savepoints : w.savepoints ≡ old.savepoints

-- so it is of each whose touches tell what they told, or they tell of it
pub TouchesStand-kept : (p q : Parts) (s t : Durable)
    → ((n : ℕ) (w : Workspace) → workspace_of t.spaces n ≡ Some w → (WasTouched s n w × ((below : ℕ) (log : List Entry) → TouchesTell p.touches n below log → TouchesTell q.touches n below log)) ⊎ AreTold q.touches n w)
    → TouchesStand p s → TouchesStand q t
TouchesStand-kept p q s t each stand = record { latest = λ n w is. (told_now n w is).latest; kept = λ n making w k is. (told_now n w is).kept making k }
  where
    was : (n : ℕ) (w : Workspace) → WasTouched s n w → ((below : ℕ) (log : List Entry) → TouchesTell p.touches n below log → TouchesTell q.touches n below log) → AreTold q.touches n w
    was n w y still = record {
      latest = still w.next_place w.lists.log (rw (y.place, y.log) (stand.latest n y.old y.is));
      kept = λ making k made. still k.place (take k.log_length w.lists.log) (rw y.log (stand.kept n making y.old k y.is (rw (sym y.savepoints) made)));
    }

    told_now : (n : ℕ) (w : Workspace) → workspace_of t.spaces n ≡ Some w → AreTold q.touches n w
    told_now n w is = ⊎_elim (λ (h : WasTouched s n w × ((below : ℕ) (log : List Entry) → TouchesTell p.touches n below log → TouchesTell q.touches n below log)). was n w h.0 h.1) (λ (h : AreTold q.touches n w). h) (each n w is)

-- where touches and workspaces are those of before
pub TouchesStand-same : (p q : Parts) (s t : Durable) → q.touches ≡ p.touches → t.spaces ≡ s.spaces → TouchesStand p s → TouchesStand q t
TouchesStand-same p q s t touches spaces = TouchesStand-kept p q s t (λ n w is.
    inl (record { old = w; is = ap (λ ws. workspace_of ws n) (sym spaces) ∙ is; log = refl; place = refl; savepoints = refl }, λ below log tell. subst (λ xs. TouchesTell xs n below log) (sym touches) tell))

-- ---- locks

pub LocksStand-same : (p q : Parts) (s t : Durable) → q.locks ≡ p.locks → t.locks ≡ s.locks → LocksStand p s → LocksStand q t
LocksStand-same p q s t recorded same stand = record { same = ap locks_by_making recorded ∙ stand.same ∙ sym same }

-- ---- entries

-- the entries of a workspace are real
pub record AreReal (tables : List Table) (w : Workspace) : Type 0 where
  pub log : All (IsReal tables) w.lists.log
  pub own : All (IsReal tables) w.lists.own
  pub kept : (making : ℕ) (k : Savepoint) → savepoint_made making w.savepoints ≡ Some k → All (IsReal tables) k.own

pub entries_real : (s : Durable) → EntriesStand s → (n : ℕ) (w : Workspace) → workspace_of s.spaces n ≡ Some w → AreReal s.tables w
entries_real s stand n w is = record { log = subst (λ es. All (IsReal s.tables) es) (log_of-found s.spaces n w is) (stand.logs n); own = stand.own n w is; kept = λ making k. stand.kept n making w k is }

-- those of one that has the log, the own and the savepoints of another are
pub AreReal-same : (was now : List Table) (old w : Workspace) → KeepReady was now → w.lists.log ≡ old.lists.log → w.lists.own ≡ old.lists.own → w.savepoints ≡ old.savepoints → AreReal was old → AreReal now w
AreReal-same was now old w ready log own savepoints real = record {
  log = subst (λ es. All (IsReal now) es) (sym log) (all_real-kept was now ready old.lists.log real.log);
  own = subst (λ es. All (IsReal now) es) (sym own) (all_real-kept was now ready old.lists.own real.own);
  kept = λ making k made. all_real-kept was now ready k.own (real.kept making k (rw (sym savepoints) made));
}

pub EntriesStand-kept : (t : Durable) → ((n : ℕ) (w : Workspace) → workspace_of t.spaces n ≡ Some w → AreReal t.tables w) → EntriesStand t
EntriesStand-kept t each = record { logs = λ n. by_workspace n (workspace_of t.spaces n) refl; own = λ n w is. (each n w is).own; kept = λ n making w k is. (each n w is).kept making k }
  where
    by_workspace : (n : ℕ) (o : Option Workspace) → workspace_of t.spaces n ≡ o → All (IsReal t.tables) (log_of t.spaces n)
    by_workspace n None none = subst (λ es. All (IsReal t.tables) es) (sym (log_of-none t.spaces n none)) (All-nil (IsReal t.tables))
    by_workspace n (Some w) is = subst (λ es. All (IsReal t.tables) es) (sym (log_of-found t.spaces n w is)) (each n w is).log

-- where the workspaces are those of before, and tables stay ready
pub EntriesStand-same : (s t : Durable) → KeepReady s.tables t.tables → t.spaces ≡ s.spaces → EntriesStand s → EntriesStand t
EntriesStand-same s t ready spaces stand = EntriesStand-kept t (λ n w is. AreReal-same s.tables t.tables w w ready refl refl refl (entries_real s stand n w (ap (λ ws. workspace_of ws n) (sym spaces) ∙ is)))
