-- Edits behind others, and what they make of a state whose moment and work have moved.
use Rattle.std.proofs.Common.{◌≡◌, ℕ, ◌+◌, Bool, true, List, [], ◌∷◌, ◌++◌, Option, Some, None, refl, sym, ap, ◌∙◌, arith}
use Rattle.std.specs.Option.{option_and_then, option_map, unwrap_or}
use Rattle.wm_spec.specs.declared.record.table.Table.{Table}
use Rattle.wm_state.specs.Editing.{all_edited, bear_in, born, drafted_by, edited, enable_named, implicit_name, keep_in, parent_of, rebased_in, restored_in, save_in, saved_at, stand_of}
use Rattle.wm_state.specs.State.{Readiness, Savepoint, Stand, Durable, Workspace, savepoint_made, savepoints_of, table_named, workspace_of}
use Rattle.wm_state.specs.declared.edit.Edit.{Edit}
use Rattle.wm_state.specs.declared.edit.Edit.TheVariants as edits

-- ---- the moment and the work

-- a state whose moment and work have moved
abbrev pub timed : ℕ → ℕ → Durable → Durable
timed moment work s = record s { last_moment = moment; work = work }

-- a table becomes ready in it, or none does
enable_timed : (how : Readiness) (moment work : ℕ) (s : Durable) (o : Option Table)
    → unwrap_or (option_map (enable_named how (timed moment work s)) o) (timed moment work s) ≡ timed moment work (unwrap_or (option_map (enable_named how s) o) s)
enable_timed how moment work s None = refl
enable_timed how moment work s (Some t) = refl

-- a savepoint is made in it, or none is
save_timed : (m : ℕ) (name : List ℕ) (moment work : ℕ) (s : Durable) (o : Option Workspace)
    → unwrap_or (option_and_then (save_in m name (timed moment work s)) o) (timed moment work s) ≡ timed moment work (unwrap_or (option_and_then (save_in m name s) o) s)
save_timed m name moment work s None = refl
save_timed m name moment work s (Some w) = refl

-- a workspace is born in it, or none is
bear_timed : (m : ℕ) (stand : Stand) (name : List ℕ) (moment work : ℕ) (s : Durable) (o : Option Workspace)
    → unwrap_or (option_and_then (bear_in m stand name (timed moment work s)) o) (timed moment work s) ≡ timed moment work (unwrap_or (option_and_then (bear_in m stand name s) o) s)
bear_timed m stand name moment work s None = refl
bear_timed m stand name moment work s (Some w) = by_savepoint (saved_at m s.spaces w stand (implicit_name w) true)
  where
    by_savepoint : (k : Option Savepoint) → unwrap_or (option_map (λ (k : Savepoint). born m w stand name k (timed moment work s)) k) (timed moment work s)
        ≡ timed moment work (unwrap_or (option_map (λ (k : Savepoint). born m w stand name k s) k) s)
    by_savepoint None = refl
    by_savepoint (Some k) = refl

-- a workspace goes back to a savepoint in it, or none does
restore_timed : (n : ℕ) (moment work : ℕ) (s : Durable) (o : Option Savepoint)
    → unwrap_or (option_map (restored_in n (timed moment work s)) o) (timed moment work s) ≡ timed moment work (unwrap_or (option_map (restored_in n s) o) s)
restore_timed n moment work s None = refl
restore_timed n moment work s (Some k) = refl

-- what is newest in one is kept in it, or in none
keep_timed : (m : ℕ) (moment work : ℕ) (s : Durable) (o : Option Workspace)
    → unwrap_or (option_and_then (keep_in m (timed moment work s)) o) (timed moment work s) ≡ timed moment work (unwrap_or (option_and_then (keep_in m s) o) s)
keep_timed m moment work s None = refl
keep_timed m moment work s (Some w) = refl

-- a workspace stands on its parent in it, or none does
rebase_timed : (n : ℕ) (emptied : Bool) (moment work : ℕ) (s : Durable) (o : Option Workspace)
    → unwrap_or (option_map (rebased_in n emptied (timed moment work s)) o) (timed moment work s) ≡ timed moment work (unwrap_or (option_map (rebased_in n emptied s) o) s)
rebase_timed n emptied moment work s None = refl
rebase_timed n emptied moment work s (Some p) = refl

-- an edit makes of it what it makes of the state, moved so
edited_timed : (m : ℕ) (e : Edit) (moment work : ℕ) (s : Durable) → edited m e (timed moment work s) ≡ timed moment work (edited m e s)
edited_timed m (edits.Create t) moment work s = refl
edited_timed m (edits.Enable name valid history) moment work s = enable_timed (record { valid = valid; history = history }) moment work s (table_named name s.tables)
edited_timed m (edits.Append n entries) moment work s = refl
edited_timed m (edits.Save n name) moment work s = save_timed m name moment work s (workspace_of s.spaces n)
edited_timed m (edits.Bear n at name) moment work s = bear_timed m (stand_of at) name moment work s (workspace_of s.spaces n)
edited_timed m (edits.Restore n making) moment work s = restore_timed n moment work s (savepoint_made making (savepoints_of s.spaces n))
edited_timed m (edits.Remove n) moment work s = refl
edited_timed m (edits.Keep n) moment work s = keep_timed m moment work s (workspace_of s.spaces n)
edited_timed m (edits.Replay n entries) moment work s = refl
edited_timed m (edits.Gain n entries) moment work s = refl
edited_timed m (edits.Settle n marks) moment work s = refl
edited_timed m (edits.Lock n mode user cells) moment work s = refl
edited_timed m (edits.Unlock makings) moment work s = refl
edited_timed m (edits.Freeze n mode writer) moment work s = refl
edited_timed m (edits.Rebase n emptied) moment work s = rebase_timed n emptied moment work s (parent_of s.spaces n)

-- so do edits
all_edited_timed : (m : ℕ) (es : List Edit) (moment work : ℕ) (s : Durable) → all_edited m es (timed moment work s) ≡ timed moment work (all_edited m es s)
all_edited_timed m [] moment work s = refl
all_edited_timed m (e ∷ es) moment work s = ap (all_edited m es) (edited_timed m e moment work s) ∙ all_edited_timed m es moment work (edited m e s)

-- ---- edits behind others

-- they are made of what the first ones make
pub all_edited_append : (m : ℕ) (xs ys : List Edit) (s : Durable) → all_edited m (xs ++ ys) s ≡ all_edited m ys (all_edited m xs s)
all_edited_append m [] ys s = refl
all_edited_append m (x ∷ xs) ys s = all_edited_append m xs ys (edited m x s)

-- and the work of both is counted
pub drafted_append : (k l m : ℕ) (f e : Edit) (fs es : List Edit) (s : Durable) → drafted_by l m (e ∷ es) (drafted_by k m (f ∷ fs) s) ≡ drafted_by (k + l) m (f ∷ fs ++ e ∷ es) s
drafted_append k l m f e fs es s =
    ap (timed m (s.work + k + l)) (all_edited_timed m (e ∷ es) m (s.work + k) (all_edited m (f ∷ fs) s) ∙ ap (timed m (s.work + k)) (sym (all_edited_append m (f ∷ fs) (e ∷ es) s)))
    ∙ ap (λ w. timed m w (all_edited m (f ∷ fs ++ e ∷ es) s)) (regrouped s.work)
  where
    regrouped : (w : ℕ) → w + k + l ≡ w + (k + l)
    regrouped w = omega arith
