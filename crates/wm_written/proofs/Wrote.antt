-- A workspace with more entries and its versions, told by those of before.
use Rattle.std.proofs.Common.{◌≡◌, ◌≢◌, ℕ, List, ◌++◌, append_assoc, Some, is_some, refl, sym, ap, ◌∙◌, ◌==◌, true, false, ◌+◌}
use Rattle.std.proofs.lemmas.Bool.{eq-eqb, ne_eqb, true≢false}
use Rattle.std.specs.Option.{option_or, option_map}
use Rattle.wm_graph.specs.Parts.{Parts}
use Rattle.wm_spec.specs.Lists.{Entry, Cell, told}
use Rattle.wm_spec.specs.declared.record.version.Version.{Version}
use Rattle.wm_spec.proofs.Lists.{told-append}
use Rattle.wm_state.specs.State.{Durable, Workspace, content, workspace_of, with_space, with_entries}
use Rattle.wm_state.specs.Standing.{held_of, stored_at, newest_first, latest, seen, seen_above, is_above, have_ends, SpacesStand}
use Rattle.wm_state.specs.Writes.{AreAllLaid, WroteAll}
use Rattle.wm_state.proofs.Above.{above-leaf}
use Rattle.wm_state.proofs.Climbing.{recorded_of}
use Rattle.wm_state.proofs.Ending.{all_end, all_end-drawn}
use Rattle.wm_written.proofs.Longer.{IsLonger}
use Rattle.wm_written.proofs.Nearest.{SameAway, seen-away, own-away}

-- ---- a workspace with more entries

-- the workspaces with more entries in one of them
abbrev pub appended_all : ℕ → List Entry → List Workspace → List Workspace
appended_all n es ws = with_space n (with_entries es) ws

-- the log of one is longer
pub longer_wrote : (p q : Parts) (n : ℕ) (es : List Entry) → WroteAll p q n es → IsLonger p q n es
longer_wrote p q n es w = record {
  count = w.count;
  old = w.old;
  old_is = w.old_is;
  here = w.here;
  elsewhere = w.elsewhere;
  rows_kept = w.rows_kept;
  rows = λ k d lt history. w.rows_each k d lt;
  real = w.real;
  place = w.place;
  last = w.last;
  touches = w.touches;
  hists = w.hists;
  rest = w.rest;
}

-- more entries in a workspace lie over its content
pub told-with_all : (es : List Entry) (w : Workspace) (c : Cell) → told (content (with_entries es w)) c ≡ option_or (told es c) (told (content w) c)
told-with_all es w c = ap (λ fs. told fs c) (sym (append_assoc w.lists.base w.lists.own es)) ∙ told-append (w.lists.base ++ w.lists.own) es c

-- ---- versions that are not written

pub laid-here : (v : ℕ) (es : List Entry) (old new : _) (c : Cell) → AreAllLaid v es old new → stored_at new v c ≡ option_or (option_map held_of (told es c)) (stored_at old v c)
laid-here v es old new c laid = rw (eq-eqb v v refl) at (laid v c)

pub laid-away : (v : ℕ) (es : List Entry) (old new : _) (c : Cell) → AreAllLaid v es old new → SameAway v old new c
laid-away v es old new c laid m other = rw other at (laid m c)

module _ (p q : Parts) (n : ℕ) (es : List Entry) (w : WroteAll p q n es) where
  -- the versions are those of before
  pub versions_wrote : q.versions ≡ p.versions
  versions_wrote = ap (λ (z : Parts). z.versions) w.rest

  -- each other version sees what it saw
  pub sees_away : (v : ℕ) → (v == latest p n) ≡ false → (c : Cell) → seen q v c ≡ seen p v c
  sees_away v other c = rw versions_wrote (seen-away (latest p n) p.pieces q.pieces c (laid-away (latest p n) es p.pieces q.pieces c w.pieces) (newest_first p.versions) w.leaf v other)

  -- also above a base
  pub above_away : (base v : ℕ) → (v == latest p n) ≡ false → (c : Cell) → seen_above q base v c ≡ seen_above p base v c
  above_away base v other c = rw versions_wrote (own-away (latest p n) p.pieces q.pieces c (laid-away (latest p n) es p.pieces q.pieces c w.pieces) base (newest_first p.versions) w.leaf v other)

  -- and what stands on its path ends where it did
  pub ends_away : (base v : ℕ) → (v == latest p n) ≡ false → (fs : List Entry) → have_ends p base v fs ≡ true → have_ends q base v fs ≡ true
  ends_away base v other fs e =
      ap (λ (vs : List Version). all_end (is_above (newest_first vs) base v) fs q.pieces) versions_wrote
      ∙ all_end-drawn (is_above (newest_first p.versions) base v) (latest p n) es fs fs p.pieces q.pieces (λ cells moment h. h)
      (λ on. absurd (true≢false (sym on ∙ above-leaf (latest p n) base (newest_first p.versions) w.leaf v other))) e w.ends

  -- the newest version of another workspace is not written
  pub newest_away : (s : Durable) → SpacesStand p s → (m : ℕ) (old : Workspace) → workspace_of s.spaces m ≡ Some old → m ≢ n → (latest p m == latest p n) ≡ false
  newest_away s there m old is other = w.apart.others m (ne_eqb _ _ other) (ap is_some (recorded_of p s there m old is).found)
