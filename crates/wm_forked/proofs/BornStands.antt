-- The records with a workspace more stand for the state with it: what is newest in it is under what its parent's version tells, and it
-- has no changes, no savepoints and one turn.
use Rattle.std.proofs.Common.{◌≡◌, ◌≢◌, ℕ, zero, suc, ◌+◌, ◌<◌, ◌≤◌, ◌==◌, true, false, ◌&&◌, cond, List, [], ◌∷◌, ◌++◌, length, Some, None, refl, sym, ap, subst, ◌∙◌, ◌⊎◌, inl, inr, append-nil, arith}
use Rattle.std.proofs.lemmas.Bool.{cases_eq, eq-eqb, ne_eqb, and_parts}
use Rattle.std.proofs.lemmas.List.Elements.{All-nil}
use Rattle.std.proofs.lemmas.Option.{same_Some, none-some}
use Rattle.std.specs.List.{All, list_any, slice_get}
use Rattle.std.specs.Option.{option_map, option_or}
use Rattle.wm_graph.specs.Parts.{Parts, space_of}
use Rattle.wm_graph.specs.Rules.{keep_rules}
use Rattle.wm_spec.specs.Lists.{Entry, told}
use Rattle.wm_spec.specs.declared.record.savepoint.Savepoint.{Savepoint as Record}
use Rattle.wm_spec.specs.declared.record.space.Space.{Space}
use Rattle.wm_spec.specs.declared.record.trace.Trace.{Trace}
use Rattle.wm_spec.specs.declared.record.turn.Turn.{Turn as TurnRecord}
use Rattle.wm_tree.specs.declared.version.Version.{Version as Node}
use Rattle.wm_state.specs.State.{Durable, Workspace, Savepoint, Turn, content, workspace_of, savepoint_made, turn_of, turns_of, log_of}
use Rattle.wm_state.specs.Standing.{held_of, fields_of, fields_in, latest, saved_as, newest_first, Up, SpaceFields, HasRows, CountersStand, SpacesStand, FieldsStand, Stands, Names, Newest, Kept, Birth, Base, KeptBase, Tells, NamedStand, Owns, Own, KeptOwn, Covers, OwnsStand, turned, turned_in, turn_at, TurnsStand, TouchesTell, TouchesStand, MarksStand, marked_at, IsReal, EntriesStand, RowsStand}
use Rattle.wm_state.specs.Effects.{Born}
use Rattle.wm_state.proofs.Climbing.{first-sprout, parent_apart}
use Rattle.wm_state.proofs.FirstIn.{first-itself}
use Rattle.wm_state.proofs.Frames.{KeepRows, HasRows-kept, fields_stand}
use Rattle.wm_state.proofs.Keeping.{KeepRows-same}
use Rattle.wm_state.proofs.Logging.{HistsStand-frame, log_of-found, log_of-none, log_of-same, logs-kept}
use Rattle.wm_state.proofs.Mapped.{any-if, find-none, find-skip}
use Rattle.wm_state.proofs.Marking.{AreMarked, MarksStand-kept, SayMarked, marks_in, unmarked}
use Rattle.wm_state.proofs.Named.{version_below}
use Rattle.wm_state.proofs.Naming.{Carries, Covers-as, Named-as, NamedStand-kept, Owned-as, OwnsStand-kept, Stays, Tells-as, WasNamed, carries-more, climbs_kept, named_of, own_there, there_of}
use Rattle.wm_state.proofs.Ready.{KeepReady, KeepReady-same}
use Rattle.wm_state.proofs.Staying.{AreReal, AreReal-same, AreTold, EntriesStand-kept, LocksStand-same, TouchesStand-kept, WasTold, WasTouched, entries_real, turns_in, turns_of-alike, turns_of-found}
use Rattle.wm_forked.proofs.Birth.{FieldsStand-born, Is, child_found, child_none, find_more, is_of}
use Rattle.wm_forked.proofs.Placed.{tell_none}
use Rattle.wm_forked.proofs.Sprouting.{Sprouted, covers-before, covers-sprout, newest-away, newest-here, seen-before, seen-sprout}

-- the workspace that is born: its record has its fields, it has no changes, savepoints and marks, and what it sees of its parent is named
-- already for its one turn, whose fields are recorded
pub record IsChild (p : Parts) (d : Durable) (r : Space) (turn : TurnRecord) (w : Workspace) (u : Turn) : Type 0 where
  pub fields : fields_of r ≡ fields_in w
  pub number : w.number ≡ r.number
  pub turns : w.turns ≡ u ∷ []
  pub turned : turned turn ≡ turned_in u
  pub base : w.lists.base ≡ u.content
  pub own : w.lists.own ≡ []
  pub log : w.lists.log ≡ []
  pub savepoints : w.savepoints ≡ []
  pub settled : w.settled ≡ []
  pub named : Names p d r.base_version w.parent u.rebases u.content

-- ---- its version

abbrev child_node : Space → ℕ → Node
child_node r number = record { number = number; space = r.number; parent = r.base_version }

above_some : (m n : ℕ) → m < n → 0 < n
above_some m n lt = omega (arith, lt)

base_lower : (p q : Parts) (r : Space) (number : ℕ) (turn : TurnRecord) → keep_rules p ≡ true → Born p q r number turn → r.base_version < number
base_lower p q r number turn rules b = version_below p rules number b.below r.base_version b.there

sprouted_of : (p q : Parts) (r : Space) (number : ℕ) (turn : TurnRecord) → keep_rules p ≡ true → Born p q r number turn → Sprouted p q (child_node r number)
sprouted_of p q r number turn rules b = record {
  some = above_some r.base_version number (base_lower p q r number turn rules b);
  below = b.below;
  versions = b.versions;
  empty = b.empty;
  pieces = ap (λ (z : Parts). z.pieces) b.rest;
}

-- ---- the clauses

module _ (p q : Parts) (s t : Durable) (r : Space) (number : ℕ) (turn : TurnRecord) (w : Workspace) (u : Turn) (b : Born p q r number turn) (rules : keep_rules p ≡ true) (there : SpacesStand p s) (child : IsChild p s r turn w u)
    (spaces : t.spaces ≡ s.spaces ++ w ∷ []) where
  abbrev x : Node
  x = child_node r number

  grown : Sprouted p q x
  grown = sprouted_of p q r number turn rules b

  lower : r.base_version < number
  lower = base_lower p q r number turn rules b

  -- workspaces and their records
  none : workspace_of s.spaces r.number ≡ None
  none = child_none p s r there b.none

  found : (m : ℕ) → workspace_of t.spaces m ≡ cond (m == r.number) (Some w) (workspace_of s.spaces m)
  found = child_found s t r w child.number none spaces

  found_here : workspace_of t.spaces r.number ≡ Some w
  found_here = found r.number ∙ ap (λ d. cond d (Some w) (workspace_of s.spaces r.number)) (eq-eqb r.number r.number refl)

  found_away : (m : ℕ) → m ≢ r.number → workspace_of t.spaces m ≡ workspace_of s.spaces m
  found_away m other = found m ∙ ap (λ d. cond d (Some w) (workspace_of s.spaces m)) (ne_eqb _ _ other)

  workspace_is : (m : ℕ) (new : Workspace) → workspace_of t.spaces m ≡ Some new → Is (workspace_of s.spaces m) r.number m w new
  workspace_is m new is = is_of (workspace_of s.spaces m) (workspace_of t.spaces m) r.number m w new (found m) is

  record_is : (m : ℕ) (y : Space) → space_of q.spaces m ≡ Some y → Is (space_of p.spaces m) r.number m r y
  record_is m y is = is_of (space_of p.spaces m) (space_of q.spaces m) r.number m r y (b.spaces m) is

  still_saved : (m making : ℕ) (y : Record) → saved_as q m making ≡ Some y → saved_as p m making ≡ Some y
  still_saved m making y saved = ap (λ (z : Parts). saved_as z m making) (sym b.rest) ∙ saved

  -- what the child has
  rebases : w.rebases ≡ 0
  rebases = ap (λ (f : SpaceFields). f.rebases) (sym child.fields) ∙ b.rebases

  content_is : content w ≡ u.content
  content_is = ap (λ own. w.lists.base ++ own) child.own ∙ append-nil w.lists.base ∙ child.base

  made_none : (making : ℕ) (new : Workspace) (k : Savepoint) → new ≡ w → savepoint_made making new.savepoints ≡ Some k → ⊥
  made_none making new k same made = apart (sym (ap (savepoint_made making) (ap (λ (v : Workspace). v.savepoints) same ∙ child.savepoints)) ∙ made)
    where
      apart : savepoint_made making [] ≡ Some k → ⊥
      apart e = cc

  first_turn : turn_of w 0 ≡ Some u
  first_turn = ap (λ (ts : List Turn). slice_get ts 0) child.turns

  -- the turn of a workspace that is the child
  one_turn : (new : Workspace) (at : ℕ) (z : Turn) → new ≡ w → at ≡ 0 → turn_of new at ≡ Some z → z ≡ u
  one_turn new at z same first is = same_Some z u (sym is ∙ ap (λ (v : Workspace). turn_of v at) same ∙ ap (turn_of w) first ∙ first_turn)

  no_rebases : (new : Workspace) → new ≡ w → new.rebases ≡ 0
  no_rebases new same = ap (λ (v : Workspace). v.rebases) same ∙ rebases

  rows : KeepRows p q
  rows = KeepRows-same p q (ap (λ (z : Parts). z.rows) b.rest)

  -- a version that was named sees what it saw
  was_named : (v m i : ℕ) (es : List Entry) → Names p s v m i es → WasNamed p q s v m i es
  was_named v m i es named = record { named = named; sees = λ c. seen-before p q x grown v c (version_below p rules number b.below v (there_of p s rules there v m i es named)) }

  -- what the child was born from is named already
  from_named : (v : ℕ) (new : Workspace) (z : Turn) → v ≡ r.base_version → new ≡ w → z ≡ u → Names p s v new.parent z.rebases z.content
  from_named v new z is same one =
      Named-as p s _ _ _ _ _ _ _ _ is (ap (λ (o : Workspace). o.parent) same) (ap (λ (o : Turn). o.rebases) one) (ap (λ (o : Turn). o.content) one) child.named

  -- what is named was named before, or is the child's newest version
  names_born : (v m i : ℕ) (es : List Entry) → Tells q t.spaces number r.number w.rebases (content w) → Names q t v m i es → WasNamed p q s v m i es ⊎ Tells q t.spaces v m i es
  names_born v m i es newest (Newest new is) = by_case (workspace_is m new is)
    where
      by_case : Is (workspace_of s.spaces m) r.number m w new → WasNamed p q s (latest q m) m new.rebases (content new) ⊎ Tells q t.spaces (latest q m) m new.rebases (content new)
      by_case (inl h) = inr (Tells-as q t.spaces _ _ _ _ _ _ _ _ (ap (latest q) h.0 ∙ newest-here p q x grown) h.0 (ap (λ (o : Workspace). o.rebases) h.1) (ap content h.1) newest)
      by_case (inr h) = inl (was_named _ _ _ _ (Named-as p s _ _ _ _ _ _ _ _ (newest-away p q x grown m h.0) refl refl refl (Newest new h.1)))
  names_born v m i es newest (Kept making new k y is made saved) = by_case (workspace_is m new is)
    where
      by_case : Is (workspace_of s.spaces m) r.number m w new → WasNamed p q s v m i es ⊎ Tells q t.spaces v m i es
      by_case (inl h) = absurd (made_none making new k h.1 made)
      by_case (inr h) = inl (was_named _ _ _ _ (Kept making new k y h.1 made (still_saved m making y saved)))
  names_born v m i es newest (Birth {n = j} new a z some is recorded turned) = by_case (workspace_is j new is) (record_is j a recorded)
    where
      by_case : Is (workspace_of s.spaces j) r.number j w new → Is (space_of p.spaces j) r.number j r a → WasNamed p q s a.birth_version new.parent z.rebases z.content ⊎ Tells q t.spaces v m i es
      by_case (inl h) (inl k) = inl (was_named _ _ _ _ (from_named a.birth_version new z (ap (λ (o : Space). o.birth_version) k.1 ∙ b.from) h.1 (one_turn new 0 z h.1 refl turned)))
      by_case (inl h) (inr k) = absurd (k.0 h.0)
      by_case (inr h) (inl k) = absurd (h.0 k.0)
      by_case (inr h) (inr k) = inl (was_named _ _ _ _ (Birth new a z some h.1 k.1 turned))
  names_born v m i es newest (Base {n = j} new a z some is recorded turned) = by_case (workspace_is j new is) (record_is j a recorded)
    where
      by_case : Is (workspace_of s.spaces j) r.number j w new → Is (space_of p.spaces j) r.number j r a → WasNamed p q s a.base_version new.parent z.rebases z.content ⊎ Tells q t.spaces v m i es
      by_case (inl h) (inl k) = inl (was_named _ _ _ _ (from_named a.base_version new z (ap (λ (o : Space). o.base_version) k.1) h.1 (one_turn new new.rebases z h.1 (no_rebases new h.1) turned)))
      by_case (inl h) (inr k) = absurd (k.0 h.0)
      by_case (inr h) (inl k) = absurd (h.0 k.0)
      by_case (inr h) (inr k) = inl (was_named _ _ _ _ (Base new a z some h.1 k.1 turned))
  names_born v m i es newest (KeptBase {n = j} making new k y z some is made saved turned) = by_case (workspace_is j new is)
    where
      by_case : Is (workspace_of s.spaces j) r.number j w new → WasNamed p q s v m i es ⊎ Tells q t.spaces v m i es
      by_case (inl h) = absurd (made_none making new k h.1 made)
      by_case (inr h) = inl (was_named _ _ _ _ (KeptBase making new k y z some h.1 made (still_saved j making y saved) turned))

  carries : Carries p q s.spaces t.spaces
  carries = carries-more p q s.spaces t.spaces x rules b.versions b.below (λ v c lt. seen-before p q x grown v c lt) stays rows
    where
      stays : (m : ℕ) (old : Workspace) → workspace_of s.spaces m ≡ Some old → Stays t.spaces m old
      stays m old is = record { new = old; is = found_away m (λ same. none-some old (sym none ∙ ap (workspace_of s.spaces) (sym same) ∙ is)) ∙ is; parent = refl; turns = λ at z h. h }

  NamedStand-born : keep_rules q ≡ true → NamedStand p s → NamedStand q t
  NamedStand-born after named = NamedStand-kept p q s t rules there named carries (λ v m i es. names_born v m i es newest)
    where
      child_is : space_of q.spaces r.number ≡ Some r
      child_is = b.spaces r.number ∙ ap (λ d. cond d (Some r) (space_of p.spaces r.number)) (eq-eqb r.number r.number refl)

      parent_is : w.parent ≡ r.parent
      parent_is = ap (λ (f : SpaceFields). f.parent) (sym child.fields)

      newest : Tells q t.spaces number r.number w.rebases (content w)
      newest = record {
        holds = λ c. seen-sprout p q x grown c ∙ (named.tells _ _ _ _ child.named).holds c ∙ ap (λ es. option_map held_of (told es c)) (sym content_is);
        climbs =
            Up r.base_version w u found_here (ap (turn_of w) rebases ∙ first_turn)
            (first-sprout q x (newest_first p.versions) b.versions lower w.parent r.base_version (λ same. parent_apart q after r.number r b.child child_is (same ∙ parent_is))
            (carries.path w.parent r.base_version r.base_version (first-itself (newest_first p.versions) r.base_version w.parent (named_of p s rules there _ _ _ _ child.named))))
            (λ c. (was_named _ _ _ _ child.named).sees c ∙ (named.tells _ _ _ _ child.named).holds c)
            (climbs_kept p q s t rules there named carries _ _ _ _ child.named);
        rows = subst (λ es. HasRows q es) (sym content_is) (HasRows-kept p q rows u.content (named.tells _ _ _ _ child.named).rows);
      }

  -- what is own was own before, or is nothing
  OwnsStand-born : OwnsStand p s → OwnsStand q t
  OwnsStand-born owns = OwnsStand-kept p q s t owns owns_born (λ m making new k is made. past m making new k made (workspace_is m new is))
    where
      was_own : (base version : ℕ) (es : List Entry) → Owns p s base version es → Owns p s base version es × (Covers p base version es → Covers q base version es)
      was_own base version es own = (own, covers-before p q x grown rules base version (version_below p rules number b.below version (own_there p s rules there base version es own)) es)

      owns_born : (base version : ℕ) (es : List Entry) → Owns q t base version es → (Owns p s base version es × (Covers p base version es → Covers q base version es)) ⊎ Covers q base version es
      owns_born base version es (Own m new a is recorded) = by_case (workspace_is m new is) (record_is m a recorded)
        where
          by_case : Is (workspace_of s.spaces m) r.number m w new → Is (space_of p.spaces m) r.number m r a
              → (Owns p s a.base_version (latest q m) new.lists.own × (Covers p a.base_version (latest q m) new.lists.own → Covers q a.base_version (latest q m) new.lists.own)) ⊎ Covers q a.base_version (latest q m) new.lists.own
          by_case (inl h) (inl k) = inr (Covers-as q _ _ _ _ _ _ (ap (λ (o : Space). o.base_version) k.1) (ap (latest q) h.0 ∙ newest-here p q x grown) (ap (λ (o : Workspace). o.lists.own) h.1 ∙ child.own)
              (covers-sprout p q x grown rules lower))
          by_case (inl h) (inr k) = absurd (k.0 h.0)
          by_case (inr h) (inl k) = absurd (h.0 k.0)
          by_case (inr h) (inr k) = inl (was_own _ _ _ (Owned-as p s _ _ _ _ _ _ refl (newest-away p q x grown m h.0) refl (Own m new a h.1 k.1)))
      owns_born base version es (KeptOwn m making new k y is made saved based) = by_case (workspace_is m new is)
        where
          by_case : Is (workspace_of s.spaces m) r.number m w new → (Owns p s base version es × (Covers p base version es → Covers q base version es)) ⊎ Covers q base version es
          by_case (inl h) = absurd (made_none making new k h.1 made)
          by_case (inr h) = inl (was_own _ _ _ (KeptOwn m making new k y h.1 made (still_saved m making y saved) based))

      past : (m making : ℕ) (new : Workspace) (k : Savepoint) → savepoint_made making new.savepoints ≡ Some k → Is (workspace_of s.spaces m) r.number m w new → k.rebases ≤ new.rebases
      past m making new k made (inl h) = absurd (made_none making new k h.1 made)
      past m making new k made (inr h) = owns.past m making new k h.1 made

  -- the child has one turn, which is recorded
  TurnsStand-born : TurnsStand p s → TurnsStand q t
  TurnsStand-born turns = record { counted = λ m new some is. counted m new some (workspace_is m new is); same = λ m at. same m at (cases_eq m r.number) }
    where
      counted : (m : ℕ) (new : Workspace) → 0 < m → Is (workspace_of s.spaces m) r.number m w new → length new.turns ≡ new.rebases + 1
      counted m new some (inl h) = ap (λ (o : Workspace). length o.turns) h.1 ∙ ap length child.turns ∙ ap (λ k. k + 1) (sym (no_rebases new h.1))
      counted m new some (inr h) = turns.counted m new some h.1

      recorded : (at : ℕ) → turn_at q.turns r.number at ≡ cond (0 == at) (Some turn) None
      recorded at =
          ap (λ xs. turn_at xs r.number at) b.turns
          ∙ find_more (λ (y : TurnRecord). (y.space == r.number) && (y.rebase == at)) p.turns turn
          ∙ ap (λ o. option_or o (cond ((turn.space == r.number) && (turn.rebase == at)) (Some turn) None))
          (find-none (λ (y : TurnRecord). (y.space == r.number) && (y.rebase == at)) p.turns
          (any-if (λ (y : TurnRecord). y.space == r.number) (λ (y : TurnRecord). (y.space == r.number) && (y.rebase == at)) (λ y is. (and_parts (y.space == r.number) (y.rebase == at) is).0) p.turns b.unturned))
          ∙ rw (eq-eqb _ _ b.turn_space, b.turn_number) refl

      apart : (k : ℕ) → (0 == suc k) ≡ false
      apart k = grind arith

      one : (at : ℕ) → option_map turned (cond (0 == at) (Some turn) None) ≡ option_map turned_in (slice_get (u ∷ []) at)
      one zero = ap Some child.turned
      one (suc at) = ap (λ d. option_map turned (cond d (Some turn) None)) (apart at)

      same : (m at : ℕ) → (m ≡ r.number) ⊎ (m ≢ r.number) → option_map turned (turn_at q.turns m at) ≡ option_map turned_in (slice_get (turns_of t.spaces m) at)
      same m at (inl here) =
          ap (λ k. option_map turned (turn_at q.turns k at)) here
          ∙ ap (option_map turned) (recorded at)
          ∙ one at
          ∙ ap (λ ts. option_map turned_in (slice_get ts at)) (sym (turns_of-found t.spaces m w (ap (workspace_of t.spaces) here ∙ found_here) ∙ child.turns))
      same m at (inr other) =
          ap (λ xs. option_map turned (turn_at xs m at)) b.turns
          ∙ ap (option_map turned) (find-skip (λ (y : TurnRecord). (y.space == m) && (y.rebase == at)) p.turns turn (ap (λ d. d && (turn.rebase == at)) (ne_eqb _ _ (λ e. other (sym e ∙ b.turn_space)))))
          ∙ turns.same m at
          ∙ ap (λ ts. option_map turned_in (slice_get ts at)) (sym (turns_of-alike s.spaces t.spaces m (ap (option_map turns_in) (found_away m other))))

  -- nothing is touched in the child
  TouchesStand-born : TouchesStand p s → TouchesStand q t
  TouchesStand-born = TouchesStand-kept p q s t (λ m new is. each m new (workspace_is m new is))
    where
      touches : q.touches ≡ p.touches
      touches = ap (λ (z : Parts). z.touches) b.rest

      nothing : (m : ℕ) (new : Workspace) → m ≡ r.number → new ≡ w → TouchesTell q.touches m new.next_place new.lists.log
      nothing m new here same =
          subst (λ es. TouchesTell q.touches m new.next_place es) (sym (ap (λ (o : Workspace). o.lists.log) same ∙ child.log))
          (tell_none q.touches m new.next_place (ap (λ xs. list_any (λ (y : Trace). y.space == m) xs) touches ∙ ap (λ k. list_any (λ (y : Trace). y.space == k) p.touches) here ∙ b.untouched))

      each : (m : ℕ) (new : Workspace) → Is (workspace_of s.spaces m) r.number m w new
          → (WasTouched s m new × ((below : ℕ) (log : List Entry) → TouchesTell p.touches m below log → TouchesTell q.touches m below log)) ⊎ AreTold q.touches m new
      each m new (inl h) = inr (record { latest = nothing m new h.0 h.1; kept = λ making k made. absurd (made_none making new k h.1 made) })
      each m new (inr h) = inl (record { old = new; is = h.1; log = refl; place = refl; savepoints = refl }, λ below log tell. subst (λ xs. TouchesTell xs m below log) (sym touches) tell)

  -- nothing is settled in it
  MarksStand-born : MarksStand p s → MarksStand q t
  MarksStand-born = MarksStand-kept p q s t (λ m new is. each m new (workspace_is m new is))
    where
      marks : q.marks ≡ p.marks
      marks = ap (λ (z : Parts). z.marks) b.rest

      each : (m : ℕ) (new : Workspace) → Is (workspace_of s.spaces m) r.number m w new → (WasTold marks_in s.spaces m new × SayMarked p.marks q.marks m) ⊎ AreMarked q.marks m new
      each m new (inl h) = inr (rw (h.0, h.1, marks) (unmarked p.marks r.number w child.settled b.unmarked))
      each m new (inr h) = inl (record { old = new; is = h.1; same = refl }, λ place c. ap (λ xs. marked_at xs m place c) marks)

  -- and it has no entries
  EntriesStand-born : KeepReady s.tables t.tables → EntriesStand s → EntriesStand t
  EntriesStand-born ready entries = EntriesStand-kept t (λ m new is. each m new (workspace_is m new is))
    where
      each : (m : ℕ) (new : Workspace) → Is (workspace_of s.spaces m) r.number m w new → AreReal t.tables new
      each m new (inl h) = record {
        log = subst (λ es. All (IsReal t.tables) es) (sym (ap (λ (o : Workspace). o.lists.log) h.1 ∙ child.log)) (All-nil (IsReal t.tables));
        own = subst (λ es. All (IsReal t.tables) es) (sym (ap (λ (o : Workspace). o.lists.own) h.1 ∙ child.own)) (All-nil (IsReal t.tables));
        kept = λ making k made. absurd (made_none making new k h.1 made);
      }
      each m new (inr h) = AreReal-same s.tables t.tables new new ready refl refl refl (entries_real s entries m new h.1)

  logs_born : (m : ℕ) → log_of t.spaces m ≡ log_of s.spaces m
  logs_born m = by_number (cases_eq m r.number)
    where
      by_number : (m ≡ r.number) ⊎ (m ≢ r.number) → log_of t.spaces m ≡ log_of s.spaces m
      by_number (inl same) = log_of-found t.spaces m w (ap (workspace_of t.spaces) same ∙ found_here) ∙ child.log ∙ sym (log_of-none s.spaces m (ap (workspace_of s.spaces) same ∙ none))
      by_number (inr other) = log_of-same t.spaces s.spaces m (found_away m other)

  RowsStand-born : KeepReady s.tables t.tables → NamedStand p s → EntriesStand s → RowsStand p s → RowsStand q t
  RowsStand-born ready named entries stand = record { logs = logs-kept p q s t rows ready logs_born entries stand.logs; turns = λ m at new z is turned. taken m at new z turned (workspace_is m new is) }
    where
      none_some : (z : Turn) (at : ℕ) → slice_get (let nothing : List Turn = [] in nothing) at ≡ Some z → ⊥
      none_some z at e = cc

      -- the content of the one turn is named
      by_turn : (at : ℕ) (z : Turn) → slice_get (u ∷ []) at ≡ Some z → HasRows q z.content
      by_turn zero z is = subst (λ (o : Turn). HasRows q o.content) (same_Some u z is) (HasRows-kept p q rows u.content (named.tells _ _ _ _ child.named).rows)
      by_turn (suc at) z is = absurd (none_some z at is)

      taken : (m at : ℕ) (new : Workspace) (z : Turn) → turn_of new at ≡ Some z → Is (workspace_of s.spaces m) r.number m w new → HasRows q z.content
      taken m at new z turned (inl h) = by_turn at z (ap (λ ts. slice_get ts at) (sym (ap (λ (o : Workspace). o.turns) h.1 ∙ child.turns)) ∙ turned)
      taken m at new z turned (inr h) = HasRows-kept p q rows z.content (stand.turns m at new z h.1 turned)

-- ---- the records stand for the state with the workspace more

pub Stands-born : (p q : Parts) (s t : Durable) (r : Space) (number : ℕ) (turn : TurnRecord) (w : Workspace) (u : Turn) → Born p q r number turn → Stands p s → IsChild p s r turn w u → t.spaces ≡ s.spaces ++ w ∷ [] → t.tables ≡ s.tables → t.locks ≡ s.locks
    → CountersStand q t → keep_rules q ≡ true → Stands q t
Stands-born p q s t r number turn w u b st child spaces tables locks counters rules = record {
  rules = rules;
  counters = counters;
  tables = fields.tables;
  spaces = fields.spaces;
  once = fields.once;
  savepoints = fields.savepoints;
  named = NamedStand-born p q s t r number turn w u b st.rules st.spaces child spaces rules st.named;
  owns = OwnsStand-born p q s t r number turn w u b st.rules st.spaces child spaces st.owns;
  turns = TurnsStand-born p q s t r number turn w u b st.rules st.spaces child spaces st.turns;
  touches = TouchesStand-born p q s t r number turn w u b st.rules st.spaces child spaces st.touches;
  marks = MarksStand-born p q s t r number turn w u b st.rules st.spaces child spaces st.marks;
  locks = LocksStand-same p q s t (ap (λ (z : Parts). z.locks) b.rest) locks st.locks;
  hists = HistsStand-frame p q s t (ap (λ (z : Parts). z.hists) b.rest) (logs_born p q s t r number turn w u b st.rules st.spaces child spaces) ready st.entries st.hists;
  entries = EntriesStand-born p q s t r number turn w u b st.rules st.spaces child spaces ready st.entries;
  rows = RowsStand-born p q s t r number turn w u b st.rules st.spaces child spaces ready st.named st.entries st.rows;
}
  where
    fields : FieldsStand q t
    fields = FieldsStand-born p q s t r number turn w b (fields_stand p s st) child.fields child.number child.savepoints spaces tables counters

    ready : KeepReady s.tables t.tables
    ready = KeepReady-same s.tables t.tables tables
