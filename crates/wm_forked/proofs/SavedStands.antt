-- The records with a savepoint more stand for the state with it: nothing new is named, and nothing new is own.
use Rattle.std.proofs.Common.{◌≡◌, ℕ, ◌<◌, ◌≤◌, ◌==◌, ◌&&◌, true, false, List, ◌++◌, length, take, Some, is_some, refl, sym, ap, subst, ◌∙◌, inl, ⊎_elim, take_all, le_refl}
use Rattle.std.proofs.lemmas.Option.{same_Some}
use Rattle.std.specs.List.{All}
use Rattle.wm_graph.specs.Parts.{Parts, space_of}
use Rattle.wm_graph.specs.Rules.{keep_rules}
use Rattle.wm_spec.specs.Lists.{Entry}
use Rattle.wm_spec.specs.declared.record.savepoint.Savepoint.{Savepoint as Record}
use Rattle.wm_spec.specs.declared.record.space.Space.{Space}
use Rattle.wm_state.specs.State.{Durable, Workspace, Savepoint, Contents, Turn, content, kept, workspace_of, with_space, with_savepoint, savepoint_made, turn_of, log_of}
use Rattle.wm_state.specs.Standing.{latest, seen, seen_above, have_ends, SpaceFields, saved_fields, fields_saved, saved_as, CountersStand, SpacesStand, SavepointsStand, FieldsStand, Stands, Names, Newest, Kept, Birth, Base, KeptBase, NamedStand, Owns, Own, KeptOwn, OwnsStand, TouchesTell, TouchesStand, IsReal, EntriesStand}
use Rattle.wm_state.specs.Effects.{Saved}
use Rattle.wm_state.proofs.Climbing.{Recorded, recorded_of}
use Rattle.wm_state.proofs.Frames.{fields_stand}
use Rattle.wm_state.proofs.Keeping.{KeepRows-same}
use Rattle.wm_state.proofs.Logging.{HistsStand-frame, log_of-changed}
use Rattle.wm_state.proofs.Marking.{MarksStand-alike, marks_in}
use Rattle.wm_state.proofs.Naming.{Named-as, NamedStand-kept, Owned-as, OwnsStand-kept, carries-same, stays-changed}
use Rattle.wm_state.proofs.Ready.{KeepReady, KeepReady-same, all_real-kept}
use Rattle.wm_state.proofs.Staying.{AreReal, EntriesStand-kept, LocksStand-same, RowsStand-alike, SameTurns, TurnsStand-alike, entries_real, part-changed, turns_in}
use Rattle.wm_forked.proofs.Placed.{Tell-as, tell_wider}
use Rattle.wm_forked.proofs.Saving.{FieldsStand-saved, MadeCase, WasSaved, had_mark, made_case, saved_as-away, saved_as-here, was_saved}

-- ---- what a savepoint keeps

-- the record of a savepoint keeps what the savepoint has: its version is named for it already, and in a workspace with a parent the
-- version under its own for the turn; what stands above that is its own where the workspace was not rebased since; touches below its
-- place tell what the log was there, and its own changes are real
pub record IsKept (p : Parts) (d : Durable) (w : Workspace) (k : Savepoint) (x : Record) : Type 0 where
  pub named : Names p d x.version x.space k.rebases (kept k)
  pub base : (t : Turn) → 0 < x.space → turn_of w k.rebases ≡ Some t → Names p d x.base_version w.parent t.rebases t.content
  pub owned : k.rebases ≡ w.rebases → Owns p d x.base_version x.version k.own
  pub past : k.rebases ≤ w.rebases
  pub told : TouchesTell p.touches x.space k.place (take k.log_length w.lists.log)
  pub real : All (IsReal d.tables) k.own
  pub fields : saved_fields x ≡ fields_saved k

-- ---- the clauses

module _ (p q : Parts) (s t : Durable) (n place implicit : ℕ) (w : Workspace) (k : Savepoint) (x : Record) (v : Saved p q n place implicit x) (spaces : t.spaces ≡ with_space n (with_savepoint place implicit k) s.spaces)
    (found : workspace_of s.spaces n ≡ Some w) (new_one : IsKept p s w k x) (stand : SavepointsStand p s) where
  before : (m : ℕ) (new : Workspace) → workspace_of t.spaces m ≡ Some new → WasSaved n place implicit k s.spaces m new
  before m new is = was_saved n place implicit k s.spaces m new (ap (λ ws. workspace_of ws m) (sym spaces) ∙ is)

  made_before : (m making : ℕ) (new : Workspace) (j : Savepoint) → workspace_of t.spaces m ≡ Some new → savepoint_made making new.savepoints ≡ Some j → MadeCase n place implicit k x s.spaces m making new j
  made_before m making new j is made = made_case p q s n place implicit k x v new_one.fields stand m making new j (ap (λ ws. workspace_of ws m) (sym spaces) ∙ is) made

  newest-still : (m : ℕ) → latest q m ≡ latest p m
  newest-still m = ap (λ (z : Parts). latest z m) v.rest

  -- the record and the workspace of the new savepoint
  new_record : (m making : ℕ) (y : Record) → saved_as q m making ≡ Some y → m ≡ n → x.making ≡ making → y ≡ x
  new_record m making y saved here made = same_Some y x (sym saved ∙ ap (λ i. saved_as q i making) here ∙ saved_as-here p q n place implicit x v making made)

  new_home : (m : ℕ) (old : Workspace) → workspace_of s.spaces m ≡ Some old → m ≡ n → old ≡ w
  new_home m old is here = same_Some old w (sym is ∙ ap (workspace_of s.spaces) here ∙ found)

  -- another is recorded as it was
  old_record : (m making : ℕ) (y : Record) → saved_as q m making ≡ Some y → ((x.space == m) && (x.making == making)) ≡ false → saved_as p m making ≡ Some y
  old_record m making y saved away = sym (saved_as-away p q n place implicit x v m making away) ∙ saved

  -- what is named was named before
  names_saved : (u m r : ℕ) (es : List Entry) → Names q t u m r es → Names p s u m r es
  names_saved u m r es (Newest new is) =
      let y = before m new is in
      Named-as p s _ _ _ _ _ _ _ _ (newest-still m) refl y.rebases (ap (λ (l : Contents). l.base ++ l.own) y.lists) (Newest y.old y.is)
  names_saved u m r es (Kept making new j y is made saved) =
      let z = made_before m making new j is made in
      ⊎_elim
      (λ h. let same = new_record m making y saved h.0 h.1 in
      Named-as p s _ _ _ _ _ _ _ _ (ap (λ (i : Record). i.version) same) (h.0 ∙ sym v.space) (ap (λ (i : Savepoint). i.rebases) h.2) (ap kept h.2) new_one.named)
      (λ h. Kept making z.was.old j y z.was.is h.0 (old_record m making y saved h.1))
      z.how
  names_saved u m r es (Birth {n = i} new a turn some is recorded turned) =
      let y = before i new is in
      let b = had_mark p q n place implicit x v i a recorded in
      Named-as p s _ _ _ _ _ _ _ _ b.birth y.parent refl refl (Birth y.old b.old turn some y.is b.is (rw (sym y.turns) turned))
  names_saved u m r es (Base {n = i} new a turn some is recorded turned) =
      let y = before i new is in
      let b = had_mark p q n place implicit x v i a recorded in
      Named-as p s _ _ _ _ _ _ _ _ b.base y.parent refl refl (Base y.old b.old turn some y.is b.is (rw (sym y.turns, sym y.rebases) turned))
  names_saved u m r es (KeptBase {n = i} making new j y turn some is made saved turned) =
      let z = made_before i making new j is made in
      ⊎_elim
      (λ h. let same = new_record i making y saved h.0 h.1 in
      let one = new_home i z.was.old z.was.is h.0 in
      Named-as p s _ _ _ _ _ _ _ _ (ap (λ (i : Record). i.base_version) same) (z.was.parent ∙ ap (λ (o : Workspace). o.parent) one) refl refl
      (new_one.base turn (subst (λ l. 0 < l) (h.0 ∙ sym v.space) some) (ap (λ (o : Workspace). turn_of o k.rebases) (sym one) ∙ rw (sym z.was.turns, ap (λ (l : Savepoint). l.rebases) (sym h.2)) turned)))
      (λ h. Named-as p s _ _ _ _ _ _ _ _ refl z.was.parent refl refl (KeptBase making z.was.old j y turn some z.was.is h.0 (old_record i making y saved h.1) (rw (sym z.was.turns) turned)))
      z.how

  NamedStand-saved : keep_rules p ≡ true → SpacesStand p s → NamedStand p s → NamedStand q t
  NamedStand-saved rules there named =
      NamedStand-kept p q s t rules there named
      (carries-same p q s.spaces t.spaces (ap (λ (z : Parts). z.versions) v.rest) (ap (λ (z : Parts). z.pieces) v.rest)
      (stays-changed s.spaces t.spaces n (with_savepoint place implicit k) (λ w. refl) (λ w. refl) (λ w. refl) spaces) (KeepRows-same p q (ap (λ (z : Parts). z.rows) v.rest)))
      (λ u m r es x. inl (record { named = names_saved u m r es x; sees = λ c. ap (λ (z : Parts). seen z u c) v.rest }))

  -- what is own was own before
  owns_saved : (base version : ℕ) (es : List Entry) → Owns q t base version es → Owns p s base version es
  owns_saved base version es (Own m new a is recorded) =
      let y = before m new is in
      let b = had_mark p q n place implicit x v m a recorded in
      Owned-as p s _ _ _ _ _ _ b.base (newest-still m) (ap (λ (l : Contents). l.own) y.lists) (Own m y.old b.old y.is b.is)
  owns_saved base version es (KeptOwn m making new j y is made saved based) =
      let z = made_before m making new j is made in
      ⊎_elim
      (λ h. let same = new_record m making y saved h.0 h.1 in
      let one = new_home m z.was.old z.was.is h.0 in
      Owned-as p s _ _ _ _ _ _ (ap (λ (i : Record). i.base_version) same) (ap (λ (i : Record). i.version) same) (ap (λ (i : Savepoint). i.own) h.2)
      (new_one.owned (ap (λ (i : Savepoint). i.rebases) (sym h.2) ∙ based ∙ z.was.rebases ∙ ap (λ (o : Workspace). o.rebases) one)))
      (λ h. KeptOwn m making z.was.old j y z.was.is h.0 (old_record m making y saved h.1) (based ∙ z.was.rebases))
      z.how

  OwnsStand-saved : OwnsStand p s → OwnsStand q t
  OwnsStand-saved owns =
      OwnsStand-kept p q s t owns
      (λ base version es x. inl (owns_saved base version es x, λ h. record { cells = λ c. ap (λ (z : Parts). is_some (seen_above z base version c)) v.rest ∙ h.cells c; ends = ap (λ (z : Parts). have_ends z base version es) v.rest ∙ h.ends }))
      (λ m making new j is made. let z = made_before m making new j is made in
      subst (λ (b : ℕ). j.rebases ≤ b) (sym z.was.rebases)
      (⊎_elim
      (λ h. subst (λ (i : Savepoint). i.rebases ≤ z.was.old.rebases) (sym h.2) (subst (λ (o : Workspace). k.rebases ≤ o.rebases) (sym (new_home m z.was.old z.was.is h.0)) new_one.past))
      (λ h. owns.past m making z.was.old j z.was.is h.0)
      z.how))

  -- the touches tell what they told
  TouchesStand-saved : keep_rules p ≡ true → SpacesStand p s → w.next_place ≤ place → TouchesStand p s → TouchesStand q t
  TouchesStand-saved rules there wide touches = record {
    latest = λ m new is. let y = before m new is in told_still m new.next_place new.lists.log
        (⊎_elim
        (λ h. subst (λ (o : Workspace). TouchesTell p.touches m o.next_place o.lists.log) (sym h.1) (wider m y.old y.is (new_home m y.old y.is h.0) (recorded_of p s there m y.old y.is)))
        (λ h. subst (λ (o : Workspace). TouchesTell p.touches m o.next_place o.lists.log) (sym h.1) (touches.latest m y.old y.is))
        y.how);
    kept = λ m making new j is made. let z = made_before m making new j is made in told_still m j.place (take j.log_length new.lists.log)
        (⊎_elim
        (λ h. Tell-as p.touches _ _ _ _ _ _ (h.0 ∙ sym v.space) (ap (λ (i : Savepoint). i.place) h.2)
        (ap (λ (i : Savepoint). take i.log_length new.lists.log) h.2 ∙ ap (λ (l : Contents). take k.log_length l.log) z.was.lists ∙ ap (λ (o : Workspace). take k.log_length o.lists.log) (new_home m z.was.old z.was.is h.0)) new_one.told)
        (λ h. Tell-as p.touches _ _ _ _ _ _ refl refl (ap (λ (l : Contents). take j.log_length l.log) z.was.lists) (touches.kept m making z.was.old j z.was.is h.0))
        z.how);
  }
    where
      told_still : (m below : ℕ) (log : List Entry) → TouchesTell p.touches m below log → TouchesTell q.touches m below log
      told_still m below log tell = subst (λ xs. TouchesTell xs m below log) (sym (ap (λ (z : Parts). z.touches) v.rest)) tell

      wider : (m : ℕ) (old : Workspace) → workspace_of s.spaces m ≡ Some old → old ≡ w → Recorded p m old → TouchesTell p.touches m place old.lists.log
      wider m old is one r =
          let next : r.space.next_place ≡ old.next_place = ap (λ (f : SpaceFields). f.next_place) r.fields in
          tell_wider p rules m r.space r.found place (subst (λ (b : ℕ). b ≤ place) (sym (next ∙ ap (λ (o : Workspace). o.next_place) one)) wide) old.lists.log
          (Tell-as p.touches _ _ _ _ _ _ refl next refl (touches.latest m old is))

  -- and entries are real that were
  EntriesStand-saved : KeepReady s.tables t.tables → EntriesStand s → EntriesStand t
  EntriesStand-saved ready entries = EntriesStand-kept t (λ m new is. each m new is (before m new is))
    where
      real : (es fs : List Entry) → es ≡ fs → All (IsReal s.tables) fs → All (IsReal t.tables) es
      real es fs same all = subst (λ xs. All (IsReal t.tables) xs) (sym same) (all_real-kept s.tables t.tables ready fs all)

      each : (m : ℕ) (new : Workspace) → workspace_of t.spaces m ≡ Some new → WasSaved n place implicit k s.spaces m new → AreReal t.tables new
      each m new is y = let old = entries_real s entries m y.old y.is in record {
        log = real new.lists.log y.old.lists.log (ap (λ (l : Contents). l.log) y.lists) old.log;
        own = real new.lists.own y.old.lists.own (ap (λ (l : Contents). l.own) y.lists) old.own;
        kept = λ making j made. let z = made_before m making new j is made in
            ⊎_elim (λ h. real j.own k.own (ap (λ (i : Savepoint). i.own) h.2) new_one.real) (λ h. real j.own j.own refl (entries.kept m making z.was.old j z.was.is h.0)) z.how;
      }

-- ---- the records stand for the state with the savepoint

pub Stands-saved : (p q : Parts) (s t : Durable) (n place implicit : ℕ) (w : Workspace) (k : Savepoint) (x : Record) → Saved p q n place implicit x → Stands p s → workspace_of s.spaces n ≡ Some w → IsKept p s w k x
    → t.spaces ≡ with_space n (with_savepoint place implicit k) s.spaces → t.tables ≡ s.tables → t.locks ≡ s.locks → w.next_place ≤ place → CountersStand q t → keep_rules q ≡ true → Stands q t
Stands-saved p q s t n place implicit w k x v st found new_one spaces tables locks wide counters rules = record {
  rules = rules;
  counters = counters;
  tables = fields.tables;
  spaces = fields.spaces;
  once = fields.once;
  savepoints = fields.savepoints;
  named = NamedStand-saved p q s t n place implicit w k x v spaces found new_one st.savepoints st.rules st.spaces st.named;
  owns = OwnsStand-saved p q s t n place implicit w k x v spaces found new_one st.savepoints st.owns;
  turns = TurnsStand-alike p q s t (ap (λ (z : Parts). z.turns) v.rest) alike st.turns;
  touches = TouchesStand-saved p q s t n place implicit w k x v spaces found new_one st.savepoints st.rules st.spaces wide st.touches;
  marks = MarksStand-alike p q s t (ap (λ (z : Parts). z.marks) v.rest) (part-changed marks_in n (with_savepoint place implicit k) (λ w. refl) (λ w. refl) s.spaces t.spaces spaces) st.marks;
  locks = LocksStand-same p q s t (ap (λ (z : Parts). z.locks) v.rest) locks st.locks;
  hists = HistsStand-frame p q s t (ap (λ (z : Parts). z.hists) v.rest) logs ready st.entries st.hists;
  entries = EntriesStand-saved p q s t n place implicit w k x v spaces found new_one st.savepoints ready st.entries;
  rows = RowsStand-alike p q s t (KeepRows-same p q (ap (λ (z : Parts). z.rows) v.rest)) ready logs alike st.entries st.rows;
}
  where
    fields : FieldsStand q t
    fields = FieldsStand-saved p q s t n place implicit w k x v (fields_stand p s st) found new_one.fields spaces tables counters

    ready : KeepReady s.tables t.tables
    ready = KeepReady-same s.tables t.tables tables

    alike : SameTurns s.spaces t.spaces
    alike = part-changed turns_in n (with_savepoint place implicit k) (λ w. refl) (λ w. refl) s.spaces t.spaces spaces

    logs : (m : ℕ) → log_of t.spaces m ≡ log_of s.spaces m
    logs m = ap (λ ws. log_of ws m) spaces ∙ log_of-changed n (with_savepoint place implicit k) (λ w. refl) (λ w. refl) s.spaces m

-- ---- what a savepoint keeps of what is there

-- made at what is newest
pub kept_latest : (p : Parts) (s : Durable) (n : ℕ) (w : Workspace) (r : Space) (k : Savepoint) (x : Record) → Stands p s → workspace_of s.spaces n ≡ Some w → space_of p.spaces n ≡ Some r → x.space ≡ n → x.version ≡ latest p n
    → x.base_version ≡ r.base_version → kept k ≡ content w → k.own ≡ w.lists.own → k.rebases ≡ w.rebases → k.place ≡ w.next_place → k.log_length ≡ length w.lists.log → saved_fields x ≡ fields_saved k → IsKept p s w k x
kept_latest p s n w r k x st found recorded space version base_version same own rebases place log fields = record {
  named = Named-as p s _ _ _ _ _ _ _ _ version space rebases same (Newest w found);
  base = λ t some turn. Named-as p s _ _ _ _ _ _ _ _ base_version refl refl refl (Base w r t (subst (λ i. 0 < i) space some) found recorded (ap (turn_of w) (sym rebases) ∙ turn));
  owned = λ based. Owned-as p s _ _ _ _ _ _ base_version version own (Own n w r found recorded);
  past = subst (λ (b : ℕ). b ≤ w.rebases) (sym rebases) (le_refl w.rebases);
  told = Tell-as p.touches _ _ _ _ _ _ space place (ap (λ i. take i w.lists.log) log ∙ take_all (length w.lists.log) w.lists.log (le_refl (length w.lists.log))) (st.touches.latest n w found);
  real = subst (λ es. All (IsReal s.tables) es) (sym own) (st.entries.own n w found);
  fields = fields;
}

-- made where another is
pub kept_again : (p : Parts) (s : Durable) (n making : ℕ) (w : Workspace) (k j : Savepoint) (x y : Record) → Stands p s → workspace_of s.spaces n ≡ Some w → saved_as p n making ≡ Some y → savepoint_made making w.savepoints ≡ Some j
    → x.space ≡ n → x.version ≡ y.version → x.base_version ≡ y.base_version → kept k ≡ kept j → k.own ≡ j.own → k.rebases ≡ j.rebases → k.place ≡ j.place → k.log_length ≡ j.log_length → saved_fields x ≡ fields_saved k → IsKept p s w k x
kept_again p s n making w k j x y st found recorded made space version base_version same own rebases place log fields = record {
  named = Named-as p s _ _ _ _ _ _ _ _ version space rebases same (Kept making w j y found made recorded);
  base = λ t some turn. Named-as p s _ _ _ _ _ _ _ _ base_version refl refl refl (KeptBase making w j y t (subst (λ i. 0 < i) space some) found made recorded (ap (turn_of w) (sym rebases) ∙ turn));
  owned = λ based. Owned-as p s _ _ _ _ _ _ base_version version own (KeptOwn n making w j y found made recorded (sym rebases ∙ based));
  past = subst (λ (b : ℕ). b ≤ w.rebases) (sym rebases) (st.owns.past n making w j found made);
  told = Tell-as p.touches _ _ _ _ _ _ space place (ap (λ i. take i w.lists.log) log) (st.touches.kept n making w j found made);
  real = subst (λ es. All (IsReal s.tables) es) (sym own) (st.entries.kept n making w j found made);
  fields = fields;
}
