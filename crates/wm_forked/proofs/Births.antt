-- A workspace is born at a savepoint that is made for it: the records with both.
use Rattle.std.proofs.Common.{◌≡◌, ℕ, ◌<◌, nat_lt, suc, Bool, true, List, [], ◌∷◌, ◌++◌, length, Some, refl, sym, ap, ◌∙◌, arith, le_refl}
use Rattle.std.proofs.lemmas.Bool.{le-leb}
use Rattle.std.specs.List.{list_all, list_any}
use Rattle.std.specs.Str.{bytes_eq}
use Rattle.wm_base.proofs.Plain.{nat_le-itself}
use Rattle.wm_graph.specs.Parts.{Parts, space_of}
use Rattle.wm_graph.specs.Rules.{keep_rules}
use Rattle.wm_spec.specs.declared.record.counters.Counters.{Counters}
use Rattle.wm_spec.specs.declared.record.savepoint.Savepoint.{Savepoint}
use Rattle.wm_spec.specs.declared.record.space.Space.{Space}
use Rattle.wm_spec.specs.declared.record.turn.Turn.{Turn}
use Rattle.wm_spec.specs.declared.record.version.Version.{Version}
use Rattle.wm_state.specs.Editing.{turn_at_birth}
use Rattle.wm_state.specs.State.{Durable, Workspace, kept, workspace_of, with_space, with_savepoint}
use Rattle.wm_state.specs.State.{Savepoint as Kept}
use Rattle.wm_state.specs.Standing.{Kept as KeptAs, fields_of, fields_in, saved_fields, fields_saved, turned, turned_in, CountersStand, FieldsStand, SavepointsStand, Stands}
use Rattle.wm_state.specs.Effects.{Saved, marked}
use Rattle.wm_state.proofs.Tests.{all_swap, all_middle, any_swap}
use Rattle.wm_state.proofs.Keeping.{SpaceStill, KeepSpaces-swap}
use Rattle.wm_state.proofs.Naming.{Named-as}
use Rattle.wm_forked.proofs.Birth.{FieldsStand-born}
use Rattle.wm_forked.proofs.BornStands.{IsChild, Stands-born}
use Rattle.wm_forked.proofs.KeepSaved.{saved, MaySave, keep-saved, saved_of, FieldsStand-kept, Stands-kept}
use Rattle.wm_forked.proofs.SavedStands.{IsKept}
use Rattle.wm_forked.proofs.Saving.{has_savepoint, made_new, saved_as-here}
use Rattle.wm_forked.proofs.KeepBorn.{born, MayBear, keep-born, born_of}

-- the counters between, which nobody sees: those of after, before a version was added
abbrev pub between : Counters → Counters → Counters
between old new = record new { next_version = old.next_version }

-- the records with the savepoint and the workspace
abbrev pub birthed : Parts → Counters → Counters → List Space → Space → List Space → ℕ → ℕ → Savepoint → Space → Version → Turn → Parts
birthed p old new front a back place implicit x r v u = born (saved p (between old new) front a back place implicit x) new r v u

-- ---- a workspace may be born where a savepoint was made

-- the record of its parent is there still
parent_still : (p : Parts) (old c : Counters) (front : List Space) (a : Space) (back : List Space) (place implicit : ℕ) (x : Savepoint) → MaySave p old c front a back place implicit x → (n : ℕ) (b : Space) → space_of p.spaces n ≡ Some b
    → SpaceStill (saved p c front a back place implicit x) n b
parent_still p old c front a back place implicit x save n b found =
    KeepSpaces-swap p (saved p c front a back place implicit x) front back a (marked place implicit a) refl refl (nat_le-itself a.log_length) (le-leb a.next_place place save.places) refl save.spaces refl n b found

may_bear : (p : Parts) (old new : Counters) (front : List Space) (a : Space) (back : List Space) (place implicit : ℕ) (x : Savepoint) (b r : Space) (v : Version) (u : Turn) (save : MaySave p old (between old new) front a back place implicit x)
    (bear : MayBear p old new b r v u) → MayBear (saved p (between old new) front a back place implicit x) (between old new) new (parent_still p old (between old new) front a back place implicit x save r.parent b bear.parent).new r v u
may_bear p old new front a back place implicit x b r v u save bear = record {
  one = refl;
  counters = bear.counters;
  stamps = refl;
  next = bear.next;
  work = le_refl new.work;
  room = as_long (length p.spaces) (length (front ++ marked place implicit a ∷ back)) (ap length save.spaces ∙ sym (length-put front back (marked place implicit a) a)) bear.room;
  after = all_swap lower lower a (marked place implicit a) front back (λ s h. h) (all_middle lower a front back after) after;
  unnamed = any_swap same_name a (marked place implicit a) refl front back ∙ ap (list_any same_name) (sym save.spaces) ∙ bear.unnamed;
  parent = (parent_still p old (between old new) front a back place implicit x save r.parent b bear.parent).is;
  name = bear.name;
  writer = bear.writer;
  place = bear.place;
  implicit = bear.implicit;
  log = bear.log;
  from = bear.from;
  base = bear.base;
  number = bear.number;
  space = bear.space;
  under = bear.under;
  rebases = bear.rebases;
  turn_space = bear.turn_space;
  turn_number = bear.turn_number;
  turn_from = bear.turn_from;
}
  where
    lower : Space → Bool
    lower s = nat_lt s.number r.number

    same_name : Space → Bool
    same_name s = bytes_eq s.name r.name

    after : list_all lower (front ++ a ∷ back) ≡ true
    after = ap (list_all lower) (sym save.spaces) ∙ bear.after

    as_long : (m n : ℕ) → m ≡ n → m < 1024 → n < 1024
    as_long m n same lt = omega (arith, same, lt)

    length-put : (front back : List Space) (s t : Space) → length (front ++ s ∷ back) ≡ length (front ++ t ∷ back)
    length-put [] back s t = refl
    length-put (y ∷ front) back s t = ap suc (length-put front back s t)

-- ---- the laws

-- the rules hold of the records with both
pub keep-birth : (p : Parts) (old new : Counters) (front : List Space) (a : Space) (back : List Space) (place implicit : ℕ) (x : Savepoint) (b r : Space) (v : Version) (u : Turn) → MaySave p old (between old new) front a back place implicit x
    → MayBear p old new b r v u → keep_rules p ≡ true → keep_rules (birthed p old new front a back place implicit x r v u) ≡ true
keep-birth p old new front a back place implicit x b r v u save bear e =
    keep-born (saved p (between old new) front a back place implicit x) (between old new) new (parent_still p old (between old new) front a back place implicit x save r.parent b bear.parent).new r v u
    (may_bear p old new front a back place implicit x b r v u save bear)
    (keep-saved p old (between old new) front a back place implicit x save e)

-- and they agree with the state with both
pub FieldsStand-birth : (p : Parts) (old new : Counters) (front : List Space) (a : Space) (back : List Space) (place implicit : ℕ) (x : Savepoint) (b r : Space) (v : Version) (u : Turn) (parent child : Workspace) (k : Kept) (s t : Durable)
    → keep_rules p ≡ true → FieldsStand p s → MaySave p old (between old new) front a back place implicit x → MayBear p old new b r v u → workspace_of s.spaces x.space ≡ Some parent → saved_fields x ≡ fields_saved k
    → fields_of r ≡ fields_in child → child.number ≡ r.number → child.savepoints ≡ [] → t.spaces ≡ with_space x.space (with_savepoint place implicit k) s.spaces ++ child ∷ [] → t.tables ≡ s.tables
    → CountersStand (birthed p old new front a back place implicit x r v u) t → FieldsStand (birthed p old new front a back place implicit x r v u) t
FieldsStand-birth p old new front a back place implicit x b r v u parent child k s t rules st save bear found kept_fields fields number savepoints spaces tables counters =
    FieldsStand-born q (birthed p old new front a back place implicit x r v u) mid t r v.number u child
    (born_of q (between old new) new still.new r v u (may_bear p old new front a back place implicit x b r v u save bear) (keep-saved p old (between old new) front a back place implicit x save rules))
    (FieldsStand-kept p old (between old new) front a back place implicit x parent k s mid rules st save found kept_fields refl refl
    (record { counters = between old new; one = refl; next_stamp = refl; last_moment = refl; limit = refl; work = refl }))
    fields number savepoints spaces tables counters
  where
    q : Parts
    q = saved p (between old new) front a back place implicit x

    still : SpaceStill q r.parent b
    still = parent_still p old (between old new) front a back place implicit x save r.parent b bear.parent

    -- the state between, which nobody sees
    mid : Durable
    mid = record s { spaces = with_space x.space (with_savepoint place implicit k) s.spaces; next_stamp = new.next_stamp; last_moment = new.last_moment; limit = new.limit; work = new.work }

-- a workspace is born where a savepoint was made: its record names the version that the savepoint keeps, and it has the fields of its
-- record, no changes, savepoints and marks, and for its one turn what the savepoint keeps
pub record IsBornAt (x : Savepoint) (k : Kept) (r : Space) (u : Turn) (child : Workspace) : Type 0 where
  pub under : r.base_version ≡ x.version
  pub parent : child.parent ≡ x.space
  pub fields : fields_of r ≡ fields_in child
  pub number : child.number ≡ r.number
  pub turns : child.turns ≡ turn_at_birth k ∷ []
  pub turned : turned u ≡ turned_in (turn_at_birth k)
  pub base : child.lists.base ≡ kept k
  pub own : child.lists.own ≡ []
  pub log : child.lists.log ≡ []
  pub savepoints : child.savepoints ≡ []
  pub settled : child.settled ≡ []

-- so what it sees of its parent is named by the savepoint
child_kept : (p q : Parts) (s t : Durable) (place implicit : ℕ) (w child : Workspace) (k : Kept) (x : Savepoint) (r : Space) (u : Turn) → Saved p q x.space place implicit x → SavepointsStand p s → workspace_of s.spaces x.space ≡ Some w
    → saved_fields x ≡ fields_saved k → t.spaces ≡ with_space x.space (with_savepoint place implicit k) s.spaces → IsBornAt x k r u child → IsChild q t r u child (turn_at_birth k)
child_kept p q s t place implicit w child k x r u v stand found fields spaces is = record {
  fields = is.fields;
  number = is.number;
  turns = is.turns;
  turned = is.turned;
  base = is.base;
  own = is.own;
  log = is.log;
  savepoints = is.savepoints;
  settled = is.settled;
  named = Named-as q t _ _ _ _ _ _ _ _ is.under is.parent refl refl
      (KeptAs x.making (with_savepoint place implicit k w) k x (ap (λ ws. workspace_of ws x.space) spaces ∙ has_savepoint x.space place implicit k s.spaces w found)
      (made_new p q s x.space place implicit k x v fields stand w found x.making refl) (saved_as-here p q x.space place implicit x v x.making refl));
}

-- and they stand for it
pub Stands-birth : (p : Parts) (old new : Counters) (front : List Space) (a : Space) (back : List Space) (place implicit : ℕ) (x : Savepoint) (b r : Space) (v : Version) (u : Turn) (parent child : Workspace) (k : Kept) (s t : Durable)
    → Stands p s → MaySave p old (between old new) front a back place implicit x → MayBear p old new b r v u → workspace_of s.spaces x.space ≡ Some parent → IsKept p s parent k x → IsBornAt x k r u child
    → t.spaces ≡ with_space x.space (with_savepoint place implicit k) s.spaces ++ child ∷ [] → t.tables ≡ s.tables → t.locks ≡ s.locks → CountersStand (birthed p old new front a back place implicit x r v u) t
    → Stands (birthed p old new front a back place implicit x r v u) t
Stands-birth p old new front a back place implicit x b r v u parent child k s t st save bear found is_kept is_born spaces tables locks counters =
    Stands-born q (birthed p old new front a back place implicit x r v u) mid t r v.number u child (turn_at_birth k)
    (born_of q (between old new) new still.new r v u may (keep-saved p old (between old new) front a back place implicit x save st.rules))
    (Stands-kept p old (between old new) front a back place implicit x parent k s mid st save found is_kept refl refl refl (record { counters = between old new; one = refl; next_stamp = refl; last_moment = refl; limit = refl; work = refl }))
    (child_kept p q s mid place implicit parent child k x r u (saved_of p old (between old new) front a back place implicit x save st.rules) st.savepoints found is_kept.fields refl is_born)
    spaces tables locks counters (keep-birth p old new front a back place implicit x b r v u save bear st.rules)
  where
    q : Parts
    q = saved p (between old new) front a back place implicit x

    still : SpaceStill q r.parent b
    still = parent_still p old (between old new) front a back place implicit x save r.parent b bear.parent

    may : MayBear q (between old new) new still.new r v u
    may = may_bear p old new front a back place implicit x b r v u save bear

    -- the state between, which nobody sees
    mid : Durable
    mid = record s { spaces = with_space x.space (with_savepoint place implicit k) s.spaces; next_stamp = new.next_stamp; last_moment = new.last_moment; limit = new.limit; work = new.work }
