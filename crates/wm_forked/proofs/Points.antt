-- A savepoint that is made where one stands in a workspace.
use Rattle.std.proofs.Common.{◌≡◌, ℕ, ◌+◌, ◌≤◌, ◌==◌, ◌&&◌, nat_lt, nat_le, Bool, true, false, List, [], ◌∷◌, ◌++◌, length, Option, Some, None, is_some, refl, sym, ap, subst, ◌∙◌, arith, le_refl}
use Rattle.std.proofs.lemmas.Bool.{and_parts, ltb-true}
use Rattle.std.proofs.lemmas.Option.{none-some, same_Some}
use Rattle.std.specs.List.{find, count_by}
use Rattle.std.specs.Option.{option_map}
use Rattle.std.specs.Str.{bytes_eq}
use Rattle.wm_base.proofs.Plain.{nat_le-itself, nat_lt-next, none_some}
use Rattle.wm_base.specs.declared.instant.TheConstants.{END}
use Rattle.wm_graph.specs.Parts.{Parts, space_of, version_of}
use Rattle.wm_graph.specs.Rules.{keep_rules, is_short, is_version_of, is_base_of}
use Rattle.wm_spec.specs.declared.record.counters.Counters.{Counters}
use Rattle.wm_spec.specs.declared.record.savepoint.Savepoint.{Savepoint as Record}
use Rattle.wm_spec.specs.declared.record.space.Space.{Space}
use Rattle.wm_state.specs.Editing.{counter_limit, place_behind, saved_at}
use Rattle.wm_state.specs.Points.{HasRoom, Point, made_at, moved, newest_point, next_place_at, point_at, saved_point}
use Rattle.wm_state.specs.State.{Durable, Workspace, Savepoint, Stand, Latest, At, Dated, next_making, savepoint_made, savepoint_named}
use Rattle.wm_state.specs.Standing.{SpaceFields, SavepointFields, fields_of, fields_in, saved_fields, fields_saved, saved_in, saved_as, making_behind, OnceStand, SavepointsStand, FieldsStand, Stands}
use Rattle.wm_state.proofs.Counting.{counted_well, counters_move}
use Rattle.wm_forked.proofs.KeepSaved.{MaySave, version_latest, base_latest, saved_in_space, unnamed_if}
use Rattle.wm_state.proofs.SavedAs.{IsSaved, named_sorted, named_some, named_none, made_some, made_some_there, made_none, saved_count}
use Rattle.wm_forked.proofs.SavedStands.{IsKept, kept_latest, kept_again}
use Rattle.wm_state.proofs.Spaces.{IsSpace, next_making_there, makings_under, making_behind_room}

-- ---- a point that is there

-- it has what a savepoint of the workspace may have
pub record IsPoint (p : Parts) (a : Space) (stand : Stand) (pt : Point) : Type 0 where
  pub version : is_version_of (version_of p.versions) pt.version a.number ≡ true
  pub base : is_base_of (version_of p.versions) pt.base_version a ≡ true
  pub placed : nat_lt pt.place (next_place_at a stand) ≡ true
  pub log : nat_le pt.log_length a.log_length ≡ true
  pub places : a.next_place ≤ next_place_at a stand

newest_is : (p : Parts) (a : Space) (m : ℕ) → keep_rules p ≡ true → space_of p.spaces a.number ≡ Some a → IsPoint p a Latest (newest_point p a m)
newest_is p a m rules there = record {
  version = version_latest p a.number a rules there;
  base = base_latest p a.number a rules there;
  placed = nat_lt-next a.next_place;
  log = nat_le-itself a.log_length;
  places = more a.next_place;
}
  where
    more : (n : ℕ) → n ≤ n + 1
    more n = omega arith

saved_is : (p : Parts) (a : Space) (making : ℕ) (y : Record) → keep_rules p ≡ true → space_of p.spaces a.number ≡ Some a → saved_as p a.number making ≡ Some y → IsPoint p a (At making) (saved_point y)
saved_is p a making y rules there found =
    let h = and_parts (is_version_of (version_of p.versions) y.version a.number && is_base_of (version_of p.versions) y.base_version a) (nat_lt y.place a.next_place && nat_le y.log_length a.log_length) (saved_in_space p a.number making a y rules there found) in
    let g = and_parts (is_version_of (version_of p.versions) y.version a.number) (is_base_of (version_of p.versions) y.base_version a) h.0 in
    let k = and_parts (nat_lt y.place a.next_place) (nat_le y.log_length a.log_length) h.1 in
    record { version = g.0; base = g.1; placed = k.0; log = k.1; places = le_refl a.next_place }

pub is_point : (p : Parts) (a : Space) (m : ℕ) (stand : Stand) (pt : Point) → keep_rules p ≡ true → space_of p.spaces a.number ≡ Some a → point_at p a m stand ≡ Some pt → IsPoint p a stand pt
is_point p a m Latest pt rules there is = subst (λ q. IsPoint p a Latest q) (same_Some (newest_point p a m) pt is) (newest_is p a m rules there)
is_point p a m (At making) pt rules there is = by_record (saved_as p a.number making) refl
  where
    by_record : (o : Option Record) → saved_as p a.number making ≡ o → IsPoint p a (At making) pt
    by_record None none = absurd (none_some (option_map saved_point (saved_as p a.number making)) pt (ap (option_map saved_point) none) is)
    by_record (Some y) found = subst (λ q. IsPoint p a (At making) q) (same_Some (saved_point y) pt (sym (ap (option_map saved_point) found) ∙ is)) (saved_is p a making y rules there found)
is_point p a m (Dated date) pt rules there is = absurd (none-some pt is)

-- ---- the records may have the savepoint

-- what is asked of a savepoint that is made there, but for what becomes of the workspace's counts
pub record MakesAt (p : Parts) (a : Space) (c : Counters) (m work : ℕ) (stand : Stand) (pt : Point) (name : List ℕ) : Type 0 where
  pub rules : keep_rules p ≡ true
  pub one : p.counters ≡ c ∷ []
  pub there : space_of p.spaces a.number ≡ Some a
  pub point : point_at p a m stand ≡ Some pt
  pub short : is_short name ≡ true
  pub room : HasRoom p a name
  pub early : nat_lt m END ≡ true
  pub some : nat_lt 0 work ≡ true
  pub spare : nat_lt counter_limit (c.work + work) ≡ false

pub may_save : (p : Parts) (a : Space) (c : Counters) (m work : ℕ) (stand : Stand) (pt : Point) (name : List ℕ) (flag : Bool) (implicit : ℕ) → MakesAt p a c m work stand pt name → a.next_implicit ≤ implicit → (front back : List Space)
    → p.spaces ≡ front ++ a ∷ back → MaySave p c (moved c m work) front a back (next_place_at a stand) implicit (made_at p a name flag pt)
may_save p a c m work stand pt name flag implicit makes implicits front back spaces =
    let is = is_point p a m stand pt makes.rules makes.there makes.point in
    record {
      one = makes.one;
      counters = counters_move c m work (counted_well p c makes.rules makes.one) makes.early makes.spare;
      stamps = refl;
      versions = refl;
      work = more c.work;
      spaces = spaces;
      places = is.places;
      implicits = implicits;
      space = refl;
      name = makes.short;
      making = in_work (making_behind p.savepoints) c.work (making_behind_room p c makes.rules makes.one);
      version = is.version;
      base = is.base;
      placed = is.placed;
      log = is.log;
      after = makings_under p.savepoints;
      unnamed = unnamed_if p (made_at p a name flag pt) (named_sorted p makes.rules a.number name ∙ makes.room.new);
      room = few (count_by (λ (y : Record). y.space == a.number) p.savepoints) makes.room.few;
    }
  where
    more : (w : ℕ) → w ≤ w + work
    more w = omega arith

    in_work : (k w : ℕ) → k ≤ w + 3 → k ≤ w + work + 2
    in_work k w le = omega (arith, le, ltb-true 0 work makes.some)

    few : (n : ℕ) → nat_le 4096 n ≡ false → nat_lt n 4096 ≡ true
    few n e = grind (arith, e)

-- ---- what the state says of it

-- the next place is the state's
pub place_same : (p : Parts) (s : Durable) (a : Space) (w : Workspace) (stand : Stand) → IsSpace p s a.number a w → place_behind w stand ≡ next_place_at a stand
place_same p s a w Latest is = ap (λ (f : SpaceFields). f.next_place + 1) (sym is.fields)
place_same p s a w (At making) is = ap (λ (f : SpaceFields). f.next_place) (sym is.fields)
place_same p s a w (Dated date) is = ap (λ (f : SpaceFields). f.next_place) (sym is.fields)

-- a savepoint of the name
pub name_taken : (p : Parts) (s : Durable) (a : Space) (w : Workspace) (name : List ℕ) (y : Record) → Stands p s → IsSpace p s a.number a w → find (λ (x : Record). bytes_eq name x.name) (saved_in p a.number) ≡ Some y
    → is_some (savepoint_named name w.savepoints) ≡ true
name_taken p s a w name y st is found = ap is_some (named_some p s a.number w st is.found name y found).1

-- or none, and room
pub name_free : (p : Parts) (s : Durable) (a : Space) (w : Workspace) (name : List ℕ) → Stands p s → IsSpace p s a.number a w → find (λ (x : Record). bytes_eq name x.name) (saved_in p a.number) ≡ None
    → is_some (savepoint_named name w.savepoints) ≡ false
name_free p s a w name st is none = ap is_some (named_none p s a.number w st is.found name none)

pub few_same : (p : Parts) (s : Durable) (a : Space) (w : Workspace) (b : Bool) → Stands p s → IsSpace p s a.number a w → nat_le 4096 (count_by (λ (x : Record). x.space == a.number) p.savepoints) ≡ b → nat_le 4096 (length w.savepoints) ≡ b
few_same p s a w b st is few = ap (nat_le 4096) (saved_count p s a.number w st is.found) ∙ few

-- the savepoint that the state makes there, which the record keeps
pub record MadeAt (p : Parts) (s : Durable) (a : Space) (w : Workspace) (m : ℕ) (stand : Stand) (pt : Point) (name : List ℕ) (flag : Bool) : Type 0 where
  pub savepoint : Savepoint
  pub is : saved_at m s.spaces w stand name flag ≡ Some savepoint
  pub kept : IsKept p s w savepoint (made_at p a name flag pt)
  pub place : pt.place ≡ savepoint.place
  pub log : pt.log_length ≡ savepoint.log_length
  pub rebases : pt.rebases ≡ savepoint.rebases

-- those of one at what is newest
abbrev newest_fields : List ℕ → Bool → ℕ → ℕ → SpaceFields → SavepointFields
newest_fields name flag m making f = record {
  making = making;
  name = name;
  implicit = flag;
  place = f.next_place;
  moment = m;
  from = f.from;
  log_length = f.log_length;
  rebases = f.rebases;
}

-- those of one at another
abbrev again_fields : List ℕ → Bool → ℕ → SavepointFields → SavepointFields
again_fields name flag making f = record f { making = making; name = name; implicit = flag }

-- the record has those of the savepoint
newest_same : (p : Parts) (s : Durable) (a : Space) (w : Workspace) (m : ℕ) (name : List ℕ) (flag : Bool) → SavepointsStand p s → OnceStand p s → IsSpace p s a.number a w
    → saved_fields (made_at p a name flag (newest_point p a m)) ≡ newest_fields name flag m (next_making s.spaces) (fields_in w)
newest_same p s a w m name flag st once is =
    ap (λ n. newest_fields name flag m n (fields_of a)) (sym (next_making_there p s st once)) ∙ ap (λ f. newest_fields name flag m (next_making s.spaces) f) is.fields

again_same : (p : Parts) (s : Durable) (a : Space) (y : Record) (k : Savepoint) (name : List ℕ) (flag : Bool) → SavepointsStand p s → OnceStand p s → saved_fields y ≡ fields_saved k
    → saved_fields (made_at p a name flag (saved_point y)) ≡ again_fields name flag (next_making s.spaces) (fields_saved k)
again_same p s a y k name flag st once fields =
    ap (λ n. again_fields name flag n (saved_fields y)) (sym (next_making_there p s st once)) ∙ ap (λ f. again_fields name flag (next_making s.spaces) f) fields

-- where the records agree with the state in workspaces and savepoints
pub record MadeAs (p : Parts) (s : Durable) (a : Space) (w : Workspace) (m : ℕ) (stand : Stand) (pt : Point) (name : List ℕ) (flag : Bool) : Type 0 where
  pub savepoint : Savepoint
  pub is : saved_at m s.spaces w stand name flag ≡ Some savepoint
  pub fields : saved_fields (made_at p a name flag pt) ≡ fields_saved savepoint
  pub place : pt.place ≡ savepoint.place
  pub log : pt.log_length ≡ savepoint.log_length

pub made_as : (p : Parts) (s : Durable) (a : Space) (w : Workspace) (m : ℕ) (stand : Stand) (pt : Point) (name : List ℕ) (flag : Bool) → keep_rules p ≡ true → FieldsStand p s → IsSpace p s a.number a w → point_at p a m stand ≡ Some pt
    → MadeAs p s a w m stand pt name flag
made_as p s a w m Latest pt name flag rules st is there = subst (λ q. MadeAs p s a w m Latest q name flag) (same_Some (newest_point p a m) pt there) (record {
  savepoint = record {
    making = next_making s.spaces;
    name = name;
    implicit = flag;
    place = w.next_place;
    moment = m;
    base = w.lists.base;
    own = w.lists.own;
    from = w.from;
    log_length = length w.lists.log;
    rebases = w.rebases;
  };
  is = refl;
  fields = newest_same p s a w m name flag st.savepoints st.once is;
  place = ap (λ (f : SpaceFields). f.next_place) is.fields;
  log = ap (λ (f : SpaceFields). f.log_length) is.fields;
})
made_as p s a w m (At making) pt name flag rules st is there = by_record (saved_as p a.number making) refl
  where
    again : Savepoint → Savepoint
    again j = record j { making = next_making s.spaces; name = name; implicit = flag }

    by_savepoint : (y : Record) → ((j : Savepoint) × (savepoint_made making w.savepoints ≡ Some j) × IsSaved p a.number w y j) → MadeAs p s a w m (At making) (saved_point y) name flag
    by_savepoint y (j, made, saved) = record {
      savepoint = again j;
      is = ap (option_map (λ (k : Savepoint). record k { making = next_making s.spaces; name = name; implicit = flag })) made;
      fields = again_same p s a y j name flag st.savepoints st.once saved.fields;
      place = ap (λ (f : SavepointFields). f.place) saved.fields;
      log = ap (λ (f : SavepointFields). f.log_length) saved.fields;
    }

    by_record : (o : Option Record) → saved_as p a.number making ≡ o → MadeAs p s a w m (At making) pt name flag
    by_record None none = absurd (none_some (option_map saved_point (saved_as p a.number making)) pt (ap (option_map saved_point) none) there)
    by_record (Some y) found =
        subst (λ q. MadeAs p s a w m (At making) q name flag) (same_Some (saved_point y) pt (sym (ap (option_map saved_point) found) ∙ there))
        (by_savepoint y (made_some_there p s a.number w rules st.savepoints is.found making y found))
made_as p s a w m (Dated date) pt name flag rules st is there = absurd (none-some pt there)

-- what is newest is kept so
made_newest : (p : Parts) (s : Durable) (a : Space) (w : Workspace) (m : ℕ) (name : List ℕ) (flag : Bool) → Stands p s → IsSpace p s a.number a w → MadeAt p s a w m Latest (newest_point p a m) name flag
made_newest p s a w m name flag st is = record {
  savepoint = k;
  is = refl;
  kept = kept_latest p s a.number w a k x st is.found is.recorded refl refl refl refl refl refl refl refl
      (newest_same p s a w m name flag st.savepoints st.once is);
  place = ap (λ (f : SpaceFields). f.next_place) is.fields;
  log = ap (λ (f : SpaceFields). f.log_length) is.fields;
  rebases = ap (λ (f : SpaceFields). f.rebases) is.fields;
}
  where
    k : Savepoint
    k = record {
      making = next_making s.spaces;
      name = name;
      implicit = flag;
      place = w.next_place;
      moment = m;
      base = w.lists.base;
      own = w.lists.own;
      from = w.from;
      log_length = length w.lists.log;
      rebases = w.rebases;
    }

    x : Record
    x = made_at p a name flag (newest_point p a m)

made_again : (p : Parts) (s : Durable) (a : Space) (w : Workspace) (m making : ℕ) (y : Record) (name : List ℕ) (flag : Bool) → Stands p s → IsSpace p s a.number a w → saved_as p a.number making ≡ Some y
    → MadeAt p s a w m (At making) (saved_point y) name flag
made_again p s a w m making y name flag st is found = by_savepoint (made_some p s a.number w st is.found making y found)
  where
    again : Savepoint → Savepoint
    again j = record j { making = next_making s.spaces; name = name; implicit = flag }

    by_savepoint : ((j : Savepoint) × (savepoint_made making w.savepoints ≡ Some j) × IsSaved p a.number w y j) → MadeAt p s a w m (At making) (saved_point y) name flag
    by_savepoint (j, made, saved) = record {
      savepoint = again j;
      is = ap (option_map (λ (k : Savepoint). record k { making = next_making s.spaces; name = name; implicit = flag })) made;
      kept = kept_again p s a.number making w (again j) j (made_at p a name flag (saved_point y)) y st is.found found made refl refl refl refl refl refl refl refl
          (again_same p s a y j name flag st.savepoints st.once saved.fields);
      place = ap (λ (f : SavepointFields). f.place) saved.fields;
      log = ap (λ (f : SavepointFields). f.log_length) saved.fields;
      rebases = ap (λ (f : SavepointFields). f.rebases) saved.fields;
    }

pub made_there : (p : Parts) (s : Durable) (a : Space) (w : Workspace) (m : ℕ) (stand : Stand) (pt : Point) (name : List ℕ) (flag : Bool) → Stands p s → IsSpace p s a.number a w → point_at p a m stand ≡ Some pt → MadeAt p s a w m stand pt name flag
made_there p s a w m Latest pt name flag st is there = subst (λ q. MadeAt p s a w m Latest q name flag) (same_Some (newest_point p a m) pt there) (made_newest p s a w m name flag st is)
made_there p s a w m (At making) pt name flag st is there = by_record (saved_as p a.number making) refl
  where
    by_record : (o : Option Record) → saved_as p a.number making ≡ o → MadeAt p s a w m (At making) pt name flag
    by_record None none = absurd (none_some (option_map saved_point (saved_as p a.number making)) pt (ap (option_map saved_point) none) there)
    by_record (Some y) found =
        subst (λ q. MadeAt p s a w m (At making) q name flag) (same_Some (saved_point y) pt (sym (ap (option_map saved_point) found) ∙ there)) (made_again p s a w m making y name flag st is found)
made_there p s a w m (Dated date) pt name flag st is there = absurd (none-some pt there)

-- no savepoint is made where none is there
pub made_nowhere : (p : Parts) (s : Durable) (a : Space) (w : Workspace) (m : ℕ) (stand : Stand) (name : List ℕ) (flag : Bool) → Stands p s → IsSpace p s a.number a w → point_at p a m stand ≡ None → saved_at m s.spaces w stand name flag ≡ None
made_nowhere p s a w m Latest name flag st is none = absurd (none_some (Some (newest_point p a m)) (newest_point p a m) none refl)
made_nowhere p s a w m (At making) name flag st is none = by_record (saved_as p a.number making) refl
  where
    by_record : (o : Option Record) → saved_as p a.number making ≡ o → saved_at m s.spaces w (At making) name flag ≡ None
    by_record None gone = ap (option_map (λ (k : Savepoint). record k { making = next_making s.spaces; name = name; implicit = flag })) (made_none p s a.number w st is.found making gone)
    by_record (Some y) found = absurd (none_some (option_map saved_point (saved_as p a.number making)) (saved_point y) none (ap (option_map saved_point) found))
made_nowhere p s a w m (Dated date) name flag st is none = refl
