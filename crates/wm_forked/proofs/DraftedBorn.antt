-- What the batch by which a workspace is born makes of the records.
use Rattle.std.proofs.Common.{◌≡◌, ℕ, ◌+◌, ◌<◌, ◌≤◌, ◌^◌, nat_lt, nat_le, true, false, List, [], ◌∷◌, ◌++◌, length, length-append, Option, Some, refl, sym, ap, subst, ◌∙◌, arith}
use Rattle.std.proofs.lemmas.Fmt.{length-decimal-le}
use Rattle.std.proofs.lemmas.Slice.Eq.{bytes_eq-Decides}
use Rattle.std.proofs.lemmas.Option.{same_Some}
use Rattle.std.proofs.lemmas.Bool.{true≢false}
use Rattle.std.specs.Fmt.{decimal}
use Rattle.std.specs.Option.{option_and_then, option_map, unwrap_or}
use Rattle.std.specs.Str.{bytes_eq}
use Rattle.wm_graph.specs.Parts.{Parts, parts_of, space_of}
use Rattle.wm_graph.specs.Rules.{keep_rules, is_short}
use Rattle.wm_spec.specs.Records.{AreChanges}
use Rattle.wm_spec.specs.declared.record.Record.TheVariants as records
use Rattle.wm_spec.specs.declared.record.batch.Change.{Change}
use Rattle.wm_spec.specs.declared.record.counters.Counters.{Counters}
use Rattle.wm_spec.specs.declared.record.savepoint.Savepoint.{Savepoint as Record}
use Rattle.wm_spec.specs.declared.record.space.FreezeMode.TheVariants.{Free}
use Rattle.wm_spec.specs.declared.record.space.Space.{Space}
use Rattle.wm_spec.specs.declared.record.stored.Stored.{Stored}
use Rattle.wm_spec.specs.declared.record.turn.Turn.{Turn}
use Rattle.wm_spec.specs.declared.record.version.Version.{Version}
use Rattle.wm_state.specs.Batches.{birth_batch, put}
use Rattle.wm_state.specs.ById.{applied}
use Rattle.wm_state.specs.Drafts.{CanBear, CanWork, DraftsBy}
use Rattle.wm_state.specs.Editing.{bear_in, born, child_of, edited, implicit_front, implicit_name, number_limit, place_behind, saved_at, stand_of}
use Rattle.wm_state.specs.Effects.{marked}
use Rattle.wm_state.specs.Points.{HasRoom, Point, birth_record, child_record, child_turn, child_version, implicit_of, next_place_at, point_at, versioned}
use Rattle.wm_state.specs.Standing.{SpaceFields, TurnFields, fields_of, fields_in, FieldsStand, Stands}
use Rattle.wm_state.specs.State.{Durable, Stand, Workspace, Savepoint, workspace_of, with_space, with_savepoint}
use Rattle.wm_state.specs.declared.edit.Edit.TheVariants as edits
use Rattle.wm_state.specs.declared.edit.NewEntry.{NewEntry}
use Rattle.wm_forked.proofs.Births.{IsBornAt}
use Rattle.wm_state.proofs.ByKind.{under_found}
use Rattle.wm_state.proofs.Counting.{counts_as, counts_in, version_well, work_grows, work_room}
use Rattle.wm_state.proofs.Drafted.{some_edit}
use Rattle.wm_forked.proofs.DraftedSaved.{home_of, home_there}
use Rattle.wm_forked.proofs.FewChanged.{few_birth}
use Rattle.wm_state.proofs.Mapped.{any-if, none-found}
use Rattle.wm_forked.proofs.PlannedBirth.{MayBirth, agree_birth, changes-birth, keep_plan_birth, plan_birth}
use Rattle.wm_forked.proofs.Points.{MadeAt, MakesAt, is_point, made_as, made_there, may_save, place_same}
use Rattle.wm_state.proofs.RowsStay.{AwayFrom, below_apart, row_apart, rows_stay}
use Rattle.wm_state.proofs.Settled.{Places, PlacesApart, places_apart}
use Rattle.wm_state.proofs.Spaces.{IsSpace, next_space_same, next_space_there, numbers_under}
use Rattle.wm_state.proofs.WorkedOn.{counted_put, first_change}

-- ---- the savepoint

-- the name of an implicit savepoint is short
pub implicit_short : (n : ℕ) → nat_lt number_limit (n + 1) ≡ false → is_short (implicit_front ++ decimal n) ≡ true
implicit_short n few = ap (λ k. nat_le k 30) (length-append implicit_front (decimal n)) ∙ four_more (length (decimal n)) (length-decimal-le 10 n (omega arith) (ten n few) (word n few))
  where
    ten : (n : ℕ) → nat_lt number_limit (n + 1) ≡ false → n < 10 ^ 10
    ten n e = grind (arith, e)

    word : (n : ℕ) → nat_lt number_limit (n + 1) ≡ false → n < 2 ^ 64
    word n e = grind (arith, e)

    four_more : (k : ℕ) → k ≤ 10 → nat_le (4 + k) 30 ≡ true
    four_more k le = grind (arith, le)

-- what is asked of it
pub bears_so : (p : Parts) (m work n : ℕ) (at : Option ℕ) (name : List ℕ) (a : Space) (pt : Point) (c : Counters) → keep_rules p ≡ true → CanWork p m work → CanBear p m n at name → space_of p.spaces n ≡ Some a
    → point_at p a m (stand_of at) ≡ Some pt → p.counters ≡ c ∷ [] → MakesAt p a c m work (stand_of at) pt (implicit_of a)
bears_so p m work n at name a pt c rules can_work can there point one = record {
  rules = rules;
  one = one;
  there = home_there p n a there;
  point = point;
  short = implicit_short a.next_implicit (ap (λ (b : Space). nat_lt number_limit (b.next_implicit + 1)) (sym same) ∙ can.implicits);
  room = subst (λ (b : Space). HasRoom p b (implicit_of b)) same can.room;
  early = can_work.early;
  some = can_work.some;
  spare = work_room p m work c can_work one;
}
  where
    same : can.space ≡ a
    same = same_Some can.space a (sym can.there ∙ there)

-- ---- the workspace

-- it is born in the state
born_so : (m n : ℕ) (at : Option ℕ) (name : List ℕ) (s : Durable) (w : Workspace) (k : Savepoint) → workspace_of s.spaces n ≡ Some w → saved_at m s.spaces w (stand_of at) (implicit_name w) true ≡ Some k
    → edited m (edits.Bear n at name) s ≡ born m w (stand_of at) name k s
born_so m n at name s w k found made =
    ap (λ o. unwrap_or (option_and_then (bear_in m (stand_of at) name s) o) s) found ∙ ap (λ o. unwrap_or (option_map (λ (j : Savepoint). born m w (stand_of at) name j s) o) s) made

-- the name of the savepoint is that of the record
pub implicit_same : (p : Parts) (s : Durable) (a : Space) (w : Workspace) → IsSpace p s a.number a w → implicit_name w ≡ implicit_of a
implicit_same p s a w is = ap (λ (f : SpaceFields). implicit_front ++ decimal f.next_implicit) (sym is.fields)

-- the child in the state has the fields of its record
child_fields : (p : Parts) (s : Durable) (a : Space) (m : ℕ) (w : Workspace) (k : Savepoint) (name : List ℕ) (pt : Point) → IsSpace p s a.number a w → pt.place ≡ k.place → pt.log_length ≡ k.log_length
    → fields_of (child_record p a m name pt) ≡ fields_in (child_of m s.spaces w k name)
child_fields p s a m w k name pt is place log = ap (λ n. fields n pt.place pt.log_length) (sym is.number) ∙ ap (λ n. fields w.number n pt.log_length) place ∙ ap (fields w.number k.place) log
  where
    fields : ℕ → ℕ → ℕ → SpaceFields
    fields parent place from = record {
      name = name;
      parent = parent;
      born = m;
      birth_place = place;
      from = from;
      log_length = 0;
      rebases = 0;
      next_place = 1;
      next_implicit = 1;
      freeze = Free;
      writer = [];
    }

-- and is born where the savepoint was made
child_same : (p : Parts) (s : Durable) (a : Space) (m : ℕ) (w : Workspace) (stand : Stand) (name : List ℕ) (pt : Point) → Stands p s → IsSpace p s a.number a w → (k : MadeAt p s a w m stand pt (implicit_of a) true)
    → IsBornAt (birth_record p a pt) k.savepoint (child_record p a m name pt) (child_turn p pt) (child_of m s.spaces w k.savepoint name)
child_same p s a m w stand name pt st is k = record {
  under = refl;
  parent = is.number;
  fields = child_fields p s a m w k.savepoint name pt is k.place k.log;
  number = next_space_same p s st;
  turns = refl;
  turned = ap (λ n. fields n pt.rebases) k.log ∙ ap (fields k.savepoint.log_length) k.rebases;
  base = refl;
  own = refl;
  log = refl;
  savepoints = refl;
  settled = refl;
}
  where
    fields : ℕ → ℕ → TurnFields
    fields log_length rebases = record { log_length = log_length; rebases = rebases }

-- the workspaces with the savepoint are those that its record tells
pub same_spaces : (p : Parts) (s : Durable) (a : Space) (w : Workspace) (stand : Stand) (k : Savepoint) → IsSpace p s a.number a w
    → with_space w.number (with_savepoint (place_behind w stand) (w.next_implicit + 1) k) s.spaces ≡ with_space a.number (with_savepoint (next_place_at a stand) (a.next_implicit + 1) k) s.spaces
same_spaces p s a w stand k is =
    ap (λ n. with_space n (with_savepoint (place_behind w stand) (w.next_implicit + 1) k) s.spaces) is.number
    ∙ ap (λ n. with_space a.number (with_savepoint n (w.next_implicit + 1) k) s.spaces) (place_same p s a w stand is)
    ∙ ap (λ (f : SpaceFields). with_space a.number (with_savepoint (next_place_at a stand) (f.next_implicit + 1) k) s.spaces) (sym is.fields)

-- what a birth is asked of the records that are looked up by id
may_birth : (rs : List Stored) (m work n : ℕ) (at : Option ℕ) (name : List ℕ) (a : Space) (pt : Point) (c : Counters) (counters_id space_id id : ℕ) → keep_rules (parts_of rs) ≡ true → CanWork (parts_of rs) m work
    → CanBear (parts_of rs) m n at name → space_of (parts_of rs).spaces n ≡ Some a → point_at (parts_of rs) a m (stand_of at) ≡ Some pt → Places rs counters_id space_id id c a
    → MayBirth rs counters_id space_id id c (versioned c m work) a (next_place_at a (stand_of at)) (a.next_implicit + 1) (birth_record (parts_of rs) a pt) a (child_record (parts_of rs) a m name pt) (child_version (parts_of rs) c pt) (child_turn (parts_of rs) pt)
may_birth rs m work n at name a pt c counters_id space_id id rules can_work can there point places = record {
  sorted = places.sorted;
  counters = places.counters;
  space = places.space;
  under = places.under;
  save = λ front back spaces. may_save p a c m work (stand_of at) pt (implicit_of a) true (a.next_implicit + 1) (bears_so p m work n at name a pt c rules can_work can there point places.one) (one_more a.next_implicit) front back spaces;
  bear = record {
    one = places.one;
    counters = version_well p m work c rules can_work places.one;
    stamps = refl;
    next = refl;
    work = work_grows c.work work;
    room = few (length p.spaces) can.few;
    after = numbers_under p.spaces;
    unnamed = any-if (λ (r : Space). bytes_eq name r.name) (λ (r : Space). bytes_eq r.name name) (λ r same. (bytes_eq-Decides name r.name).1 (sym ((bytes_eq-Decides r.name name).0 same))) p.spaces
        (none-found (λ (r : Space). bytes_eq name r.name) p.spaces can.new);
    parent = home_there p n a there;
    name = can.short;
    writer = refl;
    place = one_itself;
    implicit = one_itself;
    log = refl;
    from = refl;
    base = (is_point p a m (stand_of at) pt rules (home_there p n a there) point).version;
    number = refl;
    space = refl;
    under = refl;
    rebases = refl;
    turn_space = refl;
    turn_number = refl;
    turn_from = refl;
  };
}
  where
    p : Parts
    p = parts_of rs

    one_more : (k : ℕ) → k ≤ k + 1
    one_more k = omega arith

    one_itself : 1 ≤ 1
    one_itself = omega arith

    few : (k : ℕ) → nat_le 1024 k ≡ false → k < 1024
    few k e = grind (arith, e)

-- the batch makes of the records what the birth makes of each state
pub drafts_born : (rs : List Stored) (m work n : ℕ) (at : Option ℕ) (name : List ℕ) (a : Space) (pt : Point) (c : Counters) (counters_id space_id id : ℕ) → keep_rules (parts_of rs) ≡ true → CanWork (parts_of rs) m work
    → CanBear (parts_of rs) m n at name → space_of (parts_of rs).spaces n ≡ Some a → point_at (parts_of rs) a m (stand_of at) ≡ Some pt → Places rs counters_id space_id id c a
    → DraftsBy work rs m (edits.Bear n at name ∷ [])
    (birth_batch counters_id (versioned c m work) space_id (marked (next_place_at a (stand_of at)) (a.next_implicit + 1) a) id (birth_record (parts_of rs) a pt) (child_record (parts_of rs) a m name pt) (child_version (parts_of rs) c pt)
    (child_turn (parts_of rs) pt))
drafts_born rs m work n at name a pt c counters_id space_id id rules can_work can there point places = record {
  keeps = keeps;
  once = once;
  stands = λ s st.
      let h = home_of (parts_of rs) s n a st.spaces there in
      let k = made_there (parts_of rs) s a h.workspace m (stand_of at) pt (implicit_of a) true st h.is point in
      let counts = counts_as (parts_of rs) s c st places.one in
      subst (λ (t : Durable). Stands (parts_of (applied (birth_batch counters_id (versioned c m work) space_id (marked place implicit a) id x r v u) rs)) (record t { last_moment = m; work = s.work + work }))
      (sym (born_so m n at name s h.workspace k.savepoint h.found (ap (λ i. saved_at m s.spaces h.workspace (stand_of at) i true) (implicit_same (parts_of rs) s a h.workspace h.is) ∙ k.is)))
      (plan_birth rs counters_id space_id id c (versioned c m work) a place implicit x a r v u h.workspace (child_of m s.spaces h.workspace k.savepoint name) k.savepoint s _ st birth h.is.found k.kept
      (child_same (parts_of rs) s a m h.workspace (stand_of at) name pt st h.is k)
      (ap (λ ws. ws ++ child_of m s.spaces h.workspace k.savepoint name ∷ []) (same_spaces (parts_of rs) s a h.workspace (stand_of at) k.savepoint h.is)) refl refl
      (record { counters = versioned c m work; one = refl; next_stamp = counts.next_stamp; last_moment = refl; limit = counts.limit; work = ap (λ w. w + work) counts.work }));
  fields = λ s st.
      let h = home_of (parts_of rs) s n a st.spaces there in
      let k = made_as (parts_of rs) s a h.workspace m (stand_of at) pt (implicit_of a) true rules st h.is point in
      let counts = counts_in (parts_of rs) s c st.counters places.one in
      subst (λ (t : Durable). FieldsStand (parts_of (applied (birth_batch counters_id (versioned c m work) space_id (marked place implicit a) id x r v u) rs)) (record t { last_moment = m; work = s.work + work }))
      (sym (born_so m n at name s h.workspace k.savepoint h.found (ap (λ i. saved_at m s.spaces h.workspace (stand_of at) i true) (implicit_same (parts_of rs) s a h.workspace h.is) ∙ k.is)))
      (agree_birth rs counters_id space_id id c (versioned c m work) a place implicit x a r v u h.workspace (child_of m s.spaces h.workspace k.savepoint name) k.savepoint s _ rules st birth h.is.found k.fields
      (child_fields (parts_of rs) s a m h.workspace k.savepoint name pt h.is k.place k.log) (next_space_there (parts_of rs) s rules st.spaces st.once) refl
      (ap (λ ws. ws ++ child_of m s.spaces h.workspace k.savepoint name ∷ []) (same_spaces (parts_of rs) s a h.workspace (stand_of at) k.savepoint h.is)) refl
      (record { counters = versioned c m work; one = refl; next_stamp = counts.next_stamp; last_moment = refl; limit = counts.limit; work = ap (λ w. w + work) counts.work }));
  rows = rows_stay rs batch
      (λ k q found. (
        row_apart rs counters_id k (records.Counters c) q places.counters refl found,
        (row_apart rs space_id k (records.Space a) q places.space refl found, away_new k (under_found id rs k (records.Row q) places.under found)),
      ));
  kept = refl;
  counted = λ some. counted_put rs work counters_id c (versioned c m work) batch places.sorted places.one once (first_change counters_id _ _) keeps refl;
  nothing = some_edit (edits.Bear n at name) [] (birth_batch counters_id (versioned c m work) space_id (marked place implicit a) id x r v u);
  few = λ forks. few_birth rs counters_id space_id c (versioned c m work) a place implicit id x a r v u birth;
  spared = λ i entries one_append. absurd (no_append i entries one_append);
  turned = λ left. absurd (true≢false (sym left));
}
  where
    no_append : (i : ℕ) (entries : List NewEntry) → edits.Bear n at name ∷ [] ≡ edits.Append i entries ∷ [] → ⊥
    no_append i entries e = cc

    place : ℕ
    place = next_place_at a (stand_of at)

    implicit : ℕ
    implicit = a.next_implicit + 1

    x : Record
    x = birth_record (parts_of rs) a pt

    r : Space
    r = child_record (parts_of rs) a m name pt

    v : Version
    v = child_version (parts_of rs) c pt

    u : Turn
    u = child_turn (parts_of rs) pt

    apart : PlacesApart counters_id space_id id
    apart = places_apart rs counters_id space_id id c a places

    behind : (k more : ℕ) → k < id → k < id + more
    behind k more low = omega (arith, low)

    birth : MayBirth rs counters_id space_id id c (versioned c m work) a place implicit x a r v u
    birth = may_birth rs m work n at name a pt c counters_id space_id id rules can_work can there point places

    batch : List Change
    batch = birth_batch counters_id (versioned c m work) space_id (marked place implicit a) id x r v u

    away_new : (k : ℕ) → k < id → AwayFrom k (put id (records.Savepoint x) ∷ put (id + 1) (records.Space r) ∷ put (id + 2) (records.Version v) ∷ put (id + 3) (records.Turn u) ∷ [])
    away_new k low = (below_apart k id low, (below_apart k (id + 1) (behind k 1 low), (below_apart k (id + 2) (behind k 2 low), (below_apart k (id + 3) (behind k 3 low), tt))))

    keeps : keep_rules (parts_of (applied batch rs)) ≡ true
    keeps = keep_plan_birth rs counters_id space_id id c (versioned c m work) a place implicit x a r v u rules birth

    once : AreChanges batch
    once = changes-birth counters_id (versioned c m work) space_id (marked place implicit a) id x r v u apart.apart apart.counters apart.space
