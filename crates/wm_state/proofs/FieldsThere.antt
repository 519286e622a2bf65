-- Records that keep the rules agree with some state in counters, tables, workspaces and savepoints: with one whose workspaces hold nothing.
use Rattle.std.proofs.Common.{◌≡◌, ℕ, ◌==◌, Bool, true, false, cond, List, [], ◌∷◌, map, replicate, Option, Some, None, refl, sym, ap, ◌∙◌}
use Rattle.std.proofs.lemmas.Bool.{eqb-true, and_parts, true≢false}
use Rattle.std.proofs.lemmas.List.{length-map, length-replicate}
use Rattle.std.specs.List.{filter, list_all}
use Rattle.std.specs.Option.{option_map, option_map_or}
use Rattle.wm_base.specs.declared.kind.Kind.TheVariants as kinds
use Rattle.wm_graph.specs.Parts.{Parts, space_of, version_of}
use Rattle.wm_graph.specs.Rules.{keep_rules, is_saved_in, is_savepoint}
use Rattle.wm_spec.specs.Lists.{Entry}
use Rattle.wm_spec.specs.declared.record.counters.Counters.{Counters}
use Rattle.wm_spec.specs.declared.record.savepoint.Savepoint.{Savepoint as Record}
use Rattle.wm_spec.specs.declared.record.space.Space.{Space}
use Rattle.wm_state.specs.Standing.{FieldsStand, by_making, by_number, fields_in, fields_of, fields_saved, saved_fields, saved_in}
use Rattle.wm_state.specs.State.{Savepoint, Durable, Workspace, savepoints_of, workspace_of}
use Rattle.wm_state.proofs.Apart.{ruled}
use Rattle.wm_state.proofs.Frames.{savepoints_of-found, savepoints_of-none}
use Rattle.wm_state.proofs.Mapped.{differ-alike, find-passes}
use Rattle.wm_state.proofs.Named.{ruled_savepoints}
use Rattle.wm_state.proofs.Spaces.{ruled_spaces}

-- ---- the state

-- an entry that says nothing
abbrev pub idle_entry : Entry
idle_entry = record { table = 0; key = []; from = 0; till = 0; row = None; stamp = 0; kind = kinds.Insert; moment = 0; user = [] }

-- a savepoint of the fields of a record, with nothing in it
abbrev pub savepoint_for : Record → Savepoint
savepoint_for x = record {
  making = x.making;
  name = x.name;
  implicit = x.implicit;
  place = x.place;
  moment = x.moment;
  base = [];
  own = [];
  from = x.from;
  log_length = x.log_length;
  rebases = x.rebases;
}

-- a workspace of the fields of a record and with savepoints for those of the records, with nothing in it but a log as long as it is to be
abbrev pub workspace_for : Parts → Space → Workspace
workspace_for p r = record {
  number = r.number;
  name = r.name;
  parent = r.parent;
  born = r.born;
  birth_place = r.birth_place;
  lists = record { at_birth = []; base = []; own = []; log = replicate r.log_length idle_entry };
  from = r.from;
  rebases = r.rebases;
  next_place = r.next_place;
  next_implicit = r.next_implicit;
  freeze = r.freeze;
  writer = r.writer;
  savepoints = map savepoint_for (saved_in p r.number);
  turns = [];
  settled = [];
}

-- a state of such workspaces
abbrev pub state_for : Parts → Counters → Durable
state_for p c = record {
  tables = by_number p.tables;
  spaces = map (workspace_for p) p.spaces;
  locks = [];
  next_stamp = c.next_stamp;
  last_moment = c.last_moment;
  limit = c.limit;
  work = c.work;
}

-- ---- its workspaces

-- a workspace is found as its record is
workspace_as : (p : Parts) (rs : List Space) (n : ℕ) → workspace_of (map (workspace_for p) rs) n ≡ option_map (workspace_for p) (space_of rs n)
workspace_as p [] n = refl
workspace_as p (r ∷ rs) n = by_test (r.number == n) (workspace_as p rs n)
  where
    by_test : (b : Bool) → workspace_of (map (workspace_for p) rs) n ≡ option_map (workspace_for p) (space_of rs n)
        → cond b (Some (workspace_for p r)) (workspace_of (map (workspace_for p) rs) n) ≡ option_map (workspace_for p) (cond b (Some r) (space_of rs n))
    by_test true rest = refl
    by_test false rest = rest

-- and has its fields
fields_as : (p : Parts) (o : Option Space) → option_map fields_of o ≡ option_map fields_in (option_map (workspace_for p) o)
fields_as p None = refl
fields_as p (Some r) = ap (λ (k : ℕ). Some (record (fields_of r) { log_length = k })) (sym (length-replicate r.log_length idle_entry))

numbers_as : (p : Parts) (rs : List Space) → map (λ (r : Space). r.number) rs ≡ map (λ (w : Workspace). w.number) (map (workspace_for p) rs)
numbers_as p [] = refl
numbers_as p (r ∷ rs) = ap (λ ns. r.number ∷ ns) (numbers_as p rs)

-- ---- its savepoints

saved_as_map : (xs : List Record) → map saved_fields xs ≡ map fields_saved (map savepoint_for xs)
saved_as_map [] = refl
saved_as_map (x ∷ xs) = ap (λ fs. saved_fields x ∷ fs) (saved_as_map xs)

-- records of savepoints that are all of workspaces that are there are of none that is not
none_saved : (p : Parts) (work n : ℕ) (xs : List Record) → list_all (is_savepoint (space_of p.spaces) (version_of p.versions) work) xs ≡ true → space_of p.spaces n ≡ None → filter (λ (x : Record). x.space == n) xs ≡ []
none_saved p work n [] all none = refl
none_saved p work n (x ∷ xs) all none =
    let h = and_parts (is_savepoint (space_of p.spaces) (version_of p.versions) work x) (list_all (is_savepoint (space_of p.spaces) (version_of p.versions) work) xs) all in
    by_test (x.space == n) refl (and_parts _ (option_map_or (is_saved_in (version_of p.versions) x) (space_of p.spaces x.space) false) h.0).1 (none_saved p work n xs h.1 none)
  where
    by_test : (b : Bool) → (x.space == n) ≡ b → option_map_or (is_saved_in (version_of p.versions) x) (space_of p.spaces x.space) false ≡ true → filter (λ (y : Record). y.space == n) xs ≡ []
        → cond b (x ∷ filter (λ (y : Record). y.space == n) xs) (filter (λ (y : Record). y.space == n) xs) ≡ []
    by_test true here is rest =
        absurd (true≢false (sym is ∙ ap (λ k. option_map_or (is_saved_in (version_of p.versions) x) (space_of p.spaces k) false) (eqb-true x.space n here) ∙ ap (λ o. option_map_or (is_saved_in (version_of p.versions) x) o false) none))
    by_test false here is rest = rest

-- ---- the law

-- records that keep the rules agree with it
pub fields_for : (p : Parts) (c : Counters) → keep_rules p ≡ true → p.counters ≡ c ∷ [] → FieldsStand p (state_for p c)
fields_for p c rules one = record {
  counters = record { counters = c; one = one; next_stamp = refl; last_moment = refl; limit = refl; work = refl };
  tables = record { same = refl };
  spaces = record { same = λ n. fields_as p (space_of p.spaces n) ∙ ap (option_map fields_in) (sym (workspace_as p p.spaces n)) };
  once = record {
    numbers = sym (differ-alike (λ (r : Space). r.number) (λ (w : Workspace). w.number) (λ i j. i == j) p.spaces (map (workspace_for p) p.spaces) (numbers_as p p.spaces)) ∙ (ruled_spaces p rules).numbers;
    count = sym (length-map p.spaces (workspace_for p));
  };
  savepoints = record { same = λ n. by_record n (space_of p.spaces n) refl };
}
  where
    by_record : (n : ℕ) (o : Option Space) → space_of p.spaces n ≡ o → map saved_fields (saved_in p n) ≡ map fields_saved (savepoints_of (map (workspace_for p) p.spaces) n)
    by_record n None none =
        let r = ruled p rules in
        ap (λ xs. map saved_fields (by_making xs)) (none_saved p r.counters.work n p.savepoints (ruled_savepoints p r.counters.work r.savepoints).each none)
        ∙ ap (map fields_saved) (sym (savepoints_of-none (map (workspace_for p) p.spaces) n (workspace_as p p.spaces n ∙ ap (option_map (workspace_for p)) none)))
    by_record n (Some r) found =
        saved_as_map (saved_in p n)
        ∙ ap (λ k. map fields_saved (map savepoint_for (saved_in p k))) (sym (eqb-true r.number n (find-passes (λ (q : Space). q.number == n) p.spaces r found)))
        ∙ ap (map fields_saved) (sym (savepoints_of-found (map (workspace_for p) p.spaces) n (workspace_for p r) (workspace_as p p.spaces n ∙ ap (option_map (workspace_for p)) found)))

-- so there is a state
pub fields_there : (p : Parts) → keep_rules p ≡ true → (s : Durable) × FieldsStand p s
fields_there p rules = let r = ruled p rules in (state_for p r.counters, fields_for p r.counters rules r.one)
