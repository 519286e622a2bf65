-- The records with a savepoint more.
use Rattle.std.proofs.Common.{◌≡◌, ◌≢◌, ℕ, ◌+◌, ◌^◌, ◌≤◌, ◌==◌, nat_lt, nat_le, Bool, true, false, ◌&&◌, cond, if◌then◌else◌, List, [], ◌∷◌, ◌++◌, Option, Some, None, refl, sym, ap, subst, ◌∙◌, ◌⊎◌, inl, inr, length, length-append, arith}
use Rattle.std.proofs.lemmas.Bool.{cases_eq, eq-eqb, ne_eqb, and_from, and_parts, le-leb, true≢false}
use Rattle.std.proofs.lemmas.List.Elements.{filter-append}
use Rattle.std.proofs.lemmas.List.Sums.{length-filter}
use Rattle.std.proofs.lemmas.Slice.Eq.{bytes_eq-Decides}
use Rattle.std.proofs.lemmas.Option.{same_Some}
use Rattle.std.specs.List.{list_all, list_any, filter, count_by}
use Rattle.std.specs.Option.{option_map}
use Rattle.std.specs.Str.{bytes_eq}
use Rattle.wm_base.proofs.Plain.{nat_le-itself, nat_lt-apart}
use Rattle.wm_graph.specs.Parts.{Parts, space_of, version_of, has_version}
use Rattle.wm_graph.specs.Rules.{keep_rules, are_counters, are_spaces, is_space, is_placed, is_short, are_versions, has_versions, is_version_of, is_base_of, is_saved_in, are_savepoints, is_savepoint, same_savepoint, has_few, are_rows, are_pieces, are_hists, are_locks, differ}
use Rattle.wm_spec.specs.declared.record.counters.Counters.{Counters}
use Rattle.wm_spec.specs.declared.record.savepoint.Savepoint.{Savepoint}
use Rattle.wm_spec.specs.declared.record.space.Space.{Space}
use Rattle.wm_state.specs.State.{Durable, Workspace, workspace_of, with_space, with_savepoint}
use Rattle.wm_state.specs.State.{Savepoint as Kept}
use Rattle.wm_state.specs.Standing.{latest, saved_as, SpaceFields, saved_fields, fields_saved, CountersStand, FieldsStand, Stands}
use Rattle.wm_state.specs.Effects.{Saved, marked}
use Rattle.wm_state.proofs.Apart.{ruled, each_space, keeps_all, ruled_versions, newest_record, found-passes}
use Rattle.wm_state.proofs.Climbing.{Recorded, recorded_of}
use Rattle.wm_state.proofs.Growing.{same_counters}
use Rattle.wm_state.proofs.KeepingTurns.{are_touches-kept, are_locks-kept, are_marks-kept, are_turns-kept, turned-swap}
use Rattle.wm_state.proofs.Making.{same_making}
use Rattle.wm_state.proofs.Mapped.{any-if, none-found}
use Rattle.wm_state.proofs.Keeping.{KeepSpaces, KeepTables-same, KeepSpaces-swap, KeepVersions-same, KeepRows-same, is_savepoint-kept, are_hists-kept}
use Rattle.wm_state.proofs.Respaced.{MayReplace, spaces_replaced, versions_replaced, space_here, space_elsewhere}
use Rattle.wm_state.proofs.Named.{ruled_savepoints, space_number, saved_there}
use Rattle.wm_state.proofs.SavedAs.{named_as}
use Rattle.wm_forked.proofs.SavedStands.{IsKept, Stands-saved}
use Rattle.wm_forked.proofs.Saving.{FieldsStand-saved}
use Rattle.wm_state.proofs.Tests.{all_if, all_push, all_swap, all_middle, differ_push, none_if}

-- the records with a savepoint more of a workspace, whose record has counted it, and other counters
abbrev pub saved : Parts → Counters → List Space → Space → List Space → ℕ → ℕ → Savepoint → Parts
saved p c front a back place implicit x = record p { counters = c ∷ []; spaces = front ++ marked place implicit a ∷ back; savepoints = p.savepoints ++ x ∷ [] }

-- what these are asked
pub record MaySave (p : Parts) (old new : Counters) (front : List Space) (a : Space) (back : List Space) (place implicit : ℕ) (x : Savepoint) : Type 0 where
  pub one : p.counters ≡ old ∷ []
  pub counters : are_counters new ≡ true
  pub stamps : new.next_stamp ≡ old.next_stamp
  pub versions : new.next_version ≡ old.next_version
  pub work : old.work ≤ new.work
  pub spaces : p.spaces ≡ front ++ a ∷ back
  pub places : a.next_place ≤ place
  pub implicits : a.next_implicit ≤ implicit
  pub space : a.number ≡ x.space
  pub name : is_short x.name ≡ true
  pub making : x.making ≤ new.work + 2
  pub version : is_version_of (version_of p.versions) x.version a.number ≡ true
  pub base : is_base_of (version_of p.versions) x.base_version a ≡ true
  pub placed : nat_lt x.place place ≡ true
  pub log : nat_le x.log_length a.log_length ≡ true
  pub after : list_all (λ (y : Savepoint). nat_lt y.making x.making) p.savepoints ≡ true
  pub unnamed : list_any (λ (y : Savepoint). same_savepoint y x) p.savepoints ≡ false
  pub room : nat_lt (count_by (λ (y : Savepoint). y.space == a.number) p.savepoints) 4096 ≡ true

-- ---- the workspace's record

may_mark : (a : Space) (place implicit : ℕ) → MayReplace a (marked place implicit a)
may_mark a place implicit = record { number = refl; name = refl; parent = refl; birth = refl; base = refl }

le_more : (m n k : ℕ) → n ≤ k → nat_le m n ≡ true → nat_le m k ≡ true
le_more m n k le e = grind (arith, le, e)

marked_counted : (spaces : ℕ → Option Space) (a : Space) (place implicit : ℕ) → a.next_place ≤ place → a.next_implicit ≤ implicit → is_space spaces a ≡ true
    → (is_short a.writer && (nat_le 1 place && (nat_le 1 implicit && nat_le a.log_length (2 ^ 62)))) ≡ true
marked_counted spaces a place implicit places implicits e =
    let h = and_parts (is_placed spaces a && (is_short a.name && is_short a.writer)) (nat_le 1 a.next_place && (nat_le 1 a.next_implicit && nat_le a.log_length (2 ^ 62))) e in
    let g = and_parts (is_placed spaces a) (is_short a.name && is_short a.writer) h.0 in
    let k = and_parts (nat_le 1 a.next_place) (nat_le 1 a.next_implicit && nat_le a.log_length (2 ^ 62)) h.1 in
    let l = and_parts (nat_le 1 a.next_implicit) (nat_le a.log_length (2 ^ 62)) k.1 in
    and_from (is_short a.writer) _ (and_parts (is_short a.name) (is_short a.writer) g.1).1
    (and_from (nat_le 1 place) _ (le_more 1 a.next_place place places k.0)
    (and_from (nat_le 1 implicit) (nat_le a.log_length (2 ^ 62)) (le_more 1 a.next_implicit implicit implicits l.0) l.1))

spaces_marked : (front back : List Space) (a : Space) (place implicit : ℕ) → a.next_place ≤ place → a.next_implicit ≤ implicit → are_spaces (front ++ a ∷ back) ≡ true → are_spaces (front ++ marked place implicit a ∷ back) ≡ true
spaces_marked front back a place implicit places implicits e =
    spaces_replaced front back a (marked place implicit a) (may_mark a place implicit)
    (marked_counted (space_of (front ++ a ∷ back)) a place implicit places implicits (all_middle (is_space (space_of (front ++ a ∷ back))) a front back (each_space (front ++ a ∷ back) e))) e

-- each workspace has as much of a log as it had, and has given as many places
spaces_still : (p : Parts) (old new : Counters) (front : List Space) (a : Space) (back : List Space) (place implicit : ℕ) (x : Savepoint) → MaySave p old new front a back place implicit x → KeepSpaces p (saved p new front a back place implicit x)
spaces_still p old new front a back place implicit x may =
    KeepSpaces-swap p (saved p new front a back place implicit x) front back a (marked place implicit a) refl refl (nat_le-itself a.log_length) (le-leb a.next_place place may.places) refl may.spaces refl

-- ---- savepoints

pub count_push : {A : Type 0} (P : A → Bool) (xs : List A) (x : A) → count_by P (xs ++ x ∷ []) ≡ count_by P xs + cond (P x) 1 0
count_push {A = A} P xs x =
    sym (length-filter P (xs ++ x ∷ []))
    ∙ ap length (filter-append P xs (x ∷ []))
    ∙ length-append (filter P xs) (cond (P x) (x ∷ []) [])
    ∙ ap (λ n. n + length (cond (P x) (x ∷ []) [])) (length-filter P xs)
    ∙ ap (λ n. count_by P xs + n) (one_or_none (P x))
  where
    one_or_none : (b : Bool) → length (cond b (x ∷ []) []) ≡ cond b 1 0
    one_or_none true = refl
    one_or_none false = refl

-- a workspace has few savepoints still
few_still : (xs : List Savepoint) (x : Savepoint) → nat_lt (count_by (λ (y : Savepoint). y.space == x.space) xs) 4096 ≡ true → (s : Space) → has_few xs s ≡ true → has_few (xs ++ x ∷ []) s ≡ true
few_still xs x room s e = ap (λ n. nat_le n 4096) (count_push (λ (y : Savepoint). y.space == s.number) xs x) ∙ by_space (cases_eq x.space s.number)
  where
    one_more : (n : ℕ) → nat_lt n 4096 ≡ true → nat_le (n + 1) 4096 ≡ true
    one_more n lt = grind (arith, lt)

    no_more : (n : ℕ) → nat_le n 4096 ≡ true → nat_le (n + 0) 4096 ≡ true
    no_more n le = grind (arith, le)

    by_space : (x.space ≡ s.number) ⊎ (x.space ≢ s.number) → nat_le (count_by (λ (y : Savepoint). y.space == s.number) xs + cond (x.space == s.number) 1 0) 4096 ≡ true
    by_space (inl here) =
        ap (λ b. nat_le (count_by (λ (y : Savepoint). y.space == s.number) xs + cond b 1 0) 4096) (eq-eqb _ _ here)
        ∙ one_more (count_by (λ (y : Savepoint). y.space == s.number) xs) (ap (λ n. nat_lt (count_by (λ (y : Savepoint). y.space == n) xs) 4096) (sym here) ∙ room)
    by_space (inr away) =
        ap (λ b. nat_le (count_by (λ (y : Savepoint). y.space == s.number) xs + cond b 1 0) 4096) (ne_eqb _ _ away)
        ∙ no_more (count_by (λ (y : Savepoint). y.space == s.number) xs) e

-- the new savepoint itself
new_savepoint : (p : Parts) (old new : Counters) (front : List Space) (a : Space) (back : List Space) (place implicit : ℕ) (x : Savepoint) → MaySave p old new front a back place implicit x → are_spaces (front ++ marked place implicit a ∷ back) ≡ true
    → is_savepoint (space_of (front ++ marked place implicit a ∷ back)) (version_of p.versions) new.work x ≡ true
new_savepoint p old new front a back place implicit x may spaces =
    and_from (is_short x.name && nat_le x.making (new.work + 2)) _ (and_from (is_short x.name) (nat_le x.making (new.work + 2)) may.name (le-leb x.making (new.work + 2) may.making))
    (rw (space_here front back (marked place implicit a) x.space spaces may.space)
    (and_from (is_version_of (version_of p.versions) x.version a.number && is_base_of (version_of p.versions) x.base_version a) (nat_lt x.place place && nat_le x.log_length a.log_length)
    (and_from (is_version_of (version_of p.versions) x.version a.number) (is_base_of (version_of p.versions) x.base_version a) may.version may.base)
    (and_from (nat_lt x.place place) (nat_le x.log_length a.log_length) may.placed may.log)))

savepoints_kept : (p : Parts) (old new : Counters) (front : List Space) (a : Space) (back : List Space) (place implicit : ℕ) (x : Savepoint) → MaySave p old new front a back place implicit x → are_spaces (front ++ marked place implicit a ∷ back) ≡ true
    → are_savepoints p old.work ≡ true → are_savepoints (saved p new front a back place implicit x) new.work ≡ true
savepoints_kept p old new front a back place implicit x may spaces e =
    let r = ruled_savepoints p old.work e in
    let q = saved p new front a back place implicit x in
    let xs = p.savepoints ++ x ∷ [] in
    let ss = front ++ marked place implicit a ∷ back in
    let few : list_all (has_few p.savepoints) (front ++ a ∷ back) ≡ true = ap (list_all (has_few p.savepoints)) (sym may.spaces) ∙ r.few in
    let room : nat_lt (count_by (λ (y : Savepoint). y.space == x.space) p.savepoints) 4096 ≡ true = ap (λ n. nat_lt (count_by (λ (y : Savepoint). y.space == n) p.savepoints) 4096) (sym may.space) ∙ may.room in
    and_from (differ same_making xs) _
    (differ_push same_making p.savepoints x r.makings (none_if (λ (y : Savepoint). nat_lt y.making x.making) (λ (y : Savepoint). y.making == x.making) (λ y lt. nat_lt-apart y.making x.making lt) p.savepoints may.after))
    (and_from (differ same_savepoint xs) _ (differ_push same_savepoint p.savepoints x r.names may.unnamed)
    (and_from (list_all (has_few xs) ss) (list_all (is_savepoint (space_of ss) (version_of p.versions) new.work) xs)
    (all_swap (has_few p.savepoints) (has_few xs) a (marked place implicit a) front back (few_still p.savepoints x room) (few_still p.savepoints x room a (all_middle (has_few p.savepoints) a front back few)) few)
    (all_push (is_savepoint (space_of ss) (version_of p.versions) new.work) p.savepoints x
    (all_if (is_savepoint (space_of p.spaces) (version_of p.versions) old.work) (is_savepoint (space_of ss) (version_of p.versions) new.work)
    (λ y is. is_savepoint-kept p q old.work new.work (le-leb old.work new.work may.work) (spaces_still p old new front a back place implicit x may) (KeepVersions-same p q refl) y is) p.savepoints r.each)
    (new_savepoint p old new front a back place implicit x may spaces))))

-- ---- all rules

pub keep-saved : (p : Parts) (old new : Counters) (front : List Space) (a : Space) (back : List Space) (place implicit : ℕ) (x : Savepoint) → MaySave p old new front a back place implicit x → keep_rules p ≡ true
    → keep_rules (saved p new front a back place implicit x) ≡ true
keep-saved p old new front a back place implicit x may e =
    let r = ruled p e in
    let same : r.counters ≡ old = same_counters p old r.counters may.one r.one in
    let q = saved p new front a back place implicit x in
    let mark = may_mark a place implicit in
    let still : KeepSpaces p q = spaces_still p old new front a back place implicit x may in
    let spaces : are_spaces q.spaces ≡ true = spaces_marked front back a place implicit may.places may.implicits (ap are_spaces (sym may.spaces) ∙ r.spaces) in
    keeps_all q new refl may.counters r.tables spaces
    (ap (are_versions q) may.versions ∙ versions_replaced p q front back a (marked place implicit a) old.next_version mark may.spaces refl refl (ap (λ (c : Counters). are_versions p c.next_version) (sym same) ∙ r.versions))
    (savepoints_kept p old new front a back place implicit x may spaces (ap (λ (c : Counters). are_savepoints p c.work) (sym same) ∙ r.savepoints))
    (ap (are_rows p) may.stamps ∙ ap (λ (c : Counters). are_rows p c.next_stamp) (sym same) ∙ r.rows)
    (ap (are_pieces p) may.stamps ∙ ap (λ (c : Counters). are_pieces p c.next_stamp) (sym same) ∙ r.pieces)
    (ap (are_hists q) may.stamps ∙ are_hists-kept p q old.next_stamp old.next_stamp (nat_le-itself old.next_stamp) (KeepTables-same p q refl) still (KeepRows-same p q refl) refl (ap (λ (c : Counters). are_hists p c.next_stamp) (sym same) ∙ r.hists))
    (are_touches-kept p q (KeepTables-same p q refl) still refl r.touches)
    (are_locks-kept p q old.work new.work (le-leb old.work new.work may.work) (KeepTables-same p q refl) still refl (ap (λ (c : Counters). are_locks p c.work) (sym same) ∙ r.locks))
    (are_marks-kept p q (KeepTables-same p q refl) still refl r.marks)
    (are_turns-kept p q still refl (turned-swap p q front back a (marked place implicit a) refl refl may.spaces refl r.turns) r.turns)

-- ---- what becomes of the records

-- the record of its workspace
parent_found : (p : Parts) (old new : Counters) (front : List Space) (a : Space) (back : List Space) (place implicit : ℕ) (x : Savepoint) → MaySave p old new front a back place implicit x → keep_rules p ≡ true → space_of p.spaces x.space ≡ Some a
parent_found p old new front a back place implicit x may e = ap (λ ss. space_of ss x.space) may.spaces ∙ space_here front back a x.space (ap are_spaces (sym may.spaces) ∙ (ruled p e).spaces) may.space

pub saved_of : (p : Parts) (old new : Counters) (front : List Space) (a : Space) (back : List Space) (place implicit : ℕ) (x : Savepoint) → MaySave p old new front a back place implicit x → keep_rules p ≡ true
    → Saved p (saved p new front a back place implicit x) x.space place implicit x
saved_of p old new front a back place implicit x may e = record {
  space = refl;
  after = may.after;
  savepoints = refl;
  count = length-append front (marked place implicit a ∷ back) ∙ sym (length-append front (a ∷ back)) ∙ sym (ap length may.spaces);
  here = space_here front back (marked place implicit a) x.space (spaces_marked front back a place implicit may.places may.implicits (ap are_spaces (sym may.spaces) ∙ (ruled p e).spaces)) may.space
      ∙ sym (ap (option_map (marked place implicit)) (parent_found p old new front a back place implicit x may e));
  elsewhere = λ m other. space_elsewhere front back a (marked place implicit a) m (away m other) (away m other) ∙ ap (λ ss. space_of ss m) (sym may.spaces);
  rest = refl;
}
  where
    away : (m : ℕ) → (m == x.space) ≡ false → a.number ≢ m
    away m other same = true≢false (sym (eq-eqb m x.space (sym same ∙ may.space)) ∙ other)

-- the records agree with the state with the savepoint
pub FieldsStand-kept : (p : Parts) (old new : Counters) (front : List Space) (a : Space) (back : List Space) (place implicit : ℕ) (x : Savepoint) (w : Workspace) (k : Kept) (s t : Durable) → keep_rules p ≡ true → FieldsStand p s
    → MaySave p old new front a back place implicit x → workspace_of s.spaces x.space ≡ Some w → saved_fields x ≡ fields_saved k → t.spaces ≡ with_space x.space (with_savepoint place implicit k) s.spaces → t.tables ≡ s.tables
    → CountersStand (saved p new front a back place implicit x) t → FieldsStand (saved p new front a back place implicit x) t
FieldsStand-kept p old new front a back place implicit x w k s t rules st may found fields spaces tables counters =
    FieldsStand-saved p (saved p new front a back place implicit x) s t x.space place implicit w k x (saved_of p old new front a back place implicit x may rules) st found fields spaces tables counters

-- the records stand for the state with the savepoint
pub Stands-kept : (p : Parts) (old new : Counters) (front : List Space) (a : Space) (back : List Space) (place implicit : ℕ) (x : Savepoint) (w : Workspace) (k : Kept) (s t : Durable) → Stands p s → MaySave p old new front a back place implicit x
    → workspace_of s.spaces x.space ≡ Some w → IsKept p s w k x → t.spaces ≡ with_space x.space (with_savepoint place implicit k) s.spaces → t.tables ≡ s.tables → t.locks ≡ s.locks → CountersStand (saved p new front a back place implicit x) t
    → Stands (saved p new front a back place implicit x) t
Stands-kept p old new front a back place implicit x w k s t st may found kept spaces tables locks counters =
    Stands-saved p (saved p new front a back place implicit x) s t x.space place implicit w k x (saved_of p old new front a back place implicit x may st.rules) st found kept spaces tables locks
    (wide (recorded_of p s st.spaces x.space w found)) counters (keep-saved p old new front a back place implicit x may st.rules)
  where
    -- no fewer places are given than before
    wide : Recorded p x.space w → w.next_place ≤ place
    wide r = subst (λ (b : ℕ). b ≤ place)
        (ap (λ (z : Space). z.next_place) (same_Some a r.space (sym (parent_found p old new front a back place implicit x may st.rules) ∙ r.found)) ∙ ap (λ (f : SpaceFields). f.next_place) r.fields)
        may.places

-- ---- what a new savepoint is asked, of what is there

-- no savepoint of the workspace has the name
pub unnamed_if : (p : Parts) (x : Savepoint) → named_as p x.space x.name ≡ None → list_any (λ (y : Savepoint). same_savepoint y x) p.savepoints ≡ false
unnamed_if p x none =
    any-if (λ (y : Savepoint). (y.space == x.space) && bytes_eq x.name y.name) (λ (y : Savepoint). same_savepoint y x)
    (λ y same. let h = and_parts (y.space == x.space) (bytes_eq y.name x.name) same in
    and_from (y.space == x.space) (bytes_eq x.name y.name) h.0 ((bytes_eq-Decides x.name y.name).1 (sym ((bytes_eq-Decides y.name x.name).0 h.1))))
    p.savepoints (none-found (λ (y : Savepoint). (y.space == x.space) && bytes_eq x.name y.name) p.savepoints none)

-- the newest version of a workspace is one of its own, and so is what a savepoint keeps
pub version_latest : (p : Parts) (n : ℕ) (a : Space) → keep_rules p ≡ true → space_of p.spaces n ≡ Some a → is_version_of (version_of p.versions) (latest p n) a.number ≡ true
version_latest p n a rules found =
    let v = newest_record p rules n a found in
    rw v.1 (eq-eqb v.0.space a.number (v.2 ∙ sym (space_number p n a found)))

-- what a workspace sees under its own is a version of its parent
pub base_latest : (p : Parts) (n : ℕ) (a : Space) → keep_rules p ≡ true → space_of p.spaces n ≡ Some a → is_base_of (version_of p.versions) a.base_version a ≡ true
base_latest p n a rules found =
    let r = ruled p rules in
    let v = ruled_versions p r.counters.next_version r.versions in
    let h = found-passes (λ (s : Space). s.number == n) (has_versions (has_version p.versions) (version_of p.versions)) p.spaces a found v.spaces in
    by_live (a.number == 0) (and_parts (has_version p.versions a.number) _ h.1).1
  where
    by_live : (b : Bool) → (if b then (a.birth_version == 1) && (a.base_version == 0) else is_version_of (version_of p.versions) a.birth_version a.parent && is_version_of (version_of p.versions) a.base_version a.parent) ≡ true
        → (if b then a.base_version == 0 else is_version_of (version_of p.versions) a.base_version a.parent) ≡ true
    by_live true e = (and_parts (a.birth_version == 1) (a.base_version == 0) e).1
    by_live false e = (and_parts (is_version_of (version_of p.versions) a.birth_version a.parent) (is_version_of (version_of p.versions) a.base_version a.parent) e).1

-- so it is of a savepoint that is there, which stands at a place that was given and has no more of the log than there is
pub saved_in_space : (p : Parts) (n making : ℕ) (a : Space) (y : Savepoint) → keep_rules p ≡ true → space_of p.spaces n ≡ Some a → saved_as p n making ≡ Some y → is_saved_in (version_of p.versions) y a ≡ true
saved_in_space p n making a y rules found recorded =
    let t = saved_there p rules n making y recorded in
    ap (is_saved_in (version_of p.versions) y) (same_Some a t.space (sym found ∙ t.found))
    ∙ and_from (is_version_of (version_of p.versions) y.version t.space.number && is_base_of (version_of p.versions) y.base_version t.space) (nat_lt y.place t.space.next_place && nat_le y.log_length t.space.log_length)
    (and_from (is_version_of (version_of p.versions) y.version t.space.number) (is_base_of (version_of p.versions) y.base_version t.space) (ap (is_version_of (version_of p.versions) y.version) t.number ∙ t.version) t.base)
    (and_from (nat_lt y.place t.space.next_place) (nat_le y.log_length t.space.log_length) t.place t.log)
