-- The records with a workspace more, and with a version of its own.
use Rattle.std.proofs.Common.{◌≡◌, ℕ, ◌+◌, ◌<◌, ◌≤◌, ◌==◌, ◌^◌, nat_lt, nat_le, Bool, true, false, not, ◌&&◌, ◌||◌, cond, if◌then◌else◌, List, [], ◌∷◌, ◌++◌, length, Option, Some, None, is_some, refl, sym, ap, ◌∙◌, arith, length-append}
use Rattle.std.proofs.lemmas.Bool.{eq-eqb, ne_eqb, eqb-true, and_from, and_parts, le-leb, or_parts, or_right, true≢false}
use Rattle.std.proofs.lemmas.List.Elements.{filter-append}
use Rattle.std.specs.List.{list_all, list_any, filter, count_by}
use Rattle.std.specs.Option.{option_map_or}
use Rattle.std.specs.Str.{bytes_eq}
use Rattle.wm_base.proofs.Plain.{nat_le-itself, nat_lt-apart, nat_lt-next, nat_lt-other}
use Rattle.wm_graph.specs.Parts.{Parts, table_of, space_of, version_of, has_version}
use Rattle.wm_graph.specs.Rules.{keep_rules, are_counters, are_spaces, is_space, is_placed, is_short, live, are_versions, is_version, is_version_of, has_versions, stands_under, is_savepoint, is_saved_in, has_few, are_savepoints, are_rows, are_pieces, are_hists, is_trace, is_touch, is_given, are_cells, meet, are_locks, is_asked, asked_turns, same_turn, has_turns, are_turns, differ}
use Rattle.wm_spec.specs.declared.record.counters.Counters.{Counters}
use Rattle.wm_spec.specs.declared.record.savepoint.Savepoint.{Savepoint}
use Rattle.wm_spec.specs.declared.record.space.Space.{Space}
use Rattle.wm_spec.specs.declared.record.trace.Trace.{Trace}
use Rattle.wm_spec.specs.declared.record.turn.Turn.{Turn}
use Rattle.wm_spec.specs.declared.record.version.Version.{Version}
use Rattle.wm_state.specs.Standing.{node_of, newest_first, latest}
use Rattle.wm_state.specs.Effects.{Born, Forked}
use Rattle.wm_state.proofs.Tests.{all_if, all_push, any_filter, differ_push, none_if, find_new}
use Rattle.wm_state.proofs.Mapped.{any-if, find-none}
use Rattle.wm_state.proofs.Apart.{Ruled, ruled, keeps_all, ruled_versions, found-passes}
use Rattle.wm_state.proofs.Named.{ruled_savepoints, space_number, version_there}
use Rattle.wm_state.proofs.KeepingTurns.{RuledTurns, ruled_turns, are_touches-kept, are_locks-kept, are_marks-kept, asked_same}
use Rattle.wm_state.proofs.Keeping.{le_next, KeepSpaces, KeepTables, KeepVersions, KeepTables-same, KeepSpaces-push, KeepVersions-push, KeepRows-same, is_version_of-kept, are_savepoints-kept, are_rows-kept, are_pieces-kept, are_hists-kept}
use Rattle.wm_forked.proofs.KeptSpaces.{is_space-kept, is_version-kept, has_versions-kept, has_new, some-kept}
use Rattle.wm_state.proofs.Growing.{forked, forked_of, below-next, found-below, same_counters, newest-push, has_push}
use Rattle.wm_forked.proofs.Birth.{find_numbered}
use Rattle.wm_forked.proofs.KeepSaved.{count_push}

-- the records with a workspace more, a version more, a turn more and other counters
abbrev pub born : Parts → Counters → Space → Version → Turn → Parts
born p c r v u = record p { counters = c ∷ []; spaces = p.spaces ++ r ∷ []; versions = p.versions ++ v ∷ []; turns = p.turns ++ u ∷ [] }

-- what these are asked: a workspace after all others, of a new name, born from a version of its parent, the next version, under that
-- one, and its first turn
pub record MayBear (p : Parts) (old new : Counters) (a r : Space) (v : Version) (u : Turn) : Type 0 where
  pub one : p.counters ≡ old ∷ []
  pub counters : are_counters new ≡ true
  pub stamps : new.next_stamp ≡ old.next_stamp
  pub next : new.next_version ≡ old.next_version + 1
  pub work : old.work ≤ new.work
  pub room : length p.spaces < 1024
  pub after : list_all (λ (s : Space). nat_lt s.number r.number) p.spaces ≡ true
  pub unnamed : list_any (λ (s : Space). bytes_eq s.name r.name) p.spaces ≡ false
  pub parent : space_of p.spaces r.parent ≡ Some a
  pub name : is_short r.name ≡ true
  pub writer : is_short r.writer ≡ true
  pub place : 1 ≤ r.next_place
  pub implicit : 1 ≤ r.next_implicit
  pub log : r.log_length ≡ 0
  pub from : r.birth_version ≡ r.base_version
  pub base : is_version_of (version_of p.versions) r.base_version r.parent ≡ true
  pub number : v.number ≡ old.next_version
  pub space : v.space ≡ r.number
  pub under : v.parent ≡ r.base_version
  pub rebases : r.rebases ≡ 0
  pub turn_space : u.space ≡ r.number
  pub turn_number : u.rebase ≡ 0
  pub turn_from : u.log_length ≡ r.from

-- ---- numbers

lt_some : (m n : ℕ) → nat_lt m n ≡ true → (n == 0) ≡ false
lt_some m n lt = grind (arith, lt)

lt_above : (m n : ℕ) → nat_lt m n ≡ true → 0 < n
lt_above m n lt = grind (arith, lt)

-- ---- the new number

parent_below : (p : Parts) (old new : Counters) (a r : Space) (v : Version) (u : Turn) → MayBear p old new a r v u → nat_lt r.parent r.number ≡ true
parent_below p old new a r v u may =
    ap (λ k. nat_lt k r.number) (sym (space_number p r.parent a may.parent))
    ∙ (found-passes (λ (s : Space). s.number == r.parent) (λ (s : Space). nat_lt s.number r.number) p.spaces a may.parent may.after).1

-- no workspace has it
number_new : (p : Parts) (old new : Counters) (a r : Space) (v : Version) (u : Turn) → MayBear p old new a r v u → list_any (λ (s : Space). s.number == r.number) p.spaces ≡ false
number_new p old new a r v u may = none_if (λ (s : Space). nat_lt s.number r.number) (λ (s : Space). s.number == r.number) (λ s. nat_lt-apart s.number r.number) p.spaces may.after

number_none : (p : Parts) (old new : Counters) (a r : Space) (v : Version) (u : Turn) → MayBear p old new a r v u → space_of p.spaces r.number ≡ None
number_none p old new a r v u may = find-none (λ (s : Space). s.number == r.number) p.spaces (number_new p old new a r v u may)

-- so nothing that is asked of a workspace that is there is passed by what is of it
module _ {A : Type 0} (p : Parts) (number : ℕ) (none : space_of p.spaces number ≡ None) (in_space : A → ℕ) (asks : A → Space → Bool) where
  new_free : (xs : List A) → list_all (λ x. option_map_or (asks x) (space_of p.spaces (in_space x)) false) xs ≡ true → list_any (λ x. in_space x == number) xs ≡ false
  new_free = none_if (λ x. option_map_or (asks x) (space_of p.spaces (in_space x)) false) (λ x. in_space x == number)
      (λ x is. ne_eqb (in_space x) number (λ same. true≢false (sym is ∙ ap (λ o. option_map_or (asks x) o false) (ap (space_of p.spaces) same ∙ none))))

-- no savepoint is of it, no touch, no mark and no turn
unsaved : (p : Parts) (old new : Counters) (a r : Space) (v : Version) (u : Turn) → MayBear p old new a r v u → keep_rules p ≡ true → list_any (λ (x : Savepoint). x.space == r.number) p.savepoints ≡ false
unsaved p old new a r v u may e =
    let rule = ruled p e in
    new_free p r.number (number_none p old new a r v u may) (λ (x : Savepoint). x.space) (is_saved_in (version_of p.versions)) p.savepoints
    (all_if (is_savepoint (space_of p.spaces) (version_of p.versions) rule.counters.work) (λ (x : Savepoint). option_map_or (is_saved_in (version_of p.versions) x) (space_of p.spaces x.space) false)
    (λ x is. (and_parts (is_short x.name && nat_le x.making (rule.counters.work + 2)) _ is).1) p.savepoints (ruled_savepoints p rule.counters.work rule.savepoints).each)

untouched : (p : Parts) (old new : Counters) (a r : Space) (v : Version) (u : Turn) → MayBear p old new a r v u → keep_rules p ≡ true → list_any (λ (x : Trace). x.space == r.number) p.touches ≡ false
untouched p old new a r v u may e =
    new_free p r.number (number_none p old new a r v u may) (λ (x : Trace). x.space) (λ x (s : Space). nat_lt x.position s.log_length) p.touches
    (all_if (is_touch (table_of p.tables) (space_of p.spaces)) (λ (x : Trace). option_map_or (λ (s : Space). nat_lt x.position s.log_length) (space_of p.spaces x.space) false)
    (λ x is. (and_parts (is_trace (table_of p.tables) (space_of p.spaces) x) _ is).1) p.touches
    (and_parts (differ meet p.touches) (list_all (is_touch (table_of p.tables) (space_of p.spaces)) p.touches) (ruled p e).touches).1)

unmarked : (p : Parts) (old new : Counters) (a r : Space) (v : Version) (u : Turn) → MayBear p old new a r v u → keep_rules p ≡ true → list_any (λ (x : Trace). x.space == r.number) p.marks ≡ false
unmarked p old new a r v u may e =
    new_free p r.number (number_none p old new a r v u may) (λ (x : Trace). x.space) (λ x (s : Space). nat_lt x.place s.next_place) p.marks
    (all_if (is_trace (table_of p.tables) (space_of p.spaces)) (λ (x : Trace). is_given (space_of p.spaces) x.space x.place)
    (λ x is. (and_parts (are_cells (table_of p.tables) x.cells) (is_given (space_of p.spaces) x.space x.place) is).1) p.marks
    (and_parts (differ meet p.marks) (list_all (is_trace (table_of p.tables) (space_of p.spaces)) p.marks) (ruled p e).marks).1)

unturned : (p : Parts) (old new : Counters) (a r : Space) (v : Version) (u : Turn) → MayBear p old new a r v u → keep_rules p ≡ true → list_any (λ (x : Turn). x.space == r.number) p.turns ≡ false
unturned p old new a r v u may e =
    new_free p r.number (number_none p old new a r v u may) (λ (x : Turn). x.space) (λ x (s : Space). true) p.turns
    (all_if (λ (x : Turn). is_some (space_of p.spaces x.space)) (λ (x : Turn). option_map_or (λ (s : Space). true) (space_of p.spaces x.space) false) (λ x is. some_passes (space_of p.spaces x.space) is) p.turns
    (ruled_turns p (ruled p e).turns).there)
  where
    some_passes : (o : Option Space) → is_some o ≡ true → option_map_or (λ (s : Space). true) o false ≡ true
    some_passes None is = is
    some_passes (Some s) is = refl

-- ---- what is there still

keep_spaces : (p : Parts) (c : Counters) (r : Space) (v : Version) (u : Turn) → KeepSpaces p (born p c r v u)
keep_spaces p c r v u = KeepSpaces-push p (born p c r v u) r refl

keep_versions : (p : Parts) (c : Counters) (r : Space) (v : Version) (u : Turn) → KeepVersions p (born p c r v u)
keep_versions p c r v u = KeepVersions-push p (born p c r v u) v refl

-- the new workspace is found
found_new : (p : Parts) (old new : Counters) (a r : Space) (v : Version) (u : Turn) → MayBear p old new a r v u → space_of (p.spaces ++ r ∷ []) r.number ≡ Some r
found_new p old new a r v u may = find_new (λ (s : Space). s.number == r.number) p.spaces r (number_new p old new a r v u may) (eq-eqb r.number r.number refl)

-- ---- the rules on workspaces

-- the new workspace itself
new_space : (p : Parts) (old new : Counters) (a r : Space) (v : Version) (u : Turn) → MayBear p old new a r v u → is_space (space_of (p.spaces ++ r ∷ [])) r ≡ true
new_space p old new a r v u may =
    and_from (is_placed (space_of (p.spaces ++ r ∷ [])) r && (is_short r.name && is_short r.writer)) (nat_le 1 r.next_place && (nat_le 1 r.next_implicit && nat_le r.log_length (2 ^ 62)))
    (and_from (is_placed (space_of (p.spaces ++ r ∷ [])) r) (is_short r.name && is_short r.writer) placed (and_from (is_short r.name) (is_short r.writer) may.name may.writer))
    (and_from (nat_le 1 r.next_place) (nat_le 1 r.next_implicit && nat_le r.log_length (2 ^ 62)) (le-leb 1 r.next_place may.place)
    (and_from (nat_le 1 r.next_implicit) (nat_le r.log_length (2 ^ 62)) (le-leb 1 r.next_implicit may.implicit) (ap (λ k. nat_le k (2 ^ 62)) may.log)))
  where
    there : is_some (space_of (p.spaces ++ r ∷ []) r.parent) ≡ true
    there = some-kept p (born p new r v u) (keep_spaces p new r v u) r.parent (ap is_some may.parent)

    placed : is_placed (space_of (p.spaces ++ r ∷ [])) r ≡ true
    placed =
        ap (λ b. if b then bytes_eq r.name live else nat_lt r.parent r.number && is_some (space_of (p.spaces ++ r ∷ []) r.parent)) (lt_some r.parent r.number (parent_below p old new a r v u may))
        ∙ and_from (nat_lt r.parent r.number) (is_some (space_of (p.spaces ++ r ∷ []) r.parent)) (parent_below p old new a r v u may) there

spaces_kept : (p : Parts) (old new : Counters) (a r : Space) (v : Version) (u : Turn) → MayBear p old new a r v u → are_spaces p.spaces ≡ true → are_spaces (p.spaces ++ r ∷ []) ≡ true
spaces_kept p old new a r v u may e =
    let h = and_parts (nat_le (length p.spaces) 1024 && is_some (space_of p.spaces 0)) _ e in
    let g = and_parts (differ (λ (s t : Space). s.number == t.number) p.spaces) _ h.1 in
    let k = and_parts (differ (λ (s t : Space). bytes_eq s.name t.name) p.spaces) (list_all (is_space (space_of p.spaces)) p.spaces) g.1 in
    let ss = p.spaces ++ r ∷ [] in
    and_from (nat_le (length ss) 1024 && is_some (space_of ss 0)) _
    (and_from (nat_le (length ss) 1024) (is_some (space_of ss 0)) (ap (λ n. nat_le n 1024) (length-append p.spaces (r ∷ [])) ∙ one_more (length p.spaces) may.room)
    (some-kept p (born p new r v u) (keep_spaces p new r v u) 0 (and_parts (nat_le (length p.spaces) 1024) (is_some (space_of p.spaces 0)) h.0).1))
    (and_from (differ (λ (s t : Space). s.number == t.number) ss) _ (differ_push (λ (s t : Space). s.number == t.number) p.spaces r g.0 (number_new p old new a r v u may))
    (and_from (differ (λ (s t : Space). bytes_eq s.name t.name) ss) (list_all (is_space (space_of ss)) ss) (differ_push (λ (s t : Space). bytes_eq s.name t.name) p.spaces r k.0 may.unnamed)
    (all_push (is_space (space_of ss)) p.spaces r
    (all_if (is_space (space_of p.spaces)) (is_space (space_of ss)) (is_space-kept p (born p new r v u) (keep_spaces p new r v u)) p.spaces k.1)
    (new_space p old new a r v u may))))
  where
    one_more : (n : ℕ) → n < 1024 → nat_le (n + 1) 1024 ≡ true
    one_more n lt = grind (arith, lt)

-- ---- the rules on versions

-- a version has a number
numbered : (spaces : ℕ → Option Space) (versions : ℕ → Option Version) (next : ℕ) (w : Version) → is_version spaces versions next w ≡ true → (w.number == 0) ≡ false
numbered spaces versions next w e = by_space (spaces w.space) (and_parts (nat_lt w.number next) _ e).1
  where
    by_parent : (s : Space) (b : Bool) → (if b then w.number == 1 else stands_under versions w s) ≡ true → (w.number == 0) ≡ false
    by_parent s true h = ne_eqb w.number 0 (λ none. omega (arith, eqb-true w.number 1 h, none))
    by_parent s false h = lt_some w.parent w.number (and_parts (nat_lt w.parent w.number) _ h).0

    by_space : (o : Option Space) → option_map_or (λ (s : Space). if w.parent == 0 then w.number == 1 else stands_under versions w s) o false ≡ true → (w.number == 0) ≡ false
    by_space None h = absurd (true≢false (sym h))
    by_space (Some s) h = by_parent s (w.parent == 0) h

pub version_numbered : (p : Parts) (next k space : ℕ) → are_versions p next ≡ true → is_version_of (version_of p.versions) k space ≡ true → (k == 0) ≡ false
version_numbered p next k space e is = by_version (version_of p.versions k) refl (version_there (version_of p.versions) k space is)
  where
    by_version : (o : Option Version) → version_of p.versions k ≡ o → is_some o ≡ true → (k == 0) ≡ false
    by_version None found h = absurd (true≢false (sym h))
    by_version (Some w) found h =
        let g = found-passes (λ (x : Version). x.number == k) (is_version (space_of p.spaces) (version_of p.versions) next) p.versions w found (ruled_versions p next e).each in
        ap (λ j. j == 0) (sym (eqb-true w.number k g.0)) ∙ numbered (space_of p.spaces) (version_of p.versions) next w g.1

-- the version that the new one stands under is below it
under_below : (p : Parts) (old new : Counters) (a r : Space) (v : Version) (u : Turn) → MayBear p old new a r v u → are_versions p old.next_version ≡ true → nat_lt v.parent v.number ≡ true
under_below p old new a r v u may e =
    ap (λ k. nat_lt k v.number) may.under
    ∙ ap (nat_lt r.base_version) may.number
    ∙ found-below p.versions old.next_version r.base_version (below-next p old.next_version e) (version_there (version_of p.versions) r.base_version r.parent may.base)

-- the new version itself
new_version : (p : Parts) (old new : Counters) (a r : Space) (v : Version) (u : Turn) → MayBear p old new a r v u → are_versions p old.next_version ≡ true
    → is_version (space_of (p.spaces ++ r ∷ [])) (version_of (p.versions ++ v ∷ [])) (old.next_version + 1) v ≡ true
new_version p old new a r v u may e =
    and_from (nat_lt v.number (old.next_version + 1)) _ (ap (λ k. nat_lt k (old.next_version + 1)) may.number ∙ nat_lt-next old.next_version)
    (ap (λ o. option_map_or stands o false) (ap (space_of (p.spaces ++ r ∷ [])) may.space ∙ found_new p old new a r v u may)
    ∙ ap (λ b. if b then v.number == 1 else stands_under vs v r) (ap (λ k. k == 0) may.under ∙ version_numbered p old.next_version r.base_version r.parent e may.base)
    ∙ and_from (nat_lt v.parent v.number) _ (under_below p old new a r v u may e) (or_right (is_version_of vs v.parent v.space) (is_version_of vs v.parent r.parent) parents))
  where
    vs : ℕ → Option Version
    vs = version_of (p.versions ++ v ∷ [])

    stands : Space → Bool
    stands s = if v.parent == 0 then v.number == 1 else stands_under vs v s

    parents : is_version_of vs v.parent r.parent ≡ true
    parents = ap (λ k. is_version_of vs k r.parent) may.under ∙ is_version_of-kept p (born p new r v u) (keep_versions p new r v u) r.base_version r.parent may.base

-- the new workspace has it, and what it names is there
new_has : (p : Parts) (old new : Counters) (a r : Space) (v : Version) (u : Turn) → MayBear p old new a r v u → has_versions (has_version (p.versions ++ v ∷ [])) (version_of (p.versions ++ v ∷ [])) r ≡ true
new_has p old new a r v u may =
    and_from (has_version (p.versions ++ v ∷ []) r.number) _ (has_new p.versions v r.number (eq-eqb _ _ may.space))
    (ap (λ b. if b then (r.birth_version == 1) && (r.base_version == 0) else is_version_of vs r.birth_version r.parent && is_version_of vs r.base_version r.parent) (lt_some r.parent r.number (parent_below p old new a r v u may))
    ∙ and_from (is_version_of vs r.birth_version r.parent) (is_version_of vs r.base_version r.parent) (ap (λ k. is_version_of vs k r.parent) may.from ∙ base) base)
  where
    vs : ℕ → Option Version
    vs = version_of (p.versions ++ v ∷ [])

    base : is_version_of vs r.base_version r.parent ≡ true
    base = is_version_of-kept p (born p new r v u) (keep_versions p new r v u) r.base_version r.parent may.base

versions_kept : (p : Parts) (old new : Counters) (a r : Space) (v : Version) (u : Turn) → MayBear p old new a r v u → are_versions p old.next_version ≡ true → are_versions (born p new r v u) (old.next_version + 1) ≡ true
versions_kept p old new a r v u may e =
    let h = ruled_versions p old.next_version e in
    let q = born p new r v u in
    and_from (differ (λ (v w : Version). v.number == w.number) q.versions) _
    (differ_push (λ (v w : Version). v.number == w.number) p.versions v h.numbers
    (none_if (λ (w : Version). nat_lt w.number old.next_version) (λ (w : Version). w.number == v.number) (λ w lt. ap (λ k. w.number == k) may.number ∙ nat_lt-apart w.number old.next_version lt) p.versions
    (below-next p old.next_version e)))
    (and_from (list_all (is_version (space_of q.spaces) (version_of q.versions) (old.next_version + 1)) q.versions) (list_all (has_versions (has_version q.versions) (version_of q.versions)) q.spaces)
    (all_push (is_version (space_of q.spaces) (version_of q.versions) (old.next_version + 1)) p.versions v
    (all_if (is_version (space_of p.spaces) (version_of p.versions) old.next_version) (is_version (space_of q.spaces) (version_of q.versions) (old.next_version + 1))
    (is_version-kept p q old.next_version (old.next_version + 1) (le_next old.next_version) (keep_spaces p new r v u) (keep_versions p new r v u)) p.versions h.each)
    (new_version p old new a r v u may e))
    (all_push (has_versions (has_version q.versions) (version_of q.versions)) p.spaces r
    (all_if (has_versions (has_version p.versions) (version_of p.versions)) (has_versions (has_version q.versions) (version_of q.versions))
    (λ s. has_versions-kept p q (keep_versions p new r v u) s (has_push p.versions v s.number)) p.spaces h.spaces)
    (new_has p old new a r v u may)))

-- ---- the rules on turns

-- the new workspace has none of what is counted of it
count-none : {A : Type 0} (P : A → Bool) (xs : List A) → list_any P xs ≡ false → count_by P xs ≡ 0
count-none P [] e = refl
count-none P (x ∷ xs) e = let h = or_parts (P x) (list_any P xs) e in rw h.0 (count-none P xs h.1)

-- the new turn is asked for, beside those that were
asked_born : (p : Parts) (old new : Counters) (a r : Space) (v : Version) (u : Turn) → MayBear p old new a r v u → list_all (λ (x : Turn). is_some (space_of p.spaces x.space)) p.turns ≡ true
    → asked_turns (born p new r v u) ≡ asked_turns p ++ u ∷ []
asked_born p old new a r v u may there =
    filter-append (is_asked (space_of (p.spaces ++ r ∷ []))) p.turns (u ∷ [])
    ∙ ap (λ xs. xs ++ filter (is_asked (space_of (p.spaces ++ r ∷ []))) (u ∷ [])) (asked_same p (born p new r v u) (keep_spaces p new r v u) p.turns there)
    ∙ ap (λ b. asked_turns p ++ cond b (u ∷ []) []) asked_for
  where
    asked_for : is_asked (space_of (p.spaces ++ r ∷ [])) u ≡ true
    asked_for = and_from (not (u.space == 0)) _
        (ap not (ap (λ k. k == 0) may.turn_space ∙ lt_some r.parent r.number (parent_below p old new a r v u may)))
        (ap (λ o. option_map_or (λ (s : Space). nat_le u.rebase s.rebases) o false) (ap (space_of (p.spaces ++ r ∷ [])) may.turn_space ∙ found_new p old new a r v u may)
        ∙ ap (λ k. nat_le k r.rebases) may.turn_number ∙ ap (nat_le 0) may.rebases)

-- every other workspace has as many as it had, and the new one has one
turned_born : (p : Parts) (old new : Counters) (a r : Space) (v : Version) (u : Turn) → MayBear p old new a r v u → list_any (λ (x : Turn). x.space == r.number) (asked_turns p) ≡ false
    → list_all (has_turns (asked_turns p)) p.spaces ≡ true → list_all (has_turns (asked_turns p ++ u ∷ [])) (p.spaces ++ r ∷ []) ≡ true
turned_born p old new a r v u may none each =
    all_push (has_turns (asked_turns p ++ u ∷ [])) p.spaces r (others p.spaces may.after each) one_more
  where
    counted : (k : ℕ) → count_by (λ (x : Turn). x.space == k) (asked_turns p ++ u ∷ []) ≡ count_by (λ (x : Turn). x.space == k) (asked_turns p) + cond (r.number == k) 1 0
    counted k = count_push (λ (x : Turn). x.space == k) (asked_turns p) u ∙ ap (λ j. count_by (λ (x : Turn). x.space == k) (asked_turns p) + cond (j == k) 1 0) may.turn_space

    no_more : (n : ℕ) → n + 0 ≡ n
    no_more n = omega arith

    still : (s : Space) → nat_lt s.number r.number ≡ true → has_turns (asked_turns p) s ≡ true → has_turns (asked_turns p ++ u ∷ []) s ≡ true
    still s low has =
        ap (λ k. (s.number == 0) || (k == s.rebases + 1))
        (counted s.number ∙ ap (λ b. count_by (λ (x : Turn). x.space == s.number) (asked_turns p) + cond b 1 0) (nat_lt-other s.number r.number low) ∙ no_more (count_by (λ (x : Turn). x.space == s.number) (asked_turns p)))
        ∙ has

    others : (ss : List Space) → list_all (λ (s : Space). nat_lt s.number r.number) ss ≡ true → list_all (has_turns (asked_turns p)) ss ≡ true → list_all (has_turns (asked_turns p ++ u ∷ [])) ss ≡ true
    others [] low has = refl
    others (s ∷ ss) low has =
        let h = and_parts (nat_lt s.number r.number) (list_all (λ (t : Space). nat_lt t.number r.number) ss) low in
        let g = and_parts (has_turns (asked_turns p) s) (list_all (has_turns (asked_turns p)) ss) has in
        and_from (has_turns (asked_turns p ++ u ∷ []) s) (list_all (has_turns (asked_turns p ++ u ∷ [])) ss) (still s h.0 g.0) (others ss h.1 g.1)

    one_more : has_turns (asked_turns p ++ u ∷ []) r ≡ true
    one_more = or_right (r.number == 0) _
        (ap (λ k. k == r.rebases + 1) (counted r.number ∙ ap (λ b. count_by (λ (x : Turn). x.space == r.number) (asked_turns p) + cond b 1 0) (eq-eqb r.number r.number refl) ∙ ap (λ k. k + 1) (count-none (λ (x : Turn). x.space == r.number) (asked_turns p) none))
        ∙ ap (λ k. 1 == k + 1) may.rebases)

turns_kept : (p : Parts) (old new : Counters) (a r : Space) (v : Version) (u : Turn) → MayBear p old new a r v u → list_any (λ (x : Turn). x.space == r.number) p.turns ≡ false → are_turns p ≡ true → are_turns (born p new r v u) ≡ true
turns_kept p old new a r v u may none e =
    and_from (list_all (λ (x : Turn). is_some (space_of q.spaces x.space)) q.turns) _
    (all_push (λ (x : Turn). is_some (space_of q.spaces x.space)) p.turns u
    (all_if (λ (x : Turn). is_some (space_of p.spaces x.space)) (λ (x : Turn). is_some (space_of q.spaces x.space)) (λ x. some-kept p q (keep_spaces p new r v u) x.space) p.turns rule.there)
    (ap is_some (ap (space_of q.spaces) may.turn_space ∙ found_new p old new a r v u may)))
    (and_from (differ same_turn (asked_turns q)) (list_all (has_turns (asked_turns q)) q.spaces)
    (ap (differ same_turn) asked
    ∙ differ_push same_turn (asked_turns p) u rule.numbers (any-if (λ (x : Turn). x.space == r.number) (λ x. same_turn x u) (λ x same. ap (λ k. x.space == k) (sym may.turn_space) ∙ (and_parts (x.space == u.space) (x.rebase == u.rebase) same).0) (asked_turns p) gone))
    (ap (λ ts. list_all (has_turns ts) q.spaces) asked ∙ turned_born p old new a r v u may gone rule.each))
  where
    q : Parts
    q = born p new r v u

    rule : RuledTurns p
    rule = ruled_turns p e

    asked : asked_turns q ≡ asked_turns p ++ u ∷ []
    asked = asked_born p old new a r v u may rule.there

    gone : list_any (λ (x : Turn). x.space == r.number) (asked_turns p) ≡ false
    gone = any_filter (λ (x : Turn). x.space == r.number) (is_asked (space_of p.spaces)) p.turns none

-- ---- all rules

-- the new workspace has no savepoint
new_few : (xs : List Savepoint) (r : Space) → list_any (λ (x : Savepoint). x.space == r.number) xs ≡ false → has_few xs r ≡ true
new_few xs r none = ap (λ k. nat_le k 4096) (count-none (λ (x : Savepoint). x.space == r.number) xs none)

pub keep-born : (p : Parts) (old new : Counters) (a r : Space) (v : Version) (u : Turn) → MayBear p old new a r v u → keep_rules p ≡ true → keep_rules (born p new r v u) ≡ true
keep-born p old new a r v u may e =
    keeps_all q new refl may.counters rule.tables (spaces_kept p old new a r v u may rule.spaces)
    (ap (are_versions q) may.next ∙ versions_kept p old new a r v u may (ap (λ (c : Counters). are_versions p c.next_version) same ∙ rule.versions))
    (are_savepoints-kept p q old.work new.work work spaces (keep_versions p new r v u) refl few savepoints)
    (are_rows-kept p q old.next_stamp new.next_stamp stamps tables refl (ap (λ (c : Counters). are_rows p c.next_stamp) same ∙ rule.rows))
    (are_pieces-kept p q old.next_stamp new.next_stamp stamps tables (keep_versions p new r v u) (KeepRows-same p q refl) refl (ap (λ (c : Counters). are_pieces p c.next_stamp) same ∙ rule.pieces))
    (are_hists-kept p q old.next_stamp new.next_stamp stamps tables spaces (KeepRows-same p q refl) refl (ap (λ (c : Counters). are_hists p c.next_stamp) same ∙ rule.hists))
    (are_touches-kept p q tables spaces refl rule.touches)
    (are_locks-kept p q old.work new.work work tables spaces refl (ap (λ (c : Counters). are_locks p c.work) same ∙ rule.locks))
    (are_marks-kept p q tables spaces refl rule.marks)
    (turns_kept p old new a r v u may (unturned p old new a r v u may e) rule.turns)
  where
    q : Parts
    q = born p new r v u

    rule : Ruled p
    rule = ruled p e

    tables : KeepTables p q
    tables = KeepTables-same p q refl

    spaces : KeepSpaces p q
    spaces = keep_spaces p new r v u

    same : old ≡ rule.counters
    same = sym (same_counters p old rule.counters may.one rule.one)

    work : nat_le old.work new.work ≡ true
    work = le-leb old.work new.work may.work

    stamps : nat_le old.next_stamp new.next_stamp ≡ true
    stamps = ap (nat_le old.next_stamp) may.stamps ∙ nat_le-itself old.next_stamp

    savepoints : are_savepoints p old.work ≡ true
    savepoints = ap (λ (c : Counters). are_savepoints p c.work) same ∙ rule.savepoints

    few : list_all (has_few p.savepoints) (p.spaces ++ r ∷ []) ≡ true
    few = all_push (has_few p.savepoints) p.spaces r (ruled_savepoints p old.work savepoints).few (new_few p.savepoints r (unsaved p old new a r v u may e))

-- ---- what becomes of the records

pub born_of : (p : Parts) (old new : Counters) (a r : Space) (v : Version) (u : Turn) → MayBear p old new a r v u → keep_rules p ≡ true → Born p (born p new r v u) r v.number u
born_of p old new a r v u may e = record {
  child = lt_above r.parent r.number (parent_below p old new a r v u may);
  none = none;
  unsaved = unsaved p old new a r v u may e;
  from = may.from;
  there = version_there (version_of p.versions) r.base_version r.parent may.base;
  below = fork.below;
  versions = newest-push v p.versions below ∙ ap (λ x. x ∷ newest_first p.versions) (same_node v r.number r.base_version may.space may.under);
  empty = fork.empty;
  count = length-append p.spaces (r ∷ []);
  spaces = λ m. find_numbered (λ (s : Space). s.number) p.spaces r m none;
  rebases = may.rebases;
  unturned = unturned p old new a r v u may e;
  untouched = untouched p old new a r v u may e;
  unmarked = unmarked p old new a r v u may e;
  turns = refl;
  turn_space = may.turn_space;
  turn_number = may.turn_number;
  turn_from = may.turn_from;
  rest = refl;
}
  where
    none : space_of p.spaces r.number ≡ None
    none = number_none p old new a r v u may

    -- what holds of the next version holds of it wherever it stands
    beside : Version
    beside = record { number = v.number; space = r.parent; parent = latest p r.parent }

    fork : Forked p (forked p new beside) r.parent v.number
    fork = forked_of p old new a r.parent beside
        (record { one = may.one; counters = may.counters; stamps = may.stamps; next = may.next; work = may.work; there = may.parent; number = may.number; space = refl; parent = refl }) e

    versions : are_versions p old.next_version ≡ true
    versions = let rule = ruled p e in ap (λ (c : Counters). are_versions p c.next_version) (sym (same_counters p old rule.counters may.one rule.one)) ∙ rule.versions

    below : list_all (λ (w : Version). nat_lt w.number v.number) p.versions ≡ true
    below = ap (λ k. list_all (λ (w : Version). nat_lt w.number k) p.versions) may.number ∙ below-next p old.next_version versions

    same_node : (w : Version) (n k : ℕ) → w.space ≡ n → w.parent ≡ k → node_of w ≡ record { number = w.number; space = n; parent = k }
    same_node w n k f g = rw (sym f, sym g) refl
