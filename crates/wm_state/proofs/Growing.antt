-- The records with a version more.
use Rattle.std.proofs.Common.{◌≡◌, ℕ, ◌+◌, ◌<◌, ◌≤◌, ◌==◌, nat_lt, Bool, true, false, ◌&&◌, ◌||◌, cond, if◌then◌else◌, List, [], ◌∷◌, ◌++◌, Option, Some, None, is_some, refl, sym, ap, ◌∙◌, arith}
use Rattle.std.proofs.lemmas.Bool.{eq-eqb, eqb-true, and_from, and_parts, le-leb, ltb-true, or_left, true≢false}
use Rattle.std.specs.List.{list_all, list_any}
use Rattle.std.specs.Option.{option_map_or}
use Rattle.wm_base.proofs.Plain.{either_if, else_if, nat_lt-apart, nat_lt-next, nat_lt-other, nat_lt-turned}
use Rattle.wm_graph.specs.Parts.{Parts, table_of, space_of, version_of, row_of, has_version}
use Rattle.wm_graph.specs.Rules.{keep_rules, are_counters, are_versions, is_version, is_version_of, has_versions, stands_under, are_savepoints, are_rows, are_pieces, is_piece, collide, are_hists, are_locks, differ}
use Rattle.wm_spec.specs.Lists.{Cell}
use Rattle.wm_spec.specs.declared.record.counters.Counters.{Counters}
use Rattle.wm_spec.specs.declared.record.piece.PieceRecord.{PieceRecord}
use Rattle.wm_spec.specs.declared.record.space.Space.{Space}
use Rattle.wm_spec.specs.declared.record.version.Version.{Version}
use Rattle.wm_tree.specs.Versions.{grow, AllBelow}
use Rattle.wm_state.specs.Standing.{stored_at, node_of, newest_first, latest}
use Rattle.wm_state.specs.Effects.{Forked}
use Rattle.wm_state.proofs.Tests.{all_if, all_push, differ_push, find_push, none_if}
use Rattle.wm_state.proofs.Newest.{AllBelow-grow}
use Rattle.wm_state.proofs.Keeping.{KeepTables-same, KeepSpaces-same, KeepVersions-push, are_savepoints-kept, few-same}
use Rattle.wm_state.proofs.KeepingTurns.{are_locks-kept}
use Rattle.wm_state.proofs.Apart.{Ruled, ruled, keeps_all, ruled_versions, newest_record, newest_some, found-passes}

-- the records with a version more and other counters
abbrev pub forked : Parts → Counters → Version → Parts
forked p c v = record p { counters = c ∷ []; versions = p.versions ++ v ∷ [] }

-- what these are asked: the next version of a workspace, under its newest one
pub record MayFork (p : Parts) (old new : Counters) (a : Space) (n : ℕ) (v : Version) : Type 0 where
  pub one : p.counters ≡ old ∷ []
  pub counters : are_counters new ≡ true
  pub stamps : new.next_stamp ≡ old.next_stamp
  pub next : new.next_version ≡ old.next_version + 1
  pub work : old.work ≤ new.work
  pub there : space_of p.spaces n ≡ Some a
  pub number : v.number ≡ old.next_version
  pub space : v.space ≡ n
  pub parent : v.parent ≡ latest p n

-- ---- all versions are below the next one

pub below-next : (p : Parts) (next : ℕ) → are_versions p next ≡ true → list_all (λ (w : Version). nat_lt w.number next) p.versions ≡ true
below-next p next e =
    let v = ruled_versions p next e in
    all_if (is_version (space_of p.spaces) (version_of p.versions) next) (λ (w : Version). nat_lt w.number next) (λ w is. (and_parts (nat_lt w.number next) _ is).0) p.versions v.each

AllBelow-newest : (n : ℕ) (vs : List Version) → list_all (λ (w : Version). nat_lt w.number n) vs ≡ true → AllBelow n (newest_first vs)
AllBelow-newest n [] e = tt
AllBelow-newest n (v ∷ vs) e =
    let h = and_parts (nat_lt v.number n) (list_all (λ (w : Version). nat_lt w.number n) vs) e in
    AllBelow-grow n (node_of v) (newest_first vs) (ltb-true v.number n h.0) (AllBelow-newest n vs h.1)

-- a version more, above all, is the newest
pub newest-push : (v : Version) (vs : List Version) → list_all (λ (w : Version). nat_lt w.number v.number) vs ≡ true → newest_first (vs ++ v ∷ []) ≡ node_of v ∷ newest_first vs
newest-push v [] e = refl
newest-push v (w ∷ vs) e =
    let h = and_parts (nat_lt w.number v.number) (list_all (λ (w : Version). nat_lt w.number v.number) vs) e in
    ap (grow (node_of w)) (newest-push v vs h.1) ∙ rw (nat_lt-turned w.number v.number h.0) refl

-- ---- nothing stands in it

-- a piece of a version that is there is not one of the next
stored-none : (pieces : List PieceRecord) (number : ℕ) (c : Cell) → list_any (λ (x : PieceRecord). x.version == number) pieces ≡ false → stored_at pieces number c ≡ None
stored-none [] number c e = refl
stored-none (x ∷ xs) number c e = by_test (x.version == number) refl e (stored-none xs number c)
  where
    by_test : (b : Bool) → (x.version == number) ≡ b → (b || list_any (λ (x : PieceRecord). x.version == number) xs) ≡ false
        → (list_any (λ (x : PieceRecord). x.version == number) xs ≡ false → stored_at xs number c ≡ None) → stored_at (x ∷ xs) number c ≡ None
    by_test true h f rest = absurd (true≢false f)
    by_test false h f rest = rw h (rest f)

-- what is found below is not the next
pub found-below : (vs : List Version) (n k : ℕ) → list_all (λ (w : Version). nat_lt w.number n) vs ≡ true → is_some (version_of vs k) ≡ true → nat_lt k n ≡ true
found-below [] n k e f = absurd (true≢false (sym f))
found-below (v ∷ vs) n k e f =
    let h = and_parts (nat_lt v.number n) (list_all (λ (w : Version). nat_lt w.number n) vs) e in
    by_test (v.number == k) refl h.0 (found-below vs n k h.1)
  where
    by_test : (b : Bool) → (v.number == k) ≡ b → nat_lt v.number n ≡ true → (is_some (version_of vs k) ≡ true → nat_lt k n ≡ true) → nat_lt k n ≡ true
    by_test true g lt rest = ap (λ j. nat_lt j n) (sym (eqb-true v.number k g)) ∙ lt
    by_test false g lt rest = rest (sym (ap (λ b. is_some (cond b (Some v) (version_of vs k))) g) ∙ f)

empty-next : (p : Parts) (next next_stamp : ℕ) → are_versions p next ≡ true → are_pieces p next_stamp ≡ true → (c : Cell) → stored_at p.pieces next c ≡ None
empty-next p next next_stamp versions pieces c =
    let h = and_parts (differ collide p.pieces) (list_all (is_piece (table_of p.tables) (version_of p.versions) (row_of p.rows) next_stamp) p.pieces) pieces in
    stored-none p.pieces next c
    (none_if (is_piece (table_of p.tables) (version_of p.versions) (row_of p.rows) next_stamp) (λ (x : PieceRecord). x.version == next)
    (λ x is. nat_lt-apart x.version next (found-below p.versions next x.version (below-next p next versions) (and_parts (is_some (version_of p.versions x.version)) _ is).0))
    p.pieces h.1)

-- ---- the rules on versions

version_still : (vs : List Version) (v : Version) (k space : ℕ) → is_version_of (version_of vs) k space ≡ true → is_version_of (version_of (vs ++ v ∷ [])) k space ≡ true
version_still vs v k space e = by_version (version_of vs k) refl e
  where
    by_version : (o : Option Version) → version_of vs k ≡ o → option_map_or (λ (w : Version). w.space == space) o false ≡ true → is_version_of (version_of (vs ++ v ∷ [])) k space ≡ true
    by_version None found h = absurd (true≢false (sym h))
    by_version (Some w) found h = rw (find_push (λ (x : Version). x.number == k) vs v w found) h

there_still : (vs : List Version) (v : Version) (k : ℕ) → is_some (version_of vs k) ≡ true → is_some (version_of (vs ++ v ∷ []) k) ≡ true
there_still vs v k e = by_version (version_of vs k) refl e
  where
    by_version : (o : Option Version) → version_of vs k ≡ o → is_some o ≡ true → is_some (version_of (vs ++ v ∷ []) k) ≡ true
    by_version None found h = absurd (true≢false (sym h))
    by_version (Some w) found h = rw (find_push (λ (x : Version). x.number == k) vs v w found) refl

under_still : (vs : List Version) (v w : Version) (s : Space) → stands_under (version_of vs) w s ≡ true → stands_under (version_of (vs ++ v ∷ [])) w s ≡ true
under_still vs v w s e =
    let h = and_parts (nat_lt w.parent w.number) _ e in
    and_from (nat_lt w.parent w.number) _ h.0
    (either_if (is_version_of (version_of vs) w.parent w.space) (is_version_of (version_of vs) w.parent s.parent) (is_version_of (version_of (vs ++ v ∷ [])) w.parent w.space) (is_version_of (version_of (vs ++ v ∷ [])) w.parent s.parent)
    (version_still vs v w.parent w.space) (version_still vs v w.parent s.parent) h.1)

lt_next : (m n : ℕ) → nat_lt m n ≡ true → nat_lt m (n + 1) ≡ true
lt_next m n e = grind (arith, e)

is_version_still : (spaces : ℕ → Option Space) (vs : List Version) (v : Version) (next : ℕ) (w : Version) → is_version spaces (version_of vs) next w ≡ true → is_version spaces (version_of (vs ++ v ∷ [])) (next + 1) w ≡ true
is_version_still spaces vs v next w e =
    let h = and_parts (nat_lt w.number next) _ e in
    and_from (nat_lt w.number (next + 1)) _ (lt_next w.number next h.0) (by_space (spaces w.space) h.1)
  where
    by_space : (o : Option Space) → option_map_or (λ (s : Space). if w.parent == 0 then w.number == 1 else stands_under (version_of vs) w s) o false ≡ true
        → option_map_or (λ (s : Space). if w.parent == 0 then w.number == 1 else stands_under (version_of (vs ++ v ∷ [])) w s) o false ≡ true
    by_space None g = g
    by_space (Some s) g = else_if (w.parent == 0) (w.number == 1) (stands_under (version_of vs) w s) (stands_under (version_of (vs ++ v ∷ [])) w s) (under_still vs v w s) g

-- a workspace has a version still where there is one more
pub has_push : (vs : List Version) (v : Version) (n : ℕ) → has_version vs n ≡ true → has_version (vs ++ v ∷ []) n ≡ true
has_push [] v n e = absurd (true≢false (sym e))
has_push (w ∷ vs) v n e = either_if (w.space == n) (has_version vs n) (w.space == n) (has_version (vs ++ v ∷ []) n) (λ h. h) (has_push vs v n) e

has_versions_still : (vs : List Version) (v : Version) (s : Space) → has_versions (has_version vs) (version_of vs) s ≡ true → has_versions (has_version (vs ++ v ∷ [])) (version_of (vs ++ v ∷ [])) s ≡ true
has_versions_still vs v s e =
    let h = and_parts (has_version vs s.number) _ e in
    and_from (has_version (vs ++ v ∷ []) s.number) _ (has_push vs v s.number h.0)
    (else_if (s.number == 0) ((s.birth_version == 1) && (s.base_version == 0)) (is_version_of (version_of vs) s.birth_version s.parent && is_version_of (version_of vs) s.base_version s.parent)
    (is_version_of (version_of (vs ++ v ∷ [])) s.birth_version s.parent && is_version_of (version_of (vs ++ v ∷ [])) s.base_version s.parent)
    (λ g. let k = and_parts (is_version_of (version_of vs) s.birth_version s.parent) (is_version_of (version_of vs) s.base_version s.parent) g in
    and_from (is_version_of (version_of (vs ++ v ∷ [])) s.birth_version s.parent) (is_version_of (version_of (vs ++ v ∷ [])) s.base_version s.parent) (version_still vs v s.birth_version s.parent k.0) (version_still vs v s.base_version s.parent k.1))
    h.1)

-- the new version itself
new_version : (p : Parts) (old new : Counters) (a : Space) (n : ℕ) (v : Version) → MayFork p old new a n v → keep_rules p ≡ true → list_all (λ (w : Version). nat_lt w.number old.next_version) p.versions ≡ true
    → is_version (space_of p.spaces) (version_of (p.versions ++ v ∷ [])) (old.next_version + 1) v ≡ true
new_version p old new a n v may rules below =
    and_from (nat_lt v.number (old.next_version + 1)) _ (ap (λ k. nat_lt k (old.next_version + 1)) may.number ∙ nat_lt-next old.next_version)
    (rw (ap (space_of p.spaces) may.space ∙ may.there) (by_parent (v.parent == 0) refl stands))
  where
    vs : List Version
    vs = p.versions ++ v ∷ []

    lt : nat_lt (latest p n) old.next_version ≡ true
    lt = found-below p.versions old.next_version (latest p n) below (ap is_some (newest_record p rules n a may.there).1)

    own : is_version_of (version_of vs) (latest p n) n ≡ true
    own = let w = newest_record p rules n a may.there in version_still p.versions v (latest p n) n (rw w.1 (eq-eqb w.0.space n w.2))

    stands : stands_under (version_of vs) v a ≡ true
    stands =
        and_from (nat_lt v.parent v.number) _ (ap (λ k. nat_lt k v.number) may.parent ∙ ap (nat_lt (latest p n)) may.number ∙ lt)
        (or_left (is_version_of (version_of vs) v.parent v.space) _
        (ap (λ k. is_version_of (version_of vs) k v.space) may.parent ∙ ap (λ k. is_version_of (version_of vs) (latest p n) k) may.space ∙ own))

    by_parent : (b : Bool) → (v.parent == 0) ≡ b → stands_under (version_of (p.versions ++ v ∷ [])) v a ≡ true → (if v.parent == 0 then v.number == 1 else stands_under (version_of (p.versions ++ v ∷ [])) v a) ≡ true
    by_parent true h under =
        absurd (true≢false (sym (ap (λ k. k == 0) (sym may.parent) ∙ h) ∙ newest_some p rules n a may.there))
    by_parent false h under = rw h under

versions_kept : (p : Parts) (old new : Counters) (a : Space) (n : ℕ) (v : Version) → MayFork p old new a n v → keep_rules p ≡ true → are_versions p old.next_version ≡ true
    → are_versions (forked p new v) (old.next_version + 1) ≡ true
versions_kept p old new a n v may rules e =
    let h = ruled_versions p old.next_version e in
    let below = below-next p old.next_version e in
    let vs = p.versions ++ v ∷ [] in
    and_from (differ (λ (v w : Version). v.number == w.number) vs) _
    (differ_push (λ (v w : Version). v.number == w.number) p.versions v h.numbers
    (none_if (λ (w : Version). nat_lt w.number old.next_version) (λ (w : Version). w.number == v.number) (λ w lt. ap (λ k. w.number == k) may.number ∙ nat_lt-apart w.number old.next_version lt) p.versions below))
    (and_from (list_all (is_version (space_of p.spaces) (version_of vs) (old.next_version + 1)) vs) (list_all (has_versions (has_version vs) (version_of vs)) p.spaces)
    (all_push (is_version (space_of p.spaces) (version_of vs) (old.next_version + 1)) p.versions v
    (all_if (is_version (space_of p.spaces) (version_of p.versions) old.next_version) (is_version (space_of p.spaces) (version_of vs) (old.next_version + 1))
    (is_version_still (space_of p.spaces) p.versions v old.next_version) p.versions h.each)
    (new_version p old new a n v may rules below))
    (all_if (has_versions (has_version p.versions) (version_of p.versions)) (has_versions (has_version vs) (version_of vs)) (has_versions_still p.versions v) p.spaces h.spaces))

pieces_kept : (p : Parts) (new : Counters) (v : Version) (next : ℕ) → are_pieces p next ≡ true → are_pieces (forked p new v) next ≡ true
pieces_kept p new v next e =
    let vs = p.versions ++ v ∷ [] in
    let h = and_parts (differ collide p.pieces) (list_all (is_piece (table_of p.tables) (version_of p.versions) (row_of p.rows) next) p.pieces) e in
    and_from (differ collide p.pieces) (list_all (is_piece (table_of p.tables) (version_of vs) (row_of p.rows) next) p.pieces) h.0
    (all_if (is_piece (table_of p.tables) (version_of p.versions) (row_of p.rows) next) (is_piece (table_of p.tables) (version_of vs) (row_of p.rows) next)
    (λ x is. let g = and_parts (is_some (version_of p.versions x.version)) _ is in and_from (is_some (version_of vs x.version)) _ (there_still p.versions v x.version g.0) g.1)
    p.pieces h.1)

-- ---- all rules

pub same_counters : (p : Parts) (old c : Counters) → p.counters ≡ old ∷ [] → p.counters ≡ c ∷ [] → c ≡ old
same_counters p old c one is = first_same c old (sym is ∙ one)
  where
    first_same : (b d : Counters) → (b ∷ []) ≡ (d ∷ []) → b ≡ d
    first_same b d h = cc

pub keep-forked : (p : Parts) (old new : Counters) (a : Space) (n : ℕ) (v : Version) → MayFork p old new a n v → keep_rules p ≡ true → keep_rules (forked p new v) ≡ true
keep-forked p old new a n v may e = keeps_all q new refl may.counters
    r.tables
    r.spaces
    (ap (are_versions q) may.next ∙ versions_kept p old new a n v may e (ap (λ (c : Counters). are_versions p c.next_version) (sym same) ∙ r.versions))
    (are_savepoints-kept p q old.work new.work (le-leb old.work new.work may.work) (KeepSpaces-same p q refl) (KeepVersions-push p q v refl) refl (few-same p q old.work refl savepoints) savepoints)
    (ap (are_rows p) may.stamps ∙ ap (λ (c : Counters). are_rows p c.next_stamp) (sym same) ∙ r.rows)
    (ap (are_pieces q) may.stamps ∙ pieces_kept p new v old.next_stamp (ap (λ (c : Counters). are_pieces p c.next_stamp) (sym same) ∙ r.pieces))
    (ap (are_hists q) may.stamps ∙ ap (λ (c : Counters). are_hists p c.next_stamp) (sym same) ∙ r.hists)
    r.touches
    (are_locks-kept p q old.work new.work (le-leb old.work new.work may.work) (KeepTables-same p q refl) (KeepSpaces-same p q refl) refl (ap (λ (c : Counters). are_locks p c.work) (sym same) ∙ r.locks))
    r.marks
    r.turns
  where
    q : Parts
    q = forked p new v

    r : Ruled p
    r = ruled p e

    same : r.counters ≡ old
    same = same_counters p old r.counters may.one r.one

    savepoints : are_savepoints p old.work ≡ true
    savepoints = ap (λ (c : Counters). are_savepoints p c.work) (sym same) ∙ r.savepoints

-- ---- what becomes of the records

-- a version under which the new one does not stand for a base
above_base : (p : Parts) (next : ℕ) (r : Space) → (next == 0) ≡ false → list_all (λ (w : Version). nat_lt w.number next) p.versions ≡ true → has_versions (has_version p.versions) (version_of p.versions) r ≡ true
    → (next == r.base_version) ≡ false
above_base p next r some below e = by_live (r.number == 0) (and_parts (has_version p.versions r.number) _ e).1
  where
    is_there : (o : Option Version) → option_map_or (λ (w : Version). w.space == r.parent) o false ≡ true → is_some o ≡ true
    is_there None h = absurd (true≢false (sym h))
    is_there (Some w) h = refl

    by_live : (b : Bool) → (if b then (r.birth_version == 1) && (r.base_version == 0) else is_version_of (version_of p.versions) r.birth_version r.parent && is_version_of (version_of p.versions) r.base_version r.parent) ≡ true
        → (next == r.base_version) ≡ false
    by_live true h = ap (λ k. next == k) (eqb-true _ _ (and_parts (r.birth_version == 1) (r.base_version == 0) h).1) ∙ some
    by_live false h =
        nat_lt-other r.base_version next
        (found-below p.versions next r.base_version below (is_there (version_of p.versions r.base_version) (and_parts (is_version_of (version_of p.versions) r.birth_version r.parent) (is_version_of (version_of p.versions) r.base_version r.parent) h).1))

pub forked_of : (p : Parts) (old new : Counters) (a : Space) (n : ℕ) (v : Version) → MayFork p old new a n v → keep_rules p ≡ true → Forked p (forked p new v) n v.number
forked_of p old new a n v may e = record {
  some = above_none v.number (latest p n) parent;
  below = AllBelow-newest v.number p.versions below;
  versions = newest-push v p.versions below ∙ ap (λ x. x ∷ newest_first p.versions) (same_node v n (latest p n) may.space may.parent);
  above = λ s found.
      above_base p v.number s (above_zero v.number (latest p n) parent) below
      (found-passes (λ (x : Space). x.number == n) (has_versions (has_version p.versions) (version_of p.versions)) p.spaces s found (ruled_versions p r.counters.next_version r.versions).spaces).1;
  empty = empty-next p v.number r.counters.next_stamp (ap (are_versions p) number ∙ r.versions) r.pieces;
  rest = refl;
}
  where
    r : Ruled p
    r = ruled p e

    number : v.number ≡ r.counters.next_version
    number = may.number ∙ ap (λ (c : Counters). c.next_version) (sym (same_counters p old r.counters may.one r.one))

    below : list_all (λ (w : Version). nat_lt w.number v.number) p.versions ≡ true
    below = ap (λ k. list_all (λ (w : Version). nat_lt w.number k) p.versions) number ∙ below-next p r.counters.next_version r.versions

    parent : nat_lt (latest p n) v.number ≡ true
    parent = found-below p.versions v.number (latest p n) below (ap is_some (newest_record p e n a may.there).1)

    above_none : (m k : ℕ) → nat_lt k m ≡ true → 0 < m
    above_none m k lt = grind (arith, lt)

    above_zero : (m k : ℕ) → nat_lt k m ≡ true → (m == 0) ≡ false
    above_zero m k lt = grind (arith, lt)

    same_node : (v : Version) (n k : ℕ) → v.space ≡ n → v.parent ≡ k → node_of v ≡ record { number = v.number; space = n; parent = k }
    same_node v n k e f = rw (sym e, sym f) refl
