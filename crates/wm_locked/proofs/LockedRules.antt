-- The rules hold of the records with locks more, and without some.
use Rattle.std.proofs.Common.{◌≡◌, ℕ, suc, ◌+◌, ◌-◌, ◌≤◌, ◌<◌, ◌==◌, nat_lt, nat_le, max, Bool, true, false, ◌&&◌, cond, List, [], ◌∷◌, ◌++◌, length, Some, refl, sym, ap, ◌∙◌, append-nil, append_assoc, arith}
use Rattle.std.proofs.lemmas.Bool.{and_from, and_parts, le-leb}
use Rattle.std.specs.List.{filter, list_all, list_any}
use Rattle.std.specs.Option.{option_map_or}
use Rattle.wm_base.proofs.Plain.{nat_lt-apart}
use Rattle.wm_graph.specs.Parts.{Parts, space_of, table_of}
use Rattle.wm_graph.specs.Rules.{are_cells, are_counters, are_hists, are_locks, are_pieces, are_rows, are_savepoints, are_versions, differ, is_given, is_lock, is_short, keep_rules}
use Rattle.wm_spec.specs.declared.record.counters.Counters.{Counters}
use Rattle.wm_spec.specs.declared.record.lock.Lock.{Lock}
use Rattle.wm_spec.specs.declared.record.lock.LockMode.{LockMode}
use Rattle.wm_spec.specs.declared.record.space.Space.{Space}
use Rattle.wm_state.specs.Drafts.{cells_locked}
use Rattle.wm_state.specs.Editing.{lock_after, lock_made, locks_made}
use Rattle.wm_state.specs.declared.edit.NewLock.{NewLock}
use Rattle.wm_state.proofs.Appending.{all_append}
use Rattle.wm_state.proofs.Apart.{Ruled, keeps_all, ruled}
use Rattle.wm_state.proofs.Growing.{same_counters}
use Rattle.wm_state.proofs.Keeping.{KeepSpaces-same, KeepTables-same, KeepVersions-same, are_savepoints-kept}
use Rattle.wm_state.proofs.KeepingTurns.{are_locks-kept}
use Rattle.wm_state.proofs.Locking.{after-push, made_before}
use Rattle.wm_state.proofs.Named.{ruled_savepoints}
use Rattle.wm_state.proofs.Tests.{all_filter, all_if, differ_filter, differ_push, none_if}

-- two locks of one making
abbrev pub same_lock : Lock → Lock → Bool
same_lock x y = x.making == y.making

-- ---- the makings of new locks

-- the making behind the greatest is no more than one above all
after-under : (xs : List Lock) (n : ℕ) → list_all (λ (y : Lock). nat_le y.making n) xs ≡ true → lock_after xs ≤ n + 1
after-under [] n all = omega arith
after-under (x ∷ xs) n all = let h = and_parts (nat_le x.making n) (list_all (λ (y : Lock). nat_le y.making n) xs) all in both x.making (lock_after xs) n h.0 (after-under xs n h.1)
  where
    both : (a b c : ℕ) → nat_le a c ≡ true → b ≤ c + 1 → max (a + 1) b ≤ c + 1
    both a b c le also = grind (arith, le, also)

-- so is the one behind the locks of records that keep the rules
pub after-room : (p : Parts) (work : ℕ) → are_locks p work ≡ true → lock_after p.locks ≤ work + 3
after-room p work e =
    more (lock_after p.locks) work
    (after-under p.locks (work + 2)
    (all_if (is_lock (table_of p.tables) (space_of p.spaces) work) (λ (y : Lock). nat_le y.making (work + 2))
    (λ y is. (and_parts (is_short y.user) (nat_le y.making (work + 2)) (and_parts (is_short y.user && nat_le y.making (work + 2)) _ is).0).1) p.locks
    (and_parts (differ same_lock p.locks) (list_all (is_lock (table_of p.tables) (space_of p.spaces) work) p.locks) e).1))
  where
    more : (a w : ℕ) → a ≤ w + 2 + 1 → a ≤ w + 3
    more a w le = omega (arith, le)

differ-made : (n place : ℕ) (mode : LockMode) (user : List ℕ) (ys : List NewLock) (xs : List Lock) (making : ℕ) → lock_after xs ≤ making → differ same_lock xs ≡ true → differ same_lock (xs ++ locks_made n place mode user making ys) ≡ true
differ-made n place mode user [] xs making le apart = ap (differ same_lock) (append-nil xs) ∙ apart
differ-made n place mode user (y ∷ ys) xs making le apart =
    let x = lock_made n place mode user making y in
    ap (differ same_lock) (sym (append_assoc xs (x ∷ []) (locks_made n place mode user (making + 1) ys)))
    ∙ differ-made n place mode user ys (xs ++ x ∷ []) (making + 1) (after-push xs x le)
    (differ_push same_lock xs x apart (none_if (λ (z : Lock). nat_lt z.making making) (λ (z : Lock). z.making == making) (λ z lt. nat_lt-apart z.making making lt) xs (made_before xs making le)))

each-made : (p : Parts) (n place : ℕ) (mode : LockMode) (user : List ℕ) (work making : ℕ) (ys : List NewLock) → making + length ys ≤ work + 3 → is_short user ≡ true → is_given (space_of p.spaces) n place ≡ true
    → list_all (λ (x : NewLock). are_cells (table_of p.tables) (cells_locked x)) ys ≡ true → list_all (is_lock (table_of p.tables) (space_of p.spaces) work) (locks_made n place mode user making ys) ≡ true
each-made p n place mode user work making [] room short given cells = refl
each-made p n place mode user work making (y ∷ ys) room short given cells =
    let h = and_parts (are_cells (table_of p.tables) (cells_locked y)) (list_all (λ (x : NewLock). are_cells (table_of p.tables) (cells_locked x)) ys) cells in
    and_from (is_lock (table_of p.tables) (space_of p.spaces) work (lock_made n place mode user making y)) _
    (and_from (is_short user && nat_le making (work + 2)) _ (and_from (is_short user) (nat_le making (work + 2)) short (first making (length ys) work room))
    (and_from (are_cells (table_of p.tables) (cells_locked y)) (is_given (space_of p.spaces) n place) h.0 given))
    (each-made p n place mode user work (making + 1) ys (others making (length ys) work room) short given h.1)
  where
    first : (a b w : ℕ) → a + suc b ≤ w + 3 → nat_le a (w + 2) ≡ true
    first a b w le = grind (arith, le)

    others : (a b w : ℕ) → a + suc b ≤ w + 3 → a + 1 + b ≤ w + 3
    others a b w le = omega (arith, le)

-- ---- all rules

-- counters behind an edit that gives no stamp and makes no version, with so much more work
pub record MayCount (p : Parts) (old new : Counters) (count : ℕ) : Type 0 where
  pub one : p.counters ≡ old ∷ []
  pub counters : are_counters new ≡ true
  pub stamps : new.next_stamp ≡ old.next_stamp
  pub versions : new.next_version ≡ old.next_version
  pub room : old.work + count ≤ new.work

-- the records with other locks
abbrev pub relocked : Parts → Counters → List Lock → Parts
relocked p new locks = record p { counters = new ∷ []; locks = locks }

pub keep-relocked : (p : Parts) (old new : Counters) (count : ℕ) (locks : List Lock) → keep_rules p ≡ true → MayCount p old new count → are_locks (relocked p new locks) new.work ≡ true → keep_rules (relocked p new locks) ≡ true
keep-relocked p old new count locks rules may are = keeps_all q new refl may.counters
    rule.tables
    rule.spaces
    (ap (are_versions p) may.versions ∙ ap (λ (c : Counters). are_versions p c.next_version) same ∙ rule.versions)
    (are_savepoints-kept p q old.work new.work (worked old.work count new.work may.room) (KeepSpaces-same p q refl) (KeepVersions-same p q refl) refl (ruled_savepoints p old.work savepoints).few savepoints)
    (ap (are_rows p) may.stamps ∙ ap (λ (c : Counters). are_rows p c.next_stamp) same ∙ rule.rows)
    (ap (are_pieces p) may.stamps ∙ ap (λ (c : Counters). are_pieces p c.next_stamp) same ∙ rule.pieces)
    (ap (are_hists p) may.stamps ∙ ap (λ (c : Counters). are_hists p c.next_stamp) same ∙ rule.hists)
    rule.touches
    are
    rule.marks
    rule.turns
  where
    q : Parts
    q = relocked p new locks

    rule : Ruled p
    rule = ruled p rules

    same : old ≡ rule.counters
    same = same_counters p rule.counters old rule.one may.one

    worked : (a b c : ℕ) → a + b ≤ c → nat_le a c ≡ true
    worked a b c le = grind (arith, le)

    savepoints : are_savepoints p old.work ≡ true
    savepoints = ap (λ (c : Counters). are_savepoints p c.work) same ∙ rule.savepoints

-- the rule on the locks of before, with the work of after
pub ruled_locks : (p : Parts) (old new : Counters) (count : ℕ) → keep_rules p ≡ true → MayCount p old new count → (are_locks p old.work ≡ true) × (are_locks p new.work ≡ true)
ruled_locks p old new count rules may =
    let before : are_locks p old.work ≡ true = ap (λ (c : Counters). are_locks p c.work) (same_counters p (ruled p rules).counters old (ruled p rules).one may.one) ∙ (ruled p rules).locks in
    (before, are_locks-kept p p old.work new.work (worked old.work count new.work may.room) (KeepTables-same p p refl) (KeepSpaces-same p p refl) refl before)
  where
    worked : (a b c : ℕ) → a + b ≤ c → nat_le a c ≡ true
    worked a b c le = grind (arith, le)

-- locks are made in a workspace that is there, at a place that was given
pub keep-locked : (p : Parts) (old new : Counters) (n place : ℕ) (mode : LockMode) (user : List ℕ) (ys : List NewLock) → keep_rules p ≡ true → MayCount p old new (length ys) → is_short user ≡ true
    → is_given (space_of p.spaces) n place ≡ true → list_all (λ (x : NewLock). are_cells (table_of p.tables) (cells_locked x)) ys ≡ true
    → keep_rules (relocked p new (p.locks ++ locks_made n place mode user (lock_after p.locks) ys)) ≡ true
keep-locked p old new n place mode user ys rules may short given cells =
    let made = locks_made n place mode user (lock_after p.locks) ys in
    let r = ruled_locks p old new (length ys) rules may in
    let h = and_parts (differ same_lock p.locks) (list_all (is_lock (table_of p.tables) (space_of p.spaces) new.work) p.locks) r.1 in
    keep-relocked p old new (length ys) (p.locks ++ made) rules may
    (and_from (differ same_lock (p.locks ++ made)) _ (differ-made n place mode user ys p.locks (lock_after p.locks) (least (lock_after p.locks)) h.0)
    (all_append (is_lock (table_of p.tables) (space_of p.spaces) new.work) p.locks made h.1
    (each-made p n place mode user new.work (lock_after p.locks) ys (room (lock_after p.locks) (length ys) old.work new.work (after-room p old.work r.0) may.room) short given cells)))
  where
    least : (a : ℕ) → a ≤ a
    least a = omega arith

    room : (a b w v : ℕ) → a ≤ w + 3 → w + b ≤ v → a + b ≤ v + 3
    room a b w v le more = omega (arith, le, more)

-- locks go
pub keep-unlocked : (p : Parts) (old new : Counters) (stays : Lock → Bool) → keep_rules p ≡ true → MayCount p old new 0 → keep_rules (relocked p new (filter stays p.locks)) ≡ true
keep-unlocked p old new stays rules may =
    let r = ruled_locks p old new 0 rules may in
    let h = and_parts (differ same_lock p.locks) (list_all (is_lock (table_of p.tables) (space_of p.spaces) new.work) p.locks) r.1 in
    keep-relocked p old new 0 (filter stays p.locks) rules may
    (and_from (differ same_lock (filter stays p.locks)) _ (differ_filter same_lock stays p.locks h.0) (all_filter (is_lock (table_of p.tables) (space_of p.spaces) new.work) stays p.locks h.1))
