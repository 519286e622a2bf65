-- The rules on touches, locks, marks and turns hold of records in which all that they look up is there still: the laws are_touches-kept,
-- are_locks-kept, are_marks-kept and are_turns-kept.
use Rattle.std.proofs.Common.{◌≡◌, ℕ, ◌+◌, ◌==◌, nat_lt, nat_le, Bool, true, false, ◌&&◌, ◌||◌, cond, List, [], ◌∷◌, ◌++◌, Option, Some, None, is_some, refl, sym, ap, ◌∙◌}
use Rattle.std.proofs.lemmas.Bool.{and_from, and_parts, true≢false}
use Rattle.std.specs.List.{count_by, filter, list_all}
use Rattle.wm_graph.specs.Parts.{Parts, table_of, space_of}
use Rattle.wm_graph.specs.Rules.{are_cells, are_locks, are_marks, are_touches, are_turns, asked_turns, differ, has_turns, is_asked, is_given, is_lock, is_short, is_touch, is_trace, meet, same_turn}
use Rattle.wm_spec.specs.declared.record.lock.Lock.{Lock}
use Rattle.wm_spec.specs.declared.record.space.Space.{Space}
use Rattle.wm_spec.specs.declared.record.trace.Trace.{Trace}
use Rattle.wm_spec.specs.declared.record.turn.Turn.{Turn}
use Rattle.wm_state.proofs.Keeping.{KeepSpaces, KeepTables, are_cells-kept, asked, le_more, lt_le}
use Rattle.wm_state.proofs.Tests.{all_if, all_middle, all_swap}

-- ---- touches and marks

-- a place that was given was given still
is_given-kept : (p q : Parts) → KeepSpaces p q → (n place : ℕ) → is_given (space_of p.spaces) n place ≡ true → is_given (space_of q.spaces) n place ≡ true
is_given-kept p q spaces n place = asked (λ (s : Space). nat_lt place s.next_place) (λ (s : Space). nat_lt place s.next_place) (space_of p.spaces n) (space_of q.spaces n)
    (λ s found lt. let y = spaces n s found in rw y.is (lt_le place s.next_place y.new.next_place y.place lt))

pub is_trace-kept : (p q : Parts) → KeepTables p q → KeepSpaces p q → (x : Trace) → is_trace (table_of p.tables) (space_of p.spaces) x ≡ true → is_trace (table_of q.tables) (space_of q.spaces) x ≡ true
is_trace-kept p q tables spaces x e =
    let h = and_parts (are_cells (table_of p.tables) x.cells) (is_given (space_of p.spaces) x.space x.place) e in
    and_from (are_cells (table_of q.tables) x.cells) (is_given (space_of q.spaces) x.space x.place) (are_cells-kept p q tables x.cells h.0) (is_given-kept p q spaces x.space x.place h.1)

pub is_touch-kept : (p q : Parts) → KeepTables p q → KeepSpaces p q → (x : Trace) → is_touch (table_of p.tables) (space_of p.spaces) x ≡ true → is_touch (table_of q.tables) (space_of q.spaces) x ≡ true
is_touch-kept p q tables spaces x e =
    let h = and_parts (is_trace (table_of p.tables) (space_of p.spaces) x) _ e in
    and_from (is_trace (table_of q.tables) (space_of q.spaces) x) _ (is_trace-kept p q tables spaces x h.0)
    (asked (λ (s : Space). nat_lt x.position s.log_length) (λ (s : Space). nat_lt x.position s.log_length) (space_of p.spaces x.space) (space_of q.spaces x.space)
    (λ s found lt. let y = spaces x.space s found in rw y.is (lt_le x.position s.log_length y.new.log_length y.log lt)) h.1)

pub are_touches-kept : (p q : Parts) → KeepTables p q → KeepSpaces p q → q.touches ≡ p.touches → are_touches p ≡ true → are_touches q ≡ true
are_touches-kept p q tables spaces touches e =
    let h = and_parts (differ meet p.touches) (list_all (is_touch (table_of p.tables) (space_of p.spaces)) p.touches) e in
    rw touches
    (and_from (differ meet p.touches) (list_all (is_touch (table_of q.tables) (space_of q.spaces)) p.touches) h.0
    (all_if (is_touch (table_of p.tables) (space_of p.spaces)) (is_touch (table_of q.tables) (space_of q.spaces)) (is_touch-kept p q tables spaces) p.touches h.1))

pub are_marks-kept : (p q : Parts) → KeepTables p q → KeepSpaces p q → q.marks ≡ p.marks → are_marks p ≡ true → are_marks q ≡ true
are_marks-kept p q tables spaces marks e =
    let h = and_parts (differ meet p.marks) (list_all (is_trace (table_of p.tables) (space_of p.spaces)) p.marks) e in
    rw marks
    (and_from (differ meet p.marks) (list_all (is_trace (table_of q.tables) (space_of q.spaces)) p.marks) h.0
    (all_if (is_trace (table_of p.tables) (space_of p.spaces)) (is_trace (table_of q.tables) (space_of q.spaces)) (is_trace-kept p q tables spaces) p.marks h.1))

-- ---- locks

is_lock-kept : (p q : Parts) (work more : ℕ) → nat_le work more ≡ true → KeepTables p q → KeepSpaces p q → (x : Lock)
    → is_lock (table_of p.tables) (space_of p.spaces) work x ≡ true → is_lock (table_of q.tables) (space_of q.spaces) more x ≡ true
is_lock-kept p q work more le tables spaces x e =
    let h = and_parts (is_short x.user && nat_le x.making (work + 2)) _ e in
    let g = and_parts (is_short x.user) (nat_le x.making (work + 2)) h.0 in
    let k = and_parts (are_cells (table_of p.tables) x.cells) (is_given (space_of p.spaces) x.space x.place) h.1 in
    and_from (is_short x.user && nat_le x.making (more + 2)) _ (and_from (is_short x.user) _ g.0 (le_more x.making work more le g.1))
    (and_from (are_cells (table_of q.tables) x.cells) (is_given (space_of q.spaces) x.space x.place) (are_cells-kept p q tables x.cells k.0) (is_given-kept p q spaces x.space x.place k.1))

pub are_locks-kept : (p q : Parts) (work more : ℕ) → nat_le work more ≡ true → KeepTables p q → KeepSpaces p q → q.locks ≡ p.locks → are_locks p work ≡ true → are_locks q more ≡ true
are_locks-kept p q work more le tables spaces locks e =
    let h = and_parts (differ (λ (x y : Lock). x.making == y.making) p.locks) (list_all (is_lock (table_of p.tables) (space_of p.spaces) work) p.locks) e in
    rw locks
    (and_from (differ (λ (x y : Lock). x.making == y.making) p.locks) (list_all (is_lock (table_of q.tables) (space_of q.spaces) more) p.locks) h.0
    (all_if (is_lock (table_of p.tables) (space_of p.spaces) work) (is_lock (table_of q.tables) (space_of q.spaces) more) (is_lock-kept p q work more le tables spaces) p.locks h.1))

-- ---- turns

pub record RuledTurns (p : Parts) : Type 0 where
  pub there : list_all (λ (x : Turn). is_some (space_of p.spaces x.space)) p.turns ≡ true
  pub numbers : differ same_turn (asked_turns p) ≡ true
  pub each : list_all (has_turns (asked_turns p)) p.spaces ≡ true

pub ruled_turns : (p : Parts) → are_turns p ≡ true → RuledTurns p
ruled_turns p e =
    let h = and_parts (list_all (λ (x : Turn). is_some (space_of p.spaces x.space)) p.turns) _ e in
    let g = and_parts (differ same_turn (asked_turns p)) (list_all (has_turns (asked_turns p)) p.spaces) h.1 in
    record { there = h.0; numbers = g.0; each = g.1 }

-- a turn of a workspace that is there is asked for as it was
is_asked_same : (p q : Parts) → KeepSpaces p q → (x : Turn) → is_some (space_of p.spaces x.space) ≡ true → is_asked (space_of q.spaces) x ≡ is_asked (space_of p.spaces) x
is_asked_same p q spaces x there = by_space (space_of p.spaces x.space) refl there
  where
    by_space : (o : Option Space) → space_of p.spaces x.space ≡ o → is_some o ≡ true → is_asked (space_of q.spaces) x ≡ is_asked (space_of p.spaces) x
    by_space None found is = absurd (true≢false (sym is))
    by_space (Some s) found is = let y = spaces x.space s found in rw (y.is, found, y.rebases) refl

-- so are all of them
pub asked_same : (p q : Parts) → KeepSpaces p q → (xs : List Turn) → list_all (λ (x : Turn). is_some (space_of p.spaces x.space)) xs ≡ true → filter (is_asked (space_of q.spaces)) xs ≡ filter (is_asked (space_of p.spaces)) xs
asked_same p q spaces [] there = refl
asked_same p q spaces (x ∷ xs) there =
    let h = and_parts (is_some (space_of p.spaces x.space)) (list_all (λ (y : Turn). is_some (space_of p.spaces y.space)) xs) there in
    rw (is_asked_same p q spaces x h.0) (by_test (is_asked (space_of p.spaces) x) (asked_same p q spaces xs h.1))
  where
    by_test : (b : Bool) → filter (is_asked (space_of q.spaces)) xs ≡ filter (is_asked (space_of p.spaces)) xs
        → cond b (x ∷ filter (is_asked (space_of q.spaces)) xs) (filter (is_asked (space_of q.spaces)) xs) ≡ cond b (x ∷ filter (is_asked (space_of p.spaces)) xs) (filter (is_asked (space_of p.spaces)) xs)
    by_test true rest = ap (λ ys. x ∷ ys) rest
    by_test false rest = rest

pub are_turns-kept : (p q : Parts) → KeepSpaces p q → q.turns ≡ p.turns → list_all (has_turns (asked_turns p)) q.spaces ≡ true → are_turns p ≡ true → are_turns q ≡ true
are_turns-kept p q spaces turns each e =
    and_from (list_all (λ (x : Turn). is_some (space_of q.spaces x.space)) q.turns) _
    (ap (list_all (λ (x : Turn). is_some (space_of q.spaces x.space))) turns
    ∙ all_if (λ (x : Turn). is_some (space_of p.spaces x.space)) (λ (x : Turn). is_some (space_of q.spaces x.space)) (λ x. still x (space_of p.spaces x.space) refl) p.turns r.there)
    (and_from (differ same_turn (asked_turns q)) (list_all (has_turns (asked_turns q)) q.spaces)
    (ap (differ same_turn) same ∙ r.numbers)
    (ap (λ ts. list_all (has_turns ts) q.spaces) same ∙ each))
  where
    r : RuledTurns p
    r = ruled_turns p e

    same : asked_turns q ≡ asked_turns p
    same = ap (filter (is_asked (space_of q.spaces))) turns ∙ asked_same p q spaces p.turns r.there

    still : (x : Turn) (o : Option Space) → space_of p.spaces x.space ≡ o → is_some o ≡ true → is_some (space_of q.spaces x.space) ≡ true
    still x None found is = absurd (true≢false (sym is))
    still x (Some s) found is = ap is_some (spaces x.space s found).is

-- workspaces have as many as before where one stands in the place of another of its number and rebases
pub turned-swap : (p q : Parts) (front back : List Space) (a b : Space) → b.number ≡ a.number → b.rebases ≡ a.rebases → p.spaces ≡ front ++ a ∷ back → q.spaces ≡ front ++ b ∷ back → are_turns p ≡ true
    → list_all (has_turns (asked_turns p)) q.spaces ≡ true
turned-swap p q front back a b number rebases old new e =
    let each : list_all (has_turns (asked_turns p)) (front ++ a ∷ back) ≡ true = ap (list_all (has_turns (asked_turns p))) (sym old) ∙ (ruled_turns p e).each in
    ap (list_all (has_turns (asked_turns p))) new
    ∙ all_swap (has_turns (asked_turns p)) (has_turns (asked_turns p)) a b front back (λ x h. h)
    (ap (λ k. (k == 0) || (count_by (λ (x : Turn). x.space == k) (asked_turns p) == b.rebases + 1)) number
    ∙ ap (λ k. (a.number == 0) || (count_by (λ (x : Turn). x.space == a.number) (asked_turns p) == k + 1)) rebases
    ∙ all_middle (has_turns (asked_turns p)) a front back each)
    each
