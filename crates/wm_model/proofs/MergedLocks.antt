-- The locks of a workspace, by its records and in each state for which these stand, and which of them bar a merge.
use Rattle.std.proofs.Common.{◌≡◌, ℕ, suc, ◌==◌, nat_lt, Bool, true, false, not, ◌&&◌, ◌||◌, cond, List, [], ◌∷◌, length, map, refl, sym, ap, ◌∙◌, arith}
use Rattle.std.proofs.lemmas.Bool.{and_parts, eq-eqb, not-true, or_parts}
use Rattle.std.specs.List.{filter, list_any}
use Rattle.std.specs.Option.{option_or}
use Rattle.wm_graph.specs.Parts.{Parts}
use Rattle.wm_graph.specs.Rules.{differ}
use Rattle.wm_outline.specs.Outline.{outline_of}
use Rattle.wm_spec.specs.declared.record.cell_range.CellRange.{CellRange}
use Rattle.wm_spec.specs.declared.record.lock.Lock.{Lock}
use Rattle.wm_state.specs.Editing.{is_other, stays_locked, unlocked_of}
use Rattle.wm_state.specs.Standing.{Stands, locks_by_making, place_lock}
use Rattle.wm_state.specs.State.{Durable, Session}
use Rattle.wm_state.proofs.Apart.{ruled}
use Rattle.wm_state.proofs.Locking.{locks-filter}
use Rattle.wm_model.specs.Merged.{is_idle_at, makings_of}
use Rattle.wm_model.specs.Step.{Asked, Claim, barring, barring_at, has_locks, locked_told, lock_fault, refused_for}

-- ---- which of them bar a change

-- an outline has its locks whatever the sessions are and whatever the moment is
barring_alike : (p : Parts) (xs ys : List Session) (m k : ℕ) (c : Claim) (cells : List CellRange) → barring (outline_of p xs m) c cells ≡ barring (outline_of p ys k) c cells
barring_alike p xs ys m k c [] = refl
barring_alike p xs ys m k c (x ∷ cells) = ap (option_or (barring_at (outline_of p ys k) c x)) (barring_alike p xs ys m k c cells)

pub lock_fault-alike : (p : Parts) (xs ys : List Session) (m k : ℕ) (c : Claim) (cells : List CellRange) → lock_fault (outline_of p xs m) c cells ≡ lock_fault (outline_of p ys k) c cells
lock_fault-alike p xs ys m k c cells = ap (refused_for (locked_told (outline_of p ys k))) (barring_alike p xs ys m k c cells)

-- ---- those of a workspace go by their makings

abbrev is_of : ℕ → Lock → Bool
is_of n x = x.space == n

abbrev same_making : Lock → Lock → Bool
same_making x y = x.making == y.making

turned : (m n : ℕ) → (m == n) ≡ false → (n == m) ≡ false
turned m n e = grind (arith, e)

-- a lock whose making is that of none of these is not among theirs
unmade : (n making : ℕ) (xs : List Lock) → list_any (λ (x : Lock). making == x.making) xs ≡ false → list_any (λ k. k == making) (makings_of n xs) ≡ false
unmade n making [] none = refl
unmade n making (x ∷ xs) none =
    let h = or_parts (making == x.making) (list_any (λ (y : Lock). making == y.making) xs) none in
    by_test (is_of n x) (turned making x.making h.0) (unmade n making xs h.1)
  where
    by_test : (b : Bool) → (x.making == making) ≡ false → list_any (λ k. k == making) (makings_of n xs) ≡ false
        → list_any (λ k. k == making) (map (λ (y : Lock). y.making) (cond b (x ∷ filter (is_of n) xs) (filter (is_of n) xs))) ≡ false
    by_test true apart rest = ap (λ t. t || list_any (λ k. k == making) (makings_of n xs)) apart ∙ rest
    by_test false apart rest = rest

-- a making that none of these has takes none of them away
stays_without : (making : ℕ) (makings : List ℕ) (xs : List Lock) → list_any (λ (x : Lock). making == x.making) xs ≡ false → filter (stays_locked (making ∷ makings)) xs ≡ filter (stays_locked makings) xs
stays_without making makings [] none = refl
stays_without making makings (x ∷ xs) none =
    let h = or_parts (making == x.making) (list_any (λ (y : Lock). making == y.making) xs) none in
    ap (λ t. cond (not (t || list_any (λ k. k == x.making) makings)) (x ∷ filter (stays_locked (making ∷ makings)) xs) (filter (stays_locked (making ∷ makings)) xs)) h.0
    ∙ ap (λ ys. cond (stays_locked makings x) (x ∷ ys) ys) (stays_without making makings xs h.1)

-- where no two makings are the same, the locks without those of the makings of a workspace are those of the others
stays_others : (n : ℕ) (xs : List Lock) → differ same_making xs ≡ true → filter (stays_locked (makings_of n xs)) xs ≡ unlocked_of n xs
stays_others n [] apart = refl
stays_others n (x ∷ xs) apart = by_test (is_of n x) refl (not-true (list_any (same_making x) xs) h.0) (stays_others n xs h.1)
  where
    h : (not (list_any (same_making x) xs) ≡ true) × (differ same_making xs ≡ true)
    h = and_parts (not (list_any (same_making x) xs)) (differ same_making xs) apart

    stay : List ℕ → List Lock
    stay makings = cond (stays_locked makings x) (x ∷ filter (stays_locked makings) xs) (filter (stays_locked makings) xs)

    by_test : (b : Bool) → is_of n x ≡ b → list_any (same_making x) xs ≡ false → filter (stays_locked (makings_of n xs)) xs ≡ unlocked_of n xs
        → stay (map (λ (y : Lock). y.making) (cond b (x ∷ filter (is_of n) xs) (filter (is_of n) xs))) ≡ cond (not (is_of n x)) (x ∷ unlocked_of n xs) (unlocked_of n xs)
    by_test true is none rest =
        ap (λ t. cond (not (t || list_any (λ k. k == x.making) (makings_of n xs))) (x ∷ filter (stays_locked (x.making ∷ makings_of n xs)) xs) (filter (stays_locked (x.making ∷ makings_of n xs)) xs)) (eq-eqb x.making x.making refl)
        ∙ stays_without x.making (makings_of n xs) xs none
        ∙ rest
        ∙ sym (ap (λ t. cond (not t) (x ∷ unlocked_of n xs) (unlocked_of n xs)) is)
    by_test false is none rest =
        ap (λ t. cond (not t) (x ∷ filter (stays_locked (makings_of n xs)) xs) (filter (stays_locked (makings_of n xs)) xs)) (unmade n x.making xs none)
        ∙ ap (λ ys. x ∷ ys) rest
        ∙ sym (ap (λ t. cond (not t) (x ∷ unlocked_of n xs) (unlocked_of n xs)) is)

-- so it is in each state for which the records stand
pub unlocked_same : (p : Parts) (d : Durable) (n : ℕ) → Stands p d → filter (stays_locked (makings_of n p.locks)) d.locks ≡ unlocked_of n d.locks
unlocked_same p d n st =
    ap (filter (stays_locked (makings_of n p.locks))) (sym st.locks.same)
    ∙ sym (locks-filter (stays_locked (makings_of n p.locks)) p.locks)
    ∙ ap locks_by_making (stays_others n p.locks (and_parts (differ same_making p.locks) _ (ruled p st.rules).locks).0)
    ∙ locks-filter (λ (x : Lock). is_other n x.space) p.locks
    ∙ ap (unlocked_of n) st.locks.same

-- ---- whether it has some

any_placed : (P : Lock → Bool) (x : Lock) (ys : List Lock) → list_any P (place_lock x ys) ≡ (P x || list_any P ys)
any_placed P x [] = refl
any_placed P x (y ∷ ys) = by_test (nat_lt y.making x.making) (any_placed P x ys)
  where
    swapped : (b c d : Bool) → (b || (c || d)) ≡ (c || (b || d))
    swapped true true d = refl
    swapped true false d = refl
    swapped false true d = refl
    swapped false false d = refl

    by_test : (b : Bool) → list_any P (place_lock x ys) ≡ (P x || list_any P ys) → list_any P (cond b (y ∷ place_lock x ys) (x ∷ y ∷ ys)) ≡ (P x || (P y || list_any P ys))
    by_test true rest = ap (λ t. P y || t) rest ∙ swapped (P y) (P x) (list_any P ys)
    by_test false rest = refl

any_by_making : (P : Lock → Bool) (xs : List Lock) → list_any P (locks_by_making xs) ≡ list_any P xs
any_by_making P [] = refl
any_by_making P (x ∷ xs) = any_placed P x (locks_by_making xs) ∙ ap (λ t. P x || t) (any_by_making P xs)

-- there are makings where there are locks
makings_none : (n : ℕ) (xs : List Lock) → not (has_locks n xs) ≡ (length (makings_of n xs) == 0)
makings_none n [] = refl
makings_none n (x ∷ xs) = by_test (is_of n x) (makings_none n xs)
  where
    some : (k : ℕ) → false ≡ (suc k == 0)
    some k = grind arith

    by_test : (b : Bool) → not (has_locks n xs) ≡ (length (makings_of n xs) == 0)
        → not (b || has_locks n xs) ≡ (length (map (λ (y : Lock). y.making) (cond b (x ∷ filter (is_of n) xs) (filter (is_of n) xs))) == 0)
    by_test true rest = some (length (makings_of n xs))
    by_test false rest = rest

-- whether a merge has nothing to do
pub idle_same : (p : Parts) (d : Durable) (n : ℕ) (asked : Asked) (even : Bool) → Stands p d
    → (even && not (has_locks n d.locks || (asked.keeps || asked.removes))) ≡ is_idle_at asked even (makings_of n p.locks)
idle_same p d n asked even st =
    ap (λ xs. even && not (has_locks n xs || (asked.keeps || asked.removes))) (sym st.locks.same)
    ∙ ap (λ t. even && not (t || (asked.keeps || asked.removes))) (any_by_making (is_of n) p.locks)
    ∙ ap (λ t. even && t) (neither (has_locks n p.locks) (asked.keeps || asked.removes))
    ∙ ap (λ t. even && (t && not (asked.keeps || asked.removes))) (makings_none n p.locks)
  where
    neither : (b c : Bool) → not (b || c) ≡ (not b && not c)
    neither true c = refl
    neither false c = refl
