-- What the records of joined pieces hold, key by key: the version holds at each cell what is held there (stored_copied), each piece ends
-- where that changes (ends_copied), and no two collide (differ_copied).
use Rattle.std.proofs.Common.{◌≡◌, ℕ, ◌<◌, ◌≤◌, ◌==◌, nat_lt, Bool, true, false, not, ◌&&◌, ◌||◌, List, [], ◌∷◌, map, Option, None, refl, sym, ap, ◌∙◌, arith, le_refl}
use Rattle.std.proofs.lemmas.Bool.{eq-eqb, eqb-true, and_from, and_parts, not-true, or_parts}
use Rattle.std.proofs.lemmas.List.Elements.{All-append, All-cons, All-head, All-nil, All-tail}
use Rattle.std.proofs.lemmas.List.Folds.{list_any-append}
use Rattle.std.specs.Bool.{then_some}
use Rattle.std.specs.List.{All, list_all, list_any}
use Rattle.std.specs.Option.{option_or}
use Rattle.std.specs.Ordering.{is_eq}
use Rattle.wm_base.proofs.Plain.{option_or-none}
use Rattle.wm_base.specs.Key.{key_order}
use Rattle.wm_base.specs.Period.{covers}
use Rattle.wm_base.specs.declared.instant.TheConstants.{END}
use Rattle.wm_base.specs.declared.stamp.Stamp.{Stamp}
use Rattle.wm_base.specs.declared.value.Value.{Value}
use Rattle.wm_graph.specs.Rules.{collide, differ}
use Rattle.wm_period.specs.Pieces.{Between, Held, held, held_at}
use Rattle.wm_period.specs.declared.piece.Piece.{Piece}
use Rattle.wm_spec.specs.Lists.{Cell}
use Rattle.wm_spec.specs.declared.record.piece.PieceRecord.{PieceRecord}
use Rattle.wm_state.specs.Standing.{held_by, stored_at}
use Rattle.wm_state.proofs.Laying.{key_itself, key_same, stored-append}
use Rattle.wm_state.proofs.Mapped.{any-if}
use Rattle.wm_state.specs.Copied.{AreCopied, HoldsKey, KeyPieces, is_at, key_cell, piece_for, pieces_for, same_key}
use Rattle.wm_state.proofs.Appending.{differ_append}
use Rattle.wm_rebased.specs.Rebasing.{Changes, Ends}
use Rattle.wm_rebased.proofs.RebasingEnds.{Changes-same}
use Rattle.wm_rebased.proofs.RebasingJoined.{AllChange, joined_change}

-- ---- one key

-- a record of a piece holds what the piece does
held_for : (version table : ℕ) (key : List Value) (x : Piece) → held_by (piece_for version table key x) ≡ held x
held_for version table key x = ap (λ (s : Stamp). let h : Held = record { stamp = s; kind = x.kind; gone = x.gone } in h) (one_stamp x.stamp)
  where
    one_stamp : (s : Stamp) → (let t : Stamp = record { number = s.number } in t) ≡ s
    one_stamp s = refl

-- at cells of its table and key a version holds what the pieces do
stored_here : (version table : ℕ) (key : List Value) (c : Cell) → ((table == c.table) && is_eq (key_order key c.key)) ≡ true → (xs : List Piece) → stored_at (map (piece_for version table key) xs) version c ≡ held_at xs c.time
stored_here version table key c here [] = refl
stored_here version table key c here (x ∷ xs) =
    ap (λ b. option_or (then_some b (held_by (piece_for version table key x))) (stored_at (map (piece_for version table key) xs) version c)) (all_of (version == version) _ (covers x.period c.time) (eq-eqb version version refl) here)
    ∙ ap (λ h. option_or (then_some (covers x.period c.time) h) (stored_at (map (piece_for version table key) xs) version c)) (held_for version table key x)
    ∙ ap (option_or (then_some (covers x.period c.time) (held x))) (stored_here version table key c here xs)
  where
    all_of : (a b d : Bool) → a ≡ true → b ≡ true → (a && (b && d)) ≡ d
    all_of a b d e f = rw (e, f) refl

-- and nothing at others
stored_away : (version table : ℕ) (key : List Value) (c : Cell) → ((table == c.table) && is_eq (key_order key c.key)) ≡ false → (xs : List Piece) → stored_at (map (piece_for version table key) xs) version c ≡ None
stored_away version table key c away [] = refl
stored_away version table key c away (x ∷ xs) =
    ap (λ b. option_or (then_some b (held_by (piece_for version table key x))) (stored_at (map (piece_for version table key) xs) version c)) (none_of (version == version) _ (covers x.period c.time) away)
    ∙ stored_away version table key c away xs
  where
    none_of : (a b d : Bool) → b ≡ false → (a && (b && d)) ≡ false
    none_of true b d e = rw e refl
    none_of false b d e = refl

-- ---- all keys

none_at : (version : ℕ) (c : Cell) (ks : List KeyPieces) → list_any (is_at c) ks ≡ false → stored_at (pieces_for version ks) version c ≡ None
none_at version c [] none = refl
none_at version c (k ∷ ks) none =
    let h = or_parts (is_at c k) (list_any (is_at c) ks) none in
    stored-append (map (piece_for version k.table k.key) k.pieces) (pieces_for version ks) version c
    ∙ ap (λ o. option_or o (stored_at (pieces_for version ks) version c)) (stored_away version k.table k.key c h.0 k.pieces)
    ∙ none_at version c ks h.1

-- a cell of the table and the key is the key's at its moment
same_cell : (k : KeyPieces) (c : Cell) → is_at c k ≡ true → key_cell k c.time ≡ c
same_cell k c at =
    let h = and_parts (k.table == c.table) (is_eq (key_order k.key c.key)) at in
    ap (λ (n : ℕ). let d : Cell = record { table = n; key = k.key; time = c.time } in d) (eqb-true k.table c.table h.0)
    ∙ ap (λ (l : List Value). let d : Cell = record { table = c.table; key = l; time = c.time } in d) (key_same k.key c.key h.1)

-- and of no other key
others_away : (k : KeyPieces) (c : Cell) (ks : List KeyPieces) → is_at c k ≡ true → list_any (same_key k) ks ≡ false → list_any (is_at c) ks ≡ false
others_away k c ks at none = any-if (same_key k) (is_at c) (λ l is. same l is) ks none
  where
    same : (l : KeyPieces) → is_at c l ≡ true → same_key k l ≡ true
    same l is =
        let h = and_parts (k.table == c.table) (is_eq (key_order k.key c.key)) at in
        let g = and_parts (l.table == c.table) (is_eq (key_order l.key c.key)) is in
        and_from (k.table == l.table) (is_eq (key_order k.key l.key)) (eq-eqb k.table l.table (eqb-true k.table c.table h.0 ∙ sym (eqb-true l.table c.table g.0)))
        (ap (λ (m : List Value). is_eq (key_order k.key m)) (key_same l.key c.key g.1 ∙ sym (key_same k.key c.key h.1)) ∙ key_itself k.key)

stored_some : (version : ℕ) (f : Cell → Option Held) (c : Cell) (ks : List KeyPieces) → differ same_key ks ≡ true → All (HoldsKey f) ks → (list_any (is_at c) ks ≡ false → f c ≡ None) → stored_at (pieces_for version ks) version c ≡ f c
stored_some version f c [] apart each elsewhere = sym (elsewhere refl)
stored_some version f c (k ∷ ks) apart each elsewhere =
    stored-append (map (piece_for version k.table k.key) k.pieces) (pieces_for version ks) version c
    ∙ by_test (is_at c k) refl (stored_some version f c ks (and_parts (not (list_any (same_key k) ks)) (differ same_key ks) apart).1 (All-tail (HoldsKey f) k ks each))
  where
    by_test : (b : Bool) → is_at c k ≡ b → ((list_any (is_at c) ks ≡ false → f c ≡ None) → stored_at (pieces_for version ks) version c ≡ f c)
        → option_or (stored_at (map (piece_for version k.table k.key) k.pieces) version c) (stored_at (pieces_for version ks) version c) ≡ f c
    by_test true at rest =
        ap (option_or (stored_at (map (piece_for version k.table k.key) k.pieces) version c))
        (none_at version c ks (others_away k c ks at (not-true (list_any (same_key k) ks) (and_parts (not (list_any (same_key k) ks)) (differ same_key ks) apart).0)))
        ∙ option_or-none (stored_at (map (piece_for version k.table k.key) k.pieces) version c)
        ∙ stored_here version k.table k.key c at k.pieces
        ∙ (All-head (HoldsKey f) k ks each).holds c.time
        ∙ ap f (same_cell k c at)
    by_test false away rest =
        ap (λ o. option_or o (stored_at (pieces_for version ks) version c)) (stored_away version k.table k.key c away k.pieces)
        ∙ rest (λ none. elsewhere (ap (λ b. b || list_any (is_at c) ks) away ∙ none))

-- the version holds at each cell what is held there
pub stored_copied : (version : ℕ) (f : Cell → Option Held) (ks : List KeyPieces) → AreCopied f ks → (c : Cell) → stored_at (pieces_for version ks) version c ≡ f c
stored_copied version f ks copied c = stored_some version f c ks copied.apart copied.each (copied.elsewhere c)

-- ---- where they end

ends_key : (version : ℕ) (all : List PieceRecord) (k : KeyPieces) → ((t : ℕ) → held_at k.pieces t ≡ stored_at all version (key_cell k t)) → (xs : List Piece) → AllChange (held_at k.pieces) xs
    → All (Ends version all) (map (piece_for version k.table k.key) xs)
ends_key version all k same [] changes = All-nil (Ends version all)
ends_key version all k same (x ∷ xs) changes =
    All-cons (Ends version all) (piece_for version k.table k.key x) (map (piece_for version k.table k.key) xs) (record { from = at x.period.from changes.0; till = at x.period.till changes.1 }) (ends_key version all k same xs changes.2)
  where
    at : (t : ℕ) → Changes (held_at k.pieces) t → Changes (λ time. stored_at all version (key_cell k time)) t
    at t = Changes-same (held_at k.pieces) (λ time. stored_at all version (key_cell k time)) same t

ends_all : (version : ℕ) (f : Cell → Option Held) (all : List PieceRecord) → ((c : Cell) → stored_at all version c ≡ f c) → (ks : List KeyPieces) → All (HoldsKey f) ks → All (Ends version all) (pieces_for version ks)
ends_all version f all stored [] each = All-nil (Ends version all)
ends_all version f all stored (k ∷ ks) each =
    let h = All-head (HoldsKey f) k ks each in
    All-append (Ends version all) (map (piece_for version k.table k.key) k.pieces) (pieces_for version ks)
    (ends_key version all k (λ t. h.holds t ∙ sym (stored (key_cell k t))) k.pieces (joined_change k.pieces 0 END h.lie h.joined))
    (ends_all version f all stored ks (All-tail (HoldsKey f) k ks each))

-- each ends where what the version itself has changes
pub ends_copied : (version : ℕ) (f : Cell → Option Held) (ks : List KeyPieces) → AreCopied f ks → All (Ends version (pieces_for version ks)) (pieces_for version ks)
ends_copied version f ks copied = ends_all version f (pieces_for version ks) (stored_copied version f ks copied) ks copied.each

-- ---- no two collide

-- what lies behind a piece shares no moment with it
none_behind : (version table : ℕ) (key : List Value) (x : Piece) (low high : ℕ) (ys : List Piece) → x.period.till ≤ low → Between low ys high → list_any (collide (piece_for version table key x)) (map (piece_for version table key) ys) ≡ false
none_behind version table key x low high [] le lie = refl
none_behind version table key x low high (y ∷ ys) le lie =
    rw (
      behind ((version == version) && ((table == table) && is_eq (key_order key key))) x.period.from x.period.till low y.period.from y.period.till le lie.0,
      none_behind version table key x y.period.till high ys (later x.period.till low y.period.from y.period.till le lie.0 lie.1) lie.2,
    )
    refl
  where
    apart : (from till low at end : ℕ) → till ≤ low → low ≤ at → (nat_lt from end && nat_lt at till) ≡ false
    apart from till low at end le more = grind (arith, le, more)

    behind : (b : Bool) (from till low at end : ℕ) → till ≤ low → low ≤ at → (b && (nat_lt from end && nat_lt at till)) ≡ false
    behind true from till low at end le more = apart from till low at end le more
    behind false from till low at end le more = refl

    later : (till low at end : ℕ) → till ≤ low → low ≤ at → at < end → till ≤ end
    later till low at end le more lt = omega (arith, le, more, lt)

differ_key : (version table : ℕ) (key : List Value) (low high : ℕ) (xs : List Piece) → Between low xs high → differ collide (map (piece_for version table key) xs) ≡ true
differ_key version table key low high [] lie = refl
differ_key version table key low high (x ∷ xs) lie =
    and_from (not (list_any (collide (piece_for version table key x)) (map (piece_for version table key) xs))) (differ collide (map (piece_for version table key) xs))
    (ap not (none_behind version table key x x.period.till high xs (le_refl x.period.till) lie.2)) (differ_key version table key x.period.till high xs lie.2)

-- nor do pieces of two keys
none_of_key : (version : ℕ) (k l : KeyPieces) (x : Piece) → same_key k l ≡ false → (ys : List Piece) → list_any (collide (piece_for version k.table k.key x)) (map (piece_for version l.table l.key) ys) ≡ false
none_of_key version k l x apart [] = refl
none_of_key version k l x apart (y ∷ ys) =
    rw (other (version == version) (same_key k l) (nat_lt x.period.from y.period.till && nat_lt y.period.from x.period.till) apart, none_of_key version k l x apart ys) refl
  where
    other : (a b d : Bool) → b ≡ false → ((a && b) && d) ≡ false
    other true b d e = rw e refl
    other false b d e = refl

none_of_keys : (version : ℕ) (k : KeyPieces) (x : Piece) (ls : List KeyPieces) → list_any (same_key k) ls ≡ false → list_any (collide (piece_for version k.table k.key x)) (pieces_for version ls) ≡ false
none_of_keys version k x [] apart = refl
none_of_keys version k x (l ∷ ls) apart =
    let h = or_parts (same_key k l) (list_any (same_key k) ls) apart in
    list_any-append (collide (piece_for version k.table k.key x)) (map (piece_for version l.table l.key) l.pieces) (pieces_for version ls)
    ∙ rw (none_of_key version k l x h.0 l.pieces, none_of_keys version k x ls h.1) refl

differ_keys : (version : ℕ) (f : Cell → Option Held) (ks : List KeyPieces) → differ same_key ks ≡ true → All (HoldsKey f) ks → differ collide (pieces_for version ks) ≡ true
differ_keys version f [] apart each = refl
differ_keys version f (k ∷ ks) apart each =
    let h = and_parts (not (list_any (same_key k) ks)) (differ same_key ks) apart in
    differ_append collide (map (piece_for version k.table k.key) k.pieces) (pieces_for version ks)
    (differ_key version k.table k.key 0 END k.pieces (All-head (HoldsKey f) k ks each).lie)
    (differ_keys version f ks h.1 (All-tail (HoldsKey f) k ks each))
    (all_apart (not-true (list_any (same_key k) ks) h.0) k.pieces)
  where
    all_apart : list_any (same_key k) ks ≡ false → (xs : List Piece) → list_all (λ z. not (list_any (collide z) (pieces_for version ks))) (map (piece_for version k.table k.key) xs) ≡ true
    all_apart none [] = refl
    all_apart none (x ∷ xs) = rw (none_of_keys version k x ks none) (all_apart none xs)

pub differ_copied : (version : ℕ) (f : Cell → Option Held) (ks : List KeyPieces) → AreCopied f ks → differ collide (pieces_for version ks) ≡ true
differ_copied version f ks copied = differ_keys version f ks copied.apart copied.each
