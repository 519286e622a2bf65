-- Ids, and the records that they are of.
use Rattle.std.proofs.Common.{◌≡◌, ℕ, ◌==◌, Bool, true, false, cond, not, ◌&&◌, ◌||◌, List, [], ◌∷◌, refl, sym, ap, ◌∙◌}
use Rattle.std.proofs.lemmas.Bool.{eq-eqb, true≢false}
use Rattle.wm_chunks.specs.Numbers.{Numbers}
use Rattle.std.specs.Ordering.{is_eq}
use Rattle.std.specs.List.{list_any}
use Rattle.wm_base.specs.Key.{key_order}
use Rattle.wm_base.specs.declared.value.Value.{Value}
use Rattle.wm_spec.specs.declared.record.Record.{Record}
use Rattle.wm_spec.specs.declared.record.stored.Stored.{Stored}
use Rattle.wm_ids.specs.Ids.{is_nil}
use Rattle.wm_ids.specs.Versioned.{ids_under, versions_on}
use Rattle.wm_ids.specs.declared.versioned.Versioned.{Versioned}
use Rattle.wm_index.proofs.Finding.{all_of}
use Rattle.wm_index.specs.Indexed.{IsIndexed, listed}
use Rattle.wm_index.specs.Sought.{PieceAt, is_piece_of, is_sought, ids_with}
use Rattle.wm_spec.specs.declared.record.Record.TheVariants as records
use Rattle.wm_index.specs.declared.index.Index.{Index}

-- ---- which keys

-- some record passes where ids do
pub some_ids : (p : Record → Bool) (ss : List Stored) → not (is_nil (ids_with p ss)) ≡ list_any p (all_of ss)
some_ids p [] = refl
some_ids p (s ∷ ss) = by_test (p s.record) (some_ids p ss)
  where
    by_test : (b : Bool) → not (is_nil (ids_with p ss)) ≡ list_any p (all_of ss) → not (is_nil (cond b (s.id ∷ ids_with p ss) (ids_with p ss))) ≡ (b || list_any p (all_of ss))
    by_test true rest = refl
    by_test false rest = rest

-- a piece is that of a version
any_piece : (table : ℕ) (k : List Value) (rs : List Record) → list_any (is_piece_of table k) rs ≡ true → (v : ℕ) × (list_any (is_sought (PieceAt table k v)) rs ≡ true)
any_piece table k [] some = absurd (true≢false (sym some))
any_piece table k (r ∷ rs) some = by_test (is_piece_of table k r) refl some (one r) (any_piece table k rs)
  where
    all : (a b c : Bool) → c ≡ true → (a && b) ≡ true → (a && (b && c)) ≡ true
    all true true c is h = is
    all true false c is h = h
    all false b c is h = h

    one : (q : Record) → is_piece_of table k q ≡ true → (v : ℕ) × (is_sought (PieceAt table k v) q ≡ true)
    one (records.Piece x) is = (x.version, all (x.cells.table == table) (is_eq (key_order x.cells.key k)) (x.version == x.version) (eq-eqb x.version x.version refl) is)
    one _ is = absurd (true≢false (sym is))

    or_true : (v : ℕ) (a : Bool) → list_any (is_sought (PieceAt table k v)) rs ≡ true → (a || list_any (is_sought (PieceAt table k v)) rs) ≡ true
    or_true v true is = refl
    or_true v false is = is

    by_test : (b : Bool) → is_piece_of table k r ≡ b → (b || list_any (is_piece_of table k) rs) ≡ true → (is_piece_of table k r ≡ true → (v : ℕ) × (is_sought (PieceAt table k v) r ≡ true))
        → (list_any (is_piece_of table k) rs ≡ true → (v : ℕ) × (list_any (is_sought (PieceAt table k v)) rs ≡ true))
        → (v : ℕ) × (list_any (is_sought (PieceAt table k v)) (r ∷ rs) ≡ true)
    by_test true is h here rest = let found = here is in (found.0, ap (λ b. b || list_any (is_sought (PieceAt table k found.0)) rs) found.1)
    by_test false is h here rest = let found = rest h in (found.0, or_true found.0 (is_sought (PieceAt table k found.0) r) found.1)

-- a key without versions has no piece
pub none_told : (kept : Numbers Record) (x : Index) → IsIndexed kept x → (table : ℕ) (k : List Value) → versions_on x.pieces.entries table k ≡ [] → list_any (is_piece_of table k) (all_of (listed kept.entries)) ≡ false
none_told kept x is table k none = by_test (list_any (is_piece_of table k) (all_of (listed kept.entries))) refl
  where
    by_test : (b : Bool) → list_any (is_piece_of table k) (all_of (listed kept.entries)) ≡ b → b ≡ false
    by_test false so = refl
    by_test true so =
        let found = any_piece table k (all_of (listed kept.entries)) so in
        absurd (true≢false
        (sym found.1
        ∙ sym (some_ids (is_sought (PieceAt table k found.0)) (listed kept.entries))
        ∙ ap (λ ids. not (is_nil ids)) (sym (is.told (PieceAt table k found.0)))
        ∙ ap (λ (es : List Versioned). not (is_nil (ids_under es found.0))) none))
