-- Where each key with pieces of what is own can be kept, each key of what is own can.
use Rattle.std.proofs.Common.{◌≡◌, ℕ, ◌==◌, Bool, true, false, ◌||◌, List, [], ◌∷◌, length, Option, is_some, refl, sym, ap, ◌∙◌, arith}
use Rattle.std.proofs.lemmas.Bool.{eqb-true, ne_eqb, and_parts, true≢false}
use Rattle.std.proofs.lemmas.List.Elements.{All-head, All-tail}
use Rattle.std.specs.List.{All, list_all, list_any}
use Rattle.std.specs.Ordering.{is_eq}
use Rattle.wm_base.proofs.Plain.{or_last}
use Rattle.wm_base.specs.Key.{key_order}
use Rattle.wm_graph.specs.Parts.{Parts}
use Rattle.wm_period.specs.Pieces.{Held, held_at}
use Rattle.wm_period.specs.declared.piece.Piece.{Piece}
use Rattle.wm_spec.specs.Lists.{Cell}
use Rattle.wm_spec.specs.declared.record.space.Space.{Space}
use Rattle.wm_state.specs.Copied.{HoldsKey, KeyPieces, is_at, key_cell}
use Rattle.wm_state.specs.Drafts.{can_keep}
use Rattle.wm_state.proofs.Laying.{key_same}
use Rattle.wm_telling.specs.Telling.{AreOwn, own_held}
use Rattle.wm_model.specs.Merged.{are_keys_kept}

-- pieces that hold something are some
some_pieces : (xs : List Piece) (t : ℕ) → is_some (held_at xs t) ≡ true → (length xs == 0) ≡ false
some_pieces [] t some = absurd (true≢false (sym some))
some_pieces (x ∷ xs) t some = ne_eqb (length (x ∷ xs)) 0 (λ e. absurd (omega (arith, e)))

kept_at : (f : Cell → Option Held) (c : Cell) → is_some (f c) ≡ true → (ks : List KeyPieces) → All (HoldsKey f) ks → are_keys_kept ks ≡ true → list_any (is_at c) ks ≡ true → list_all can_keep c.key ≡ true
kept_at f c some [] each kept at = absurd (true≢false (sym at))
kept_at f c some (k ∷ ks) each kept at = by_key (is_at c k) refl at (kept_at f c some ks (All-tail (HoldsKey f) k ks each) two.1)
  where
    two : (((length k.pieces == 0) || list_all can_keep k.key) ≡ true) × (are_keys_kept ks ≡ true)
    two = and_parts ((length k.pieces == 0) || list_all can_keep k.key) (are_keys_kept ks) kept

    here : is_at c k ≡ true → list_all can_keep c.key ≡ true
    here is =
        let parts = and_parts (k.table == c.table) (is_eq (key_order k.key c.key)) is in
        let table : k.table ≡ c.table = eqb-true k.table c.table parts.0 in
        let key : k.key ≡ c.key = key_same k.key c.key parts.1 in
        let cell : key_cell k c.time ≡ c = λ i. record { table = table i; key = key i; time = c.time } in
        let held : held_at k.pieces c.time ≡ f c = (All-head (HoldsKey f) k ks each).holds c.time ∙ ap f cell in
        ap (list_all can_keep) (sym key) ∙ or_last (length k.pieces == 0) (list_all can_keep k.key) (some_pieces k.pieces c.time (ap is_some held ∙ some)) two.0

    by_key : (b : Bool) → is_at c k ≡ b → (b || list_any (is_at c) ks) ≡ true → (list_any (is_at c) ks ≡ true → list_all can_keep c.key ≡ true) → list_all can_keep c.key ≡ true
    by_key true is e rest = here is
    by_key false is e rest = rest e

pub keys_kept : (p : Parts) (a : Space) (ks : List KeyPieces) → AreOwn p a ks → are_keys_kept ks ≡ true → (c : Cell) → is_some (own_held p a c) ≡ true → list_all can_keep c.key ≡ true
keys_kept p a ks own kept c some = by_any (list_any (is_at c) ks) refl
  where
    by_any : (b : Bool) → list_any (is_at c) ks ≡ b → list_all can_keep c.key ≡ true
    by_any true at = kept_at (own_held p a) c some ks own.copied.each kept at
    by_any false at = absurd (true≢false (sym some ∙ ap is_some (own.copied.elsewhere c at)))
