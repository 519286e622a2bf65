-- What is stored along a path.
use Rattle.std.proofs.Common.{◌≡◌, ℕ, Bool, false, cond, List, [], ◌∷◌, Option, refl, ap, ◌∙◌}
use Rattle.std.proofs.lemmas.Bool.{ne_eqb, or_parts}
use Rattle.std.specs.List.{list_any}
use Rattle.std.specs.Option.{option_or}
use Rattle.wm_period.specs.Pieces.{Held, held_at}
use Rattle.wm_period.specs.declared.piece.Piece.{Piece}
use Rattle.wm_rows.specs.Rows.{Groups, Layers, pieces_in, stored, nearest, above}
use Rattle.wm_rows.specs.declared.row_key.RowKey.{RowKey}

-- where a walk along a path stands: over what is gathered of a row, the rest of the path is still to come
pub record Gathering (layers : Layers) (path rest : List ℕ) (row : RowKey) (gathered : List Piece) : Type 0 where
  pub same : (t : ℕ) → option_or (held_at gathered t) (nearest layers rest row t) ≡ nearest layers path row t

-- ---- above a base

-- the same of all rows at once, up to a base version
pub record GatheringOwn (layers : Layers) (path rest : List ℕ) (base : ℕ) (gathered : Groups) : Type 0 where
  pub same : (row : RowKey) (t : ℕ) → option_or (held_at (pieces_in gathered row) t) (nearest layers (above base rest) row t) ≡ nearest layers (above base path) row t

above-other : (base version : ℕ) (rest : List ℕ) → (version ≡ base → ⊥) → above base (version ∷ rest) ≡ version ∷ above base rest
above-other base version rest e = ap (λ b. cond b [] (version ∷ above base rest)) (ne_eqb version base e)

-- ---- layers that store the same along a path

-- two layers see the same along a path where they store the same for each version of it
pub nearest-kept : (new old : Layers) (path : List ℕ) (other : ℕ → Bool) (row : RowKey) (t : ℕ) → list_any other path ≡ false
    → ((v : ℕ) → other v ≡ false → stored new v row t ≡ stored old v row t) → nearest new path row t ≡ nearest old path row t
nearest-kept new old [] other row t off same = refl
nearest-kept new old (v ∷ path) other row t off same =
    let parts = or_parts (other v) (list_any other path) off in
    ap (λ (o : Option Held). option_or o (nearest new path row t)) (same v parts.0)
    ∙ ap (option_or (stored old v row t)) (nearest-kept new old path other row t parts.1 same)
