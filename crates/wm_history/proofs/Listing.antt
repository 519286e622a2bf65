-- The rows of pieces by key, gathered key by key.
use Rattle.std.proofs.Common.{◌≡◌, ℕ, ◌<◌, ◌≤◌, nat_lt, Bool, true, false, All, List, [], ◌∷◌, ◌++◌, Option, Some, None, refl, sym, ap, ◌∙◌, arith}
use Rattle.std.specs.BTreeMap.{is_at}
use Rattle.std.specs.List.Sorted.{IsStrictlySortedBy}
use Rattle.std.specs.Map.{lookup, keys_of as entry_keys}
use Rattle.std.specs.Option.{option_and_then}
use Rattle.wm_base.specs.Key.{key_order}
use Rattle.wm_base.specs.Period.{Span}
use Rattle.wm_base.specs.declared.instant.TheConstants.{END}
use Rattle.wm_base.specs.declared.row.Row.{Row}
use Rattle.wm_base.specs.declared.value.Value.{Value}
use Rattle.wm_graph.specs.Parts.{Parts}
use Rattle.wm_history.specs.Laid.{HasEnded, HoldBy, Laid, layers_held}
use Rattle.wm_history.specs.declared.layers.Layers.{Layers}
use Rattle.wm_period.specs.Pieces.{Between, Held, held_at}
use Rattle.wm_period.specs.declared.piece.Piece.{Piece}
use Rattle.wm_spec.specs.Lists.{Cell}
use Rattle.wm_state.specs.Listing.{IsShowingBy}
use Rattle.wm_version_rows.proofs.Gathering.{GatheredTo, adds_rows_by, are_rows_by, gathered_first, gathered_on, is_showing_by, next_found}
use Rattle.wm_version_rows.specs.Listing.{shown_on}
use Rattle.wm_version_rows.specs.Standing.{stretches_on}

-- the rows of the keys before the rest were gathered, of each function of the cell that the pieces hold
abbrev pub IsListedTo : Parts → ℕ → Bool → Span → Laid → Laid → List Row → Type 0
IsListedTo p table valid within all rest rows = (f : Cell → Option Held) → HoldBy all table f → HasEnded f → GatheredTo p f table valid within all rest rows

pub listed_first : (p : Parts) (table : ℕ) (valid : Bool) (within : Span) (all rest : Laid) (rows : List Row) → rest ≡ all → All (λ e. lookup (is_at (key_order e.0)) all ≡ Some e.1) all → rows ≡ []
    → IsListedTo p table valid within all rest rows
listed_first p table valid within all rest rows whole found none = λ f hold ended. gathered_first p f table valid within all rest rows whole found none

pub listed_next : (p : Parts) (table : ℕ) (valid : Bool) (within : Span) (all left rest : Laid) (e : List Value × Layers) (pieces : List Piece) (old new : List Row) → left ≡ e ∷ rest
    → IsListedTo p table valid within all left old → Between 0 pieces END → ((t : ℕ) → held_at pieces t ≡ layers_held e.1 t) → new ≡ old ++ shown_on p valid within (stretches_on pieces)
    → IsListedTo p table valid within all rest new
listed_next p table valid within all left rest e pieces old new is so order laid added = λ f hold ended.
    gathered_on p f table valid within all left rest e old new is (so f hold ended)
    (adds_rows_by p f table valid within e.0 pieces old new
    (are_rows_by f table e.0 pieces order (λ t late. ended (record { table = table; key = e.0; time = t }) late)
    (λ t less. laid t ∙ ap (λ (o : Option Layers). option_and_then (λ (x : Layers). layers_held x t) o) (sym (next_found p f table valid within all left rest e old is (so f hold ended))) ∙ hold e.0 t less))
    added)

pub listed_all : (p : Parts) (table : ℕ) (valid : Bool) (within : Span) (all : Laid) (rows : List Row) → IsStrictlySortedBy key_order (entry_keys all) → IsListedTo p table valid within all [] rows → (f : Cell → Option Held)
    → HoldBy all table f → HasEnded f → IsShowingBy p f table valid within rows
listed_all p table valid within all rows sorted so f hold ended = is_showing_by p f table valid within all rows sorted (λ k none t. nothing k t none (nat_lt t END) refl) (so f hold ended)
  where
    below : (t end : ℕ) → nat_lt t end ≡ true → t < end
    below t end e = grind (arith, e)

    above : (t end : ℕ) → nat_lt t end ≡ false → end ≤ t
    above t end e = grind (arith, e)

    nothing : (k : List Value) (t : ℕ) → lookup (is_at (key_order k)) all ≡ None → (b : Bool) → nat_lt t END ≡ b → f (record { table = table; key = k; time = t }) ≡ None
    nothing k t none true e = sym (hold k t (below t END e)) ∙ ap (λ (o : Option Layers). option_and_then (λ (x : Layers). layers_held x t) o) none
    nothing k t none false e = ended (record { table = table; key = k; time = t }) (above t END e)
