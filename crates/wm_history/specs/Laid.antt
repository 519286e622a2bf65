-- What the rows of a table are made of, key by key, and what is put over it.
use Rattle.std.specs.Prelude.{ℕ, ◌≡◌, ◌==◌, ◌<◌, ◌≤◌, true, List, reverse, Option, None}
use Rattle.std.specs.BTreeMap.{is_at}
use Rattle.std.specs.List.{list_all}
use Rattle.std.specs.Map.{lookup}
use Rattle.std.specs.Option.{option_and_then, option_or}
use Rattle.wm_base.specs.Key.{key_order}
use Rattle.wm_base.specs.declared.instant.TheConstants.{END}
use Rattle.wm_base.specs.declared.value.Value.{Value}
use Rattle.wm_dated.specs.Dated.{dated, dated_in}
use Rattle.wm_graph.specs.Parts.{Parts, as_hist}
use Rattle.wm_history.specs.declared.layers.Layers.{Layers}
use Rattle.wm_index.specs.Kinds.{kind_at}
use Rattle.wm_period.specs.Pieces.{Held, held_at}
use Rattle.wm_period.specs.declared.piece.Piece.{Piece}
use Rattle.wm_spec.specs.Lists.{Cell}
use Rattle.wm_spec.specs.declared.record.hist.Hist.{Hist}
use Rattle.wm_spec.specs.declared.record.space.Space.{Space}
use Rattle.wm_spec.specs.declared.record.stored.Stored.{Stored}
use Rattle.wm_view_rows.specs.History.{AreLogged}

-- what pieces hold at a moment: what the last that covers it says
abbrev pub last_held : List Piece → ℕ → Option Held
last_held ps t = held_at (reverse ps) t

-- what the layers of a key hold at a moment: what was written, and where nothing was what was there at birth
abbrev pub layers_held : Layers → ℕ → Option Held
layers_held x t = option_or (last_held x.written.items t) (held_at x.born t)

-- layers by key
abbrev pub Laid : Type 0
Laid = List (List Value × Layers)

-- what is held of a key at a moment
abbrev pub laid_at : Laid → List Value → ℕ → Option Held
laid_at laid key t = option_and_then (λ (x : Layers). layers_held x t) (lookup (is_at (key_order key)) laid)

-- by key they hold what a function of the cells of a table does
abbrev pub HoldBy : Laid → ℕ → (Cell → Option Held) → Type 0
HoldBy laid table f = (key : List Value) (t : ℕ) → t < END → laid_at laid key t ≡ f (record { table = table; key = key; time = t })

-- a function of the cell holds nothing from the end of time on
abbrev pub HasEnded : (Cell → Option Held) → Type 0
HasEnded f = (c : Cell) → END ≤ c.time → f c ≡ None

-- what the entries of some ids, if all are on one table, say on a date was put over them
abbrev pub IsPutOver : List Stored → List ℕ → ℕ → Laid → Laid → Type 0
IsPutOver ss ids date old new = (table : ℕ) → list_all (λ (x : Hist). x.cells.table == table) (kind_at as_hist ss ids) ≡ true
    → (key : List Value) (t : ℕ) → t < END → laid_at new key t ≡ option_or (dated_in (kind_at as_hist ss ids) date (record { table = table; key = key; time = t })) (laid_at old key t)

-- by key they hold what stood in a workspace on a date of a table with history
pub record HaveStood (p : Parts) (a : Space) (date table : ℕ) (laid : Laid) : Type 0 where
  pub logged : List Hist
  pub are_logged : AreLogged p a.number table logged
  pub hold : HoldBy laid table (dated p a logged date)
