-- Decisions that are staged in a session: what the records have of them.
use Rattle.std.specs.Prelude.{◌≡◌, true, nat_lt, List, [], ◌∷◌, Option, None, Some}
use Rattle.std.specs.List.{All, list_all}
use Rattle.wm_graph.specs.Parts.{Parts, table_of}
use Rattle.wm_graph.specs.Rules.{are_cells}
use Rattle.wm_net.specs.Listed.{Stretch}
use Rattle.wm_net.specs.Nets.{replayed}
use Rattle.wm_spec.specs.Lists.{Entry, Told}
use Rattle.wm_spec.specs.declared.record.cell_range.CellRange.{CellRange}
use Rattle.wm_spec.specs.declared.record.counters.Counters.{Counters}
use Rattle.wm_state.specs.Drafts.{IsCopied, can_keep, can_keep_entry}
use Rattle.wm_state.specs.Entries.{is_well}
use Rattle.wm_state.specs.Standing.{is_ready}
use Rattle.wm_state.specs.State.{Decision, Resolve, Session}

-- an entry can be written again: its stamp was given, it fits its table, which is ready for rows, a record can keep its values, and its row
-- is there
pub record IsRestorable (p : Parts) (e : Entry) : Type 0 where
  pub given : (c : Counters) → p.counters ≡ c ∷ [] → nat_lt e.stamp c.next_stamp ≡ true
  pub ready : is_ready p.tables e.table ≡ true
  pub well : is_well (table_of p.tables) e ≡ true
  pub kept : can_keep_entry e ≡ true
  pub copied : IsCopied p e

-- what a decision copies, as an entry
abbrev pub copy_of : Decision → Stretch Told → Entry
copy_of d s = replayed 0 [] (record { table = d.table; key = d.key }) s

abbrev pub cells_of : Decision → CellRange
cells_of d = record { table = d.table; key = d.key; from = d.from; till = d.till }

-- the cells of a decision can be marked, and what it copies can be written again
pub record IsStaged (p : Parts) (d : Decision) : Type 0 where
  pub cells : are_cells (table_of p.tables) (cells_of d) ≡ true
  pub kept : list_all can_keep d.key ≡ true
  pub copies : All (λ (s : Stretch Told). IsRestorable p (copy_of d s)) d.copied

-- so is each decision of a resolve, where one is open
abbrev pub IsStagedResolve : Parts → Option Resolve → Type 0
IsStagedResolve p None = Unit {0}
IsStagedResolve p (Some r) = All (IsStaged p) r.decisions

-- and of each session
abbrev pub AreStaged : Parts → List Session → Type 0
AreStaged p xs = All (λ (x : Session). IsStagedResolve p x.resolve) xs
