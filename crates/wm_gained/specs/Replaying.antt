-- A workspace has entries that another one has, with the stamps that they have, in a version more: what becomes of the state, and of the
-- records.
use Rattle.std.specs.Prelude.{ℕ, ◌≡◌, true, List, [], map, length}
use Rattle.wm_graph.specs.Parts.{Parts}
use Rattle.wm_graph.specs.Rules.{keep_rules}
use Rattle.wm_spec.specs.Lists.{Entry}
use Rattle.wm_spec.specs.declared.record.batch.Change.{Change}
use Rattle.wm_spec.specs.declared.record.counters.Counters.{Counters}
use Rattle.wm_spec.specs.declared.record.piece.PieceRecord.{PieceRecord}
use Rattle.wm_spec.specs.declared.record.space.Space.{Space}
use Rattle.wm_spec.specs.declared.record.table.Table.{Table}
use Rattle.wm_spec.specs.declared.record.version.Version.{Version}
use Rattle.wm_state.specs.Effects.{Forked}
use Rattle.wm_state.specs.Entries.{hists_kept}
use Rattle.wm_state.specs.Touching.{trace_of}
use Rattle.wm_state.specs.Writes.{WroteAll, write_new_batch}

-- ---- the records

-- a workspace has a version more, and in it entries whose rows are there already
pub record Replayed (p q : Parts) (n number : ℕ) (es : List Entry) : Type 0 where
  pub between : Parts
  pub forked : Forked p between n number
  pub rules : keep_rules between ≡ true
  pub wrote : WroteAll between q n es

-- ---- the batch

-- the entries are written in a version more: no row comes
abbrev pub replay_batch : List Table → ℕ → Counters → ℕ → Space → List ℕ → ℕ → Version → List Entry → List PieceRecord → List PieceRecord → List Change
replay_batch tables counters_id counters space_id a dropped id version es drawn traced =
    write_new_batch counters_id counters space_id a (length es) dropped id version [] drawn (map (trace_of a.number) traced) (hists_kept tables a.number a.log_length es)
