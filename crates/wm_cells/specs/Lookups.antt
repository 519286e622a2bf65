-- What references refer to, and what indexes find.
use Rattle.std.specs.Prelude.{ℕ, ◌++◌, List, [], ◌∷◌, map, Option, option_map}
use Rattle.std.specs.BTreeMap.{is_at}
use Rattle.std.specs.Map.{lookup}
use Rattle.std.specs.Option.{unwrap_or}
use Rattle.std.specs.Ordering.{nat_cmp}
use Rattle.wm_graph.specs.Parts.{Parts}
use Rattle.wm_spec.specs.declared.record.Record.{Record}
use Rattle.wm_spec.specs.declared.record.Record.TheVariants as records
use Rattle.wm_cells.specs.declared.kinds.Kinds.{Kinds}
use denote.Ref.{Bor}

-- what references refer to
abbrev pub referred : {A : Type 0} → List (Bor A) → List A
referred {A} references = map (λ (r : Bor A). r.now) references

-- what an index has for a number
abbrev pub found : {A : Type 0} → List (ℕ × Bor A) → ℕ → Option A
found {A} entries number = option_map (λ (r : Bor A). r.now) (lookup (is_at (nat_cmp number)) entries)

-- how many were counted for a number
abbrev pub counted : List (ℕ × ℕ) → ℕ → ℕ
counted entries number = unwrap_or (lookup (is_at (nat_cmp number)) entries) 0

-- the records that were collected
abbrev pub collected : Kinds → Parts
collected k = record {
  counters = referred k.counters.items;
  tables = referred k.tables.items;
  spaces = referred k.spaces.items;
  versions = referred k.versions.items;
  savepoints = referred k.savepoints.items;
  rows = referred k.rows.items;
  pieces = referred k.pieces.items;
  touches = referred k.touches.items;
  locks = referred k.locks.items;
  hists = referred k.hists.items;
  marks = referred k.marks.items;
  turns = referred k.turns.items;
}

-- the parts with one more record, behind those of its kind
abbrev pub added : Parts → Record → Parts
added p (records.Counters r) = record p { counters = p.counters ++ r ∷ [] }
added p (records.Table r) = record p { tables = p.tables ++ r ∷ [] }
added p (records.Space r) = record p { spaces = p.spaces ++ r ∷ [] }
added p (records.Version r) = record p { versions = p.versions ++ r ∷ [] }
added p (records.Savepoint r) = record p { savepoints = p.savepoints ++ r ∷ [] }
added p (records.Row r) = record p { rows = p.rows ++ r ∷ [] }
added p (records.Piece r) = record p { pieces = p.pieces ++ r ∷ [] }
added p (records.Touch r) = record p { touches = p.touches ++ r ∷ [] }
added p (records.Lock r) = record p { locks = p.locks ++ r ∷ [] }
added p (records.Hist r) = record p { hists = p.hists ++ r ∷ [] }
added p (records.Mark r) = record p { marks = p.marks ++ r ∷ [] }
added p (records.Turn r) = record p { turns = p.turns ++ r ∷ [] }
