-- What is shown of the locks on a table.
use Rattle.std.specs.Prelude.{ℕ, if◌then◌else◌, List, [], ◌∷◌, ◌++◌, map}
use Rattle.wm_base.specs.declared.row.Row.{Row}
use Rattle.wm_base.specs.declared.value.Value.TheVariants as values
use Rattle.wm_guard.specs.Barring.{lock_word, locks_in, span_of}
use Rattle.wm_spec.specs.declared.record.lock.Lock.{Lock}
use Rattle.wm_spec.specs.declared.record.table.Table.{Table}

-- the key, the period where the table has valid time, the workspace by its name, the mode and the user
abbrev pub lock_row : (ℕ → List ℕ) → Table → Lock → Row
lock_row name t x = record {
  values =
      x.cells.key
      ++ ((if t.valid then values.Span (span_of x.cells) ∷ [] else [])
      ++ values.Text (name x.space) ∷ values.Text (lock_word x.mode) ∷ values.Text x.user ∷ []);
}

-- one for each lock on the table in all workspaces, by key, from, workspace and making
abbrev pub lock_view : (ℕ → List ℕ) → Table → List Lock → List Row
lock_view name t xs = map (lock_row name t) (locks_in t.number xs)
