-- How many records an implicit savepoint changes: one, beside the counters and its workspace. Marks stay.
use Rattle.std.proofs.Common.{◌≡◌, ℕ, true, List, [], ◌∷◌, Some, refl, sym, subst, arith}
use Rattle.wm_graph.specs.Parts.{parts_of, space_of}
use Rattle.wm_prices.proofs.Batch.{batch_beside}
use Rattle.wm_prices.proofs.Marks.{batch_unmarked}
use Rattle.wm_prices.specs.Prices.{ChangesBeside, Costs, KeepsMarks, is_head}
use Rattle.wm_spec.specs.declared.record.Record.TheVariants as records
use Rattle.wm_spec.specs.declared.record.batch.Change.{Change}
use Rattle.wm_spec.specs.declared.record.counters.Counters.{Counters}
use Rattle.wm_spec.specs.declared.record.savepoint.Savepoint.{Savepoint}
use Rattle.wm_spec.specs.declared.record.space.Space.{Space}
use Rattle.wm_spec.specs.declared.record.stored.Stored.{Stored}
use Rattle.wm_state.proofs.Named.{space_number}
use Rattle.wm_state.proofs.Settled.{Places}
use Rattle.wm_state.specs.Batches.{savepoint_batch}
use Rattle.wm_state.specs.ById.{applied}
use Rattle.wm_state.specs.declared.edit.Edit.TheVariants as edits

pub keep_costs : (rs : List Stored) (n counters_id space_id id : ℕ) (c counters : Counters) (a space : Space) (x : Savepoint) (changes : List Change) → space_of (parts_of rs).spaces n ≡ Some a → Places rs counters_id space_id id c a
    → changes ≡ savepoint_batch counters_id counters space_id space id x → Costs rs (edits.Keep n) (applied changes rs)
keep_costs rs n counters_id space_id id c counters a space x changes found at is = (
  subst (λ (cs : List Change). ChangesBeside (is_head n) 1 rs (applied cs rs)) (sym is)
      (batch_beside rs n counters_id space_id id c counters a space [] [] (records.Savepoint x ∷ []) at.counters at.space (space_number (parts_of rs) n a found)),
  subst (λ (cs : List Change). KeepsMarks rs (applied cs rs)) (sym is)
      (batch_unmarked rs counters_id space_id id id c counters a space [] (λ r. true) [] (records.Savepoint x ∷ []) at (omega arith) tt (λ k r found. refl) (λ y. refl) (refl, tt)),
)
