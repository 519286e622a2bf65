-- What is asked of locks, as a value.
use Rattle.wm_model.specs.Step.{Claim, Holder}
use Rattle.wm_spec.specs.declared.record.cell_range.CellRange.{CellRange}
use Rattle.wm_barred.specs.declared.barring.Claim.{Claim as ClaimOf}
use Rattle.wm_barred.specs.declared.parts.Holder.{Holder as HolderOf}
use Rattle.wm_barred.specs.declared.stretch.Stretch.{Stretch}

abbrev pub stretch_view : Stretch → CellRange
stretch_view x = record { table = x.table; key = x.key.now; from = x.period.now.from; till = x.period.now.till }

abbrev pub claim_view : ClaimOf → Claim
claim_view c = record { space = c.space; user = c.user.now; except = c.except }

abbrev pub holder_view : HolderOf → Holder
holder_view h = record { space = h.space; mode = h.mode; user = h.user.now }
