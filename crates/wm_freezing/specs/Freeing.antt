-- What a workspace that its record holds is let go by.
use Rattle.std.specs.Prelude.{ℕ, [], ◌∷◌}
use Rattle.wm_model.specs.Seating.{Stay}
use Rattle.wm_model.specs.Step.{Plan, spent}
use Rattle.wm_outline.specs.Outline.{Outline}
use Rattle.wm_print.specs.Texts.{Fine}
use Rattle.wm_spec.specs.declared.record.space.FreezeMode.TheVariants as modes
use Rattle.wm_state.specs.declared.edit.Edit.TheVariants as edits

-- its record says no more that it is frozen
abbrev pub freeing : Outline → ℕ → Plan
freeing o n = record { faults = spent o ∷ []; edits = edits.Freeze n modes.Free [] ∷ []; seating = Stay; answer = Fine }
