-- Lines that are refused, that read, that change no row, or that say nothing change no record and no session, and leave the moment.
use Rattle.std.specs.Prelude.{◌≡◌, ℕ, true, []}
pub use Rattle.wm_model.specs.Planning.{is_idle}
use Rattle.wm_plan.specs.Views.{answer_view}
use Rattle.wm_plan.specs.declared.planned.Planned.{Planned}
use Rattle.wm_plan.specs.declared.planned.Timed.{Timed}
use Rattle.wm_plan.specs.declared.seating.Seating.TheVariants.{Stay}

-- a plan with such an answer changes nothing
abbrev pub Idles : Planned → Type 0
Idles p = is_idle (answer_view p.answer) ≡ true → (p.edits.items ≡ []) × (p.seating ≡ Stay)

-- nor does it move the moment
abbrev pub StaysAt : ℕ → Timed → Type 0
StaysAt moment t = is_idle (answer_view t.planned.answer) ≡ true → t.moment ≡ moment
