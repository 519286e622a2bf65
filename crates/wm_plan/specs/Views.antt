-- What the answers and what becomes of the sessions mean.
use Rattle.wm_model.specs.Planning as planning
use Rattle.wm_print.specs.Texts as texts
use Rattle.wm_plan.specs.declared.answer.Answer.{Answer}
use Rattle.wm_plan.specs.declared.answer.Answer.TheVariants.{Nothing, Fine, Done, Listing, Refused}
use Rattle.wm_plan.specs.declared.seating.Seating.{Seating}
use Rattle.wm_plan.specs.declared.seating.Seating.TheVariants.{Stay, Open, Close, Set, Thaw}
use Rattle.wm_plan.specs.Stands.{setting_view}

abbrev pub answer_view : Answer → texts.Answer
answer_view Nothing = texts.Nothing
answer_view Fine = texts.Fine
answer_view (Done count) = texts.Done count
answer_view (Listing rows) = texts.Listing rows
answer_view (Refused refusal) = texts.Refused refusal

abbrev pub seating_view : Seating → planning.Seating
seating_view Stay = planning.Stay
seating_view (Open session) = planning.Open session
seating_view (Close name) = planning.Close name
seating_view (Set name setting) = planning.Set name (setting_view setting)
seating_view (Thaw space) = planning.Thaw space
