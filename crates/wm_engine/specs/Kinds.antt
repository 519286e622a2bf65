-- What kind of answer a line had.
use Rattle.wm_print.specs.Texts as texts
use Rattle.wm_engine.specs.declared.reply.Kind.{Kind}
use Rattle.wm_engine.specs.declared.reply.Kind.TheVariants.{Nothing, Fine, Done, Listing, Refused}

abbrev pub kind_of : texts.Answer → Kind
kind_of texts.Nothing = Nothing
kind_of texts.Fine = Fine
kind_of (texts.Done count) = Done
kind_of (texts.Listing rows) = Listing
kind_of (texts.Refused refusal) = Refused
