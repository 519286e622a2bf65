-- What a value is that is looked at where it lies.
use Rattle.wm_base.specs.Period.{Span}
use Rattle.wm_base.specs.declared.value.Value.{Value}
use Rattle.wm_base.specs.declared.value.Value.TheVariants as values
use Rattle.wm_expr.specs.declared.operands.Ends.{Ends as TwoEnds}
use Rattle.wm_expr.specs.declared.seen.Seen.{Seen}
use Rattle.wm_expr.specs.declared.seen.Seen.TheVariants.{Nothing, Number, Bytes, Moment, Ends}

abbrev pub seen_value : Seen → Value
seen_value Nothing = values.Null
seen_value (Number n) = values.Num n
seen_value (Bytes bytes) = values.Text bytes.now
seen_value (Moment seconds) = values.Time seconds
seen_value (Ends from till) = values.Span (record { from = from; till = till })

-- the period with these ends
abbrev pub ends_span : TwoEnds → Span
ends_span ends = record { from = ends.from; till = ends.till }
