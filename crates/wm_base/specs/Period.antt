-- Periods of time, from `from` to `till`, without `till`: the six questions about two of them, and the part that they share.
use Rattle.std.specs.Prelude.{ℕ, Bool, ◌&&◌, nat_lt, nat_le, ◌==◌, min, max}
use Rattle.std.specs.declared.cmp.Ordering.{Ordering}
use Rattle.std.specs.Ordering.{nat_cmp, ordering_then}
use Rattle.wm_base.specs.declared.instant.TheConstants.{END}

-- the two ends of a period
pub record Span : Type 0 where
  pub from : ℕ
  pub till : ℕ

-- the moment lies in the period: the period has its beginning and not its end
abbrev pub covers : Span → ℕ → Bool
covers p t = nat_le p.from t && nat_lt t p.till

-- some moment lies in both
abbrev pub overlaps : Span → Span → Bool
overlaps p q = nat_lt p.from q.till && nat_lt q.from p.till

-- the first has all of the second
abbrev pub contains : Span → Span → Bool
contains p q = nat_le p.from q.from && nat_le q.till p.till

-- the second begins where the first ends
abbrev pub meets : Span → Span → Bool
meets p q = p.till == q.from

-- both ends are equal
abbrev pub equals : Span → Span → Bool
equals p q = (p.from == q.from) && (p.till == q.till)

-- the first ends before the second begins, and does not meet it
abbrev pub before : Span → Span → Bool
before p q = nat_lt p.till q.from

-- the first begins after the second ends, and is not met by it
abbrev pub after : Span → Span → Bool
after p q = nat_lt q.till p.from

-- what two periods that overlap share
abbrev pub shared : Span → Span → Span
shared p q = record { from = max p.from q.from; till = min p.till q.till }

-- all of time
abbrev pub always : Span
always = record { from = 0; till = END }

-- the order of periods: by their beginnings, and then by their ends
abbrev pub span_order : Span → Span → Ordering
span_order p q = ordering_then (nat_cmp p.from q.from) (nat_cmp p.till q.till)
