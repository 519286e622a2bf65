-- How locks compare, and those that references refer to.
use Rattle.std.specs.Prelude.{List, map}
use Rattle.std.specs.Ordering.{nat_cmp, ordering_then}
use Rattle.std.specs.declared.cmp.Ordering.{Ordering}
use denote.Ref.{Bor}
use Rattle.wm_spec.specs.declared.record.lock.Lock.{Lock}

-- on one key: by from, then by workspace, then by making
abbrev pub key_places : Lock → Lock → Ordering
key_places x y = ordering_then (nat_cmp x.cells.from y.cells.from) (ordering_then (nat_cmp x.space y.space) (nat_cmp x.making y.making))

-- the locks that references refer to
abbrev pub nows : List (Bor Lock) → List Lock
nows locks = map (λ (b : Bor Lock). b.now) locks
