-- What of records alone locks are asked: the outline of a store to which nobody is connected.
use Rattle.std.specs.Prelude.{ℕ, ◌&&◌, nat_le, nat_lt, Bool, []}
use Rattle.wm_base.specs.declared.instant.TheConstants.{END}
use Rattle.wm_graph.specs.Parts.{Parts}
use Rattle.wm_outline.specs.Outline.{Outline, outline_of}
use Rattle.wm_spec.specs.declared.record.lock.Lock.{Lock}

-- neither what a lock bars nor what is locked depends on sessions or on the moment
abbrev pub outline_alone : Parts → Outline
outline_alone p = outline_of p [] 0

-- a lock is over a period, as those of records are that keep the rules
abbrev pub is_timed : Lock → Bool
is_timed x = nat_lt x.cells.from x.cells.till && nat_le x.cells.till END
