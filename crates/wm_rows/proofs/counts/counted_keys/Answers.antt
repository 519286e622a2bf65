use Rattle.std.proofs.Common.{ℕ, List, sym, ap, ◌∙◌}
use Rattle.std.specs.Map.{keys_of}
use Rattle.std.specs.Option.{option_copied}
use Rattle.wm_base.specs.Key.{key_order}
use Rattle.wm_base.specs.declared.value.Value.{Value}
use Rattle.wm_rows.proofs.Counting.{sorted_none}
use Rattle.wm_rows.proofs.Maps.{map_at-some, map_at-none}
use Rattle.wm_rows.proofs.counts.counted_keys.Goals as goal

pub returns-in-Some-clause-keys : goal.returns-in-Some-clause-keys
returns-in-Some-clause-keys c =
    rw (map_at-some c.args.counts.now.entries c.args.table c.in-Some.keys.now (sym c.get.ensures.value ∙ ap option_copied c.in-Some.is)) c.copies_of.ensures.keys

pub returns-in-None-clause-keys : goal.returns-in-None-clause-keys
returns-in-None-clause-keys c =
    c.new.ensures.items
    ∙ ap (λ (es : List (List Value × ℕ)). keys_of es) (sym (map_at-none c.args.counts.now.entries c.args.table (sym c.get.ensures.value ∙ ap option_copied c.in-None.is)))

pub returns-in-None-clause-ascending : goal.returns-in-None-clause-ascending
returns-in-None-clause-ascending c = rw c.new.ensures.items (sorted_none key_order)
