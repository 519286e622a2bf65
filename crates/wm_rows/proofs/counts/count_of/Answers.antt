use Rattle.std.proofs.Common.{ℕ, List, Option, sym, ap, ◌∙◌}
use Rattle.std.specs.BTreeMap.{is_at}
use Rattle.std.specs.Map.{lookup}
use Rattle.std.specs.Option.{option_copied, unwrap_or}
use Rattle.wm_base.specs.Key.{key_order}
use Rattle.wm_base.specs.declared.value.Value.{Value}
use Rattle.wm_rows.proofs.Maps.{map_at-some, map_at-none}
use Rattle.wm_rows.proofs.counts.count_of.Goals as goal

pub returns-in-Some : goal.returns-in-Some
returns-in-Some c =
    c.unwrap_or.ensures
    ∙ ap (λ (o : Option ℕ). unwrap_or o 0) (c.copied.ensures ∙ c.get-in-Some.ensures.value)
    ∙ ap (λ (es : List (List Value × ℕ)). unwrap_or (lookup (is_at (key_order c.args.key.now)) es) 0)
    (sym (map_at-some c.args.counts.now.entries c.args.table c.in-Some.keys.now (sym c.get.ensures.value ∙ ap option_copied c.in-Some.is)))

pub returns-in-None : goal.returns-in-None
returns-in-None c =
    ap (λ (es : List (List Value × ℕ)). unwrap_or (lookup (is_at (key_order c.args.key.now)) es) 0)
    (sym (map_at-none c.args.counts.now.entries c.args.table (sym c.get.ensures.value ∙ ap option_copied c.in-None.is)))
