use Rattle.std.proofs.Common.{◌≡◌, ◌++◌, true, drop, map, option_map}
use Rattle.wm_syntax.specs.Trees.{Outs, Out}
use Rattle.wm_syntax.specs.Views.{outs_view}
use Rattle.wm_select.specs.Query.{all_there, item_value, projection_lasts}
use Rattle.wm_select.proofs.items.item_values.Given as goal

-- the values so far, and those of the items that are left
abbrev pub invariant-loop-out : goal.invariant-loop-out
invariant-loop-out l = record {
  values :
      option_map (λ vs. l.values.items ++ vs) (all_there (map (λ (o : Out). item_value o.item l.columns l.group) (outs_view (drop l.out-index l.outs))))
      ≡ all_there (map (λ (o : Out). item_value o.item l.columns l.group) (outs_view l.outs));
  last : projection_lasts (Outs (outs_view (drop l.out-index l.outs))) ≡ true;
}
