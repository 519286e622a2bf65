use Rattle.std.proofs.Common.{sym, ap, ◌∙◌}
use Rattle.std.proofs.lemmas.Bool.{or_parts}
use Rattle.wm_records.proofs.Listed.{applied-push}
use Rattle.wm_index.specs.Indexed.{listed}
use Rattle.wm_state.specs.ById.{set_at}
use Rattle.wm_records.proofs.records.change_all.Goals as goal

pub loop-one-preserved : goal.loop-one-preserved
loop-one-preserved c = record {
  indexed = c.in_ok-changed.ensures.indexed;
  are = c.in_ok-changed.ensures.listed
      ∙ ap (set_at c.in-Some.one.id c.in-Some.one.becomes) c.loop-one.invariant.are
      ∙ sym (applied-push c.loop-one.yielded c.in-Some.one (listed c.args.kept.now.entries));
  hops = c.in_ok-changed.ensures.hops;
  tables = λ neither.
      let h = or_parts c.in_ok-changed.changed c.loop-one.touched (sym c.is_either-touched.ensures ∙ neither) in
      c.in_ok-changed.ensures.tables h.0 ∙ c.loop-one.invariant.tables h.1;
}
