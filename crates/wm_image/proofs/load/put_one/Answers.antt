use Rattle.std.proofs.Common.{◌≡◌, List, Some, sym, ap, subst}
use Rattle.std.specs.Option.{option_and_then}
use Rattle.wm_graph.specs.Parts.{as_version, parts_of}
use Rattle.wm_index.specs.Indexed.{listed}
use Rattle.wm_records.proofs.Listed.{Ascend-listed, listed-set}
use Rattle.wm_records.specs.Hops.{AreHops}
use Rattle.wm_spec.specs.declared.record.stored.Stored.{Stored}
use Rattle.wm_state.specs.ById.{set_at}
use Rattle.wm_image.proofs.load.put_one.Goals as goal

is_set : (c : goal.After-drop-2) → listed c.insert.new.self.entries ≡ set_at c.args.one.id (Some c.args.one.record) (listed c.args.kept.now.entries)
is_set c = listed-set c.args.kept.now.entries c.insert.new.self.entries c.args.one.id (Some c.args.one.record) c.requires c.in_ok-before.ensures.ordered c.in_ok-before.ensures.sets

pub returns-clause-listed : goal.returns-clause-listed
returns-clause-listed c = is_set c

pub returns-clause-hops : goal.returns-clause-hops
returns-clause-hops c = λ none hops.
    subst (λ (ss : List Stored). AreHops (parts_of ss).versions c.follow.new.self) (sym (is_set c))
    (c.in_ok-follow.ensures (listed c.args.kept.now.entries) c.args.one.id (Some c.args.one.record) (Ascend-listed c.args.kept.now.entries c.requires) (ap (option_and_then as_version) (sym none)) c.version_of.ensures hops)
