use Rattle.std.proofs.Common.{refl, sym, ◌∙◌}
use Rattle.std.specs.BTreeSet.{contains}
use Rattle.wm_graph.specs.Parts.{parts_of}
use Rattle.wm_index.specs.Sought.{PiecesIn, ids_with, is_sought}
use Rattle.wm_telling.specs.Telling.{own_held}
use Rattle.wm_pending.proofs.Above.{own_ends, own_goes_on}
use Rattle.wm_pending.proofs.OwnPath.{keys_more}
use Rattle.wm_pending.specs.Keys.{place_order}
use Rattle.wm_pending.proofs.keys.own_keys.Goals as goal

pub loop-version-smaller : goal.loop-version-smaller
loop-version-smaller c = (own_goes_on (parts_of c.args.image.now) c.args.space.now.base_version c.loop-version.number c.in-Some.version c.requires c.in-Some.ensures).1

pub loop-version-preserved : goal.loop-version-preserved
loop-version-preserved c = λ k out.
    keys_more c.args.image.now c.args.space.now c.loop-version.number c.in-Some.version (ids_with (is_sought (PiecesIn c.loop-version.number)) c.args.image.now) k (contains place_order c.loop-version.keys (k.table, k.key))
    (contains place_order c.add_keys.new.keys (k.table, k.key)) (own_held (parts_of c.args.image.now) c.args.space.now k) c.requires c.law_of_order.ensures c.in-Some.ensures refl
    (c.in_ok-add_keys.ensures (k.table, k.key)) (c.loop-version.invariant k) out

pub returns : goal.returns
returns c = λ k out.
    c.loop-version.invariant k out
    ∙ own_ends (parts_of c.args.image.now) c.args.space.now.base_version c.loop-version.number k c.requires (sym c.in_default.is ∙ c.version_above.ensures)
