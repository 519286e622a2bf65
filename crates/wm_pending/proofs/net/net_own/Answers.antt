use Rattle.std.proofs.Common.{map}
use Rattle.wm_graph.specs.Parts.{parts_of}
use Rattle.wm_pending.proofs.Blocks.{lists_copied}
use Rattle.wm_pending.proofs.Netted.{listed_all, listed_more}
use Rattle.wm_pending.specs.Owned.{key_pieces}
use Rattle.wm_state.specs.Editing.{entry_of}
use Rattle.wm_telling.specs.Telling.{own_held}
use Rattle.wm_pending.proofs.net.net_own.Goals as goal

pub loop-key-preserved : goal.loop-key-preserved
loop-key-preserved c =
    listed_more (parts_of c.args.image.now) c.args.moment c.args.user.now (own_held (parts_of c.args.image.now) c.args.space.now) c.args.own.now c.loop-key.key-index c.key-item.result
    (map entry_of c.loop-key.entries.items) (map entry_of c.push_entries.new.entries.items) c.loop-key-test.true c.key-item.is c.requires.own.copied.each c.loop-key.invariant c.in_ok-push_entries.ensures

pub returns : goal.returns
returns c =
    lists_copied (parts_of c.args.image.now) c.args.moment c.args.user.now (own_held (parts_of c.args.image.now) c.args.space.now) (map key_pieces c.args.own.now) (map entry_of c.loop-key.entries.items)
    (listed_all (parts_of c.args.image.now) c.args.moment c.args.user.now (own_held (parts_of c.args.image.now) c.args.space.now) c.args.own.now c.loop-key.key-index
    (map entry_of c.loop-key.entries.items) c.loop-key-test.false c.loop-key.invariant)
    c.requires.own.ascend c.requires.own.copied
