use Rattle.wm_replay.proofs.Copied.{key_behind}
use Rattle.wm_replay.proofs.rebases.push_keys.Goals as goal

pub loop-key-preserved : goal.loop-key-preserved
loop-key-preserved c =
    key_behind c.args.version c.args.own.now c.loop-key.key-index c.key-item.result c.args.news.now.items c.loop-key.news.items c.push_key.new.news.items c.loop-key-test.true c.key-item.is c.loop-key.invariant c.in_ok-push_key.ensures
