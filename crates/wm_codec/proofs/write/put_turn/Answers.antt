use Rattle.wm_codec.proofs.Appending.{behind}
use Rattle.wm_codec.proofs.write.put_turn.Goals as goal

pub returns : goal.returns
returns c =
    let all = behind c.in_ok-put_u32.ensures (behind c.in_ok-put_u32-2.ensures (behind c.in_ok-put_u64.ensures c.in_ok-put_u32-3.ensures)) in
    record { is = all.is; fits = all.fits }
