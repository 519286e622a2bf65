use Rattle.wm_codec.proofs.Appending.{behind}
use Rattle.wm_codec.proofs.put.put_cell_range.Goals as goal

pub returns : goal.returns
returns c =
    let all = behind c.in_ok-put_u16.ensures (behind c.in_ok-put_key.ensures (behind c.in_ok-put_u64.ensures c.in_ok-put_u64-2.ensures)) in
    record { is = all.is; fits = all.fits }
