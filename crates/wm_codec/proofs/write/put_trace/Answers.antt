use Rattle.wm_codec.proofs.Appending.{behind}
use Rattle.wm_codec.proofs.write.put_trace.Goals as goal

pub returns : goal.returns
returns c =
    let all = behind c.in_ok-put_u32.ensures (behind c.in_ok-put_u32-2.ensures (behind c.in_ok-put_cell_range.ensures c.in_ok-put_u64.ensures)) in
    record { is = all.is; fits = all.fits }
