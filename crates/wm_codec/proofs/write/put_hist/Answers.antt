use Rattle.wm_codec.proofs.Appending.{behind}
use Rattle.wm_codec.proofs.write.put_hist.Goals as goal

pub returns : goal.returns
returns c =
    let all = behind c.in_ok-put_u32.ensures (behind c.in_ok-put_u64.ensures (behind c.in_ok-put_cell_range.ensures (behind c.in_ok-put_u64-2.ensures (behind c.in_ok-put_kind.ensures (behind c.in_ok-put_flag.ensures (behind c.in_ok-put_u64-3.ensures c.in_ok-put_text.ensures)))))) in
    record { is = all.is; fits = all.fits }
