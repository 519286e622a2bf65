use Rattle.wm_codec.proofs.Appending.{behind}
use Rattle.wm_codec.proofs.write.put_row.Goals as goal

pub returns : goal.returns
returns c =
    let all = behind c.in_ok-put_u64.ensures (behind c.in_ok-put_u16.ensures c.in_ok-put_values.ensures) in
    record { is = all.is; fits = all.fits }
