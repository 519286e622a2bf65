use Rattle.wm_codec.proofs.Appending.{behind}
use Rattle.wm_codec.proofs.write.put_column.Goals as goal

pub returns : goal.returns
returns c =
    let all = behind c.in_ok-put_text.ensures (behind c.in_ok-put_column_kind.ensures (behind c.in_ok-put_u16.ensures c.in_ok-put_flag.ensures)) in
    record { is = all.is; fits = all.fits }
