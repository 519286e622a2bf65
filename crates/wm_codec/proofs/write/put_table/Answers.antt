use Rattle.wm_codec.proofs.Appending.{behind}
use Rattle.wm_codec.proofs.write.put_table.Goals as goal

pub returns : goal.returns
returns c =
    let all = behind c.in_ok-put_u16.ensures (behind c.in_ok-put_text.ensures (behind c.in_ok-put_flag.ensures (behind c.in_ok-put_flag-2.ensures (behind c.in_ok-put_flag-3.ensures (behind c.in_ok-put_key_columns.ensures c.in_ok-put_columns.ensures))))) in
    record { is = all.is; fits = all.fits }
