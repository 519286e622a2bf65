use Rattle.wm_codec.proofs.Appending.{behind}
use Rattle.wm_codec.proofs.write.put_savepoint.Goals as goal

pub returns : goal.returns
returns c =
    let all = behind c.in_ok-put_u32.ensures (behind c.in_ok-put_text.ensures (behind c.in_ok-put_flag.ensures (behind c.in_ok-put_u32-2.ensures (behind c.in_ok-put_u64.ensures (behind c.in_ok-put_u64-2.ensures (behind c.in_ok-put_u64-3.ensures (behind c.in_ok-put_u64-4.ensures (behind c.in_ok-put_u64-5.ensures (behind c.in_ok-put_u64-6.ensures c.in_ok-put_u32-3.ensures))))))))) in
    record { is = all.is; fits = all.fits }
