use Rattle.std.proofs.Common.{◌≡◌, ℕ, List, true, false, length, slice_index, sym, ◌∙◌, ap, subst, arith}
use Rattle.std.proofs.lemmas.Bool.{eq-eqb, ne_eqb}
use Rattle.std.specs.Prelude.{◌==◌}
use Rattle.wm_faults.specs.declared.fault.OpenFault.{OpenFault}
use Rattle.wm_station.specs.History.{History, now, stretch}
use Rattle.wm_journal.specs.Disk.{is_made, has_format}
use Rattle.wm_journal.specs.Opening.{Says}
use Rattle.wm_journal.proofs.Verdicts.{short_page, bad_format, byte_read, number_read}
use Rattle.wm_journal.proofs.header.read_header.Goals as goal

pub returns-then-size-lt4096-clause-fault : goal.returns-then-size-lt4096-clause-fault
returns-then-size-lt4096-clause-fault g c = λ t.
    let file : List ℕ = now (g.P.Station.history c.args.station.now) in
    let size : c.args.size ≡ length file = c.requires t in
    let made : is_made file ≡ true = sym (c.in-Ok-true.ensures.made t) ∙ c.in-Ok-true.field-0-test in
    subst (λ (e : OpenFault). Says e file) (sym c.damaged.ensures) (made, short_page file (omega arith))

pub returns-then-bytes-ne-FORMAT-clause-fault : goal.returns-then-bytes-ne-FORMAT-clause-fault
returns-then-bytes-ne-FORMAT-clause-fault g c = λ t.
    let file : List ℕ = now (g.P.Station.history c.args.station.now) in
    let size : c.args.size ≡ length file = c.requires t in
    let made : is_made file ≡ true = sym (c.in-Ok-true.ensures.made t) ∙ c.in-Ok-true.field-0-test in
    let bytes : c.read.new.into ≡ stretch file 0 32 = c.in_default.ensures.bytes t ∙ ap (λ (h : History). stretch (now h) 0 32) (c.is_made.ensures.told t) in
    let format : has_format file ≡ false = ap (λ (b : ℕ). b == 1) (sym (byte_read file c.read.new.into 32 1 (omega arith) bytes)) ∙ ne_eqb (slice_index c.read.new.into 1) 1 c.if-bytes-ne-FORMAT.true in
    subst (λ (e : OpenFault). Says e file) (sym c.damaged-then-bytes-ne-FORMAT.ensures) (made, bad_format file (omega arith) format)

pub returns-clause-header : goal.returns-clause-header
returns-clause-header g c = λ t.
    let file : List ℕ = now (g.P.Station.history c.args.station.now) in
    let size : c.args.size ≡ length file = c.requires t in
    let bytes : c.read.new.into ≡ stretch file 0 32 = c.in_default.ensures.bytes t ∙ ap (λ (h : History). stretch (now h) 0 32) (c.is_made.ensures.told t) in
    record {
      made = sym (c.in-Ok-true.ensures.made t) ∙ c.in-Ok-true.field-0-test;
      format = ap (λ (b : ℕ). b == 1) (sym (byte_read file c.read.new.into 32 1 (omega arith) bytes)) ∙ eq-eqb (slice_index c.read.new.into 1) 1 c.if-bytes-ne-FORMAT.false;
      size = omega arith;
      open_ = ap (λ (b : ℕ). b == 71) (byte_read file c.read.new.into 32 8 (omega arith) bytes);
      start = c.read_number.ensures ∙ number_read file c.read.new.into 32 16 (omega arith) bytes;
      images = c.read_number-2.ensures ∙ number_read file c.read.new.into 32 24 (omega arith) bytes;
    }
