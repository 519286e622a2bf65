use Rattle.std.proofs.Common.{◌≡◌, ℕ, ◌+◌, ◌-◌, ◌*◌, ◌≤◌, ◌⊎◌, inl, inr, true, false, List, [], ◌∷◌, ◌++◌, sym, ◌∙◌, ap, subst, arith}
use Rattle.wm_page.proofs.Batches.{entries-append}
use Rattle.wm_page.specs.Batch.{entries}
use Rattle.wm_page.specs.Entries.{is_named}
use Rattle.wm_page.specs.Fields.{number_at}
use Rattle.wm_page.specs.declared.write.PageWrite.{PageWrite}
use Rattle.wm_station.specs.History.{History, now, stretch}
use Rattle.wm_journal.specs.Disk.{images_at, journal_at, may_name}
use Rattle.wm_journal.proofs.Reading.{Read, read_next, read_more, read_all, may_name_more, may_not_name, all_small}
use Rattle.wm_journal.proofs.replay.read_pages.Goals as goal
use Rattle.wm_journal.proofs.replay.read_pages.Goals.{then-page-eq0-via-then-page-eq0, then-page-eq0-via-else-page-eq0+then-page-header, then-page-eq0-via-else-page-eq0+else-page-header+then-is_named}

pub returns-then-page-eq0-clause-pages : goal.returns-then-page-eq0-clause-pages
returns-then-page-eq0-clause-pages g c = λ t.
    let file : List ℕ = now (g.P.Station.history c.args.station.now) in
    let s : ℕ = c.args.header.now.start in
    let n : ℕ = c.args.header.now.images in
    let i : ℕ = c.loop-i.i in
    let numbers : ℕ = s * 4096 in
    let images : ℕ = s * 4096 + c.div_ceil.result * 4096 in
    let es : List (ℕ × List ℕ) = entries c.loop-i.pages.items in
    let p : ℕ = number_at file (numbers + i * 8) in
    let image : List ℕ = stretch file (images + i * 4096) 4096 in
    let rest : List (ℕ × List ℕ) = images_at file (n - (i + 1)) (numbers + (i + 1) * 8) (images + (i + 1) * 4096) in
    let next : es ++ (p, image) ∷ rest ≡ journal_at file s n = read_next file s n i numbers images es c.loop-i-test.true (c.loop-i.invariant.read t) in
    let number : c.in_ok-page.page ≡ p = c.in_ok-page.ensures.number t ∙ ap (λ (h : History). number_at (now h) (numbers + i * 8)) (c.loop-i.invariant.told t) in
    let out : ((p ≡ 0) ⊎ (s ≤ p)) ⊎ (is_named p es ≡ true) = elim c.then-page-eq0.branch [
      | then-page-eq0-via-then-page-eq0 w ↦ inl (inl (sym number ∙ w.if-page-eq0.true))
      | then-page-eq0-via-else-page-eq0+then-page-header w ↦ inl (inr (subst (λ (k : ℕ). s ≤ k) number w.if-page-header.true))
      | then-page-eq0-via-else-page-eq0+else-page-header+then-is_named w ↦ inr (ap (λ (k : ℕ). is_named k es) (sym number) ∙ ap (λ (l : List PageWrite). is_named c.in_ok-page.page (entries l)) (sym w.deref.ensures.value) ∙ sym w.is_named.ensures ∙ w.if-is_named.true)
    ] in
    subst (λ (l : List (ℕ × List ℕ)). may_name s l ≡ false) next (may_not_name s es rest (p, image) out)

pub loop-i-preserved : goal.loop-i-preserved
loop-i-preserved g c =
    let s : ℕ = c.args.header.now.start in
    let i : ℕ = c.loop-i.i in
    let numbers : ℕ = s * 4096 in
    let images : ℕ = s * 4096 + c.div_ceil.result * 4096 in
    let old : List PageWrite = c.loop-i.pages.items in
    let page : ℕ = c.in_ok-page.page in
    let bytes : List ℕ = c.in_ok-bytes.bytes in
    let joined : entries c.push.new.self.items ≡ entries old ++ (page, bytes) ∷ [] = ap entries c.in_ok-push.ensures.items ∙ entries-append old _ in
    let not_named : is_named page (entries old) ≡ false = ap (λ (l : List PageWrite). is_named page (entries l)) (sym c.deref.ensures.value) ∙ sym c.is_named.ensures ∙ c.if-is_named.false in
    record {
      read = λ t.
          let file : List ℕ = now (g.P.Station.history c.args.station.now) in
          let before : g.P.Station.history c.read_page_number.new.station ≡ g.P.Station.history c.args.station.now = c.in_ok-page.ensures.told t ∙ c.loop-i.invariant.told t in
          let number : page ≡ number_at file (numbers + i * 8) = c.in_ok-page.ensures.number t ∙ ap (λ (h : History). number_at (now h) (numbers + i * 8)) (c.loop-i.invariant.told t) in
          let image : bytes ≡ stretch file (images + i * 4096) 4096 = c.in_ok-bytes.ensures.bytes t ∙ ap (λ (h : History). stretch (now h) (images + i * 4096) 4096) before in
          subst (Read file s c.args.header.now.images (i + 1) numbers images) (sym joined) (read_more file s c.args.header.now.images i numbers images page bytes (entries old) c.loop-i-test.true (c.loop-i.invariant.read t) number image);
      names = subst (λ (l : List (ℕ × List ℕ)). may_name s l ≡ true) (sym joined) (may_name_more s (entries old) (page, bytes) c.loop-i.invariant.names (omega arith) (omega arith) not_named);
      told = λ t. c.in_ok-bytes.ensures.told t ∙ c.in_ok-page.ensures.told t ∙ c.loop-i.invariant.told t;
      disk_quiet = c.in_ok-bytes.ensures.cause.done ∙ c.in_ok-page.ensures.cause.done ∙ c.loop-i.invariant.disk_quiet;
      say_quiet = c.read_page.ensures.say_quiet ∙ c.read_page_number.ensures.say_quiet ∙ c.loop-i.invariant.say_quiet;
    }

pub returns-clause-pages : goal.returns-clause-pages
returns-clause-pages g c = λ t.
    let file : List ℕ = now (g.P.Station.history c.args.station.now) in
    (read_all file c.args.header.now.start c.args.header.now.images c.loop-i.i (c.args.header.now.start * 4096) (c.args.header.now.start * 4096 + c.div_ceil.result * 4096) (entries c.loop-i.pages.items) c.loop-i-test.false (c.loop-i.invariant.read t), c.loop-i.invariant.names)

pub returns-clause-below : goal.returns-clause-below
returns-clause-below g c = all_small c.args.header.now.start c.loop-i.pages.items (omega arith) c.loop-i.invariant.names
