use Rattle.std.proofs.Common.{◌≡◌, ℕ, ◌^◌, ◌<◌, ◌≤◌, max, List, sym, ◌∙◌, ap, subst, arith, true}
use Rattle.wm_page.specs.Batch.{entries}
use Rattle.wm_page.specs.declared.write.PageWrite.{PageWrite}
use Rattle.wm_station.specs.History.{History}
use Rattle.wm_journal.specs.Disk.{are_below}
use Rattle.wm_journal.specs.Store.{IsAtRest, count_after, commit_steps}
use Rattle.wm_journal.specs.Writes.{Step, Did, DidPart}
use Rattle.wm_journal.proofs.Sequences.{nothing_done, on_err}
use Rattle.wm_journal.proofs.Committed.{Asked, Gave, all_below, commit_none, given_done, given_part, given_steps}
use Rattle.wm_journal.proofs.journal.Journal.commit.Goals as goal

pub returns-in_err-journal-clause-any_moment : goal.returns-in_err-journal-clause-any_moment
returns-in_err-journal-clause-any_moment g c = λ t.
    let count : ℕ = c.args.self.now in
    let ws : List PageWrite = c.args.batch.now.pages in
    let old : History = g.P.Station.history c.args.station.now in
    let asked : Asked count ws old = record { some = c.requires.some; pages = c.requires.pages; root = c.requires.root; grown = c.requires.grown; distinct = c.args.batch.now.distinct; enough = subst (λ (k : ℕ). 3 ≤ k) c.self.view_is c.self.invariant; rests = c.requires.rests t } in
    commit_none count ws old asked

pub returns-then-start-clause-any_moment : goal.returns-then-start-clause-any_moment
returns-then-start-clause-any_moment g c = λ t.
    let count : ℕ = c.args.self.now in
    let ws : List PageWrite = c.args.batch.now.pages in
    let old : History = g.P.Station.history c.args.station.now in
    let asked : Asked count ws old = record { some = c.requires.some; pages = c.requires.pages; root = c.requires.root; grown = c.requires.grown; distinct = c.args.batch.now.distinct; enough = subst (λ (k : ℕ). 3 ≤ k) c.self.view_is c.self.invariant; rests = c.requires.rests t } in
    commit_none count ws old asked

pub write_through-requires-clause-below : goal.write_through-requires-clause-below
write_through-requires-clause-below g c =
    let ws : List PageWrite = c.args.batch.now.pages in
    let vs : List PageWrite = c.as_slice-pages.result.now in
    let next : ℕ = c.count_after-count.result in
    let two : next ≡ count_after c.args.self.now (entries ws) = c.count_after-count.ensures ∙ ap (λ (k : ℕ). count_after k (entries vs)) c.self.view_is ∙ ap (λ (v : List PageWrite). count_after c.args.self.now (entries v)) c.as_slice-pages.ensures in
    let three : c.max-start.result ≡ max c.args.self.now (count_after c.args.self.now (entries ws)) = c.max-start.ensures ∙ ap (λ (k : ℕ). max k next) c.self.view_is ∙ ap (max c.args.self.now) two in
    let low = subst (λ (v : List PageWrite). are_below (max c.args.self.now (count_after c.args.self.now (entries ws))) (entries v) ≡ true) (sym c.as_slice-pages.ensures) c.requires.pages in
    all_below c.max-start.result vs (subst (λ (k : ℕ). are_below k (entries vs) ≡ true) (sym three) low)

pub returns-in-Ok-clause-rests : goal.returns-in-Ok-clause-rests
returns-in-Ok-clause-rests g c = λ t.
    let count : ℕ = c.args.self.now in
    let ws : List PageWrite = c.args.batch.now.pages in
    let old : History = g.P.Station.history c.args.station.now in
    let asked : Asked count ws old = record { some = c.requires.some; pages = c.requires.pages; root = c.requires.root; grown = c.requires.grown; distinct = c.args.batch.now.distinct; enough = subst (λ (k : ℕ). 3 ≤ k) c.self.view_is c.self.invariant; rests = c.requires.rests t } in
    let vs : List PageWrite = c.as_slice-pages.result.now in
    let next : ℕ = c.count_after-count.result in
    let start : ℕ = c.max-start.result in
    let two : next ≡ count_after count (entries vs) = c.count_after-count.ensures ∙ ap (λ (k : ℕ). count_after k (entries vs)) c.self.view_is in
    let three : start ≡ max count next = c.max-start.ensures ∙ ap (λ (k : ℕ). max k next) c.self.view_is in
    let fits : start < 2 ^ 64 = omega arith in
    let new : History = g.P.Station.history c.write_through.new.station in
    let gave : Gave count ws old new = given_done count next start ws vs c.deref.result.now old new asked c.as_slice-pages.ensures two three fits c.write_through.ensures.few (c.deref.ensures.value ∙ c.in_ok-journal.ensures) (c.in-Ok.ensures.did t) in
    subst (λ (k : ℕ). IsAtRest new k) (sym (two ∙ ap (λ (v : List PageWrite). count_after count (entries v)) c.as_slice-pages.ensures)) gave.rests

pub returns-in-Ok-clause-pages : goal.returns-in-Ok-clause-pages
returns-in-Ok-clause-pages g c = λ t.
    let count : ℕ = c.args.self.now in
    let ws : List PageWrite = c.args.batch.now.pages in
    let old : History = g.P.Station.history c.args.station.now in
    let asked : Asked count ws old = record { some = c.requires.some; pages = c.requires.pages; root = c.requires.root; grown = c.requires.grown; distinct = c.args.batch.now.distinct; enough = subst (λ (k : ℕ). 3 ≤ k) c.self.view_is c.self.invariant; rests = c.requires.rests t } in
    let vs : List PageWrite = c.as_slice-pages.result.now in
    let next : ℕ = c.count_after-count.result in
    let start : ℕ = c.max-start.result in
    let two : next ≡ count_after count (entries vs) = c.count_after-count.ensures ∙ ap (λ (k : ℕ). count_after k (entries vs)) c.self.view_is in
    let three : start ≡ max count next = c.max-start.ensures ∙ ap (λ (k : ℕ). max k next) c.self.view_is in
    let fits : start < 2 ^ 64 = omega arith in
    let new : History = g.P.Station.history c.write_through.new.station in
    let gave : Gave count ws old new = given_done count next start ws vs c.deref.result.now old new asked c.as_slice-pages.ensures two three fits c.write_through.ensures.few (c.deref.ensures.value ∙ c.in_ok-journal.ensures) (c.in-Ok.ensures.did t) in
    λ p one under. gave.pages p one (subst (λ (k : ℕ). p < k) (two ∙ ap (λ (v : List PageWrite). count_after count (entries v)) c.as_slice-pages.ensures) under)

pub returns-in-Ok-clause-any_moment : goal.returns-in-Ok-clause-any_moment
returns-in-Ok-clause-any_moment g c = λ t.
    let count : ℕ = c.args.self.now in
    let ws : List PageWrite = c.args.batch.now.pages in
    let old : History = g.P.Station.history c.args.station.now in
    let asked : Asked count ws old = record { some = c.requires.some; pages = c.requires.pages; root = c.requires.root; grown = c.requires.grown; distinct = c.args.batch.now.distinct; enough = subst (λ (k : ℕ). 3 ≤ k) c.self.view_is c.self.invariant; rests = c.requires.rests t } in
    let vs : List PageWrite = c.as_slice-pages.result.now in
    let next : ℕ = c.count_after-count.result in
    let start : ℕ = c.max-start.result in
    let two : next ≡ count_after count (entries vs) = c.count_after-count.ensures ∙ ap (λ (k : ℕ). count_after k (entries vs)) c.self.view_is in
    let three : start ≡ max count next = c.max-start.ensures ∙ ap (λ (k : ℕ). max k next) c.self.view_is in
    let fits : start < 2 ^ 64 = omega arith in
    let new : History = g.P.Station.history c.write_through.new.station in
    let gave : Gave count ws old new = given_done count next start ws vs c.deref.result.now old new asked c.as_slice-pages.ensures two three fits c.write_through.ensures.few (c.deref.ensures.value ∙ c.in_ok-journal.ensures) (c.in-Ok.ensures.did t) in
    gave.any_moment

pub returns-clause-any_moment : goal.returns-clause-any_moment
returns-clause-any_moment g c = λ t.
    let count : ℕ = c.args.self.now in
    let ws : List PageWrite = c.args.batch.now.pages in
    let old : History = g.P.Station.history c.args.station.now in
    let asked : Asked count ws old = record { some = c.requires.some; pages = c.requires.pages; root = c.requires.root; grown = c.requires.grown; distinct = c.args.batch.now.distinct; enough = subst (λ (k : ℕ). 3 ≤ k) c.self.view_is c.self.invariant; rests = c.requires.rests t } in
    let vs : List PageWrite = c.as_slice-pages.result.now in
    let next : ℕ = c.count_after-count.result in
    let start : ℕ = c.max-start.result in
    let two : next ≡ count_after count (entries vs) = c.count_after-count.ensures ∙ ap (λ (k : ℕ). count_after k (entries vs)) c.self.view_is in
    let three : start ≡ max count next = c.max-start.ensures ∙ ap (λ (k : ℕ). max k next) c.self.view_is in
    let fits : start < 2 ^ 64 = omega arith in
    let new : History = g.P.Station.history c.write_through.new.station in
    given_part count next start ws vs c.deref.result.now old new asked c.as_slice-pages.ensures two three fits c.write_through.ensures.few (c.deref.ensures.value ∙ c.in_ok-journal.ensures) (c.in-Err.ensures.part t)

pub returns-in_err-journal-clause-part : goal.returns-in_err-journal-clause-part
returns-in_err-journal-clause-part g c = λ t.
    on_err c.from_residual.result (nothing_done (commit_steps c.args.self.now (entries c.args.batch.now.pages)) (g.P.Station.history c.args.station.now))

pub returns-then-start-clause-part : goal.returns-then-start-clause-part
returns-then-start-clause-part g c = λ t.
    nothing_done (commit_steps c.args.self.now (entries c.args.batch.now.pages)) (g.P.Station.history c.args.station.now)

pub returns-in-Ok-clause-did : goal.returns-in-Ok-clause-did
returns-in-Ok-clause-did g c = λ t.
    let count : ℕ = c.args.self.now in
    let vs : List PageWrite = c.as_slice-pages.result.now in
    let two : c.count_after-count.result ≡ count_after count (entries vs) = c.count_after-count.ensures ∙ ap (λ (k : ℕ). count_after k (entries vs)) c.self.view_is in
    let three : c.max-start.result ≡ max count c.count_after-count.result = c.max-start.ensures ∙ ap (λ (k : ℕ). max k c.count_after-count.result) c.self.view_is in
    subst (λ (steps : List Step). Did steps (g.P.Station.history c.args.station.now) (g.P.Station.history c.write_through.new.station))
    (given_steps count c.count_after-count.result c.max-start.result c.args.batch.now.pages vs c.deref.result.now c.as_slice-pages.ensures two three (c.deref.ensures.value ∙ c.in_ok-journal.ensures))
    (c.in-Ok.ensures.did t)

pub returns-clause-part : goal.returns-clause-part
returns-clause-part g c = λ t.
    let count : ℕ = c.args.self.now in
    let vs : List PageWrite = c.as_slice-pages.result.now in
    let two : c.count_after-count.result ≡ count_after count (entries vs) = c.count_after-count.ensures ∙ ap (λ (k : ℕ). count_after k (entries vs)) c.self.view_is in
    let three : c.max-start.result ≡ max count c.count_after-count.result = c.max-start.ensures ∙ ap (λ (k : ℕ). max k c.count_after-count.result) c.self.view_is in
    subst (λ (steps : List Step). DidPart steps (g.P.Station.history c.args.station.now) (g.P.Station.history c.write_through.new.station))
    (given_steps count c.count_after-count.result c.max-start.result c.args.batch.now.pages vs c.deref.result.now c.as_slice-pages.ensures two three (c.deref.ensures.value ∙ c.in_ok-journal.ensures))
    (c.in-Err.ensures.part t)
