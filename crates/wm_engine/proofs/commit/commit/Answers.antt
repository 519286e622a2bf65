use Rattle.std.proofs.Common.{[], refl, sym, subst, ◌∙◌, arith, rules}
use Rattle.std.proofs.lemmas.Result.{err_from_is_err_and}
use Rattle.wm_engine.specs.Working.{KeepsOver}
use Rattle.wm_state.specs.ById.{applied}
use Rattle.wm_engine.proofs.Causes.{line_cause}
use Rattle.wm_engine.proofs.Committing.{commit_ended, commit_works, nothing_ended}
use Rattle.wm_engine.proofs.Committing.{none_counted, some_counted}
use Rattle.wm_engine.proofs.Pages.{only_kept}
use Rattle.wm_engine.proofs.commit.commit.Goals as goal

pub returns-then-is_empty-clause-any_moment : goal.returns-then-is_empty-clause-any_moment
returns-then-is_empty-clause-any_moment g c = λ told rs works.
    nothing_ended c.args.store.now rs c.args.batch.now.changes (g.P.Station.history c.args.station.now) works (sym c.as_slice.ensures ∙ none_counted c.as_slice.result.now c.if-is_empty.ensures)

pub returns-then-is_empty-clause-works : goal.returns-then-is_empty-clause-works
returns-then-is_empty-clause-works g c = λ told rs works.
    subst (λ cs. KeepsOver c.args.store.now (applied cs rs) (g.P.Station.history c.args.station.now)) (sym (none_counted c.as_slice.result.now c.if-is_empty.ensures) ∙ c.as_slice.ensures) works

pub returns-in_err-commit-clause-any_moment : goal.returns-in_err-commit-clause-any_moment
returns-in_err-commit-clause-any_moment g c = λ told rs works.
    commit_ended c.args.store.now rs c.args.batch.now.changes (g.P.Station.history c.args.station.now) (g.P.Station.history c.commit.new.station) works c.requires.once (c.in_err-commit.ensures.any_moment told)

pub returns-clause-works : goal.returns-clause-works
returns-clause-works g c = λ told rs works.
    commit_works c.args.store.now c.commit.new.self rs c.args.batch.now.changes (g.P.Station.history c.args.station.now) (g.P.Station.history c.commit.new.station) works c.requires.once (c.in_ok-commit.ensures.store told)
    (c.in_ok-commit.ensures.held told)

pub returns-clause-any_moment : goal.returns-clause-any_moment
returns-clause-any_moment g c = λ told rs works.
    commit_ended c.args.store.now rs c.args.batch.now.changes (g.P.Station.history c.args.station.now) (g.P.Station.history c.commit.new.station) works c.requires.once (c.in_ok-commit.ensures.any_moment told)

pub returns-in_err-commit-clause-nothing : goal.returns-in_err-commit-clause-nothing
returns-in_err-commit-clause-nothing g c = λ told none. absurd (some_counted c.as_slice.result.now c.if-is_empty.ensures (c.as_slice.ensures ∙ none))

pub returns-clause-nothing : goal.returns-clause-nothing
returns-clause-nothing g c = λ told none. absurd (some_counted c.as_slice.result.now c.if-is_empty.ensures (c.as_slice.ensures ∙ none))

pub returns-clause-same_store : goal.returns-clause-same_store
returns-clause-same_store g c = λ none. absurd (some_counted c.as_slice.result.now c.if-is_empty.ensures (c.as_slice.ensures ∙ none))

pub returns-in_err-commit-clause-faults : goal.returns-in_err-commit-clause-faults
returns-in_err-commit-clause-faults g c =
    let p = err_from_is_err_and c.from_residual.result c.from_residual.ensures.1 in
    record {
      cause = rw (p.1, p.2) (line_cause (g.P.Station.disk_faults c.args.station.now) (g.P.Station.disk_faults c.commit.new.station) c.in_err-commit.field-0.0 c.in_err-commit.ensures.cause);
      say_quiet = search rules;
      unchanged = search rules;
    }

-- ---- how many pages

pub returns-then-is_empty-clause-pages : goal.returns-then-is_empty-clause-pages
returns-then-is_empty-clause-pages g c = λ told rs works ids only. record { rewritten = []; few = omega arith; pages = λ p from till. refl }

pub returns-clause-pages : goal.returns-clause-pages
returns-clause-pages g c = λ told rs works ids only.
    c.in_ok-commit.ensures.pages told works.holds.here.records works.holds.here.held ids (only_kept c.args.store.now rs ids c.args.batch.now.changes (g.P.Station.history c.args.station.now) works only)

pub returns-clause-still : goal.returns-clause-still
returns-clause-still g c = λ told rs works only.
    c.in_ok-commit.ensures.nothing told works.holds.here.records works.holds.here.held (only_kept c.args.store.now rs [] c.args.batch.now.changes (g.P.Station.history c.args.station.now) works only)

pub returns-in_err-commit-clause-still : goal.returns-in_err-commit-clause-still
returns-in_err-commit-clause-still g c = λ told rs works only.
    c.in_err-commit.ensures.nothing told works.holds.here.records works.holds.here.held (only_kept c.args.store.now rs [] c.args.batch.now.changes (g.P.Station.history c.args.station.now) works only)
