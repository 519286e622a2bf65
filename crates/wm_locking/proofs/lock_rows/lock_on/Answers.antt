use Rattle.std.proofs.Common.{◌≡◌, true, List, map, sym, ap, subst, ◌∙◌}
use Rattle.std.proofs.lemmas.Bool.{true≢false}
use Rattle.std.specs.List.{list_all}
use Rattle.wm_chosen.proofs.ChosenRows.{chosen_keyed, chosen_overlap, where_typed}
use Rattle.wm_chosen.specs.Chosen.{are_keyed}
use Rattle.wm_dml.specs.Changing.{all_overlap, own_columns}
use Rattle.wm_graph.specs.Parts.{parts_of}
use Rattle.wm_ground.proofs.Bridge.{if_ok, idles_value}
use Rattle.wm_ground.specs.Grounds.{outline_on}
use Rattle.wm_ground.specs.Outcomes.{outcome_view}
use Rattle.wm_model.specs.Step.{Outcome, cells_in, outcome}
use Rattle.wm_plan.proofs.Planning.{early}
use Rattle.wm_state.specs.Drafts.{CanDraft, can_keep, cells_locked}
use Rattle.wm_state.specs.declared.edit.NewLock.{NewLock}
use Rattle.wm_syntax.specs.Views.{filter_view}
use Rattle.wm_locking.proofs.KeyColumns.{typed_wider}
use Rattle.wm_locking.proofs.LockingRows.{can_lock, locks_kept, meant_kept, meant_locked, none_locked, plain_within, rows_fit}
use Rattle.wm_locking.specs.Asked.{asking_view}
use Rattle.wm_locking.specs.Rows.{is_lasting_lock, locking_cells}
use Rattle.wm_locking.proofs.lock_rows.lock_on.Goals as goal

pub chosen_rows-requires-clause-typed : goal.chosen_rows-requires-clause-typed
chosen_rows-requires-clause-typed c =
    let t = c.args.site.table.now in
    where_typed (filter_view c.args.asking.condition.now) (own_columns t) (typed_wider t c.requires.site.well (filter_view c.args.asking.condition.now) c.requires.site.typed)

pub cells_of_rows-requires : goal.cells_of_rows-requires
cells_of_rows-requires c =
    let t = c.args.site.table.now in
    record {
      overlap =
          ap (all_overlap t c.within-within.result) c.as_slice.ensures.value
          ∙ chosen_overlap c.args.ground.image.now c.latest-version.result t c.within-within.result (filter_view c.args.asking.condition.now) c.in_ok-rows.rows.items c.args.ground.rules c.requires.site.there
          (λ plain. c.within-within.ensures ∙ plain_within c.args.ground.moment c.args.locking.session.now t plain) c.in_ok-rows.ensures;
    }

-- a text in a key is empty
pub returns-then-not-are_kept_cells-clause-does : goal.returns-then-not-are_kept_cells-clause-does
returns-then-not-are_kept_cells-clause-does c = λ rows meant.
    let kept = meant_kept c.args.ground.image.now c.args.ground.sessions.now c.args.ground.moment c.args.locking.session.now (asking_view c.args.asking) c.args.site.table.now c.args.site.space.now c.latest-version.result c.within-within.result c.in_ok-rows.rows.items
    c.in_ok-cells.cells.items c.latest-version.ensures c.within-within.ensures c.in_ok-rows.ensures (c.in_ok-cells.ensures.exact ∙ ap (map _) c.as_slice.ensures.value) rows meant in
    absurd (true≢false (sym kept ∙ ap (list_all (λ (x : NewLock). list_all can_keep x.key)) (sym c.as_slice-2.ensures.value) ∙ sym c.if-not-are_kept_cells.ensures))

-- none is
pub returns-clause-does : goal.returns-clause-does
returns-clause-does c =
    if_ok c.lock_cells.result _ _
    (λ p says rows meant.
    meant_locked c.args.ground.image.now c.args.ground.sessions.now c.args.ground.moment c.args.locking.session.now (asking_view c.args.asking) c.args.site.table.now c.args.site.space.now c.latest-version.result c.within-within.result c.in_ok-rows.rows.items
    c.in_ok-cells.cells.items c.latest-version.ensures c.within-within.ensures c.in_ok-rows.ensures (c.in_ok-cells.ensures.exact ∙ ap (map _) c.as_slice.ensures.value) rows meant c.args.locking.mode c.args.locking.space (outcome_view p) c.requires.site.same
    (says ∙ ap (λ (xs : List NewLock). outcome (locking_cells c.args.locking.session.now c.args.locking.mode (outline_on c.args.ground) (map cells_locked xs) c.args.locking.space)) c.as_slice-3.ensures.value))
    c.lock_cells.ensures.does

pub returns-clause-idle : goal.returns-clause-idle
returns-clause-idle c =
    let cells = map cells_locked c.as_slice-3.result.now in
    idles_value c.lock_cells.result (locking_cells c.args.locking.session.now c.args.locking.mode (outline_on c.args.ground) cells c.args.locking.space) c.lock_cells.ensures.does
    (none_locked c.args.locking.session.now c.args.locking.mode (outline_on c.args.ground) cells c.args.locking.space)

pub returns-clause-can : goal.returns-clause-can
returns-clause-can c =
    let rs = c.args.ground.image.now in
    let t = c.args.site.table.now in
    let cells : List NewLock = c.as_slice-3.result.now in
    let exact : map cells_locked cells ≡ map (cells_in t c.within-within.result) c.in_ok-rows.rows.items =
    ap (map cells_locked) c.as_slice-3.ensures.value ∙ c.in_ok-cells.ensures.exact ∙ ap (map (cells_in t c.within-within.result)) c.as_slice.ensures.value in
    let lasting : list_all is_lasting_lock cells ≡ true = ap (list_all is_lasting_lock) c.as_slice-3.ensures.value ∙ c.in_ok-cells.ensures.lasting in
    let keyed : are_keyed t c.in_ok-rows.rows.items ≡ true =
    chosen_keyed rs c.latest-version.result t c.within-within.result (filter_view c.args.asking.condition.now) c.in_ok-rows.rows.items c.args.ground.rules c.requires.site.there c.in_ok-rows.ensures in
    let fit = rows_fit (parts_of rs).tables t c.within-within.result c.in_ok-rows.rows.items cells c.requires.site.there keyed lasting exact in
    let kept =
    locks_kept cells
    ∙ ap (list_all (λ (x : NewLock). list_all can_keep x.key)) (c.as_slice-3.ensures.value ∙ sym c.as_slice-2.ensures.value)
    ∙ sym c.if-not-are_kept_cells.ensures in
    if_ok c.lock_cells.result _ _
    (λ p is.
    subst (CanDraft rs c.args.ground.moment)
    (sym (ap (λ (q : Outcome). q.edits) is))
    (subst (λ n. CanDraft rs c.args.ground.moment (outcome (locking_cells c.args.locking.session.now c.args.locking.mode (outline_on c.args.ground) (map cells_locked cells) n)).edits) (sym c.requires.site.same)
    (can_lock rs c.args.ground.sessions.now c.args.ground.moment c.args.ground.rules (early c.args.ground.moment c.args.ground.early) c.args.locking.session.now c.args.locking.mode (map cells_locked cells) c.args.site.space.now c.requires.site.home
    c.user-user.ensures.short fit kept)))
    c.lock_cells.ensures.does
