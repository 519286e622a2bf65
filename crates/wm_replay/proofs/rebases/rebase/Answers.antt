use Rattle.std.proofs.Common.{◌++◌, List, map, ap, ◌∙◌}
use Rattle.wm_changes.proofs.Placed.{looked_up, version_fits}
use Rattle.wm_forked.proofs.DraftedSaved.{home_there}
use Rattle.wm_graph.specs.Parts.{parts_of, space_of}
use Rattle.wm_pending.specs.Owned.{key_pieces}
use Rattle.wm_pending.specs.declared.own.OwnKey.{OwnKey}
use Rattle.wm_replay.proofs.Copied.{drafts_rebasing, parent_there, there_rebased}
use Rattle.wm_replay.proofs.Standing.{known}
use Rattle.wm_spec.specs.declared.record.Record.TheVariants as records
use Rattle.wm_state.specs.Copied.{pieces_for}
use Rattle.wm_replay.proofs.PricedRebase.{rebase_costs}
use Rattle.wm_replay.proofs.rebases.rebase.Goals as goal

pub unwrap-parent-requires : goal.unwrap-parent-requires
unwrap-parent-requires c =
    let k = known c.args.image.now c.args.space c.space.result c.unwrap-old.result c.requires.rules c.unwrap-old.ensures c.space.ensures in
    parent_there c.args.image.now c.args.space c.unwrap-old.result.now c.space-2.result c.requires.rules c.requires.can.some k.found c.space-2.ensures

pub kept_own-requires-clause-there : goal.kept_own-requires-clause-there
kept_own-requires-clause-there c =
    let k = known c.args.image.now c.args.space c.space.result c.unwrap-old.result c.requires.rules c.unwrap-old.ensures c.space.ensures in
    home_there (parts_of c.args.image.now) c.args.space c.unwrap-old.result.now k.found

pub versioned-counters-requires-clause-versions : goal.versioned-counters-requires-clause-versions
versioned-counters-requires-clause-versions c = version_fits (parts_of c.args.image.now) c.counters-before.result c.requires.rules c.counters-before.ensures

pub written-requires-clause-there : goal.written-requires-clause-there
written-requires-clause-there c =
    let k = known c.args.image.now c.args.space c.space.result c.unwrap-old.result c.requires.rules c.unwrap-old.ensures c.space.ensures in
    there_rebased c.args.image.now c.args.space c.latest-base_version.result c.unwrap-parent.result.now.log_length c.unwrap-old.result.now c.in_ok-new.new k.found c.in_ok-new.ensures

pub returns-clause-drafts : goal.returns-clause-drafts
returns-clause-drafts c =
    let k = known c.args.image.now c.args.space c.space.result c.unwrap-old.result c.requires.rules c.unwrap-old.ensures c.space.ensures in
    let spaces = (parts_of c.args.image.now).spaces in
    drafts_rebasing c.args.image.now c.args.moment c.args.work c.args.space c.latest-base_version.result c.in_ok-id.id c.args.emptied c.unwrap-old.result.now c.unwrap-parent.result.now c.in_ok-new.new c.counters-before.result c.versioned-counters.result
    c.new.result c.in_ok-changes.changes (map key_pieces c.in_ok-own.own.items) c.in_ok-dropped.dropped.items c.in_ok-news.news.items c.push_keys-pushed.new.news.items c.requires.rules c.requires.work c.requires.can k.found
    (looked_up c.space-2.result c.unwrap-parent.result (space_of spaces c.unwrap-old.result.now.parent) c.unwrap-parent.ensures c.space-2.ensures) c.counters-before.ensures c.in_ok-id.ensures.above c.in_ok-own.ensures
    c.latest-base_version.ensures c.in_ok-news.ensures
    (c.in_ok-pushed.ensures
    ∙ ap (λ (own : List OwnKey). c.in_ok-news.news.items ++ map records.Piece (pieces_for c.counters-before.result.next_version (map key_pieces own))) c.as_slice.ensures.value)
    c.versioned-counters.ensures c.in_ok-new.ensures c.new.ensures c.in_ok-dropped.ensures c.in_ok-changes.ensures

pub returns-clause-costs : goal.returns-clause-costs
returns-clause-costs c =
    let k = known c.args.image.now c.args.space c.space.result c.unwrap-old.result c.requires.rules c.unwrap-old.ensures c.space.ensures in
    rebase_costs c.args.image.now c.args.moment c.args.work c.latest-base_version.result c.in_ok-id.id c.unwrap-old.result.now c.unwrap-parent.result.now c.in_ok-new.new c.counters-before.result c.versioned-counters.result c.new.result
    c.in_ok-changes.changes (map key_pieces c.in_ok-own.own.items) c.in_ok-dropped.dropped.items c.in_ok-news.news.items c.push_keys-pushed.new.news.items c.args.space c.args.emptied c.requires.rules k.found c.counters-before.ensures c.in_ok-id.ensures.above
    c.latest-base_version.ensures c.in_ok-news.ensures
    (c.in_ok-pushed.ensures
    ∙ ap (λ (own : List OwnKey). c.in_ok-news.news.items ++ map records.Piece (pieces_for c.counters-before.result.next_version (map key_pieces own))) c.as_slice.ensures.value)
    c.versioned-counters.ensures c.in_ok-new.ensures c.new.ensures c.in_ok-dropped.ensures c.in_ok-changes.ensures
