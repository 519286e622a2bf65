use Rattle.std.proofs.Common.{◌≡◌, ℕ, List, sym, ap, ◌∙◌, subst}
use Rattle.std.specs.Option.{option_or}
use Rattle.wm_graph.specs.Parts.{parts_of}
use Rattle.wm_version_rows.proofs.Along.{held_along, newest_held, next_entry, none_left, passed_over, rest_spanned, rest_widens, up_to_held}
use Rattle.wm_records.proofs.Descending.{is_on}
use Rattle.wm_version_rows.proofs.Onward.{SamePath, held_alike, onward, same_path}
use Rattle.wm_version_rows.proofs.Rising.{up_to_rises, up_to_spanned, up_to_widens}
use Rattle.wm_ids.specs.Versioned.{AreSpanned, VersionsRise, Widens}
use Rattle.wm_ids.specs.declared.versioned.Versioned.{Versioned}
use Rattle.wm_period.specs.Pieces.{held_at}
use Rattle.wm_period.specs.declared.piece.Piece.{Piece}
use Rattle.wm_spec.specs.declared.record.stored.Stored.{Stored}
use Rattle.wm_state.specs.Standing.{newest_first}
use Rattle.wm_tree.specs.Versions.{path_in}
use Rattle.wm_version_rows.proofs.laying.lay_key.Goals as goal

pub loop-entry-init : goal.loop-entry-init
loop-entry-init c =
    let ss : List Stored = c.args.image.now in
    let path : List ℕ = path_in (newest_first (parts_of ss).versions) c.args.top in
    record {
      held = λ t less.
          ap (λ (ps : List Piece). option_or (held_at ps t) (newest_held ss path c.up_to-left.result.now t)) c.new-laid.ensures
          ∙ ap (λ (es : List Versioned). newest_held ss path es t) c.up_to-left.ensures
          ∙ up_to_held ss (parts_of ss) c.requires.rules c.args.top c.args.versions.now t;
      rises = subst VersionsRise (sym c.up_to-left.ensures) (up_to_rises 0 c.args.top c.args.versions.now c.requires.nested.rises);
      widens = subst Widens (sym c.up_to-left.ensures) (up_to_widens c.args.top c.args.versions.now c.requires.nested.widens);
      spanned = subst (AreSpanned ss) (sym c.up_to-left.ensures) (up_to_spanned ss c.args.top c.args.versions.now c.requires.spanned);
      path = same_path (parts_of ss).versions c.args.top c.up_to-left.result.now;
    }

pub returns-then-covers_all : goal.returns-then-covers_all
returns-then-covers_all c = λ t less.
    let ss : List Stored = c.args.image.now in
    let path : List ℕ = path_in (newest_first (parts_of ss).versions) c.args.top in
    passed_over ss path c.loop-entry.left.now c.in-Some.rest.now c.in-Some.entry.now t (held_at c.loop-entry.laid t) (newest_held ss path c.args.versions.now t) c.in-Some.ensures.cases.0 c.loop-entry.invariant.widens
    c.loop-entry.invariant.spanned (c.covers_all.ensures c.if-covers_all.true t) (c.loop-entry.invariant.held t less)
    ∙ held_along ss (parts_of ss) c.requires.rules c.args.top c.args.versions.now t c.requires.nested.rises

-- the way has come to the entry
came : (c : goal.In_ok-laid) → VersionsRise c.in-Some.rest.now
    × SamePath (parts_of c.args.image.now).versions c.descend-at.result c.args.top c.in-Some.rest.now
    × (is_on (parts_of c.args.image.now).versions c.in-Some.entry.now.version c.descend-at.result ≡ is_on (parts_of c.args.image.now).versions c.in-Some.entry.now.version c.args.top)
came c =
    onward (parts_of c.args.image.now).versions c.loop-entry.at c.descend-at.result c.args.top c.loop-entry.left.now c.in-Some.rest.now c.in-Some.entry.now c.in-Some.ensures.cases.0
    c.loop-entry.invariant.rises c.descend-at.ensures.path c.loop-entry.invariant.path

pub loop-entry-preserved : goal.loop-entry-preserved
loop-entry-preserved c =
    let ss : List Stored = c.args.image.now in
    let path : List ℕ = path_in (newest_first (parts_of ss).versions) c.args.top in
    record {
      held = λ t less.
          next_entry ss path c.loop-entry.left.now c.in-Some.rest.now c.in-Some.entry.now t (held_at c.loop-entry.laid t) (held_at c.in_ok-laid.laid t) (newest_held ss path c.args.versions.now t)
          c.in-Some.ensures.cases.0
          (c.in_ok-laid.ensures t less ∙ ap (option_or (held_at c.loop-entry.laid t)) (held_alike ss c.descend-at.result c.args.top c.in-Some.entry.now t (came c).2))
          (c.loop-entry.invariant.held t less);
      rises = (came c).0;
      widens = rest_widens c.loop-entry.left.now c.in-Some.rest.now c.in-Some.entry.now c.in-Some.ensures.cases.0 c.loop-entry.invariant.widens;
      spanned = rest_spanned ss c.loop-entry.left.now c.in-Some.rest.now c.in-Some.entry.now c.in-Some.ensures.cases.0 c.loop-entry.invariant.spanned;
      path = (came c).1;
    }

pub returns : goal.returns
returns c = λ t less.
    let ss : List Stored = c.args.image.now in
    let path : List ℕ = path_in (newest_first (parts_of ss).versions) c.args.top in
    none_left ss path c.loop-entry.left.now t (held_at c.loop-entry.laid t) (newest_held ss path c.args.versions.now t) c.in_default.ensures.cases (c.loop-entry.invariant.held t less)
    ∙ held_along ss (parts_of ss) c.requires.rules c.args.top c.args.versions.now t c.requires.nested.rises
