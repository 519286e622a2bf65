use Rattle.std.proofs.Common.{◌≡◌, List, Option, is_some, refl, sym, ap, subst, ◌∙◌}
use Rattle.std.specs.Option.{option_and_then}
use Rattle.wm_graph.specs.Parts.{as_table, as_version}
use Rattle.wm_records.proofs.Ascending.{ids_ascend, ids_ascend_less}
use Rattle.wm_records.proofs.Cataloguing.{tables_kept}
use Rattle.wm_records.proofs.Listed.{Ascend-listed}
use Rattle.wm_records.proofs.Lists.{ids_with-set}
use Rattle.wm_records.proofs.Pieced.{gains_nested, loses_nested, pieces_spanned}
use Rattle.wm_ids.specs.Versioned.{LosesAny}
use Rattle.wm_index.specs.Indexed.{ids_at, listed}
use Rattle.wm_index.specs.Sought.{Sought, is_sought, ids_with, ids_less, ids_more}
use Rattle.wm_spec.specs.Records.{record_at}
use Rattle.wm_spec.specs.declared.record.Record.{Record}
use Rattle.wm_spec.specs.declared.record.stored.Stored.{Stored}
use Rattle.wm_state.specs.ById.{set_at}
use Rattle.wm_records.proofs.records.reindex.Goals as goal

pub drop_old-stood-requires-clause-ascend : goal.drop_old-stood-requires-clause-ascend
drop_old-stood-requires-clause-ascend c = ids_ascend c.args.kept.now c.args.index.now c.requires.indexed

pub add_new-requires-clause-ascend : goal.add_new-requires-clause-ascend
add_new-requires-clause-ascend c =
    ids_ascend_less c.args.kept.now c.args.index.now c.drop_old-stood.new.index c.args.id c.requires.indexed
    (λ q. c.drop_old-stood.ensures.dropped q ∙ ap (λ (o : Option Record). ids_less (is_sought q) c.args.id o (ids_at c.args.index.now q)) c.at-found.ensures)

pub add_new-requires-clause-nested : goal.add_new-requires-clause-nested
add_new-requires-clause-nested c =
    let stood : Option Record = record_at (listed c.args.kept.now.entries) c.args.id in
    loses_nested c.args.index.now.pieces.entries c.drop_old-stood.new.index.pieces.entries c.args.id stood
    (subst (LosesAny c.args.index.now.pieces.entries c.drop_old-stood.new.index.pieces.entries c.args.id) c.at-found.ensures c.drop_old-stood.ensures.pieces) c.requires.indexed.nested

pub returns-clause-indexed : goal.returns-clause-indexed
returns-clause-indexed c =
    let ss : List Stored = listed c.args.kept.now.entries in
    let less : (q : Sought) → ids_at c.drop_old-stood.new.index q ≡ ids_less (is_sought q) c.args.id (record_at ss c.args.id) (ids_at c.args.index.now q) =
    λ q. c.drop_old-stood.ensures.dropped q ∙ ap (λ (o : Option Record). ids_less (is_sought q) c.args.id o (ids_at c.args.index.now q)) c.at-found.ensures in
    let loses : LosesAny c.args.index.now.pieces.entries c.drop_old-stood.new.index.pieces.entries c.args.id (record_at ss c.args.id) =
    subst (LosesAny c.args.index.now.pieces.entries c.drop_old-stood.new.index.pieces.entries c.args.id) c.at-found.ensures c.drop_old-stood.ensures.pieces in
    λ next ordered set. record {
      ordered = ordered;
      told = λ q.
          c.in_ok-stands.ensures.added q
          ∙ ap (ids_more (is_sought q) c.args.id c.args.becomes.now)
          (less q ∙ ap (ids_less (is_sought q) c.args.id (record_at ss c.args.id)) (c.requires.indexed.told q))
          ∙ sym (ids_with-set (is_sought q) c.args.id c.args.becomes.now ss (Ascend-listed c.args.kept.now.entries c.requires.indexed.ordered))
          ∙ ap (ids_with (is_sought q)) (sym set);
      nested = gains_nested c.drop_old-stood.new.index.pieces.entries c.add_new.new.index.pieces.entries c.args.id c.args.becomes.now c.in_ok-stands.ensures.pieces
          (loses_nested c.args.index.now.pieces.entries c.drop_old-stood.new.index.pieces.entries c.args.id (record_at ss c.args.id) loses c.requires.indexed.nested);
      spanned = pieces_spanned c.args.kept.now c.args.index.now c.drop_old-stood.new.index c.add_new.new.index c.args.id c.args.becomes.now (listed next.entries) c.requires.indexed less loses
          c.in_ok-stands.ensures.pieces set;
    }

pub returns-clause-tables : goal.returns-clause-tables
returns-clause-tables c = λ neither.
    tables_kept (listed c.args.kept.now.entries) (set_at c.args.id c.args.becomes.now (listed c.args.kept.now.entries)) c.args.id c.args.becomes.now c.drop_old-stood.result c.in_ok-stands.stands refl
    (c.drop_old-stood.ensures.table ∙ ap (λ (o : Option Record). is_some (option_and_then as_table o)) c.at-found.ensures) c.in_ok-stands.ensures.table (sym c.is_either.ensures ∙ neither)

pub returns-clause-hops : goal.returns-clause-hops
returns-clause-hops c =
    c.in_ok-follow.ensures (listed c.args.kept.now.entries) c.args.id c.args.becomes.now (Ascend-listed c.args.kept.now.entries c.requires.indexed.ordered) (c.version_of.ensures ∙ ap (option_and_then as_version) c.at-found.ensures)
    (c.version_of-2.ensures ∙ ap (option_and_then as_version) c.as_ref.ensures.value) c.requires.hops
