use Rattle.std.proofs.Common.{◌≡◌, true, ℕ, List, Option, is_some, sym, ap, ◌∙◌}
use Rattle.std.specs.List.{find}
use Rattle.std.specs.Option.{option_and_then}
use Rattle.wm_graph.specs.Parts.{parts_of, as_table}
use Rattle.wm_graph.specs.Rules.{keep_rules}
use Rattle.wm_image.proofs.Naming.{has_name, named_told}
use Rattle.wm_index.specs.Indexed.{listed}
use Rattle.wm_index.specs.Kinds.{kind_at}
use Rattle.wm_spec.specs.Records.{record_at}
use Rattle.wm_spec.specs.declared.record.stored.Stored.{Stored}
use Rattle.wm_spec.specs.declared.record.table.Table.{Table}
use Rattle.wm_state.specs.Standing.{by_number}
use Rattle.wm_image.proofs.image.Image.id_of_table.Goals as goal

-- the table that the index names is the one of the name
told : (c : goal.After-id_named)
    → find (has_name c.args.name.now) (kind_at as_table (listed c.self.inside.kept.entries) c.as_slice.result.now) ≡ find (has_name c.args.name.now) (by_number (parts_of c.args.self.now).tables)
told c =
    let rules : keep_rules (parts_of (listed c.self.inside.kept.entries)) ≡ true = ap (λ (ss : List Stored). keep_rules (parts_of ss)) c.self.view_is ∙ c.requires in
    ap (λ (ids : List ℕ). find (has_name c.args.name.now) (kind_at as_table (listed c.self.inside.kept.entries) ids)) c.as_slice.ensures.value
    ∙ named_told c.self.inside.kept c.self.inside.index c.self.invariant.0 rules c.args.name.now
    ∙ ap (λ (ss : List Stored). find (has_name c.args.name.now) (by_number (parts_of ss).tables)) c.self.view_is

pub returns-clause-there : goal.returns-clause-there
returns-clause-there c =
    ap (λ (ss : List Stored). option_and_then as_table (option_and_then (record_at ss) c.id_named.result)) (sym c.self.view_is)
    ∙ c.id_named.ensures.there
    ∙ told c

pub returns-clause-found : goal.returns-clause-found
returns-clause-found c = c.id_named.ensures.found ∙ ap (λ (o : Option Table). is_some o) (told c)
