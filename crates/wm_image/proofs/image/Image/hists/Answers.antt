use Rattle.std.proofs.Common.{◌≡◌, ℕ, List, [], refl, sym, ap, subst, ◌∙◌}
use Rattle.std.specs.Ordering.{nat_cmp}
use Rattle.wm_chunks.specs.Numbers.{Numbers}
use Rattle.wm_graph.specs.Parts.{parts_of, as_hist}
use Rattle.wm_ids.proofs.TableLists.{no_keys}
use Rattle.wm_ids.specs.Ids.{set_found}
use Rattle.wm_index.proofs.Positions.{by_position, hists_told}
use Rattle.wm_index.specs.Hists.{AreByPosition, logged_on}
use Rattle.wm_index.specs.Indexed.{IsIndexed, ids_at, listed}
use Rattle.wm_index.specs.Kinds.{kind_at}
use Rattle.wm_index.specs.Sought.{HistsOn}
use Rattle.wm_index.specs.declared.index.Index.{Index}
use Rattle.wm_spec.specs.declared.record.Record.{Record}
use Rattle.wm_spec.specs.declared.record.stored.Stored.{Stored}
use Rattle.wm_image.proofs.image.Image.hists.Goals as goal

-- what stands by position among the entries of the index does so among those of the records
told : (kept : Numbers Record) (x : Index) (ss : List Stored) → IsIndexed kept x → listed kept.entries ≡ ss → (space table : ℕ) (ids log : List ℕ) → log ≡ ids_at x (HistsOn space table)
    → AreByPosition (kind_at as_hist (listed kept.entries) ids) (kind_at as_hist (listed kept.entries) log) → AreByPosition (kind_at as_hist ss ids) (logged_on space table (parts_of ss).hists)
told kept x ss is same space table ids log found stand =
    subst (λ (rs : List Stored). AreByPosition (kind_at as_hist rs ids) (logged_on space table (parts_of rs).hists)) same
    (subst (AreByPosition (kind_at as_hist (listed kept.entries) ids)) (ap (kind_at as_hist (listed kept.entries)) found ∙ hists_told kept x is space table) stand)

pub returns-in_default : goal.returns-in_default
returns-in_default c =
    let kept = c.self.inside.kept in
    subst (λ (ids : List ℕ). AreByPosition (kind_at as_hist c.args.self.now ids) (logged_on c.args.space c.args.table (parts_of c.args.self.now).hists)) (sym c.new.ensures.items)
    (told kept c.self.inside.index c.args.self.now c.self.invariant.0 c.self.view_is c.args.space c.args.table [] [] (ap set_found c.in_default.ensures.value)
    (by_position (listed kept.entries) [] [] (no_keys nat_cmp) (λ q. refl)))

pub returns : goal.returns
returns c =
    told c.self.inside.kept c.self.inside.index c.args.self.now c.self.invariant.0 c.self.view_is c.args.space c.args.table c.in_ok-ids.ids.items c.in-Some.log.now.keys (ap set_found c.in-Some.ensures.value) c.in_ok-ids.ensures
