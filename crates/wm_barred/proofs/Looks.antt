-- Names, parents and tables that locks are asked of are those of the records.
use Rattle.std.proofs.Common.{◌≡◌, ℕ, ◌==◌, ◌&&◌, not, Bool, true, false, List, [], if◌then◌else◌, Option, Some, None, refl, sym, ap, ◌∙◌}
use Rattle.std.specs.Option.{option_and_then, option_map, option_map_or}
use Rattle.wm_graph.specs.Parts.{Parts, space_of, table_of}
use Rattle.wm_ground.proofs.Grounds.{numbered_on}
use Rattle.wm_guard.specs.Barring.{span_of}
use Rattle.wm_model.specs.Step.{has_parent, is_child_of, name_numbered, period_told, told_period}
use Rattle.wm_outline.specs.Outline.{SpaceOutline, outline_by}
use Rattle.wm_spec.specs.declared.record.cell_range.CellRange.{CellRange}
use Rattle.wm_spec.specs.declared.record.space.Space.{Space}
use Rattle.wm_spec.specs.declared.record.table.Table.{Table}
use Rattle.wm_state.proofs.Ready.{tables_found}
use Rattle.wm_state.specs.Standing.{by_number}
use Rattle.wm_barred.specs.Alone.{outline_alone}

-- ---- workspaces

module _ (p : Parts) (n : ℕ) where
  pub parent_some : (child : ℕ) (r : Space) → Some r ≡ space_of p.spaces child → has_parent (outline_alone p) n child ≡ ((r.parent == n) && not (r.number == n))
  parent_some child r is = ap (λ o. option_map_or (is_child_of n) o false) (numbered_on p [] 0 child (Some r) is)

  pub parent_none : (child : ℕ) → None ≡ space_of p.spaces child → has_parent (outline_alone p) n child ≡ false
  parent_none child is = ap (λ o. option_map_or (is_child_of n) o false) (numbered_on p [] 0 child None is)

  pub name_some : (r : Space) → Some r ≡ space_of p.spaces n → name_numbered (outline_alone p) n ≡ r.name
  name_some r is = ap (λ o. option_map_or (λ (x : SpaceOutline). x.fields.name) o []) (numbered_on p [] 0 n (Some r) is)

  pub name_none : None ≡ space_of p.spaces n → name_numbered (outline_alone p) n ≡ []
  name_none is = ap (λ o. option_map_or (λ (x : SpaceOutline). x.fields.name) o []) (numbered_on p [] 0 n None is)

-- ---- periods

pub period_is : (p : Parts) (c : CellRange) (o : Option Table) → o ≡ table_of p.tables c.table → period_told (outline_alone p) c ≡ option_and_then (λ (t : Table). told_period t (span_of c)) o
period_is p c o is = ap (option_and_then (λ (t : Table). told_period t (span_of c))) (tables_found p (record { tables = by_number p.tables; spaces = []; locks = []; next_stamp = 0; last_moment = 0; limit = 0; work = 0 }) (record { same = refl }) c.table ∙ sym is)
