-- What is known of an INSERT whose statement is in order.
use Rattle.std.specs.Prelude.{◌≡◌, true, List, Some, None}
use Rattle.wm_syntax.specs.Views.{exprs_view}
use Rattle.wm_making.specs.Inserting.{insert_fault}
use Rattle.wm_model.specs.Planning.{named}
use Rattle.wm_spec.specs.declared.record.stored.Stored.{Stored}
use Rattle.wm_change.specs.declared.insert.Insertion.{Insertion}

-- the table that it names is ready for rows, and the statement is not wrong for it
pub record IsFine (rs : List Stored) (i : Insertion) : Type 0 where
  pub there : named rs i.name.now ≡ Some i.table.now
  pub on : i.table.now.versioned ≡ true
  pub good : insert_fault i.table.now i.names.now (exprs_view i.values.now) ≡ None
