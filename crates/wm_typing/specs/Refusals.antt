-- Which refusal comes first.
use Rattle.std.specs.Prelude.{ℕ, List, Option, None, Some}
use Rattle.wm_base.specs.declared.refusal.Refusal.{Refusal}
use Rattle.wm_base.specs.declared.refusal.Refusal.TheVariants.{Form, Cell}
use Rattle.wm_base.specs.declared.refusal.FormRefusal.TheVariants.{Wm012, Wm013, Wm017}
use Rattle.wm_base.specs.declared.refusal.CellRefusal.TheVariants.{Wm062}

-- a name that is not there anywhere in the line comes before a type that is wrong, that before a key column that is set, and that before WM_VALID of a
-- table that has none
abbrev pub first_refusal : Option (List ℕ) → Option (List ℕ) → Option (List ℕ) → Option (List ℕ) → Option Refusal
first_refusal (Some name) mistyped key table = Some (Form (Wm012 name))
first_refusal None (Some name) key table = Some (Form (Wm013 name))
first_refusal None None (Some name) table = Some (Cell (Wm062 name))
first_refusal None None None (Some name) = Some (Form (Wm017 name))
first_refusal None None None None = None
