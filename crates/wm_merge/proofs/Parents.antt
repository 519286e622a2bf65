-- A workspace that is not LIVE, and its parent, whose record is there.
use Rattle.std.proofs.Common.{◌≡◌, ℕ, ◌<◌, true, List, Option, Some, Bor, is_some, sym, ◌∙◌}
use Rattle.std.specs.Option.{option_copied}
use Rattle.wm_base.proofs.Plain.{copied_some}
use Rattle.wm_graph.specs.Parts.{parts_of, space_of}
use Rattle.wm_rebased.proofs.RebasingFields.{parent_recorded}
use Rattle.wm_spec.specs.declared.record.space.Space.{Space}
use Rattle.wm_spec.specs.declared.record.stored.Stored.{Stored}
use Rattle.wm_model.proofs.Recorded.{named_numbered}
use Rattle.wm_model.specs.Merged.{NamesFamily}
use Rattle.wm_model.specs.Undone.{NamesSpace}

-- the parent is found
pub parent_found : (rs : List Stored) (workspace : List ℕ) (a : Space) (r : Option (Bor Space)) → NamesSpace rs workspace a → 0 < a.number → option_copied r ≡ space_of (parts_of rs).spaces a.parent → is_some r ≡ true
parent_found rs workspace a r names child found =
    copied_some r (space_of (parts_of rs).spaces a.parent) found (parent_recorded (parts_of rs) names.rules a.number a child (named_numbered rs workspace a names))

-- the two
pub family_named : (rs : List Stored) (workspace : List ℕ) (a : Space) (r : Option (Bor Space)) (b : Space) → NamesSpace rs workspace a → 0 < a.number → option_copied r ≡ space_of (parts_of rs).spaces a.parent
    → option_copied r ≡ Some b → NamesFamily rs workspace a b
family_named rs workspace a r b names child found is = record { space = names; child = child; parent = sym found ∙ is }
