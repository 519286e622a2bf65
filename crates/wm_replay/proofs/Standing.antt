-- What is known of the workspace into which entries come.
use Rattle.std.proofs.Common.{◌≡◌, ℕ, ◌+◌, ◌-◌, ◌≤◌, true, List, Option, Some, is_some, Bor, refl, ap, ◌∙◌}
use Rattle.std.specs.Option.{option_copied}
use Rattle.wm_append.proofs.Written.{last_place, placed, some_place}
use Rattle.wm_changes.proofs.Placed.{looked_up}
use Rattle.wm_forked.proofs.DraftedSaved.{home_there}
use Rattle.wm_graph.specs.Parts.{parts_of, space_of}
use Rattle.wm_graph.specs.Rules.{keep_rules}
use Rattle.wm_spec.specs.declared.record.space.Space.{Space}
use Rattle.wm_spec.specs.declared.record.stored.Stored.{Stored}
use Rattle.wm_state.specs.Writes.{longer_by}

-- it was looked up by a number, and places were given there
pub record Known (rs : List Stored) (n : ℕ) (a : Space) : Type 0 where
  pub found : space_of (parts_of rs).spaces n ≡ Some a
  pub some : 1 ≤ a.next_place
  pub last : a.next_place ≡ a.next_place - 1 + 1

pub known : (rs : List Stored) (n : ℕ) (r : Option (Bor Space)) (b : Bor Space) → keep_rules (parts_of rs) ≡ true → r ≡ Some b → option_copied r ≡ space_of (parts_of rs).spaces n → Known rs n b.now
known rs n r b rules is same =
    let found : space_of (parts_of rs).spaces n ≡ Some b.now = looked_up r b (space_of (parts_of rs).spaces n) is same in
    let some = some_place (parts_of rs) n b.now rules found in
    record {
      found = found;
      some = placed b.now.next_place some;
      last = last_place b.now.next_place (b.now.next_place - 1) some refl;
    }

-- it is there with a longer log
pub there_longer : (rs : List Stored) (n count : ℕ) (a longer : Space) → space_of (parts_of rs).spaces n ≡ Some a → longer ≡ longer_by count a → is_some (space_of (parts_of rs).spaces longer.number) ≡ true
there_longer rs n count a longer found is = ap (λ (b : Space). is_some (space_of (parts_of rs).spaces b.number)) is ∙ ap is_some (home_there (parts_of rs) n a found)
