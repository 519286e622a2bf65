-- What is told of the edits of a plan that refreshes a workspace, or merges it and lets it be.
use Rattle.std.proofs.Common.{◌≡◌, ◌⊎◌, inl, inr, ℕ, Bool, false, List, [], map, Result, Ok, Err, IfOk, refl}
use Rattle.wm_base.specs.declared.memory.Memory.{Memory}
use Rattle.wm_graph.specs.Parts.{parts_of}
use Rattle.wm_model.specs.Merged.{NamesFamily, makings_of, merge_edits, refresh_edits}
use Rattle.wm_model.specs.Step.{Asked}
use Rattle.wm_plan.specs.declared.planned.Planned.{Planned}
use Rattle.wm_spec.specs.declared.record.space.Space.{Space}
use Rattle.wm_spec.specs.declared.record.stored.Stored.{Stored}
use Rattle.wm_spending.specs.Nets.{AreNets, Merge, Net, Nothing, Refresh, merge_of, refresh_of}
use Rattle.wm_state.specs.Editing.{entry_of}
use Rattle.wm_state.specs.declared.edit.NewEntry.{NewEntry}
use Rattle.wm_telling.specs.Telling.{IsHeldListing, gained_held, own_held}

-- a refresh, where what is gained is listed
pub refresh_nets : (rs : List Stored) (m : ℕ) (user : List ℕ) (a b : Space) (gained : List NewEntry) (r : Result Planned Memory) → IsHeldListing (parts_of rs) m user (gained_held (parts_of rs) a b) (map entry_of gained)
    → IfOk r (λ p. (p.edits.items ≡ []) ⊎ (p.edits.items ≡ refresh_edits a.number gained)) → IfOk r (λ p. (workspace : List ℕ) → NamesFamily rs workspace a b → AreNets rs (refresh_of workspace) p.edits.items)
refresh_nets rs m user a b gained (Err e) listed edits = tt
refresh_nets rs m user a b gained (Ok p) listed (inl none) = λ workspace family. Nothing none
refresh_nets rs m user a b gained (Ok p) listed (inr are) = λ workspace family.
    Refresh refl (record { space = a; parent = b; family = family; moment = m; user = user; gained = gained; listed = listed; are = are })

-- a merge, where what is own is listed too
pub merge_nets : (rs : List Stored) (m : ℕ) (user : List ℕ) (a b : Space) (asked : Asked) (even : Bool) (own gained : List NewEntry) (r : Result Planned Memory) → asked.removes ≡ false
    → IsHeldListing (parts_of rs) m user (own_held (parts_of rs) a) (map entry_of own) → IsHeldListing (parts_of rs) m user (gained_held (parts_of rs) a b) (map entry_of gained)
    → IfOk r (λ p. (p.edits.items ≡ []) ⊎ (p.edits.items ≡ merge_edits asked even a.number b.number own gained (makings_of a.number (parts_of rs).locks))) → IfOk r (λ p. (workspace : List ℕ) → NamesFamily rs workspace a b → AreNets rs (merge_of workspace) p.edits.items)
merge_nets rs m user a b asked even own gained (Err e) stays own_listed gained_listed edits = tt
merge_nets rs m user a b asked even own gained (Ok p) stays own_listed gained_listed (inl none) = λ workspace family. Nothing none
merge_nets rs m user a b asked even own gained (Ok p) stays own_listed gained_listed (inr are) = λ workspace family.
    Merge refl
    (record {
      space = a;
      parent = b;
      family = family;
      moment = m;
      user = user;
      asked = asked;
      stays = stays;
      even = even;
      own = own;
      own_listed = own_listed;
      gained = gained;
      gained_listed = gained_listed;
      are = are;
    })

-- a plan for each name of the workspace is one for this name
pub nets_named : (net : List ℕ → Net) (rs : List Stored) (r : Result Planned Memory) (workspace : List ℕ) (a b : Space) → NamesFamily rs workspace a b
    → IfOk r (λ p. (workspace : List ℕ) → NamesFamily rs workspace a b → AreNets rs (net workspace) p.edits.items) → IfOk r (λ p. AreNets rs (net workspace) p.edits.items)
nets_named net rs (Ok p) workspace a b family nets = nets workspace family
nets_named net rs (Err e) workspace a b family nets = tt
