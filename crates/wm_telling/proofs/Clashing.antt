-- The first stretch on which a workspace and its parent are in conflict, by their records, is the first of their conflicts.
use Rattle.std.proofs.Common.{◌≡◌, ℕ, ◌&&◌, nat_lt, Bool, List, slice_get, Option, Some, None, is_some, refl, sym, ap, ◌∙◌}
use Rattle.std.specs.Bool.{then_some}
use Rattle.std.specs.Option.{option_and_then, option_map}
use Rattle.wm_base.specs.declared.value.Value.{Value}
use Rattle.wm_graph.specs.Parts.{Parts}
use Rattle.wm_net.specs.Conflicts.{Stamps, all_sides, conflict_at, conflicts, grouped, in_conflict, same_stamps, stamps}
use Rattle.wm_net.specs.Firsts.{IsFirstOf}
use Rattle.wm_net.specs.Groups.{Group, cell}
use Rattle.wm_net.specs.Listed.{Stretch}
use Rattle.wm_net.proofs.Conflicting.{Fit-conflicts, same_stamps-itself}
use Rattle.wm_net.proofs.Firsting.{listing_first, listing_none}
use Rattle.wm_period.specs.Pieces.{Held}
use Rattle.wm_spec.specs.Lists.{Cell, Told, reach, standing_stamp, told, touched}
use Rattle.wm_spec.specs.declared.record.space.Space.{Space}
use Rattle.wm_state.proofs.Listed.{stamp_same}
use Rattle.wm_state.specs.Listing.{standing}
use Rattle.wm_state.specs.Standing.{Newest, held_of, latest, seen}
use Rattle.wm_state.specs.State.{Durable, Workspace, content}
use Rattle.wm_telling.specs.Sides.{sides}
use Rattle.wm_telling.specs.Telling.{IsFirstClash, clash_held, is_pending, is_unsettled, own_held, stamps_of}
use Rattle.wm_telling.proofs.Beside.{Beside, child_recorded, own_is_held, parent_holds, pending_reach, unsettled_reach}

some_mapped : (o : Option Told) → is_some (option_map held_of o) ≡ is_some o
some_mapped None = refl
some_mapped (Some t) = refl

standing_told : (o : Option Held) (t : Option Told) → o ≡ option_map held_of t → option_and_then standing o ≡ option_and_then standing_stamp t
standing_told o t e = ap (option_and_then standing) e ∙ stamp_same t

-- a first stretch is one of another function that gives the same
first_alike : {A : Type 0} (f h : Cell → Option A) (g : Group) (s : Stretch A) → ((c : Cell) → f c ≡ h c) → IsFirstOf f g s → IsFirstOf h g s
first_alike f h g s alike is = record {
  before = λ k less t. sym (alike (cell k t)) ∙ is.before k less t;
  first = record {
    begins = is.first.begins;
    before = λ t le lt. sym (alike (cell g t)) ∙ is.first.before t le lt;
    real = is.first.real;
    over = λ t le lt. sym (alike (cell g t)) ∙ is.first.over t le lt;
    ends = λ e. is.first.ends (alike (cell g s.till) ∙ e);
  };
}

module _ (p : Parts) (d : Durable) (n : ℕ) (w q : Workspace) (a b : Space) (beside : Beside p d n w q a b) (base : (c : Cell) → seen p a.base_version c ≡ option_map held_of (told w.lists.base c)) where
  in_conflict_is : (c : Cell) → (is_some (own_held p a c) && (is_pending p a b c && is_unsettled p a b c)) ≡ in_conflict (sides q w) c
  in_conflict_is c =
      ap (λ (o : Option Held). is_some o && (is_pending p a b c && is_unsettled p a b c)) (own_is_held p d n w a beside.stands beside.is (child_recorded p d n w q a b beside) c)
      ∙ ap (λ (t : Bool). t && (is_pending p a b c && is_unsettled p a b c)) (some_mapped (told w.lists.own c))
      ∙ ap (λ (t : Bool). touched w.lists.own c && (t && is_unsettled p a b c)) (pending_reach p d n w q a b beside c)
      ∙ ap (λ (t : Bool). touched w.lists.own c && (nat_lt w.from (reach q.lists.log c) && t)) (unsettled_reach p d n w q a b beside c)

  child_holds : (c : Cell) → seen p (latest p a.number) c ≡ option_map held_of (told (content w) c)
  child_holds c = ap (λ (m : ℕ). seen p (latest p m) c) beside.number ∙ (beside.stands.named.tells _ _ _ _ (Newest w beside.is)).holds c

  stamps_are : (c : Cell) → stamps_of p a b c ≡ stamps (told w.lists.base c) (told (content q) c) (told (content w) c)
  stamps_are c =
      let under = standing_told (seen p a.base_version c) (told w.lists.base c) (base c) in
      let above = standing_told (seen p (latest p b.number) c) (told (content q) c) (parent_holds p d n w q a b beside c) in
      let own = standing_told (seen p (latest p a.number) c) (told (content w) c) (child_holds c) in
      λ i. record { base = under i; parent = above i; child = own i }

  -- by their records a cell is in conflict where it is so by their lists, with the same stamps
  pub clash_is : (c : Cell) → clash_held p a b c ≡ conflict_at (sides q w) c
  clash_is c =
      ap (λ (t : Bool). then_some t (stamps_of p a b c)) (in_conflict_is c)
      ∙ ap (λ (x : Stamps). then_some (in_conflict (sides q w) c) x) (stamps_are c)

  -- the first clash is the first conflict
  pub clash_listed : (table : ℕ) (key : List Value) (from till : ℕ) (clash : IsFirstClash p a b table key from till)
      → slice_get (conflicts (sides q w)) 0 ≡ Some ((let g : Group = record { table = table; key = key } in g), (let s : Stretch Stamps = record { from = from; till = till; value = clash.stamps } in s))
  clash_listed table key from till clash =
      listing_first same_stamps grouped (all_sides (sides q w)) (conflict_at (sides q w)) (record { table = table; key = key })
      (record { from = from; till = till; value = clash.stamps }) same_stamps-itself (Fit-conflicts (sides q w))
      (first_alike (clash_held p a b) (conflict_at (sides q w)) (record { table = table; key = key }) (record { from = from; till = till; value = clash.stamps }) clash_is clash.first)

  -- and where there is no clash, there is no conflict
  pub clash_none : ((c : Cell) → clash_held p a b c ≡ None) → slice_get (conflicts (sides q w)) 0 ≡ None
  clash_none none =
      ap (λ xs. slice_get xs 0)
      (listing_none same_stamps grouped (all_sides (sides q w)) (conflict_at (sides q w)) same_stamps-itself (Fit-conflicts (sides q w)) (λ c. sym (clash_is c) ∙ none c))
