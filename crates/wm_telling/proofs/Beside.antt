-- What records tell of a workspace beside its parent is what their lists tell, cell by cell.
use Rattle.std.proofs.Common.{◌≡◌, ℕ, nat_le, nat_lt, Bool, true, false, if◌then◌else◌, List, ◌++◌, drop, Option, Some, None, is_some, is_none, refl, sym, ap, ◌∙◌}
use Rattle.std.proofs.lemmas.Option.{same_Some}
use Rattle.std.specs.Option.{option_map, option_or}
use Rattle.wm_base.specs.declared.row.Row.{Row}
use Rattle.wm_base.specs.declared.value.Value.{Value}
use Rattle.wm_graph.specs.Parts.{Parts, row_of, space_of}
use Rattle.wm_net.specs.Conflicts.{settled_at}
use Rattle.wm_net.specs.Nets.{gained_at, outside}
use Rattle.wm_net.proofs.Merging.{told_pending}
use Rattle.wm_period.specs.Pieces.{Held}
use Rattle.wm_spec.specs.Lists.{Alike, Cell, Told, reach, told}
use Rattle.wm_spec.proofs.Lists.{told-append}
use Rattle.wm_spec.specs.declared.record.row.RowRecord.{RowRecord}
use Rattle.wm_spec.specs.declared.record.space.Space.{Space}
use Rattle.wm_state.specs.Editing.{row_value}
use Rattle.wm_state.specs.Standing.{Newest, SpaceFields, Stands, fields_in, fields_of, held_of, latest, owned, reached, seen}
use Rattle.wm_state.specs.State.{Durable, Workspace, content, workspace_of}
use Rattle.wm_state.proofs.Owning.{own_is}
use Rattle.wm_state.proofs.Named.{space_number}
use Rattle.wm_telling.specs.Telling.{AreFamily, gained_held, is_pending, is_unsettled, own_held, pending_held, told_by}
use Rattle.wm_telling.proofs.Marking.{marks_reached}

-- ---- what is told by what is held

row_told : (o : Option RowRecord) (row : Row) → option_map (λ (r : RowRecord). r.values) o ≡ Some row.values → option_map (λ (r : RowRecord). row_value r.values) o ≡ Some row
row_told None row e = ap (λ (v : Option (List Value)). option_map row_value v) e
row_told (Some r) row e = ap (λ (v : Option (List Value)). option_map row_value v) e

-- the row that is told stands under its stamp
abbrev pub HasRowOf : Parts → Told → Type 0
HasRowOf p t = (row : Row) → t.row ≡ Some row → option_map (λ (r : RowRecord). r.values) (row_of p.rows t.stamp) ≡ Some row.values

-- where it does, what is held of what is told tells it
told_same : (p : Parts) (t : Told) → HasRowOf p t → told_by p (held_of t) ≡ t
told_same p t has = λ i. record { stamp = t.stamp; kind = t.kind; row = by_row t.row refl i }
  where
    nothing : Option Row
    nothing = None

    by_row : (o : Option Row) → t.row ≡ o → (if is_none o then nothing else option_map (λ (r : RowRecord). row_value r.values) (row_of p.rows t.stamp)) ≡ o
    by_row None is = refl
    by_row (Some row) is = row_told (row_of p.rows t.stamp) row (has row is)

pub told_again : (p : Parts) (o : Option Told) → ((t : Told) → o ≡ Some t → HasRowOf p t) → option_map (told_by p) (option_map held_of o) ≡ o
told_again p None has = refl
told_again p (Some t) has = ap (λ (x : Told). Some x) (told_same p t (has t refl))

-- ---- fields of records

pub fields_are : (p : Parts) (d : Durable) (n : ℕ) (a : Space) (w : Workspace) → Stands p d → workspace_of d.spaces n ≡ Some w → space_of p.spaces n ≡ Some a → fields_of a ≡ fields_in w
fields_are p d n a w st is recorded = same_Some (fields_of a) (fields_in w) (sym (ap (option_map fields_of) recorded) ∙ st.spaces.same n ∙ ap (option_map fields_in) is)

-- ---- what is own

pub own_is_held : (p : Parts) (d : Durable) (n : ℕ) (w : Workspace) (a : Space) → Stands p d → workspace_of d.spaces n ≡ Some w → space_of p.spaces n ≡ Some a → (c : Cell)
    → own_held p a c ≡ option_map held_of (told w.lists.own c)
own_is_held p d n w a st is recorded c =
    ap (λ (m : ℕ). owned p a.base_version m c) (space_number p n a recorded) ∙ own_is p d st.named st.owns n w a is recorded c

-- what records tell of a workspace's own is what its own changes tell
pub own_tells : (p : Parts) (d : Durable) (n : ℕ) (w : Workspace) (a : Space) → Stands p d → workspace_of d.spaces n ≡ Some w → space_of p.spaces n ≡ Some a → (c : Cell)
    → option_map (told_by p) (own_held p a c) ≡ told w.lists.own c
own_tells p d n w a st is recorded c = ap (option_map (told_by p)) (own_is_held p d n w a st is recorded c) ∙ told_again p (told w.lists.own c) has
  where
    has : (t : Told) → told w.lists.own c ≡ Some t → HasRowOf p t
    has t found row =
        (st.named.tells _ _ _ _ (Newest w is)).rows c t row (told-append w.lists.base w.lists.own c ∙ ap (λ (o : Option Told). option_or o (told w.lists.base c)) found)

-- ---- what is pending

-- a workspace and its parent in a state, the parent's content alike what was there at its birth with its log; and their records
pub record Beside (p : Parts) (d : Durable) (n : ℕ) (w q : Workspace) (a b : Space) : Type 0 where
  pub stands : Stands p d
  pub is : workspace_of d.spaces n ≡ Some w
  pub above : workspace_of d.spaces w.parent ≡ Some q
  pub family : AreFamily p a b
  pub number : a.number ≡ n
  pub alike : Alike (content q) (q.lists.at_birth ++ q.lists.log)

module _ (p : Parts) (d : Durable) (n : ℕ) (w q : Workspace) (a b : Space) (beside : Beside p d n w q a b) where
  pub child_recorded : space_of p.spaces n ≡ Some a
  child_recorded = ap (λ (m : ℕ). space_of p.spaces m) (sym beside.number) ∙ beside.family.child

  child_fields : fields_of a ≡ fields_in w
  child_fields = fields_are p d n a w beside.stands beside.is child_recorded

  parent_recorded : space_of p.spaces w.parent ≡ Some b
  parent_recorded = ap (λ (f : SpaceFields). space_of p.spaces f.parent) (sym child_fields) ∙ beside.family.parent

  pub parent_number : b.number ≡ w.parent
  parent_number = space_number p w.parent b parent_recorded

  parent_fields : fields_of b ≡ fields_in q
  parent_fields = fields_are p d w.parent b q beside.stands beside.above parent_recorded

  child_place : a.next_place ≡ w.next_place
  child_place = ap (λ (f : SpaceFields). f.next_place) child_fields

  parent_place : b.next_place ≡ q.next_place
  parent_place = ap (λ (f : SpaceFields). f.next_place) parent_fields

  pub child_name : a.name ≡ w.name
  child_name = ap (λ (f : SpaceFields). f.name) child_fields

  pub parent_name : b.name ≡ q.name
  parent_name = ap (λ (f : SpaceFields). f.name) parent_fields

  -- the last position of the parent's touches at a cell is that of its log
  reach_of_parent : (c : Cell) → reached p.touches b.number b.next_place c ≡ reach q.lists.log c
  reach_of_parent c =
      ap (λ (m : ℕ). reached p.touches m b.next_place c) parent_number
      ∙ ap (λ (m : ℕ). reached p.touches w.parent m c) parent_place
      ∙ (beside.stands.touches.latest w.parent q beside.above).reaches c

  -- the parent changed a cell where its log reaches past what the workspace has
  pub pending_reach : (c : Cell) → is_pending p a b c ≡ nat_lt w.from (reach q.lists.log c)
  pending_reach c =
      ap (λ (f : SpaceFields). nat_lt f.from (reached p.touches b.number b.next_place c)) child_fields ∙ ap (λ (m : ℕ). nat_lt w.from m) (reach_of_parent c)

  -- and since it was settled where its log reaches as far as the marks that cover it
  pub unsettled_reach : (c : Cell) → is_unsettled p a b c ≡ nat_le (settled_at w.settled c) (reach q.lists.log c)
  unsettled_reach c =
      ap (λ (m : ℕ). nat_le m (reached p.touches b.number b.next_place c))
      (ap (λ (m : ℕ). reached p.marks m a.next_place c) beside.number
      ∙ ap (λ (m : ℕ). reached p.marks n m c) child_place
      ∙ marks_reached p d n w beside.stands.marks beside.stands.rules beside.is a child_recorded child_place c)
      ∙ ap (λ (m : ℕ). nat_le (settled_at w.settled c) m) (reach_of_parent c)

  -- the newest version of the parent holds what its content does
  pub parent_holds : (c : Cell) → seen p (latest p b.number) c ≡ option_map held_of (told (content q) c)
  parent_holds c =
      ap (λ (m : ℕ). seen p (latest p m) c) parent_number ∙ (beside.stands.named.tells _ _ _ _ (Newest q beside.above)).holds c

  told_of_parent : (c : Cell) → told (drop w.from q.lists.log) c ≡ (if nat_lt w.from (reach q.lists.log c) then told (content q) c else None)
  told_of_parent c = told_pending q.lists.at_birth q.lists.base q.lists.own q.lists.log w.from c beside.alike

  pub pending_is_held : (c : Cell) → pending_held p a b c ≡ option_map held_of (told (drop w.from q.lists.log) c)
  pending_is_held c =
      ap (λ (t : Bool). if t then seen p (latest p b.number) c else None) (pending_reach c)
      ∙ ap (λ (o : Option Held). if nat_lt w.from (reach q.lists.log c) then o else None) (parent_holds c)
      ∙ by_test (nat_lt w.from (reach q.lists.log c))
      ∙ ap (option_map held_of) (sym (told_of_parent c))
    where
      by_test : (t : Bool) → (if t then option_map held_of (told (content q) c) else None) ≡ option_map held_of (if t then told (content q) c else None)
      by_test true = refl
      by_test false = refl

  -- what records tell of what is pending is what the parent's log tells from there on
  pub pending_tells : (c : Cell) → option_map (told_by p) (pending_held p a b c) ≡ told (drop w.from q.lists.log) c
  pending_tells c = ap (option_map (told_by p)) (pending_is_held c) ∙ told_again p (told (drop w.from q.lists.log) c) has
    where
      by_test : (t : Told) (b : Bool) → (if b then told (content q) c else None) ≡ Some t → told (content q) c ≡ Some t
      by_test t true e = e
      by_test t false e = absurd (cc)

      has : (t : Told) → told (drop w.from q.lists.log) c ≡ Some t → HasRowOf p t
      has t found row =
          (beside.stands.named.tells _ _ _ _ (Newest q beside.above)).rows c t row (by_test t (nat_lt w.from (reach q.lists.log c)) (sym (told_of_parent c) ∙ found))

  -- ---- what is gained

  pub gained_is_held : (c : Cell) → gained_held p a b c ≡ option_map held_of (gained_at w.lists.own (drop w.from q.lists.log) c)
  gained_is_held c =
      ap (λ (o : Option Held). if is_some o then None else pending_held p a b c) (own_is_held p d n w a beside.stands beside.is child_recorded c)
      ∙ ap (λ (o : Option Held). if is_some (option_map held_of (told w.lists.own c)) then None else o) (pending_is_held c)
      ∙ by_own (told w.lists.own c)
    where
      pending : Option Told
      pending = told (drop w.from q.lists.log) c

      by_own : (o : Option Told) → (if is_some (option_map held_of o) then None else option_map held_of pending) ≡ option_map held_of (outside o pending)
      by_own (Some t) = refl
      by_own None = refl

  -- what records tell of what is gained is what is pending outside of what is own
  pub gained_tells : (c : Cell) → option_map (told_by p) (gained_held p a b c) ≡ gained_at w.lists.own (drop w.from q.lists.log) c
  gained_tells c =
      by_own (own_held p a c)
      ∙ ap (λ (o : Option Told). outside o (told (drop w.from q.lists.log) c)) (own_tells p d n w a beside.stands beside.is child_recorded c)
    where
      by_own : (o : Option Held) → option_map (told_by p) (if is_some o then None else pending_held p a b c) ≡ outside (option_map (told_by p) o) (told (drop w.from q.lists.log) c)
      by_own (Some h) = refl
      by_own None = pending_tells c
