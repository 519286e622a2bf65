-- What is written where entries come into a workspace is a draft of it.
use Rattle.std.proofs.Common.{◌≡◌, ℕ, ◌+◌, ◌≤◌, true, List, [], ◌∷◌, ◌++◌, map, length, slice_index_or, Option, Some, None, is_some, Bor, refl, sym, ap, subst, ◌∙◌}
use Rattle.std.proofs.lemmas.List.{length-map}
use Rattle.std.proofs.lemmas.Option.{same_Some}
use Rattle.std.proofs.lemmas.Bool.{true≢false}
use Rattle.std.specs.Option.{option_copied}
use Rattle.wm_graph.specs.Parts.{Parts, parts_of, space_of}
use Rattle.wm_graph.specs.Rules.{keep_rules}
use Rattle.wm_spec.specs.Lists.{Entry}
use Rattle.wm_spec.specs.Records.{record_at}
use Rattle.wm_spec.specs.declared.record.Record.{Record}
use Rattle.wm_spec.specs.declared.record.Record.TheVariants as records
use Rattle.wm_spec.specs.declared.record.batch.Change.{Change}
use Rattle.wm_spec.specs.declared.record.counters.Counters.{Counters}
use Rattle.wm_spec.specs.declared.record.space.Space.{Space}
use Rattle.wm_spec.specs.declared.record.stored.Stored.{Stored}
use Rattle.wm_state.specs.Batches.{drop_one, put}
use Rattle.wm_state.specs.Drafts.{CanAppend, CanWork, DraftsBy, IsSpare}
use Rattle.wm_state.specs.Editing.{entry_of}
use Rattle.wm_state.specs.Effects.{IsFree, IsLeaf}
use Rattle.wm_state.specs.Points.{next_version, stepped_by, stepped_new_by}
use Rattle.wm_state.specs.Standing.{latest, newest_first}
use Rattle.wm_state.specs.Writes.{Redrawn, entries_batch, longer_by, put_all}
use Rattle.wm_state.specs.declared.edit.Edit.TheVariants as edits
use Rattle.wm_state.specs.declared.edit.NewEntry.{NewEntry}
use Rattle.wm_forked.proofs.DraftedSaved.{home_there}
use Rattle.wm_written.proofs.DraftedWritten.{Appends, drafts_written, entries_in, stamped_first}
use Rattle.wm_written.proofs.DraftedWrittenNew.{drafts_written_new}
use Rattle.wm_state.proofs.Growing.{same_counters}
use Rattle.wm_written.proofs.Ids.{under_next}
use Rattle.wm_state.proofs.Named.{space_number}
use Rattle.wm_state.proofs.Settled.{Places}
use Rattle.wm_state.specs.Entries.{AreStamped}
use Rattle.wm_changes.proofs.Placed.{looked_up}
use Rattle.wm_append.specs.Appending.{AreMade, AreWritten}

-- ---- what is looked up

-- the workspace into which entries come, by its own number
pub record Found (p : Parts) (n : ℕ) (es : List Entry) (a : Space) : Type 0 where
  pub number : a.number ≡ n
  pub there : space_of p.spaces a.number ≡ Some a
  pub can : CanAppend p a.number es

pub found_so : (p : Parts) (n : ℕ) (es : List Entry) (r : Option (Bor Space)) (b : Bor Space) → r ≡ Some b → option_copied r ≡ space_of p.spaces n → CanAppend p n es → Found p n es b.now
found_so p n es r b is same can =
    let found : space_of p.spaces n ≡ Some b.now = looked_up r b (space_of p.spaces n) is same in
    record {
      number = space_number p n b.now found;
      there = home_there p n b.now found;
      can = subst (λ k. CanAppend p k es) (sym (space_number p n b.now found)) can;
    }

-- the table of the first entry is that of the first of the list
first_table : (items : List NewEntry) (x : NewEntry) → x ≡ slice_index_or items 0 x → (e : Entry) (rest : List Entry) → map entry_of items ≡ e ∷ rest → e.table ≡ x.table
first_table [] x at e rest is = absurd (none_some is)
  where
    none_some : (let none : List Entry = [] in none) ≡ e ∷ rest → ⊥
    none_some h = cc
first_table (y ∷ ys) x at e rest is = ap (λ (d : Entry). d.table) (sym (first (entry_of y) (map entry_of ys) is)) ∙ ap (λ (z : NewEntry). z.table) (sym at)
  where
    first : (d : Entry) (ds : List Entry) → d ∷ ds ≡ e ∷ rest → d ≡ e
    first d ds h = cc

-- what is asked of the entries, told of what was looked up
pub appends_so : (p : Parts) (a : Space) (c : Counters) (entries : List NewEntry) (x : NewEntry) → space_of p.spaces a.number ≡ Some a → CanAppend p a.number (map entry_of entries) → p.counters ≡ c ∷ [] → x ≡ slice_index_or entries 0 x
    → Appends p a.number a c x.table (map entry_of entries)
appends_so p a c entries x there can one at = record {
  can = can;
  there = there;
  one = one;
  stamped = stamped_first p a.number x.table c (map entry_of entries) can one (first_table entries x at);
}

-- and told of the table of the edit
pub appends_own : (p : Parts) (a : Space) (c : Counters) (es : List Entry) → space_of p.spaces a.number ≡ Some a → (can : CanAppend p a.number es) → p.counters ≡ c ∷ [] → Appends p a.number a c can.table.number es
appends_own p a c es there can one = record {
  can = can;
  there = there;
  one = one;
  stamped = subst (λ (k : Counters). AreStamped can.table.number k.next_stamp es) (sym (same_counters p can.counters c can.one one)) can.stamped;
}

-- a workspace that is there
pub found_there : (o : Option Space) → is_some o ≡ true → (a : Space) × (o ≡ Some a)
found_there None none = absurd (true≢false (sym none))
found_there (Some a) some = (a, refl)

-- ---- what is written

-- where the records stand
pub written_places : (rs : List Stored) (front : List Change) (counters c : Counters) (a longer : Space) (id next : ℕ) (dropped : List ℕ) (news : List Record) (changes : List Change) → (parts_of rs).counters ≡ c ∷ []
    → space_of (parts_of rs).spaces a.number ≡ Some a → longer.number ≡ a.number → ((i : ℕ) → id ≤ i → record_at rs i ≡ None) → (w : AreWritten rs front counters longer next dropped news changes) → Places rs w.counters_id w.space_id id c a
written_places rs front counters c a longer id next dropped news changes one there same above w = record {
  sorted = w.sorted;
  counters = w.counters_at ∙ ap (λ (k : Counters). Some (records.Counters k)) (sym (same_counters (parts_of rs) w.old c w.one one));
  one = one;
  space = w.space_at ∙ ap (λ (b : Space). Some (records.Space b)) (same_Some w.was a (sym w.found ∙ ap (space_of (parts_of rs).spaces) same ∙ there));
  under = under_next id rs above;
}

-- the batch is the one that writes the entries
batch_is : (rs : List Stored) (front : List Change) (counters : Counters) (a longer : Space) (version next : ℕ) (es : List Entry) (dropped : List ℕ) (news : List Record) (changes : List Change) → longer ≡ longer_by (length es) a
    → (made : AreMade rs a version es dropped news) → (w : AreWritten rs front counters longer next dropped news changes)
    → changes ≡ front ++ entries_batch (parts_of rs).tables w.counters_id counters w.space_id a dropped next es made.drawn made.traced
batch_is rs front counters a longer version next es dropped news changes longer_is made w =
    w.are
    ∙ ap (λ (b : Space). front ++ (put w.counters_id (records.Counters counters) ∷ put w.space_id (records.Space b) ∷ (map drop_one dropped ++ put_all next news))) longer_is
    ∙ ap (λ (xs : List Record). front ++ (put w.counters_id (records.Counters counters) ∷ put w.space_id (records.Space (longer_by (length es) a)) ∷ (map drop_one dropped ++ put_all next xs))) made.are

-- so many as are told
pub counted_so : (entries : List NewEntry) (count : ℕ) → count ≡ length entries → count ≡ length (map entry_of entries)
counted_so entries count is = is ∙ sym (length-map entries entry_of)

-- entries come into the newest version
pub drafts_here : (rs : List Stored) (m work table version id count : ℕ) (entries : List NewEntry) (a longer : Space) (c counters : Counters) (front : List Change) (dropped : List ℕ) (news : List Record) (changes : List Change)
    → keep_rules (parts_of rs) ≡ true → CanWork (parts_of rs) m work → Appends (parts_of rs) a.number a c table (entries_in entries) → ((i : ℕ) → id ≤ i → record_at rs i ≡ None)
    → IsLeaf (latest (parts_of rs) a.number) (newest_first (parts_of rs).versions) → IsFree (parts_of rs) (latest (parts_of rs) a.number) → version ≡ latest (parts_of rs) a.number → count ≡ length entries
    → counters ≡ stepped_by c m work count → longer ≡ longer_by count a → front ≡ [] → AreMade rs a version (entries_in entries) dropped news → AreWritten rs front counters longer id dropped news changes
    → DraftsBy work rs m (edits.Append a.number entries ∷ []) changes
drafts_here rs m work table version id count entries a longer c counters front dropped news changes rules can_work v above leaf free newest many counts longer_is none made w =
    subst (DraftsBy work rs m (edits.Append a.number entries ∷ []))
    (sym
    (batch_is rs front counters a longer version id (entries_in entries) dropped news changes (longer_is ∙ ap (λ k. longer_by k a) number) made w
    ∙ ap (λ (f : List Change). f ++ batch counters) none
    ∙ ap batch (counts ∙ ap (stepped_by c m work) number)))
    (drafts_written rs m work table entries a c w.counters_id w.space_id id dropped made.drawn made.traced rules can_work v
    (written_places rs front counters c a longer id id dropped news changes v.one v.there (ap (λ (b : Space). b.number) longer_is) above w) leaf free
    (subst (λ k. Redrawn rs k a (entries_in entries) dropped made.drawn made.traced) newest made.redrawn))
  where
    number : count ≡ length (entries_in entries)
    number = counted_so entries count many

    batch : Counters → List Change
    batch k = entries_batch (parts_of rs).tables w.counters_id k w.space_id a dropped id (entries_in entries) made.drawn made.traced

-- or into a version more
pub drafts_above : (rs : List Stored) (m work table id next parent count : ℕ) (entries : List NewEntry) (a longer : Space) (c counters : Counters) (front : List Change) (dropped : List ℕ) (news : List Record) (changes : List Change)
    → keep_rules (parts_of rs) ≡ true → CanWork (parts_of rs) m work → Appends (parts_of rs) a.number a c table (entries_in entries) → ((i : ℕ) → id ≤ i → record_at rs i ≡ None) → (IsSpare (parts_of rs) a.number → ⊥)
    → next ≡ id + 1 → parent ≡ latest (parts_of rs) a.number → count ≡ length entries → counters ≡ stepped_new_by c m work count → longer ≡ longer_by count a
    → front ≡ put id (records.Version (record { number = c.next_version; space = a.number; parent = parent })) ∷ [] → AreMade rs a c.next_version (entries_in entries) dropped news
    → AreWritten rs front counters longer next dropped news changes → DraftsBy work rs m (edits.Append a.number entries ∷ []) changes
drafts_above rs m work table id next parent count entries a longer c counters front dropped news changes rules can_work v above used after newest many counts longer_is first made w =
    subst (DraftsBy work rs m (edits.Append a.number entries ∷ []))
    (sym
    (batch_is rs front counters a longer c.next_version next (entries_in entries) dropped news changes (longer_is ∙ ap (λ k. longer_by k a) number) made w
    ∙ ap (λ (f : List Change). f ++ batch counters next) first_is
    ∙ ap (λ k. version ++ batch k next) (counts ∙ ap (stepped_new_by c m work) number)
    ∙ ap (λ k. version ++ batch (stepped_new_by c m work (length (entries_in entries))) k) after))
    (drafts_written_new rs m work table entries a c w.counters_id w.space_id id dropped made.drawn made.traced rules can_work v
    (written_places rs front counters c a longer id next dropped news changes v.one v.there (ap (λ (b : Space). b.number) longer_is) above w) used made.redrawn)
  where
    number : count ≡ length (entries_in entries)
    number = counted_so entries count many

    batch : Counters → ℕ → List Change
    batch k from = entries_batch (parts_of rs).tables w.counters_id k w.space_id a dropped from (entries_in entries) made.drawn made.traced

    version : List Change
    version = put id (records.Version (next_version (parts_of rs) a.number c)) ∷ []

    first_is : front ≡ version
    first_is = first ∙ ap (λ k. put id (records.Version (record { number = c.next_version; space = a.number; parent = k })) ∷ []) newest
