-- What is asked before the edits of a refresh, where nothing refuses it and its entries can be written again.
use Rattle.std.proofs.Common.{◌≡◌, ℕ, ◌+◌, ◌≤◌, ◌==◌, nat_lt, Bool, true, false, if◌then◌else◌, List, [], ◌∷◌, map, length, Option, Some, refl, sym, ap, subst, ◌∙◌, arith}
use Rattle.std.proofs.lemmas.Bool.{ne_eqb, and_parts}
use Rattle.std.proofs.lemmas.Bool.Decides.{nat_tests}
use Rattle.std.proofs.lemmas.List.{length-map}
use Rattle.std.proofs.lemmas.List.Elements.{All-weaker}
use Rattle.std.specs.List.{list_all}
use Rattle.wm_base.specs.declared.instant.TheConstants.{END}
use Rattle.wm_graph.specs.Parts.{Parts, parts_of, space_of}
use Rattle.wm_graph.specs.Rules.{is_short, keep_rules}
use Rattle.wm_period.specs.Pieces.{Held}
use Rattle.wm_spec.specs.Lists.{Cell, Entry}
use Rattle.wm_spec.specs.declared.record.counters.Counters.{Counters}
use Rattle.wm_spec.specs.declared.record.space.Space.{Space}
use Rattle.wm_spec.specs.declared.record.stored.Stored.{Stored}
use Rattle.wm_state.specs.ById.{Ascend}
use Rattle.wm_state.specs.Copied.{KeyPieces}
use Rattle.wm_state.specs.Drafts.{AreOld, CanDraft, CanEditAll, CanGain, CanRebase, CanReplay, CanWork, IsCopied, can_keep_entry}
use Rattle.wm_state.specs.Editing.{counter_limit, entry_of, line_work, locks_in}
use Rattle.wm_state.specs.Standing.{has_history, is_ready}
use Rattle.wm_state.specs.State.{Session}
use Rattle.wm_state.specs.declared.edit.Edit.{Edit}
use Rattle.wm_state.specs.declared.edit.Edit.TheVariants as edits
use Rattle.wm_state.specs.declared.edit.NewEntry.{NewEntry}
use Rattle.wm_state.proofs.Climbing.{parent_apart}
use Rattle.wm_state.proofs.Named.{space_number}
use Rattle.wm_state.proofs.Tests.{all_if}
use Rattle.wm_gained.proofs.Merging.{can_refresh}
use Rattle.wm_telling.specs.Telling.{AreFamily, IsHeldListing, gained_held}
use Rattle.wm_telling.proofs.Replaying.{listed_copied, listed_old}
use Rattle.wm_telling.proofs.Sorting.{listed_apart, listed_sorted}
use Rattle.wm_telling.proofs.Storing.{Stores, stores_gained}
use Rattle.wm_model.proofs.MergedEdits.{refresh_lockless}
use Rattle.wm_model.proofs.Recorded.{named_numbered}
use Rattle.wm_model.specs.Merged.{NamesFamily, Refreshes, gain_edits, is_ready_entry, refresh_edits}
use Rattle.wm_merge.proofs.Clear.{refresh_left}
use Rattle.wm_merge.proofs.Kept.{keys_kept}
use Rattle.wm_merge.proofs.Answered.{listed_test, turn_free}
use Rattle.wm_merge.proofs.RefreshPlans.{MayRefresh}

-- ---- the workspace and its parent

pub family_of : (rs : List Stored) (workspace : List ℕ) (a b : Space) → NamesFamily rs workspace a b → AreFamily (parts_of rs) a b
family_of rs workspace a b family = record { child = named_numbered rs workspace a family.space; parent = family.parent }

parent_number : (rs : List Stored) (workspace : List ℕ) (a b : Space) → NamesFamily rs workspace a b → b.number ≡ a.parent
parent_number rs workspace a b family = space_number (parts_of rs) a.parent b family.parent

pub parent_there : (rs : List Stored) (workspace : List ℕ) (a b : Space) → NamesFamily rs workspace a b → space_of (parts_of rs).spaces b.number ≡ Some b
parent_there rs workspace a b family = ap (space_of (parts_of rs).spaces) (parent_number rs workspace a b family) ∙ family.parent

pub other_number : (rs : List Stored) (workspace : List ℕ) (a b : Space) → NamesFamily rs workspace a b → (a.number == b.number) ≡ false
other_number rs workspace a b family =
    ne_eqb a.number b.number
    (λ same. parent_apart (parts_of rs) family.space.rules a.number a family.child (named_numbered rs workspace a family.space) (same ∙ parent_number rs workspace a b family))

-- ---- entries that are listed

-- there are some
pub some_entries : (es : List NewEntry) → (length es == 0) ≡ false → nat_lt 0 (length (map entry_of es)) ≡ true
some_entries es some = grind (arith, nat_tests, length-map es entry_of, some)

module _ (p : Parts) (m : ℕ) (user : List ℕ) (c : Counters) (rules : keep_rules p ≡ true) (one : p.counters ≡ c ∷ []) (short : is_short user ≡ true) (f : Cell → Option Held) (stores : Stores p f) (es : List Entry)
    (listing : IsHeldListing p m user f es) (ready : list_all (is_ready_entry p) es ≡ true) (some : nat_lt 0 (length es) ≡ true) (n : ℕ) (a : Space) (there : space_of p.spaces n ≡ Some a)
    (room : nat_lt counter_limit (a.log_length + length es) ≡ false) where
  old : AreOld p c es
  old = listed_old p c m user f es rules one stores listing short (all_if (is_ready_entry p) (λ (e : Entry). is_ready p.tables e.table) (λ e is. (and_parts (is_ready p.tables e.table) (can_keep_entry e) is).0) es ready)

  kept : list_all can_keep_entry es ≡ true
  kept = all_if (is_ready_entry p) can_keep_entry (λ e is. (and_parts (is_ready p.tables e.table) (can_keep_entry e) is).1) es ready

  pub can_gain : CanGain p n es
  can_gain = record {
    space = a;
    there = there;
    counters = c;
    one = one;
    some = some;
    old = old;
    kept = kept;
    sorted = listed_sorted p m user f es listing;
    copied = All-weaker (IsCopied p) (λ (e : Entry). has_history p.tables e.table ≡ true → IsCopied p e) (λ e copied history. copied) es (listed_copied p c m user f es rules one stores listing);
    short = room;
  }

  pub can_replay : CanReplay p n es
  can_replay = record {
    space = a;
    there = there;
    counters = c;
    one = one;
    some = some;
    old = old;
    kept = kept;
    sorted = listed_sorted p m user f es listing;
    apart = listed_apart p m user f es listing;
    copied = listed_copied p c m user f es rules one stores listing;
    short = room;
  }

-- ---- edits

-- of which none makes locks
pub can_draft : (rs : List Stored) (m : ℕ) (es : List Edit) → locks_in es ≡ 0 → CanWork (parts_of rs) m line_work → length es ≤ 2048 → CanEditAll rs m es → CanDraft rs m es
can_draft rs m [] none work few can = tt
can_draft rs m (e ∷ es) none work few can = (subst (λ k. CanWork (parts_of rs) m (k + line_work)) (sym none) work, few, can)

pub can_work : (p : Parts) (m : ℕ) (c : Counters) → p.counters ≡ c ∷ [] → nat_lt counter_limit (c.work + line_work) ≡ false → nat_lt m END ≡ true → CanWork p m line_work
can_work p m c one spare early = record { counters = c; one = one; some = refl; room = spare; early = early }

pub few_gains : (n : ℕ) (entries : List NewEntry) → length (gain_edits n entries) ≤ 1
few_gains n entries = by_none (length entries == 0)
  where
    by_none : (none : Bool) → length (if none then [] else edits.Gain n entries ∷ []) ≤ 1
    by_none true = omega arith
    by_none false = omega arith

-- ---- a refresh

-- the workspace may be rebased with what is its own
can_rebase : (rs : List Stored) (m : ℕ) (xs : List Session) (session : Session) (workspace : List ℕ) (a b : Space) (ks : List KeyPieces) (es : List Entry) → Refreshes rs m xs session workspace a b es → MayRefresh rs a ks es
    → CanRebase (parts_of rs) a.number false
can_rebase rs m xs session workspace a b ks es refreshes may =
    let left = refresh_left (parts_of rs) xs a refreshes.found refreshes.clear in
    record {
      some = refreshes.family.child;
      space = a;
      there = named_numbered rs workspace a refreshes.family.space;
      rebases = left;
      unturned = turn_free (parts_of rs) a left may.unturned;
      kept = λ stays. keys_kept (parts_of rs) a ks may.own may.keys;
    }

pub drafts_refresh : (rs : List Stored) (m : ℕ) (xs : List Session) (session : Session) (workspace : List ℕ) (a b : Space) (ks : List KeyPieces) (c : Counters) (entries : List NewEntry) → Ascend rs
    → Refreshes rs m xs session workspace a b (map entry_of entries) → MayRefresh rs a ks (map entry_of entries) → nat_lt counter_limit (a.log_length + length entries) ≡ false
    → (parts_of rs).counters ≡ c ∷ [] → nat_lt counter_limit (c.work + line_work) ≡ false → nat_lt m END ≡ true → CanDraft rs m (refresh_edits a.number entries)
drafts_refresh rs m xs session workspace a b ks c entries sorted refreshes may room one spare early =
    can_draft rs m (refresh_edits a.number entries) (refresh_lockless a.number entries) (can_work (parts_of rs) m c one spare early) (omega (arith, few_gains a.number entries)) (by_none (length entries == 0) refl)
  where
    rules : keep_rules (parts_of rs) ≡ true
    rules = refreshes.family.space.rules

    rebase : CanRebase (parts_of rs) a.number false
    rebase = can_rebase rs m xs session workspace a b ks (map entry_of entries) refreshes may

    by_none : (none : Bool) → (length entries == 0) ≡ none → CanEditAll rs m (edits.Rebase a.number false ∷ (if none then [] else edits.Gain a.number entries ∷ []))
    by_none true is = (rebase, λ work cs drafts. tt)
    by_none false is =
        can_refresh rs m a.number entries sorted rules rebase
        (can_gain (parts_of rs) m session.user c rules one refreshes.user (gained_held (parts_of rs) a b) (stores_gained (parts_of rs) a b) (map entry_of entries) refreshes.listed may.ready
        (some_entries entries is) a.number a (named_numbered rs workspace a refreshes.family.space) (listed_test a.log_length entries false room))
