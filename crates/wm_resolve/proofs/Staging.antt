-- In a lawful state what ResolveConflicts decides can be committed.
use Rattle.std.proofs.Common.{◌≡◌, ℕ, ◌==◌, ◌&&◌, ◌||◌, nat_lt, Bool, true, false, if◌then◌else◌, List, [], ◌∷◌, ◌++◌, map, Option, None, Some, option_map, refl, sym, ap, ◌∙◌, subst, arith}
use Rattle.std.proofs.lemmas.List.Elements.{All-cons, All-head, All-nil, All-tail}
use Rattle.std.proofs.lemmas.Bool.{and_from, and_parts}
use Rattle.std.proofs.lemmas.Option.{same_Some}
use Rattle.std.specs.Bool.{then_some}
use Rattle.std.specs.List.{All, AllByRecursion, list_all}
use Rattle.std.specs.Option.{option_map_or, option_or}
use Rattle.wm_decided.specs.Deciding.{told_on}
use Rattle.wm_decided.specs.Staged.{IsRestorable}
use Rattle.wm_graph.specs.Parts.{Parts, table_of}
use Rattle.wm_graph.specs.Rules.{keep_rules}
use Rattle.wm_net.specs.Conflicts.{Stamps}
use Rattle.wm_net.specs.Groups.{Group, cell, of_cell, same_group}
use Rattle.wm_net.specs.Listed.{Block, IsApart, IsJoined, Ordered, Stretch, blocks_listed, value_at, within}
use Rattle.wm_net.specs.Nets.{one_stamp, replayed}
use Rattle.wm_net.proofs.Grouping.{same_group-itself}
use Rattle.wm_net.proofs.Stretching.{Ordered-stretches, value_stretches}
use Rattle.wm_net.proofs.Unique.{IsJoined-stretches}
use Rattle.wm_period.specs.Pieces.{Held}
use Rattle.wm_spec.specs.Lists.{Cell, Entry, Told, told}
use Rattle.wm_spec.specs.declared.record.counters.Counters.{Counters}
use Rattle.wm_state.specs.Drafts.{IsCopied, can_keep, can_keep_entry}
use Rattle.wm_state.specs.Entries.{is_well}
use Rattle.wm_state.specs.Standing.{held_of, is_ready, newest_first, seen}
use Rattle.wm_state.proofs.Apart.{ruled}
use Rattle.wm_telling.specs.Telling.{IsHeldListing, replayed_by, same_held, told_by}
use Rattle.wm_telling.proofs.Beside.{HasRowOf, told_again}
use Rattle.wm_telling.proofs.Replaying.{listed_copied, listed_old}
use Rattle.wm_telling.proofs.Storing.{IsStored, Stores, seen_stored}
use Rattle.wm_model.specs.Lawful.{Each, IsSound, is_full_row}
use Rattle.wm_model.proofs.Lawful.Nets.{told_tells}
use Rattle.wm_model.proofs.Unready.{row_kept}
use Rattle.wm_resolve.proofs.Listed.{IsGiven, given_stretches}
use Rattle.wm_resolve.proofs.ToldOn.{ends, right, said, steady, up}
use Rattle.wm_resolve.specs.Telling.{TellsList}

-- ---- copies

-- a key of a table that is ready can be kept
pub record IsReadyKey (p : Parts) (g : Group) : Type 0 where
  pub ready : is_ready p.tables g.table ≡ true
  pub kept : list_all can_keep g.key ≡ true

abbrev held_stretch : Stretch Told → Stretch Held
held_stretch z = record { from = z.from; till = z.till; value = held_of z.value }

held_ordered : (low : ℕ) (ss : List (Stretch Told)) → Ordered low ss → Ordered low (map held_stretch ss)
held_ordered low [] o = tt
held_ordered low (z ∷ ss) o = (o.0, o.1, held_ordered z.till ss o.2)

held_joined : (ss : List (Stretch Told)) → IsJoined one_stamp ss → IsJoined same_held (map held_stretch ss)
held_joined [] j = tt
held_joined (z ∷ ss) j = (first ss j.0, held_joined ss j.1)
  where
    less : (b c d : Bool) → (b && c) ≡ false → (b && (c && d)) ≡ false
    less true true d e = absurd (cc)
    less true false d e = refl
    less false c d e = refl

    first : (ys : List (Stretch Told)) → IsApart one_stamp z ys → IsApart same_held (held_stretch z) (map held_stretch ys)
    first [] apart = tt
    first (y ∷ ys) apart = less (z.till == y.from) (z.value.stamp == y.value.stamp) _ apart

held_value : (ss : List (Stretch Told)) (t : ℕ) → value_at (map held_stretch ss) t ≡ option_map held_of (value_at ss t)
held_value [] t = refl
held_value (z ∷ ss) t = ap (λ o. option_or o (then_some (within z.from z.till t) (held_of z.value))) (held_value ss t) ∙ by_tests (value_at ss t) (within z.from z.till t)
  where
    by_tests : (o : Option Told) (b : Bool) → option_or (option_map held_of o) (then_some b (held_of z.value)) ≡ option_map held_of (option_or o (then_some b z.value))
    by_tests (Some x) b = refl
    by_tests None true = refl
    by_tests None false = refl

module _ (p : Parts) (rules : keep_rules p ≡ true) (version : ℕ) (es : List Entry) (tells : TellsList p version es) (of_stamp : ℕ → Told) (next : ℕ) (sound : Each (IsSound of_stamp next) es) (g : Group) (s : Stretch Stamps)
    (key : IsReadyKey p g) where
  abbrev copies : List (Stretch Told)
  copies = told_on es g s

  given : AllByRecursion (IsGiven (said p version es tells g s)) copies
  given = given_stretches one_stamp (said p version es tells g s) 0 (ends p version es tells g s) (up p version es tells g s) (steady p version es tells g s)

  -- what a version shows there
  abbrev shown : Cell → Option Held
  shown c = if same_group g (of_cell c) && within s.from s.till c.time then seen p version c else None

  stores : Stores p shown
  stores c h is = by_test (same_group g (of_cell c) && within s.from s.till c.time) is
    where
      by_test : (b : Bool) → (if b then seen p version c else None) ≡ Some h → IsStored p.pieces c h
      by_test true e = seen_stored p.pieces (newest_first p.versions) version c h e
      by_test false e = absurd (cc)

  shown_here : (t : ℕ) → shown (cell g t) ≡ option_map held_of (said p version es tells g s t)
  shown_here t = ap (λ b. if b && within s.from s.till t then seen p version (cell g t) else None) (same_group-itself g) ∙ by_test (within s.from s.till t)
    where
      by_test : (b : Bool) → (if b then seen p version (cell g t) else None) ≡ option_map held_of (if b then told es (cell g t) else None)
      by_test true = tells.holds (cell g t)
      by_test false = refl

  abbrev block : Block Held
  block = record { group = g; stretches = map held_stretch copies }

  listed : IsHeldListing p 0 [] shown (blocks_listed (replayed_by p 0 []) (block ∷ []))
  listed = record {
    blocks = block ∷ [];
    is = refl;
    ascend = (tt, tt);
    each = (
      record {
        ordered = held_ordered 0 copies (Ordered-stretches one_stamp (said p version es tells g s) 0 (ends p version es tells g s) (up p version es tells g s));
        joined = held_joined copies (IsJoined-stretches one_stamp (said p version es tells g s) 0 (ends p version es tells g s) (up p version es tells g s) (steady p version es tells g s) (right p version es tells g s));
        holds = λ t.
            held_value copies t
            ∙ ap (option_map held_of) (value_stretches one_stamp (said p version es tells g s) 0 (ends p version es tells g s) (up p version es tells g s) (steady p version es tells g s) (right p version es tells g s) t (omega arith))
            ∙ sym (shown_here t);
      },
      tt,
    );
    others = λ h none t. elsewhere h t (other (same_group g h) none);
  }
    where
      other : (b : Bool) → (b || false) ≡ false → b ≡ false
      other true e = absurd (cc)
      other false e = refl

      elsewhere : (h : Group) (t : ℕ) → same_group g h ≡ false → shown (cell h t) ≡ None
      elsewhere h t none = ap (λ b. if b && within s.from s.till t then seen p version (cell h t) else None) none

  -- as entries
  abbrev again : Stretch Told → Entry
  again z = replayed 0 [] g z

  told_row : (x : Told) (t : ℕ) → said p version es tells g s t ≡ Some x → told_by p (held_of x) ≡ x
  told_row x t is = same_Some (told_by p (held_of x)) x (told_again p (Some x) (λ y same row has. subst (λ (z : Told). HasRowOf p z) (same_Some x y same) here row has))
    where
      by_test : (b : Bool) → (if b then told es (cell g t) else None) ≡ Some x → told es (cell g t) ≡ Some x
      by_test true e = e
      by_test false e = absurd (cc)

      here : HasRowOf p x
      here row has = tells.rows (cell g t) x row (by_test (within s.from s.till t) is) has

  entries_are : (ss : List (Stretch Told)) → AllByRecursion (IsGiven (said p version es tells g s)) ss → map (replayed_by p 0 [] g) (map held_stretch ss) ++ [] ≡ map again ss
  entries_are [] all = refl
  entries_are (z ∷ ss) all =
      λ i. replayed 0 [] g (record { from = z.from; till = z.till; value = told_row z.value all.0.time all.0.is i }) ∷ entries_are ss all.1 i

  ready_all : (ss : List (Stretch Told)) → list_all (λ (e : Entry). is_ready p.tables e.table) (map again ss) ≡ true
  ready_all [] = refl
  ready_all (z ∷ ss) = and_from (is_ready p.tables g.table) _ key.ready (ready_all ss)

  kept_all : (ss : List (Stretch Told)) → AllByRecursion (IsGiven (said p version es tells g s)) ss → list_all can_keep_entry (map again ss) ≡ true
  kept_all [] all = refl
  kept_all (z ∷ ss) all = and_from (can_keep_entry (again z)) _ (and_from (list_all can_keep g.key) _ key.kept (row_kept z.value.row (full all.0.time all.0.is))) (kept_all ss all.1)
    where
      by_test : (t : ℕ) (b : Bool) → (if b then told es (cell g t) else None) ≡ Some z.value → told es (cell g t) ≡ Some z.value
      by_test t true e = e
      by_test t false e = absurd (cc)

      full : (t : ℕ) → said p version es tells g s t ≡ Some z.value → option_map_or is_full_row z.value.row true ≡ true
      full t is = (told_tells of_stamp next es (cell g t) z.value sound (by_test t (within s.from s.till t) is)).2

  combined : (k : Counters) (ss : List (Stretch Told)) → p.counters ≡ k ∷ [] → list_all (λ (e : Entry). nat_lt e.stamp k.next_stamp) (map again ss) ≡ true → list_all (is_well (table_of p.tables)) (map again ss) ≡ true
      → list_all can_keep_entry (map again ss) ≡ true → All (IsCopied p) (map again ss) → All (λ (z : Stretch Told). IsRestorable p (again z)) ss
  combined k [] one stamps well kept copied = All-nil (λ (z : Stretch Told). IsRestorable p (again z))
  combined k (z ∷ ss) one stamps well kept copied =
      let s1 = and_parts (nat_lt z.value.stamp k.next_stamp) _ stamps in
      let w1 = and_parts (is_well (table_of p.tables) (again z)) _ well in
      let k1 = and_parts (can_keep_entry (again z)) _ kept in
      All-cons (λ (y : Stretch Told). IsRestorable p (again y)) z ss
      (record {
        given = λ c same. ap (λ (x : Counters). nat_lt z.value.stamp x.next_stamp) (first c k (sym same ∙ one)) ∙ s1.0;
        ready = key.ready;
        well = w1.0;
        kept = k1.0;
        copied = All-head (IsCopied p) (again z) (map again ss) copied;
      })
      (combined k ss one s1.1 w1.1 k1.1 (All-tail (IsCopied p) (again z) (map again ss) copied))
    where
      first : (c d : Counters) → c ∷ [] ≡ d ∷ [] → c ≡ d
      first c d e = cc

  pub restorable_told : All (λ (z : Stretch Told). IsRestorable p (replayed 0 [] g z)) (told_on es g s)
  restorable_told =
      let k = ruled p rules in
      let same = entries_are copies given in
      let listing = subst (IsHeldListing p 0 [] shown) same listed in
      let old = listed_old p k.counters 0 [] shown (map again copies) rules k.one stores listing refl (ready_all copies) in
      combined k.counters copies k.one old.stamps old.well (kept_all copies given) (listed_copied p k.counters 0 [] shown (map again copies) rules k.one stores listing)
