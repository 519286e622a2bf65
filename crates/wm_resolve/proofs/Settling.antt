-- What is asked before the edits by which decisions become part of a workspace, where each can be committed.
use Rattle.std.proofs.Common.{◌≡◌, ℕ, suc, ◌+◌, ◌<◌, ◌≤◌, ◌==◌, ◌&&◌, nat_le, nat_lt, Bool, true, false, if◌then◌else◌, List, [], ◌∷◌, ◌++◌, map, length, Option, Some, None, option_map, refl, sym, ap, ◌∙◌, arith, subst, eq-eqb}
use Rattle.std.proofs.lemmas.Bool.Decides.{nat_tests}
use Rattle.std.proofs.lemmas.List.{length-map}
use Rattle.std.proofs.lemmas.List.Elements.{All-head, All-tail, All-weaker}
use Rattle.std.proofs.lemmas.List.Sums.{list_all-from_AllPass}
use Rattle.std.proofs.lemmas.Bool.{and_from, and_parts}
use Rattle.std.specs.Bool.{then_some}
use Rattle.std.specs.List.{All, list_all}
use Rattle.std.specs.Option.{option_map_or, option_or}
use Rattle.wm_base.specs.declared.instant.TheConstants.{END}
use Rattle.wm_base.specs.declared.value.Value.{Value}
use Rattle.wm_decided.specs.Counted.{decision_in, place_at}
use Rattle.wm_decided.specs.Netted.{cells_decided, chosen_at, entries_decided, mark_for, marks_of, same_choice}
use Rattle.wm_decided.specs.Staged.{IsRestorable, IsStaged, copy_of}
use Rattle.wm_decided.proofs.Chosen.{Changes-chosen, chosen_is}
use Rattle.wm_decided.proofs.InOrder.{entries_apart, entries_sorted, marks_apart, marks_sorted}
use Rattle.wm_decided.proofs.Sources.{IsCopy, IsMark, entries_copied, marks_decided}
use Rattle.wm_graph.specs.Parts.{Parts, parts_of, space_of, table_of}
use Rattle.wm_graph.specs.Rules.{are_cells, is_key_of, is_short, keep_rules}
use Rattle.wm_net.specs.Conflicts.{Settled}
use Rattle.wm_net.specs.Groups.{cell}
use Rattle.wm_net.specs.Listed.{Stretch}
use Rattle.wm_net.specs.Nets.{replayed}
use Rattle.wm_spec.specs.Lists.{Entry, Told, covers, told_of}
use Rattle.wm_spec.specs.declared.record.counters.Counters.{Counters}
use Rattle.wm_spec.specs.declared.record.space.Space.{Space}
use Rattle.wm_spec.specs.declared.record.stored.Stored.{Stored}
use Rattle.wm_state.specs.ById.{Ascend}
use Rattle.wm_state.specs.Drafts.{CanDraft, CanReplay, CanSettle, CanWork, IsCopied, can_keep, can_keep_entry, cells_in}
use Rattle.wm_state.specs.Editing.{counter_limit, entry_of, line_work, settled_by}
use Rattle.wm_state.specs.Entries.{is_well}
use Rattle.wm_state.specs.Standing.{IsReal}
use Rattle.wm_state.specs.State.{Decision}
use Rattle.wm_state.specs.declared.edit.Edit.TheVariants as edits
use Rattle.wm_state.specs.declared.edit.NewEntry.{NewEntry}
use Rattle.wm_state.specs.declared.edit.NewMark.{NewMark}
use Rattle.wm_state.proofs.Laying.{key_itself}
use Rattle.wm_state.proofs.Logging.{all_at}
use Rattle.wm_settled.proofs.SettledBehind.{settles_behind}
use Rattle.wm_resolve.proofs.Listed.{nothing_given}
use Rattle.wm_resolve.specs.Committed.{commit_edits}

module _ (p : Parts) (ds : List Decision) (staged : All (IsStaged p) ds) where
  ended : (till high : ℕ) → till ≤ high → nat_le high END ≡ true → till ≤ END
  ended till high le end = grind (arith, nat_tests, le, end)

  -- ---- entries

  -- an entry that can be written again, over a period, by this user
  record CanRewrite (user : List ℕ) (e : Entry) : Type 0 where
    restorable : IsRestorable p e
    some : e.from < e.till
    till : e.till ≤ END
    by_user : e.user ≡ user

  -- what is told of a key can be written again to it
  abbrev Restores : ℕ → List Value → Told → Type 0
  Restores table key t = IsRestorable p (replayed 0 [] (record { table = table; key = key }) (record { from = 0; till = 0; value = t }))

  rewritten : (m : ℕ) (user : List ℕ) (e : Entry) → IsCopy m user ds e → CanRewrite user e
  rewritten m user e copy =
      let d = copy.decision in
      let can = all_at (IsStaged p) ds copy.place d staged copy.there in
      let r = all_at (λ (s : Stretch Told). IsRestorable p (copy_of d s)) d.copied copy.index copy.copied can.copies copy.among in
      let there : Restores d.table d.key copy.copied.value = record { given = r.given; ready = r.ready; well = r.well; kept = r.kept; copied = r.copied } in
      let here : Restores e.table e.key (told_of e) =
      subst (λ n. Restores n e.key (told_of e)) (sym copy.table) (subst (λ k. Restores d.table k (told_of e)) (sym copy.key) (subst (Restores d.table d.key) (sym copy.says) there)) in
      record {
        restorable = record { given = here.given; ready = here.ready; well = here.well; kept = here.kept; copied = here.copied };
        some = copy.some;
        till = ended e.till d.till copy.till (and_parts (nat_lt d.from d.till) (nat_le d.till END) (and_parts (nat_lt d.from d.till && nat_le d.till END) _ can.cells).0).1;
        by_user = copy.by_user;
      }

  pub can_replay : (m : ℕ) (user : List ℕ) (c : Counters) (n : ℕ) (a : Space) → p.counters ≡ c ∷ [] → is_short user ≡ true → space_of p.spaces n ≡ Some a → nat_lt 0 (length (entries_decided m user ds)) ≡ true
      → nat_lt counter_limit (a.log_length + length (entries_decided m user ds)) ≡ false → CanReplay p n (entries_decided m user ds)
  can_replay m user c n a one short there some room =
      let es = entries_decided m user ds in
      let all = All-weaker (IsCopy m user ds) (CanRewrite user) (rewritten m user) es (entries_copied m user ds) in
      record {
        space = a;
        there = there;
        counters = c;
        one = one;
        some = some;
        old = record {
          stamps = list_all-from_AllPass (λ (e : Entry). nat_lt e.stamp c.next_stamp) es (All-weaker (CanRewrite user) (λ (e : Entry). nat_lt e.stamp c.next_stamp ≡ true) (λ e k. k.restorable.given c one) es all);
          real = All-weaker (CanRewrite user) (IsReal p.tables) (λ e k. record { some = k.some; till = k.till; on = k.restorable.ready }) es all;
          well = list_all-from_AllPass (is_well (table_of p.tables)) es (All-weaker (CanRewrite user) (λ (e : Entry). is_well (table_of p.tables) e ≡ true) (λ e k. k.restorable.well) es all);
          users = list_all-from_AllPass (λ (e : Entry). is_short e.user) es (All-weaker (CanRewrite user) (λ (e : Entry). is_short e.user ≡ true) (λ e k. ap is_short k.by_user ∙ short) es all);
        };
        kept = list_all-from_AllPass can_keep_entry es (All-weaker (CanRewrite user) (λ (e : Entry). can_keep_entry e ≡ true) (λ e k. k.restorable.kept) es all);
        sorted = entries_sorted m user ds;
        apart = entries_apart m user ds;
        copied = All-weaker (CanRewrite user) (IsCopied p) (λ e k. k.restorable.copied) es all;
        short = room;
      }

  -- ---- marks

  -- a mark on cells of a table that is there, over a period, whose key can be kept
  record CanMark (m : Settled) : Type 0 where
    cells : are_cells (table_of p.tables) (record { table = m.table; key = m.key; from = m.from; till = m.till }) ≡ true
    kept : list_all can_keep m.key ≡ true

  marked : (m : Settled) → IsMark ds m → CanMark m
  marked m mark =
      let d = mark.decision in
      let can = all_at (IsStaged p) ds mark.place d staged mark.there in
      let cells = and_parts (nat_lt d.from d.till && nat_le d.till END) (option_map_or (is_key_of d.key) (table_of p.tables d.table) false) can.cells in
      record {
        cells = and_from (nat_lt m.from m.till && nat_le m.till END) _
            (and_from (nat_lt m.from m.till) (nat_le m.till END) (let some = mark.some in grind (arith, nat_tests, some))
            (let end = ended m.till d.till mark.till (and_parts (nat_lt d.from d.till) (nat_le d.till END) cells.0).1 in grind (arith, nat_tests, end)))
            ((λ i. option_map_or (is_key_of (mark.key i)) (table_of p.tables (mark.table i)) false) ∙ cells.1);
        kept = ap (list_all can_keep) mark.key ∙ can.kept;
      }

  module _ (ms : List NewMark) (are : map (settled_by 0) ms ≡ marks_of 0 ds) where
    cells_can : (xs : List NewMark) → All CanMark (map (settled_by 0) xs) → list_all (λ (m : NewMark). are_cells (table_of p.tables) (cells_in m)) xs ≡ true
    cells_can [] all = refl
    cells_can (x ∷ xs) all =
        and_from (are_cells (table_of p.tables) (cells_in x)) _ (All-head CanMark (settled_by 0 x) (map (settled_by 0) xs) all).cells (cells_can xs (All-tail CanMark (settled_by 0 x) (map (settled_by 0) xs) all))

    keys_can : (xs : List NewMark) → All CanMark (map (settled_by 0) xs) → list_all (λ (m : NewMark). list_all can_keep m.key) xs ≡ true
    keys_can [] all = refl
    keys_can (x ∷ xs) all =
        and_from (list_all can_keep x.key) _ (All-head CanMark (settled_by 0 x) (map (settled_by 0) xs) all).kept (keys_can xs (All-tail CanMark (settled_by 0 x) (map (settled_by 0) xs) all))

    each : All CanMark (map (settled_by 0) ms)
    each = subst (All CanMark) (sym are) (All-weaker (IsMark ds) CanMark marked (marks_of 0 ds) (marks_decided 0 ds))

    some_marked : (d : Decision) (rest : List Decision) → ds ≡ d ∷ rest → nat_lt 0 (length ms) ≡ true
    some_marked d rest is = by_marks ms refl
      where
        here : covers (cells_decided d) (cell (record { table = d.table; key = d.key }) d.from) ≡ true
        here =
            let staged_d = All-head (IsStaged p) d rest (subst (All (IsStaged p)) is staged) in
            let real = and_parts (nat_lt d.from d.till && nat_le d.till END) _ staged_d.cells in
            and_from _ (nat_le d.from d.from && nat_lt d.from d.till) (and_from (d.table == d.table) _ (eq-eqb d.table d.table refl) (key_itself d.key))
            (and_from (nat_le d.from d.from) (nat_lt d.from d.till) (grind arith) (and_parts (nat_lt d.from d.till) (nat_le d.till END) real.0).0)

        placed_some : (o : Option ℕ) (b : Bool) → b ≡ true → option_or (option_map (λ (k : ℕ). k + 1) o) (then_some b 0) ≡ None → ⊥
        placed_some (Some k) b e none = cc
        placed_some None true e none = cc
        placed_some None false e none = cc

        unmapped : (o : Option ℕ) → option_map {U = ℕ × Decision} (λ (n : ℕ). (n, decision_in (d ∷ rest) n)) o ≡ None → o ≡ None
        unmapped None e = refl
        unmapped (Some n) e = absurd (cc)

        by_marks : (xs : List NewMark) → ms ≡ xs → nat_lt 0 (length xs) ≡ true
        by_marks (x ∷ xs) e = more (length xs)
          where
            more : (n : ℕ) → nat_lt 0 (suc n) ≡ true
            more n = grind arith
        by_marks [] e =
            absurd
            (placed_some (place_at rest (cell (record { table = d.table; key = d.key }) d.from)) (covers (cells_decided d) (cell (record { table = d.table; key = d.key }) d.from)) here
            (unmapped (place_at (d ∷ rest) (cell (record { table = d.table; key = d.key }) d.from))
            (chosen_is (d ∷ rest) (cell (record { table = d.table; key = d.key }) d.from)
            ∙ ap (λ (xs : List Decision). chosen_at xs (cell (record { table = d.table; key = d.key }) d.from)) (sym is)
            ∙ nothing_given same_choice (mark_for 0) (map cells_decided ds) (chosen_at ds) (Changes-chosen ds).steady (sym are ∙ ap (map (settled_by 0)) e) (record { table = d.table; key = d.key }) d.from)))

    pub can_settle : (n : ℕ) (a : Space) → space_of p.spaces n ≡ Some a → ((ds ≡ []) → ⊥) → CanSettle p n ms
    can_settle n a there some = record {
      space = a;
      there = there;
      some = by_decisions ds refl;
      cells = cells_can ms each;
      kept = keys_can ms each;
      sorted = marks_sorted ds ms are;
      apart = marks_apart ds ms are;
    }
      where
        by_decisions : (xs : List Decision) → ds ≡ xs → nat_lt 0 (length ms) ≡ true
        by_decisions [] is = absurd (some is)
        by_decisions (x ∷ xs) is = some_marked x xs is

-- ---- the edits

pub drafts_commit : (rs : List Stored) (m : ℕ) (user : List ℕ) (n : ℕ) (a : Space) (c : Counters) (ds : List Decision) (entries : List NewEntry) (marks : List NewMark) → Ascend rs → keep_rules (parts_of rs) ≡ true
    → All (IsStaged (parts_of rs)) ds → ((ds ≡ []) → ⊥) → map entry_of entries ≡ entries_decided m user ds → ((place : ℕ) → map (settled_by place) marks ≡ marks_of place ds) → is_short user ≡ true
    → space_of (parts_of rs).spaces n ≡ Some a → nat_lt counter_limit (a.log_length + length (map entry_of entries)) ≡ false → (parts_of rs).counters ≡ c ∷ [] → nat_lt counter_limit (c.work + line_work) ≡ false → nat_lt m END ≡ true
    → CanDraft rs m (commit_edits n entries marks)
drafts_commit rs m user n a c ds entries marks sorted rules staged some is marked short there room one spare early = by_none (length entries == 0) refl
  where
    work : CanWork (parts_of rs) m line_work
    work = record { counters = c; one = one; some = refl; room = spare; early = early }

    settle : CanSettle (parts_of rs) n marks
    settle = can_settle (parts_of rs) ds staged marks (marked 0) n a there some

    some_entries : (es : List NewEntry) → (length es == 0) ≡ false → nat_lt 0 (length (map entry_of es)) ≡ true
    some_entries es more = grind (arith, nat_tests, length-map es entry_of, more)

    replay : (length entries == 0) ≡ false → CanReplay (parts_of rs) n (map entry_of entries)
    replay more =
        subst (CanReplay (parts_of rs) n) (sym is)
        (can_replay (parts_of rs) ds staged m user c n a one short there (ap (λ (es : List Entry). nat_lt 0 (length es)) (sym is) ∙ some_entries entries more)
        (ap (λ (es : List Entry). nat_lt counter_limit (a.log_length + length es)) (sym is) ∙ room))

    by_none : (none : Bool) → (length entries == 0) ≡ none → CanDraft rs m ((if none then [] else edits.Replay n entries ∷ []) ++ edits.Settle n marks ∷ [])
    by_none true e = (work, omega arith, (settle, λ given changes drafts. tt))
    by_none false e = (work, omega arith, settles_behind rs m n entries marks sorted rules (replay e) settle)
