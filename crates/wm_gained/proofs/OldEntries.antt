-- Entries that were made before: their cells are those of tables, and their records keep the rules.
use Rattle.std.proofs.Common.{◌≡◌, ℕ, suc, ◌+◌, nat_lt, nat_le, Bool, true, false, ◌&&◌, cond, List, [], ◌∷◌, length, Option, Some, refl, ap, ◌∙◌, arith}
use Rattle.std.proofs.lemmas.List.Elements.{All-head, All-tail}
use Rattle.std.proofs.lemmas.Bool.{and_from, and_parts, le-leb, lt-ltb}
use Rattle.std.specs.List.{All, list_all}
use Rattle.std.specs.Option.{option_map_or}
use Rattle.wm_base.specs.declared.instant.TheConstants.{END}
use Rattle.wm_graph.specs.Parts.{Parts, row_of, table_of}
use Rattle.wm_graph.specs.Rules.{is_hist, is_short}
use Rattle.wm_spec.specs.Lists.{Entry}
use Rattle.wm_spec.specs.declared.record.counters.Counters.{Counters}
use Rattle.wm_spec.specs.declared.record.space.Space.{Space}
use Rattle.wm_spec.specs.declared.record.table.Table.{Table}
use Rattle.wm_state.specs.Entries.{IsStamped, hist_of, hists_kept, is_well}
use Rattle.wm_state.specs.Standing.{IsReal, has_history}
use Rattle.wm_written.proofs.EntryRecords.{cells_well, well_of}
use Rattle.wm_written.proofs.TouchesKept.{is_on, on_tables}
use Rattle.wm_state.specs.Drafts.{AreOld, IsCopied}

-- ---- one of them

-- it is of its own table, over a period, and has its own stamp
pub stamped_so : (tables : List Table) (e : Entry) → IsReal tables e → IsStamped e.table e.stamp e
stamped_so tables e real = record { table = refl; period = and_from (nat_lt e.from e.till) (nat_le e.till END) (lt-ltb e.from e.till real.some) (le-leb e.till END real.till); stamp = refl }

-- the first of them was made before
pub record IsOld (p : Parts) (c : Counters) (e : Entry) : Type 0 where
  pub stamp : nat_lt e.stamp c.next_stamp ≡ true
  pub real : IsReal p.tables e
  pub well : is_well (table_of p.tables) e ≡ true
  pub user : is_short e.user ≡ true

pub old_first : (p : Parts) (c : Counters) (e : Entry) (es : List Entry) → AreOld p c (e ∷ es) → IsOld p c e
old_first p c e es old = record {
  stamp = (and_parts (nat_lt e.stamp c.next_stamp) (list_all (λ (x : Entry). nat_lt x.stamp c.next_stamp) es) old.stamps).0;
  real = All-head (IsReal p.tables) e es old.real;
  well = (and_parts (is_well (table_of p.tables) e) (list_all (is_well (table_of p.tables)) es) old.well).0;
  user = (and_parts (is_short e.user) (list_all (λ (x : Entry). is_short x.user) es) old.users).0;
}

-- so were the others
pub old_rest : (p : Parts) (c : Counters) (e : Entry) (es : List Entry) → AreOld p c (e ∷ es) → AreOld p c es
old_rest p c e es old = record {
  stamps = (and_parts (nat_lt e.stamp c.next_stamp) (list_all (λ (x : Entry). nat_lt x.stamp c.next_stamp) es) old.stamps).1;
  real = All-tail (IsReal p.tables) e es old.real;
  well = (and_parts (is_well (table_of p.tables) e) (list_all (is_well (table_of p.tables)) es) old.well).1;
  users = (and_parts (is_short e.user) (list_all (λ (x : Entry). is_short x.user) es) old.users).1;
}

-- ---- cells

-- they are cells of tables
pub on_old : (p : Parts) (c : Counters) (es : List Entry) → AreOld p c es → list_all (is_on (table_of p.tables)) es ≡ true
on_old p c [] old = refl
on_old p c (e ∷ es) old =
    let h = old_first p c e es old in
    and_from (is_on (table_of p.tables) e) (list_all (is_on (table_of p.tables)) es)
    (and_parts (is_on (table_of p.tables) e) true (on_tables (table_of p.tables) e.table e.stamp (e ∷ []) (stamped_so p.tables e h.real, tt) (and_from (is_well (table_of p.tables) e) true h.well refl))).0
    (on_old p c es (old_rest p c e es old))

-- ---- records of a log

-- those of tables with history keep the rules, where their rows are there and the log has their positions
pub hists_old : (p : Parts) (c : Counters) (spaces : ℕ → Option Space) (n k : ℕ) (a : Space) (es : List Entry) → AreOld p c es → All (λ (e : Entry). has_history p.tables e.table ≡ true → IsCopied p e) es → spaces n ≡ Some a
    → nat_le (k + length es) a.log_length ≡ true → list_all (is_hist (table_of p.tables) spaces (row_of p.rows) c.next_stamp) (hists_kept p.tables n k es) ≡ true
hists_old p c spaces n k a [] old copied there room = refl
hists_old p c spaces n k a (e ∷ es) old copied there room =
    by_test (has_history p.tables e.table) refl
    (hists_old p c spaces n (k + 1) a es (old_rest p c e es old) (All-tail Copied e es copied) there (next k (length es) a.log_length room))
  where
    Copied : Entry → Type 0
    Copied x = has_history p.tables x.table ≡ true → IsCopied p x

    below : (m i j : ℕ) → nat_le (m + suc i) j ≡ true → nat_lt m j ≡ true
    below m i j le = grind (arith, le)

    next : (m i j : ℕ) → nat_le (m + suc i) j ≡ true → nat_le (m + 1 + i) j ≡ true
    next m i j le = grind (arith, le)

    h : IsOld p c e
    h = old_first p c e es old

    first : has_history p.tables e.table ≡ true → is_hist (table_of p.tables) spaces (row_of p.rows) c.next_stamp (hist_of n k e) ≡ true
    first history =
        and_from (is_short e.user && option_map_or (λ (s : Space). nat_lt k s.log_length) (spaces n) false) _
        (and_from (is_short e.user) _ h.user (ap (λ o. option_map_or (λ (s : Space). nat_lt k s.log_length) o false) there ∙ below k (length es) a.log_length room))
        (cells_well (table_of p.tables) (row_of p.rows) e.table e.stamp c.next_stamp e (hist_of n k e).cells refl (stamped_so p.tables e h.real) (well_of (table_of p.tables) e h.well) h.stamp (All-head Copied e es copied history))

    by_test : (b : Bool) → has_history p.tables e.table ≡ b → list_all (is_hist (table_of p.tables) spaces (row_of p.rows) c.next_stamp) (hists_kept p.tables n (k + 1) es) ≡ true
        → list_all (is_hist (table_of p.tables) spaces (row_of p.rows) c.next_stamp) (cond b (hist_of n k e ∷ hists_kept p.tables n (k + 1) es) (hists_kept p.tables n (k + 1) es)) ≡ true
    by_test true history rest = and_from (is_hist (table_of p.tables) spaces (row_of p.rows) c.next_stamp (hist_of n k e)) _ (first history) rest
    by_test false history rest = rest
