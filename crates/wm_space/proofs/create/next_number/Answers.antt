use Rattle.std.proofs.Common.{◌≡◌, ℕ, ◌<◌, ◌≤◌, nat_le, nat_lt, true, false, List, length, refl, sym, ◌∙◌, arith}
use Rattle.std.proofs.lemmas.Bool.Decides.{nat_tests}
use Rattle.std.proofs.lemmas.Bool.{or_from, or_right}
use Rattle.wm_graph.specs.Parts.{parts_of}
use Rattle.wm_model.specs.Step.{is_full}
use Rattle.wm_spec.specs.declared.record.table.Table.{Table}
use Rattle.wm_state.proofs.Tables.{by_number-length}
use Rattle.wm_state.specs.Standing.{by_number}
use Rattle.wm_state.specs.State.{next_table}
use Rattle.wm_space.proofs.create.next_number.Goals.{then-table_count-ge-TABLE_LIMIT-via-then-table_count-ge-TABLE_LIMIT, then-table_count-ge-TABLE_LIMIT-via-else-table_count-ge-TABLE_LIMIT+then-next-from}
use Rattle.wm_space.proofs.create.next_number.Goals as goal

-- there are as many tables as there may be
many : (ts : List Table) (n : ℕ) → n ≡ length ts → 256 ≤ n → is_full (by_number ts) ≡ true
many ts n is le = rw (at_least (length (by_number ts)) n (is ∙ sym (by_number-length ts)) le) refl
  where
    at_least : (l n : ℕ) → n ≡ l → 256 ≤ n → nat_le 256 l ≡ true
    at_least l n is le = grind (arith, nat_tests, is, le)

-- the number that comes next is too great
high : (ts : List Table) (n limit : ℕ) → n ≡ next_table (by_number ts) → limit ≡ 65535 → limit < n → is_full (by_number ts) ≡ true
high ts n limit is most lt = or_right (nat_le 256 (length (by_number ts))) (nat_lt 65535 (next_table (by_number ts))) (above (next_table (by_number ts)) n limit is most lt)
  where
    above : (k n limit : ℕ) → n ≡ k → limit ≡ 65535 → limit < n → nat_lt 65535 k ≡ true
    above k n limit is most lt = grind (arith, nat_tests, is, most, lt)

-- neither is so
few : (ts : List Table) (l n limit : ℕ) → l ≡ length ts → n ≡ next_table (by_number ts) → limit ≡ 65535 → l < 256 → n ≤ limit → is_full (by_number ts) ≡ false
few ts l n limit count is most lt le =
    or_from (nat_le 256 (length (by_number ts))) (nat_lt 65535 (next_table (by_number ts))) (below (length (by_number ts)) l (count ∙ sym (by_number-length ts)) lt) (in_range (next_table (by_number ts)) n limit is most le)
  where
    below : (k l : ℕ) → l ≡ k → l < 256 → nat_le 256 k ≡ false
    below k l is lt = grind (arith, nat_tests, is, lt)

    in_range : (k n limit : ℕ) → n ≡ k → limit ≡ 65535 → n ≤ limit → nat_lt 65535 k ≡ false
    in_range k n limit is most le = grind (arith, nat_tests, is, most, le)

pub returns-then-table_count-ge-TABLE_LIMIT-clause-full : goal.returns-then-table_count-ge-TABLE_LIMIT-clause-full
returns-then-table_count-ge-TABLE_LIMIT-clause-full c = elim c.then-table_count-ge-TABLE_LIMIT.branch [
  | then-table_count-ge-TABLE_LIMIT-via-then-table_count-ge-TABLE_LIMIT w ↦ many (parts_of c.args.image.now).tables c.table_count.result c.table_count.ensures w.if-table_count-ge-TABLE_LIMIT.true
  | then-table_count-ge-TABLE_LIMIT-via-else-table_count-ge-TABLE_LIMIT+then-next-from w ↦ high (parts_of c.args.image.now).tables c.next_table-next.result w.from.result c.next_table-next.ensures w.from.ensures w.if-next-from.true
]

pub returns-clause-room : goal.returns-clause-room
returns-clause-room c = (
  few (parts_of c.args.image.now).tables c.table_count.result c.next_table-next.result c.from.result c.table_count.ensures c.next_table-next.ensures c.from.ensures c.if-table_count-ge-TABLE_LIMIT.false c.if-next-from.false,
  c.next_table-next.ensures,
)
