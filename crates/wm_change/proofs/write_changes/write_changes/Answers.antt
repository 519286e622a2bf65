-- A plan that writes changes of rows, by what comes of it.
use Rattle.std.proofs.Common.{◌≡◌, ◌+◌, nat_le, nat_lt, ℕ, Bool, true, false, List, length, map, vec_len, Some, None, Vec, Global, refl, sym, ap, ◌∙◌, arith}
use Rattle.wm_model.specs.Step.{counter_limit, line_work}
use Rattle.wm_plan.proofs.Planning.{early}
use Rattle.wm_plan.specs.Views.{answer_view, seating_view}
use Rattle.wm_plan.specs.declared.answer.Answer.TheVariants as answers
use Rattle.wm_plan.specs.declared.seating.Seating.TheVariants as seatings
use Rattle.wm_state.specs.Editing.{entry_of}
use Rattle.wm_state.specs.declared.edit.NewEntry.{NewEntry}
use Rattle.wm_state.specs.declared.edit.NewLock.{NewLock}
use Rattle.wm_change.proofs.ChangesWritten.{entries_counted, fault_by, kept_entries, made_by, parts_by, stamps_fit, writes_barred, writes_full, writes_long, writes_made, writes_spent}
use Rattle.wm_change.proofs.write_changes.write_changes.Goals as goal

pub entries_of-requires : goal.entries_of-requires
entries_of-requires c = stamps_fit c.args.site.image.now c.counters-counters.result c.args.changes c.requires.site.rules c.counters-counters.ensures

-- ---- what was counted

-- entries are as many as changes
many_of : (v : Vec NewEntry Global) (k n : ℕ) → k ≡ vec_len v → length v.items ≡ n → k ≡ n
many_of v k n is same = omega (arith, is, v.ok.0, same)

left_of : (v : Vec NewEntry Global) (stamp limit k n : ℕ) (b : Bool) → k ≡ vec_len v → nat_le (stamp + k) limit ≡ b → length v.items ≡ n → nat_le (stamp + n) limit ≡ b
left_of v stamp limit k n b is left same = ap (λ i. nat_le (stamp + i) limit) (sym (many_of v k n is same)) ∙ left

long_of : (given entries : List NewEntry) (log n : ℕ) (b : Bool) → given ≡ entries → nat_lt counter_limit (log + length given) ≡ b → length entries ≡ n → nat_lt counter_limit (log + n) ≡ b
long_of given entries log n b is long same = ap (λ i. nat_lt counter_limit (log + i)) (sym (ap length is ∙ same)) ∙ long

room_of : (v : Vec NewLock Global) (work k : ℕ) (b : Bool) → k ≡ vec_len v → nat_lt counter_limit (work + (k + line_work)) ≡ b → nat_lt counter_limit (work + (length v.items + line_work)) ≡ b
room_of v work k b is room = ap (λ i. nat_lt counter_limit (work + (i + line_work))) (sym (same v k is)) ∙ room
  where
    same : (u : Vec NewLock Global) (i : ℕ) → i ≡ vec_len u → i ≡ length u.items
    same u i e = omega (arith, e, u.ok.0)

-- ---- what comes of it

pub returns-in-Some-clause-does : goal.returns-in-Some-clause-does
returns-in-Some-clause-does c =
    let s = c.args.site in
    let n = c.counters-counters.result in
    let v = c.in_ok-entries.entries.items in
    writes_barred s.image.now s.moment s.session.now s.table.now s.space.now n c.args.rows_changed c.args.changes.items (map entry_of v)
    (made_by s.image.now s.moment s.session.now s.table.now s.space.now n c.args.changes.items v c.user-user.result.now c.requires.site.rules c.counters-counters.ensures c.requires.some c.in_ok-entries.ensures c.user-user.ensures.user)
    c.answered.result c.in-Some.refusal (fault_by s.image.now s.session.now c.in_ok-refusal.field-0 (Some c.in-Some.refusal) c.as_slice.result.now v c.in_ok-refusal.ensures c.in-Some.is c.as_slice.ensures.value)
    c.answered.ensures.edits (ap seating_view c.answered.ensures.seating) (ap answer_view c.answered.ensures.answer)

pub returns-then-not-are_left-clause-does : goal.returns-then-not-are_left-clause-does
returns-then-not-are_left-clause-does c =
    let s = c.args.site in
    let n = c.counters-counters.result in
    let v = c.in_ok-entries.entries.items in
    writes_full s.image.now s.moment s.session.now s.table.now s.space.now n c.args.rows_changed c.args.changes.items (map entry_of v)
    (made_by s.image.now s.moment s.session.now s.table.now s.space.now n c.args.changes.items v c.user-user.result.now c.requires.site.rules c.counters-counters.ensures c.requires.some c.in_ok-entries.ensures c.user-user.ensures.user)
    c.answered-then-not-are_left.result (fault_by s.image.now s.session.now c.in_ok-refusal.field-0 None c.as_slice.result.now v c.in_ok-refusal.ensures c.in_default.is c.as_slice.ensures.value)
    (left_of c.in_ok-entries.entries n.next_stamp (n.limit + 1) c.len.result (length c.args.changes.items) false c.len.ensures (sym c.if-not-are_left.ensures) (entries_counted n.next_stamp s.moment c.user-user.result.now s.table.now c.args.changes.items v c.in_ok-entries.ensures))
    c.answered-then-not-are_left.ensures.edits (ap seating_view c.answered-then-not-are_left.ensures.seating) (ap answer_view c.answered-then-not-are_left.ensures.answer ∙ c.change_limit.ensures)

pub returns-then-is_long-clause-does : goal.returns-then-is_long-clause-does
returns-then-is_long-clause-does c =
    let s = c.args.site in
    let n = c.counters-counters.result in
    let v = c.in_ok-entries.entries.items in
    writes_long s.image.now s.moment s.session.now s.table.now s.space.now n c.args.rows_changed c.args.changes.items (map entry_of v)
    (made_by s.image.now s.moment s.session.now s.table.now s.space.now n c.args.changes.items v c.user-user.result.now c.requires.site.rules c.counters-counters.ensures c.requires.some c.in_ok-entries.ensures c.user-user.ensures.user)
    c.answered-then-is_long.result (fault_by s.image.now s.session.now c.in_ok-refusal.field-0 None c.as_slice.result.now v c.in_ok-refusal.ensures c.in_default.is c.as_slice.ensures.value)
    (left_of c.in_ok-entries.entries n.next_stamp (n.limit + 1) c.len.result (length c.args.changes.items) true c.len.ensures (sym c.if-not-are_left.ensures) (entries_counted n.next_stamp s.moment c.user-user.result.now s.table.now c.args.changes.items v c.in_ok-entries.ensures))
    (long_of c.as_slice-2.result.now v s.space.now.log_length (length c.args.changes.items) true c.as_slice-2.ensures.value (sym c.if-is_long.ensures) (entries_counted n.next_stamp s.moment c.user-user.result.now s.table.now c.args.changes.items v c.in_ok-entries.ensures))
    c.answered-then-is_long.ensures.edits (ap seating_view c.answered-then-is_long.ensures.seating) (ap answer_view c.answered-then-is_long.ensures.answer ∙ c.in_ok-at_its_end.ensures)

pub returns-then-is_spent_by-clause-does : goal.returns-then-is_spent_by-clause-does
returns-then-is_spent_by-clause-does c =
    let s = c.args.site in
    let n = c.counters-counters.result in
    let v = c.in_ok-entries.entries.items in
    writes_spent s.image.now s.moment s.session.now s.table.now s.space.now n c.args.rows_changed c.args.changes.items (map entry_of v)
    (made_by s.image.now s.moment s.session.now s.table.now s.space.now n c.args.changes.items v c.user-user.result.now c.requires.site.rules c.counters-counters.ensures c.requires.some c.in_ok-entries.ensures c.user-user.ensures.user)
    c.answered-then-is_spent_by.result c.in_ok-parts.parts.items (fault_by s.image.now s.session.now c.in_ok-refusal.field-0 None c.as_slice.result.now v c.in_ok-refusal.ensures c.in_default.is c.as_slice.ensures.value) (parts_by s.image.now s.session.now c.in_ok-parts.parts.items c.as_slice-3.result.now v c.in_ok-parts.ensures c.as_slice-3.ensures.value)
    (left_of c.in_ok-entries.entries n.next_stamp (n.limit + 1) c.len.result (length c.args.changes.items) true c.len.ensures (sym c.if-not-are_left.ensures) (entries_counted n.next_stamp s.moment c.user-user.result.now s.table.now c.args.changes.items v c.in_ok-entries.ensures))
    (long_of c.as_slice-2.result.now v s.space.now.log_length (length c.args.changes.items) false c.as_slice-2.ensures.value (sym c.if-is_long.ensures) (entries_counted n.next_stamp s.moment c.user-user.result.now s.table.now c.args.changes.items v c.in_ok-entries.ensures))
    (room_of c.in_ok-parts.parts n.work c.len-2.result true c.len-2.ensures (sym c.if-is_spent_by.ensures))
    c.answered-then-is_spent_by.ensures.edits (ap seating_view c.answered-then-is_spent_by.ensures.seating) (ap answer_view c.answered-then-is_spent_by.ensures.answer ∙ c.in_ok-at_its_end-2.ensures)

pub returns-clause-does : goal.returns-clause-does
returns-clause-does c =
    let s = c.args.site in
    let n = c.counters-counters.result in
    let v = c.in_ok-entries.entries.items in
    writes_made s.image.now s.moment s.session.now s.table.now s.space.now n c.args.rows_changed c.args.changes.items (map entry_of v)
    (made_by s.image.now s.moment s.session.now s.table.now s.space.now n c.args.changes.items v c.user-user.result.now c.requires.site.rules c.counters-counters.ensures c.requires.some c.in_ok-entries.ensures c.user-user.ensures.user)
    (record { edits = c.in_ok-edits.edits; seating = seatings.Stay; answer = answers.Done c.args.rows_changed }) v c.in_ok-parts.parts.items refl (fault_by s.image.now s.session.now c.in_ok-refusal.field-0 None c.as_slice.result.now v c.in_ok-refusal.ensures c.in_default.is c.as_slice.ensures.value) (parts_by s.image.now s.session.now c.in_ok-parts.parts.items c.as_slice-3.result.now v c.in_ok-parts.ensures c.as_slice-3.ensures.value)
    (record {
      some = c.requires.some;
      there = c.requires.site.there;
      on = c.requires.site.on;
      fit = c.requires.fit;
      last = c.requires.last;
      keys = c.requires.keys;
      kept = kept_entries n.next_stamp s.moment s.session.now.user s.table.now c.args.changes.items c.requires.filled;
      user_short = c.user-user.ensures.short;
      space = c.requires.site.home;
      one = c.counters-counters.ensures;
      left = (left_of c.in_ok-entries.entries n.next_stamp (n.limit + 1) c.len.result (length c.args.changes.items) true c.len.ensures (sym c.if-not-are_left.ensures) (entries_counted n.next_stamp s.moment c.user-user.result.now s.table.now c.args.changes.items v c.in_ok-entries.ensures));
      short = (long_of c.as_slice-2.result.now v s.space.now.log_length (length c.args.changes.items) false c.as_slice-2.ensures.value (sym c.if-is_long.ensures) (entries_counted n.next_stamp s.moment c.user-user.result.now s.table.now c.args.changes.items v c.in_ok-entries.ensures));
      room = (room_of c.in_ok-parts.parts n.work c.len-2.result false c.len-2.ensures (sym c.if-is_spent_by.ensures));
      early = early s.moment c.requires.site.moment;
    })
    c.in_ok-edits.ensures refl refl
