-- What a plan that gives rows new periods does.
use Rattle.std.proofs.Common.{◌≡◌, ℕ, ◌≤◌, ◌<◌, ◌-◌, ◌&&◌, true, List, [], ◌∷◌, length, get_or, take, drop, map, Option, Some, None, Result, IfOk, refl, sym, ap, subst, ◌∙◌, Vec, Global, vec_len, arith}
use Rattle.std.proofs.lemmas.List.{take_all}
use Rattle.std.proofs.lemmas.Option.{none-some, same_Some}
use Rattle.std.proofs.lemmas.Bool.{and_from, and_parts}
use Rattle.std.specs.List.{list_all}
use Rattle.std.specs.Option.{option_map, option_or}
use Rattle.wm_base.specs.Period.{Span}
use Rattle.wm_syntax.specs.Trees.{Set}
use Rattle.wm_base.specs.declared.memory.Memory.{Memory}
use Rattle.wm_base.specs.declared.row.Row.{Row}
use Rattle.wm_base.specs.declared.value.Value.{Value}
use Rattle.wm_dml.specs.Changing.{row_key}
use Rattle.wm_dml.specs.Moving.{clash_in, left_part, move_of, moved_row, moves_of, moving, shifts_of, shifts_under}
use Rattle.wm_dml.specs.Standing.{is_change, stands_in}
use Rattle.wm_dml.specs.declared.moving.Move.{Move}
use Rattle.wm_dml.specs.declared.moving.Shift.{Shift}
use Rattle.wm_graph.specs.Parts.{Parts, parts_of}
use Rattle.wm_graph.specs.Rules.{is_key, is_key_of, is_row_of, keep_rules, key_of}
use Rattle.wm_version_rows.specs.Listing.{AreSpans}
use Rattle.wm_making.specs.Rows.{is_filled}
use Rattle.wm_spec.specs.Lists.{Entry}
use Rattle.wm_spec.specs.Stretches.{Stretch, rows_of_key}
use Rattle.wm_spec.specs.declared.record.space.Space.{Space}
use Rattle.wm_spec.specs.declared.record.stored.Stored.{Stored}
use Rattle.wm_spec.specs.declared.record.table.Table.{Table}
use Rattle.wm_state.proofs.Listed.{HoldsAll, key_rows}
use Rattle.wm_state.specs.Listing.{span_on}
use Rattle.wm_state.specs.Standing.{Newest, latest}
use Rattle.wm_state.specs.State.{State, Session, Workspace, content}
use Rattle.wm_model.proofs.Changing.{moves_new, moves_there}
use Rattle.wm_model.proofs.Filled.{filled_key}
use Rattle.wm_model.specs.Planning.{StandsAt, Stay}
use Rattle.wm_model.specs.Step.{clash_at, first_clash, key_there, move_all, write_ascending}
use Rattle.wm_change.proofs.Acting.{does_answer, does_known}
use Rattle.wm_change.specs.Acting.{DoesAs, IsHome}
use Rattle.wm_change.specs.Changing.{is_filled_change}
use Rattle.wm_change.specs.Moved.{AreShifts, Finds, NoneAt}
use Rattle.wm_plan.specs.Views.{answer_view, seating_view}
use Rattle.wm_plan.specs.declared.planned.Planned.{Planned}

-- ---- what new periods overlap

-- a clash with its key
abbrev under : List Value → Option Span → Option (List Value × Span)
under key found = option_map (λ (p : Span). (key, p)) found

-- a clash with the key of the row that moves
abbrev keyed : Move → Option Span → Option (List Value × Span)
keyed m found = under m.key found

-- where the rows of a key stand as the version has them, what a new period overlaps is what it overlaps in a list that the version holds
pub finds_at : (p : Parts) (version : ℕ) (t : Table) (key : List Value) (spans : List Span) (shifts : List (List Value × Vec Shift Global)) (found : Option Span) → AreSpans p version t.number key spans
    → found ≡ clash_in (shifts_under shifts key) spans → (moves : List Move) (m : Move) → AreShifts shifts moves → m.key ≡ key → Finds p version (λ es. clash_at es t moves m) (under key found)
finds_at p version t key spans shifts found are is moves m of same = λ es holds.
    ap (λ k. under k (clash_in (shifts_of k moves) (map span_on (rows_of_key es t.number k)))) same
    ∙ ap (λ (ss : List Stretch). under key (clash_in (shifts_of key moves) (map span_on ss))) (key_rows p version es t.number key are.stretches holds are.are)
    ∙ ap (λ ps. under key (clash_in (shifts_of key moves) ps)) (sym are.same) ∙ ap (λ xs. under key (clash_in xs spans)) (sym (of key)) ∙ ap (under key) (sym is)

-- what is found among all rows that move is what is found among those that are left
abbrev pub FindsLeft : Parts → ℕ → Table → List Move → List Move → Type 0
FindsLeft p version t moves left = (es : List Entry) → HoldsAll p version es → first_clash es t moves left ≡ first_clash es t moves moves

-- the first of those that are left, before the others
front_is : (left : List Move) (m : Move) → 1 ≤ length left → m ≡ get_or left 0 m → left ≡ m ∷ take (length left - 1) (drop 1 left)
front_is [] m some is = absurd (omega (arith, some))
front_is (x ∷ xs) m some is =
    let others : take (length (x ∷ xs) - 1) xs ≡ xs = take_all (length (x ∷ xs) - 1) xs (omega arith) in
    ap (λ (y : Move). y ∷ xs) (sym is) ∙ ap (λ (ys : List Move). m ∷ ys) (sym others)

-- the first that is left overlaps another
pub finds_here : (p : Parts) (version : ℕ) (t : Table) (moves left : List Move) (m : Move) (found : Option Span) (key : List Value) (shared : Span) → FindsLeft p version t moves left → 1 ≤ length left → m ≡ get_or left 0 m
    → Finds p version (λ es. clash_at es t moves m) (keyed m found) → found ≡ Some shared → key ≡ m.key → Finds p version (λ es. first_clash es t moves moves) (Some (key, shared))
finds_here p version t moves left m found key shared before some is one there copied = λ es holds.
    sym (before es holds) ∙ ap (first_clash es t moves) (front_is left m some is)
    ∙ ap (λ o. option_or o (first_clash es t moves (take (length left - 1) (drop 1 left)))) (one es holds ∙ ap (keyed m) there) ∙ ap (λ k. Some (k, shared)) (sym copied)

-- it overlaps none
pub finds_on : (p : Parts) (version : ℕ) (t : Table) (moves left : List Move) (m : Move) (found : Option Span) → FindsLeft p version t moves left → 1 ≤ length left → m ≡ get_or left 0 m
    → Finds p version (λ es. clash_at es t moves m) (keyed m found) → found ≡ None → FindsLeft p version t moves (take (length left - 1) (drop 1 left))
finds_on p version t moves left m found before some is one none = λ es holds.
    ap (λ o. option_or o (first_clash es t moves (take (length left - 1) (drop 1 left)))) (sym (one es holds ∙ ap (keyed m) none))
    ∙ ap (first_clash es t moves) (sym (front_is left m some is)) ∙ before es holds

-- none is left
pub finds_none : (p : Parts) (version : ℕ) (t : Table) (moves left : List Move) → FindsLeft p version t moves left → length left < 1 → Finds p version (λ es. first_clash es t moves moves) None
finds_none p version t moves [] before none = λ es holds. sym (before es holds)
finds_none p version t moves (m ∷ ms) before none = absurd (omega (arith, none))

-- before the first there is no key
pub none_before : (p : Parts) (version : ℕ) (t : Table) (moves : List Move) → NoneAt p version t moves None
none_before p version t moves = λ m is. absurd (none-some m.key is)

-- behind a key of which none was found
pub none_behind : (p : Parts) (version : ℕ) (t : Table) (moves : List Move) (key : List Value) (found : Option Span) → ((m : Move) → m.key ≡ key → Finds p version (λ es. clash_at es t moves m) (under key found)) → found ≡ None
    → NoneAt p version t moves (Some key)
none_behind p version t moves key found finds none = λ m is es holds. finds m (sym (same_Some key m.key is)) es holds ∙ ap (under key) none

-- the same of rows that are the same
pub finds_so : (p : Parts) (version : ℕ) (t : Table) (given moves : List Move) (found other : Option (List Value × Span)) → Finds p version (λ es. first_clash es t given given) found → given ≡ moves → found ≡ other
    → Finds p version (λ es. first_clash es t moves moves) other
finds_so p version t given moves found other finds same is = λ es holds. ap (λ ms. first_clash es t ms ms) (sym same) ∙ finds es holds ∙ is

-- how many there are
pub counted_moves : (v : Vec Move Global) (k : ℕ) → k ≡ vec_len v → k ≡ length v.items
counted_moves v k is = omega (arith, is)

-- ---- what is done

-- what they overlap in the newest version is what they overlap in the workspace
clash_is : (rs : List Stored) (xs : List Session) (m : ℕ) (session : Session) (a : Space) (t : Table) (moves : List Move) (version : ℕ) (found : Option (List Value × Span)) (s : State) (w : Workspace)
    → version ≡ latest (parts_of rs) session.space → Finds (parts_of rs) version (λ es. first_clash es t moves moves) found → StandsAt rs xs m s → IsHome s session a w → first_clash (content w) t moves moves ≡ found
clash_is rs xs m session a t moves version found s w newest finds st home =
    let at : Finds (parts_of rs) (latest (parts_of rs) session.space) (λ es. first_clash es t moves moves) found = subst (λ v. Finds (parts_of rs) v (λ es. first_clash es t moves moves) found) newest finds in
    at (content w) (st.stands.named.tells (latest (parts_of rs) session.space) session.space w.rebases (content w) (Newest w home.is)).holds

-- a new period overlaps that of another row
pub move_there : (rs : List Stored) (m : ℕ) (p : Planned) (session : Session) (a : Space) (t : Table) (moves : List Move) (key : List Value) (shared : Span) (version : ℕ) → keep_rules (parts_of rs) ≡ true
    → version ≡ latest (parts_of rs) session.space → Finds (parts_of rs) version (λ es. first_clash es t moves moves) (Some (key, shared))
    → p.edits.items ≡ [] → seating_view p.seating ≡ Stay → answer_view p.answer ≡ key_there key (Some shared) → DoesAs rs m session a (move_all session t moves) p
move_there rs m p session a t moves key shared version rules newest finds none seats says =
    does_answer rs m p session a (move_all session t moves) (key_there key (Some shared)) rules
    (λ xs s w st home. moves_there session t moves key shared s w (clash_is rs xs m session a t moves version (Some (key, shared)) s w newest finds st home))
    none seats says

-- none does
pub move_new : (rs : List Stored) (m : ℕ) (r : Result Planned Memory) (session : Session) (a : Space) (t : Table) (moves : List Move) (version : ℕ)
    → version ≡ latest (parts_of rs) session.space → Finds (parts_of rs) version (λ es. first_clash es t moves moves) None
    → IfOk r (DoesAs rs m session a (write_ascending session t (length moves) (moving moves))) → IfOk r (DoesAs rs m session a (move_all session t moves))
move_new rs m r session a t moves version newest finds =
    does_known rs m r session a (write_ascending session t (length moves) (moving moves)) (move_all session t moves)
    (λ xs s w st home. moves_new session t moves s w (clash_is rs xs m session a t moves version None s w newest finds st home))

-- ---- what is written

-- a part of the old period, where a row over its new one is in order
pub part_fits : (t : Table) (m : Move) (part : Span) → is_change t (moved_row m) ≡ true → is_change t (left_part m part) ≡ true
part_fits t m part fit = and_from (is_key_of m.key t) true (and_parts (is_key_of m.key t) (is_row_of m.row t && is_key m.key (key_of t m.row)) fit).0 refl

pub part_filled : (m : Move) (part : Span) → is_filled_change (moved_row m) ≡ true → is_filled_change (left_part m part) ≡ true
part_filled m part filled = and_from (list_all is_filled m.key) true (and_parts (list_all is_filled m.key) (list_all is_filled m.row) filled).0 refl

-- no text is empty in rows that stand in the table
pub moved_filled : (t : Table) (sets : List Set) (olds : List Row) (news : List (List Value)) → list_all (stands_in t) news ≡ true → list_all (λ (m : Move). is_filled_change (moved_row m)) (moves_of t sets olds news) ≡ true
moved_filled t sets [] news all = refl
moved_filled t sets (o ∷ olds) [] all = refl
moved_filled t sets (o ∷ olds) (r ∷ rs) all =
    let h = and_parts (stands_in t r) (list_all (stands_in t) rs) all in
    let k = and_parts (is_row_of r t) (is_key_of (row_key t r) t && list_all is_filled r) h.0 in
    let f = (and_parts (is_key_of (row_key t r) t) (list_all is_filled r) k.1).1 in
    and_from (is_filled_change (moved_row (move_of t sets o r))) (list_all (λ (m : Move). is_filled_change (moved_row m)) (moves_of t sets olds rs))
    (and_from (list_all is_filled (row_key t r)) (list_all is_filled r) (filled_key t r f) f) (moved_filled t sets olds rs h.1)
