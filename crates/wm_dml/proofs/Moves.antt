-- What new periods overlap, and what is written of rows that move.
use Rattle.std.proofs.Common.{◌≡◌, ◌≤◌, ◌-◌, Bool, true, false, cond, List, [], ◌∷◌, ◌++◌, length, get_or, take, drop, map, refl, sym, ap, ◌∙◌, arith}
use Rattle.std.proofs.lemmas.Bool.{and_from, and_parts}
use Rattle.std.proofs.lemmas.List.{take_all}
use Rattle.std.proofs.lemmas.List.Folds.{list_all-append, list_all-map}
use Rattle.std.specs.Prelude.{Option, not, ◌&&◌}
use Rattle.std.specs.List.{list_all, list_any, flat_map}
use Rattle.wm_base.proofs.Plain.{and_swap}
use Rattle.wm_base.specs.Period.{Span, equals}
use Rattle.wm_syntax.specs.Trees.{Set}
use Rattle.wm_base.specs.declared.row.Row.{Row}
use Rattle.wm_base.specs.declared.value.Value.{Value}
use Rattle.wm_graph.specs.Rules.{is_row_of, is_key_of}
use Rattle.wm_making.specs.Rows.{is_filled}
use Rattle.wm_ordering.specs.Sorting.{placed, sorted}
use Rattle.wm_spec.specs.declared.record.table.Table.{Table}
use Rattle.wm_temporal.specs.Uncovered.{free}
use Rattle.wm_dml.specs.Changing.{row_key}
use Rattle.wm_dml.specs.Moving.{moves_of, shifts_of, news_of, staying, shared_with, earlier, earliest, clashes, begins_before, moved_row, left_part, left_parts, goes_before, moving}
use Rattle.wm_dml.specs.Standing.{stands_in, is_change}
use Rattle.wm_dml.specs.declared.change.RowChange.{RowChange}
use Rattle.wm_dml.specs.declared.moving.Move.{Move}
use Rattle.wm_dml.specs.declared.moving.Shift.{Shift}
use Rattle.wm_dml.proofs.Changed.{same_key}

-- ---- what new periods overlap

pub earliest_append : (best : Option Span) (xs ys : List Span) → earliest best (xs ++ ys) ≡ earliest (earliest best xs) ys
earliest_append best [] ys = refl
earliest_append best (x ∷ xs) ys = earliest_append (earlier best x) xs ys

-- the first, if a row stays over it, and then the others
pub staying_on : (shifts : List Shift) (q : Span) (qs : List Span) → staying shifts (q ∷ qs) ≡ staying shifts (q ∷ []) ++ staying shifts qs
staying_on shifts q qs = by_test (list_any (λ (s : Shift). equals s.old q) shifts)
  where
    by_test : (old : Bool) → cond (not old) (q ∷ staying shifts qs) (staying shifts qs) ≡ cond (not old) (q ∷ []) [] ++ staying shifts qs
    by_test true = refl
    by_test false = refl

-- the earliest of what the first new period shares, and then of what the others do
past_first : (best : Option Span) (stay : List Span) (p : Span) (ps : List Span) →
    earliest best (clashes stay (p ∷ ps)) ≡ earliest (earliest (earliest best (shared_with p stay)) (shared_with p ps)) (clashes stay ps)
past_first best stay p ps =
    earliest_append best (shared_with p stay ++ shared_with p ps) (clashes stay ps) ∙ ap (λ o. earliest o (clashes stay ps)) (earliest_append best (shared_with p stay) (shared_with p ps))

-- the same where the first is read, and the others are cut off behind it
pub past_front : (best : Option Span) (stay news : List Span) (p : Span) → 1 ≤ length news → p ≡ get_or news 0 p →
    earliest best (clashes stay news)
    ≡ earliest (earliest (earliest best (shared_with p stay)) (shared_with p (take (length news - 1) (drop 1 news)))) (clashes stay (take (length news - 1) (drop 1 news)))
past_front best stay [] p some is = absurd (omega (arith, some))
past_front best stay (q ∷ qs) p some is =
    let others : take (length (q ∷ qs) - 1) qs ≡ qs = take_all (length (q ∷ qs) - 1) qs (omega arith) in
    past_first best stay q qs
    ∙ ap (λ r. earliest (earliest (earliest best (shared_with r stay)) (shared_with r qs)) (clashes stay qs)) (sym is)
    ∙ ap (λ rs. earliest (earliest (earliest best (shared_with p stay)) (shared_with p rs)) (clashes stay rs)) (sym others)

-- ---- new rows over new periods

pub moved_fit : (t : Table) (sets : List Set) (olds : List Row) (news : List (List Value)) → list_all (stands_in t) news ≡ true →
    list_all (λ (m : Move). is_change t (moved_row m)) (moves_of t sets olds news) ≡ true
moved_fit t sets [] news all = refl
moved_fit t sets (old ∷ olds) [] all = refl
moved_fit t sets (old ∷ olds) (row ∷ news) all =
    let parts = and_parts (stands_in t row) (list_all (stands_in t) news) all in
    let one = and_parts (is_row_of row t) (is_key_of (row_key t row) t && list_all is_filled row) parts.0 in
    let key = (and_parts (is_key_of (row_key t row) t) (list_all is_filled row) one.1).0 in
    and_from _ _ (and_from _ _ key (and_from _ _ one.0 (same_key t row key))) (moved_fit t sets olds news parts.1)

-- ---- all that is written

all-placed : {X : Type 0} (p : X → Bool) (lt : X → X → Bool) (x : X) (ys : List X) → list_all p (placed lt x ys) ≡ (p x && list_all p ys)
all-placed p lt x [] = refl
all-placed p lt x (y ∷ ys) = choose (lt y x) (all-placed p lt x ys)
  where
    choose : (b : Bool) → list_all p (placed lt x ys) ≡ (p x && list_all p ys) → list_all p (cond b (y ∷ placed lt x ys) (x ∷ y ∷ ys)) ≡ (p x && (p y && list_all p ys))
    choose true rest = ap (λ b. p y && b) rest ∙ and_swap (p y) (p x) (list_all p ys)
    choose false rest = refl

-- what holds of all holds of them in order
pub all-sorted : {X : Type 0} (p : X → Bool) (lt : X → X → Bool) (xs : List X) → list_all p (sorted lt xs) ≡ list_all p xs
all-sorted p lt [] = refl
all-sorted p lt (x ∷ xs) = all-placed p lt x (sorted lt xs) ∙ ap (λ b. p x && b) (all-sorted p lt xs)

parts_pass : (p : RowChange → Bool) (m : Move) (parts : List Span) → ((part : Span) → p (left_part m part) ≡ true) → list_all p (map (left_part m) parts) ≡ true
parts_pass p m [] each = refl
parts_pass p m (part ∷ parts) each = and_from _ _ (each part) (parts_pass p m parts each)

left_pass : (p : RowChange → Bool) (all moves : List Move) → list_all (λ (m : Move). p (moved_row m)) moves ≡ true → ((m : Move) (part : Span) → p (moved_row m) ≡ true → p (left_part m part) ≡ true) →
    list_all p (flat_map (left_parts all) moves) ≡ true
left_pass p all [] rows each = refl
left_pass p all (m ∷ ms) rows each =
    let parts = and_parts (p (moved_row m)) (list_all (λ (m : Move). p (moved_row m)) ms) rows in
    list_all-append p (left_parts all m) (flat_map (left_parts all) ms)
    ∙ and_from _ _ (parts_pass p m (free m.shift.old.from m.shift.old.till (sorted begins_before (news_of (shifts_of m.key all)))) (λ part. each m part parts.0)) (left_pass p all ms parts.1 each)

-- what holds of each row over its new period, and then of the parts of its old one, holds of all that is written
pub written_pass : (p : RowChange → Bool) (moves : List Move) → list_all (λ (m : Move). p (moved_row m)) moves ≡ true → ((m : Move) (part : Span) → p (moved_row m) ≡ true → p (left_part m part) ≡ true) →
    list_all p (moving moves) ≡ true
written_pass p moves rows each =
    all-sorted p goes_before (flat_map (left_parts moves) moves ++ map moved_row moves)
    ∙ list_all-append p (flat_map (left_parts moves) moves) (map moved_row moves)
    ∙ and_from _ _ (left_pass p moves moves rows each) (list_all-map p moved_row moves ∙ rows)
