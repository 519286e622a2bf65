-- The periods of the changes of shown rows last.
use Rattle.std.proofs.Common.{◌≡◌, ℕ, ◌<◌, ◌≤◌, min, max, true, nat_lt, nat_le, List, [], ◌∷◌, map, refl, arith}
use Rattle.std.proofs.lemmas.Bool.{and_from, and_parts, le-leb, leb-true, lt-ltb, ltb-true}
use Rattle.std.specs.Prelude.{◌&&◌}
use Rattle.std.specs.List.{list_all}
use Rattle.wm_base.specs.Period.{Span, overlaps, shared}
use Rattle.wm_base.specs.declared.instant.TheConstants.{END}
use Rattle.wm_base.specs.declared.row.Row.{Row}
use Rattle.wm_base.specs.declared.value.Value.{Value}
use Rattle.wm_spec.specs.declared.record.table.Table.{Table}
use Rattle.wm_dml.specs.Changing.{row_period, all_overlap, gone, replacing}
use Rattle.wm_dml.specs.Standing.{is_lasting, is_shown, all_stand, change_lasts}
use Rattle.wm_dml.proofs.ShownRows.{shown_lasts}

pub lasts_so : (p : Span) → p.from < p.till → p.till ≤ END → is_lasting p ≡ true
lasts_so p order bound = and_from _ _ (lt-ltb p.from p.till order) (le-leb p.till END bound)

between : (most a b c d : ℕ) → (nat_lt a b && nat_le b most) ≡ true → (nat_lt c d && nat_le d most) ≡ true → (nat_lt a d && nat_lt c b) ≡ true → (nat_lt (max a c) (min b d) && nat_le (min b d) most) ≡ true
between most a b c d one other both =
    let p = and_parts (nat_lt a b) (nat_le b most) one in
    let q = and_parts (nat_lt c d) (nat_le d most) other in
    let r = and_parts (nat_lt a d) (nat_lt c b) both in
    let ab = ltb-true a b p.0 in
    let cd = ltb-true c d q.0 in
    let ad = ltb-true a d r.0 in
    let cb = ltb-true c b r.1 in
    let end = leb-true b most p.1 in
    and_from _ _ (lt-ltb (max a c) (min b d) (omega arith)) (le-leb (min b d) most (omega arith))

-- what two periods share lasts, where they overlap
pub shared_lasts : (p q : Span) → is_lasting p ≡ true → is_lasting q ≡ true → overlaps p q ≡ true → is_lasting (shared p q) ≡ true
shared_lasts p q one other both = between END p.from p.till q.from q.till one other both

pub gone_last : (t : Table) (within : Span) (rows : List Row) → is_lasting within ≡ true → all_overlap t within rows ≡ true → all_stand t rows ≡ true → list_all change_lasts (map (gone t within) rows) ≡ true
gone_last t within [] last overlap stand = refl
gone_last t within (row ∷ rows) last overlap stand =
    let here = and_parts (overlaps (row_period t row) within) (all_overlap t within rows) overlap in
    let shown = and_parts (is_shown t row.values) (all_stand t rows) stand in
    and_from _ _ (shared_lasts (row_period t row) within (shown_lasts t row shown.0) last here.0) (gone_last t within rows last here.1 shown.1)

pub replaced_last : (t : Table) (within : Span) (olds : List Row) (news : List (List Value)) → is_lasting within ≡ true → all_overlap t within olds ≡ true → all_stand t olds ≡ true →
    list_all change_lasts (replacing t within olds news) ≡ true
replaced_last t within [] news last overlap stand = refl
replaced_last t within (old ∷ olds) [] last overlap stand = refl
replaced_last t within (old ∷ olds) (row ∷ news) last overlap stand =
    let here = and_parts (overlaps (row_period t old) within) (all_overlap t within olds) overlap in
    let shown = and_parts (is_shown t old.values) (all_stand t olds) stand in
    and_from _ _ (shared_lasts (row_period t old) within (shown_lasts t old shown.0) last here.0) (replaced_last t within olds news last here.1 shown.1)
