-- What is drawn, one table and key after another.
use Rattle.std.proofs.Common.{◌≡◌, ◌≢◌, ℕ, ◌==◌, Bool, true, false, not, ◌&&◌, ◌||◌, if◌then◌else◌, List, [], ◌∷◌, ◌++◌, append_assoc, append-nil, Option, Some, None, is_some, refl, sym, ap, subst, ◌∙◌, arith}
use Rattle.std.proofs.lemmas.Bool.{eq-eqb, eqb-true, and_from, and_parts, not-true, true≢false}
use Rattle.std.proofs.lemmas.Bool.Decides.{nat_tests}
use Rattle.std.proofs.lemmas.Cmp.{nat_cmp_total, on_total, then_total}
use Rattle.std.specs.Cmp.{IsTotalOrder}
use Rattle.std.specs.List.{filter, filter_map, flat_map, list_all}
use Rattle.std.specs.Option.{option_map_or}
use Rattle.std.specs.Ordering.{is_eq, is_lt, is_gt, nat_cmp, ordering_then}
use Rattle.std.specs.declared.cmp.Ordering.{Ordering}
use Rattle.std.specs.declared.cmp.Ordering.TheVariants.{Less, Equal, Greater}
use Rattle.wm_base.specs.Key.{key_order}
use Rattle.wm_base.specs.Orders.{key_order_total}
use Rattle.wm_base.specs.declared.value.Value.{Value}
use Rattle.wm_graph.specs.Rules.{differ, collide}
use Rattle.wm_spec.specs.Records.{record_at, ids_differ}
use Rattle.wm_spec.specs.declared.record.Record.{Record}
use Rattle.wm_spec.specs.declared.record.cell_range.CellRange.{CellRange}
use Rattle.wm_spec.specs.declared.record.piece.PieceRecord.{PieceRecord}
use Rattle.wm_spec.specs.declared.record.stored.Stored.{Stored}
use Rattle.wm_state.specs.Batches.{is_dropped, is_in, is_out}
use Rattle.wm_state.specs.ById.{Ascend}
use Rattle.wm_state.specs.Drawing.{AreDrawn, has_moments, is_clear, left_by, touched}
use Rattle.wm_state.proofs.Appending.{all_append}
use Rattle.wm_written.proofs.Drawing.{drawn-nothing}
use Rattle.wm_written.proofs.DrawingTouched.{drawn-keys, drawn-touched, is_met_by, touched-either, touched-more}
use Rattle.wm_state.proofs.Laying.{key_itself, key_same}
use Rattle.wm_state.proofs.Tests.{all_if, all_push}
use Rattle.wm_written.proofs.Touched.{clear-append, met-place, touched-passes}
use Rattle.wm_changes.proofs.Dropping.{told-with, differ-with, filter-with}
use Rattle.wm_changes.proofs.DroppingAll.{differ-append, dropped-append, there-with, there_all}
use Rattle.wm_index.proofs.Finding.{all_of, filter-kind}
use Rattle.wm_image.proofs.Lists.{taken-with}
use Rattle.wm_append.specs.Redraw.{IsRedrawn, IsAtKey, IsDraft, are_ascending, hand_cells, is_at_hand, is_left, is_of_version, is_touched, met, spot, spot_order, unmet}
use Rattle.wm_append.specs.Views.{View, drawn_in, ids_of_key, keeps_in}
use Rattle.wm_index.specs.Kinds.{kind_at}
use Rattle.wm_index.specs.Sought.{ids_with}

-- ---- tables and keys in order

lt_not_eq : (o : Ordering) → is_lt o ≡ true → is_eq o ≡ false
lt_not_eq Less e = refl
lt_not_eq Equal e = absurd (true≢false (sym e))
lt_not_eq Greater e = absurd (true≢false (sym e))

less : (o : Ordering) → is_lt o ≡ true → o ≡ Less
less Less e = refl
less Equal e = absurd (true≢false (sym e))
less Greater e = absurd (true≢false (sym e))

pub spot_total : IsTotalOrder spot_order
spot_total = then_total (on_total (λ (c : CellRange). c.table) nat_cmp_total) (on_total (λ (c : CellRange). c.key) key_order_total)

below_more : (a b c : CellRange) → is_lt (spot_order a b) ≡ true → is_lt (spot_order b c) ≡ true → is_lt (spot_order a c) ≡ true
below_more a b c first second = ap is_lt (spot_total.trans a b c (less (spot_order a b) first) (less (spot_order b c) second))

-- cells are in one place of the order where they are of one table and key
spot_same : (a b : CellRange) → is_eq (spot_order a b) ≡ ((a.table == b.table) && is_eq (key_order a.key b.key))
spot_same a b = by_table a.table b.table (key_order a.key b.key)
  where
    by_table : (m n : ℕ) (o : Ordering) → is_eq (ordering_then (nat_cmp m n) o) ≡ ((m == n) && is_eq o)
    by_table m n o = grind (arith, nat_tests)

-- and so are their table and key
spot_parts : (a b : CellRange) → is_eq (spot_order a b) ≡ true → (a.table ≡ b.table) × (a.key ≡ b.key)
spot_parts a b at =
    let h = and_parts (a.table == b.table) (is_eq (key_order a.key b.key)) (sym (spot_same a b) ∙ at) in
    (eqb-true a.table b.table h.0, key_same a.key b.key h.1)

-- a piece of a table and key below is not of this one
below_out : (version table : ℕ) (key : List Value) (x : PieceRecord) → is_lt (spot_order x.cells (spot table key)) ≡ true → is_out version table key x ≡ true
below_out version table key x lt = away (x.version == version) _ (sym (spot_same x.cells (spot table key)) ∙ lt_not_eq (spot_order x.cells (spot table key)) lt)
  where
    away : (a b : Bool) → b ≡ false → not (a && b) ≡ true
    away true b e = ap not e
    away false b e = refl

-- ---- a key is finished

-- an id that goes has a record
pub dropped_there : (ss : List Stored) (ids : List ℕ) (id : ℕ) → list_all (λ k. is_some (record_at ss k)) ids ≡ true → is_dropped ids id ≡ true → is_some (record_at ss id) ≡ true
dropped_there ss [] id there is = absurd (true≢false (sym is))
dropped_there ss (k ∷ ks) id there is = let h = and_parts (is_some (record_at ss k)) (list_all (λ j. is_some (record_at ss j)) ks) there in by_first (k == id) refl h.0 is (dropped_there ss ks id h.1)
  where
    by_first : (b : Bool) → (k == id) ≡ b → is_some (record_at ss k) ≡ true → (b || is_dropped ks id) ≡ true → (is_dropped ks id ≡ true → is_some (record_at ss id) ≡ true) → is_some (record_at ss id) ≡ true
    by_first true same own told rest = ap (λ (j : ℕ). is_some (record_at ss j)) (sym (eqb-true k id same)) ∙ own
    by_first false away own told rest = rest told

-- a record goes where its piece is touched by the new ones of the keys before or by those of this one
goes_either : (view : View) (before own : List PieceRecord) (r : Record) → (not (keeps_in view (is_clear before) r) || not (keeps_in view (is_clear own) r)) ≡ not (keeps_in view (is_clear (before ++ own)) r)
goes_either view before own r = by_view (view r)
  where
    by_view : (o : Option PieceRecord) → (not (option_map_or (is_clear before) o true) || not (option_map_or (is_clear own) o true)) ≡ not (option_map_or (is_clear (before ++ own)) o true)
    by_view None = refl
    by_view (Some x) = sym (touched-either before own x)

-- and it goes only once
goes_once : (view : View) (version table : ℕ) (key : List Value) (before own : List PieceRecord) (r : Record) → list_all (is_out version table key) before ≡ true → list_all (is_in version table key) own ≡ true
    → not (keeps_in view (is_clear before) r) ≡ true → not (keeps_in view (is_clear own) r) ≡ false
goes_once view version table key before own r outside inside = by_view (view r)
  where
    by_test : (x : PieceRecord) → is_clear before x ≡ false → (b : Bool) → is_clear own x ≡ b → not b ≡ false
    by_test x gone true clear = refl
    by_test x gone false reached =
        absurd (true≢false (sym (touched-passes (is_out version table key) (λ n y hit is. ap not (met-place n y hit version table key) ∙ is) before outside x gone)
        ∙ ap not (touched-passes (is_in version table key) (λ n y hit is. met-place n y hit version table key ∙ is) own inside x reached)))

    by_view : (o : Option PieceRecord) → not (option_map_or (is_clear before) o true) ≡ true → not (option_map_or (is_clear own) o true) ≡ false
    by_view None goes = absurd (true≢false (sym goes))
    by_view (Some x) goes = by_test x (not-true (is_clear before x) goes) (is_clear own x) refl

settled_so : (view : View) (ss : List Stored) (version table : ℕ) (key : List Value) (before own : List PieceRecord) (gone going : List ℕ) (finished hand : List PieceRecord) → differ collide (drawn_in view ss) ≡ true → IsRedrawn view ss before gone finished
    → IsRedrawn view ss own going hand → list_all (is_out version table key) before ≡ true → list_all (is_in version table key) own ≡ true → IsRedrawn view ss (before ++ own) (gone ++ going) (finished ++ hand)
settled_so view ss version table key before own gone going finished hand apart settled drawn outside inside = record {
  are = drawn-keys version table key before own (drawn_in view ss) finished hand apart settled.are drawn.are outside inside;
  gone = λ id r found.
      dropped-append gone going id
      ∙ ap (λ b. b || is_dropped going id) (settled.gone id r found)
      ∙ ap (λ b. not (keeps_in view (is_clear before) r) || b) (drawn.gone id r found)
      ∙ goes_either view before own r;
  once = differ-append gone going settled.once drawn.once (λ id is. by_record id is (record_at ss id) refl (dropped_there ss gone id settled.there is));
  there = all_append (λ id. is_some (record_at ss id)) gone going settled.there drawn.there;
}
  where
    by_record : (id : ℕ) → is_dropped gone id ≡ true → (o : Option Record) → record_at ss id ≡ o → is_some (record_at ss id) ≡ true → is_dropped going id ≡ false
    by_record id is None none some = absurd (true≢false (sym some ∙ ap is_some none))
    by_record id is (Some r) found some = drawn.gone id r found ∙ goes_once view version table key before own r outside inside (sym (settled.gone id r found) ∙ is)

settle : (view : View) (ss : List Stored) (version table : ℕ) (key : List Value) (news : List PieceRecord) (dropped left : List ℕ) (finished hand : List PieceRecord) → differ collide (drawn_in view ss) ≡ true
    → IsAtKey view ss version table key news dropped left finished hand → IsRedrawn view ss news dropped (finished ++ hand)
settle view ss version table key news dropped left finished hand apart a =
    subst (λ (xs : List PieceRecord). IsRedrawn view ss xs dropped (finished ++ hand)) (sym a.news_are)
    (subst (λ (ids : List ℕ). IsRedrawn view ss (a.before ++ a.own) ids (finished ++ hand)) (sym a.dropped_are)
    (settled_so view ss version table key a.before a.own a.gone a.going finished hand apart a.settled a.drawn
    (all_if (λ (x : PieceRecord). is_lt (spot_order x.cells (spot table key))) (is_out version table key) (below_out version table key) a.before a.below) a.here))

-- ---- a key is begun

-- nothing new touches nothing
start : (view : View) (ss : List Stored) → IsRedrawn view ss [] [] []
unfolding ids_differ
start view ss = record {
  are = subst (λ (xs : List PieceRecord). AreDrawn [] xs []) (sym (none_touched (drawn_in view ss))) drawn-nothing;
  gone = λ id r found. sym (none_goes (view r));
  once = refl;
  there = refl;
}
  where
    none_touched : (xs : List PieceRecord) → touched [] xs ≡ []
    none_touched [] = refl
    none_touched (x ∷ xs) = none_touched xs

    none_goes : (o : Option PieceRecord) → not (option_map_or (is_clear []) o true) ≡ false
    none_goes None = refl
    none_goes (Some x) = refl

-- ids of tests that say the same are the same
same_ids : (p q : Record → Bool) → ((r : Record) → p r ≡ q r) → (ss : List Stored) → ids_with p ss ≡ ids_with q ss
same_ids p q same [] = refl
same_ids p q same (s ∷ ss) = rw (same s.record) (ap (λ ids. if q s.record then s.id ∷ ids else ids) (same_ids p q same ss))

-- all of the key are left
all_left : (view : View) (version table : ℕ) (key : List Value) (r : Record) → not (keeps_in view (is_out version table key) r) ≡ is_left view version table key [] r
all_left view version table key r = by_view (view r)
  where
    by_place : (b : Bool) → not (not b) ≡ (b && true)
    by_place true = refl
    by_place false = refl

    by_view : (o : Option PieceRecord) → not (option_map_or (is_out version table key) o true) ≡ option_map_or (λ x. is_in version table key x && is_clear [] x) o false
    by_view None = refl
    by_view (Some x) = by_place (is_in version table key x)

begin : (view : View) (ss : List Stored) (version table : ℕ) (key : List Value) (news : List PieceRecord) (gone dropped left : List ℕ) (finished hand : List PieceRecord) → IsRedrawn view ss news gone finished
    → list_all (λ (x : PieceRecord). is_lt (spot_order x.cells (spot table key))) news ≡ true → dropped ≡ gone → left ≡ ids_of_key view ss version table key → hand ≡ [] → IsAtKey view ss version table key news dropped left finished hand
begin view ss version table key news gone dropped left finished hand settled below dropped_are left_are hand_is = record {
  before = news;
  own = [];
  gone = gone;
  going = [];
  news_are = sym (append-nil news);
  dropped_are = dropped_are ∙ sym (append-nil gone);
  settled = settled;
  drawn = subst (IsRedrawn view ss [] []) (sym hand_is) (start view ss);
  left_are = left_are ∙ same_ids (λ r. not (keeps_in view (is_out version table key) r)) (is_left view version table key []) (all_left view version table key) ss;
  here = refl;
  below = below;
}

-- ---- a new piece

-- a piece of the version is of its own table and key
its_own : (version : ℕ) (new : PieceRecord) → is_of_version version new ≡ true → is_in version new.cells.table new.cells.key new ≡ true
its_own version new here =
    and_from (new.version == version) ((new.cells.table == new.cells.table) && is_eq (key_order new.cells.key new.cells.key)) here
    (and_from (new.cells.table == new.cells.table) (is_eq (key_order new.cells.key new.cells.key)) (eq-eqb new.cells.table new.cells.table refl) (key_itself new.cells.key))

-- the record is drawn as a piece that the new one is the first to touch
abbrev is_first : View → List PieceRecord → PieceRecord → Record → Bool
is_first view own new r = option_map_or (is_met_by own new) (view r) false

-- of what is left it takes these
met_are : (view : View) (ss : List Stored) (version table : ℕ) (key : List Value) (own : List PieceRecord) (new : PieceRecord) → Ascend ss → is_in version table key new ≡ true
    → met view ss new (ids_with (is_left view version table key own) ss) ≡ ids_with (is_first view own new) ss
met_are view ss version table key own new sorted inside = filter-with (is_touched view new) (is_left view version table key own) (is_first view own new) (λ r. told (view r)) ss sorted
  where
    of_key : (i a c : Bool) → (c ≡ true → i ≡ true) → (a && c) ≡ ((i && a) && c)
    of_key true a c so = refl
    of_key false a true so = absurd (true≢false (sym (so refl)))
    of_key false true false so = refl
    of_key false false false so = refl

    told : (o : Option PieceRecord) → option_map_or (is_met_by own new) o false ≡ (option_map_or (λ x. is_in version table key x && is_clear own x) o false && option_map_or (collide new) o false)
    told None = refl
    told (Some x) = of_key (is_in version table key x) (is_clear own x) (collide new x) (λ hit. met-place new x hit version table key ∙ inside)

-- and leaves the others
unmet_are : (view : View) (ss : List Stored) (version table : ℕ) (key : List Value) (own : List PieceRecord) (new : PieceRecord) → Ascend ss
    → unmet view ss new (ids_with (is_left view version table key own) ss) ≡ ids_with (is_left view version table key (own ++ new ∷ [])) ss
unmet_are view ss version table key own new sorted =
    filter-with (λ o. not (is_touched view new o)) (is_left view version table key own) (is_left view version table key (own ++ new ∷ [])) (λ r. told (view r)) ss sorted
  where
    of_both : (i a c : Bool) → (i && (a && (not c && true))) ≡ ((i && a) && not c)
    of_both true true true = refl
    of_both true true false = refl
    of_both true false c = refl
    of_both false a c = refl

    told : (o : Option PieceRecord)
        → option_map_or (λ x. is_in version table key x && is_clear (own ++ new ∷ []) x) o false ≡ (option_map_or (λ x. is_in version table key x && is_clear own x) o false && not (option_map_or (collide new) o false))
    told None = refl
    told (Some x) = ap (λ b. is_in version table key x && b) (clear-append own (new ∷ []) x) ∙ of_both (is_in version table key x) (is_clear own x) (collide new x)

-- their records are drawn as the pieces that it is the first to touch
met_pieces : (view : View) (ss : List Stored) (own : List PieceRecord) (new : PieceRecord) → Ascend ss → kind_at view ss (ids_with (is_first view own new) ss) ≡ filter (is_met_by own new) (drawn_in view ss)
met_pieces view ss own new sorted = ap (filter_map view) (taken-with (is_first view own new) ss sorted) ∙ filter-kind view (is_met_by own new) (is_first view own new) (λ r. refl) (all_of ss)

-- a record goes for one new piece more where it went before, or where this one is the first to touch it
goes_more : (view : View) (own : List PieceRecord) (new : PieceRecord) (r : Record) → (not (keeps_in view (is_clear own) r) || is_first view own new r) ≡ not (keeps_in view (is_clear (own ++ new ∷ [])) r)
goes_more view own new r = by_view (view r)
  where
    by_view : (o : Option PieceRecord) → (not (option_map_or (is_clear own) o true) || option_map_or (is_met_by own new) o false) ≡ not (option_map_or (is_clear (own ++ new ∷ [])) o true)
    by_view None = refl
    by_view (Some x) = sym (touched-more own new x)

-- what went before is not touched first
goes_before : (view : View) (own : List PieceRecord) (new : PieceRecord) (r : Record) → not (keeps_in view (is_clear own) r) ≡ true → is_first view own new r ≡ false
goes_before view own new r = by_view (view r)
  where
    by_view : (o : Option PieceRecord) → not (option_map_or (is_clear own) o true) ≡ true → option_map_or (is_met_by own new) o false ≡ false
    by_view None goes = refl
    by_view (Some x) goes = ap (λ b. b && collide new x) (not-true (is_clear own x) goes)

drawn_more : (view : View) (ss : List Stored) (own : List PieceRecord) (going : List ℕ) (hand : List PieceRecord) (new : PieceRecord) → Ascend ss → differ collide (drawn_in view ss) ≡ true → has_moments new ≡ true → IsRedrawn view ss own going hand
    → IsRedrawn view ss (own ++ new ∷ []) (going ++ ids_with (is_first view own new) ss) (new ∷ flat_map (left_by new) (hand ++ filter (is_met_by own new) (drawn_in view ss)))
drawn_more view ss own going hand new sorted apart lasts so = record {
  are = drawn-touched own new (drawn_in view ss) hand apart lasts so.are;
  gone = λ id r found.
      dropped-append going (ids_with (is_first view own new) ss) id
      ∙ ap (λ b. b || is_dropped (ids_with (is_first view own new) ss) id) (so.gone id r found)
      ∙ ap (λ b. not (keeps_in view (is_clear own) r) || b) (told-with (is_first view own new) ss sorted id r found)
      ∙ goes_more view own new r;
  once = differ-append going (ids_with (is_first view own new) ss) so.once (differ-with (is_first view own new) ss sorted) (λ id is. by_record id is (record_at ss id) refl);
  there = all_append (λ id. is_some (record_at ss id)) going (ids_with (is_first view own new) ss) so.there (there_all (is_first view own new) ss);
}
  where
    by_record : (id : ℕ) → is_dropped going id ≡ true → (o : Option Record) → record_at ss id ≡ o → is_dropped (ids_with (is_first view own new) ss) id ≡ false
    by_record id is None none = there-with (is_first view own new) ss id none
    by_record id is (Some r) found = told-with (is_first view own new) ss sorted id r found ∙ goes_before view own new r (sym (so.gone id r found) ∙ is)

-- it is laid over what is at hand, and over what it is the first to touch
go_on : (view : View) (ss : List Stored) (version table : ℕ) (key : List Value) (news : List PieceRecord) (dropped left : List ℕ) (finished hand : List PieceRecord) (new : PieceRecord) → Ascend ss
    → differ collide (drawn_in view ss) ≡ true → is_in version table key new ≡ true → has_moments new ≡ true → IsAtKey view ss version table key news dropped left finished hand
    → IsAtKey view ss version table key (news ++ new ∷ []) (dropped ++ met view ss new left) (unmet view ss new left) finished (new ∷ flat_map (left_by new) (hand ++ kind_at view ss (met view ss new left)))
go_on view ss version table key news dropped left finished hand new sorted apart inside lasts a = record {
  before = a.before;
  own = a.own ++ new ∷ [];
  gone = a.gone;
  going = a.going ++ met view ss new left;
  news_are = ap (λ (xs : List PieceRecord). xs ++ new ∷ []) a.news_are ∙ append_assoc a.before a.own (new ∷ []);
  dropped_are = ap (λ (ids : List ℕ). ids ++ met view ss new left) a.dropped_are ∙ append_assoc a.gone a.going (met view ss new left);
  settled = a.settled;
  drawn = subst (λ (ids : List ℕ). IsRedrawn view ss (a.own ++ new ∷ []) (a.going ++ ids) (new ∷ flat_map (left_by new) (hand ++ kind_at view ss ids))) (sym taken)
      (subst (λ (xs : List PieceRecord). IsRedrawn view ss (a.own ++ new ∷ []) (a.going ++ ids_with (is_first view a.own new) ss) (new ∷ flat_map (left_by new) (hand ++ xs))) (sym (met_pieces view ss a.own new sorted))
      (drawn_more view ss a.own a.going hand new sorted apart lasts a.drawn));
  left_are = ap (unmet view ss new) a.left_are ∙ unmet_are view ss version table key a.own new sorted;
  here = all_push (is_in version table key) a.own new a.here inside;
  below = a.below;
}
  where
    taken : met view ss new left ≡ ids_with (is_first view a.own new) ss
    taken = ap (met view ss new) a.left_are ∙ met_are view ss version table key a.own new sorted inside

-- ---- drafts

-- what is drawn of all keys, that at hand too
pub draft_ends : (view : View) (ss : List Stored) (version : ℕ) (news : List PieceRecord) (dropped left : List ℕ) (finished hand : List PieceRecord) → differ collide (drawn_in view ss) ≡ true
    → IsDraft view ss version news dropped left finished hand → IsRedrawn view ss news dropped (finished ++ hand)
draft_ends view ss version news dropped left finished [] apart so =
    subst (λ (xs : List PieceRecord). IsRedrawn view ss xs dropped (finished ++ [])) (sym so.0)
    (subst (λ (ids : List ℕ). IsRedrawn view ss [] ids (finished ++ [])) (sym so.1) (subst (λ (xs : List PieceRecord). IsRedrawn view ss [] [] (xs ++ [])) (sym so.2) (start view ss)))
draft_ends view ss version news dropped left finished (x ∷ xs) apart a = settle view ss version x.cells.table x.cells.key news dropped left finished (x ∷ xs) apart a

-- the new piece is of the table and the key at hand
pub draft_on : (view : View) (ss : List Stored) (version : ℕ) (news : List PieceRecord) (dropped left : List ℕ) (finished hand : List PieceRecord) (new : PieceRecord) → Ascend ss → differ collide (drawn_in view ss) ≡ true
    → is_of_version version new ≡ true → has_moments new ≡ true → is_at_hand hand new.cells ≡ true → IsDraft view ss version news dropped left finished hand
    → IsDraft view ss version (news ++ new ∷ []) (dropped ++ met view ss new left) (unmet view ss new left) finished (new ∷ flat_map (left_by new) (hand ++ kind_at view ss (met view ss new left)))
draft_on view ss version news dropped left finished [] new sorted apart here lasts at so = absurd (true≢false (sym at))
draft_on view ss version news dropped left finished (x ∷ xs) new sorted apart here lasts at so =
    let same = spot_parts x.cells new.cells at in
    go_on view ss version new.cells.table new.cells.key news dropped left finished (x ∷ xs) new sorted apart (its_own version new here) lasts
    (subst (λ (t : ℕ). IsAtKey view ss version t new.cells.key news dropped left finished (x ∷ xs)) same.0
    (subst (λ (k : List Value). IsAtKey view ss version x.cells.table k news dropped left finished (x ∷ xs)) same.1 so))

-- all that are drawn are below a piece that may follow and is not of the table and key at hand
all_below : (view : View) (ss : List Stored) (version : ℕ) (news : List PieceRecord) (dropped left : List ℕ) (finished hand : List PieceRecord) (new : PieceRecord) → is_at_hand hand new.cells ≡ false
    → are_ascending (hand_cells hand ++ new.cells ∷ []) ≡ true → IsDraft view ss version news dropped left finished hand → list_all (λ (x : PieceRecord). is_lt (spot_order x.cells new.cells)) news ≡ true
all_below view ss version news dropped left finished [] new at up so = ap (list_all (λ (x : PieceRecord). is_lt (spot_order x.cells new.cells))) so.0
all_below view ss version news dropped left finished (x ∷ xs) new at up a =
    ap (list_all (λ (y : PieceRecord). is_lt (spot_order y.cells new.cells))) a.news_are
    ∙ all_append (λ (y : PieceRecord). is_lt (spot_order y.cells new.cells)) a.before a.own
    (all_if (λ (y : PieceRecord). is_lt (spot_order y.cells x.cells)) (λ (y : PieceRecord). is_lt (spot_order y.cells new.cells)) (λ y below. below_more y.cells x.cells new.cells below rises) a.before a.below)
    (all_if (is_in version x.cells.table x.cells.key) (λ (y : PieceRecord). is_lt (spot_order y.cells new.cells)) at_key a.own a.here)
  where
    below_if : (o : Ordering) → is_eq o ≡ false → (not (is_gt o) && true) ≡ true → is_lt o ≡ true
    below_if Less e f = refl
    below_if Equal e f = absurd (true≢false e)
    below_if Greater e f = absurd (true≢false (sym f))

    rises : is_lt (spot_order x.cells new.cells) ≡ true
    rises = below_if (spot_order x.cells new.cells) at up

    at_key : (y : PieceRecord) → is_in version x.cells.table x.cells.key y ≡ true → is_lt (spot_order y.cells new.cells) ≡ true
    at_key y inside =
        let h = and_parts (y.version == version) ((y.cells.table == x.cells.table) && is_eq (key_order y.cells.key x.cells.key)) inside in
        let k = and_parts (y.cells.table == x.cells.table) (is_eq (key_order y.cells.key x.cells.key)) h.1 in
        ap (λ (t : ℕ). is_lt (spot_order (spot t y.cells.key) new.cells)) (eqb-true y.cells.table x.cells.table k.0)
        ∙ ap (λ (j : List Value). is_lt (spot_order (spot x.cells.table j) new.cells)) (key_same y.cells.key x.cells.key k.1)
        ∙ rises

-- it is of a table and key above, which are begun
pub draft_begun : (view : View) (ss : List Stored) (version : ℕ) (news : List PieceRecord) (dropped left : List ℕ) (finished hand : List PieceRecord) (gone begun : List ℕ) (done nothing : List PieceRecord) (new : PieceRecord)
    → Ascend ss → differ collide (drawn_in view ss) ≡ true → is_of_version version new ≡ true → has_moments new ≡ true → is_at_hand hand new.cells ≡ false → are_ascending (hand_cells hand ++ new.cells ∷ []) ≡ true
    → gone ≡ dropped → begun ≡ ids_of_key view ss version new.cells.table new.cells.key → done ≡ finished ++ hand → nothing ≡ [] → IsDraft view ss version news dropped left finished hand
    → IsDraft view ss version (news ++ new ∷ []) (gone ++ met view ss new begun) (unmet view ss new begun) done (new ∷ flat_map (left_by new) (nothing ++ kind_at view ss (met view ss new begun)))
draft_begun view ss version news dropped left finished hand gone begun done nothing new sorted apart here lasts at up gone_is begun_is done_is nothing_is so =
    go_on view ss version new.cells.table new.cells.key news gone begun done nothing new sorted apart (its_own version new here) lasts
    (begin view ss version new.cells.table new.cells.key news dropped gone begun done nothing (subst (IsRedrawn view ss news dropped) (sym done_is) (draft_ends view ss version news dropped left finished hand apart so))
    (all_below view ss version news dropped left finished hand new at up so) gone_is begun_is nothing_is)
