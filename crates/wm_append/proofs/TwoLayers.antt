-- What goes and what comes of both layers: the pieces of a version, and the touches of a workspace.
use Rattle.std.proofs.Common.{◌≡◌, ℕ, true, false, not, ◌||◌, List, [], ◌∷◌, ◌++◌, Option, Some, None, is_some, refl, sym, ap, ◌∙◌}
use Rattle.std.proofs.lemmas.Bool.{and_parts, true≢false}
use Rattle.std.proofs.Math.Bool.{or-false}
use Rattle.std.specs.List.{filter_map, list_all}
use Rattle.wm_graph.specs.Parts.{Parts, as_piece, as_touch, parts_of, row_of, space_of, table_of, version_of}
use Rattle.wm_graph.specs.Rules.{collide, differ, is_piece, is_touch, keep_rules, meet}
use Rattle.wm_spec.specs.Records.{ids_differ, record_at}
use Rattle.wm_spec.specs.declared.record.Record.{Record}
use Rattle.wm_spec.specs.declared.record.Record.TheVariants as records
use Rattle.wm_spec.specs.declared.record.piece.PieceRecord.{PieceRecord}
use Rattle.wm_spec.specs.declared.record.stored.Stored.{Stored}
use Rattle.wm_state.proofs.Apart.{ruled}
use Rattle.wm_state.proofs.Appending.{all_append}
use Rattle.wm_state.specs.Batches.{AreDropped, is_dropped}
use Rattle.wm_state.specs.Drawing.{is_clear}
use Rattle.wm_state.specs.Touching.{drawn_all, drawn_as, is_unmet}
use Rattle.wm_state.specs.Writes.{keeps_both}
use Rattle.wm_written.proofs.Touching.{view-apart}
use Rattle.wm_index.proofs.Finding.{all_of}
use Rattle.wm_changes.proofs.DroppingAll.{differ-append, dropped-append}
use Rattle.wm_append.proofs.Redrawing.{dropped_there}
use Rattle.wm_append.specs.Layers.{touch_in}
use Rattle.wm_append.specs.Redraw.{IsRedrawn}
use Rattle.wm_append.specs.Views.{drawn_in, keeps_in}

-- ---- what is drawn of the records

pub pieces_seen : (ss : List Stored) → drawn_in as_piece ss ≡ (parts_of ss).pieces
unfolding parts_of
pieces_seen ss = refl

pub touches_seen : (n : ℕ) (ss : List Stored) → drawn_in (touch_in n) ss ≡ drawn_all n (parts_of ss).touches
unfolding parts_of
touches_seen n ss = by_records (all_of ss)
  where
    by_records : (rs : List Record) → filter_map (touch_in n) rs ≡ filter_map (drawn_as n) (filter_map as_touch rs)
    by_records [] = refl
    by_records (records.Touch x ∷ rs) = rw (by_records rs) refl
    by_records (_ ∷ rs) = by_records rs

-- by the rules no two of them collide
pub pieces_apart : (ss : List Stored) → keep_rules (parts_of ss) ≡ true → differ collide (drawn_in as_piece ss) ≡ true
pieces_apart ss rules =
    let p : Parts = parts_of ss in
    let r = ruled p rules in
    ap (λ (xs : List PieceRecord). differ collide xs) (pieces_seen ss)
    ∙ (and_parts (differ collide p.pieces) (list_all (is_piece (table_of p.tables) (version_of p.versions) (row_of p.rows) r.counters.next_stamp) p.pieces) r.pieces).0

pub touches_apart : (n : ℕ) (ss : List Stored) → keep_rules (parts_of ss) ≡ true → differ collide (drawn_in (touch_in n) ss) ≡ true
touches_apart n ss rules =
    let p : Parts = parts_of ss in
    let r = ruled p rules in
    ap (λ (xs : List PieceRecord). differ collide xs) (touches_seen n ss)
    ∙ view-apart n p.touches (and_parts (differ meet p.touches) (list_all (is_touch (table_of p.tables) (space_of p.spaces)) p.touches) r.touches).0

-- ---- the ids that go

-- a record that goes is drawn as a piece in one layer alone
alone : (n : ℕ) (news marks : List PieceRecord) (r : Record) → not (keeps_in as_piece (is_clear news) r) ≡ true → not (keeps_in (touch_in n) (is_clear marks) r) ≡ false
alone n news marks (records.Piece x) goes = refl
alone n news marks _ goes = absurd (true≢false (sym goes))

-- and both say of it what the two tests together do
both_say : (n : ℕ) (news marks : List PieceRecord) (r : Record)
    → (not (keeps_in as_piece (is_clear news) r) || not (keeps_in (touch_in n) (is_clear marks) r)) ≡ not (keeps_both (is_clear news) (is_unmet n marks) r)
both_say n news marks (records.Piece x) = or-false (not (is_clear news x))
both_say n news marks (records.Touch x) = refl
both_say n news marks _ = refl

-- what goes of both is told by both tests
pub both_go : (n : ℕ) (ss : List Stored) (news marks drawn traced : List PieceRecord) (gone away : List ℕ) → IsRedrawn as_piece ss news gone drawn → IsRedrawn (touch_in n) ss marks away traced
    → AreDropped (keeps_both (is_clear news) (is_unmet n marks)) (gone ++ away) ss
both_go n ss news marks drawn traced gone away pieces touches = λ id r found.
    dropped-append gone away id
    ∙ ap (λ b. b || is_dropped away id) (pieces.gone id r found)
    ∙ ap (λ b. not (keeps_in as_piece (is_clear news) r) || b) (touches.gone id r found)
    ∙ both_say n news marks r

-- and each goes once, for no record is of both
pub both_once : (n : ℕ) (ss : List Stored) (news marks drawn traced : List PieceRecord) (gone away : List ℕ) → IsRedrawn as_piece ss news gone drawn → IsRedrawn (touch_in n) ss marks away traced → ids_differ (gone ++ away) ≡ true
both_once n ss news marks drawn traced gone away pieces touches = differ-append gone away pieces.once touches.once (λ id is. by_record id is (record_at ss id) refl (dropped_there ss gone id pieces.there is))
  where
    by_record : (id : ℕ) → is_dropped gone id ≡ true → (o : Option Record) → record_at ss id ≡ o → is_some (record_at ss id) ≡ true → is_dropped away id ≡ false
    by_record id is None none some = absurd (true≢false (sym some ∙ ap is_some none))
    by_record id is (Some r) found some = touches.gone id r found ∙ alone n news marks r (sym (pieces.gone id r found) ∙ is)

-- each has a record
pub both_there : (n : ℕ) (ss : List Stored) (news marks drawn traced : List PieceRecord) (gone away : List ℕ) → IsRedrawn as_piece ss news gone drawn → IsRedrawn (touch_in n) ss marks away traced
    → list_all (λ id. is_some (record_at ss id)) (gone ++ away) ≡ true
both_there n ss news marks drawn traced gone away pieces touches = all_append (λ id. is_some (record_at ss id)) gone away pieces.there touches.there
