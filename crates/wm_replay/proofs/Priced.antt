-- How many records the edits of a merge or a refresh change.
use Rattle.std.proofs.Common.{◌≡◌, ℕ, ◌+◌, ◌-◌, ◌*◌, ◌≤◌, Bool, true, false, not, cond, if◌then◌else◌, List, [], ◌∷◌, ◌++◌, map, length, Option, Some, None, refl, sym, ap, subst, ◌∙◌, arith, length-append}
use Rattle.std.proofs.lemmas.List.{length-map}
use Rattle.std.specs.List.{cons_option, filter}
use Rattle.std.specs.Option.{option_map_or}
use Rattle.wm_append.proofs.Appended.{written_places}
use Rattle.wm_append.proofs.TwoLayers.{touches_seen}
use Rattle.wm_append.specs.Appending.{AreWritten}
use Rattle.wm_append.specs.Layers.{touch_in}
use Rattle.wm_append.specs.Redraw.{IsRedrawn}
use Rattle.wm_append.specs.Views.{View, drawn_in, keeps_in}
use Rattle.wm_forked.proofs.DraftedSaved.{home_there}
use Rattle.wm_graph.specs.Parts.{parts_of, space_of}
use Rattle.wm_prices.proofs.Batch.{batch_beside}
use Rattle.wm_prices.proofs.Beside.{few_more}
use Rattle.wm_prices.proofs.Gone.{few_gone, going}
use Rattle.wm_prices.proofs.Marks.{AreUnmarked, batch_unmarked, unmarked_append, unmarked_map}
use Rattle.wm_prices.specs.Prices.{ChangesBeside, Costs, KeepsMarks, is_head, met_touches, touch_price}
use Rattle.wm_replay.proofs.Drafted.{Comes}
use Rattle.wm_spec.specs.Lists.{Entry}
use Rattle.wm_spec.specs.Records.{record_at}
use Rattle.wm_spec.specs.declared.record.Record.{Record}
use Rattle.wm_spec.specs.declared.record.Record.TheVariants as records
use Rattle.wm_spec.specs.declared.record.batch.Change.{Change}
use Rattle.wm_spec.specs.declared.record.counters.Counters.{Counters}
use Rattle.wm_spec.specs.declared.record.piece.PieceRecord.{PieceRecord}
use Rattle.wm_spec.specs.declared.record.space.Space.{Space}
use Rattle.wm_spec.specs.declared.record.stored.Stored.{Stored}
use Rattle.wm_spec.specs.declared.record.table.Table.{Table}
use Rattle.wm_spec.specs.declared.record.version.Version.{Version}
use Rattle.wm_state.proofs.Named.{space_number}
use Rattle.wm_state.specs.Batches.{drop_one, put}
use Rattle.wm_state.specs.ById.{applied}
use Rattle.wm_state.specs.Drawing.{is_clear, touched as met_by}
use Rattle.wm_state.specs.Editing.{entry_of}
use Rattle.wm_state.specs.Entries.{hist_of, hists_kept, piece_of, pieces_of}
use Rattle.wm_state.specs.Standing.{has_history}
use Rattle.wm_state.specs.Touching.{drawn_all, marks_of, trace_at}
use Rattle.wm_state.specs.Writes.{longer_by, put_all}
use Rattle.wm_state.specs.declared.edit.Edit.TheVariants as edits
use Rattle.wm_state.specs.declared.edit.NewEntry.{NewEntry}
use Rattle.wm_written.proofs.DraftedWritten.{entries_in}

-- ---- how many there are

pub length-marks : (place start : ℕ) (es : List Entry) → length (marks_of place start es) ≡ length es
length-marks place start [] = refl
length-marks place start (e ∷ es) = let rest = length-marks place (start + 1) es in omega (arith, rest)

few_hists : (tables : List Table) (n position : ℕ) (es : List Entry) → length (hists_kept tables n position es) ≤ length es
few_hists tables n position [] = omega arith
few_hists tables n position (e ∷ es) = by_history (has_history tables e.table) (few_hists tables n (position + 1) es)
  where
    by_history : (b : Bool) → length (hists_kept tables n (position + 1) es) ≤ length es
        → length (if b then hist_of n position e ∷ hists_kept tables n (position + 1) es else hists_kept tables n (position + 1) es) ≤ length (e ∷ es)
    by_history true few = omega (arith, few)
    by_history false few = omega (arith, few)

-- records that go of a layer are the pieces of it that are not kept
gone_seen : (view : View) (test : PieceRecord → Bool) (ss : List Stored) → length (going (keeps_in view test) ss) ≡ length (filter (λ (y : PieceRecord). not (test y)) (drawn_in view ss))
gone_seen view test [] = refl
gone_seen view test (s ∷ ss) = by_view (view s.record) (gone_seen view test ss)
  where
    by_view : (o : Option PieceRecord) → length (going (keeps_in view test) ss) ≡ length (filter (λ (y : PieceRecord). not (test y)) (drawn_in view ss))
        → length (cond (not (option_map_or test o true)) (s ∷ going (keeps_in view test) ss) (going (keeps_in view test) ss)) ≡ length (filter (λ (y : PieceRecord). not (test y)) (cons_option o (drawn_in view ss)))
    by_view None rest = rest
    by_view (Some y) rest = by_test (test y)
      where
        by_test : (b : Bool) → length (cond (not b) (s ∷ going (keeps_in view test) ss) (going (keeps_in view test) ss))
            ≡ length (cond (not b) (y ∷ filter (λ (z : PieceRecord). not (test z)) (drawn_in view ss)) (filter (λ (z : PieceRecord). not (test z)) (drawn_in view ss)))
        by_test true = rest
        by_test false = omega (arith, rest)

-- so the touches that go are no more than those that are met
met_gone : (rs : List Stored) (n : ℕ) (a : Space) (es : List Entry) (dropped : List ℕ) (drawn : List PieceRecord) → space_of (parts_of rs).spaces n ≡ Some a → IsRedrawn (touch_in n) rs (marks_of (a.next_place - 1) a.log_length es) dropped drawn
    → length dropped ≤ length (met_touches (parts_of rs) a es)
met_gone rs n a es dropped drawn found redrawn =
    let marks = marks_of (a.next_place - 1) a.log_length es in
    let few = few_gone rs (keeps_in (touch_in n) (is_clear marks)) dropped redrawn.gone redrawn.once redrawn.there in
    let seen = gone_seen (touch_in n) (is_clear marks) rs in
    let all = ap (λ (xs : List PieceRecord). length (met_by marks xs)) (touches_seen n rs) in
    let same = ap (λ k. length (met_by marks (drawn_all k (parts_of rs).touches))) (space_number (parts_of rs) n a found) in
    omega (arith, few, seen, all, same)

-- ---- what is written

-- beside the counters and the workspace so many records change as go and come
pub written_beside : (rs : List Stored) (n id : ℕ) (front : List Change) (counters : Counters) (space : Space) (dropped : List ℕ) (news : List Record) (changes : List Change) → space.number ≡ n
    → AreWritten rs front counters space id dropped news changes → ChangesBeside (is_head n) (length front + (length dropped + length news)) rs (applied changes rs)
written_beside rs n id front counters space dropped news changes number w =
    subst (λ (cs : List Change). ChangesBeside (is_head n) (length front + (length dropped + length news)) rs (applied cs rs)) (sym w.are)
    (batch_beside rs n w.counters_id w.space_id id w.old counters w.was space front dropped news w.counters_at w.space_at (space_number (parts_of rs) space.number w.was w.found ∙ number))

-- what a log gains: its touches and what it has of the entries, behind other records
came : (rs : List Stored) (n place : ℕ) (a : Space) (es : List Entry) (drawn : List PieceRecord) (hists front news : List Record) → Comes rs n place a es drawn hists front news → length news ≤ length front + length drawn + length es
came rs n place a es drawn hists front news c =
    let behind = ap (λ (xs : List Record). length xs) c.behind in
    let first = ap (λ (xs : List Record). length xs) c.first in
    let kept = ap (λ (xs : List Record). length xs) c.kept in
    let one = length-append c.touches hists in
    let two = length-append front (map records.Touch (map (trace_at n place) drawn)) in
    let three = length-map (map (trace_at n place) drawn) records.Touch in
    let four = length-map drawn (trace_at n place) in
    let five = length-map (hists_kept (parts_of rs).tables a.number a.log_length es) records.Hist in
    let few = few_hists (parts_of rs).tables a.number a.log_length es in
    omega (arith, behind, first, kept, one, two, three, four, five, few)

-- the workspace keeps its number
longer_number : (rs : List Stored) (n count : ℕ) (a longer : Space) → space_of (parts_of rs).spaces n ≡ Some a → longer ≡ longer_by count a → longer.number ≡ n
longer_number rs n count a longer found is = ap (λ (b : Space). b.number) is ∙ space_number (parts_of rs) n a found

price_there : (rs : List Stored) (n : ℕ) (a : Space) (es : List Entry) → space_of (parts_of rs).spaces n ≡ Some a → touch_price (parts_of rs) n es ≡ 2 * length (met_touches (parts_of rs) a es)
price_there rs n a es found = ap {B = ℕ} (λ (o : Option Space). option_map_or (λ (b : Space). 2 * length (met_touches (parts_of rs) b es)) o 0) found

-- ---- the prices

pub gain_costs : (rs : List Stored) (n place id count : ℕ) (entries : List NewEntry) (a longer : Space) (counters : Counters) (front changes : List Change) (marks drawn : List PieceRecord) (dropped : List ℕ) (hists news : List Record)
    → space_of (parts_of rs).spaces n ≡ Some a → longer ≡ longer_by count a → front ≡ [] → marks ≡ marks_of (a.next_place - 1) a.log_length (entries_in entries)
    → IsRedrawn (touch_in n) rs (marks_of (a.next_place - 1) a.log_length (entries_in entries)) dropped drawn → length drawn ≤ 2 * length marks + length dropped → Comes rs n place a (entries_in entries) drawn hists [] news
    → AreWritten rs front counters longer id dropped news changes → Costs rs (edits.Gain n entries) (applied changes rs)
gain_costs rs n place id count entries a longer counters front changes marks drawn dropped hists news found longer_is none marks_are redrawn few comes w =
    let es = entries_in entries in
    let fronts = ap (λ (xs : List Change). length xs) none in
    let many = ap (λ (xs : List PieceRecord). length xs) marks_are in
    let marked = length-marks (a.next_place - 1) a.log_length es in
    let entered = length-map entries entry_of in
    let gone = met_gone rs n a es dropped drawn found redrawn in
    let all = came rs n place a es drawn hists [] news comes in
    let price = price_there rs n a es found in
    few_more (is_head n) (length front + (length dropped + length news)) (3 * length entries + touch_price (parts_of rs) n es) rs (applied changes rs) (omega (arith, fronts, many, marked, entered, gone, all, price, few))
    (written_beside rs n id front counters longer dropped news changes (longer_number rs n count a longer found longer_is) w)

pub replay_costs : (rs : List Stored) (n place id count version : ℕ) (entries : List NewEntry) (a longer : Space) (counters : Counters) (one : Change) (front changes : List Change) (marks drawn pieces : List PieceRecord) (dropped : List ℕ) (hists first news : List Record)
    → space_of (parts_of rs).spaces n ≡ Some a → longer ≡ longer_by count a → front ≡ one ∷ [] → marks ≡ marks_of (a.next_place - 1) a.log_length (entries_in entries) → pieces ≡ pieces_of version (entries_in entries) → first ≡ map records.Piece pieces
    → IsRedrawn (touch_in n) rs (marks_of (a.next_place - 1) a.log_length (entries_in entries)) dropped drawn → length drawn ≤ 2 * length marks + length dropped → Comes rs n place a (entries_in entries) drawn hists first news
    → AreWritten rs front counters longer id dropped news changes → ChangesBeside (is_head n) (1 + 4 * length entries + touch_price (parts_of rs) n (entries_in entries)) rs (applied changes rs)
replay_costs rs n place id count version entries a longer counters one front changes marks drawn pieces dropped hists first news found longer_is none marks_are pieces_are first_is redrawn few comes w =
    let es = entries_in entries in
    let fronts = ap (λ (xs : List Change). length xs) none in
    let many = ap (λ (xs : List PieceRecord). length xs) marks_are in
    let marked = length-marks (a.next_place - 1) a.log_length es in
    let entered = length-map entries entry_of in
    let its = ap (λ (xs : List PieceRecord). length xs) pieces_are in
    let pieced = length-map es (piece_of version) in
    let firsts = ap (λ (xs : List Record). length xs) first_is in
    let first_many = length-map pieces records.Piece in
    let gone = met_gone rs n a es dropped drawn found redrawn in
    let all = came rs n place a es drawn hists first news comes in
    let price = price_there rs n a es found in
    few_more (is_head n) (length front + (length dropped + length news)) (1 + 4 * length entries + touch_price (parts_of rs) n es) rs (applied changes rs)
    (omega (arith, fronts, many, marked, entered, its, pieced, firsts, first_many, gone, all, price, few)) (written_beside rs n id front counters longer dropped news changes (longer_number rs n count a longer found longer_is) w)

-- ---- marks

-- where entries are replayed no mark comes or goes
pub replay_unmarked : (rs : List Stored) (n place id count : ℕ) (a longer : Space) (es : List Entry) (c counters : Counters) (v : Version) (front changes : List Change) (marks drawn pieces : List PieceRecord) (dropped : List ℕ) (hists first news : List Record)
    → space_of (parts_of rs).spaces n ≡ Some a → (parts_of rs).counters ≡ c ∷ [] → ((i : ℕ) → id ≤ i → record_at rs i ≡ None) → longer ≡ longer_by count a → front ≡ put id (records.Version v) ∷ [] → IsRedrawn (touch_in n) rs marks dropped drawn
    → first ≡ map records.Piece pieces → Comes rs n place a es drawn hists first news → AreWritten rs front counters longer (id + 1) dropped news changes → KeepsMarks rs (applied changes rs)
replay_unmarked rs n place id count a longer es c counters v front changes marks drawn pieces dropped hists first news found one above longer_is begins redrawn first_is comes w =
    subst (λ (cs : List Change). KeepsMarks rs (applied cs rs)) (sym (w.are ∙ ap (λ (fs : List Change). fs ++ behind) begins))
    (batch_unmarked rs w.counters_id w.space_id id (id + 1) c counters a longer (records.Version v ∷ []) (keeps_in (touch_in n) (is_clear marks)) dropped news
    (written_places rs front counters c a longer id (id + 1) dropped news changes one (home_there (parts_of rs) n a found) (ap (λ (b : Space). b.number) longer_is) above w) (omega arith) (refl, tt) redrawn.gone (λ x. refl) all)
  where
    behind : List Change
    behind = put w.counters_id (records.Counters counters) ∷ put w.space_id (records.Space longer) ∷ (map drop_one dropped ++ put_all (id + 1) news)

    front_unmarked : AreUnmarked comes.touches
    front_unmarked =
        subst AreUnmarked (sym comes.first)
        (unmarked_append first (map records.Touch (map (trace_at n place) drawn)) (subst AreUnmarked (sym first_is) (unmarked_map records.Piece (λ x. refl) pieces)) (unmarked_map records.Touch (λ x. refl) (map (trace_at n place) drawn)))

    all : AreUnmarked news
    all = subst AreUnmarked (sym comes.behind)
        (unmarked_append comes.touches hists front_unmarked (subst AreUnmarked (sym comes.kept) (unmarked_map records.Hist (λ x. refl) (hists_kept (parts_of rs).tables a.number a.log_length es))))
