-- A batch that neither has the id of a mark nor puts one leaves all marks.
use Rattle.std.proofs.Common.{◌≡◌, ℕ, ◌+◌, ◌≤◌, ◌==◌, nat_lt, Bool, true, false, not, if◌then◌else◌, List, [], ◌∷◌, ◌++◌, map, Option, Some, None, refl, sym, ap, ◌∙◌, arith}
use Rattle.std.proofs.lemmas.Bool.{eq-eqb, or_left, or_right, true≢false}
use Rattle.std.specs.Option.{option_and_then}
use Rattle.wm_graph.specs.Parts.{as_mark, parts_of}
use Rattle.wm_spec.specs.Records.{record_at}
use Rattle.wm_spec.specs.declared.record.Record.{Record}
use Rattle.wm_spec.specs.declared.record.Record.TheVariants as records
use Rattle.wm_spec.specs.declared.record.batch.Change.{Change}
use Rattle.wm_spec.specs.declared.record.counters.Counters.{Counters}
use Rattle.wm_spec.specs.declared.record.space.Space.{Space}
use Rattle.wm_spec.specs.declared.record.stored.Stored.{Stored}
use Rattle.wm_spec.specs.declared.record.trace.Trace.{Trace}
use Rattle.wm_state.proofs.ById.{Ascend-set, record_at-set}
use Rattle.wm_state.proofs.ByKind.{kinds, under_found}
use Rattle.wm_state.proofs.Settled.{Places}
use Rattle.wm_state.specs.Batches.{AllUnder, AreDropped, drop_one, is_dropped, put}
use Rattle.wm_state.specs.ById.{Ascend, applied, perhaps_before, set_at}
use Rattle.wm_state.specs.Writes.{put_all}
use Rattle.wm_prices.specs.Prices.{KeepsMarks}

-- there is no record of a mark
abbrev pub NoMark : Option Record → Type 0
NoMark o = option_and_then as_mark o ≡ None

-- ---- one change

marks_before : (id : ℕ) (o : Option Record) (ss : List Stored) → NoMark o → kinds as_mark (perhaps_before id o ss) ≡ kinds as_mark ss
marks_before id None ss none = refl
marks_before id (Some r) ss none = rw none refl

marks_set : (id : ℕ) (o : Option Record) (ss : List Stored) → NoMark o → NoMark (record_at ss id) → kinds as_mark (set_at id o ss) ≡ kinds as_mark ss
unfolding record_at
marks_set id o [] none out = marks_before id o [] none
marks_set id o (s ∷ ss) none out = by_tests (s.id == id) (nat_lt id s.id) out (marks_set id o ss none)
  where
    by_tests : (a b : Bool) → NoMark (if a then Some s.record else record_at ss id) → (NoMark (record_at ss id) → kinds as_mark (set_at id o ss) ≡ kinds as_mark ss)
        → kinds as_mark (if a then perhaps_before id o ss else (if b then perhaps_before id o (s ∷ ss) else s ∷ set_at id o ss)) ≡ kinds as_mark (s ∷ ss)
    by_tests true b here rest = marks_before id o ss none ∙ rw here refl
    by_tests false true here rest = marks_before id o (s ∷ ss) none
    by_tests false false here rest = rw (rest here) refl

-- ---- all of them

-- none of the changes has the id of a mark, or puts one
abbrev pub LeavesMarks : List Stored → List Change → Type 0
LeavesMarks ss [] = Unit {0}
LeavesMarks ss (c ∷ cs) = NoMark (record_at ss c.id) × NoMark c.becomes × LeavesMarks ss cs

-- nor is it so behind one of them
leaves_behind : (id : ℕ) (o : Option Record) (ss : List Stored) (cs : List Change) → Ascend ss → NoMark o → LeavesMarks ss cs → LeavesMarks (set_at id o ss) cs
leaves_behind id o ss [] sorted none leaves = tt
leaves_behind id o ss (c ∷ cs) sorted none leaves = (ap (option_and_then as_mark) (record_at-set id o ss sorted c.id) ∙ by_id (c.id == id), leaves.1, leaves_behind id o ss cs sorted none leaves.2)
  where
    by_id : (b : Bool) → NoMark (if b then o else record_at ss c.id)
    by_id true = none
    by_id false = leaves.0

marks_left : (cs : List Change) (ss : List Stored) → Ascend ss → LeavesMarks ss cs → kinds as_mark (applied cs ss) ≡ kinds as_mark ss
marks_left [] ss sorted leaves = refl
marks_left (c ∷ cs) ss sorted leaves =
    marks_left cs (set_at c.id c.becomes ss) (Ascend-set c.id c.becomes ss sorted) (leaves_behind c.id c.becomes ss cs sorted leaves.1 leaves.2) ∙ marks_set c.id c.becomes ss leaves.1 leaves.0

pub marks_stay : (cs : List Change) (ss : List Stored) → Ascend ss → LeavesMarks ss cs → KeepsMarks ss (applied cs ss)
unfolding parts_of
marks_stay cs ss sorted leaves = marks_left cs ss sorted leaves

-- ---- the changes of a batch

pub leaves_append : (ss : List Stored) (cs ds : List Change) → LeavesMarks ss cs → LeavesMarks ss ds → LeavesMarks ss (cs ++ ds)
leaves_append ss [] ds one two = two
leaves_append ss (c ∷ cs) ds one two = (one.0, one.1, leaves_append ss cs ds one.2 two)

-- what goes is no mark, where a test keeps all of them
leaves_dropped : (ss : List Stored) (keep : Record → Bool) (ids : List ℕ) → AreDropped keep ids ss → ((x : Trace) → keep (records.Mark x) ≡ true) → (ds : List ℕ) → ((d : ℕ) → is_dropped ds d ≡ true → is_dropped ids d ≡ true)
    → LeavesMarks ss (map drop_one ds)
leaves_dropped ss keep ids gone kept [] more = tt
leaves_dropped ss keep ids gone kept (d ∷ ds) more = (by_record (record_at ss d) refl, refl, leaves_dropped ss keep ids gone kept ds (λ k one. more k (or_right (d == k) (is_dropped ds k) one)))
  where
    by_record : (o : Option Record) → record_at ss d ≡ o → NoMark o
    by_record None found = refl
    by_record (Some (records.Mark x)) found =
        absurd (true≢false (sym (more d (or_left (d == d) (is_dropped ds d) (eq-eqb d d refl))) ∙ gone d (records.Mark x) found ∙ ap not (kept x)))
    by_record (Some _) found = refl

-- records of which none is a mark
abbrev pub AreUnmarked : List Record → Type 0
AreUnmarked [] = Unit {0}
AreUnmarked (r ∷ rs) = (as_mark r ≡ None) × AreUnmarked rs

pub unmarked_append : (rs qs : List Record) → AreUnmarked rs → AreUnmarked qs → AreUnmarked (rs ++ qs)
unmarked_append [] qs one two = two
unmarked_append (r ∷ rs) qs one two = (one.0, unmarked_append rs qs one.1 two)

pub unmarked_map : {A : Type 0} (f : A → Record) → ((x : A) → as_mark (f x) ≡ None) → (xs : List A) → AreUnmarked (map f xs)
unmarked_map f none [] = tt
unmarked_map f none (x ∷ xs) = (none x, unmarked_map f none xs)

-- where all ids are below it there is no mark at an id
none_from : (ss : List Stored) (id from : ℕ) → AllUnder id ss → id ≤ from → NoMark (record_at ss from)
none_from ss id from under le = by_record (record_at ss from) refl
  where
    by_record : (o : Option Record) → record_at ss from ≡ o → NoMark o
    by_record None found = refl
    by_record (Some r) found = let lt = under_found id ss from r under found in absurd (omega (arith, lt, le))

leaves_put : (ss : List Stored) (id from : ℕ) (rs : List Record) → AllUnder id ss → id ≤ from → AreUnmarked rs → LeavesMarks ss (put_all from rs)
leaves_put ss id from [] under le none = tt
leaves_put ss id from (r ∷ rs) under le none = (none_from ss id from under le, none.0, leaves_put ss id (from + 1) rs under (omega (arith, le)) none.1)

-- one that puts the counters and a workspace, and beside them drops some records and puts others
pub batch_unmarked : (old : List Stored) (counters_id space_id id from : ℕ) (c counters : Counters) (a space : Space) (front : List Record) (keep : Record → Bool) (ids : List ℕ) (news : List Record) → Places old counters_id space_id id c a → id ≤ from
    → AreUnmarked front → AreDropped keep ids old → ((x : Trace) → keep (records.Mark x) ≡ true) → AreUnmarked news
    → KeepsMarks old (applied (put_all id front ++ (put counters_id (records.Counters counters) ∷ put space_id (records.Space space) ∷ (map drop_one ids ++ put_all from news))) old)
batch_unmarked old counters_id space_id id from c counters a space front keep ids news at le first gone kept come =
    marks_stay _ old at.sorted
    (leaves_append old (put_all id front) _ (leaves_put old id id front at.under (omega arith) first) (
      ap (option_and_then as_mark) at.counters,
      refl,
      (
        ap (option_and_then as_mark) at.space,
        refl,
        leaves_append old (map drop_one ids) (put_all from news) (leaves_dropped old keep ids gone kept ids (λ d one. one)) (leaves_put old id from news at.under le come),
      ),
    ))
