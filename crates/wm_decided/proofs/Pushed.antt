-- Lists to which loops put something for each item.
use Rattle.std.proofs.Common.{◌≡◌, ℕ, ◌+◌, ◌<◌, max, min, nat_lt, Bool, true, false, Option, None, Some, option_map, List, [], ◌∷◌, ◌++◌, map, length, take, get_or, refl, sym, ap, ◌∙◌, append_assoc}
use Rattle.std.proofs.lemmas.List.{append-nil, get_or_read_under, map-append, take_more}
use Rattle.std.proofs.lemmas.List.Elements.{filter_map-append}
use Rattle.std.proofs.lemmas.Option.{unwrap_or-slice_get}
use Rattle.std.specs.Bool.{then_some}
use Rattle.std.specs.List.{filter_map}
use Rattle.wm_base.specs.Period.{Span}
use Rattle.wm_net.specs.Groups.{Group}
use Rattle.wm_net.specs.Listed.{Stretch}
use Rattle.wm_period.specs.declared.piece.Piece.{Piece}
use Rattle.wm_spec.specs.Lists.{Entry, Told}
use Rattle.wm_state.specs.Editing.{entry_of, row_value, settled_by}
use Rattle.wm_state.specs.State.{Decision}
use Rattle.wm_state.specs.declared.edit.NewEntry.{NewEntry}
use Rattle.wm_state.specs.declared.edit.NewMark.{NewMark}
use Rattle.wm_decided.specs.Counted.{copies_in, copies_over, copy_in, decision_in, mark_by, nobody, place_over, places_over}
use Rattle.wm_decided.specs.Netted.{Copy, entry_copied}

-- the decision at a place, as it is read
pub decision_read : (ds : List Decision) (n : ℕ) (d : Decision) → n < length ds → d ≡ get_or ds n d → decision_in ds n ≡ d
decision_read ds n d within is = unwrap_or-slice_get ds n nobody ∙ sym (get_or_read_under ds n (length ds) d nobody is within refl)

-- an item more
pub pushed : {P S : Type 0} (G : List P → List S) (ps : List P) (i : ℕ) (p : P) (old now new more : List S) → i < length ps → p ≡ get_or ps i p → ((xs : List P) → G (xs ++ p ∷ []) ≡ G xs ++ more)
    → new ≡ now ++ more → now ≡ old ++ G (take i ps) → new ≡ old ++ G (take (i + 1) ps)
pushed G ps i p old now new more within is adds puts so =
    puts ∙ ap (λ xs. xs ++ more) so ∙ append_assoc old (G (take i ps)) more
    ∙ ap (λ xs. old ++ xs) (sym (ap G (take_more ps i p within ∙ ap (λ x. take i ps ++ x ∷ []) (sym is)) ∙ adds (take i ps)))

pub marks_more : (ds : List Decision) (place : ℕ) (g : Group) (p : Piece) (xs : List Piece)
    → map (mark_by ds place g) (places_over (xs ++ p ∷ [])) ≡ map (mark_by ds place g) (places_over xs) ++ mark_by ds place g (place_over p) ∷ []
marks_more ds place g p xs = ap (map (mark_by ds place g)) (map-append place_over xs (p ∷ [])) ∙ map-append (mark_by ds place g) (places_over xs) (place_over p ∷ [])

-- the mark of the decision at the place of a piece
pub mark_read : (ds : List Decision) (place : ℕ) (g : Group) (p : Piece) (d : Decision) (m : NewMark) → decision_in ds p.stamp.number ≡ d → m.table ≡ g.table → m.key ≡ g.key → m.period ≡ p.period
    → m.position ≡ d.position → settled_by place m ≡ mark_by ds place g (place_over p)
mark_read ds place g p d m is table key period position = rw (is, table, key, period, position) refl

over_append : (ds : List Decision) (s : Stretch ℕ) (ss : List (Stretch ℕ)) → copies_over ds (ss ++ s ∷ []) ≡ copies_over ds ss ++ copies_in s.from s.till s.value (decision_in ds s.value).copied
over_append ds s [] = append-nil (copies_in s.from s.till s.value (decision_in ds s.value).copied)
over_append ds s (x ∷ ss) =
    ap (λ (xs : List (Stretch Copy)). copies_in x.from x.till x.value (decision_in ds x.value).copied ++ xs) (over_append ds s ss)
    ∙ sym (append_assoc (copies_in x.from x.till x.value (decision_in ds x.value).copied) (copies_over ds ss) (copies_in s.from s.till s.value (decision_in ds s.value).copied))

pub entries_more : (ds : List Decision) (entry : Stretch Copy → Entry) (p : Piece) (xs : List Piece)
    → map entry (copies_over ds (places_over (xs ++ p ∷ [])))
    ≡ map entry (copies_over ds (places_over xs)) ++ map entry (copies_in p.period.from p.period.till p.stamp.number (decision_in ds p.stamp.number).copied)
entries_more ds entry p xs =
    ap (λ ss. map entry (copies_over ds ss)) (map-append place_over xs (p ∷ []))
    ∙ ap (map entry) (over_append ds (place_over p) (places_over xs))
    ∙ map-append entry (copies_over ds (places_over xs)) (copies_in p.period.from p.period.till p.stamp.number (decision_in ds p.stamp.number).copied)

-- ---- copies

abbrev pub copied_over : ℕ → Stretch Told → Span → Stretch Copy
copied_over place x period = record { from = period.from; till = period.till; value = (let c : Copy = record { place = place; told = x.value } in c) }

abbrev pub shared_of : ℕ → ℕ → Stretch Told → Option Span
shared_of from till x = then_some (nat_lt (max x.from from) (min x.till till)) (record { from = max x.from from; till = min x.till till })

pub copied_some : (from till place : ℕ) (x : Stretch Told) (period : Span) → shared_of from till x ≡ Some period → copies_in from till place (x ∷ []) ≡ copied_over place x period ∷ []
copied_some from till place x period e = by_test (nat_lt (max x.from from) (min x.till till)) e
  where
    cut : Span
    cut = record { from = max x.from from; till = min x.till till }

    by_test : (b : Bool) → then_some b cut ≡ Some period → filter_map (λ (s : Stretch Told). then_some b (copied_over place s cut)) (x ∷ []) ≡ copied_over place x period ∷ []
    by_test true e = let one : cut ≡ period = cc in ap (λ (p : Span). copied_over place x p ∷ []) one
    by_test false e = absurd (cc)

pub copied_none : (from till place : ℕ) (x : Stretch Told) → shared_of from till x ≡ None → copies_in from till place (x ∷ []) ≡ []
copied_none from till place x e = by_test (nat_lt (max x.from from) (min x.till till)) e
  where
    cut : Span
    cut = record { from = max x.from from; till = min x.till till }

    by_test : (b : Bool) → then_some b cut ≡ None → filter_map (λ (s : Stretch Told). then_some b (copied_over place s cut)) (x ∷ []) ≡ []
    by_test true e = absurd (cc)
    by_test false e = refl

pub copies_more : (from till place : ℕ) (entry : Stretch Copy → Entry) (x : Stretch Told) (xs : List (Stretch Told))
    → map entry (copies_in from till place (xs ++ x ∷ [])) ≡ map entry (copies_in from till place xs) ++ map entry (copies_in from till place (x ∷ []))
copies_more from till place entry x xs =
    ap (map entry) (filter_map-append (copy_in from till place) xs (x ∷ [])) ∙ map-append entry (copies_in from till place xs) (copies_in from till place (x ∷ []))

-- the entry of a copy
pub entry_read : (moment : ℕ) (user : List ℕ) (g : Group) (place : ℕ) (x : Stretch Told) (e : NewEntry) → e.table ≡ g.table → e.key ≡ g.key → option_map row_value e.row ≡ x.value.row
    → e.stamp ≡ x.value.stamp → e.kind ≡ x.value.kind → e.moment ≡ moment → e.user ≡ user → entry_of e ≡ entry_copied moment user g (copied_over place x e.period)
entry_read moment user g place x e table key row stamp kind at by = rw (table, key, row, stamp, kind, at, by) refl
