-- Events told from the last on, with what they wrote by key.
use Rattle.std.proofs.Common.{◌≡◌, ℕ, Bool, true, false, cond, ◌&&◌, List, [], ◌∷◌, ◌++◌, map, reverse, Option, Some, None, refl, sym, ap, subst, ◌∙◌, append_assoc}
use Rattle.std.proofs.lemmas.List.{map-append, reverse-append}
use Rattle.std.proofs.lemmas.List.Elements.{filter_map-append}
use Rattle.std.proofs.lemmas.Bool.{true≢false}
use Rattle.std.specs.List.{filter_map, find}
use Rattle.std.specs.Option.{option_and_then, option_map}
use Rattle.std.specs.Ordering.{is_eq}
use Rattle.wm_base.specs.Key.{key_order}
use Rattle.wm_base.specs.declared.row.Row.{Row}
use Rattle.wm_base.specs.declared.value.Value.{Value}
use Rattle.wm_graph.specs.Parts.{Parts, as_hist, parts_of}
use Rattle.wm_index.specs.Kinds.{kind_at}
use Rattle.wm_spec.specs.Records.{record_at}
use Rattle.wm_spec.specs.declared.record.Record.{Record}
use Rattle.wm_spec.specs.declared.record.hist.Hist.{Hist}
use Rattle.wm_spec.specs.declared.record.stored.Stored.{Stored}
use Rattle.wm_spec.specs.declared.record.table.Table.{Table}
use Rattle.wm_view_rows.specs.History.{event_by}
use Rattle.wm_view_rows.specs.Rows.{Event, history_row, history_rows, retired, shares}
use Rattle.wm_history.specs.Later.{AreTold, Noted, events_at, last_over, meets, row_before, written_as, written_at}
use Rattle.wm_history.specs.declared.later.Written.{Written}
use Rattle.wm_state.proofs.Laying.{key_same, key_itself}

-- ---- keys

-- a test for one key, either way
either_way : (k q : List Value) (b : Bool) → is_eq (key_order k q) ≡ b → is_eq (key_order q k) ≡ b
either_way k q true tie = subst (λ l. is_eq (key_order l k) ≡ true) (key_same k q tie) (key_itself k)
either_way k q false apart = by_test (is_eq (key_order q k)) refl
  where
    by_test : (b : Bool) → is_eq (key_order q k) ≡ b → is_eq (key_order q k) ≡ false
    by_test false is = is
    by_test true tie = absurd (true≢false (sym (subst (λ l. is_eq (key_order l q) ≡ true) (key_same q k tie) (key_itself q)) ∙ apart))

-- ---- what was written last

last-push : (from till : ℕ) (ws : List Written) (w : Written) → last_over from till (ws ++ w ∷ []) ≡ option_map (λ (v : Written). v.moment) (cond (meets from till w) (Some w) (find (meets from till) (reverse ws)))
last-push from till ws w = ap (λ vs. option_map (λ (v : Written). v.moment) (find (meets from till) vs)) (reverse-append ws (w ∷ []))

-- an event behind which another is known as well
over_more : (p : Parts) (x : Hist) (done : List Event) (noted next : Noted) → ((e : Event) → last_over e.from e.till (written_at noted e.key) ≡ retired e done)
    → ((key : List Value) → written_at next key ≡ cond (is_eq (key_order x.cells.key key)) (written_at noted x.cells.key ++ written_as x ∷ []) (written_at noted key))
    → (e : Event) → last_over e.from e.till (written_at next e.key) ≡ retired e (event_by p x ∷ done)
over_more p x done noted next over wrote e = ap (last_over e.from e.till) (wrote e.key) ∙ by_key (is_eq (key_order x.cells.key e.key)) refl
  where
    f : Event
    f = event_by p x

    moment : Option Event → Option ℕ
    moment o = option_map (λ (d : Event). d.moment) o

    by_key : (b : Bool) → is_eq (key_order x.cells.key e.key) ≡ b
        → last_over e.from e.till (cond b (written_at noted x.cells.key ++ written_as x ∷ []) (written_at noted e.key)) ≡ moment (cond (shares e f) (Some f) (find (shares e) done))
    by_key false apart = over e ∙ ap (λ b. moment (cond (b && meets e.from e.till (written_as x)) (Some f) (find (shares e) done))) (sym (either_way x.cells.key e.key false apart))
    by_key true tie =
        last-push e.from e.till (written_at noted x.cells.key) (written_as x)
        ∙ by_time (meets e.from e.till (written_as x)) (ap (λ k. last_over e.from e.till (written_at noted k)) (key_same x.cells.key e.key tie) ∙ over e)
        ∙ ap (λ b. moment (cond (b && meets e.from e.till (written_as x)) (Some f) (find (shares e) done))) (sym (either_way x.cells.key e.key true tie))
      where
        by_time : (m : Bool) → last_over e.from e.till (written_at noted x.cells.key) ≡ retired e done
            → option_map (λ (v : Written). v.moment) (cond m (Some (written_as x)) (find (meets e.from e.till) (reverse (written_at noted x.cells.key)))) ≡ moment (cond (true && m) (Some f) (find (shares e) done))
        by_time true rest = refl
        by_time false rest = rest

-- so it is with its row behind theirs
pub told_more : (workspace : List ℕ) (t : Table) (p : Parts) (x : Hist) (done : List Event) (noted next : Noted) (rows more : List Row) → AreTold workspace t done noted rows → more ≡ rows ++ row_before workspace t noted (event_by p x) ∷ []
    → ((key : List Value) → written_at next key ≡ cond (is_eq (key_order x.cells.key key)) (written_at noted x.cells.key ++ written_as x ∷ []) (written_at noted key))
    → AreTold workspace t (event_by p x ∷ done) next more
told_more workspace t p x done noted next rows more told is wrote = record {
  are =
      is
      ∙ ap (λ o. rows ++ history_row workspace t (event_by p x) o ∷ []) (told.over (event_by p x))
      ∙ ap (λ rs. rs ++ history_row workspace t (event_by p x) (retired (event_by p x) done) ∷ []) told.are
      ∙ sym (reverse-append (history_row workspace t (event_by p x) (retired (event_by p x) done) ∷ []) (history_rows workspace t done));
  over = over_more p x done noted next told.over wrote;
}

-- ---- the events of ids

pub events_none : (ss : List Stored) (id : ℕ) → option_and_then as_hist (record_at ss id) ≡ None → events_at ss (id ∷ []) ≡ []
events_none ss id none = by_record (record_at ss id) refl none
  where
    by_record : (o : Option Record) → record_at ss id ≡ o → option_and_then as_hist o ≡ None → events_at ss (id ∷ []) ≡ []
    by_record None is e = rw is refl
    by_record (Some r) is e = rw (is, e) refl

pub events_one : (ss : List Stored) (id : ℕ) (x : Hist) → option_and_then as_hist (record_at ss id) ≡ Some x → events_at ss (id ∷ []) ≡ event_by (parts_of ss) x ∷ []
events_one ss id x some = by_record (record_at ss id) refl some
  where
    by_record : (o : Option Record) → record_at ss id ≡ o → option_and_then as_hist o ≡ Some x → events_at ss (id ∷ []) ≡ event_by (parts_of ss) x ∷ []
    by_record None is e = cc
    by_record (Some r) is e = rw (is, e) refl

events-append : (ss : List Stored) (xs ys : List ℕ) → events_at ss (xs ++ ys) ≡ events_at ss xs ++ events_at ss ys
events-append ss xs ys =
    ap (λ (rs : List Record). map (event_by (parts_of ss)) (filter_map as_hist rs)) (filter_map-append (record_at ss) xs ys)
    ∙ ap (map (event_by (parts_of ss))) (filter_map-append as_hist (filter_map (record_at ss) xs) (filter_map (record_at ss) ys))
    ∙ map-append (event_by (parts_of ss)) (kind_at as_hist ss xs) (kind_at as_hist ss ys)

-- ---- the loop

-- those of the ids that are left are told next
pub record GoesOn (ss : List Stored) (workspace : List ℕ) (t : Table) (ids left : List ℕ) (noted : Noted) (rows : List Row) : Type 0 where
  pub done : List Event
  pub split : events_at ss ids ≡ events_at ss left ++ done
  pub told : AreTold workspace t done noted rows

pub goes_first : (ss : List Stored) (workspace : List ℕ) (t : Table) (ids : List ℕ) (noted : Noted) (rows : List Row) → noted ≡ [] → rows ≡ [] → GoesOn ss workspace t ids ids noted rows
goes_first ss workspace t ids noted rows no_keys no_rows = record {
  done = [];
  split = sym (append-nil (events_at ss ids));
  told = record { are = no_rows; over = λ e. ap (λ (ns : Noted). last_over e.from e.till (written_at ns e.key)) no_keys };
}
  where
    append-nil : (es : List Event) → es ++ [] ≡ es
    append-nil [] = refl
    append-nil (e ∷ es) = ap (λ l. e ∷ l) (append-nil es)

pub goes_on : (ss : List Stored) (workspace : List ℕ) (t : Table) (ids left rest : List ℕ) (id : ℕ) (noted next : Noted) (rows more : List Row) → left ≡ rest ++ id ∷ [] → GoesOn ss workspace t ids left noted rows
    → ((done : List Event) → AreTold workspace t done noted rows → AreTold workspace t (events_at ss (id ∷ []) ++ done) next more) → GoesOn ss workspace t ids rest next more
goes_on ss workspace t ids left rest id noted next rows more taken going step = record {
  done = events_at ss (id ∷ []) ++ going.done;
  split =
      going.split
      ∙ ap (λ (l : List ℕ). events_at ss l ++ going.done) taken
      ∙ ap (λ es. es ++ going.done) (events-append ss rest (id ∷ []))
      ∙ append_assoc (events_at ss rest) (events_at ss (id ∷ [])) going.done;
  told = step going.done going.told;
}

pub gone_through : (ss : List Stored) (workspace : List ℕ) (t : Table) (ids left : List ℕ) (noted : Noted) (rows : List Row) → left ≡ [] → GoesOn ss workspace t ids left noted rows → rows ≡ reverse (history_rows workspace t (events_at ss ids))
gone_through ss workspace t ids left noted rows none going =
    going.told.are ∙ ap (λ es. reverse (history_rows workspace t es)) (sym (going.split ∙ ap (λ (l : List ℕ). events_at ss l ++ going.done) none))
