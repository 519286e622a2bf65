-- What a session reads of a table in each state that the records stand for.
use Rattle.std.proofs.Common.{◌≡◌, ℕ, Bool, true, false, if◌then◌else◌, List, map, Option, Some, None, refl, ap, subst, ◌∙◌}
use Rattle.std.specs.Option.{option_map_or}
use Rattle.wm_base.specs.Period.{Span}
use Rattle.wm_base.specs.declared.row.Row.{Row}
use Rattle.wm_dated.proofs.Dating.{dated_showing_is}
use Rattle.wm_graph.specs.Parts.{Parts, table_of}
use Rattle.wm_graph.specs.Rules.{keep_rules}
use Rattle.wm_spec.specs.declared.record.savepoint.Savepoint.{Savepoint as Record}
use Rattle.wm_spec.specs.declared.record.space.Space.{Space}
use Rattle.wm_spec.specs.declared.record.table.Table.{Table}
use Rattle.wm_state.specs.Listing.{IsShowing}
use Rattle.wm_state.specs.Reading.{making_from, read_at, seen_from, stood_on}
use Rattle.wm_state.specs.Standing.{SavepointsStand, Stands, fields_saved, saved_as, saved_fields, saved_in}
use Rattle.wm_state.specs.State.{Durable, Stand, Latest, At, Dated, Workspace, workspace_of}
use Rattle.wm_state.proofs.Frames.{savepoints_of-found}
use Rattle.wm_state.proofs.Listed.{showing_is, showing_saved}
use Rattle.wm_state.proofs.SavedAs.{made_some, made_none}
use Rattle.wm_state.proofs.Showing.{none_shown}
use Rattle.wm_state.proofs.Spaces.{IsSpace}
use Rattle.wm_model.specs.Lawful.{LawfulSpace}
use Rattle.wm_model.specs.Planning.{version_read}
use Rattle.wm_model.specs.Sources.{Day, IsRead, Version, reading_at}
use Rattle.wm_model.specs.Step.{rows_in}

-- ---- versions

-- a version shows these rows of a table in a period
abbrev Shows : Parts → ℕ → Table → Span → List Row → Type 0
Shows p version t period out = IsShowing p version t.number t.valid period out

-- at a savepoint they are those that its version holds
read_saved : (p : Parts) (s : Durable) (n making : ℕ) (w : Workspace) (t : Table) (period : Span) (out : List Row) → keep_rules p ≡ true → Stands p s → workspace_of s.spaces n ≡ Some w
    → Shows p (version_read p n (Some making)) t period out → out ≡ rows_in period (read_at w (Some making)) t
read_saved p s n making w t period out rules st found is = by_record (saved_as p n making) refl
  where
    by_record : (o : Option Record) → saved_as p n making ≡ o → out ≡ rows_in period (read_at w (Some making)) t
    by_record None none =
        rw (made_none p s n w st found making none)
        (none_shown p t.number t.valid period out rules (subst (λ (o : Option Record). Shows p (option_map_or (λ (x : Record). x.version) o 0) t period out) none is))
    by_record (Some x) recorded =
        let k = made_some p s n w st found making x recorded in
        rw k.1
        (showing_saved p s n making w k.0 x t.number t.valid period out st found k.1 recorded (subst (λ (o : Option Record). Shows p (option_map_or (λ (x : Record). x.version) o 0) t period out) recorded is))

-- so at a savepoint or at what is newest
read_version : (p : Parts) (s : Durable) (n : ℕ) (making : Option ℕ) (w : Workspace) (t : Table) (period : Span) (out : List Row) → keep_rules p ≡ true → Stands p s → workspace_of s.spaces n ≡ Some w
    → Shows p (version_read p n making) t period out → out ≡ rows_in period (read_at w making) t
read_version p s n None w t period out rules st found is = showing_is p s n w t.number t.valid period out st found is
read_version p s n (Some making) w t period out rules st found is = read_saved p s n making w t period out rules st found is

-- ---- dates

-- the savepoint that is read on a date is the one of the records
making_same : (p : Parts) (s : Durable) (n date : ℕ) (w : Workspace) → SavepointsStand p s → workspace_of s.spaces n ≡ Some w → making_from date (map saved_fields (saved_in p n)) ≡ making_from date (map fields_saved w.savepoints)
making_same p s n date w st found = ap (making_from date) (st.same n ∙ ap (map fields_saved) (savepoints_of-found s.spaces n w found))

read_dated : (p : Parts) (s : Durable) (n date : ℕ) (a : Space) (w : Workspace) (t : Table) (period : Span) (out : List Row) → keep_rules p ≡ true → Stands p s → LawfulSpace w → IsSpace p s n a w → table_of p.tables t.number ≡ Some t
    → IsRead p a (reading_at p n (Dated date) t) t period out → out ≡ rows_in period (seen_from w (Dated date) t) t
read_dated p s n date a w t period out rules st lawful is there read = by_history t.history refl read
  where
    by_history : (b : Bool) → t.history ≡ b → IsRead p a (if b then Day date else Version (version_read p n (making_from date (map saved_fields (saved_in p n))))) t period out
        → out ≡ rows_in period (if b then stood_on date w else read_at w (making_from date (map fields_saved w.savepoints))) t
    by_history true kept day = dated_showing_is p s n date w a t period out st is.found is.recorded there kept lawful.live lawful.first day
    by_history false none version =
        read_version p s n (making_from date (map fields_saved w.savepoints)) w t period out rules st is.found
        (subst (λ (making : Option ℕ). Shows p (version_read p n making) t period out) (making_same p s n date w st.savepoints is.found) version)

-- ---- where one stands

-- what is read by one who stands so in a workspace is what stands there
pub seen_read : (p : Parts) (s : Durable) (n : ℕ) (stand : Stand) (a : Space) (w : Workspace) (t : Table) (period : Span) (out : List Row) → keep_rules p ≡ true → Stands p s → LawfulSpace w → IsSpace p s n a w
    → table_of p.tables t.number ≡ Some t → IsRead p a (reading_at p n stand t) t period out → out ≡ rows_in period (seen_from w stand t) t
seen_read p s n Latest a w t period out rules st lawful is there read = read_version p s n None w t period out rules st is.found read
seen_read p s n (At making) a w t period out rules st lawful is there read = read_version p s n (Some making) w t period out rules st is.found read
seen_read p s n (Dated date) a w t period out rules st lawful is there read = read_dated p s n date a w t period out rules st lawful is there read
