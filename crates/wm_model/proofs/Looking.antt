-- What a session sees in each state that the records stand for, by what it looks at.
use Rattle.std.proofs.Common.{◌≡◌, ℕ, ◌+◌, ◌==◌, ◌&&◌, not, Bool, true, false, if◌then◌else◌, List, [], ◌∷◌, length, map, Option, Some, None, unwrap_or, refl, sym, ap, subst, ◌∙◌, arith}
use Rattle.std.proofs.lemmas.Bool.{not-false}
use Rattle.std.specs.Option.{option_map_or}
use Rattle.wm_base.proofs.Plain.{none_some, nonzero}
use Rattle.wm_base.specs.Period.{Span}
use Rattle.wm_listing.specs.declared.columns.Column.{Column}
use Rattle.wm_listing.specs.declared.listing.Listing.{Listing as Source}
use Rattle.wm_base.specs.declared.row.Row.{Row}
use Rattle.wm_syntax.specs.Trees.{Src}
use Rattle.wm_graph.specs.Parts.{Parts, parts_of, space_of, table_of}
use Rattle.wm_graph.specs.Rules.{keep_rules}
use Rattle.wm_guard.proofs.Alike.{locks_in-listed, makings_differ}
use Rattle.wm_guard.specs.Barring.{locks_in}
use Rattle.wm_outline.proofs.Outlines.{outline_is}
use Rattle.wm_outline.specs.Outline.{Outline, outline, outline_of}
use Rattle.wm_spec.specs.declared.record.space.Space.{Space}
use Rattle.wm_spec.specs.declared.record.stored.Stored.{Stored}
use Rattle.wm_spec.specs.declared.record.table.Table.{Table}
use Rattle.wm_state.specs.Reading.{seen_from}
use Rattle.wm_state.specs.State.{Difference, State, Session, Workspace, workspace_of}
use Rattle.wm_state.specs.Standing.{SpaceFields, SpacesStand, Stands}
use Rattle.wm_state.proofs.Apart.{ruled}
use Rattle.wm_state.proofs.Spaces.{IsSpace, named_no_space, named_space, record_there, space_there}
use Rattle.wm_view_rows.proofs.Conflicts.{conflict_view_is}
use Rattle.wm_view_rows.proofs.History.{history_view_is}
use Rattle.wm_view_rows.specs.Columns.{columns_of_view}
use Rattle.wm_view_rows.specs.Conflicts.{IsConflictView, conflict_view}
use Rattle.wm_view_rows.specs.Locks.{lock_row, lock_view}
use Rattle.wm_view_rows.specs.Views.{is_history, table_sought, view_named}
use Rattle.wm_view_rows.specs.declared.view.View.{View}
use Rattle.wm_view_rows.specs.declared.view.View.TheVariants.{Rows, Conflicts, Differences, History, Locks}
use Rattle.wm_model.specs.Lawful.{LawfulSpaces}
use Rattle.wm_model.specs.Looking.{IsFamilyOf, IsLook, conflicting_space, space_named}
use Rattle.wm_model.specs.Planning.{StandsAt, tables_in}
use Rattle.wm_model.specs.Sources.{AreConflicts, AreDifferent, AreListed, IsRead, IsSeen, Look, Reading, recorded_name}
use Rattle.wm_model.specs.Step.{conflicting, conflicts_shown, first_lost, lacks_history, lost_history, parent_in, rows_in, savepoint_lost, shown_by, source_name, sources_in, space_name, table_asked, view_shown, within, workspace_lost}
use Rattle.wm_model.proofs.Differing.{LiveTook, differences_seen}
use Rattle.wm_model.proofs.Families.{related}
use Rattle.wm_model.proofs.Lawful.Spaces.{number_is}
use Rattle.wm_model.proofs.Named.{named_is}
use Rattle.wm_model.proofs.Reading.{seen_read}

-- ---- what is not there

-- what a view asks for is not there where the records say so: they have the workspaces and the savepoints of the state
pub spaces_lost_same : (rs : List Stored) (s : State) (session : Session) (sources : List Src) → Stands (parts_of rs) s.durable
    → first_lost (workspace_lost (outline s) session) sources ≡ first_lost (workspace_lost (outline_of (parts_of rs) [] 0) session) sources
spaces_lost_same rs s session sources st = ap (λ (o : Outline). first_lost (workspace_lost o session) sources) (sym (outline_is (parts_of rs) s.sessions s.moment s st refl refl))

pub savepoints_lost_same : (rs : List Stored) (s : State) (session : Session) (sources : List Src) → Stands (parts_of rs) s.durable
    → first_lost (savepoint_lost (outline s) session) sources ≡ first_lost (savepoint_lost (outline_of (parts_of rs) [] 0) session) sources
savepoints_lost_same rs s session sources st = ap (λ (o : Outline). first_lost (savepoint_lost o session) sources) (sym (outline_is (parts_of rs) s.sessions s.moment s st refl refl))

-- ---- conflicts

-- in a state that the records stand for
record Conflicting (rs : List Stored) (s : State) (o : Option (List ℕ)) (home : Workspace) (a : Space) : Type 0 where
  pub workspace : Workspace
  pub named : conflicting s.durable.spaces o home ≡ workspace
  pub is : IsSpace (parts_of rs) s.durable a.number a workspace

conflicting_is : (rs : List Stored) (s : State) (o : Option (List ℕ)) (home : Workspace) (a : Space) → Stands (parts_of rs) s.durable → IsSpace (parts_of rs) s.durable a.number a home
    → Conflicting rs s o home (conflicting_space (parts_of rs).spaces o a)
conflicting_is rs s None home a st is = record { workspace = home; named = refl; is = is }
conflicting_is rs s (Some name) home a st is = by_record (space_named name (parts_of rs).spaces) refl
  where
    by_record : (o : Option Space) → space_named name (parts_of rs).spaces ≡ o → Conflicting rs s (Some name) home (unwrap_or o a)
    by_record None none = record { workspace = home; named = ap (λ (w : Option Workspace). unwrap_or w home) (named_no_space (parts_of rs) s.durable name st none); is = is }
    by_record (Some r) found =
        let x = named_space (parts_of rs) s.durable name r st found in record { workspace = x.workspace; named = ap (λ (w : Option Workspace). unwrap_or w home) x.named; is = x.is }

-- its conflicts with its parent
conflicts_seen : (rs : List Stored) (xs : List Session) (m : ℕ) (s : State) (a : Space) (w : Workspace) (t : Table) (family : Option (Space × Space)) (rows : List Row) → StandsAt rs xs m s
    → IsSpace (parts_of rs) s.durable a.number a w → IsFamilyOf (parts_of rs) a family → AreConflicts (parts_of rs) family t rows → rows ≡ conflicts_shown s w t
conflicts_seen rs xs m s a w t None rows st is live are = are ∙ sym (ap (λ (n : ℕ). if n == 0 then [] else conflict_view (parent_in s w) w t) (is.number ∙ live))
conflicts_seen rs xs m s a w t (Some x) rows st is family are =
    let r = related rs xs m a x.1 s w is family.1.0 family.1.1 st in
    conflict_view_is (parts_of rs) s.durable a.number w r.q a x.1 t rows r.beside r.base r.rows (subst (λ (k : Space). IsConflictView (parts_of rs) k x.1 t rows) family.0 are)
    ∙ ap (λ (q : Workspace). conflict_view q w t) (sym r.parent_is)
    ∙ sym (ap (λ (b : Bool). if b then [] else conflict_view (parent_in s w) w t) (ap (λ (n : ℕ). n == 0) is.number ∙ nonzero a.number family.1.0))

-- ---- differences

-- LIVE took no turn
none_there : {A : Type 0} (xs : List A) → length xs ≡ 0 → xs ≡ []
none_there [] none = refl
none_there (x ∷ xs) none = absurd (omega (arith, none))

live_took : (spaces : List Workspace) → LawfulSpaces spaces → LiveTook spaces
live_took spaces l w found = none_there w.turns ((l.each 0 w found).turns ∙ ap (λ (n : ℕ). if n == 0 then 0 else w.rebases + 1) (number_is spaces 0 w found))

-- ---- locks

-- the workspace of a number has one name in the records and in each state that they stand for
pub recorded_name_is : (p : Parts) (s : State) (n : ℕ) → SpacesStand p s.durable → recorded_name p n ≡ space_name s n
recorded_name_is p s n st = by_record (space_of p.spaces n) refl (workspace_of s.durable.spaces n) refl
  where
    of_record : Option Space → List ℕ
    of_record o = option_map_or (λ (r : Space). r.name) o []

    of_space : Option Workspace → List ℕ
    of_space o = option_map_or (λ (w : Workspace). w.name) o []

    by_record : (o : Option Space) → space_of p.spaces n ≡ o → (q : Option Workspace) → workspace_of s.durable.spaces n ≡ q → of_record (space_of p.spaces n) ≡ of_space (workspace_of s.durable.spaces n)
    by_record (Some r) recorded q found =
        let h = space_there p s.durable n r st recorded in ap of_record recorded ∙ ap (λ (f : SpaceFields). f.name) h.is.fields ∙ sym (ap of_space h.is.found)
    by_record None none None found = ap of_record none ∙ sym (ap of_space found)
    by_record None none (Some w) found = let h = record_there p s.durable n w st found in absurd (none_some (space_of p.spaces n) h.recorded none h.is.recorded)

-- the locks on a table are shown alike
pub locks_seen : (p : Parts) (s : State) (t : Table) → keep_rules p ≡ true → Stands p s.durable → lock_view (recorded_name p) t p.locks ≡ lock_view (space_name s) t s.durable.locks
locks_seen p s t rules st =
    (λ i. lock_view (λ n. recorded_name_is p s n st.spaces i) t p.locks)
    ∙ ap (map (lock_row (space_name s) t)) (sym (locks_in-listed t.number p.locks (makings_differ p _ (ruled p rules).locks)) ∙ ap (locks_in t.number) st.locks.same)

-- ---- the sources of a query

-- where none is the history of a table that keeps none, the first is not
history_kept : (tables : List Table) (x : Src) (xs : List Src) (t : Table) → table_asked tables x ≡ Some t → lost_history tables (x ∷ xs) ≡ None → (lacks_history x t ≡ false) × (lost_history tables xs ≡ None)
history_kept tables x xs t named kept = by_test (lacks_history x t) (rw named at kept)
  where
    by_test : (b : Bool) → (if b then Some t.name else lost_history tables xs) ≡ None → (b ≡ false) × (lost_history tables xs ≡ None)
    by_test true some = absurd (cc)
    by_test false rest = (refl, rest)

-- a session looks so, and stands in this workspace
pub record LooksAt (rs : List Stored) (xs : List Session) (m : ℕ) (session : Session) (look : Look) (s : State) (w : Workspace) : Type 0 where
  pub rules : keep_rules (parts_of rs) ≡ true
  pub stands : StandsAt rs xs m s
  pub is : IsLook (parts_of rs) m session look
  pub home : IsSpace (parts_of rs) s.durable session.space look.home w

-- what it sees of a table is what the state shows
view_seen : (rs : List Stored) (xs : List Session) (m : ℕ) (session : Session) (look : Look) (s : State) (w : Workspace) (view : View) (t : Table) (rows : List Row) → LooksAt rs xs m session look s w
    → table_of (parts_of rs).tables t.number ≡ Some t → (is_history view && not t.history) ≡ false → IsSeen (parts_of rs) look view t rows → rows ≡ view_shown s session w view t
view_seen rs xs m session look s w Rows t rows at there kept are =
    seen_read (parts_of rs) s.durable session.space session.stand look.home w t (look.period t) rows at.rules at.stands.stands (at.stands.lawful.durable.spaces.each session.space w at.home.found) at.home there
    (subst (λ (r : Reading). IsRead (parts_of rs) look.home r t (look.period t) rows) (at.is.reading t) are)
    ∙ ap (λ (period : Span). rows_in period (seen_from w session.stand t) t) (at.is.period t ∙ ap (λ (n : ℕ). within n session t) at.stands.moment_is)
view_seen rs xs m session look s w Differences t rows at there kept are =
    differences_seen (parts_of rs) s session.difference t rows at.stands.stands (live_took s.durable.spaces at.stands.lawful.durable.spaces)
    (subst (λ (o : Option Difference). AreDifferent (parts_of rs) o t rows) at.is.difference are)
view_seen rs xs m session look s w Conflicts t rows at there kept are =
    let c = conflicting_is rs s session.conflict w look.home at.stands.stands (subst (λ (n : ℕ). IsSpace (parts_of rs) s.durable n look.home w) (sym at.home.record_number) at.home) in
    conflicts_seen rs xs m s (conflicting_space (parts_of rs).spaces session.conflict look.home) c.workspace t look.family rows at.stands c.is at.is.family are ∙ ap (λ (v : Workspace). conflicts_shown s v t) (sym c.named)
view_seen rs xs m session look s w History t rows at there kept are =
    history_view_is (parts_of rs) s.durable session.space w look.home t rows at.stands.stands at.home.found at.home.recorded there (not-false t.history kept) are
view_seen rs xs m session look s w Locks t rows at there kept are = are ∙ locks_seen (parts_of rs) s t at.rules at.stands.stands

-- what was listed of each source is what the state shows
pub sources_seen : (rs : List Stored) (xs : List Session) (m : ℕ) (session : Session) (look : Look) (s : State) (w : Workspace) (sources : List Src) (ls : List Source) → LooksAt rs xs m session look s w
    → lost_history (tables_in rs) sources ≡ None → AreListed (parts_of rs) look (tables_in rs) sources ls → ls ≡ sources_in s session w (tables_in rs) sources
sources_seen rs xs m session look s w [] ls at kept are = are
sources_seen rs xs m session look s w (x ∷ sources) [] at kept are = absurd are
sources_seen rs xs m session look s w (x ∷ sources) (l ∷ ls) at kept are =
    let is = are.0 in
    let k = history_kept (tables_in rs) x sources is.table is.named kept in
    let first : l ≡ shown_by s session w x is.table =
    both (columns_of_view (view_named x.table) (source_name x) is.table) (view_shown s session w (view_named x.table) is.table) is.columns
    (view_seen rs xs m session look s w (view_named x.table) is.table l.rows at (named_is rs (table_sought x.table) is.table at.rules is.named).there k.0 is.rows) in
    rw is.named (ap (λ y. y ∷ ls) first ∙ ap (λ ys. shown_by s session w x is.table ∷ ys) (sources_seen rs xs m session look s w sources ls at k.1 are.1))
  where
    both : (columns : List Column) (out : List Row) → l.columns ≡ columns → l.rows ≡ out → l ≡ record { columns = columns; rows = out }
    both columns out c r = ap (λ cs. let y : Source = record { columns = cs; rows = l.rows } in y) c ∙ ap (λ rs. let y : Source = record { columns = columns; rows = rs } in y) r
