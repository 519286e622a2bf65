-- What SELECT answers for each state that the records stand for.
use Rattle.std.proofs.Common.{◌≡◌, ℕ, Bool, true, false, List, [], ◌∷◌, Option, Some, None, unwrap_or, refl, sym, ap, ◌∙◌}
use Rattle.wm_listing.specs.declared.listing.Listing.{Listing as Source}
use Rattle.wm_base.specs.declared.refusal.Refusal.{Refusal}
use Rattle.wm_syntax.specs.Trees.{Query}
use Rattle.wm_graph.specs.Parts.{parts_of, space_of}
use Rattle.wm_graph.specs.Rules.{keep_rules}
use Rattle.wm_print.specs.Texts.{Answer, Refused}
use Rattle.wm_spec.specs.declared.record.space.Space.{Space}
use Rattle.wm_spec.specs.declared.record.stored.Stored.{Stored}
use Rattle.wm_spec.specs.declared.record.table.Table.{Table}
use Rattle.wm_select.specs.Query.{answer_of}
use Rattle.wm_query_faults.specs.Asking.{query_fault}
use Rattle.wm_outline.specs.Outline.{outline_of}
use Rattle.wm_state.specs.State.{State, Session, Workspace, fresh_live, workspace_of}
use Rattle.wm_state.proofs.Spaces.{space_is}
use Rattle.wm_model.specs.Looking.{IsLook}
use Rattle.wm_model.specs.Planning.{StandsAt, Does, Stay, tables_in}
use Rattle.wm_model.specs.Sources.{AreListed, Look}
use Rattle.wm_model.specs.Step.{answer_rows, at_home, columns_in, empty_period, first_fault, first_lost, lost_history, lost_source, no_history, no_savepoint, no_table, no_workspace, refused_for, savepoint_lost, select, select_among, select_ready, sources_in, table_off, tables_of, unless, unless_empty_period, versioning, workspace_lost}
use Rattle.wm_model.proofs.Doing.{does_nothing}
use Rattle.wm_model.proofs.Looking.{savepoints_lost_same, sources_seen, spaces_lost_same}

-- ---- refusals

-- the tables of the sources
abbrev pub asked : List Stored → Query → List Table
asked rs query = tables_of (tables_in rs) query.sources

selects_among : (rs : List Stored) (xs : List Session) (m : ℕ) (session : Session) (query : Query) (empty : Bool) (s : State) → StandsAt rs xs m s → select session query empty s ≡ select_among session query empty (tables_in rs) s
selects_among rs xs m session query empty s st = ap (λ ts. select_among session query empty ts s) (sym st.stands.tables.same)

-- a source is of no table
pub select_lost : (rs : List Stored) (xs : List Session) (m : ℕ) (session : Session) (query : Query) (empty : Bool) (name : List ℕ) → keep_rules (parts_of rs) ≡ true → lost_source (tables_in rs) query.sources ≡ Some name
    → Does rs xs m [] Stay (no_table name) (select session query empty)
select_lost rs xs m session query empty name rules lost = does_nothing rs xs m (no_table name) (select session query empty) (λ s st. selects_among rs xs m session query empty s st ∙ rw lost refl)

-- a table is not ready for rows
pub select_off : (rs : List Stored) (xs : List Session) (m : ℕ) (session : Session) (query : Query) (empty : Bool) (name : List ℕ) → keep_rules (parts_of rs) ≡ true → lost_source (tables_in rs) query.sources ≡ None
    → table_off (asked rs query) ≡ Some name → Does rs xs m [] Stay (versioning name false) (select session query empty)
select_off rs xs m session query empty name rules there off = does_nothing rs xs m (versioning name false) (select session query empty) (λ s st. selects_among rs xs m session query empty s st ∙ rw (there, off) refl)

-- the sources are of tables that are ready for rows
pub record AreReady (rs : List Stored) (query : Query) : Type 0 where
  pub rules : keep_rules (parts_of rs) ≡ true
  pub there : lost_source (tables_in rs) query.sources ≡ None
  pub on : table_off (asked rs query) ≡ None

selects_ready : (rs : List Stored) (xs : List Session) (m : ℕ) (session : Session) (query : Query) (empty : Bool) (s : State) → AreReady rs query → StandsAt rs xs m s → select session query empty s ≡ select_ready session query empty (tables_in rs) s
selects_ready rs xs m session query empty s ready st = selects_among rs xs m session query empty s st ∙ taken ready.there ready.on
  where
    taken : lost_source (tables_in rs) query.sources ≡ None → table_off (asked rs query) ≡ None → select_among session query empty (tables_in rs) s ≡ select_ready session query empty (tables_in rs) s
    taken there on = rw (there, on) refl

-- what the session is answered in a workspace
abbrev in_home : Session → Query → Bool → List Table → State → Workspace → State × Answer
in_home session query empty tables s w = unless_empty_period empty s (s, answer_rows (answer_of query (sources_in s session w tables query.sources)))

-- what its sources ask for that is not there, by the records
abbrev pub space_lost : List Stored → Session → Query → Option (List ℕ)
space_lost rs session query = first_lost (workspace_lost (outline_of (parts_of rs) [] 0) session) query.sources

abbrev pub point_lost : List Stored → Session → Query → Option (List ℕ)
point_lost rs session query = first_lost (savepoint_lost (outline_of (parts_of rs) [] 0) session) query.sources

-- what the query is refused for
pub record Faults (rs : List Stored) (session : Session) (query : Query) (fault : Option Refusal) (history space savepoint : Option (List ℕ)) : Type 0 where
  pub query_is : query_fault (columns_in (tables_in rs) query.sources) query ≡ fault
  pub history_is : lost_history (tables_in rs) query.sources ≡ history
  pub space_is : space_lost rs session query ≡ space
  pub savepoint_is : point_lost rs session query ≡ savepoint

-- the first of it is told
abbrev first_told : Option Refusal → Option (List ℕ) → Option (List ℕ) → Option (List ℕ) → Option Refusal
first_told fault history space savepoint = first_fault (fault ∷ refused_for no_history history ∷ refused_for no_workspace space ∷ refused_for no_savepoint savepoint ∷ [])

comes_home : (rs : List Stored) (xs : List Session) (m : ℕ) (session : Session) (query : Query) (empty : Bool) (fault : Option Refusal) (history space savepoint : Option (List ℕ)) (s : State) → AreReady rs query
    → Faults rs session query fault history space savepoint → StandsAt rs xs m s
    → select session query empty s ≡ unless (first_told fault history space savepoint) s (at_home s session (in_home session query empty (tables_in rs) s))
comes_home rs xs m session query empty fault history space savepoint s ready faults st =
    selects_ready rs xs m session query empty s ready st
    ∙ ap (λ (o : Option Refusal). unless o s (at_home s session (in_home session query empty (tables_in rs) s)))
    (λ i. first_told (faults.query_is i) (faults.history_is i) ((spaces_lost_same rs s session query.sources st.stands ∙ faults.space_is) i) ((savepoints_lost_same rs s session query.sources st.stands ∙ faults.savepoint_is) i))

-- the query names or compares what it may not
pub select_faulty : (rs : List Stored) (xs : List Session) (m : ℕ) (session : Session) (query : Query) (empty : Bool) (refusal : Refusal) → AreReady rs query
    → query_fault (columns_in (tables_in rs) query.sources) query ≡ Some refusal → Does rs xs m [] Stay (Refused refusal) (select session query empty)
select_faulty rs xs m session query empty refusal ready bad =
    does_nothing rs xs m (Refused refusal) (select session query empty)
    (λ s st.
    comes_home rs xs m session query empty (Some refusal) (lost_history (tables_in rs) query.sources) (space_lost rs session query) (point_lost rs session query) s ready
    (record { query_is = bad; history_is = refl; space_is = refl; savepoint_is = refl }) st)

-- a table keeps no history
pub select_historyless : (rs : List Stored) (xs : List Session) (m : ℕ) (session : Session) (query : Query) (empty : Bool) (name : List ℕ) → AreReady rs query → query_fault (columns_in (tables_in rs) query.sources) query ≡ None
    → lost_history (tables_in rs) query.sources ≡ Some name → Does rs xs m [] Stay (no_history name) (select session query empty)
select_historyless rs xs m session query empty name ready good lost =
    does_nothing rs xs m (no_history name) (select session query empty)
    (λ s st.
    comes_home rs xs m session query empty None (Some name) (space_lost rs session query) (point_lost rs session query) s ready
    (record { query_is = good; history_is = lost; space_is = refl; savepoint_is = refl }) st)

-- a workspace that a view asks for is not there
pub select_spaceless : (rs : List Stored) (xs : List Session) (m : ℕ) (session : Session) (query : Query) (empty : Bool) (name : List ℕ) → AreReady rs query → query_fault (columns_in (tables_in rs) query.sources) query ≡ None
    → lost_history (tables_in rs) query.sources ≡ None → space_lost rs session query ≡ Some name → Does rs xs m [] Stay (no_workspace name) (select session query empty)
select_spaceless rs xs m session query empty name ready good kept lost =
    does_nothing rs xs m (no_workspace name) (select session query empty)
    (λ s st.
    comes_home rs xs m session query empty None None (Some name) (point_lost rs session query) s ready (record { query_is = good; history_is = kept; space_is = lost; savepoint_is = refl }) st)

-- a savepoint is not
pub select_pointless : (rs : List Stored) (xs : List Session) (m : ℕ) (session : Session) (query : Query) (empty : Bool) (name : List ℕ) → AreReady rs query → Faults rs session query None None None (Some name)
    → Does rs xs m [] Stay (no_savepoint name) (select session query empty)
select_pointless rs xs m session query empty name ready faults =
    does_nothing rs xs m (no_savepoint name) (select session query empty) (λ s st. comes_home rs xs m session query empty None None None (Some name) s ready faults st)

-- ---- the workspace

-- the query is in order
pub record IsFine (rs : List Stored) (session : Session) (query : Query) : Type 0 where
  pub ready : AreReady rs query
  pub good : Faults rs session query None None None None

comes_in : (rs : List Stored) (xs : List Session) (m : ℕ) (session : Session) (query : Query) (empty : Bool) (w : Workspace) (s : State) → IsFine rs session query → workspace_of s.durable.spaces session.space ≡ Some w → StandsAt rs xs m s
    → select session query empty s ≡ in_home session query empty (tables_in rs) s w
comes_in rs xs m session query empty w s fine found st =
    comes_home rs xs m session query empty None None None None s fine.ready fine.good st ∙ ap (λ (o : Option Workspace). in_home session query empty (tables_in rs) s (unwrap_or o fresh_live)) found

-- a period of the query is empty
pub select_empty : (rs : List Stored) (xs : List Session) (m : ℕ) (session : Session) (query : Query) (empty : Bool) (a : Space) → IsFine rs session query → space_of (parts_of rs).spaces session.space ≡ Some a → empty ≡ true
    → Does rs xs m [] Stay empty_period (select session query empty)
select_empty rs xs m session query empty a fine there none =
    does_nothing rs xs m empty_period (select session query empty)
    (λ s st.
    let home = space_is (parts_of rs) s.durable session.space a st.stands there in
    comes_in rs xs m session query empty home.workspace s fine home.is.found st ∙ ap (λ b. in_home session query b (tables_in rs) s home.workspace) none)

-- what the query answers over what is listed for the session
pub selects : (rs : List Stored) (xs : List Session) (m : ℕ) (session : Session) (query : Query) (empty : Bool) (look : Look) (ls : List Source) → IsFine rs session query → IsLook (parts_of rs) m session look → empty ≡ false
    → AreListed (parts_of rs) look (tables_in rs) query.sources ls → Does rs xs m [] Stay (answer_rows (answer_of query ls)) (select session query empty)
selects rs xs m session query empty look ls fine is lasting are =
    does_nothing rs xs m (answer_rows (answer_of query ls)) (select session query empty)
    (λ s st.
    let home = space_is (parts_of rs) s.durable session.space look.home st.stands is.home in
    comes_in rs xs m session query empty home.workspace s fine home.is.found st ∙ ap (λ b. in_home session query b (tables_in rs) s home.workspace) lasting
    ∙ ap (λ (sources : List Source). let answered : State × Answer = (s, answer_rows (answer_of query sources)) in answered)
    (sym (sources_seen rs xs m session look s home.workspace query.sources ls (record { rules = fine.ready.rules; stands = st; is = is; home = home.is }) fine.good.history_is are)))
