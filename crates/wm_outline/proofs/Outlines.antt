-- The outline of records is that of each state for which they stand.
use Rattle.std.proofs.Common.{◌≡◌, ℕ, zero, suc, ◌==◌, nat_le, nat_lt, Bool, List, [], ◌∷◌, map, slice_get, Option, Some, None, refl, sym, ap, ◌∙◌, arith}
use Rattle.std.specs.List.{list_any}
use Rattle.std.specs.Option.{option_map, option_map_or}
use Rattle.wm_base.proofs.Plain.{none_some}
use Rattle.wm_graph.specs.Parts.{Parts, space_of}
use Rattle.wm_net.specs.Conflicts.{Settled}
use Rattle.wm_spec.specs.declared.record.counters.Counters.{Counters}
use Rattle.wm_spec.specs.declared.record.space.Space.{Space}
use Rattle.wm_spec.specs.declared.record.trace.Trace.{Trace}
use Rattle.wm_state.specs.Standing.{Stands, fields_saved, saved_in, saved_fields, space_after}
use Rattle.wm_state.specs.State.{Durable, Session, State, Workspace, next_space, workspace_of}
use Rattle.wm_state.proofs.Frames.{savepoints_of-found}
use Rattle.wm_state.proofs.Spaces.{IsSpace, next_space_same, record_there, space_there}
use Rattle.wm_telling.proofs.Marking.{marked_beyond, marked_since}
use Rattle.wm_outline.specs.Outline.{below, counted, marks_in, outline, outline_by, outline_in, outline_of, space_by, space_in, top}
use Rattle.wm_outline.proofs.Tops.{any_filtered, tops_same}

-- ---- the marks of a workspace

from_zero : (a b : ℕ) → nat_le 0 a ≡ nat_le 0 b
from_zero a b = grind (arith)

module _ (p : Parts) (d : Durable) (st : Stands p d) (n : ℕ) (w : Workspace) (found : workspace_of d.spaces n ≡ Some w) where
  -- a mark was made at a place or behind it
  since : (place : ℕ) → list_any (λ (x : Trace). nat_le place x.place) (marks_in p n) ≡ list_any (λ (m : Settled). nat_le place m.place) w.settled
  since place =
      any_filtered (λ (x : Trace). x.space == n) (λ (x : Trace). nat_le place x.place) p.marks
      ∙ marked_since p d n w st.marks st.rules found place

  -- a mark is at a position or behind it. Each mark is at position 0 or behind it, as each was made at place 0 or behind that
  reach : (limit : ℕ) → list_any (λ (x : Trace). nat_le limit x.position) (marks_in p n) ≡ list_any (λ (m : Settled). nat_le limit m.position) w.settled
  reach zero =
      ap (λ (test : Trace → Bool). list_any test (marks_in p n)) (λ i x. from_zero x.position x.place i)
      ∙ since 0
      ∙ ap (λ (test : Settled → Bool). list_any test w.settled) (λ i m. from_zero m.place m.position i)
  reach (suc limit) =
      any_filtered (λ (x : Trace). x.space == n) (λ (x : Trace). nat_lt limit x.position) p.marks
      ∙ marked_beyond p d n w st.marks st.rules found limit

  marks_reach_same : top (λ (x : Trace). x.position) (marks_in p n) ≡ top (λ (m : Settled). m.position) w.settled
  marks_reach_same = tops_same (λ (x : Trace). x.position) (λ (m : Settled). m.position) (marks_in p n) w.settled reach

  marks_since_same : top (λ (x : Trace). x.place) (marks_in p n) ≡ top (λ (m : Settled). m.place) w.settled
  marks_since_same = tops_same (λ (x : Trace). x.place) (λ (m : Settled). m.place) (marks_in p n) w.settled since

-- ---- workspaces

-- a workspace and its record have one outline
pub spaces_alike : (p : Parts) (d : Durable) (n : ℕ) (r : Space) (w : Workspace) → Stands p d → IsSpace p d n r w → outline_by p r ≡ outline_in w
spaces_alike p d n r w st is = λ i. record { number = numbers i; fields = is.fields i; savepoints = saved i; marks_reach = reached i; marks_since = made i }
  where
    numbers : r.number ≡ w.number
    numbers = is.record_number ∙ sym is.number

    saved : map saved_fields (saved_in p r.number) ≡ map fields_saved w.savepoints
    saved = ap (λ k. map saved_fields (saved_in p k)) is.record_number ∙ st.savepoints.same n ∙ ap (map fields_saved) (savepoints_of-found d.spaces n w is.found)

    reached : top (λ (x : Trace). x.position) (marks_in p r.number) ≡ top (λ (m : Settled). m.position) w.settled
    reached = ap (λ k. top (λ (x : Trace). x.position) (marks_in p k)) is.record_number ∙ marks_reach_same p d st n w is.found

    made : top (λ (x : Trace). x.place) (marks_in p r.number) ≡ top (λ (m : Settled). m.place) w.settled
    made = ap (λ k. top (λ (x : Trace). x.place) (marks_in p k)) is.record_number ∙ marks_since_same p d st n w is.found

space_same : (p : Parts) (d : Durable) → Stands p d → (n : ℕ) → space_by p n ≡ space_in d n
space_same p d st n = by_record (space_of p.spaces n) refl (workspace_of d.spaces n) refl
  where
    by_record : (o : Option Space) → space_of p.spaces n ≡ o → (q : Option Workspace) → workspace_of d.spaces n ≡ q → option_map (outline_by p) (space_of p.spaces n) ≡ option_map outline_in (workspace_of d.spaces n)
    by_record (Some r) recorded q found =
        let h = space_there p d n r st.spaces recorded in
        ap (option_map (outline_by p)) recorded ∙ ap Some (spaces_alike p d n r h.workspace st h.is) ∙ sym (ap (option_map outline_in) h.is.found)
    by_record None none None found = ap (option_map (outline_by p)) none ∙ sym (ap (option_map outline_in) found)
    by_record None none (Some w) found = let h = record_there p d n w st.spaces found in absurd (none_some (space_of p.spaces n) h.recorded none h.is.recorded)

pub counted_is : (p : Parts) (c : Counters) (what : Counters → ℕ) → p.counters ≡ c ∷ [] → counted p what ≡ what c
counted_is p c what one = ap (λ (cs : List Counters). option_map_or what (slice_get cs 0) 0) one

-- one equation for counters, tables, workspaces, savepoints and sessions
pub outline_is : (p : Parts) (xs : List Session) (m : ℕ) (s : State) → Stands p s.durable → xs ≡ s.sessions → m ≡ s.moment → outline_of p xs m ≡ outline s
outline_is p xs m s st sessions_are moment_is = λ i. record {
  tables = st.tables.same i;
  spaces = below (next i) (λ n. space_same p s.durable st n i);
  space_count = st.once.count i;
  locks = st.locks.same i;
  next_space = next i;
  next_stamp = (counted_is p st.counters.counters (λ c. c.next_stamp) st.counters.one ∙ st.counters.next_stamp) i;
  last_moment = (counted_is p st.counters.counters (λ c. c.last_moment) st.counters.one ∙ st.counters.last_moment) i;
  limit = (counted_is p st.counters.counters (λ c. c.limit) st.counters.one ∙ st.counters.limit) i;
  work = (counted_is p st.counters.counters (λ c. c.work) st.counters.one ∙ st.counters.work) i;
  sessions = sessions_are i;
  moment = moment_is i;
}
  where
    next : space_after p.spaces ≡ next_space s.durable.spaces
    next = sym (next_space_same p s.durable st)
