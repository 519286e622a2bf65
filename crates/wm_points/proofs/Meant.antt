-- The point that is meant is there by the records where it is there in the state, and is that point.
use Rattle.std.proofs.Common.{◌≡◌, ℕ, List, Option, Some, None, refl, sym, ap, subst, ◌∙◌}
use Rattle.std.specs.List.{find}
use Rattle.std.specs.Str.{bytes_eq}
use Rattle.wm_graph.specs.Parts.{Parts}
use Rattle.wm_spec.specs.declared.record.savepoint.Savepoint.{Savepoint as Record}
use Rattle.wm_spec.specs.declared.record.space.Space.{Space}
use Rattle.wm_state.specs.Standing.{Climbs, Kept, Newest, SavepointFields, SpaceFields, Stands, Tells, latest, saved_in as records_of}
use Rattle.wm_state.specs.State.{Durable, Savepoint, Viewpoint, Workspace, content, kept, workspace_of}
use Rattle.wm_state.proofs.Named.{saved_space}
use Rattle.wm_state.proofs.SavedAs.{IsSaved, named_none, named_some}
use Rattle.wm_state.proofs.Spaces.{IsSpace, NamedSpace, named_no_space, named_space}
use Rattle.wm_points.specs.Points.{newest_in, point_in, saved_in}
use Rattle.wm_points.specs.Recorded.{IsPoint, newest_by, point_by, saved_by}
use Rattle.wm_points.proofs.Meeting.{ArePoints, both, neither}

-- what is newest in a workspace is a point by its record
pub newest_alike : (p : Parts) (d : Durable) (n : ℕ) (r : Space) (w : Workspace) → Stands p d → IsSpace p d n r w → IsPoint p d.spaces (newest_by p r) (newest_in w)
newest_alike p d n r w st is = record {
  space = is.record_number ∙ sym is.number;
  log_length = ap (λ (f : SpaceFields). f.log_length) is.fields;
  rebases = rebases;
  holds = tells.holds;
  climbs = subst (λ (k : ℕ). Climbs p d.spaces (latest p r.number) r.number k) (sym rebases) tells.climbs;
  rows = tells.rows;
}
  where
    rebases : r.rebases ≡ w.rebases
    rebases = ap (λ (f : SpaceFields). f.rebases) is.fields

    tells : Tells p d.spaces (latest p r.number) r.number w.rebases (content w)
    tells = st.named.tells _ _ _ _ (Newest w (subst (λ (k : ℕ). workspace_of d.spaces k ≡ Some w) (sym is.record_number) is.found))

-- and so is a savepoint by its own
pub saved_alike : (p : Parts) (d : Durable) (n : ℕ) (w : Workspace) (x : Record) (k : Savepoint) → Stands p d → workspace_of d.spaces n ≡ Some w → w.number ≡ n → IsSaved p n w x k → IsPoint p d.spaces (saved_by x) (saved_in w k)
saved_alike p d n w x k st found number is = record {
  space = space ∙ sym number;
  log_length = ap (λ (f : SavepointFields). f.log_length) is.fields;
  rebases = rebases;
  holds = tells.holds;
  climbs = subst (λ (m : ℕ). Climbs p d.spaces x.version m x.rebases) (sym space) (subst (λ (m : ℕ). Climbs p d.spaces x.version n m) (sym rebases) tells.climbs);
  rows = tells.rows;
}
  where
    space : x.space ≡ n
    space = saved_space p n k.making x is.recorded

    rebases : x.rebases ≡ k.rebases
    rebases = ap (λ (f : SavepointFields). f.rebases) is.fields

    tells : Tells p d.spaces x.version n k.rebases (kept k)
    tells = st.named.tells _ _ _ _ (Kept k.making w k x found is.made is.recorded)

-- the point that is meant by the records is the one that is meant in the state, or neither is there
pub point_alike : (p : Parts) (d : Durable) (v : Viewpoint) → Stands p d → ArePoints p d.spaces (point_by p v) (point_in d.spaces v)
point_alike p d v st = by_space (find (λ (r : Space). bytes_eq v.workspace r.name) p.spaces) refl
  where
    by_space : (o : Option Space) → find (λ (r : Space). bytes_eq v.workspace r.name) p.spaces ≡ o → ArePoints p d.spaces (point_by p v) (point_in d.spaces v)
    by_space None none = neither p d.spaces (point_by p v) (point_in d.spaces v) (rw none refl) (rw (named_no_space p d v.workspace st none) refl)
    by_space (Some r) some = by_savepoint v.savepoint refl
      where
        y : NamedSpace p d v.workspace r
        y = named_space p d v.workspace r st some

        by_savepoint : (o : Option (List ℕ)) → v.savepoint ≡ o → ArePoints p d.spaces (point_by p v) (point_in d.spaces v)
        by_savepoint None newest =
            both p d.spaces (point_by p v) (point_in d.spaces v) (newest_by p r) (newest_in y.workspace) (rw (some, newest) refl) (rw (y.named, newest) refl) (newest_alike p d r.number r y.workspace st y.is)
        by_savepoint (Some name) saved = by_record (find (λ (x : Record). bytes_eq name x.name) (records_of p r.number)) refl
          where
            by_record : (o : Option Record) → find (λ (x : Record). bytes_eq name x.name) (records_of p r.number) ≡ o → ArePoints p d.spaces (point_by p v) (point_in d.spaces v)
            by_record None none =
                neither p d.spaces (point_by p v) (point_in d.spaces v) (rw (some, saved, none) refl) (rw (y.named, saved, named_none p d r.number y.workspace st y.is.found name none) refl)
            by_record (Some x) found =
                let k = named_some p d r.number y.workspace st y.is.found name x found in
                both p d.spaces (point_by p v) (point_in d.spaces v) (saved_by x) (saved_in y.workspace k.0) (rw (some, saved, found) refl) (rw (y.named, saved, k.1) refl)
                (saved_alike p d r.number y.workspace x k.0 st y.is.found y.is.number k.2)
