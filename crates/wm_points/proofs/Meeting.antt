-- Related points climb to related points, and what they have in common is related.
use Rattle.std.proofs.Common.{◌≡◌, ℕ, zero, suc, ◌==◌, Bool, true, false, cond, if◌then◌else◌, List, [], ◌∷◌, slice_get, Option, Some, None, refl, sym, ap, subst, ◌∙◌}
use Rattle.std.proofs.lemmas.Option.{none-some, same_Some}
use Rattle.std.specs.List.{AllZip, find}
use Rattle.std.specs.Option.{option_map, option_map_or, option_or, unwrap_or}
use Rattle.wm_graph.specs.Parts.{Parts, space_of}
use Rattle.wm_spec.specs.Lists.{Entry}
use Rattle.wm_spec.specs.declared.record.space.Space.{Space}
use Rattle.wm_spec.specs.declared.record.turn.Turn.{Turn as Record}
use Rattle.wm_state.specs.Standing.{Climbs, SpaceFields, Stands, Top, TurnFields, Up, first_in, newest_first, turn_at, turned, turned_in}
use Rattle.wm_state.specs.State.{Durable, Turn, Workspace, turn_of, turns_of, workspace_of}
use Rattle.wm_state.proofs.Climbing.{Recorded, recorded_of}
use Rattle.wm_points.specs.Points.{Point, climb_in, common, earlier, is_earlier, meeting, path, taken_of}
use Rattle.wm_points.specs.Recorded.{IsPoint, climb_by, taken_by}

-- a point by the records and the point of the state that it is, or neither
pub data ArePoints (p : Parts) (spaces : List Workspace) : Option (Point ℕ) → Option (Point (List Entry)) → Type 0 where
  Neither : ArePoints p spaces None None
  Both : (x : Point ℕ) (y : Point (List Entry)) → IsPoint p spaces x y → ArePoints p spaces (Some x) (Some y)

pub neither : (p : Parts) (spaces : List Workspace) (a : Option (Point ℕ)) (b : Option (Point (List Entry))) → a ≡ None → b ≡ None → ArePoints p spaces a b
neither p spaces a b e f = rw (e, f) Neither

pub both : (p : Parts) (spaces : List Workspace) (a : Option (Point ℕ)) (b : Option (Point (List Entry))) (x : Point ℕ) (y : Point (List Entry)) → a ≡ Some x → b ≡ Some y → IsPoint p spaces x y → ArePoints p spaces a b
both p spaces a b x y e f is = rw (e, f) (Both x y is)

-- ---- one climb

-- a turn that is not there has no record
no_record : (o : Option Record) → option_map turned o ≡ None → o ≡ None
no_record None e = refl
no_record (Some z) e = cc

-- LIVE has no turn
live_turns : (d : Durable) → ((w : Workspace) → workspace_of d.spaces 0 ≡ Some w → w.turns ≡ []) → turns_of d.spaces 0 ≡ []
live_turns d live = by_live (workspace_of d.spaces 0) refl
  where
    by_live : (o : Option Workspace) → workspace_of d.spaces 0 ≡ o → turns_of d.spaces 0 ≡ []
    by_live None none = rw none refl
    by_live (Some w) found = rw found (live w found)

turns_found : (d : Durable) (n : ℕ) (w : Workspace) → workspace_of d.spaces n ≡ Some w → turns_of d.spaces n ≡ w.turns
turns_found d n w found = rw found refl

-- a turn has a record of its fields
record TurnRecorded (p : Parts) (n number : ℕ) (t : Turn) : Type 0 where
  turn : Record
  found : turn_at p.turns n number ≡ Some turn
  fields : turned turn ≡ turned_in t

turn_recorded : (p : Parts) (d : Durable) (n number : ℕ) (w : Workspace) (t : Turn) → Stands p d → workspace_of d.spaces n ≡ Some w → turn_of w number ≡ Some t → TurnRecorded p n number t
turn_recorded p d n number w t st found turn =
    by_record (turn_at p.turns n number) refl (st.turns.same n number ∙ ap (λ (ts : List Turn). option_map turned_in (slice_get ts number)) (turns_found d n w found) ∙ ap (option_map turned_in) turn)
  where
    by_record : (o : Option Record) → turn_at p.turns n number ≡ o → option_map turned o ≡ Some (turned_in t) → TurnRecorded p n number t
    by_record None is e = absurd (none-some (turned_in t) e)
    by_record (Some z) is e = record { turn = z; found = is; fields = same_Some (turned z) (turned_in t) e }

-- related points climb to related points, or neither does
pub climb_alike : (p : Parts) (d : Durable) (x : Point ℕ) (y : Point (List Entry)) → Stands p d → ((w : Workspace) → workspace_of d.spaces 0 ≡ Some w → w.turns ≡ []) → IsPoint p d.spaces x y → ArePoints p d.spaces (climb_by p x) (climb_in d.spaces y)
climb_alike p d x y st live is = by_climbs is.climbs
  where
    no_turn : x.space ≡ 0 → slice_get (turns_of d.spaces x.space) x.rebases ≡ None
    no_turn top = ap (λ (n : ℕ). slice_get (turns_of d.spaces n) x.rebases) top ∙ ap (λ (ts : List Turn). slice_get ts x.rebases) (live_turns d live)

    none_by : x.space ≡ 0 → climb_by p x ≡ None
    none_by top = by_space (space_of p.spaces x.space) refl
      where
        none : turn_at p.turns x.space x.rebases ≡ None
        none = no_record (turn_at p.turns x.space x.rebases) (st.turns.same x.space x.rebases ∙ ap (option_map turned_in) (no_turn top))

        by_space : (o : Option Space) → space_of p.spaces x.space ≡ o → climb_by p x ≡ None
        by_space None nothing = rw nothing refl
        by_space (Some r) found = rw (found, none) refl

    none_in : x.space ≡ 0 → climb_in d.spaces y ≡ None
    none_in top = by_workspace (workspace_of d.spaces x.space) refl
      where
        by_workspace : (o : Option Workspace) → workspace_of d.spaces x.space ≡ o → climb_in d.spaces y ≡ None
        by_workspace None nothing = rw (sym is.space, nothing) refl
        by_workspace (Some w) found = rw (sym is.space, sym is.rebases, found, ap (λ (ts : List Turn). slice_get ts x.rebases) (sym (turns_found d x.space w found)) ∙ no_turn top) refl

    by_climbs : Climbs p d.spaces x.what x.space x.rebases → ArePoints p d.spaces (climb_by p x) (climb_in d.spaces y)
    by_climbs (Top top) = neither p d.spaces (climb_by p x) (climb_in d.spaces y) (none_by top) (none_in top)
    by_climbs (Up u w t found turn first holds up) =
        both p d.spaces (climb_by p x) (climb_in d.spaces y) (taken_by r.space z.turn u) (taken_of w t) (rw (r.found, z.found, above) refl) (rw (sym is.space, sym is.rebases, found, turn) refl)
        (record {
          space = sym parent;
          log_length = ap (λ (f : TurnFields). f.log_length) z.fields;
          rebases = rebases;
          holds = holds;
          climbs = subst (λ (n : ℕ). Climbs p d.spaces u n z.turn.rebases) parent (subst (λ (n : ℕ). Climbs p d.spaces u w.parent n) (sym rebases) up);
          rows = st.rows.turns x.space x.rebases w t found turn;
        })
      where
        r : Recorded p x.space w
        r = recorded_of p d st.spaces x.space w found

        z : TurnRecorded p x.space x.rebases t
        z = turn_recorded p d x.space x.rebases w t st found turn

        parent : w.parent ≡ r.space.parent
        parent = ap (λ (f : SpaceFields). f.parent) (sym r.fields)

        rebases : z.turn.rebases ≡ t.rebases
        rebases = ap (λ (f : TurnFields). f.rebases) z.fields

        above : first_in (newest_first p.versions) r.space.parent x.what ≡ Some u
        above = ap (λ (n : ℕ). first_in (newest_first p.versions) n x.what) (sym parent) ∙ first

-- ---- paths

module _ (p : Parts) (d : Durable) (st : Stands p d) (live : (w : Workspace) → workspace_of d.spaces 0 ≡ Some w → w.turns ≡ []) where
  -- points one by one
  abbrev All : List (Point ℕ) → List (Point (List Entry)) → Type 0
  All xs ys = AllZip (IsPoint p d.spaces) xs ys

  path_alike : (n : ℕ) (x : Point ℕ) (y : Point (List Entry)) → IsPoint p d.spaces x y → All (path (climb_by p) n x) (path (climb_in d.spaces) n y)
  path_alike zero x y is = (is, tt)
  path_alike (suc n) x y is = (is, by_climb (climb_by p x) (climb_in d.spaces y) (path_alike n) (climb_alike p d x y st live is))
    where
      by_climb : (a : Option (Point ℕ)) (b : Option (Point (List Entry))) → ((u : Point ℕ) (v : Point (List Entry)) → IsPoint p d.spaces u v → All (path (climb_by p) n u) (path (climb_in d.spaces) n v)) → ArePoints p d.spaces a b
          → All (option_map_or (path (climb_by p) n) a []) (option_map_or (path (climb_in d.spaces) n) b [])
      by_climb a b rest Neither = tt
      by_climb a b rest (Both u v is) = rest u v is

  whole_path : (x : Point ℕ) (y : Point (List Entry)) → IsPoint p d.spaces x y → All (path (climb_by p) x.space x) (path (climb_in d.spaces) y.space y)
  whole_path x y is = subst (λ (n : ℕ). All (path (climb_by p) x.space x) (path (climb_in d.spaces) n y)) is.space (path_alike x.space x y is)

  -- ---- where paths meet

  find_alike : (k l : ℕ) → k ≡ l → (xs : List (Point ℕ)) (ys : List (Point (List Entry))) → All xs ys → ArePoints p d.spaces (find (λ (z : Point ℕ). z.space == k) xs) (find (λ (z : Point (List Entry)). z.space == l) ys)
  find_alike k l same [] [] all = Neither
  find_alike k l same [] (y ∷ ys) all = absurd all
  find_alike k l same (x ∷ xs) [] all = absurd all
  find_alike k l same (x ∷ xs) (y ∷ ys) all =
      subst (λ (b : Bool). ArePoints p d.spaces (cond (x.space == k) (Some x) (find (λ (z : Point ℕ). z.space == k) xs)) (cond b (Some y) (find (λ (z : Point (List Entry)). z.space == l) ys)))
      (ap (λ (n : ℕ). n == k) all.0.space ∙ ap (λ (n : ℕ). y.space == n) same)
      (by_test (x.space == k) (find_alike k l same xs ys all.1))
    where
      by_test : (b : Bool) → ArePoints p d.spaces (find (λ (z : Point ℕ). z.space == k) xs) (find (λ (z : Point (List Entry)). z.space == l) ys)
          → ArePoints p d.spaces (cond b (Some x) (find (λ (z : Point ℕ). z.space == k) xs)) (cond b (Some y) (find (λ (z : Point (List Entry)). z.space == l) ys))
      by_test true rest = Both x y all.0
      by_test false rest = rest

  earlier_alike : (x y : Point ℕ) (v w : Point (List Entry)) → IsPoint p d.spaces x v → IsPoint p d.spaces y w → IsPoint p d.spaces (earlier x y) (earlier v w)
  earlier_alike x y v w one other =
      subst (λ (b : Bool). IsPoint p d.spaces (if is_earlier y x then y else x) (if b then w else v)) same (by_test (is_earlier y x))
    where
      same : is_earlier y x ≡ is_earlier w v
      same = rw (one.log_length, one.rebases, other.log_length, other.rebases) refl

      by_test : (b : Bool) → IsPoint p d.spaces (if b then y else x) (if b then w else v)
      by_test true = other
      by_test false = one

  meeting_alike : (xs ys : List (Point ℕ)) (vs ws : List (Point (List Entry))) → All xs vs → All ys ws → ArePoints p d.spaces (meeting xs ys) (meeting vs ws)
  meeting_alike [] ys [] ws all others = Neither
  meeting_alike [] ys (v ∷ vs) ws all others = absurd all
  meeting_alike (x ∷ xs) ys [] ws all others = absurd all
  meeting_alike (x ∷ xs) ys (v ∷ vs) ws all others =
      by_found (find (λ (z : Point ℕ). z.space == x.space) ys) (find (λ (z : Point (List Entry)). z.space == v.space) ws) (find_alike x.space v.space all.0.space ys ws others) (meeting_alike xs ys vs ws all.1 others)
    where
      by_found : (a : Option (Point ℕ)) (b : Option (Point (List Entry))) → ArePoints p d.spaces a b → ArePoints p d.spaces (meeting xs ys) (meeting vs ws)
          → ArePoints p d.spaces (option_or (option_map (earlier x) a) (meeting xs ys)) (option_or (option_map (earlier v) b) (meeting vs ws))
      by_found a b Neither rest = rest
      by_found a b (Both y w is) rest = Both (earlier x y) (earlier v w) (earlier_alike x y v w all.0 is)

  common_is : (x y : Point ℕ) (v w : Point (List Entry)) → IsPoint p d.spaces x v → IsPoint p d.spaces y w → IsPoint p d.spaces (common (climb_by p) x y) (common (climb_in d.spaces) v w)
  common_is x y v w one other =
      by_meeting (meeting (path (climb_by p) x.space x) (path (climb_by p) y.space y)) (meeting (path (climb_in d.spaces) v.space v) (path (climb_in d.spaces) w.space w))
      (meeting_alike (path (climb_by p) x.space x) (path (climb_by p) y.space y) (path (climb_in d.spaces) v.space v) (path (climb_in d.spaces) w.space w) (whole_path x v one) (whole_path y w other))
    where
      by_meeting : (a : Option (Point ℕ)) (b : Option (Point (List Entry))) → ArePoints p d.spaces a b → IsPoint p d.spaces (unwrap_or a x) (unwrap_or b v)
      by_meeting a b Neither = one
      by_meeting a b (Both z u is) = is

-- what two points have in common is related where they are
pub common_alike : (p : Parts) (d : Durable) (x y : Point ℕ) (v w : Point (List Entry)) → Stands p d → ((u : Workspace) → workspace_of d.spaces 0 ≡ Some u → u.turns ≡ []) → IsPoint p d.spaces x v → IsPoint p d.spaces y w
    → IsPoint p d.spaces (common (climb_by p) x y) (common (climb_in d.spaces) v w)
common_alike p d x y v w st live one other = common_is p d st live x y v w one other
