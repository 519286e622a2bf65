-- The rows of the stretches of a key on which versions differ.
use Rattle.std.proofs.Common.{◌≡◌, ℕ, ◌<◌, ◌≤◌, ◌⊎◌, inl, inr, Bool, true, false, cond, List, [], ◌∷◌, ◌++◌, map, Option, None, is_some, refl, sym, ap, ◌∙◌, subst, arith, append_assoc}
use Rattle.std.proofs.lemmas.Bool.Decides.{nat_tests}
use Rattle.std.proofs.lemmas.Grind.{flat_map-append}
use Rattle.std.proofs.lemmas.List.{append-nil, map-append}
use Rattle.std.proofs.lemmas.List.Elements.{filter-append}
use Rattle.std.specs.Bool.{then_some}
use Rattle.std.specs.List.{filter, flat_map}
use Rattle.std.specs.Option.{option_and_then}
use Rattle.wm_base.specs.declared.instant.TheConstants.{END}
use Rattle.wm_base.specs.declared.row.Row.{Row}
use Rattle.wm_base.specs.declared.value.Value.{Value}
use Rattle.wm_graph.specs.Parts.{Parts, as_piece, parts_of}
use Rattle.wm_graph.specs.Rules.{keep_rules}
use Rattle.wm_ids.specs.Versioned.{ids_under}
use Rattle.wm_ids.specs.declared.versioned.Versioned.{Versioned}
use Rattle.wm_image.specs.Shown.{HoldKey, first_held}
use Rattle.wm_index.specs.Kinds.{kind_at}
use Rattle.wm_net.proofs.Stretching.{le_or_lt}
use Rattle.wm_net.specs.Conflicts.{Stamps, grouped, same_stamps}
use Rattle.wm_net.specs.Listed.{Stretch}
use Rattle.wm_pending.proofs.Chaining.{AreFirsts, Lists, first_alike, firsts_list, firsts_more}
use Rattle.wm_pending.proofs.Walking.{stamps_made}
use Rattle.wm_pending.specs.Sides.{contest_at, stamps_at}
use Rattle.wm_pending.specs.Walks.{IsNext, IsReady, left_in}
use Rattle.wm_pending.specs.declared.sides.Sides.{Sides}
use Rattle.wm_pending.specs.declared.walk.Walk.{Walk}
use Rattle.wm_period.specs.Pieces.{held_at}
use Rattle.wm_period.specs.declared.piece.Piece.{Piece}
use Rattle.wm_spec.specs.Lists.{Cell}
use Rattle.wm_spec.specs.declared.record.stored.Stored.{Stored}
use Rattle.wm_spec.specs.declared.record.table.Table.{Table}
use Rattle.wm_state.specs.Listing.{standing}
use Rattle.wm_state.specs.Standing.{newest_first, seen}
use Rattle.wm_tree.specs.Versions.{path_in}
use Rattle.wm_version_rows.proofs.Late.{late_seen}
use Rattle.wm_version_rows.proofs.Walking.{seen_along}
use Rattle.wm_version_rows.specs.Laying.{along}
use Rattle.wm_view_rows.specs.Differences.{Versions, difference_held, differs, version_rows}
use Rattle.wm_differences.proofs.Keeping.{has, kept_joined, kept_ordered, kept_value, passed}
use Rattle.wm_differences.specs.Shown.{GainsRows, all_time, differing, group_in, rows_shown}

-- ---- what versions hold of a key

-- what is laid is what a version holds
pub laid_seen : (ss : List Stored) (table : ℕ) (key : List Value) (es : List Versioned) (top : ℕ) (laid : List Piece) → HoldKey ss table key es
    → ((t : ℕ) → t < END → held_at laid t ≡ along (λ v. first_held (kind_at as_piece ss (ids_under es v)) v t) (path_in (newest_first (parts_of ss).versions) top)) → (t : ℕ) → t < END
    → held_at laid t ≡ seen (parts_of ss) top (record { table = table; key = key; time = t })
laid_seen ss table key es top laid hold is t less =
    is t less ∙ seen_along (parts_of ss) top (record { table = table; key = key; time = t }) (λ v. first_held (kind_at as_piece ss (ids_under es v)) v t) (λ v. hold v t)

always_early : (t : ℕ) → t < END → is_some (held_at all_time t) ≡ true
always_early t less = grind (arith, nat_tests, less)

always_late : (t : ℕ) → END ≤ t → is_some (held_at all_time t) ≡ false
always_late t late = grind (arith, nat_tests, late)

module _ (p : Parts) (v : Versions) (table : ℕ) (key : List Value) (rules : keep_rules p ≡ true) where
  abbrev pub at : ℕ → Cell
  at t = record { table = table; key = key; time = t }

  -- from the end of time on none stands
  none_late : (t : ℕ) → END ≤ t → difference_held p v (at t) ≡ None
  none_late t late =
      ap (λ (x : Stamps). then_some (differs x) x)
      (stamps_made _ _ _ _ _ _ (ap (option_and_then standing) (late_seen p v.base (at t) rules late)) (ap (option_and_then standing) (late_seen p v.first (at t) rules late))
      (ap (option_and_then standing) (late_seen p v.second (at t) rules late)))

  -- the sides of a key over all of time differ where the versions do
  pub sides_differ : (s : Sides) → s.contested ≡ all_time → ((t : ℕ) → t < END → held_at s.base t ≡ seen p v.base (at t)) → ((t : ℕ) → t < END → held_at s.parent t ≡ seen p v.first (at t))
      → ((t : ℕ) → t < END → held_at s.child t ≡ seen p v.second (at t)) → (t : ℕ) → differing (contest_at s t) ≡ difference_held p v (at t)
  sides_differ s all base first second t = by_place (le_or_lt END t)
    where
      contested : is_some (held_at s.contested t) ≡ is_some (held_at all_time t)
      contested = ap (λ (ps : List Piece). is_some (held_at ps t)) all

      by_place : (END ≤ t) ⊎ (t < END) → differing (contest_at s t) ≡ difference_held p v (at t)
      by_place (inl late) = ap (λ b. differing (then_some b (stamps_at s t))) (contested ∙ always_late t late) ∙ sym (none_late t late)
      by_place (inr early) =
          ap (λ b. differing (then_some b (stamps_at s t))) (contested ∙ always_early t early)
          ∙ ap (λ (x : Stamps). then_some (differs x) x)
          (stamps_made _ _ _ _ _ _ (ap (option_and_then standing) (base t early)) (ap (option_and_then standing) (first t early)) (ap (option_and_then standing) (second t early)))

-- ---- a walk

-- the rows of stretches of a key
abbrev pub all_rows : Parts → List ℕ → List ℕ → Table → List Value → List (Stretch Stamps) → List Row
all_rows p first second t key ss = flat_map (version_rows p first second t) (map (grouped (group_in t key)) (filter (has differs) ss))

-- rows that were added on a walk up to where it stands
pub record Walked (p : Parts) (first second : List ℕ) (t : Table) (key : List Value) (f : ℕ → Option Stamps) (old now : List Row) (walk : Walk) : Type 0 where
  pub stretches : List (Stretch Stamps)
  pub firsts : AreFirsts f 0 stretches walk.at
  pub ready : IsReady walk
  pub contests : (u : ℕ) → walk.at ≤ u → contest_at (left_in walk) u ≡ f u
  pub is : now ≡ old ++ all_rows p first second t key stretches

module _ (p : Parts) (first second : List ℕ) (t : Table) (key : List Value) where
  pub walked_none : (f : ℕ → Option Stamps) (old : List Row) (walk : Walk) → IsReady walk → walk.at ≡ 0 → ((u : ℕ) → contest_at (left_in walk) u ≡ f u) → Walked p first second t key f old old walk
  walked_none f old walk ready begins same = record { stretches = []; firsts = sym begins; ready = ready; contests = λ u le. same u; is = sym (append-nil old) }

  -- those of one stretch more
  one_more : (ss : List (Stretch Stamps)) (x : Stretch Stamps) → all_rows p first second t key (ss ++ x ∷ []) ≡ all_rows p first second t key ss ++ rows_shown p first second t key x
  one_more ss x =
      ap (λ (l : List (Stretch Stamps)). flat_map (version_rows p first second t) (map (grouped (group_in t key)) l)) (filter-append (has differs) ss (x ∷ []))
      ∙ ap (flat_map (version_rows p first second t)) (map-append (grouped (group_in t key)) (filter (has differs) ss) (filter (has differs) (x ∷ [])))
      ∙ flat_map-append (version_rows p first second t) (map (grouped (group_in t key)) (filter (has differs) ss)) (map (grouped (group_in t key)) (filter (has differs) (x ∷ [])))
      ∙ ap (λ (l : List Row). all_rows p first second t key ss ++ l) (by_test (differs x.value))
    where
      by_test : (b : Bool) → flat_map (version_rows p first second t) (map (grouped (group_in t key)) (cond b (x ∷ []) [])) ≡ cond b (version_rows p first second t (group_in t key, x)) []
      by_test true = append-nil (version_rows p first second t (group_in t key, x))
      by_test false = refl

  pub walked_more : (f : ℕ → Option Stamps) (old now new : List Row) (walk rest : Walk) (x : Stretch Stamps) → Walked p first second t key f old now walk → IsNext walk x rest
      → new ≡ now ++ rows_shown p first second t key x → Walked p first second t key f old new rest
  walked_more f old now new walk rest x so next more =
      let begins : walk.at ≤ x.from = next.first.begins in
      let real : x.from < x.till = next.first.real in
      let at : rest.at ≡ x.till = next.goes.is in
      record {
        stretches = so.stretches ++ x ∷ [];
        firsts = subst (λ (u : ℕ). AreFirsts f 0 (so.stretches ++ x ∷ []) u) (sym at)
            (firsts_more f 0 so.stretches walk.at x so.firsts (first_alike (contest_at (left_in walk)) f walk.at x so.contests next.first));
        ready = next.goes.ready;
        contests = λ u le. next.goes.contests u (omega (arith, at, le)) ∙ so.contests u (omega (arith, at, le, begins, real));
        is =
            more
            ∙ ap (λ (l : List Row). l ++ rows_shown p first second t key x) so.is
            ∙ append_assoc old (all_rows p first second t key so.stretches) (rows_shown p first second t key x)
            ∙ ap (λ (l : List Row). old ++ l) (sym (one_more so.stretches x));
      }

  -- all of them
  pub walked_all : (f : ℕ → Option Stamps) (old now : List Row) (walk : Walk) → Walked p first second t key f old now walk → ((u : ℕ) → walk.at ≤ u → contest_at (left_in walk) u ≡ None)
      → GainsRows p first second t key (λ (u : ℕ). differing (f u)) old now
  walked_all f old now walk so none =
      let list : Lists f 0 so.stretches = firsts_list f 0 so.stretches walk.at so.firsts (λ u le. sym (so.contests u le) ∙ none u le) in
      record {
        stretches = filter (has differs) so.stretches;
        block = record {
          ordered = kept_ordered differs 0 so.stretches list.ordered;
          joined = kept_joined same_stamps differs 0 so.stretches list.ordered list.joined;
          holds = λ u. kept_value differs 0 so.stretches list.ordered u ∙ ap (passed differs) (list.holds u (omega arith));
        };
        is = so.is;
      }

  -- of another function that gives the same
  pub gains_alike : (f h : ℕ → Option Stamps) (old new : List Row) → ((u : ℕ) → f u ≡ h u) → GainsRows p first second t key f old new → GainsRows p first second t key h old new
  gains_alike f h old new same so =
      record { stretches = so.stretches; block = record { ordered = so.block.ordered; joined = so.block.joined; holds = λ u. so.block.holds u ∙ same u }; is = so.is }
