-- A merge or a refresh that removes nothing changes eight records at most, eight for each stretch of what is own or pending, and each mark
-- of the workspace; a merge each of its locks too.
use Rattle.std.proofs.Common.{◌≡◌, ℕ, ◌+◌, ◌*◌, ◌<◌, ◌≤◌, ◌==◌, Bool, true, false, not, ◌&&◌, if◌then◌else◌, List, [], ◌∷◌, ◌++◌, drop, map, length, zero, suc, Option, Some, None, is_some, unwrap_or, refl, sym, ap, subst, ◌∙◌, arith}
use Rattle.std.proofs.lemmas.Bool.{ne_eqb, and_parts, or_right, true≢false}
use Rattle.std.specs.List.{filter}
use Rattle.std.specs.Option.{option_map_or}
use Rattle.wm_graph.specs.Parts.{parts_of}
use Rattle.wm_model.proofs.Families.{Family, family, gained_same, own_same}
use Rattle.wm_model.proofs.Recorded.{home}
use Rattle.wm_model.specs.Merged.{after_edits, keep_edits, makings_of, merge_edits, rebase_edits, refresh_edits, replay_edits}
use Rattle.wm_model.specs.Planning.{StandsAt}
use Rattle.wm_model.specs.Step.{Asked, parent_in, pending, unlock_edits}
use Rattle.wm_model.specs.Undone.{NamesSpace}
use Rattle.wm_net.proofs.Cutting.{IsSteady-touched, has_cuts-before, has_cuts-behind, has_cuts-first, has_cuts-itself}
use Rattle.wm_net.proofs.Measuring.{IsSteady-alone, alone_count, gained_count, net_count, touched_alone}
use Rattle.wm_net.proofs.Netting.{Stamped-drop, gained_is, told_net}
use Rattle.wm_net.specs.Counts.{cut_count, has_cuts, is_end}
use Rattle.wm_net.specs.Nets.{gained}
use Rattle.wm_prices.proofs.Beside.{beside_same, beside_then, beside_wider, few_more}
use Rattle.wm_prices.proofs.Heads.{changes_in_all, is_either}
use Rattle.wm_prices.specs.Prices.{ChangesAtMost, ChangesBeside, Spends, holds_counters, is_head, marks_at}
use Rattle.wm_spec.specs.Lists.{Cell, Entry, Told, told, touched}
use Rattle.wm_spec.specs.Records.{record_at}
use Rattle.wm_spec.specs.declared.record.Record.{Record}
use Rattle.wm_spec.specs.declared.record.Record.TheVariants as records
use Rattle.wm_spec.specs.declared.record.space.Space.{Space}
use Rattle.wm_spec.specs.declared.record.stored.Stored.{Stored}
use Rattle.wm_spec.specs.declared.record.trace.Trace.{Trace}
use Rattle.wm_state.specs.Editing.{entry_of}
use Rattle.wm_state.specs.Standing.{Stands}
use Rattle.wm_state.specs.State.{Durable, Session, State, Workspace, fresh_live, workspace_named, workspace_of}
use Rattle.wm_state.specs.declared.edit.Edit.{Edit}
use Rattle.wm_state.specs.declared.edit.NewEntry.{NewEntry}
use Rattle.wm_telling.specs.Telling.{IsHeldListing, gained_held, own_held}
use Rattle.wm_spending.specs.Nets.{AreNets, Merge, Net, Nothing, Refresh}
use Rattle.wm_spending.specs.Stretches.{all_entries, going_count, stretch_count, stretches_of}
use Rattle.wm_spending.proofs.Ends.{EndIn, end_first, end_second, end_then}
use Rattle.wm_spending.proofs.Priced.{gain_priced, keep_priced, parted, rebase_bare, rebase_priced, replay_priced, unlock_priced}
use Rattle.wm_spending.proofs.Steps.{IsAt}

-- ---- entries that a list loses

cuts_dropped : (all : List Entry) (n : ℕ) (es : List Entry) → has_cuts all es ≡ true → has_cuts all (drop n es) ≡ true
cuts_dropped all zero es cut = cut
cuts_dropped all (suc n) [] cut = refl
cuts_dropped all (suc n) (e ∷ es) cut = cuts_dropped all n es (and_parts (is_end all e.table e.key e.from && is_end all e.table e.key e.till) (has_cuts all es) cut).1

-- what is gained is pending and not own
gained_alone : (es own pending : List Entry) (c : Cell) → told es c ≡ (if touched own c then None else told pending c) → touched es c ≡ true → touched_alone own pending c ≡ true
gained_alone es own pending c is here = by_own (touched own c) (told pending c) (ap is_some (sym is) ∙ here)
  where
    by_own : (b : Bool) (o : Option Told) → is_some (if b then None else o) ≡ true → (is_some o && not b) ≡ true
    by_own true o e = absurd (true≢false (sym e))
    by_own false (Some t) e = refl
    by_own false None e = e

left_head : (n m : ℕ) (r : Record) → is_head n r ≡ true → is_either n m r ≡ true
left_head n m r is = rw is refl

right_head : (n m : ℕ) (r : Record) → is_head m r ≡ true → is_either n m r ≡ true
right_head n m r is = or_right (is_head n r) (is_head m r) is

counters_head : (n m : ℕ) (r : Record) → holds_counters r ≡ true → is_either n m r ≡ true
counters_head n m (records.Counters c) is = refl
counters_head n m _ is = absurd (true≢false (sym is))

-- ---- a workspace beside its parent

module _ (rs : List Stored) (workspace : List ℕ) (a b : Space) (s : State) (f : Family rs workspace a b s) where
  abbrev all : List Entry
  all = all_entries f.w ++ all_entries f.q

  abbrev behind : List Entry
  behind = pending f.q f.w

  -- the stretches of what is own, and of what is pending alone
  abbrev own_count : ℕ
  own_count = cut_count all (touched f.w.lists.own)

  abbrev alone : ℕ
  alone = cut_count all (touched_alone f.w.lists.own behind)

  -- the marks that go
  abbrev marks : ℕ
  marks = length (marks_at (parts_of rs) a.number)

  together : own_count + alone ≤ stretches_of f.q f.w
  together = alone_count all f.w.lists.own behind

  -- the makings of the locks that go
  abbrev makings : List ℕ
  makings = makings_of a.number (parts_of rs).locks

  -- where their entries end
  own_cut : has_cuts all f.w.lists.own ≡ true
  own_cut =
      has_cuts-behind (all_entries f.w) (all_entries f.q) f.w.lists.own
      (has_cuts-before f.w.lists.at_birth _ f.w.lists.own (has_cuts-before f.w.lists.base _ f.w.lists.own (has_cuts-first f.w.lists.own f.w.lists.log)))

  behind_cut : has_cuts all behind ≡ true
  behind_cut =
      cuts_dropped all f.w.from f.q.lists.log
      (has_cuts-before (all_entries f.w) (all_entries f.q) f.q.lists.log
      (has_cuts-before f.q.lists.at_birth _ f.q.lists.log (has_cuts-before f.q.lists.base _ f.q.lists.log (has_cuts-before f.q.lists.own f.q.lists.log f.q.lists.log (has_cuts-itself f.q.lists.log)))))

  in_lists : (w : Workspace) → EndIn w.lists.log (all_entries w)
  in_lists w =
      end_then w.lists.log (w.lists.own ++ w.lists.log) (all_entries w) (end_second w.lists.own w.lists.log)
      (end_then (w.lists.own ++ w.lists.log) (w.lists.base ++ (w.lists.own ++ w.lists.log)) (all_entries w) (end_second w.lists.base (w.lists.own ++ w.lists.log))
      (end_second w.lists.at_birth (w.lists.base ++ (w.lists.own ++ w.lists.log))))

  log_ends : EndIn f.w.lists.log all
  log_ends = end_then f.w.lists.log (all_entries f.w) all (in_lists f.w) (end_first (all_entries f.w) (all_entries f.q))

  above_ends : EndIn f.q.lists.log all
  above_ends = end_then f.q.lists.log (all_entries f.q) all (in_lists f.q) (end_second (all_entries f.w) (all_entries f.q))

  own_ends : EndIn f.w.lists.own all
  own_ends =
      end_then f.w.lists.own (f.w.lists.own ++ f.w.lists.log) all (end_first f.w.lists.own f.w.lists.log)
      (end_then (f.w.lists.own ++ f.w.lists.log) (f.w.lists.base ++ (f.w.lists.own ++ f.w.lists.log)) all (end_second f.w.lists.base (f.w.lists.own ++ f.w.lists.log))
      (end_then (f.w.lists.base ++ (f.w.lists.own ++ f.w.lists.log)) (all_entries f.w) all (end_second f.w.lists.at_birth (f.w.lists.base ++ (f.w.lists.own ++ f.w.lists.log))) (end_first (all_entries f.w) (all_entries f.q))))

  -- what is listed
  module _ (m : ℕ) (user : List ℕ) where
    own_few : (es : List Entry) → IsHeldListing (parts_of rs) m user (own_held (parts_of rs) a) es → length es ≤ own_count
    own_few es listed = subst (λ (xs : List Entry). length xs ≤ own_count) (sym (own_same rs workspace a b s f m user es listed)) (net_count m user all f.w.lists.own own_cut)

    own_covered : (es : List Entry) → IsHeldListing (parts_of rs) m user (own_held (parts_of rs) a) es → (c : Cell) → touched es c ≡ true → touched f.w.lists.own c ≡ true
    own_covered es listed c here =
        ap is_some (sym (told_net m user f.tells f.w.lists.own f.own c)) ∙ ap (λ (xs : List Entry). touched xs c) (sym (own_same rs workspace a b s f m user es listed)) ∙ here

    gained_few : (es : List Entry) → IsHeldListing (parts_of rs) m user (gained_held (parts_of rs) a b) es → length es ≤ alone
    gained_few es listed =
        subst (λ (xs : List Entry). length xs ≤ alone) (sym (gained_same rs workspace a b s f m user es listed)) (gained_count m user all f.w.lists.own behind own_cut behind_cut)

    gained_covered : (es : List Entry) → IsHeldListing (parts_of rs) m user (gained_held (parts_of rs) a b) es → (c : Cell) → touched es c ≡ true → touched_alone f.w.lists.own behind c ≡ true
    gained_covered es listed c here =
        gained_alone es f.w.lists.own behind c
        (ap (λ (xs : List Entry). told xs c) (gained_same rs workspace a b s f m user es listed) ∙ gained_is m user f.tells f.w.lists.own behind (Stamped-drop f.tells f.w.from f.q.lists.log f.log) c) here

  -- ---- the two of them in the state

  space_at : IsAt s.durable.spaces a.number f.w.lists.log f.w.parent
  space_at = record { now = f.w; found = f.is.found; log_is = refl; parent_is = refl }

  parent_at : IsAt s.durable.spaces b.number f.q.lists.log f.q.parent
  parent_at = record { now = f.q; found = f.above.found; log_is = refl; parent_is = refl }

  parent_number : f.w.parent ≡ b.number
  parent_number = f.parent ∙ f.above.number

  apart : (a.number == b.number) ≡ false
  apart = ne_eqb a.number b.number (λ same. let older = f.older in let one = f.is.number in let two = f.above.number in absurd (omega (arith, same, older, one, two)))

  -- ---- what the two lines change

  refresh_few : (m user_moment : ℕ) (user : List ℕ) (gained : List NewEntry) (new : List Stored) → IsHeldListing (parts_of rs) user_moment user (gained_held (parts_of rs) a b) (map entry_of gained)
      → Spends m rs (refresh_edits a.number gained) new → ChangesBeside (is_either b.number a.number) (2 + own_count + marks + 5 * alone) rs new
  refresh_few m user_moment user gained new listed spends =
      let first = rebase_priced m a.number rs spends.next s.durable f.w f.q all f.beside.stands f.is.found f.beside.above own_cut own_ends spends.spent in
      let second = gain_priced m a.number gained spends.next new first.state f.w.lists.log f.w.parent all (touched_alone f.w.lists.own behind) first.stands first.known log_ends (IsSteady-alone all f.w.lists.own behind own_cut behind_cut)
      (gained_covered user_moment user (map entry_of gained) listed) (gained_few user_moment user (map entry_of gained) listed) spends.rest in
      beside_then (is_either b.number a.number) (2 + own_count + marks) (5 * alone) rs spends.next new
      (beside_wider (is_head a.number) (is_either b.number a.number) (2 + own_count + marks) rs spends.next (right_head b.number a.number) first.changes)
      (beside_wider (is_head a.number) (is_either b.number a.number) (5 * alone) spends.next new (right_head b.number a.number) second)

  merge_few : (m user_moment : ℕ) (user : List ℕ) (asked : Asked) (even : Bool) (own gained : List NewEntry) (new : List Stored) → asked.removes ≡ false
      → IsHeldListing (parts_of rs) user_moment user (own_held (parts_of rs) a) (map entry_of own) → IsHeldListing (parts_of rs) user_moment user (gained_held (parts_of rs) a b) (map entry_of gained)
      → Spends m rs (merge_edits asked even a.number b.number own gained makings) new → ChangesBeside (is_either b.number a.number) (1 + (1 + 6 * own_count) + (2 + marks + 5 * alone) + length makings) rs new
  merge_few m user_moment user asked even own gained new stays own_listed gained_listed spends =
      let one = parted m rs (keep_edits asked.keeps b.number) (replay_edits b.number own ++ after_edits asked.removes even a.number gained makings) new spends in
      let two = parted m one.between (replay_edits b.number own) (after_edits asked.removes even a.number gained makings) new one.rest in
      let three = parted m two.between (rebase_edits even a.number gained) (unlock_edits makings) new (subst (λ r. Spends m two.between (after_edits r even a.number gained makings) new) stays two.rest) in
      let kept = keep_priced m a.number b.number asked.keeps rs one.between s.durable f.w.lists.log f.q.lists.log f.w.parent f.q.parent f.beside.stands space_at parent_at one.first in
      let replayed = replay_priced m a.number b.number own one.between two.between kept.state f.w.lists.log f.q.lists.log f.w.parent f.q.parent all (touched f.w.lists.own) apart kept.stands kept.known.0 kept.known.1 above_ends
      (IsSteady-touched all f.w.lists.own own_cut) (own_covered user_moment user (map entry_of own) own_listed) (own_few user_moment user (map entry_of own) own_listed) two.first in
      let found = replayed.known.1 in
      beside_then wide (1 + (1 + 6 * own_count) + (2 + marks + 5 * alone)) (length makings) rs three.between new
      (beside_then wide (1 + (1 + 6 * own_count)) (2 + marks + 5 * alone) rs two.between three.between
      (beside_then wide 1 (1 + 6 * own_count) rs one.between two.between (beside_wider (is_head b.number) wide 1 rs one.between (left_head b.number a.number) kept.changes)
      (beside_wider (is_head b.number) wide (1 + 6 * own_count) one.between two.between (left_head b.number a.number) replayed.changes))
      (subst (λ k. ChangesBeside wide (2 + k + 5 * alone) two.between three.between) (ap (λ (xs : List Trace). length (filter (λ (x : Trace). x.space == a.number) xs)) (replayed.known.2 ∙ kept.known.2))
      (behind_few even two.between three.between replayed.state replayed.stands replayed.known.0 found.0 (ap (workspace_of replayed.state.spaces) parent_number ∙ found.1) three.first)))
      (beside_wider holds_counters wide (length makings) three.between new (counters_head b.number a.number) (unlock_priced m makings three.between new three.rest))
    where
      wide : Record → Bool
      wide = is_either b.number a.number

      behind_few : (same : Bool) (mid end : List Stored) (d : Durable) → Stands (parts_of mid) d → IsAt d.spaces a.number f.w.lists.log f.w.parent → (p : Workspace) → workspace_of d.spaces f.w.parent ≡ Some p → Spends m mid (rebase_edits same a.number gained) end
          → ChangesBeside wide (2 + length (marks_at (parts_of mid) a.number) + 5 * alone) mid end
      behind_few true mid end d st at p above spent = few_more wide 0 (2 + length (marks_at (parts_of mid) a.number) + 5 * alone) mid end (omega arith) (beside_same wide mid end spent)
      behind_few false mid end d st at p above spent =
          let first = rebase_bare m a.number mid spent.next d f.w.lists.log f.w.parent p st at above spent.spent in
          let second = gain_priced m a.number gained spent.next end first.state f.w.lists.log f.w.parent all (touched_alone f.w.lists.own behind) first.stands first.known log_ends (IsSteady-alone all f.w.lists.own behind own_cut behind_cut)
          (gained_covered user_moment user (map entry_of gained) gained_listed) (gained_few user_moment user (map entry_of gained) gained_listed) spent.rest in
          beside_then wide (2 + length (marks_at (parts_of mid) a.number)) (5 * alone) mid spent.next end (beside_wider (is_head a.number) wide (2 + length (marks_at (parts_of mid) a.number)) mid spent.next (right_head b.number a.number) first.changes)
          (beside_wider (is_head a.number) wide (5 * alone) spent.next end (right_head b.number a.number) second)

-- ---- and the stretches of the workspace of a name

at_most_more : (most more : ℕ) (old new : List Stored) → most ≤ more → ChangesAtMost most old new → ChangesAtMost more old new
at_most_more most more old new le c = record { ids = c.ids; few = let g = c.few in omega (arith, le, g); others = c.others }

-- counted for the workspace and its parent
counted_for : (w q : Workspace) (s : State) (name : List ℕ) → workspace_named name s.durable.spaces ≡ Some w → (w.number == 0) ≡ false → parent_in s w ≡ q → stretch_count s name ≡ stretches_of q w
counted_for w q s name named child above =
    ap {B = ℕ} (λ (o : Option Workspace). option_map_or (λ (v : Workspace). if v.number == 0 then 0 else stretches_of (parent_in s v) v) o 0) named
    ∙ ap {B = ℕ} (λ t. if t then 0 else stretches_of (parent_in s w) w) child
    ∙ ap (λ (p : Workspace). stretches_of p w) above

-- and the marks and the locks of its records
going_for : (rs : List Stored) (net : Net) (merges : Bool) (a : Space) → NamesSpace rs net.workspace a → net.merges ≡ merges
    → going_count rs net ≡ length (marks_at (parts_of rs) a.number) + (if merges then length (makings_of a.number (parts_of rs).locks) else 0)
going_for rs net merges a names is =
    ap {B = ℕ} (λ (o : Option Space). option_map_or (λ (r : Space). length (marks_at (parts_of rs) r.number) + (if net.merges then length (makings_of r.number (parts_of rs).locks) else 0)) o 0) names.found
    ∙ ap {B = ℕ} (λ t. length (marks_at (parts_of rs) a.number) + (if t then length (makings_of a.number (parts_of rs).locks) else 0)) is

pub spends_few : (rs new : List Stored) (xs : List Session) (m m_plan : ℕ) (net : Net) (edits : List Edit) (s : State) → StandsAt rs xs m_plan s → AreNets rs net edits → Spends m rs edits new → ChangesAtMost (8 + 8 * stretch_count s net.workspace + going_count rs net) rs new
spends_few rs new xs m m_plan net edits s st (Nothing none) spends = record {
  ids = [];
  few = omega arith;
  others = λ id out. ap (λ (ss : List Stored). record_at ss id) (subst (λ (es : List Edit). Spends m rs es new) none spends);
}
spends_few rs new xs m m_plan net edits s st (Refresh refreshes r) spends =
    let a = r.space in
    let b = r.parent in
    let f = family rs xs m_plan net.workspace a b s r.family st in
    let h = home rs xs m_plan net.workspace a s r.family.space st in
    let few = refresh_few rs net.workspace a b s f m r.moment r.user r.gained new r.listed (subst (λ (es : List Edit). Spends m rs es new) r.are spends) in
    let all = together rs net.workspace a b s f in
    let is = counted_for f.w f.q s net.workspace (h.named ∙ sym h.is.found ∙ f.is.found) (child f.w.number a.number f.is.number f.child) (ap (λ (o : Option Workspace). unwrap_or o fresh_live) f.beside.above) in
    let went = going_for rs net false a r.family.space refreshes in
    at_most_more _ (8 + 8 * stretch_count s net.workspace + going_count rs net) rs new (omega (arith, all, is, went)) (changes_in_all b.number a.number _ rs new st.stands.rules few)
  where
    child : (k n : ℕ) → k ≡ n → 0 < n → (k == 0) ≡ false
    child k n same lt = ne_eqb k 0 (λ none. absurd (omega (arith, same, lt, none)))
spends_few rs new xs m m_plan net edits s st (Merge merges r) spends =
    let a = r.space in
    let b = r.parent in
    let f = family rs xs m_plan net.workspace a b s r.family st in
    let h = home rs xs m_plan net.workspace a s r.family.space st in
    let few = merge_few rs net.workspace a b s f m r.moment r.user r.asked r.even r.own r.gained new r.stays r.own_listed r.gained_listed (subst (λ (es : List Edit). Spends m rs es new) r.are spends) in
    let all = together rs net.workspace a b s f in
    let is = counted_for f.w f.q s net.workspace (h.named ∙ sym h.is.found ∙ f.is.found) (child f.w.number a.number f.is.number f.child) (ap (λ (o : Option Workspace). unwrap_or o fresh_live) f.beside.above) in
    let went = going_for rs net true a r.family.space merges in
    at_most_more _ (8 + 8 * stretch_count s net.workspace + going_count rs net) rs new (omega (arith, all, is, went)) (changes_in_all b.number a.number _ rs new st.stands.rules few)
  where
    child : (k n : ℕ) → k ≡ n → 0 < n → (k == 0) ≡ false
    child k n same lt = ne_eqb k 0 (λ none. absurd (omega (arith, same, lt, none)))
