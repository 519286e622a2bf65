-- A refresh and a merge leave a lawful state.
use Rattle.std.proofs.Common.{◌≡◌, ◌≢◌, ℕ, ◌+◌, ◌<◌, ◌==◌, Bool, true, false, not, ◌&&◌, ◌||◌, cond, if◌then◌else◌, List, [], ◌++◌, length, unwrap_or, Option, Some, None, option_map, refl, sym, ap, ◌∙◌, arith, ◌⊎◌, inl, inr}
use Rattle.std.proofs.lemmas.Bool.{cases_eq, eq-eqb, ne_eqb, true≢false}
use Rattle.std.proofs.lemmas.Option.{same_Some}
use Rattle.std.specs.List.{list_any}
use Rattle.wm_net.specs.Nets.{net}
use Rattle.wm_net.proofs.Merging.{merge_law, refresh_law}
use Rattle.wm_net.proofs.Netting.{Alike-net, gained_is}
use Rattle.wm_print.specs.Texts.{Fine}
use Rattle.wm_spec.specs.Lists.{Alike, Entry, Told}
use Rattle.wm_state.specs.Editing.{implicit_name, kept_in, saved, unlocked_of, without}
use Rattle.wm_state.specs.State.{Durable, Savepoint, Session, Stand, Latest, At, Dated, Workspace, content, fresh_live, next_making, with_entries, with_savepoint, with_space, workspace_of}
use Rattle.wm_state.proofs.Changing.{differ-changed, workspace_of-changed}
use Rattle.wm_model.specs.Lawful.{Each, IsAt, IsSound, LawfulSpaces, LawfulState, Seats}
use Rattle.wm_model.specs.Step.{Answer, Asked, State, first_fault, gained_of, has_child, has_locks, is_child, is_even, is_inside, is_quiet, leaving_faults, longer_log, merge, merge_workspace, merged, merged_with, merging_faults, no_parent, parent_in, pending, refresh, refresh_workspace, refreshed, refreshing_faults, session_inside, unless}
use Rattle.wm_model.proofs.Lawful.Entries.{AllHold, all_swapped, holds_appended}
use Rattle.wm_model.proofs.Lawful.Firsts.{no_faults, none_inside, none_named, none_refused}
use Rattle.wm_model.proofs.Lawful.Leaves.{Leaves, leaves_durably, leaves_if, leaves_saved, leaves_unless, leaves_with_named, stays}
use Rattle.wm_model.proofs.Lawful.Nets.{each_drop, gained_sound, net_sound, sound_stamped}
use Rattle.wm_model.proofs.Lawful.Rebasing.{base_alike, holds_rebased, over_parent, rebased_with, spaces_rebased}
use Rattle.wm_model.proofs.Lawful.Saving.{newest, space_appended}
use Rattle.wm_model.proofs.Lawful.Spaces.{at_its_number, changed, goes_appended, number_is, seats_kept, seats_swapped, spaces_kept, swapped}
use Rattle.wm_model.proofs.Lawful.Undoing.{NoChild, leaves_faultless, leaves_left, removed}

-- ---- workspaces of which one stands on another

-- lawful workspaces whose entries are sound by what stamps tell, with the seats of the sessions
record Holding (tells : ℕ → Told) (next : ℕ) (xs : List Session) (ws : List Workspace) : Type 0 where
  spaces : LawfulSpaces ws
  sound : AllHold (IsSound tells next) ws
  seats : Seats ws xs

-- a workspace and its parent are among them
record Family (tells : ℕ → Told) (next : ℕ) (xs : List Session) (w p : Workspace) (ws : List Workspace) : Type 0 where
  all : Holding tells next xs ws
  above : 0 < w.number
  child : workspace_of ws w.number ≡ Some w
  parent : workspace_of ws w.parent ≡ Some p

leaves_holding : (s : State) (l : LawfulState s) (ws : List Workspace) (answer : Answer) → Holding l.durable.entries.tells s.durable.next_stamp s.sessions ws → Leaves (record s { durable = record s.durable { spaces = ws } }, answer)
leaves_holding s l ws answer h = record {
  lawful = record { durable = record { spaces = h.spaces; entries = record { tells = l.durable.entries.tells; each = h.sound; staged = l.durable.entries.staged } }; seats = h.seats };
}

family_in : (s : State) (w p : Workspace) (l : LawfulState s) → 0 < w.number → workspace_of s.durable.spaces w.number ≡ Some w → workspace_of s.durable.spaces w.parent ≡ Some p
    → Family l.durable.entries.tells s.durable.next_stamp s.sessions w p s.durable.spaces
family_in s w p l above child parent = record {
  all = record { spaces = l.durable.spaces; sound = l.durable.entries.each; seats = l.seats };
  above = above;
  child = child;
  parent = parent;
}

-- the two are not one
parent_apart : (ws : List Workspace) (w p : Workspace) → LawfulSpaces ws → 0 < w.number → workspace_of ws w.number ≡ Some w → workspace_of ws w.parent ≡ Some p → w.number ≢ p.number
parent_apart ws w p l above child parent same = let older = (l.bases w.number w above child).older in absurd (omega (arith, older, same, number_is ws w.parent p parent))

-- ---- what is pending and what is own

pending_sound : (tells : ℕ → Told) (next : ℕ) (xs : List Session) (w p : Workspace) (ws : List Workspace) → Family tells next xs w p ws → Each (IsSound tells next) (pending p w)
pending_sound tells next xs w p ws f = each_drop (IsSound tells next) w.from p.lists.log (f.all.sound w.parent p f.parent).log

own_sound : (tells : ℕ → Told) (next : ℕ) (xs : List Session) (w p : Workspace) (ws : List Workspace) → Family tells next xs w p ws → Each (IsSound tells next) w.lists.own
own_sound tells next xs w p ws f = (f.all.sound w.number w f.child).own

-- ---- the parent has entries more

family_appended : (tells : ℕ → Told) (next : ℕ) (xs : List Session) (w p : Workspace) (ws : List Workspace) (es : List Entry) → Family tells next xs w p ws → Each (IsSound tells next) es
    → Family tells next xs w (with_entries es p) (with_space p.number (with_entries es) ws)
family_appended tells next xs w p ws es f each =
    let l = f.all.spaces in
    let P = IsSound tells next in
    let vs = with_space p.number (with_entries es) ws in
    let c = changed ws p.number (with_entries es) p (λ _. refl) (at_its_number ws w.parent p f.parent) (goes_appended es p) in
    record {
      all = record {
        spaces = spaces_kept ws vs p.number p (with_entries es p) l c (differ-changed p.number (with_entries es) (λ _. refl) ws ∙ l.once) (space_appended p es (l.each w.parent p f.parent));
        sound = all_swapped P ws vs p.number p (with_entries es p) f.all.sound c.swap (holds_appended P es p (f.all.sound w.parent p f.parent) each);
        seats = seats_kept ws vs p.number p (with_entries es p) xs c f.all.seats;
      };
      above = f.above;
      child = c.swap.others w.number (parent_apart ws w p l f.above f.child f.parent) ∙ f.child;
      parent = ap (workspace_of vs) (sym (number_is ws w.parent p f.parent)) ∙ c.swap.now;
    }

-- ---- the workspace is rebased

holding_rebased : (emptied : Bool) (tells : ℕ → Told) (next : ℕ) (xs : List Session) (w p : Workspace) (ws : List Workspace) (es : List Entry) → Family tells next xs w p ws → Each (IsSound tells next) es
    → Alike (content (rebased_with emptied p es w)) (w.lists.at_birth ++ (w.lists.log ++ es)) → Holding tells next xs (with_space w.number (rebased_with emptied p es) ws)
holding_rebased emptied tells next xs w p ws es f each alike =
    let P = IsSound tells next in
    let act = rebased_with emptied p es in
    let vs = with_space w.number act ws in
    let swap = swapped ws w.number act w (λ _. refl) f.child in
    record {
      spaces = spaces_rebased emptied ws p w es f.all.spaces f.above f.child f.parent alike;
      sound = all_swapped P ws vs w.number w (act w) f.all.sound swap (holds_rebased P emptied p w es (f.all.sound w.parent p f.parent) (f.all.sound w.number w f.child) each);
      seats = seats_swapped ws vs w.number w (act w) swap at xs f.all.seats;
    }
  where
    at : (stand : Stand) → IsAt w stand → IsAt (rebased_with emptied p es w) stand
    at Latest stood = stood
    at (Dated date) stood = stood
    at (At making) stood = stood

-- ---- a refresh

refreshed_alike : (moment : ℕ) (user : List ℕ) (tells : ℕ → Told) (next : ℕ) (xs : List Session) (w p : Workspace) (ws : List Workspace) → Family tells next xs w p ws
    → Alike (content p ++ w.lists.own) (w.lists.at_birth ++ (w.lists.log ++ gained_of moment user p w))
refreshed_alike moment user tells next xs w p ws f =
    let l = f.all.spaces in
    let here = l.each w.number w f.child in
    let parent = l.each w.parent p f.parent in
    let o = over_parent ws w p (l.bases w.number w f.above f.child) f.parent in
    refresh_law w.lists.at_birth w.lists.base w.lists.own w.lists.log p.lists.at_birth p.lists.base p.lists.own p.lists.log w.from (gained_of moment user p w) here.latest parent.latest (base_alike p w here o f.above)
    (gained_is moment user tells w.lists.own (pending p w) (sound_stamped tells next (pending p w) (pending_sound tells next xs w p ws f)))

leaves_refresh : (session : Session) (w p : Workspace) (s : State) → LawfulState s → 0 < w.number → workspace_of s.durable.spaces w.number ≡ Some w → workspace_of s.durable.spaces w.parent ≡ Some p → Leaves (refresh session p w s)
leaves_refresh session w p s l above child parent =
    let tells = l.durable.entries.tells in
    let next = s.durable.next_stamp in
    let ws = s.durable.spaces in
    let es = gained_of s.moment session.user p w in
    let f = family_in s w p l above child parent in
    leaves_if (is_quiet p w) _ _ (stays s _ l)
    (leaves_durably s (length w.lists.log + length es) _ l
    (leaves_holding s l (with_space w.number (refreshed es p) ws) Fine
    (holding_rebased false tells next s.sessions w p ws es f
    (gained_sound tells next s.moment session.user w.lists.own (pending p w) (pending_sound tells next s.sessions w p ws f))
    (refreshed_alike s.moment session.user tells next s.sessions w p ws f))))

-- the parent of a workspace that is not LIVE
parent_found : (s : State) (w : Workspace) → LawfulState s → 0 < w.number → workspace_of s.durable.spaces w.number ≡ Some w → workspace_of s.durable.spaces w.parent ≡ Some (parent_in s w)
parent_found s w l above child =
    let b = l.durable.spaces.bases w.number w above child in b.is ∙ ap (λ (o : Option Workspace). Some (unwrap_or o fresh_live)) (sym b.is)

-- what is done with a workspace that is not LIVE
leaves_below_live : (s : State) (name : List ℕ) (act : Workspace → State × Answer) → LawfulState s → ((w : Workspace) → workspace_of s.durable.spaces w.number ≡ Some w → 0 < w.number → Leaves (act w))
    → (w : Workspace) → workspace_of s.durable.spaces w.number ≡ Some w → Leaves (if w.number == 0 then (s, no_parent name) else act w)
leaves_below_live s name act l each w known = by_number (cases_eq w.number 0)
  where
    by_number : (w.number ≡ 0) ⊎ (w.number ≢ 0) → Leaves (if w.number == 0 then (s, no_parent name) else act w)
    by_number (inl live) = rw (eq-eqb w.number 0 live) (stays s _ l)
    by_number (inr other) = rw (ne_eqb w.number 0 other) (each w known (omega (arith, other)))

pub leaves_refresh_workspace : (session : Session) (name : List ℕ) (s : State) → LawfulState s → Leaves (refresh_workspace session name s)
leaves_refresh_workspace session name s l =
    leaves_with_named s name _ l
    (leaves_below_live s name (λ w. unless (first_fault (refreshing_faults s (parent_in s w) w)) s (refresh session (parent_in s w) w s)) l
    (λ w known above. leaves_unless (first_fault (refreshing_faults s (parent_in s w) w)) s _ l (leaves_refresh session w (parent_in s w) s l above known (parent_found s w l above known))))

-- ---- a merge

merged_alike : (moment : ℕ) (user : List ℕ) (tells : ℕ → Told) (next : ℕ) (xs : List Session) (w p : Workspace) (ws : List Workspace) → Family tells next xs w p ws
    → Alike (content (with_entries (net moment user w.lists.own) p) ++ []) (w.lists.at_birth ++ (w.lists.log ++ gained_of moment user p w))
merged_alike moment user tells next xs w p ws f =
    let l = f.all.spaces in
    let here = l.each w.number w f.child in
    let parent = l.each w.parent p f.parent in
    let o = over_parent ws w p (l.bases w.number w f.above f.child) f.parent in
    merge_law w.lists.at_birth w.lists.base w.lists.own w.lists.log p.lists.at_birth p.lists.base p.lists.own p.lists.log w.from (net moment user w.lists.own) (gained_of moment user p w) here.latest parent.latest
    (base_alike p w here o f.above) (Alike-net moment user tells w.lists.own (sound_stamped tells next w.lists.own (own_sound tells next xs w p ws f)))
    (gained_is moment user tells w.lists.own (pending p w) (sound_stamped tells next (pending p w) (pending_sound tells next xs w p ws f)))

holding_merged : (moment : ℕ) (user : List ℕ) (tells : ℕ → Told) (w p : Workspace) (d : Durable) (xs : List Session) → Family tells d.next_stamp xs w p d.spaces
    → Holding tells d.next_stamp xs (merged (net moment user w.lists.own) (gained_of moment user p w) p w d).spaces
holding_merged moment user tells w p d xs f =
    let next = d.next_stamp in
    let own = net moment user w.lists.own in
    let es = gained_of moment user p w in
    holding_rebased true tells next xs w (with_entries own p) (with_space p.number (with_entries own) d.spaces) es
    (family_appended tells next xs w p d.spaces own f (net_sound tells next moment user w.lists.own (own_sound tells next xs w p d.spaces f)))
    (gained_sound tells next moment user w.lists.own (pending p w) (pending_sound tells next xs w p d.spaces f))
    (merged_alike moment user tells next xs w p d.spaces f)

-- a change of a workspace that keeps its number and its parent gives none a child
none_changed : (n : ℕ) (act : Workspace → Workspace) (ws : List Workspace) (w : Workspace) → ((x : Workspace) → (act x).number ≡ x.number) → ((x : Workspace) → (act x).parent ≡ x.parent) → NoChild ws w → NoChild (with_space n act ws) w
none_changed n act ws w number parent none m x found = by_test (m == n) (workspace_of ws m) refl (sym (workspace_of-changed n act number ws m) ∙ found)
  where
    by_test : (b : Bool) (o : Option Workspace) → workspace_of ws m ≡ o → cond b (option_map act o) o ≡ Some x → is_child w x ≡ false
    by_test true None is e = absurd (cc)
    by_test false None is e = absurd (cc)
    by_test true (Some y) is e = rw (← (same_Some (act y) x e), parent y, number y) (none m y is)
    by_test false (Some y) is e = none m x (is ∙ e)

none_merged : (own es : List Entry) (p w : Workspace) (d : Durable) → NoChild d.spaces w → NoChild (merged own es p w d).spaces w
none_merged own es p w d none =
    none_changed w.number (rebased_with true (with_entries own p) es) (with_space p.number (with_entries own) d.spaces) w (λ _. refl) (λ _. refl)
    (none_changed p.number (with_entries own) d.spaces w (λ _. refl) (λ _. refl) none)

-- no workspace stands on the one that goes, and no session in it
record Alone (s : State) (w : Workspace) : Type 0 where
  none : NoChild s.durable.spaces w
  away : list_any (is_inside w) s.sessions ≡ false

alone_with : (removes : Bool) (s : State) (w : Workspace) → first_fault (leaving_faults removes s w) ≡ None → removes ≡ true → Alone s w
alone_with true s w none removes = let h = no_faults (leaving_faults true s w) none in record {
  none = none_named (is_child w) s (none_refused (has_child w.name) (λ _. refl) _ h.1.0);
  away = none_inside (is_inside w) s.sessions (none_refused (session_inside w.name) (λ _. refl) _ h.0);
}
alone_with false s w none removes = absurd (true≢false (sym removes))

-- the workspace goes, where that is asked for, and its locks go
abbrev gone : Bool → Workspace → State → State
gone removes w s = record s {
  durable = record s.durable { spaces = if removes then without w.number s.durable.spaces else s.durable.spaces; locks = unlocked_of w.number s.durable.locks };
  sessions = if removes then (removed w s).sessions else s.sessions;
}

leaves_removed : (removes : Bool) (w : Workspace) (s : State) (answer : Answer) → LawfulState s → 0 < w.number → (removes ≡ true → Alone s w)
    → Leaves (gone removes w s, answer)
leaves_removed true w s answer l above alone = let a = alone refl in leaves_left w s answer l above a.none a.away
leaves_removed false w s answer l above alone = record {
  lawful = record { durable = record { spaces = l.durable.spaces; entries = l.durable.entries }; seats = l.seats };
}

-- what is merged with the parent that is there
leaves_merged : (removes : Bool) (user : List ℕ) (w p : Workspace) (s : State) → LawfulState s → 0 < w.number → workspace_of s.durable.spaces w.number ≡ Some w → workspace_of s.durable.spaces w.parent ≡ Some p → (removes ≡ true → Alone s w)
    → Leaves (gone removes w (record s { durable = merged_with (net s.moment user w.lists.own) (gained_of s.moment user p w) p w s.durable }), Fine)
leaves_merged removes user w p s l above child parent alone = by_even (is_even p w)
  where
    own : List Entry
    own = net s.moment user w.lists.own

    es : List Entry
    es = gained_of s.moment user p w

    moved : Leaves (record s { durable = merged own es p w s.durable }, Fine)
    moved =
        leaves_holding s l (merged own es p w s.durable).spaces Fine
        (holding_merged s.moment user l.durable.entries.tells w p s.durable s.sessions (family_in s w p l above child parent))

    still : removes ≡ true → Alone (record s { durable = merged own es p w s.durable }) w
    still asked = let a = alone asked in record { none = none_merged own es p w s.durable a.none; away = a.away }

    by_even : (b : Bool) → Leaves (gone removes w (record s { durable = if b then s.durable else merged own es p w s.durable }), Fine)
    by_even true = leaves_removed removes w s Fine l above alone
    by_even false = leaves_removed removes w (record s { durable = merged own es p w s.durable }) Fine moved.lawful above still

-- the savepoint that a merge makes of the parent first
abbrev mark_of : ℕ → Durable → Workspace → Savepoint
mark_of moment d p = newest (next_making d.spaces) moment p (implicit_name p) true

abbrev keeping : ℕ → Durable → Workspace → Workspace → Workspace
keeping moment d p = with_savepoint (p.next_place + 1) (p.next_implicit + 1) (mark_of moment d p)

kept_is : (moment : ℕ) (d : Durable) (p : Workspace) → workspace_of d.spaces p.number ≡ Some p → kept_in moment p.number d ≡ saved p.number (p.next_place + 1) (p.next_implicit + 1) (mark_of moment d p) d
kept_is moment d p found = rw found refl

leaves_kept : (removes : Bool) (user : List ℕ) (w p : Workspace) (s : State) → LawfulState s → 0 < w.number → workspace_of s.durable.spaces w.number ≡ Some w → workspace_of s.durable.spaces w.parent ≡ Some p → (removes ≡ true → Alone s w)
    → Leaves (gone removes w (record s { durable = merged_with (net s.moment user w.lists.own) (gained_of s.moment user p w) p w (kept_in s.moment p.number s.durable) }), Fine)
leaves_kept removes user w p s l above child parent alone =
    rw (kept_is s.moment s.durable p known) (leaves_merged removes user w (act p) t kept.lawful above child_kept parent_kept still)
  where
    known : workspace_of s.durable.spaces p.number ≡ Some p
    known = at_its_number s.durable.spaces w.parent p parent

    act : Workspace → Workspace
    act = keeping s.moment s.durable p

    t : State
    t = record s { durable = saved p.number (p.next_place + 1) (p.next_implicit + 1) (mark_of s.moment s.durable p) s.durable }

    kept : Leaves (t, Fine)
    kept = leaves_saved p (implicit_name p) true (p.next_implicit + 1) (mark_of s.moment s.durable p) s Fine l known refl

    child_kept : workspace_of t.durable.spaces w.number ≡ Some w
    child_kept = (swapped s.durable.spaces p.number act p (λ _. refl) known).others w.number (parent_apart s.durable.spaces w p l.durable.spaces above child parent) ∙ child

    parent_kept : workspace_of t.durable.spaces w.parent ≡ Some (act p)
    parent_kept = ap (workspace_of t.durable.spaces) (sym (number_is s.durable.spaces w.parent p parent)) ∙ (swapped s.durable.spaces p.number act p (λ _. refl) known).now

    still : removes ≡ true → Alone t w
    still asked = let a = alone asked in record { none = none_changed p.number act s.durable.spaces w (λ _. refl) (λ _. refl) a.none; away = a.away }

leaves_merge : (session : Session) (asked : Asked) (w p : Workspace) (s : State) → LawfulState s → 0 < w.number → workspace_of s.durable.spaces w.number ≡ Some w → workspace_of s.durable.spaces w.parent ≡ Some p
    → first_fault (merging_faults session asked s p w) ≡ None → Leaves (merge session asked p w s)
leaves_merge session asked w p s l above child parent none =
    leaves_if (is_even p w && not (has_locks w.number s.durable.locks || (asked.keeps || asked.removes))) _ _ (stays s _ l)
    (leaves_durably s (longer_log s.moment session.user p w) _ l (by_keeps asked.keeps))
  where
    alone : asked.removes ≡ true → Alone s w
    alone = alone_with asked.removes s w (no_faults (merging_faults session asked s p w) none).1.0

    made : Bool → Durable
    made keeps = merged_with (net s.moment session.user w.lists.own) (gained_of s.moment session.user p w) p w (if keeps then kept_in s.moment p.number s.durable else s.durable)

    by_keeps : (b : Bool) → Leaves (gone asked.removes w (record s { durable = made b }), Fine)
    by_keeps true = leaves_kept asked.removes session.user w p s l above child parent alone
    by_keeps false = leaves_merged asked.removes session.user w p s l above child parent alone

pub leaves_merge_workspace : (session : Session) (asked : Asked) (name : List ℕ) (s : State) → LawfulState s → Leaves (merge_workspace session asked name s)
leaves_merge_workspace session asked name s l =
    leaves_with_named s name _ l
    (leaves_below_live s name (λ w. unless (first_fault (merging_faults session asked s (parent_in s w) w)) s (merge session asked (parent_in s w) w s)) l
    (λ w known above. leaves_faultless (first_fault (merging_faults session asked s (parent_in s w) w)) s _ l (leaves_merge session asked w (parent_in s w) s l above known (parent_found s w l above known))))
