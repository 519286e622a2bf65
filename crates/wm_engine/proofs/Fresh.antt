-- A store that was just made stands for a state in which nothing was done.
use Rattle.std.proofs.Common.{◌≡◌, ◌≢◌, ℕ, ◌+◌, ◌<◌, ◌≤◌, ◌==◌, nat_le, Bool, true, false, cond, List, [], ◌∷◌, map, Option, Some, None, is_some, refl, sym, ap, ◌∙◌, ◌⊎◌, inl, inr, arith}
use Rattle.std.proofs.lemmas.Bool.{cases_eq}
use Rattle.std.proofs.lemmas.Bool.Decides.{nat_tests}
use Rattle.std.proofs.lemmas.List.Elements.{All-nil}
use Rattle.std.proofs.lemmas.Option.{none-some}
use Rattle.std.specs.List.{slice_get}
use Rattle.std.specs.Bool.{then_some}
use Rattle.std.specs.Option.{option_map, option_and_then}
use Rattle.wm_graph.specs.Parts.{Parts, parts_of, space_of}
use Rattle.wm_graph.specs.Rules.{keep_rules, are_counters}
use Rattle.wm_model.proofs.Lawful.Runs.{one_live}
use Rattle.wm_period.specs.Pieces.{Held}
use Rattle.wm_spec.specs.Lists.{Cell, Entry, Told, told, touched}
use Rattle.wm_state.specs.ById.{by_id}
use Rattle.wm_state.specs.State.{Durable, Workspace, Savepoint, Turn, content, fresh, fresh_live, log_of, savepoint_made, savepoints_of, turn_of, turns_of, workspace_of}
use Rattle.wm_state.specs.Standing.{Base, Birth, Covers, HasRow, IsReal, IsRealMark, Kept, KeptBase, KeptOwn, Names, Newest, Own, Owns, Stands, Tells, Top, fields_in, fields_of, fields_saved, has_history, held_of, latest, logged_as, seen, seen_above, turned_in}
use Rattle.wm_store.specs.Fresh.{fresh_records, fresh_counters, live, first_version}

-- the records of a store that was just made
abbrev pub fresh_parts : ℕ → Parts
fresh_parts limit = record { counters = fresh_counters limit ∷ []; tables = []; spaces = live ∷ []; versions = first_version ∷ []; savepoints = []; rows = []; pieces = []; touches = []; locks = []; hists = []; marks = []; turns = [] }

-- and what it keeps
abbrev fresh_durable : ℕ → Durable
fresh_durable limit = record { tables = []; spaces = fresh_live ∷ []; locks = []; next_stamp = 1; last_moment = 0; limit = limit; work = 0 }

-- without pieces nothing is seen
seen_none : (limit version : ℕ) (c : Cell) → seen (fresh_parts limit) version c ≡ None
seen_none limit version c = by_test (1 == version)
  where
    nothing : Option Held
    nothing = None

    by_test : (b : Bool) → cond b nothing nothing ≡ nothing
    by_test true = refl
    by_test false = refl

own_none : (limit base version : ℕ) (c : Cell) → seen_above (fresh_parts limit) base version c ≡ None
own_none limit base version c = by_base (version == base) (1 == version)
  where
    nothing : Option Held
    nothing = None

    by_base : (a b : Bool) → cond a nothing (cond b nothing nothing) ≡ nothing
    by_base true b = refl
    by_base false false = refl
    by_base false true = refl

told_none : (w : Workspace) (c : Cell) → w ≡ fresh_live → told (content w) c ≡ None
told_none w c is = rw is refl

fields_same : (limit n : ℕ) → option_map fields_of (space_of (fresh_parts limit).spaces n) ≡ option_map fields_in (workspace_of (fresh_live ∷ []) n)
fields_same limit n = by_test (0 == n)
  where
    by_test : (b : Bool) → option_map fields_of (cond b (Some live) None) ≡ option_map fields_in (cond b (Some fresh_live) None)
    by_test true = refl
    by_test false = refl

-- and no other workspace
alone : (n : ℕ) (w : Workspace) → 0 < n → workspace_of (fresh_live ∷ []) n ≡ Some w → ⊥
alone n w some found = none-some w (rw (away n some) at found)
  where
    away : (m : ℕ) → 0 < m → (0 == m) ≡ false
    away m lt = grind (arith, nat_tests, lt)

-- so what is there is LIVE
live_alone : (n : ℕ) (w : Workspace) → workspace_of (fresh_live ∷ []) n ≡ Some w → n ≡ 0
live_alone n w found = by_number (cases_eq n 0)
  where
    above : (m : ℕ) → m ≢ 0 → 0 < m
    above m other = grind (arith, other)

    by_number : (n ≡ 0) ⊎ (n ≢ 0) → n ≡ 0
    by_number (inl zero_is) = zero_is
    by_number (inr other) = absurd (alone n w (above n other) found)

-- nor a savepoint
none_saved : (n : ℕ) → [] ≡ map fields_saved (savepoints_of (fresh_live ∷ []) n)
none_saved n = by_space (workspace_of (fresh_live ∷ []) n) refl
  where
    by_space : (o : Option Workspace) → workspace_of (fresh_live ∷ []) n ≡ o → [] ≡ map fields_saved (savepoints_of (fresh_live ∷ []) n)
    by_space None e = rw e refl
    by_space (Some w) e = rw e (ap (λ (v : Workspace). map fields_saved v.savepoints) (sym (one_live n w e)))

-- nor an entry of a log
none_logged : (n : ℕ) → log_of (fresh_live ∷ []) n ≡ []
none_logged n = by_space (workspace_of (fresh_live ∷ []) n) refl
  where
    by_space : (o : Option Workspace) → workspace_of (fresh_live ∷ []) n ≡ o → log_of (fresh_live ∷ []) n ≡ []
    by_space None e = rw e refl
    by_space (Some w) e = rw e (ap (λ (v : Workspace). v.lists.log) (one_live n w e))

-- nor a turn
none_turned : (n : ℕ) → turns_of (fresh_live ∷ []) n ≡ []
none_turned n = by_space (workspace_of (fresh_live ∷ []) n) refl
  where
    by_space : (o : Option Workspace) → workspace_of (fresh_live ∷ []) n ≡ o → turns_of (fresh_live ∷ []) n ≡ []
    by_space None e = rw e refl
    by_space (Some w) e = rw e (ap (λ (v : Workspace). v.turns) (one_live n w e))

no_turn : (n number : ℕ) (w : Workspace) (t : Turn) → workspace_of (fresh_live ∷ []) n ≡ Some w → turn_of w number ≡ Some t → ⊥
no_turn n number w t is turn = none-some t (ap (λ (v : Workspace). turn_of v number) (sym (one_live n w is)) ∙ turn)

none_made : (n making : ℕ) (w : Workspace) (k : Savepoint) → workspace_of (fresh_live ∷ []) n ≡ Some w → savepoint_made making w.savepoints ≡ Some k → ⊥
none_made n making w k is made = none-some k (ap (λ (v : Workspace). savepoint_made making v.savepoints) (sym (one_live n w is)) ∙ made)

none_told : (w : Workspace) (c : Cell) (t : Told) → w ≡ fresh_live → told (content w) c ≡ Some t → ⊥
none_told w c t is e = none-some t (sym (told_none w c is) ∙ e)

-- of the versions that are named there is that of LIVE alone
named_tells : (limit v n r : ℕ) (es : List Entry) → Names (fresh_parts limit) (fresh_durable limit) v n r es → Tells (fresh_parts limit) (fresh_live ∷ []) v n r es
named_tells limit v n r es (Newest w is) = record {
  holds = λ c. seen_none limit (latest (fresh_parts limit) n) c ∙ ap (option_map held_of) (sym (told_none w c (one_live n w is)));
  climbs = Top (live_alone n w is);
  rows = λ c t row e h. absurd (none_told w c t (one_live n w is) e);
}
named_tells limit v n r es (Kept making w k x is made saved) = absurd (none-some x saved)
named_tells limit v n r es (Birth {n = i} w a t some is recorded turn) = absurd (alone i w some is)
named_tells limit v n r es (Base {n = i} w a t some is recorded turn) = absurd (alone i w some is)
named_tells limit v n r es (KeptBase {n = i} making w k x t some is made saved turn) = absurd (alone i w some is)

-- and nothing is its own
own_covers : (limit base version : ℕ) (es : List Entry) → Owns (fresh_parts limit) (fresh_durable limit) base version es → Covers (fresh_parts limit) base version es
own_covers limit base version es (Own n w r is found) = record {
  cells = λ c. ap is_some (own_none limit base (latest (fresh_parts limit) n) c) ∙ sym (ap (λ (v : Workspace). touched v.lists.own c) (one_live n w is));
  ends = refl;
}
own_covers limit base version es (KeptOwn n making w k x is made saved based) = absurd (none-some x saved)

counted : (limit : ℕ) → 1 ≤ limit → limit ≤ 1048576 → are_counters (fresh_counters limit) ≡ true
counted limit some most = rw (one limit some, few limit most, next limit) refl
  where
    one : (n : ℕ) → 1 ≤ n → nat_le 1 n ≡ true
    one n le = grind (arith, nat_tests, le)

    few : (n : ℕ) → n ≤ 1048576 → nat_le n 1048576 ≡ true
    few n le = grind (arith, nat_tests, le)

    next : (n : ℕ) → nat_le 1 (n + 1) ≡ true
    next n = grind (arith, nat_tests)

pub fresh_stands : (limit : ℕ) → 1 ≤ limit → limit ≤ 1048576 → Stands (parts_of (by_id (fresh_records limit))) (fresh limit).durable
unfolding parts_of fresh keep_rules
fresh_stands limit some most = record {
  rules = rw (counted limit some most) refl;
  counters = record { counters = fresh_counters limit; one = refl; next_stamp = refl; last_moment = refl; limit = refl; work = refl };
  tables = record { same = refl };
  spaces = record { same = fields_same limit };
  once = record { numbers = refl; count = refl };
  savepoints = record { same = λ n. none_saved n };
  named = record { tells = λ v n r es named. named_tells limit v n r es named };
  owns = record { covers = λ base version es own. own_covers limit base version es own; past = λ n making w k is made. absurd (none_made n making w k is made) };
  turns = record {
    counted = λ n w some is. absurd (alone n w some is);
    same = λ n number. ap (λ ts. option_map turned_in (slice_get ts number)) (sym (none_turned n));
  };
  touches = record {
    latest = λ n w is. rw (one_live n w is) (record { reaches = λ c. refl; ends = refl });
    kept = λ n making w k is made. absurd (none_made n making w k is made);
  };
  marks = record { same = λ n w place c is. rw (one_live n w is) refl; real = λ n w is. rw (one_live n w is) (All-nil IsRealMark) };
  locks = record { same = refl };
  hists = record { same = λ n position. ap (λ es. option_and_then (λ (e : Entry). then_some (has_history [] e.table) (logged_as e)) (slice_get es position)) (sym (none_logged n)) };
  entries = record {
    logs = λ n. rw (none_logged n) (All-nil (IsReal []));
    own = λ n w is. rw (one_live n w is) (All-nil (IsReal []));
    kept = λ n making w k is made. absurd (none_made n making w k is made);
  };
  rows = record {
    logs = λ n. rw (none_logged n) (All-nil (λ (e : Entry). has_history [] e.table ≡ true → HasRow (fresh_parts limit) e));
    turns = λ n number w t is turn. absurd (no_turn n number w t is turn);
  };
}
