-- The records with a workspace on its parent as that is now keep every rule, and stand for the state in which it was rebased.
use Rattle.std.proofs.Common.{◌≡◌, ◌≢◌, ℕ, ◌+◌, ◌<◌, ◌≤◌, ◌==◌, nat_le, nat_lt, Bool, true, false, not, ◌&&◌, if◌then◌else◌, List, [], ◌∷◌, ◌++◌, length, length-append, Some, None, is_some, refl, sym, ap, subst, ◌∙◌}
use Rattle.std.proofs.lemmas.Bool.{eq-eqb, eqb-true, and_from, and_parts, le-leb, ltb-true, or_right, true≢false}
use Rattle.std.proofs.lemmas.List.Folds.{list_all-append}
use Rattle.std.specs.List.{All, filter, list_all, list_any}
use Rattle.std.specs.Option.{option_map_or}
use Rattle.std.specs.Str.{bytes_eq}
use Rattle.wm_base.proofs.Plain.{nat_le-itself, nat_lt-apart, nat_lt-next, nonzero}
use Rattle.wm_graph.specs.Parts.{Parts, has_version, row_of, space_of, table_of, version_of}
use Rattle.wm_graph.specs.Rules.{are_counters, are_hists, are_locks, are_pieces, are_rows, are_savepoints, are_spaces, are_versions, collide, differ, has_few, has_versions, is_piece, is_space, is_version, is_version_of, keep_rules, stands_under}
use Rattle.wm_spec.specs.Lists.{Cell}
use Rattle.wm_spec.specs.declared.record.counters.Counters.{Counters}
use Rattle.wm_spec.specs.declared.record.piece.PieceRecord.{PieceRecord}
use Rattle.wm_spec.specs.declared.record.space.Space.{Space}
use Rattle.wm_spec.specs.declared.record.version.Version.{Version}
use Rattle.wm_state.specs.State.{Durable, Workspace, with_space}
use Rattle.wm_state.specs.Standing.{CountersStand, FieldsStand, Stands, latest, newest_first, node_of, owned, stored_at}
use Rattle.wm_state.specs.Effects.{Forked, IsLeaf}
use Rattle.wm_state.proofs.Apart.{Ruled, keeps_all, newest_record, ruled, ruled_versions}
use Rattle.wm_state.proofs.Growing.{MayFork, below-next, forked, forked_of, found-below, same_counters, newest-push, has_push}
use Rattle.wm_state.proofs.Keeping.{KeepRows-same, KeepSpaces, KeepSpaces-swap, KeepTables-same, KeepVersions, KeepVersions-push, are_hists-kept, are_savepoints-kept, is_piece-kept, is_version_of-kept, le_next}
use Rattle.wm_state.proofs.KeepingTurns.{are_locks-kept, are_marks-kept, are_touches-kept, are_turns-kept, turned-swap}
use Rattle.wm_state.proofs.Named.{ruled_savepoints, version_there}
use Rattle.wm_state.proofs.Respaced.{space_elsewhere, space_here, versions_replaced}
use Rattle.wm_state.proofs.Tests.{all_if, all_middle, all_push, all_swap, differ_push, differ_swap, none_if, some_swap}
use Rattle.wm_forked.proofs.KeepBorn.{version_numbered}
use Rattle.wm_forked.proofs.KeptSpaces.{has_versions-kept, is_version-kept}
use Rattle.wm_written.proofs.Leaves.{leaf_new}
use Rattle.wm_rebased.specs.Rebasing.{Ends, Grafted, IsRebase, RebasedTo, is_copied, is_elsewhere, rebased_on, turn_record}
use Rattle.wm_rebased.proofs.RebasingFields.{FieldsStand-rebased}
use Rattle.wm_rebased.proofs.RebasingRules.{hists_counted, locks_counted, marks_counted, saves_counted, touches_counted, turns_rebased}
use Rattle.wm_rebased.proofs.RebasingStands.{Stands-rebased}
use Rattle.wm_state.specs.Editing.{rebased}
use Rattle.wm_state.specs.Drafts.{is_turn}
use Rattle.wm_state.proofs.Appending.{differ_append}

-- the records with a workspace's record on a version of its parent, that version's child with these pieces, a turn more, none of its marks
-- and other counters
abbrev pub put_on : Parts → Counters → List Space → Space → List Space → Space → Version → List PieceRecord → Parts
put_on p c front a back b y news = record p {
  counters = c ∷ [];
  spaces = front ++ rebased_on y.parent b.log_length a ∷ back;
  versions = p.versions ++ y ∷ [];
  pieces = p.pieces ++ news;
  turns = p.turns ++ turn_record a.number a b ∷ [];
  marks = filter (is_elsewhere a.number) p.marks;
}

-- what these are asked: the next version of the workspace, under the newest one of its parent, with what the workspace has of its own and
-- no more, and the first turn of its number
pub record MayRebase (p : Parts) (old new : Counters) (front : List Space) (a : Space) (back : List Space) (b : Space) (emptied : Bool) (y : Version) (news : List PieceRecord) : Type 0 where
  pub one : p.counters ≡ old ∷ []
  pub counters : are_counters new ≡ true
  pub stamps : new.next_stamp ≡ old.next_stamp
  pub next : new.next_version ≡ old.next_version + 1
  pub work : old.work ≤ new.work
  pub spaces : p.spaces ≡ front ++ a ∷ back
  pub child : 0 < a.number
  pub parent : space_of p.spaces a.parent ≡ Some b
  pub number : y.number ≡ old.next_version
  pub its : y.space ≡ a.number
  pub under : y.parent ≡ latest p a.parent
  pub unturned : list_any (is_turn a.number (a.rebases + 1)) p.turns ≡ false
  pub copied : list_all (is_copied p y.number old.next_stamp) news ≡ true
  pub apart : differ collide news ≡ true
  pub held : (c : Cell) → stored_at news y.number c ≡ (if emptied then None else owned p a.base_version a.number c)
  pub ends : All (Ends y.number news) news

-- ---- the records without pieces and turn

-- the record of the workspace, its rebases not counted yet
abbrev based : ℕ → ℕ → Space → Space
based version from a = record a { base_version = version; from = from }

abbrev on_parent : Parts → Counters → List Space → Space → List Space → Space → Version → Parts
on_parent p c front a back b y = record p { counters = c ∷ []; spaces = front ++ based y.parent b.log_length a ∷ back; versions = p.versions ++ y ∷ [] }

-- the rule on workspaces asks nothing of what changes
spaces_based : (front back : List Space) (a : Space) (version from rebases : ℕ) → are_spaces (front ++ a ∷ back) ≡ true → are_spaces (front ++ record a { base_version = version; from = from; rebases = rebases } ∷ back) ≡ true
spaces_based front back a version from rebases e =
    let b : Space = record a { base_version = version; from = from; rebases = rebases } in
    let old = front ++ a ∷ back in
    let new = front ++ b ∷ back in
    let first = and_parts (nat_le (length old) 1024 && is_some (space_of old 0)) _ e in
    let sized = and_parts (nat_le (length old) 1024) (is_some (space_of old 0)) first.0 in
    let numbers = and_parts (differ (λ (s t : Space). s.number == t.number) old) _ first.1 in
    let names = and_parts (differ (λ (s t : Space). bytes_eq s.name t.name) old) (list_all (is_space (space_of old)) old) numbers.1 in
    and_from (nat_le (length new) 1024 && is_some (space_of new 0)) _
    (and_from (nat_le (length new) 1024) (is_some (space_of new 0))
    (ap (λ n. nat_le n 1024) (length-append front (b ∷ back) ∙ sym (length-append front (a ∷ back))) ∙ sized.0)
    (some_swap (λ (s : Space). s.number == 0) a b refl front back ∙ sized.1))
    (and_from (differ (λ (s t : Space). s.number == t.number) new) _
    (differ_swap (λ (s t : Space). s.number == t.number) a b (λ s. refl) (λ s. refl) front back ∙ numbers.0)
    (and_from (differ (λ (s t : Space). bytes_eq s.name t.name) new) (list_all (is_space (space_of new)) new)
    (differ_swap (λ (s t : Space). bytes_eq s.name t.name) a b (λ s. refl) (λ s. refl) front back ∙ names.0)
    (all_swap (is_space (space_of old)) (is_space (space_of new)) a b front back still (still a (all_middle (is_space (space_of old)) a front back names.1)) names.1)))
  where
    still : (s : Space) → is_space (space_of (front ++ a ∷ back)) s ≡ true → is_space (space_of (front ++ record a { base_version = version; from = from; rebases = rebases } ∷ back)) s ≡ true
    still s is = rw (some_swap (λ (z : Space). z.number == s.parent) a (record a { base_version = version; from = from; rebases = rebases }) refl front back) is

module _ (p : Parts) (old new : Counters) (front : List Space) (a : Space) (back : List Space) (b : Space) (emptied : Bool) (y : Version) (news : List PieceRecord) (may : MayRebase p old new front a back b emptied y news) (rules : keep_rules p ≡ true) where
  abbrev mid : Parts
  mid = on_parent p new front a back b y

  abbrev q : Parts
  q = put_on p new front a back b y news

  abbrev on : Space
  on = based y.parent b.log_length a

  r : Ruled p
  r = ruled p rules

  same : r.counters ≡ old
  same = same_counters p old r.counters may.one r.one

  before : are_spaces (front ++ a ∷ back) ≡ true
  before = ap are_spaces (sym may.spaces) ∙ r.spaces

  found : space_of p.spaces a.number ≡ Some a
  found = ap (λ ss. space_of ss a.number) may.spaces ∙ space_here front back a a.number before refl

  spaces_mid : are_spaces mid.spaces ≡ true
  spaces_mid = spaces_based front back a y.parent b.log_length a.rebases before

  spaces_now : are_spaces q.spaces ≡ true
  spaces_now = spaces_based front back a y.parent b.log_length (a.rebases + 1) before

  keep_spaces : KeepSpaces p mid
  keep_spaces = KeepSpaces-swap p mid front back a on refl refl (nat_le-itself a.log_length) (nat_le-itself a.next_place) refl may.spaces refl

  keep_versions : KeepVersions p mid
  keep_versions = KeepVersions-push p mid y refl

  -- ---- the rules on versions

  old_versions : are_versions p old.next_version ≡ true
  old_versions = ap (λ (c : Counters). are_versions p c.next_version) (sym same) ∙ r.versions

  -- the parent's newest version
  parent_version : is_version_of (version_of p.versions) (latest p a.parent) a.parent ≡ true
  parent_version = let w = newest_record p rules a.parent b may.parent in rw w.1 (eq-eqb w.0.space a.parent w.2)

  parent_still : is_version_of (version_of mid.versions) y.parent a.parent ≡ true
  parent_still = ap (λ k. is_version_of (version_of mid.versions) k a.parent) may.under ∙ is_version_of-kept p mid keep_versions (latest p a.parent) a.parent parent_version

  under : nat_lt y.parent y.number ≡ true
  under =
      ap (λ k. nat_lt k y.number) may.under
      ∙ ap (nat_lt (latest p a.parent)) may.number
      ∙ found-below p.versions old.next_version (latest p a.parent) (below-next p old.next_version old_versions) (version_there (version_of p.versions) (latest p a.parent) a.parent parent_version)

  child : (a.number == 0) ≡ false
  child = nonzero a.number may.child

  -- the new version itself
  new_version : is_version (space_of mid.spaces) (version_of mid.versions) (old.next_version + 1) y ≡ true
  new_version =
      and_from (nat_lt y.number (old.next_version + 1)) _ (ap (λ k. nat_lt k (old.next_version + 1)) may.number ∙ nat_lt-next old.next_version)
      (ap (λ o. option_map_or stands o false) (ap (space_of mid.spaces) may.its ∙ space_here front back on a.number spaces_mid refl)
      ∙ ap (λ d. if d then y.number == 1 else stands_under (version_of mid.versions) y on) (ap (λ k. k == 0) may.under ∙ version_numbered p old.next_version (latest p a.parent) a.parent old_versions parent_version)
      ∙ and_from (nat_lt y.parent y.number) _ under (or_right (is_version_of (version_of mid.versions) y.parent y.space) (is_version_of (version_of mid.versions) y.parent a.parent) parent_still))
    where
      stands : Space → Bool
      stands s = if y.parent == 0 then y.number == 1 else stands_under (version_of mid.versions) y s

  -- what the workspace sees under its own is a version of its parent
  has_now : has_versions (has_version p.versions) (version_of p.versions) a ≡ true → has_versions (has_version mid.versions) (version_of mid.versions) on ≡ true
  has_now e =
      let h = and_parts (has_version mid.versions a.number) _ (has_versions-kept p mid keep_versions a (has_push p.versions y a.number) e) in
      let g = and_parts (is_version_of (version_of mid.versions) a.birth_version a.parent) (is_version_of (version_of mid.versions) a.base_version a.parent)
      (sym (ap (λ d. if d then (a.birth_version == 1) && (a.base_version == 0) else is_version_of (version_of mid.versions) a.birth_version a.parent && is_version_of (version_of mid.versions) a.base_version a.parent) child) ∙ h.1) in
      and_from (has_version mid.versions a.number) _ h.0
      (ap (λ d. if d then (a.birth_version == 1) && (y.parent == 0) else is_version_of (version_of mid.versions) a.birth_version a.parent && is_version_of (version_of mid.versions) y.parent a.parent) child
      ∙ and_from (is_version_of (version_of mid.versions) a.birth_version a.parent) (is_version_of (version_of mid.versions) y.parent a.parent) g.0 parent_still)

  versions_mid : are_versions mid (old.next_version + 1) ≡ true
  versions_mid =
      let h = ruled_versions p old.next_version old_versions in
      let there : list_all (has_versions (has_version p.versions) (version_of p.versions)) (front ++ a ∷ back) ≡ true = ap (list_all (has_versions (has_version p.versions) (version_of p.versions))) (sym may.spaces) ∙ h.spaces in
      and_from (differ (λ (v w : Version). v.number == w.number) mid.versions) _
      (differ_push (λ (v w : Version). v.number == w.number) p.versions y h.numbers
      (none_if (λ (w : Version). nat_lt w.number old.next_version) (λ (w : Version). w.number == y.number) (λ w lt. ap (λ k. w.number == k) may.number ∙ nat_lt-apart w.number old.next_version lt) p.versions
      (below-next p old.next_version old_versions)))
      (and_from (list_all (is_version (space_of mid.spaces) (version_of mid.versions) (old.next_version + 1)) mid.versions) (list_all (has_versions (has_version mid.versions) (version_of mid.versions)) mid.spaces)
      (all_push (is_version (space_of mid.spaces) (version_of mid.versions) (old.next_version + 1)) p.versions y
      (all_if (is_version (space_of p.spaces) (version_of p.versions) old.next_version) (is_version (space_of mid.spaces) (version_of mid.versions) (old.next_version + 1))
      (is_version-kept p mid old.next_version (old.next_version + 1) (le_next old.next_version) keep_spaces keep_versions) p.versions h.each)
      new_version)
      (all_swap (has_versions (has_version p.versions) (version_of p.versions)) (has_versions (has_version mid.versions) (version_of mid.versions)) a on front back
      (λ s. has_versions-kept p mid keep_versions s (has_push p.versions y s.number))
      (has_now (all_middle (has_versions (has_version p.versions) (version_of p.versions)) a front back there)) there))

  -- ---- the rule on pieces

  its_pieces : list_all (λ (x : PieceRecord). x.version == y.number) news ≡ true
  its_pieces = all_if (is_copied p y.number old.next_stamp) (λ (x : PieceRecord). x.version == y.number) (λ x is. (and_parts (x.version == y.number) _ is).0) news may.copied

  pieces_now : are_pieces p old.next_stamp ≡ true → are_pieces q old.next_stamp ≡ true
  pieces_now e =
      let h = and_parts (differ collide p.pieces) (list_all (is_piece (table_of p.tables) (version_of p.versions) (row_of p.rows) old.next_stamp) p.pieces) e in
      and_from (differ collide q.pieces) (list_all (is_piece (table_of p.tables) (version_of q.versions) (row_of p.rows) old.next_stamp) q.pieces)
      (differ_append collide p.pieces news h.0 may.apart
      (all_if (is_piece (table_of p.tables) (version_of p.versions) (row_of p.rows) old.next_stamp) (λ (x : PieceRecord). not (list_any (collide x) news)) (λ x is. ap not (apart x is)) p.pieces h.1))
      (list_all-append (is_piece (table_of p.tables) (version_of q.versions) (row_of p.rows) old.next_stamp) p.pieces news
      ∙ and_from (list_all (is_piece (table_of p.tables) (version_of q.versions) (row_of p.rows) old.next_stamp) p.pieces) (list_all (is_piece (table_of p.tables) (version_of q.versions) (row_of p.rows) old.next_stamp) news)
      (all_if (is_piece (table_of p.tables) (version_of p.versions) (row_of p.rows) old.next_stamp) (is_piece (table_of p.tables) (version_of q.versions) (row_of p.rows) old.next_stamp)
      (is_piece-kept p q old.next_stamp old.next_stamp (nat_le-itself old.next_stamp) (KeepTables-same p q refl) (KeepVersions-push p q y refl) (KeepRows-same p q refl)) p.pieces h.1)
      (all_if (is_copied p y.number old.next_stamp) (is_piece (table_of p.tables) (version_of q.versions) (row_of p.rows) old.next_stamp) copied news may.copied))
    where
      -- an old piece is of an older version
      apart : (x : PieceRecord) → is_piece (table_of p.tables) (version_of p.versions) (row_of p.rows) old.next_stamp x ≡ true → list_any (collide x) news ≡ false
      apart x is = none_if (λ (z : PieceRecord). z.version == y.number) (collide x)
          (λ z at. other x z (ap (λ k. x.version == k) (eqb-true z.version y.number at ∙ may.number)
          ∙ nat_lt-apart x.version old.next_version (found-below p.versions old.next_version x.version (below-next p old.next_version old_versions) (and_parts (is_some (version_of p.versions x.version)) _ is).0)))
          news its_pieces
        where
          other : (s t : PieceRecord) → (s.version == t.version) ≡ false → collide s t ≡ false
          other s t e = rw e refl

      copied : (x : PieceRecord) → is_copied p y.number old.next_stamp x ≡ true → is_piece (table_of p.tables) (version_of q.versions) (row_of p.rows) old.next_stamp x ≡ true
      copied x is =
          let h = and_parts (x.version == y.number) _ is in
          and_from (is_some (version_of q.versions x.version)) _
          (ap (λ k. is_some (version_of q.versions k)) (eqb-true x.version y.number h.0) ∙ there)
          h.1
        where
          there : is_some (version_of q.versions y.number) ≡ true
          there = some_new p.versions
            where
              some_new : (vs : List Version) → is_some (version_of (vs ++ y ∷ []) y.number) ≡ true
              some_new [] = rw (eq-eqb y.number y.number refl) refl
              some_new (v ∷ vs) = by_test (v.number == y.number) (some_new vs)
                where
                  by_test : (d : Bool) → is_some (version_of (vs ++ y ∷ []) y.number) ≡ true → is_some (if d then Some v else version_of (vs ++ y ∷ []) y.number) ≡ true
                  by_test true rest = refl
                  by_test false rest = rest

  -- ---- all rules

  pub keep-rebased : keep_rules q ≡ true
  keep-rebased =
      let more = le-leb old.work new.work may.work in
      let saves : are_savepoints p old.work ≡ true = ap (λ (c : Counters). are_savepoints p c.work) (sym same) ∙ r.savepoints in
      keeps_all q new refl may.counters r.tables spaces_now
      (ap (are_versions q) may.next ∙ versions_replaced mid q front back on (rebased_on y.parent b.log_length a) (old.next_version + 1) (record { number = refl; name = refl; parent = refl; birth = refl; base = refl }) refl refl refl versions_mid)
      (saves_counted mid front back on (a.rebases + 1) q.pieces q.turns refl new.work
      (are_savepoints-kept p mid old.work new.work more keep_spaces keep_versions refl (few (ruled_savepoints p old.work saves).few) saves))
      (ap (are_rows p) may.stamps ∙ ap (λ (c : Counters). are_rows p c.next_stamp) (sym same) ∙ r.rows)
      (ap (are_pieces q) may.stamps ∙ pieces_now (ap (λ (c : Counters). are_pieces p c.next_stamp) (sym same) ∙ r.pieces))
      (ap (are_hists q) may.stamps
      ∙ hists_counted mid front back on (a.rebases + 1) q.pieces q.turns refl old.next_stamp
      (are_hists-kept p mid old.next_stamp old.next_stamp (nat_le-itself old.next_stamp) (KeepTables-same p mid refl) keep_spaces (KeepRows-same p mid refl) refl (ap (λ (c : Counters). are_hists p c.next_stamp) (sym same) ∙ r.hists)))
      (touches_counted mid front back on (a.rebases + 1) q.pieces q.turns refl (are_touches-kept p mid (KeepTables-same p mid refl) keep_spaces refl r.touches))
      (locks_counted mid front back on (a.rebases + 1) q.pieces q.turns refl new.work
      (are_locks-kept p mid old.work new.work more (KeepTables-same p mid refl) keep_spaces refl (ap (λ (c : Counters). are_locks p c.work) (sym same) ∙ r.locks)))
      (marks_counted mid front back on (a.rebases + 1) q.pieces q.turns refl (is_elsewhere a.number) (are_marks-kept p mid (KeepTables-same p mid refl) keep_spaces refl r.marks))
      (turns_rebased mid front back on q.pieces (turn_record a.number a b) refl may.child spaces_mid spaces_now refl refl may.unturned
      (are_turns-kept p mid keep_spaces refl (turned-swap p mid front back a on refl refl may.spaces refl r.turns) r.turns))
    where
      few : list_all (has_few p.savepoints) p.spaces ≡ true → list_all (has_few p.savepoints) mid.spaces ≡ true
      few e =
          let all : list_all (has_few p.savepoints) (front ++ a ∷ back) ≡ true = ap (list_all (has_few p.savepoints)) (sym may.spaces) ∙ e in
          all_swap (has_few p.savepoints) (has_few p.savepoints) a on front back (λ s h. h) (all_middle (has_few p.savepoints) a front back all) all

  -- ---- what becomes of the records

  pub rebased_of : RebasedTo p q a.number y.number emptied a b news
  rebased_of = record {
    child = may.child;
    old = found;
    parent = may.parent;
    grafted = grafted;
    held = may.held;
    ends = may.ends;
    count = length-append front (rebased_on y.parent b.log_length a ∷ back) ∙ sym (length-append front (a ∷ back)) ∙ sym (ap length may.spaces);
    here = space_here front back (rebased_on y.parent b.log_length a) a.number spaces_now refl ∙ ap (λ k. Some (rebased_on k b.log_length a)) may.under;
    elsewhere = λ m other. elsewhere m (λ at. true≢false (sym (eq-eqb m a.number (sym at)) ∙ other));
    turns = refl;
    marks = refl;
    rest = refl;
  }
    where
      elsewhere : (m : ℕ) → a.number ≢ m → space_of q.spaces m ≡ space_of p.spaces m
      elsewhere m away = space_elsewhere front back a (rebased_on y.parent b.log_length a) m away away ∙ ap (λ ss. space_of ss m) (sym may.spaces)

      -- what holds of the next version of the parent holds of this one, which stands where it would
      beside : Version
      beside = record { number = y.number; space = a.parent; parent = latest p a.parent }

      fork_of : MayFork p old new b a.parent beside
      fork_of = record { one = may.one; counters = may.counters; stamps = may.stamps; next = may.next; work = may.work; there = may.parent; number = may.number; space = refl; parent = refl }

      fork : Forked p (forked p new beside) a.parent y.number
      fork = forked_of p old new b a.parent beside fork_of rules

      below : list_all (λ (w : Version). nat_lt w.number y.number) p.versions ≡ true
      below = ap (λ k. list_all (λ (w : Version). nat_lt w.number k) p.versions) may.number ∙ below-next p old.next_version old_versions

      same_node : (w : Version) (n k : ℕ) → w.space ≡ n → w.parent ≡ k → node_of w ≡ record { number = w.number; space = n; parent = k }
      same_node w n k f g = rw (sym f, sym g) refl

      leaf : IsLeaf y.number (newest_first (forked p new beside).versions)
      leaf = leaf_new p old new b a.parent beside fork_of rules

      grafted : Grafted p q (record { number = y.number; space = a.number; parent = latest p a.parent }) news
      grafted = record {
        some = fork.some;
        under = ltb-true (latest p a.parent) y.number (ap (λ k. nat_lt k y.number) (sym may.under) ∙ under);
        below = fork.below;
        leaf = (subst (λ ns. IsLeaf y.number ns) fork.versions leaf).1;
        versions = newest-push y p.versions below ∙ ap (λ z. z ∷ newest_first p.versions) (same_node y a.number (latest p a.parent) may.its may.under);
        empty = fork.empty;
        pieces = refl;
        its = its_pieces;
      }

-- ---- the records stand for the state with the workspace rebased

pub FieldsStand-put_on : (p : Parts) (old new : Counters) (front : List Space) (a : Space) (back : List Space) (b : Space) (emptied : Bool) (y : Version) (news : List PieceRecord) (w pw : Workspace) (s t : Durable) → keep_rules p ≡ true → FieldsStand p s
    → MayRebase p old new front a back b emptied y news → IsRebase s a.number w pw → t.spaces ≡ with_space a.number (rebased emptied pw) s.spaces → t.tables ≡ s.tables → CountersStand (put_on p new front a back b y news) t
    → FieldsStand (put_on p new front a back b y news) t
FieldsStand-put_on p old new front a back b emptied y news w pw s t rules st may g spaces tables counters =
    FieldsStand-rebased p (put_on p new front a back b y news) s t a.number y.number emptied a b news w pw (rebased_of p old new front a back b emptied y news may rules) g st spaces tables counters

pub Stands-put_on : (p : Parts) (old new : Counters) (front : List Space) (a : Space) (back : List Space) (b : Space) (emptied : Bool) (y : Version) (news : List PieceRecord) (w pw : Workspace) (s t : Durable) → Stands p s
    → MayRebase p old new front a back b emptied y news → IsRebase s a.number w pw → t.spaces ≡ with_space a.number (rebased emptied pw) s.spaces → t.tables ≡ s.tables → t.locks ≡ s.locks → CountersStand (put_on p new front a back b y news) t
    → Stands (put_on p new front a back b y news) t
Stands-put_on p old new front a back b emptied y news w pw s t st may g spaces tables locks counters =
    Stands-rebased p (put_on p new front a back b y news) s t a.number y.number emptied a b news w pw (rebased_of p old new front a back b emptied y news may st.rules) st g spaces tables locks counters
    (keep-rebased p old new front a back b emptied y news may st.rules)
