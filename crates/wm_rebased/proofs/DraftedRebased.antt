-- What the batch of a workspace that is rebased makes of the records.
use Rattle.std.proofs.Common.{◌≡◌, ℕ, ◌+◌, Bool, true, false, if◌then◌else◌, List, [], ◌∷◌, ◌++◌, map, Option, Some, None, is_some, refl, sym, ap, subst, ◌∙◌}
use Rattle.std.proofs.lemmas.List.Elements.{All-head, All-tail}
use Rattle.std.proofs.lemmas.List.Folds.{list_all-append}
use Rattle.std.proofs.lemmas.Bool.{and_from, true≢false}
use Rattle.std.proofs.lemmas.Option.{same_Some}
use Rattle.std.specs.List.{All, list_all, list_any}
use Rattle.std.specs.Option.{option_and_then, option_map, unwrap_or}
use Rattle.wm_base.specs.declared.instant.TheConstants.{END}
use Rattle.wm_graph.specs.Parts.{Parts, parts_of, space_of}
use Rattle.wm_graph.specs.Rules.{are_pieces, keep_rules}
use Rattle.wm_period.specs.Pieces.{Held}
use Rattle.wm_period.specs.declared.piece.Piece.{Piece}
use Rattle.wm_spec.specs.Lists.{Cell}
use Rattle.wm_spec.specs.Records.{AreChanges}
use Rattle.wm_spec.specs.declared.record.Record.{Record}
use Rattle.wm_spec.specs.declared.record.Record.TheVariants as records
use Rattle.wm_spec.specs.declared.record.batch.Change.{Change}
use Rattle.wm_spec.specs.declared.record.counters.Counters.{Counters}
use Rattle.wm_spec.specs.declared.record.piece.PieceRecord.{PieceRecord}
use Rattle.wm_spec.specs.declared.record.space.Space.{Space}
use Rattle.wm_spec.specs.declared.record.stored.Stored.{Stored}
use Rattle.wm_spec.specs.declared.record.version.Version.{Version}
use Rattle.wm_state.specs.Batches.{drop_one}
use Rattle.wm_state.specs.ById.{applied}
use Rattle.wm_state.specs.Copied.{AreCopied, HoldsKey, KeyPieces, key_cell, piece_for, pieces_for}
use Rattle.wm_state.specs.Drafts.{CanRebase, CanWork, DraftsBy, can_keep, is_turn}
use Rattle.wm_state.specs.Editing.{rebased_in, rebased_so}
use Rattle.wm_state.specs.Points.{versioned}
use Rattle.wm_state.specs.Standing.{FieldsStand, Stands, latest, owned}
use Rattle.wm_state.specs.State.{Durable, Workspace, workspace_of}
use Rattle.wm_state.specs.Writes.{put_all}
use Rattle.wm_state.specs.declared.edit.Edit.TheVariants as edits
use Rattle.wm_state.specs.declared.edit.NewEntry.{NewEntry}
use Rattle.wm_state.proofs.Apart.{ruled}
use Rattle.wm_state.proofs.ByKind.{under_found}
use Rattle.wm_state.proofs.Counting.{counts_as, counts_in, version_well, work_grows}
use Rattle.wm_state.proofs.Drafted.{some_edit}
use Rattle.wm_state.proofs.Growing.{same_counters}
use Rattle.wm_state.proofs.RowsStay.{away_append, away_dropped, away_put, row_apart, rows_stay}
use Rattle.wm_state.proofs.Settled.{Places}
use Rattle.wm_state.proofs.WorkedOn.{counted_put, first_change}
use Rattle.wm_written.proofs.WrittenKept.{keeps_key, kept_dropped, kept_pieces, kept_put}
use Rattle.wm_rebased.specs.Rebasing.{AreMarksOf, rebase_batch, rebased_on, turn_record}
use Rattle.wm_rebased.proofs.CopiedThere.{AllBegin, all_begin, own_there}
use Rattle.wm_rebased.proofs.Copying.{differ_copied, ends_copied, stored_copied}
use Rattle.wm_rebased.proofs.RebasingBatch.{agree_rebased, changes-put_on, keep_plan_rebased, plan_rebased}
use Rattle.wm_rebased.proofs.RebasingFields.{Based, based_there}
use Rattle.wm_rebased.proofs.RebasingKept.{MayRebase}

-- ---- what comes can be kept

-- pieces of a key, where each key at whose cells something is held can be kept
keeps_pieces : (held : Cell → Option Held) → ((c : Cell) → is_some (held c) ≡ true → list_all can_keep c.key ≡ true) → (version : ℕ) (k : KeyPieces) (xs : List Piece) → AllBegin (λ t. held (key_cell k t)) END xs
    → list_all keeps_key (map (piece_for version k.table k.key) xs) ≡ true
keeps_pieces held keeps version k [] begin = refl
keeps_pieces held keeps version k (x ∷ xs) begin =
    and_from (list_all can_keep k.key) (list_all keeps_key (map (piece_for version k.table k.key) xs)) (keeps (key_cell k x.period.from) (ap is_some begin.0)) (keeps_pieces held keeps version k xs begin.3)

-- and those of all keys
keeps_keys : (held : Cell → Option Held) → ((c : Cell) → is_some (held c) ≡ true → list_all can_keep c.key ≡ true) → (version : ℕ) (ks : List KeyPieces) → All (HoldsKey held) ks → list_all keeps_key (pieces_for version ks) ≡ true
keeps_keys held keeps version [] each = refl
keeps_keys held keeps version (k ∷ ks) each =
    let h = All-head (HoldsKey held) k ks each in
    list_all-append keeps_key (map (piece_for version k.table k.key) k.pieces) (pieces_for version ks)
    ∙ and_from (list_all keeps_key (map (piece_for version k.table k.key) k.pieces)) (list_all keeps_key (pieces_for version ks))
    (keeps_pieces held keeps version k k.pieces (all_begin (λ t. held (key_cell k t)) k.pieces 0 END h.lie (λ t le. sym (h.holds t))))
    (keeps_keys held keeps version ks (All-tail (HoldsKey held) k ks each))

-- what a workspace has of its own can be kept, or nothing is copied
keeps_own : (p : Parts) (emptied : Bool) (a : Space) → CanRebase p a.number emptied → space_of p.spaces a.number ≡ Some a
    → (c : Cell) → is_some (if emptied then None else owned p a.base_version a.number c) ≡ true → list_all can_keep c.key ≡ true
keeps_own p emptied a can there c = by_emptied emptied refl
  where
    same : can.space ≡ a
    same = same_Some can.space a (sym can.there ∙ there)

    by_emptied : (d : Bool) → emptied ≡ d → is_some (if d then None else owned p a.base_version a.number c) ≡ true → list_all can_keep c.key ≡ true
    by_emptied true is some = absurd (true≢false (sym some))
    by_emptied false is some = can.kept is c (ap (λ (r : Space). is_some (owned p r.base_version a.number c)) same ∙ some)

-- ---- the edit

-- where the workspace and its parent are there, a rebase makes of the state the one with the workspace on the parent
rebased_there : (s : Durable) (n : ℕ) (emptied : Bool) (h : Based s n) → rebased_so n emptied s ≡ rebased_in n emptied s h.parent
rebased_there s n emptied h =
    ap (λ o. unwrap_or (option_map (rebased_in n emptied s) (option_and_then (λ (w : Workspace). workspace_of s.spaces w.parent) o)) s) h.is.found
    ∙ ap (λ o. unwrap_or (option_map (rebased_in n emptied s) o) s) h.is.parent

-- ---- the batch

-- the version, and the batch with the pieces of these keys
abbrev pub version_on : Parts → Counters → Space → Version
version_on p c a = record { number = c.next_version; space = a.number; parent = latest p a.parent }

abbrev pub rebase_to : Parts → ℕ → ℕ → ℕ → Counters → ℕ → Space → Space → List ℕ → ℕ → List KeyPieces → List Change
rebase_to p m work counters_id c space_id a b ids id ks =
    rebase_batch counters_id (versioned c m work) space_id (rebased_on (latest p a.parent) b.log_length a) ids id (version_on p c a) (turn_record a.number a b) (pieces_for c.next_version ks)

-- it makes of the records what the rebase makes of each state
pub drafts_rebase : (rs : List Stored) (m work : ℕ) (emptied : Bool) (c : Counters) (a b : Space) (counters_id space_id id : ℕ) (ids : List ℕ) (ks : List KeyPieces) → keep_rules (parts_of rs) ≡ true → CanWork (parts_of rs) m work
    → CanRebase (parts_of rs) a.number emptied → space_of (parts_of rs).spaces a.number ≡ Some a → space_of (parts_of rs).spaces a.parent ≡ Some b → Places rs counters_id space_id id c a
    → AreMarksOf rs a.number ids → AreCopied (λ k. if emptied then None else owned (parts_of rs) a.base_version a.number k) ks → DraftsBy work rs m (edits.Rebase a.number emptied ∷ []) (rebase_to (parts_of rs) m work counters_id c space_id a b ids id ks)
drafts_rebase rs m work emptied c a b counters_id space_id id ids ks rules can_work can there parent at marks copied = record {
  keeps = keeps;
  once = once;
  stands = λ s st.
      let h = based_there (parts_of rs) s a.number a b st.spaces there parent in
      let counts = counts_as (parts_of rs) s c st at.one in
      subst (λ (u : Durable). Stands (parts_of (applied batch rs)) (record u { last_moment = m; work = s.work + work })) (sym (rebased_there s a.number emptied h))
      (plan_rebased rs counters_id space_id id c d a b emptied y news ids at marks.gone may h.workspace h.parent s _ st h.is refl refl refl
      (record { counters = d; one = refl; next_stamp = counts.next_stamp; last_moment = refl; limit = counts.limit; work = ap (λ w. w + work) counts.work }));
  fields = λ s st.
      let h = based_there (parts_of rs) s a.number a b st.spaces there parent in
      let counts = counts_in (parts_of rs) s c st.counters at.one in
      subst (λ (u : Durable). FieldsStand (parts_of (applied batch rs)) (record u { last_moment = m; work = s.work + work })) (sym (rebased_there s a.number emptied h))
      (agree_rebased rs counters_id space_id id c d a b emptied y news ids at marks.gone may h.workspace h.parent s _ rules st h.is refl refl
      (record { counters = d; one = refl; next_stamp = counts.next_stamp; last_moment = refl; limit = counts.limit; work = ap (λ w. w + work) counts.work }));
  rows = rows_stay rs batch
      (λ k r found. (
        row_apart rs counters_id k (records.Counters c) r at.counters refl found,
        (
          row_apart rs space_id k (records.Space a) r at.space refl found,
          away_append k (map drop_one ids) (put_all id behind) (away_dropped k ids (marks.gone k (records.Row r) found)) (away_put k id behind (under_found id rs k (records.Row r) at.under found)),
        ),
      ));
  kept = kept_dropped ids _ (kept_put id behind (kept_pieces news (keeps_keys _ (keeps_own (parts_of rs) emptied a can there) c.next_version ks copied.each)));
  counted = λ some_edits. counted_put rs work counters_id c d batch at.sorted at.one once (first_change counters_id _ _) keeps refl;
  nothing = some_edit (edits.Rebase a.number emptied) [] batch;
  few = λ forks. absurd (true≢false (sym forks));
  spared = λ i entries one_append. absurd (no_append i entries one_append);
  turned = λ left. absurd (true≢false (sym left));
}
  where
    no_append : (i : ℕ) (entries : List NewEntry) → edits.Rebase a.number emptied ∷ [] ≡ edits.Append i entries ∷ [] → ⊥
    no_append i entries e = cc

    d : Counters
    d = versioned c m work

    y : Version
    y = version_on (parts_of rs) c a

    news : List PieceRecord
    news = pieces_for c.next_version ks

    behind : List Record
    behind = records.Version y ∷ records.Turn (turn_record a.number a b) ∷ map records.Piece news

    batch : List Change
    batch = rebase_to (parts_of rs) m work counters_id c space_id a b ids id ks

    rule : are_pieces (parts_of rs) c.next_stamp ≡ true
    rule = let r = ruled (parts_of rs) rules in ap (λ (k : Counters). are_pieces (parts_of rs) k.next_stamp) (sym (same_counters (parts_of rs) c r.counters at.one r.one)) ∙ r.pieces

    free : list_any (is_turn a.number (a.rebases + 1)) (parts_of rs).turns ≡ false
    free = ap (λ (r : Space). list_any (is_turn a.number (r.rebases + 1)) (parts_of rs).turns) (same_Some a can.space (sym there ∙ can.there)) ∙ can.unturned

    may : (front back : List Space) → (parts_of rs).spaces ≡ front ++ a ∷ back → MayRebase (parts_of rs) c d front a back b emptied y news
    may front back spaces = record {
      one = at.one;
      counters = version_well (parts_of rs) m work c rules can_work at.one;
      stamps = refl;
      next = refl;
      work = work_grows c.work work;
      spaces = spaces;
      child = can.some;
      parent = parent;
      number = refl;
      its = refl;
      under = refl;
      unturned = free;
      copied = own_there (parts_of rs) c.next_stamp c.next_version a.base_version a.number emptied ks rule copied;
      apart = differ_copied c.next_version _ ks copied;
      held = stored_copied c.next_version _ ks copied;
      ends = ends_copied c.next_version _ ks copied;
    }

    keeps : keep_rules (parts_of (applied batch rs)) ≡ true
    keeps = keep_plan_rebased rs counters_id space_id id c d a b emptied y news ids at marks.gone may rules

    once : AreChanges batch
    once = changes-put_on rs counters_id space_id id c d a (rebased_on (latest (parts_of rs) a.parent) b.log_length a) ids y (turn_record a.number a b) news at marks
