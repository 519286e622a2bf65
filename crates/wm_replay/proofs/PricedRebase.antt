-- How many records a rebase changes: a version, a turn, the pieces of that version, and the marks that go.
use Rattle.std.proofs.Common.{◌≡◌, ℕ, ◌+◌, ◌≤◌, ◌==◌, nat_lt, Bool, true, cond, List, [], ◌∷◌, ◌++◌, map, length, None, Some, refl, sym, ap, subst, ◌∙◌, arith, length-append}
use Rattle.std.proofs.lemmas.Bool.{eq-eqb, and_from, and_parts}
use Rattle.std.proofs.lemmas.List.{length-map}
use Rattle.std.proofs.lemmas.List.Elements.{filter-append}
use Rattle.std.proofs.lemmas.List.Folds.{list_all-append}
use Rattle.std.specs.List.{filter, list_all}
use Rattle.wm_append.proofs.Appended.{written_places}
use Rattle.wm_append.specs.Appending.{AreWritten}
use Rattle.wm_forked.proofs.DraftedSaved.{home_there}
use Rattle.wm_graph.specs.Parts.{Parts, parts_of, space_of, version_of}
use Rattle.wm_graph.specs.Rules.{is_version, keep_rules}
use Rattle.wm_index.specs.Sought.{MarksIn, ids_with, is_sought}
use Rattle.wm_period.specs.declared.piece.Piece.{Piece}
use Rattle.wm_prices.proofs.Beside.{few_more}
use Rattle.wm_prices.specs.Prices.{Costs, is_head, marks_at, pieces_at}
use Rattle.wm_rebased.proofs.DraftedRebased.{version_on}
use Rattle.wm_rebased.proofs.RebasingBatch.{parts-put_on}
use Rattle.wm_rebased.proofs.RebasingKept.{put_on}
use Rattle.wm_rebased.specs.Rebasing.{rebased_on, turn_record}
use Rattle.wm_replay.proofs.Copied.{rebases_as}
use Rattle.wm_replay.proofs.Marks.{marks_are, marks_many}
use Rattle.wm_replay.proofs.Priced.{written_beside}
use Rattle.wm_spec.specs.Records.{record_at}
use Rattle.wm_spec.specs.declared.record.Record.{Record}
use Rattle.wm_spec.specs.declared.record.Record.TheVariants as records
use Rattle.wm_spec.specs.declared.record.batch.Change.{Change}
use Rattle.wm_spec.specs.declared.record.counters.Counters.{Counters}
use Rattle.wm_spec.specs.declared.record.piece.PieceRecord.{PieceRecord}
use Rattle.wm_spec.specs.declared.record.space.Space.{Space}
use Rattle.wm_spec.specs.declared.record.stored.Stored.{Stored}
use Rattle.wm_spec.specs.declared.record.version.Version.{Version}
use Rattle.wm_state.proofs.Apart.{ruled, ruled_versions}
use Rattle.wm_state.proofs.Growing.{same_counters, newest-push}
use Rattle.wm_state.proofs.Named.{space_number}
use Rattle.wm_state.proofs.Tests.{all_if}
use Rattle.wm_state.specs.ById.{applied}
use Rattle.wm_state.specs.Copied.{KeyPieces, piece_for, pieces_for}
use Rattle.wm_state.specs.Points.{versioned}
use Rattle.wm_state.specs.Standing.{latest, newest_first}
use Rattle.wm_state.specs.declared.edit.Edit.TheVariants as edits
use Rattle.wm_tree.specs.Versions.{latest_in}
use Rattle.wm_tree.specs.declared.version.Version.{Version as Node}

-- ---- the pieces of the version

-- those of the keys are of it
all_its : (version : ℕ) (ks : List KeyPieces) → list_all (λ (x : PieceRecord). x.version == version) (pieces_for version ks) ≡ true
all_its version [] = refl
all_its version (k ∷ ks) =
    list_all-append (λ (x : PieceRecord). x.version == version) (map (piece_for version k.table k.key) k.pieces) (pieces_for version ks)
    ∙ and_from (list_all (λ (x : PieceRecord). x.version == version) (map (piece_for version k.table k.key) k.pieces)) (list_all (λ (x : PieceRecord). x.version == version) (pieces_for version ks)) (one k.pieces) (all_its version ks)
  where
    one : (xs : List Piece) → list_all (λ (x : PieceRecord). x.version == version) (map (piece_for version k.table k.key) xs) ≡ true
    one [] = refl
    one (x ∷ xs) = and_from (version == version) (list_all (λ (y : PieceRecord). y.version == version) (map (piece_for version k.table k.key) xs)) (eq-eqb version version refl) (one xs)

-- so all of them are found among others
all_pass : {X : Type 0} (test : X → Bool) (xs : List X) → list_all test xs ≡ true → length (filter test xs) ≡ length xs
all_pass test [] all = refl
all_pass test (x ∷ xs) all =
    let h = and_parts (test x) (list_all test xs) all in
    let rest = all_pass test xs h.1 in
    ap (λ b. length (cond b (x ∷ filter test xs) (filter test xs))) h.0 ∙ omega (arith, rest)

behind_others : (version : ℕ) (others its : List PieceRecord) → list_all (λ (x : PieceRecord). x.version == version) its ≡ true → length its ≤ length (filter (λ (x : PieceRecord). x.version == version) (others ++ its))
behind_others version others its all =
    let whole = ap (λ (xs : List PieceRecord). length xs) (filter-append (λ (x : PieceRecord). x.version == version) others its) in
    let parts = length-append (filter (λ (x : PieceRecord). x.version == version) others) (filter (λ (x : PieceRecord). x.version == version) its) in
    let here = all_pass (λ (x : PieceRecord). x.version == version) its all in
    omega (arith, whole, parts, here)

-- the version that comes behind all others is the newest of its workspace
newest_new : (versions : List Version) (y : Version) (n : ℕ) → y.space ≡ n → list_all (λ (v : Version). nat_lt v.number y.number) versions ≡ true → latest_in (newest_first (versions ++ y ∷ [])) n ≡ y.number
newest_new versions y n its below =
    ap (λ (nodes : List Node). latest_in nodes n) (newest-push y versions below) ∙ ap (λ b. cond b y.number (latest_in (newest_first versions) n)) (eq-eqb y.space n its)

-- ---- the price

module _ (rs : List Stored) (m work base id : ℕ) (a b new : Space) (c counters : Counters) (front changes : List Change) (ks : List KeyPieces) (dropped : List ℕ) (first news : List Record) where
  pub rebase_costs : (n : ℕ) (emptied : Bool) → keep_rules (parts_of rs) ≡ true → space_of (parts_of rs).spaces n ≡ Some a → (parts_of rs).counters ≡ c ∷ [] → ((i : ℕ) → id ≤ i → record_at rs i ≡ None) → base ≡ latest (parts_of rs) a.parent
      → first ≡ records.Version (record { number = c.next_version; space = n; parent = base }) ∷ records.Turn (turn_record n a b) ∷ [] → news ≡ first ++ map records.Piece (pieces_for c.next_version ks) → counters ≡ versioned c m work
      → new ≡ rebased_on base b.log_length a → front ≡ [] → dropped ≡ ids_with (is_sought (MarksIn n)) rs → AreWritten rs front counters new id dropped news changes → Costs rs (edits.Rebase n emptied) (applied changes rs)
  rebase_costs n emptied rules found one above newest begins behind counts rebased none gone w =
      let number = space_number (parts_of rs) n a found in
      let fronts = ap (λ (xs : List Change). length xs) none in
      let goes = ap (λ (xs : List ℕ). length xs) gone ∙ marks_many n rs in
      let comes = ap (λ (xs : List Record). length xs) behind in
      let begin = ap (λ (xs : List Record). length xs) begins in
      let both_parts = length-append first (map records.Piece its) in
      let pieces = length-map its records.Piece in
      let there = its_there number in
      few_more (is_head n) (length front + (length dropped + length news)) (2 + length (pieces_at (parts_of (applied changes rs)) (latest (parts_of (applied changes rs)) n)) + length (marks_at (parts_of rs) n)) rs (applied changes rs)
      (omega (arith, fronts, goes, comes, begin, both_parts, pieces, there)) (written_beside rs n id front counters new dropped news changes (ap (λ (r : Space). r.number) rebased ∙ number) w)
    where
      its : List PieceRecord
      its = pieces_for c.next_version ks

      y : Version
      y = version_on (parts_of rs) c a

      -- all versions are below it
      below : list_all (λ (v : Version). nat_lt v.number c.next_version) (parts_of rs).versions ≡ true
      below =
          let r = ruled (parts_of rs) rules in
          all_if (is_version (space_of (parts_of rs).spaces) (version_of (parts_of rs).versions) r.counters.next_version) (λ (v : Version). nat_lt v.number c.next_version)
          (λ v is. ap (λ (k : Counters). nat_lt v.number k.next_version) (sym (same_counters (parts_of rs) c r.counters one r.one)) ∙ (and_parts (nat_lt v.number r.counters.next_version) _ is).0) (parts_of rs).versions
          (ruled_versions (parts_of rs) r.counters.next_version r.versions).each

      its_there : a.number ≡ n → length its ≤ length (pieces_at (parts_of (applied changes rs)) (latest (parts_of (applied changes rs)) n))
      its_there number =
          let at = written_places rs front counters c a new id id dropped news changes one (home_there (parts_of rs) n a found) (ap (λ (r : Space). r.number) rebased) above w in
          let put = parts-put_on rs w.counters_id w.space_id id c (versioned c m work) a b y its dropped at (marks_are rs a.number dropped w.sorted (gone ∙ ap (λ k. ids_with (is_sought (MarksIn k)) rs) (sym number))).gone in
          let batch = rebases_as rs m work base id a b new c counters front changes ks dropped first news newest
          (begins ∙ ap (λ k. records.Version (record { number = c.next_version; space = k; parent = base }) ∷ records.Turn (turn_record k a b) ∷ []) (sym number)) behind counts rebased none w in
          let is : parts_of (applied changes rs) ≡ put_on (parts_of rs) (versioned c m work) put.front a put.back b y its = ap (λ (cs : List Change). parts_of (applied cs rs)) batch ∙ put.is in
          subst (λ (p : Parts). length its ≤ length (pieces_at p (latest p n))) (sym is)
          (subst (λ v. length its ≤ length (filter (λ (x : PieceRecord). x.version == v) ((parts_of rs).pieces ++ its))) (sym (newest_new (parts_of rs).versions y n number below))
          (behind_others c.next_version (parts_of rs).pieces its (all_its c.next_version ks)))
