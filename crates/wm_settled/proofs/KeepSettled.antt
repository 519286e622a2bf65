-- The rules hold of the records with marks in the place of some: no stamp is given, and all else is as it was but for counters.
use Rattle.std.proofs.Common.{◌≡◌, ℕ, ◌≤◌, ◌==◌, nat_le, nat_lt, Bool, true, false, List, [], ◌∷◌, ◌++◌, map, Some, refl, ap, ◌∙◌}
use Rattle.std.proofs.lemmas.Bool.{eqb-true, and_from, and_parts, le-leb}
use Rattle.std.specs.List.{filter, list_all}
use Rattle.std.specs.Option.{option_map_or}
use Rattle.wm_graph.specs.Parts.{Parts, space_of, table_of}
use Rattle.wm_graph.specs.Rules.{are_cells, are_counters, are_locks, are_pieces, are_rows, are_savepoints, are_versions, are_hists, collide, differ, is_given, is_trace, keep_rules, meet}
use Rattle.wm_spec.specs.declared.record.counters.Counters.{Counters}
use Rattle.wm_spec.specs.declared.record.piece.PieceRecord.{PieceRecord}
use Rattle.wm_spec.specs.declared.record.space.Space.{Space}
use Rattle.wm_spec.specs.declared.record.trace.Trace.{Trace}
use Rattle.wm_state.specs.Drafts.{cells_in, mark_piece}
use Rattle.wm_state.specs.Drawing.{AreDrawn, PassesParts, touched as met_by}
use Rattle.wm_state.specs.Touching.{AreMarked, drawn_all, is_unmet, trace_of}
use Rattle.wm_state.specs.declared.edit.NewMark.{NewMark}
use Rattle.wm_state.proofs.Apart.{Ruled, keeps_all, ruled}
use Rattle.wm_state.proofs.Growing.{same_counters}
use Rattle.wm_state.proofs.Keeping.{KeepSpaces-same, KeepTables-same, KeepVersions-same, are_savepoints-kept}
use Rattle.wm_state.proofs.KeepingTurns.{are_locks-kept}
use Rattle.wm_state.proofs.Named.{ruled_savepoints}
use Rattle.wm_written.proofs.DrawnWell.{cells-parts}
use Rattle.wm_written.proofs.TouchesKept.{apart-view, marked-pass}
use Rattle.wm_written.proofs.Touching.{beside-apart, is_plain, view-apart, view-marked, view-other}
use Rattle.wm_settled.specs.Settling.{AreNewest}
use Rattle.wm_settled.proofs.Saying.{news_plain}

-- ---- what is asked

-- what is asked of new marks in a workspace that is there
pub record MaySettle (p : Parts) (old new : Counters) (a : Space) (ms : List NewMark) : Type 0 where
  pub one : p.counters ≡ old ∷ []
  pub counters : are_counters new ≡ true
  pub stamps : new.next_stamp ≡ old.next_stamp
  pub versions : new.next_version ≡ old.next_version
  pub work : old.work ≤ new.work
  pub space : space_of p.spaces a.number ≡ Some a
  pub cells : list_all (λ (m : NewMark). are_cells (table_of p.tables) (cells_in m)) ms ≡ true

-- the marks then
abbrev pub marks_then : Parts → Space → List PieceRecord → List PieceRecord → List Trace
marks_then p a news drawn = filter (is_unmet a.number news) p.marks ++ map (trace_of a.number) drawn

-- and the records
abbrev pub settled_parts : Parts → Counters → Space → List PieceRecord → List PieceRecord → Parts
settled_parts p new a news drawn = record p { counters = new ∷ []; marks = marks_then p a news drawn }

module _ (p : Parts) (old new : Counters) (a : Space) (place : ℕ) (ms : List NewMark) (news drawn : List PieceRecord) (rules : keep_rules p ≡ true) (may : MaySettle p old new a ms) (given : nat_lt place a.next_place ≡ true)
    (newest : AreNewest a.number place ms p.marks news) (are : AreDrawn news (met_by news (drawn_all a.number p.marks)) drawn) where
  abbrev q : Parts
  q = settled_parts p new a news drawn

  rule : Ruled p
  rule = ruled p rules

  pub marked : AreMarked a.number news p.marks q.marks
  marked = record { drawn = drawn; are = are; is = refl }

  -- the marks of before
  pub marks_before : (differ meet p.marks ≡ true) × (list_all (is_trace (table_of p.tables) (space_of p.spaces)) p.marks ≡ true)
  marks_before = and_parts (differ meet p.marks) (list_all (is_trace (table_of p.tables) (space_of p.spaces)) p.marks) rule.marks

  plain : list_all is_plain news ≡ true
  plain = news_plain a.number place ms p.marks news newest

  -- ---- no two marks meet

  apart : differ meet q.marks ≡ true
  unfolding marked
  apart = apart-view q.marks (λ k. by_space k (k == a.number) refl)
    where
      by_space : (k : ℕ) (b : Bool) → (k == a.number) ≡ b → differ collide (drawn_all k q.marks) ≡ true
      by_space k true is =
          ap (λ i. differ collide (drawn_all i q.marks)) (eqb-true k a.number is)
          ∙ ap (differ collide) (view-marked a.number news p.marks q.marks plain marked)
          ∙ beside-apart news (drawn_all a.number p.marks) drawn (view-apart a.number p.marks marks_before.0) are
      by_space k false other = ap (differ collide) (view-other k a.number news p.marks q.marks other marked) ∙ view-apart k p.marks marks_before.0

  -- ---- each is in order

  well : list_all (is_trace (table_of p.tables) (space_of p.spaces)) q.marks ≡ true
  well =
      marked-pass a.number news p.marks q.marks (is_trace (table_of p.tables) (space_of p.spaces)) parts marks_before.1
      (newest.pass (λ x. is_trace (table_of p.tables) (space_of p.spaces) (trace_of a.number x)) parts (each ms may.cells)) marked
    where
      parts : PassesParts (λ x. is_trace (table_of p.tables) (space_of p.spaces) (trace_of a.number x))
      parts x from till is lower some upper =
          let h = and_parts (are_cells (table_of p.tables) x.cells) (is_given (space_of p.spaces) a.number x.version) is in
          and_from (are_cells (table_of p.tables) (record x.cells { from = from; till = till })) (is_given (space_of p.spaces) a.number x.version) (cells-parts (table_of p.tables) x.cells from till h.0 some upper) h.1

      each : (xs : List NewMark) → list_all (λ (m : NewMark). are_cells (table_of p.tables) (cells_in m)) xs ≡ true
          → list_all (λ (x : PieceRecord). is_trace (table_of p.tables) (space_of p.spaces) (trace_of a.number x)) (map (mark_piece place) xs) ≡ true
      each [] all = refl
      each (m ∷ xs) all =
          let h = and_parts (are_cells (table_of p.tables) (cells_in m)) (list_all (λ (k : NewMark). are_cells (table_of p.tables) (cells_in k)) xs) all in
          and_from (is_trace (table_of p.tables) (space_of p.spaces) (trace_of a.number (mark_piece place m))) _
          (and_from (are_cells (table_of p.tables) (cells_in m)) (is_given (space_of p.spaces) a.number place) h.0 (ap (λ o. option_map_or (λ (s : Space). nat_lt place s.next_place) o false) may.space ∙ given)) (each xs h.1)

  -- ---- all rules

  pub keep-settled : keep_rules q ≡ true
  keep-settled = keeps_all q new refl may.counters
      rule.tables
      rule.spaces
      (ap (are_versions p) may.versions ∙ ap (λ (c : Counters). are_versions p c.next_version) same ∙ rule.versions)
      (are_savepoints-kept p q old.work new.work worked (KeepSpaces-same p q refl) (KeepVersions-same p q refl) refl (ruled_savepoints p old.work savepoints).few savepoints)
      (ap (are_rows p) may.stamps ∙ ap (λ (c : Counters). are_rows p c.next_stamp) same ∙ rule.rows)
      (ap (are_pieces p) may.stamps ∙ ap (λ (c : Counters). are_pieces p c.next_stamp) same ∙ rule.pieces)
      (ap (are_hists p) may.stamps ∙ ap (λ (c : Counters). are_hists p c.next_stamp) same ∙ rule.hists)
      rule.touches
      (are_locks-kept p q old.work new.work worked (KeepTables-same p q refl) (KeepSpaces-same p q refl) refl (ap (λ (c : Counters). are_locks p c.work) same ∙ rule.locks))
      (and_from (differ meet q.marks) (list_all (is_trace (table_of p.tables) (space_of p.spaces)) q.marks) apart well)
      rule.turns
    where
      same : old ≡ rule.counters
      same = same_counters p rule.counters old rule.one may.one

      worked : nat_le old.work new.work ≡ true
      worked = le-leb old.work new.work may.work

      savepoints : are_savepoints p old.work ≡ true
      savepoints = ap (λ (c : Counters). are_savepoints p c.work) same ∙ rule.savepoints
