-- What the batches of a savepoint and of a birth change: a few records, and none but of what forks change.
use Rattle.std.proofs.Common.{◌≡◌, ℕ, ◌*◌, ◌≤◌, List, length, map, true, ap, arith}
use Rattle.std.proofs.lemmas.List.{length-map}
use Rattle.std.specs.List.{list_all}
use Rattle.wm_graph.specs.Parts.{Parts, parts_of}
use Rattle.wm_spec.specs.declared.record.batch.Change.{Change}
use Rattle.wm_spec.specs.declared.record.counters.Counters.{Counters}
use Rattle.wm_spec.specs.declared.record.savepoint.Savepoint.{Savepoint}
use Rattle.wm_spec.specs.declared.record.space.Space.{Space}
use Rattle.wm_spec.specs.declared.record.stored.Stored.{Stored}
use Rattle.wm_spec.specs.declared.record.turn.Turn.{Turn}
use Rattle.wm_spec.specs.declared.record.version.Version.{Version}
use Rattle.wm_state.specs.Batches.{savepoint_batch, birth_batch}
use Rattle.wm_state.specs.ById.{applied}
use Rattle.wm_state.specs.Drafts.{ChangesFew, DraftsBy, FewChanges, is_fork}
use Rattle.wm_state.specs.Effects.{marked}
use Rattle.wm_state.specs.declared.edit.Edit.{Edit}
use Rattle.wm_state.proofs.RowsStay.{away_outside, stays}
use Rattle.wm_state.proofs.Settled.{Places}
use Rattle.wm_forked.proofs.PlannedBirth.{MayBirth, parts-birth}
use Rattle.wm_forked.proofs.PlannedSaved.{parts-saved}

-- the parts with what forks change as it was
abbrev before_forks : Parts → Parts → Parts
before_forks p q = record q { counters = p.counters; spaces = p.spaces; versions = p.versions; savepoints = p.savepoints; turns = p.turns }

-- the batch that makes a savepoint
pub few_saved : (rs : List Stored) (counters_id space_id : ℕ) (old new : Counters) (a : Space) (place implicit id : ℕ) (x : Savepoint) → Places rs counters_id space_id id old a
    → FewChanges rs 6 (savepoint_batch counters_id new space_id (marked place implicit a) id x)
few_saved rs counters_id space_id old new a place implicit id x at = record {
  count = omega arith;
  rest = ap (before_forks (parts_of rs)) (parts-saved rs counters_id space_id old new a place implicit id x at.sorted at.counters at.one at.space at.under).is;
}

-- the batch by which a workspace is born
pub few_birth : (rs : List Stored) (counters_id space_id : ℕ) (old new : Counters) (a : Space) (place implicit id : ℕ) (x : Savepoint) (b r : Space) (v : Version) (u : Turn)
    → MayBirth rs counters_id space_id id old new a place implicit x b r v u → FewChanges rs 6 (birth_batch counters_id new space_id (marked place implicit a) id x r v u)
few_birth rs counters_id space_id old new a place implicit id x b r v u may = record {
  count = omega arith;
  rest = ap (before_forks (parts_of rs)) (parts-birth rs counters_id space_id id old new a place implicit x b r v u may).is;
}

-- ---- what is asked of few changes

-- where they are six at most, the records differ at six ids at most
pub changes_few : (rs : List Stored) (most : ℕ) (cs : List Change) → FewChanges rs most cs → most ≤ 6 → ChangesFew rs (applied cs rs)
changes_few rs most cs few le = record {
  ids = map (λ (c : Change). c.id) cs;
  few = as_many (length (map (λ (c : Change). c.id) cs)) (length cs) (length-map cs (λ (c : Change). c.id)) few.count;
  others = λ id e. stays cs rs id (away_outside cs id e);
  rest = few.rest;
}
  where
    as_many : (m n : ℕ) → m ≡ n → n ≤ most → m ≤ 6
    as_many m n same at_most = omega (arith, le, same, at_most)

-- so do those of savepoints and workspaces, where there is one edit at most
pub forks_few : (work : ℕ) (rs : List Stored) (m : ℕ) (es : List Edit) (cs : List Change) → DraftsBy work rs m es cs → list_all is_fork es ≡ true → length es ≤ 1 → ChangesFew rs (applied cs rs)
forks_few work rs m es cs drafts forks one = changes_few rs (6 * length es) cs (drafts.few forks) (omega (arith, one))
