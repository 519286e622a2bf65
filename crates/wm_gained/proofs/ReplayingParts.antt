-- What entries that were made before make of the records in a version more: the rules, and the effect.
use Rattle.std.proofs.Common.{◌≡◌, ℕ, ◌+◌, ◌^◌, nat_le, nat_lt, Bool, true, not, List, [], ◌∷◌, ◌++◌, is_some, length, append-nil, refl, sym, ap, subst, ◌∙◌, le_refl}
use Rattle.std.proofs.lemmas.Bool.{eq-eqb, and_parts}
use Rattle.std.specs.List.{All, filter, list_all, slice_index_or}
use Rattle.wm_base.proofs.Plain.{nat_le-itself}
use Rattle.wm_graph.specs.Parts.{Parts, row_of, table_of, version_of}
use Rattle.wm_graph.specs.Rules.{are_pieces, collide, differ, is_piece, keep_rules}
use Rattle.wm_spec.specs.Lists.{Entry}
use Rattle.wm_spec.specs.declared.record.counters.Counters.{Counters}
use Rattle.wm_spec.specs.declared.record.piece.PieceRecord.{PieceRecord}
use Rattle.wm_spec.specs.declared.record.space.Space.{Space}
use Rattle.wm_spec.specs.declared.record.version.Version.{Version}
use Rattle.wm_state.specs.Drawing.{end_with, is_clear}
use Rattle.wm_state.specs.Effects.{IsFree, IsLeaf}
use Rattle.wm_state.specs.Entries.{pieces_of}
use Rattle.wm_state.specs.Standing.{HasRow, latest, newest_first}
use Rattle.wm_state.specs.Writes.{AreAllLaid, WroteAll}
use Rattle.wm_state.proofs.Apart.{apart_of, newest_record, ruled}
use Rattle.wm_state.proofs.DrawingEnds.{ends-beside}
use Rattle.wm_state.proofs.Growing.{MayFork, forked, forked_of, keep-forked, same_counters}
use Rattle.wm_state.proofs.Tests.{all_filter}
use Rattle.wm_written.proofs.DrawingTouched.{kept-apart}
use Rattle.wm_written.proofs.DrawnWell.{piece-parts}
use Rattle.wm_written.proofs.KeepWritten.{pieces_kept}
use Rattle.wm_written.proofs.LayingAll.{laid-drawn}
use Rattle.wm_written.proofs.Leaves.{free_new, leaf_new}
use Rattle.wm_written.proofs.PlannedWritten.{AreBoth}
use Rattle.wm_gained.specs.Replaying.{Replayed}
use Rattle.wm_gained.proofs.GainingBatch.{copied_row}
use Rattle.wm_gained.proofs.KeepLogged.{all_logged, keep-logged}
use Rattle.wm_gained.proofs.LoggedOld.{AreTraced, MayLog, coming, may_come, space_longer, space_still, spaces_count, touched_then}
use Rattle.wm_gained.proofs.ReplayingOld.{pieces_old, rows_told}
use Rattle.wm_state.specs.Drafts.{AreOld, IsCopied}

-- what is asked of the entries and of the version
pub record MayReplay (p : Parts) (old new : Counters) (a : Space) (v : Version) (es : List Entry) : Type 0 where
  pub fork : MayFork p old new a a.number v
  pub room : nat_le (a.log_length + length es) (2 ^ 62) ≡ true
  pub made : AreOld p old es
  pub copied : All (IsCopied p) es

-- the pieces then
abbrev pub pieces_then : Parts → ℕ → List Entry → List PieceRecord → List PieceRecord
pieces_then p version es drawn = filter (is_clear (pieces_of version es)) p.pieces ++ drawn

-- the records with the version, and with what comes
abbrev pub replayed_parts : Parts → Counters → Version → List Space → Space → List Space → ℕ → List Entry → List PieceRecord → List PieceRecord → Parts
replayed_parts p new v front a back place es drawn traced = all_logged (forked p new v) new front a back (length es) (coming (forked p new v) a place es traced (pieces_then p v.number es drawn))

module _ (p : Parts) (old new : Counters) (a : Space) (v : Version) (place : ℕ) (es : List Entry) (drawn traced : List PieceRecord) (front back : List Space) (rules : keep_rules p ≡ true) (may : MayReplay p old new a v es)
    (are : AreBoth p v.number a place es drawn traced) (spaces : p.spaces ≡ front ++ a ∷ back) where
  -- the records between
  abbrev mid : Parts
  mid = forked p new v

  ruled_mid : keep_rules mid ≡ true
  ruled_mid = keep-forked p old new a a.number v may.fork rules

  newest : latest mid a.number ≡ v.number
  newest = rw ((forked_of p old new a a.number v may.fork rules).versions, eq-eqb a.number a.number refl) refl

  may_log : MayLog mid new new a es
  may_log = record {
    one = refl;
    counters = may.fork.counters;
    stamps = refl;
    versions = refl;
    work = le_refl new.work;
    space = may.fork.there;
    room = may.room;
    made = record { stamps = ap (λ n. list_all (λ (e : Entry). nat_lt e.stamp n) es) may.fork.stamps ∙ may.made.stamps; real = may.made.real; well = may.made.well; users = may.made.users };
    copied = λ k d lt history. may.copied k d lt;
  }

  traced_mid : AreTraced mid a place es traced
  traced_mid = record { last = are.last; marks = are.marks }

  -- ---- pieces

  pieces_mid : are_pieces mid new.next_stamp ≡ true
  pieces_mid = ap (λ (c : Counters). are_pieces mid c.next_stamp) (same_counters mid (ruled mid ruled_mid).counters new (ruled mid ruled_mid).one refl) ∙ (ruled mid ruled_mid).pieces

  abbrev well : PieceRecord → Bool
  well = is_piece (table_of mid.tables) (version_of mid.versions) (row_of mid.rows) new.next_stamp

  pieces_apart : (differ collide mid.pieces ≡ true) × (list_all well mid.pieces ≡ true)
  pieces_apart = and_parts (differ collide mid.pieces) (list_all well mid.pieces) pieces_mid

  drawn_well : list_all well drawn ≡ true
  drawn_well =
      are.pieces.pass well (piece-parts (table_of mid.tables) (version_of mid.versions) (row_of mid.rows) new.next_stamp)
      (all_filter well (λ y. not (is_clear (pieces_of v.number es) y)) p.pieces pieces_apart.1)
      (pieces_old mid new v.number es may_log.made may.copied (ap (λ k. is_some (version_of mid.versions k)) (sym newest) ∙ ap is_some (newest_record mid ruled_mid a.number a may.fork.there).1))

  pieces_keep : are_pieces (record mid { pieces = pieces_then p v.number es drawn }) new.next_stamp ≡ true
  pieces_keep =
      pieces_kept mid (record mid { pieces = pieces_then p v.number es drawn }) new.next_stamp new.next_stamp [] (is_clear (pieces_of v.number es)) drawn (nat_le-itself new.next_stamp) refl refl (sym (append-nil p.rows)) refl
      (ap (λ rs. list_all (is_piece (table_of mid.tables) (version_of mid.versions) (row_of rs) new.next_stamp) drawn) (append-nil p.rows) ∙ drawn_well)
      are.pieces.differ (kept-apart (pieces_of v.number es) p.pieces drawn pieces_apart.0 are.pieces) pieces_mid

  -- ---- all of it

  -- the rules are kept
  pub keep-replayed : keep_rules (replayed_parts p new v front a back place es drawn traced) ≡ true
  keep-replayed =
      keep-logged mid new new front a back (length es) (coming mid a place es traced (pieces_then p v.number es drawn))
      (may_come mid new new a place es traced front back ruled_mid may_log traced_mid spaces (pieces_then p v.number es drawn) pieces_keep) ruled_mid

  wrote_so : WroteAll mid (replayed_parts p new v front a back place es drawn traced) a.number es
  wrote_so = record {
    leaf = subst (λ k. IsLeaf k (newest_first mid.versions)) (sym newest) (leaf_new p old new a a.number v may.fork rules);
    free = subst (λ k. IsFree mid k) (sym newest) (free_new p old new a a.number v may.fork rules);
    apart = apart_of mid ruled_mid a.number a may.fork.there;
    count = spaces_count mid new new a place es traced front back ruled_mid may_log traced_mid spaces;
    old = a;
    old_is = may.fork.there;
    here = space_longer mid new new a place es traced front back ruled_mid may_log traced_mid spaces;
    elsewhere = space_still mid new new a place es traced front back ruled_mid may_log traced_mid spaces;
    pieces = subst (λ k. AreAllLaid k es p.pieces (pieces_then p v.number es drawn)) (sym newest) (laid-drawn v.number es p.pieces drawn pieces_apart.0 are.pieces);
    ends = subst (λ k. end_with (p.pieces ++ pieces_of k es) (pieces_then p v.number es drawn) ≡ true) (sym newest) (ends-beside (is_clear (pieces_of v.number es)) p.pieces (pieces_of v.number es) drawn are.pieces.ends);
    rows_kept = λ stamp r found. found;
    rows_new = rows_told mid es rows_there;
    rows_each = rows_there;
    real = may.made.real;
    place = place;
    last = are.last;
    touches = touched_then mid new new a place es traced front back ruled_mid may_log traced_mid spaces;
    hists = refl;
    rest = refl;
  }
    where
      rows_there : All (HasRow mid) es
      rows_there k d lt = copied_row mid (slice_index_or es k d) (may.copied k d lt)

  -- and the entries are in a version more
  pub replayed_so : Replayed p (replayed_parts p new v front a back place es drawn traced) a.number v.number es
  replayed_so = record { between = mid; forked = forked_of p old new a a.number v may.fork rules; rules = ruled_mid; wrote = wrote_so }
