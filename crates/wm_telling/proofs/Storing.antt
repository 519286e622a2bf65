-- What records tell of a cell is what a piece says that covers it.
use Rattle.std.proofs.Common.{◌≡◌, ℕ, suc, ◌==◌, Bool, true, false, if◌then◌else◌, List, [], ◌∷◌, slice_get, Option, Some, None, is_some, refl, ◌∙◌}
use Rattle.std.proofs.lemmas.Bool.{and_parts}
use Rattle.std.proofs.lemmas.Option.{same_Some}
use Rattle.std.specs.Bool.{then_some}
use Rattle.std.specs.Option.{option_or}
use Rattle.wm_graph.specs.Parts.{Parts}
use Rattle.wm_period.specs.Pieces.{Held}
use Rattle.wm_spec.specs.Lists.{Cell}
use Rattle.wm_spec.specs.declared.record.piece.PieceRecord.{PieceRecord}
use Rattle.wm_spec.specs.declared.record.space.Space.{Space}
use Rattle.wm_state.specs.Standing.{covers_at, held_by, in_cells, latest, newest_first, seen, seen_at, stored_at}
use Rattle.wm_state.proofs.Owning.{own-seen}
use Rattle.wm_telling.specs.Telling.{gained_held, is_pending, own_held}

-- one of the pieces covers the cell and says what is held there
pub record IsStored (pieces : List PieceRecord) (c : Cell) (h : Held) : Type 0 where
  pub piece : PieceRecord
  pub place : ℕ
  pub there : slice_get pieces place ≡ Some piece
  pub covers : in_cells piece.cells c ≡ true
  pub says : held_by piece ≡ h

-- so it is wherever a function of the cell gives something
abbrev pub Stores : Parts → (Cell → Option Held) → Type 0
Stores p f = (c : Cell) (h : Held) → f c ≡ Some h → IsStored p.pieces c h

stored_there : (pieces : List PieceRecord) (version : ℕ) (c : Cell) (h : Held) → stored_at pieces version c ≡ Some h → IsStored pieces c h
stored_there [] version c h e = absurd (cc)
stored_there (x ∷ xs) version c h e = by_test (covers_at x version c) refl (stored_there xs version c h) e
  where
    behind : IsStored xs c h → IsStored (x ∷ xs) c h
    behind s = record { piece = s.piece; place = suc s.place; there = s.there; covers = s.covers; says = s.says }

    by_test : (b : Bool) → covers_at x version c ≡ b → (stored_at xs version c ≡ Some h → IsStored xs c h) → option_or (then_some b (held_by x)) (stored_at xs version c) ≡ Some h → IsStored (x ∷ xs) c h
    by_test true is rest k = record { piece = x; place = 0; there = refl; covers = (and_parts (x.version == version) (in_cells x.cells c) is).1; says = same_Some (held_by x) h k }
    by_test false is rest k = behind (rest k)

pub seen_stored : (pieces : List PieceRecord) (nodes : _) (version : ℕ) (c : Cell) (h : Held) → seen_at pieces nodes version c ≡ Some h → IsStored pieces c h
seen_stored pieces [] version c h e = absurd (cc)
seen_stored pieces (x ∷ older) version c h e =
    by_test (x.number == version) (stored_at pieces version c) refl e (seen_stored pieces older x.parent c h) (seen_stored pieces older version c h)
  where
    by_test : (b : Bool) (o : Option Held) → stored_at pieces version c ≡ o → (if b then option_or o (seen_at pieces older x.parent c) else seen_at pieces older version c) ≡ Some h
        → (seen_at pieces older x.parent c ≡ Some h → IsStored pieces c h) → (seen_at pieces older version c ≡ Some h → IsStored pieces c h) → IsStored pieces c h
    by_test true (Some k) is given up along = stored_there pieces version c h (is ∙ given)
    by_test true None is given up along = up given
    by_test false o is given up along = along given

-- so it is of what a workspace has of its own
pub stores_own : (p : Parts) (a : Space) → Stores p (own_held p a)
stores_own p a c h e =
    seen_stored p.pieces (newest_first p.versions) (latest p a.number) c h (own-seen p.pieces (newest_first p.versions) a.base_version (latest p a.number) c h e)

-- and of what it gains of its parent
pub stores_gained : (p : Parts) (a b : Space) → Stores p (gained_held p a b)
stores_gained p a b c h e = by_tests (is_some (own_held p a c)) (is_pending p a b c) e
  where
    by_tests : (own pending : Bool) → (if own then None else (if pending then seen p (latest p b.number) c else None)) ≡ Some h → IsStored p.pieces c h
    by_tests true pending given = absurd (cc)
    by_tests false true given = seen_stored p.pieces (newest_first p.versions) (latest p b.number) c h given
    by_tests false false given = absurd (cc)
