-- What versions hold once one of them, under which none stands, has more pieces.
use Rattle.std.proofs.Common.{◌≡◌, ℕ, Bool, true, false, cond, List, [], ◌∷◌, Option, None, refl, sym, ap, ◌∙◌, ◌==◌}
use Rattle.std.specs.Option.{option_or}
use Rattle.wm_base.proofs.Plain.{option_or_assoc}
use Rattle.wm_period.specs.Pieces.{Held}
use Rattle.wm_spec.specs.Lists.{Cell}
use Rattle.wm_spec.specs.declared.record.piece.PieceRecord.{PieceRecord}
use Rattle.wm_tree.specs.declared.version.Version.{Version as Node}
use Rattle.wm_state.specs.Standing.{stored_at, seen_at, own_at}
use Rattle.wm_state.specs.Effects.{IsLeaf, is_there}

-- every version but this one has at the cell what it had
abbrev pub SameAway : ℕ → List PieceRecord → List PieceRecord → Cell → Type 0
SameAway version old new c = (v : ℕ) → (v == version) ≡ false → stored_at new v c ≡ stored_at old v c

-- a version that is not the changed one sees what it saw
pub seen-away : (version : ℕ) (old new : List PieceRecord) (c : Cell) → SameAway version old new c → (nodes : List Node) → IsLeaf version nodes → (v : ℕ) → (v == version) ≡ false
    → seen_at new nodes v c ≡ seen_at old nodes v c
seen-away version old new c same [] leaf v other = refl
seen-away version old new c same (x ∷ older) leaf v other =
    by_test (x.number == v) (seen-away version old new c same older leaf.1 x.parent leaf.0) (seen-away version old new c same older leaf.1 v other)
  where
    by_test : (b : Bool) → seen_at new older x.parent c ≡ seen_at old older x.parent c → seen_at new older v c ≡ seen_at old older v c
        → cond b (option_or (stored_at new v c) (seen_at new older x.parent c)) (seen_at new older v c)
        ≡ cond b (option_or (stored_at old v c) (seen_at old older x.parent c)) (seen_at old older v c)
    by_test true up along = rw (same v other, up) refl
    by_test false up along = along

-- the changed version sees what it has gained over what it saw
pub seen-here : (version : ℕ) (old new : List PieceRecord) (c : Cell) (gain : Option Held) → SameAway version old new c → stored_at new version c ≡ option_or gain (stored_at old version c)
    → (nodes : List Node) → IsLeaf version nodes → is_there version nodes ≡ true → seen_at new nodes version c ≡ option_or gain (seen_at old nodes version c)
seen-here version old new c gain same gained [] leaf there = cc
seen-here version old new c gain same gained (x ∷ older) leaf there =
    by_test (x.number == version) refl (seen-away version old new c same older leaf.1 x.parent leaf.0) (λ below. seen-here version old new c gain same gained older leaf.1 below)
  where
    by_test : (b : Bool) → (x.number == version) ≡ b → seen_at new older x.parent c ≡ seen_at old older x.parent c
        → (is_there version older ≡ true → seen_at new older version c ≡ option_or gain (seen_at old older version c))
        → seen_at new (x ∷ older) version c ≡ option_or gain (seen_at old (x ∷ older) version c)
    by_test true e up along = rw (e, gained, up) (option_or_assoc gain (stored_at old version c) (seen_at old older x.parent c))
    by_test false e up along = rw e (along (sym (ap (λ b. cond b true (is_there version older)) e) ∙ there))

-- the same of what stands above a base
pub own-away : (version : ℕ) (old new : List PieceRecord) (c : Cell) → SameAway version old new c → (base : ℕ) (nodes : List Node) → IsLeaf version nodes → (v : ℕ) → (v == version) ≡ false
    → own_at new nodes base v c ≡ own_at old nodes base v c
own-away version old new c same base [] leaf v other = refl
own-away version old new c same base (x ∷ older) leaf v other =
    by_test (v == base) (x.number == v) (own-away version old new c same base older leaf.1 x.parent leaf.0) (own-away version old new c same base older leaf.1 v other)
  where
    nothing : Option Held
    nothing = None

    by_test : (a b : Bool) → own_at new older base x.parent c ≡ own_at old older base x.parent c → own_at new older base v c ≡ own_at old older base v c
        → cond a nothing (cond b (option_or (stored_at new v c) (own_at new older base x.parent c)) (own_at new older base v c))
        ≡ cond a nothing (cond b (option_or (stored_at old v c) (own_at old older base x.parent c)) (own_at old older base v c))
    by_test true b up along = refl
    by_test false true up along = rw (same v other, up) refl
    by_test false false up along = along

pub own-here : (version : ℕ) (old new : List PieceRecord) (c : Cell) (gain : Option Held) → SameAway version old new c → stored_at new version c ≡ option_or gain (stored_at old version c)
    → (base : ℕ) → (version == base) ≡ false → (nodes : List Node) → IsLeaf version nodes → is_there version nodes ≡ true
    → own_at new nodes base version c ≡ option_or gain (own_at old nodes base version c)
own-here version old new c gain same gained base above [] leaf there = cc
own-here version old new c gain same gained base above (x ∷ older) leaf there =
    by_test (x.number == version) refl (own-away version old new c same base older leaf.1 x.parent leaf.0) (λ below. own-here version old new c gain same gained base above older leaf.1 below)
  where
    by_test : (b : Bool) → (x.number == version) ≡ b → own_at new older base x.parent c ≡ own_at old older base x.parent c
        → (is_there version older ≡ true → own_at new older base version c ≡ option_or gain (own_at old older base version c))
        → own_at new (x ∷ older) base version c ≡ option_or gain (own_at old (x ∷ older) base version c)
    by_test true e up along = rw (above, e, gained, up) (option_or_assoc gain (stored_at old version c) (own_at old older base x.parent c))
    by_test false e up along = rw (above, e) (along (sym (ap (λ b. cond b true (is_there version older)) e) ∙ there))
