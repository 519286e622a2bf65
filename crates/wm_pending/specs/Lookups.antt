-- The own pieces of one key among those of all.
use Rattle.std.specs.Prelude.{ℕ, ◌≡◌, ◌<◌, if◌then◌else◌, List, [], ◌∷◌, length}
use Rattle.std.specs.List.{HoldsAt}
use Rattle.wm_net.specs.Groups.{Group, same_group}
use Rattle.wm_period.specs.declared.piece.Piece.{Piece}
use Rattle.wm_pending.specs.declared.own.OwnKey.{OwnKey}

-- the key of own pieces
abbrev pub group_own : OwnKey → Group
group_own k = record { table = k.table; key = k.key }

-- the pieces of a key, none where it has none
abbrev pub pieces_on : Group → List OwnKey → List Piece
pieces_on g [] = []
pieces_on g (k ∷ ks) = if same_group (group_own k) g then k.pieces else pieces_on g ks

-- a key stands at a place
abbrev pub StandsAt : List OwnKey → Group → ℕ → Type 0
StandsAt ks g i = (i < length ks) × HoldsAt (λ k. group_own k ≡ g) ks i
