-- Entries that list what is held go by table and key, and no two of them share a cell.
use Rattle.std.proofs.Common.{◌≡◌, ℕ, true, List, [], ◌∷◌, Option, refl, ap, ◌∙◌}
use Rattle.wm_graph.specs.Parts.{Parts}
use Rattle.wm_graph.specs.Rules.{collide, differ}
use Rattle.wm_net.specs.Listed.{AreBlocks, Block}
use Rattle.wm_period.specs.Pieces.{Held}
use Rattle.wm_spec.specs.Lists.{Cell, Entry}
use Rattle.wm_state.specs.Drafts.{are_in_order}
use Rattle.wm_state.specs.Entries.{pieces_of}
use Rattle.wm_state.proofs.InOrder.{AreOrdered, IsOver, blocks_apart, blocks_sorted}
use Rattle.wm_telling.specs.Telling.{IsHeldListing, replayed_by, same_held}

are_ordered : (f : Cell → Option Held) (bs : List (Block Held)) → AreBlocks same_held f bs → AreOrdered bs
are_ordered f [] each = tt
are_ordered f (b ∷ bs) each = (each.0.ordered, are_ordered f bs each.1)

module _ (p : Parts) (moment : ℕ) (user : List ℕ) where
  replayed_over : IsOver (replayed_by p moment user)
  replayed_over = record { group = λ g s. refl; from = λ g s. refl; till = λ g s. refl }

  -- such entries go by table and key
  pub listed_sorted : (f : Cell → Option Held) (es : List Entry) → IsHeldListing p moment user f es → are_in_order es ≡ true
  listed_sorted f es l = ap are_in_order l.is ∙ blocks_sorted (replayed_by p moment user) replayed_over l.blocks l.ascend

  -- no two of such entries share a cell
  pub listed_apart : (f : Cell → Option Held) (es : List Entry) → IsHeldListing p moment user f es → differ collide (pieces_of 0 es) ≡ true
  listed_apart f es l =
      ap (λ (xs : List Entry). differ collide (pieces_of 0 xs)) l.is ∙ blocks_apart (replayed_by p moment user) replayed_over l.blocks l.ascend (are_ordered f l.blocks l.each)
