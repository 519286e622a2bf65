-- Marks and entries that decisions come to go by table and key, and no two of them share a cell.
use Rattle.std.proofs.Common.{◌≡◌, ℕ, ◌||◌, Bool, true, List, [], ◌∷◌, ◌++◌, map, refl, ap, ◌∙◌}
use Rattle.std.proofs.lemmas.List.{map-append}
use Rattle.std.specs.List.{flat_map, list_any}
use Rattle.wm_graph.specs.Rules.{collide, differ}
use Rattle.wm_net.specs.Conflicts.{as_entry}
use Rattle.wm_net.specs.Groups.{Group, groups}
use Rattle.wm_net.specs.Listed.{Stretch, listed, listing, stretches_of}
use Rattle.wm_spec.specs.Lists.{Entry}
use Rattle.wm_state.specs.Drafts.{are_in_order, mark_entry, mark_piece}
use Rattle.wm_state.specs.Editing.{settled_by}
use Rattle.wm_state.specs.Entries.{piece_of, pieces_of}
use Rattle.wm_state.specs.State.{Decision}
use Rattle.wm_state.specs.declared.edit.NewMark.{NewMark}
use Rattle.wm_state.proofs.InOrder.{IsOver, listing_apart, listing_sorted}
use Rattle.wm_decided.specs.Netted.{cells_decided, chosen_at, copied_at, ends_decided, entries_decided, entry_copied, mark_for, marks_of, same_choice, same_copy}

-- ---- entries

copied_over : (moment : ℕ) (user : List ℕ) → IsOver (entry_copied moment user)
copied_over moment user = record { group = λ g s. refl; from = λ g s. refl; till = λ g s. refl }

pub entries_sorted : (moment : ℕ) (user : List ℕ) (ds : List Decision) → are_in_order (entries_decided moment user ds) ≡ true
entries_sorted moment user ds = listing_sorted (entry_copied moment user) (copied_over moment user) same_copy (flat_map ends_decided ds) (copied_at ds)

pub entries_apart : (moment : ℕ) (user : List ℕ) (ds : List Decision) → differ collide (pieces_of 0 (entries_decided moment user ds)) ≡ true
entries_apart moment user ds = listing_apart (entry_copied moment user) (copied_over moment user) same_copy (flat_map ends_decided ds) (copied_at ds)

-- ---- marks

map_listed : {A B C : Type 0} (act : B → C) (entry : Group → Stretch A → B) (F : Group → List (Stretch A)) (gs : List Group) → map act (listed entry F gs) ≡ listed (λ g s. act (entry g s)) F gs
map_listed act entry F [] = refl
map_listed {A = A} {C = C} act entry F (g ∷ gs) =
    map-append act (map (entry g) (F g)) (listed entry F gs) ∙ rw (map_listed act entry F gs) (ap (λ (xs : List C). xs ++ listed (λ g s. act (entry g s)) F gs) (twice (F g)))
  where
    twice : (ss : List (Stretch A)) → map act (map (entry g) ss) ≡ map (λ s. act (entry g s)) ss
    twice [] = refl
    twice (s ∷ ss) = ap (λ (xs : List C). act (entry g s) ∷ xs) (twice ss)

-- a mark as an entry
abbrev entry_marked : Group → Stretch (ℕ × Decision) → Entry
entry_marked g s = as_entry (mark_for 0 g s)

marked_over : IsOver entry_marked
marked_over = record { group = λ g s. refl; from = λ g s. refl; till = λ g s. refl }

module _ (ds : List Decision) (ms : List NewMark) (are : map (settled_by 0) ms ≡ marks_of 0 ds) where
  twice_mapped : (xs : List NewMark) → map mark_entry xs ≡ map as_entry (map (settled_by 0) xs)
  twice_mapped [] = refl
  twice_mapped (x ∷ xs) = ap (λ (es : List Entry). mark_entry x ∷ es) (twice_mapped xs)

  marks_listed : map mark_entry ms ≡ listing same_choice entry_marked (map cells_decided ds) (chosen_at ds)
  marks_listed = twice_mapped ms ∙ ap (map as_entry) are ∙ map_listed as_entry (mark_for 0) (stretches_of same_choice (map cells_decided ds) (chosen_at ds)) (groups (map cells_decided ds))

  pub marks_sorted : are_in_order (map mark_entry ms) ≡ true
  marks_sorted = ap are_in_order marks_listed ∙ listing_sorted entry_marked marked_over same_choice (map cells_decided ds) (chosen_at ds)

  -- marks as pieces collide where they do as entries
  any_alike : (m : NewMark) (xs : List NewMark) → list_any (collide (mark_piece 0 m)) (map (mark_piece 0) xs) ≡ list_any (collide (piece_of 0 (mark_entry m))) (pieces_of 0 (map mark_entry xs))
  any_alike m [] = refl
  any_alike m (x ∷ xs) = ap (λ (b : Bool). collide (mark_piece 0 m) (mark_piece 0 x) || b) (any_alike m xs)

  pieces_alike : (xs : List NewMark) → differ collide (map (mark_piece 0) xs) ≡ differ collide (pieces_of 0 (map mark_entry xs))
  pieces_alike [] = refl
  pieces_alike (x ∷ xs) = rw (any_alike x xs, pieces_alike xs) refl

  pub marks_apart : differ collide (map (mark_piece 0) ms) ≡ true
  marks_apart =
      pieces_alike ms ∙ ap (λ (es : List Entry). differ collide (pieces_of 0 es)) marks_listed
      ∙ listing_apart entry_marked marked_over same_choice (map cells_decided ds) (chosen_at ds)
